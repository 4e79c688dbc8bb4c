-- Whether there is room for what is written to a part of one guest cluster, by what is known of the image.
use Rattle.std.specs.Prelude.{ℕ, ◌/◌, ◌%◌, ◌≤◌, ◌==◌, ◌&&◌, ◌||◌, Bool, true, false, ⊤}
use Rattle.blk_base.specs.Pieces.{Extent, end_of}
use Rattle.q2_format.specs.declared.entries.L2Entry.{L2Entry}
use Rattle.q2_format.specs.declared.entries.L2Entry.TheVariants as entries
use Rattle.q2_image.specs.Image.{Known, cluster_size_in, entry_in}
use Rattle.q2_image.specs.Writing.{PutFits, ZeroFits, own_end}

-- the guest cluster in which a part lies
abbrev pub cluster_of : Known → Extent → ℕ
cluster_of image part = part.start / cluster_size_in image

-- the entry of that cluster
abbrev pub entry_for : Known → Extent → L2Entry
entry_for image part = entry_in image (cluster_of image part)

-- a part is written in place where its cluster is mapped, and else with its whole cluster
abbrev pub WriteFitsBy : L2Entry → Known → Extent → ℕ → Type 0
WriteFitsBy (entries.Host host) image part capacity = own_end image part ≤ capacity
WriteFitsBy entry image part capacity = PutFits image (cluster_of image part) capacity

abbrev pub WriteFits : Known → Extent → ℕ → Type 0
WriteFits image part capacity = WriteFitsBy (entry_for image part) image part capacity

-- a part that is a whole cluster, up to the disk's end
abbrev pub is_whole : Known → Extent → Bool
is_whole image part =
    part.start % cluster_size_in image == 0
    && (part.len == cluster_size_in image || end_of part == image.header.size)

-- of a cluster that reads as zeros no part is written
abbrev pub PartZerosFit : L2Entry → Known → Extent → ℕ → Type 0
PartZerosFit (entries.Zero host) image part capacity = ⊤
PartZerosFit entry image part capacity = WriteFitsBy entry image part capacity

-- zeros of a whole cluster are its entry alone
abbrev pub ZerosFitBy : Bool → Known → Extent → ℕ → Type 0
ZerosFitBy true image part capacity = ZeroFits image (cluster_of image part) capacity
ZerosFitBy false image part capacity = PartZerosFit (entry_for image part) image part capacity

abbrev pub ZerosFit : Known → Extent → ℕ → Type 0
ZerosFit image part capacity = ZerosFitBy (is_whole image part) image part capacity
