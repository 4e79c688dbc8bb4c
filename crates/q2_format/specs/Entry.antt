-- The entries of the three kinds of tables: words of 64 bits whose bits are counted from the least.
use Rattle.std.specs.Prelude.{◌≡◌, ℕ, ◌+◌, ◌*◌, ◌/◌, ◌%◌, ◌^◌, ◌<◌, Bool, not, ◌==◌, ◌||◌, if◌then◌else◌, IsTrue, ⊤}
use Rattle.q2_format.specs.declared.entries.L2Entry.{L2Entry}
use Rattle.q2_format.specs.declared.entries.L2Entry.TheVariants.{Unallocated, Zero, Host, Compressed, Reserved}

-- the number in the `count` bits of a word from bit `first` on
abbrev pub bits_of : ℕ → ℕ → ℕ → ℕ
bits_of word first count = word / 2 ^ first % 2 ^ count

-- L1 and L2 entries have an offset in bits 9 to 55: of an L2 table, or of a host cluster
abbrev pub host_offset : ℕ → ℕ
host_offset word = bits_of word 9 47 * 512

-- refcount table entries have the offset of a block in bits 9 to 63
abbrev pub block_offset : ℕ → ℕ
block_offset word = bits_of word 9 55 * 512

-- bit 63: the refcount of what the entry names is exactly one
abbrev pub is_single : ℕ → Bool
is_single word = bits_of word 63 1 == 1

-- bit 62 of an L2 entry
abbrev pub is_compressed : ℕ → Bool
is_compressed word = bits_of word 62 1 == 1

-- bit 0 of an L2 entry
abbrev pub reads_as_zeros : ℕ → Bool
reads_as_zeros word = bits_of word 0 1 == 1

-- a reserved bit is set: 0 to 8 or 56 to 62 of an L1 entry
abbrev pub has_reserved_in_l1 : ℕ → Bool
has_reserved_in_l1 word = not (bits_of word 0 9 == 0) || not (bits_of word 56 7 == 0)

-- 1 to 8 or 56 to 61 of an L2 entry
abbrev pub has_reserved_in_l2 : ℕ → Bool
has_reserved_in_l2 word = not (bits_of word 1 8 == 0) || not (bits_of word 56 6 == 0)

-- 0 to 8 of a refcount table entry
abbrev pub has_reserved_in_refcount_table : ℕ → Bool
has_reserved_in_refcount_table word = not (bits_of word 0 9 == 0)

-- what an L2 entry says
unfoldable pub l2_entry : ℕ → L2Entry
l2_entry word =
    if is_compressed word then Compressed
    else (if has_reserved_in_l2 word then Reserved
    else (if reads_as_zeros word then Zero (host_offset word)
    else (if host_offset word == 0 then Unallocated
    else Host (host_offset word))))

-- Writing an L2 entry.

-- a host offset that an entry has room for: a multiple of 512 below 2 ^ 56
abbrev pub IsHostOffset : ℕ → Type 0
IsHostOffset host = (host % 512 ≡ 0) × (host < 2 ^ 56)

-- an entry that is written: one that isn't compressed and has no reserved bit
abbrev pub IsWritable : L2Entry → Type 0
IsWritable Unallocated = ⊤
IsWritable (Zero host) = IsHostOffset host
IsWritable (Host host) = IsHostOffset host × (0 < host)
IsWritable Compressed = ⊥
IsWritable Reserved = ⊥

-- only an entry with a host offset can say that its refcount is one
abbrev pub host_of : L2Entry → ℕ
host_of Unallocated = 0
host_of (Zero host) = host
host_of (Host host) = host
host_of Compressed = 0
host_of Reserved = 0

abbrev pub CanBeSingle : L2Entry → Bool → Type 0
CanBeSingle entry single = IsTrue single → 0 < host_of entry

abbrev pub zero_flag : L2Entry → ℕ
zero_flag Unallocated = 0
zero_flag (Zero host) = 1
zero_flag (Host host) = 0
zero_flag Compressed = 0
zero_flag Reserved = 0

-- the word of an entry: its host offset, bit 0 where it reads as zeros, and bit 63 where its refcount is one
abbrev pub l2_spelling : L2Entry → Bool → ℕ
l2_spelling entry single = host_of entry + zero_flag entry + (if single then 2 ^ 63 else 0)
