-- The room that a work needs of its history.
use Rattle.std.specs.Prelude.{◌≡◌, ℕ, ◌+◌, ◌*◌, ◌^◌, ◌<◌, List, [], ◌∷◌, length}
use Rattle.blk_base.specs.declared.memory.Room.{Room}
use Rattle.trace_codec.specs.Request.{pieces_of, read_bytes_of}
use Rattle.trace_codec.specs.declared.wish.Wish.{Wish}
use Rattle.trace_codec.specs.declared.wish.Wish.TheVariants.{Ask, Wait}

-- a request has an entry for each piece, and at most two more
abbrev pub entries_for : List Wish → ℕ
entries_for [] = 0
entries_for (Ask op ∷ wishes) = (pieces_of op + 2) + entries_for wishes
entries_for (Wait line ∷ wishes) = entries_for wishes

-- and shows what it reads
abbrev pub bytes_for : List Wish → ℕ
bytes_for [] = 0
bytes_for (Ask op ∷ wishes) = read_bytes_of op + bytes_for wishes
bytes_for (Wait line ∷ wishes) = bytes_for wishes

-- its pieces can be counted
abbrev pub HaveNumbers : List Wish → Type 0
HaveNumbers [] = Unit {0}
HaveNumbers (Ask op ∷ wishes) = (pieces_of op < 2 ^ 32) × HaveNumbers wishes
HaveNumbers (Wait line ∷ wishes) = HaveNumbers wishes

-- each guest has its requests, and an end
abbrev pub entries_for_all : List (List Wish) → ℕ
entries_for_all [] = 0
entries_for_all (wishes ∷ traces) = (entries_for wishes + 1) + entries_for_all traces

abbrev pub bytes_for_all : List (List Wish) → ℕ
bytes_for_all [] = 0
bytes_for_all (wishes ∷ traces) = bytes_for wishes + bytes_for_all traces

-- requests and their pieces can be counted
pub record CanCount (wishes : List Wish) : Type 0 where
  pub requests : length wishes + 1 < 2 ^ 32
  pub pieces : HaveNumbers wishes

abbrev pub AllCanCount : List (List Wish) → Type 0
AllCanCount [] = Unit {0}
AllCanCount (wishes ∷ traces) = CanCount wishes × AllCanCount traces

-- Each line of the script has four entries: its reply, and those of a job, which starts, gets ready and ends. Its end has one.
pub record IsRoomFor (lines : ℕ) (traces : List (List Wish)) (room : Room) : Type 0 where
  pub entries : room.entries ≡ (4 * lines + 1) + entries_for_all traces
  pub bytes : room.bytes ≡ bytes_for_all traces
  pub numbers : AllCanCount traces

-- it has the numbers of a room
pub record CanHaveRoom (lines : ℕ) (traces : List (List Wish)) : Type 0 where
  pub entries : (4 * lines + 1) + entries_for_all traces < 2 ^ 64
  pub bytes : bytes_for_all traces < 2 ^ 64
  pub numbers : AllCanCount traces

-- of a room that grows: so many entries and bytes more have numbers too
pub record HoldsMore (room : Room) (entries bytes : ℕ) : Type 0 where
  pub entries_end : room.entries + entries < 2 ^ 64
  pub bytes_end : room.bytes + bytes < 2 ^ 64
