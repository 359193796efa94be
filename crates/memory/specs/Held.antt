-- What a list over lent memory holds.
use Rattle.std.specs.Prelude.{◌≡◌, ℕ, ◌<◌, ◌≤◌, min, length, take, drop, Some, None, Option, slice_index_or}
use mathlib.Core.List as L
use Rattle.std.specs.Borrow.{GName}
use Rattle.memory.specs.declared.lent_list.List.{List}

-- what is held, in order
abbrev pub items : {X : Type 0} → List X → L.List X
items l = take l.len l.memory.now

-- the memory past what is held
abbrev pub spare : {X : Type 0} → List X → L.List X
spare l = drop l.len l.memory.now

-- how many it has room for: the memory's length, up to 1048576
abbrev pub room : {X : Type 0} → List X → ℕ
room l = min (length l.memory.now) 1048576

-- which memory was lent
abbrev pub lent : {X : Type 0} → List X → GName
lent l = l.memory.ghost_name

-- what a read at i gives: the item there, or none past the end
abbrev pub Read : {X : Type 0} → L.List X → ℕ → Option X → Type 0
Read xs i None = length xs ≤ i
Read xs i (Some x) = (i < length xs) × ((d : _) → x ≡ slice_index_or xs i d)
