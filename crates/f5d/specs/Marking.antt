-- Marks that supplies leave in a table: a supply whose marks are not all there was not seen.
use Rattle.std.specs.Prelude.{ℕ, ◌+◌, ◌*◌, ◌/◌, ◌%◌, Bool, false, ◌&&◌, List, [], ◌∷◌, slice_index_or}

-- a number mixed from the bytes of a code
abbrev pub mixed : ℕ → List ℕ → ℕ
mixed n [] = n
mixed n (b ∷ bytes) = mixed ((n * 16777619 % 18446744073709551616 + b) % 18446744073709551616) bytes

-- its place in the table by one of four parts
abbrev pub place : ℕ → ℕ → ℕ
place n part = n / part % 65536

-- the places of a number's marks
abbrev pub places : ℕ → List ℕ
places n = place n 1 ∷ place n 65536 ∷ place n 4294967296 ∷ place n 281474976710656 ∷ []

abbrev pub all_marked : List Bool → ℕ → Bool
all_marked marks n = slice_index_or marks (place n 1) false && slice_index_or marks (place n 65536) false && slice_index_or marks (place n 4294967296) false && slice_index_or marks (place n 281474976710656) false

-- all marks of a code are there
abbrev pub marked : List Bool → List ℕ → Bool
marked marks code = all_marked marks (mixed 0 code)
