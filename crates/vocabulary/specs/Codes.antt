-- Which bytes make a code: a supply's, a participant's and an invoice's.
use Rattle.std.specs.Prelude.{ℕ, Bool, not, ◌&&◌, ◌||◌, List, length, ◌==◌}
use Rattle.std.specs.List.{list_all}
use Rattle.vocabulary.specs.Ranges.{between}

abbrev pub digit : ℕ → Bool
digit b = between 48 57 b

-- a digit or a capital letter
abbrev pub code_byte : ℕ → Bool
code_byte b = digit b || between 65 90 b

-- n of them
abbrev pub is_code : ℕ → List ℕ → Bool
is_code n s = length s == n && list_all code_byte s

abbrev pub is_supply : List ℕ → Bool
is_supply = is_code 22

abbrev pub is_participant : List ℕ → Bool
is_participant = is_code 4

-- neither blank nor control, and not the `;` (59) that ends a field
abbrev pub visible : ℕ → Bool
visible b = between 33 126 b && not (b == 59)

abbrev pub is_invoice : List ℕ → Bool
is_invoice s = between 1 26 (length s) && list_all visible s
