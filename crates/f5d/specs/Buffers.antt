-- What stands in a lent buffer.
use Rattle.std.specs.Prelude.{ℕ, List, ◌++◌, length, drop}

-- a text written over the front of what was there
abbrev pub over : List ℕ → List ℕ → List ℕ
over text was = text ++ drop (length text) was
