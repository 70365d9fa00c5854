-- Which bytes an alphabet has.
use Rattle.std.specs.Prelude.{ℕ, Bool}
use Rattle.vocabulary.specs.Codes.{code_byte, digit, visible}
use Rattle.vocabulary.specs.declared.codes.alphabet.Alphabet.{Alphabet}
use Rattle.vocabulary.specs.declared.codes.alphabet.Alphabet.TheVariants.{Digits, Code, Visible}

abbrev pub has : Alphabet → ℕ → Bool
has Digits b = digit b
has Code b = code_byte b
has Visible b = visible b
