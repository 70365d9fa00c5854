-- The numbers under which files have methods and firmness.
use Rattle.std.specs.Prelude.{ℕ}
use Rattle.vocabulary.specs.declared.method.Firmness.{Firmness}
use Rattle.vocabulary.specs.declared.method.Firmness.TheVariants.{Provisional, Firm}
use Rattle.vocabulary.specs.declared.method.Method.{Method}
use Rattle.vocabulary.specs.declared.method.Method.TheVariants.{Measured, ProfiledFromBalance, AdjustedToBalance, ProfiledFromOwnReading, ProfiledFromHistory, ProfiledFromFactor}

abbrev pub method_number : Method → ℕ
method_number Measured = 1
method_number ProfiledFromBalance = 2
method_number AdjustedToBalance = 3
method_number ProfiledFromOwnReading = 4
method_number ProfiledFromHistory = 5
method_number ProfiledFromFactor = 6

abbrev pub firmness_number : Firmness → ℕ
firmness_number Provisional = 0
firmness_number Firm = 1
