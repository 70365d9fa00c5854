use Rattle.std.proofs.Common.{rules}
use Rattle.official_time.proofs.Digits.{two_places}
use Rattle.official_time.proofs.text.LabelDisplay.fmt.Goals as goal

pub returns-clause-writes : goal.returns-clause-writes
returns-clause-writes g c = search (rules, two_places)
