use Rattle.std.proofs.Common.{arith}
use Rattle.official_time.proofs.Hours.{goes_on}
use Rattle.official_time.proofs.hour.Hour.clock_place.Goals as goal

pub returns : goal.returns
returns c = record { value = omega arith; goes_on = goes_on c.args.self.number c.args.self.first }
