use Rattle.std.proofs.Common.{arith}
use Rattle.official_time.proofs.Hours.{clock_bound}
use Rattle.official_time.proofs.hour.Hour.label.Goals as goal

pub at-requires : goal.at-requires
at-requires c = let b = clock_bound c.args.self.number c.args.self.last in omega arith
