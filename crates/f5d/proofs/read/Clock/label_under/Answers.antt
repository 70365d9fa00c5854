use Rattle.f5d.proofs.Clocks.{numbered}
use Rattle.f5d.proofs.read.Clock.label_under.Goals as goal

pub pair_number-requires-4 : goal.pair_number-requires-4
pair_number-requires-4 c = (numbered c.args.self.now.bytes.now c.args.self.now.written).day

pub pair_number-requires-5 : goal.pair_number-requires-5
pair_number-requires-5 c = (numbered c.args.self.now.bytes.now c.args.self.now.written).hour

pub pair_number-requires-6 : goal.pair_number-requires-6
pair_number-requires-6 c = (numbered c.args.self.now.bytes.now c.args.self.now.written).minute
