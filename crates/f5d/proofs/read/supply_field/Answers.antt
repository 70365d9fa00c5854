use Rattle.std.proofs.Common.{take, rules}
use Rattle.std.proofs.lemmas.Bool.{and_right}
use Rattle.vocabulary.specs.Codes.{is_supply}
use Rattle.f5d.specs.Reading.{ends_at}
use Rattle.f5d.proofs.read.supply_field.Goals as goal

pub returns-then-not-ends_at : goal.returns-then-not-ends_at
returns-then-not-ends_at c = and_right (is_supply (take 22 c.args.bytes.now)) (ends_at c.args.bytes.now 22) (search rules)
