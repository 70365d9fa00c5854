use Rattle.tariff.proofs.January.{six_january_law}
use Rattle.tariff.proofs.rates.Calendar20Td.new.Goals as goal

pub returns-clause-january : goal.returns-clause-january
returns-clause-january c = six_january_law
