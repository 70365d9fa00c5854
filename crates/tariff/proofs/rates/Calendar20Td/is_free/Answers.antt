use Rattle.std.proofs.Common.{rules}
use Rattle.tariff.specs.Rules.{free_day}
use Rattle.tariff.proofs.rates.Calendar20Td.is_free.Goals as goal

pub returns-then-is_6_january : goal.returns-then-is_6_january
unfolding free_day
returns-then-is_6_january c = search rules

pub returns-else-is_6_january : goal.returns-else-is_6_january
unfolding free_day
returns-else-is_6_january c = search rules
