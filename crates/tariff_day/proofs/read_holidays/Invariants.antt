use Rattle.std.proofs.Common.{◌≤◌, vec_len}
use Rattle.tariff_day.proofs.read_holidays.Given as goal

abbrev pub invariant-loop-word : goal.invariant-loop-word
invariant-loop-word l = vec_len l.days ≤ 16
