use Rattle.f5d.proofs.Going.{Left}
use Rattle.f5d.proofs.file.lacks.Given as goal

-- the records that are left decide
abbrev pub invariant-loop-record : goal.invariant-loop-record
invariant-loop-record l = Left l.supply.bytes l.bytes l.record-iterator.rest.now
