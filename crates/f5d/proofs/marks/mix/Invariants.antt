use Rattle.std.proofs.Common.{◌≡◌, drop}
use Rattle.f5d.specs.Marking.{mixed}
use Rattle.f5d.proofs.marks.mix.Given as goal

abbrev pub invariant-loop-byte : goal.invariant-loop-byte
invariant-loop-byte l = mixed 0 l.code ≡ mixed l.number (drop l.byte-index l.code)
