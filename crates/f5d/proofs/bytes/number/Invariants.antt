use Rattle.std.proofs.Common.{◌≡◌, ◌^◌, ◌<◌, drop}
use Rattle.f5d.specs.Reading.{number}
use Rattle.f5d.proofs.bytes.number.Given as goal

abbrev pub invariant-loop-digit : goal.invariant-loop-digit
invariant-loop-digit l = (number 0 l.digits ≡ number l.number (drop l.digit-index l.digits)) × (l.number < 10 ^ l.digit-index)
