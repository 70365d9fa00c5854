use Rattle.std.proofs.Common.{◌≡◌, drop}
use Rattle.profile.specs.Rules.{after}
use Rattle.profile.proofs.last_year.rises.Given as goal

abbrev pub invariant-loop-place : goal.invariant-loop-place
invariant-loop-place l = after 0 l.places ≡ after l.last (drop l.place-index l.places)
