use Rattle.std.proofs.Common.{◌≡◌, drop, ap, ◌∙◌, subst}
use Rattle.f5d.specs.Reading.{bad, read_energy, read_label}
use Rattle.f5d.specs.Told.{place_of}
use Rattle.f5d.proofs.Stepping.{label_found, label_lost}
use Rattle.f5d.proofs.read.hour_field.Goals as goal

pub returns-in-Some-clause-told : goal.returns-in-Some-clause-told
returns-in-Some-clause-told c =
    λ supply.
    let clock = c.in_ok-clock.clock in
    let same : clock.bytes.now ≡ c.args.bytes.now = simp c.in_ok-clock.ensures.ok_part at c.of.ensures in
    let hour = c.in-Some.ensures in
    subst (λ x. read_energy supply c.in-Some.hour.number (drop 19 x) ≡ read_label supply x) same
    (ap (λ h. read_energy supply h (drop 19 clock.bytes.now)) hour.1 ∙ label_found supply clock.bytes.now clock.written hour.0)

pub returns-in-None-clause-told : goal.returns-in-None-clause-told
returns-in-None-clause-told c =
    λ supply.
    let clock = c.in_ok-clock.clock in
    let same : clock.bytes.now ≡ c.args.bytes.now = simp c.in_ok-clock.ensures.ok_part at c.of.ensures in
    subst (λ x. bad (place_of c.unflagged.result) ≡ read_label supply x) same (ap bad c.unflagged.ensures ∙ label_lost supply clock.bytes.now clock.written c.in-None.ensures)
