use Rattle.std.proofs.Common.{◌≡◌, cond, ltb, sym, ap, ◌∙◌, rules}
use Rattle.f5d.specs.Records.{apart, same}
use Rattle.f5d.proofs.Knowing.{lt_is_ltb, turn_next}
use Rattle.f5d.proofs.passed.Turns.allows.Goals as goal

pub returns-then-eq : goal.returns-then-eq
returns-then-eq c =
    λ done q k lines bear turn supply hour.
    let t = c.args.self.now in
    let last = t.last.supply.bytes in
    let rises : _ ≡ ltb t.last.hour.number c.args.next.now.hour.number = search (rules, lt_is_ltb) in
    rises ∙ ap (ltb t.last.hour.number) (sym hour)
    ∙ ap (λ x. cond x (ltb t.last.hour.number q.hour) (apart q.supply done)) (sym (ap (same last) supply ∙ sym c.eq.ensures ∙ c.if-eq.true))
    ∙ sym (turn_next t done k q turn)

pub returns-else-eq : goal.returns-else-eq
returns-else-eq c =
    λ done q k lines bear turn supply hour.
    let t = c.args.self.now in
    let last = t.last.supply.bytes in
    c.is_new.ensures done k lines bear ∙ ap (λ s. apart s done) (sym supply)
    ∙ ap (λ x. cond x (ltb t.last.hour.number q.hour) (apart q.supply done)) (sym (ap (same last) supply ∙ sym c.eq.ensures ∙ c.if-eq.false))
    ∙ sym (turn_next t done k q turn)
