use Rattle.std.proofs.Common.{◌≡◌, ℕ, List, sym, ap, ◌∙◌, subst}
use Rattle.f5d.specs.Bytes.{Lower}
use Rattle.f5d.specs.Marking.{marked}
use Rattle.f5d.proofs.Knowing.{highest_of, knows_more, last_marked, last_not_above}
use Rattle.f5d.proofs.Turns.{same_true}
use Rattle.f5d.proofs.passed.Turns.pass.Goals as goal

pub returns-then-eq : goal.returns-then-eq
returns-then-eq c =
    λ done q k supply hour.
    let t = c.args.self.now in
    let same : t.last.supply.bytes ≡ q.supply = same_true t.last.supply.bytes c.args.next.supply.bytes (sym c.eq.ensures ∙ c.if-eq.true) ∙ sym supply in
    knows_more t (record { last = c.args.next; highest = t.highest; marks = t.marks }) done q k supply hour (λ s n. n) (λ l. last_not_above t done k (subst (Lower t.highest.bytes) (sym same) l)) (λ s e. e)
    (ap (marked t.marks.seen) (sym same) ∙ last_marked t done k)

pub returns : goal.returns
returns c =
    λ done q k supply hour.
    let t = c.args.self.now in
    let higher = highest_of t.highest c.args.next.supply in
    let high = c.max-self.result in
    knows_more c.args.self.now (record { last = c.args.next; highest = high; marks = c.note.new.self }) done q k supply hour (subst (λ h. (s : List ℕ) → (Lower t.highest.bytes s → ⊥) → Lower h.bytes s → ⊥) (sym c.max-self.ensures) higher.0)
    (λ l. subst (λ h. Lower h.bytes c.args.next.supply.bytes → ⊥) (sym c.max-self.ensures) higher.1 (subst (Lower high.bytes) supply l)) c.note.ensures.kept (ap (marked c.note.new.self.seen) supply ∙ c.note.ensures.noted)
