use Rattle.std.proofs.Common.{ℕ, sym, refl, ap, ◌∙◌, arith}
use Rattle.official_time.specs.Hours.{flag, IsLabel}
use Rattle.official_time.proofs.Hours.{label_from, no_label}
use Rattle.official_time.proofs.label.Label.hour.Goals as goal

pub returns-in-Some : goal.returns-in-Some
returns-in-Some c =
    let m = c.in-Some.ensures in
    let l = m.1 (sym c.season.ensures.value ∙ sym c.flag.ensures ∙ c.if-flag-self.true) in
    let f = label_from c.in-Some.hour.number c.args.self l in
    record { test = sym f.0; value = f.1; cases = l; only = m.0 }

pub returns-in_default : goal.returns-in_default
returns-in_default c =
    let none : (h : ℕ) → IsLabel h c.args.self → ⊥ =
    λ h l. let e = ap flag (c.in-Some.ensures.0 h l) in let v = c.season.ensures.value in let s = l.season in c.if-flag-self.false (omega arith) in
    record { test = sym (no_label c.args.self none); value = tt; cases = (refl, none); only = tt }

pub returns-in_default-2 : goal.returns-in_default-2
returns-in_default-2 c = let none = c.in_default.ensures in record { test = sym (no_label c.args.self none); value = tt; cases = (refl, none); only = tt }
