-- The tests of a close, by the figures of the tariff periods.
use Rattle.std.proofs.Common.{◌≡◌, ℕ, zero, suc, ◌+◌, ◌-◌, ◌*◌, ◌<◌, Bool, true, false, cond, ◌&&◌, eqb, ltb, leb, List, [], ◌∷◌, length, take, get_or, sym, refl, ap, ap₂, ◌∙◌, arith}
use Rattle.std.proofs.lemmas.Bool.{le-ltb, lt-ltb}
use Rattle.std.specs.List.{IsAnyAnswer, zip}
use Rattle.std.proofs.lemmas.List.{get_or-take, length-take}
use Rattle.std.proofs.lemmas.Slice.Zip.{get_or-zip, length-zip}
use Rattle.vocabulary.specs.declared.energy.KWh.{KWh}
use Rattle.closing.specs.Billing.{AllFigures, Bills, ComesTo, kwhs}
use Rattle.closing.specs.Closing.{Billed, billed_wh, Case, changes, cut_down, fill, fills, hourless, keep, missing, read_wh, rescale, rule, some_period, unreal, weightless}
use Rattle.closing.specs.Lent.{figures_of, Totals, totals}
use Rattle.closing.specs.Sharing.{below}
use Rattle.closing.specs.Testing.{alters, completes, hourless_by, rule_by, rule_of, unreal_by, weightless_by}
use Rattle.closing.specs.declared.balance.Billed as program
use Rattle.closing.specs.declared.figures.BillingFigures.{BillingFigures}
use Rattle.closing.specs.declared.figures.Figures.{Figures}
use Rattle.closing.specs.declared.rule.Rule.{Rule}
use Rattle.closing.specs.declared.rule.Rule.TheVariants.{Keep, Rescale, Fill, CutDown}
use Rattle.closing.proofs.Sums.{below_entry, below_zero, masked, unmasked}

-- ## Whether a place has a property, place by place

module _ (q : ℕ → Bool) where
  pub one_found : (n i : ℕ) → i < n → q i ≡ true → true ≡ ltb 0 (below (λ k. cond (q k) 1 0) n)
  one_found n i l here =
      let e = masked (q i) 1 here in
      let h = below_entry (λ k. cond (q k) 1 0) n i l in
      sym (lt-ltb 0 (below (λ k. cond (q k) 1 0) n) (omega arith))

  pub none_found : (n : ℕ) → below (λ k. cond (q k) 1 0) n ≡ 0 → false ≡ ltb 0 (below (λ k. cond (q k) 1 0) n)
  none_found n none = sym (le-ltb 0 (below (λ k. cond (q k) 1 0) n) (omega arith))

-- the same of the items of a list, as a search in it answers
pub any_found : {X : Type 0} (E : X → Bool → Type 0) (q : ℕ → Bool) (d : X) (xs : List X) → ((i : ℕ) (b : Bool) → i < length xs → E (get_or xs i d) b → q i ≡ b) →
    (r : Bool) → IsAnyAnswer E xs r → r ≡ ltb 0 (below (λ k. cond (q k) 1 0) (length xs))
any_found E q d xs same true h = one_found q (length xs) h.0 h.1 (same h.0 true h.1 (h.2 d))
any_found E q d xs same false h = none_found q (length xs) (below_zero (λ k. cond (q k) 1 0) (length xs) (λ i l. unmasked (q i) 1 (same i false l (h i d (omega arith) l))))

-- ## What the program holds, place by place

-- the figures of no hours
abbrev pub none : Figures
none = record { hours = 0; missing = 0; read = 0; weights = 0; weightless = 0; few = omega arith; part = omega arith; small = omega arith; light = omega arith; lacking = omega arith }

pub figures_at : (c : Case) (fs : List Figures) → AllFigures c fs → (i : ℕ) → i < 3 → (d : Figures) → totals (get_or fs i d) ≡ figures_of c (i + 1)
figures_at c fs all zero l d = all.at_1 d
figures_at c fs all (suc zero) l d = all.at_2 d
figures_at c fs all (suc (suc zero)) l d = all.at_3 d
figures_at c fs all (suc (suc (suc i))) l d = absurd (omega arith)

pub kwhs_at : (ks : List KWh) (i : ℕ) (d : KWh) → d.0 ≡ 0 → (get_or ks i d).0 ≡ get_or (kwhs ks) i 0
kwhs_at [] i d h = h
kwhs_at (k ∷ ks) zero d h = refl
kwhs_at (k ∷ ks) (suc i) d h = kwhs_at ks i d h

-- ## A test of a tariff period

module _ (c : Case) (b : Billed) where
  same_rule : (x y z : Bool) → rule_of (cond x (cond y Keep Rescale) (cond z Fill CutDown)) ≡ cond x (cond y keep rescale) (cond z fill cut_down)
  same_rule true true z = refl
  same_rule true false z = refl
  same_rule false y true = refl
  same_rule false y false = refl

  -- the rule by the figures is the rule
  pub rule_is : (p : ℕ) → rule_of (rule_by (figures_of c p).missing (figures_of c p).read (1000 * b.kwh p)) ≡ rule c b p
  rule_is p =
      same_rule (eqb (missing c p) 0) (leb (read_wh c p) (billed_wh c b p + 1000) && leb (billed_wh c b p) (read_wh c p + 1000)) (leb (read_wh c p) (billed_wh c b p + 1000))

  same_changes : (r : Rule) → alters r ≡ changes c b (rule_of r)
  same_changes Keep = refl
  same_changes Rescale = refl
  same_changes Fill = refl
  same_changes CutDown = refl

  same_fills : (r : Rule) → completes r ≡ fills c b (rule_of r)
  same_fills Keep = refl
  same_fills Rescale = refl
  same_fills Fill = refl
  same_fills CutDown = refl

  -- a test by the figures is met where the test is
  pub hourless_met : (met answer : Bool) → met ≡ some_period c (λ p. hourless_by (figures_of c p) (b.kwh p)) → met ≡ answer → some_period c (hourless c b) ≡ answer
  hourless_met met answer e a = sym e ∙ a

  unreal_is : (p : ℕ) → unreal_by b.source (figures_of c p) (b.kwh p) ≡ unreal c b p
  unreal_is p =
      let r = rule_by (figures_of c p).missing (figures_of c p).read (1000 * b.kwh p) in
      ap (λ x. leb 3 b.source && x) (same_changes r ∙ ap (changes c b) (rule_is p))

  pub unreal_met : (s : ℕ) (met answer : Bool) → s ≡ b.source → met ≡ some_period c (λ p. unreal_by s (figures_of c p) (b.kwh p)) → met ≡ answer → some_period c (unreal c b) ≡ answer
  unreal_met s met answer es e a = sym (e ∙ ap (λ x. some_period c (λ p. unreal_by x (figures_of c p) (b.kwh p))) es ∙ ap (some_period c) (λ i p. unreal_is p i)) ∙ a

  weightless_is : (p : ℕ) → weightless_by (figures_of c p) (b.kwh p) ≡ weightless c b p
  weightless_is p =
      let r = rule_by (figures_of c p).missing (figures_of c p).read (1000 * b.kwh p) in
      ap (λ x. x && ltb (figures_of c p).read (1000 * b.kwh p) && ltb 0 (figures_of c p).weightless) (same_fills r ∙ ap (fills c b) (rule_is p))

  pub weightless_met : (met answer : Bool) → met ≡ some_period c (λ p. weightless_by (figures_of c p) (b.kwh p)) → met ≡ answer → some_period c (weightless c b) ≡ answer
  weightless_met met answer e a = sym (e ∙ ap (some_period c) (λ i p. weightless_is p i)) ∙ a

  pub kwh_at : (g : program.Billed) → Bills b g → (i : ℕ) → i < 3 → (d : KWh) → d.0 ≡ 0 → (get_or g.balance.kwh i d).0 ≡ b.kwh (i + 1)
  kwh_at g same i l d h =
      let e : i ≡ i + 1 - 1 = omega arith in
      kwhs_at g.balance.kwh i d h ∙ ap (λ n. get_or (kwhs g.balance.kwh) n 0) e ∙ same.kwh (i + 1) (omega arith) (omega arith)

  -- a test that is passed in one of the tariff periods
  pub some_passes : (test : Totals → ℕ → Bool) (f : BillingFigures) (g : program.Billed) (r : Bool) → length f.by_period ≡ 3 → length g.balance.kwh ≡ 3 →
      IsAnyAnswer (λ x v. v ≡ test (totals x.0) x.1.0) (take f.periods (zip f.by_period g.balance.kwh)) r → ComesTo c f → Bills b g →
      r ≡ some_period c (λ p. test (figures_of c p) (b.kwh p))
  some_passes test f g r lf lk any come same =
      let both = zip f.by_period g.balance.kwh in
      let zero : KWh = record { 0 = 0 } in
      let lz = length-zip f.by_period g.balance.kwh in
      let lt = length-take f.periods both in
      let long : length (take f.periods both) ≡ c.calendar.periods = omega (arith, come.periods, f.three) in
      any_found (λ x v. v ≡ test (totals x.0) x.1.0) (λ k. test (figures_of c (k + 1)) (b.kwh (k + 1))) (none, zero) (take f.periods both)
      (λ i v l e.
      let n : i < f.periods = omega (arith, come.periods) in
      let h : i < 3 = omega (arith, f.three) in
      let at = get_or-take f.periods both i (none, zero) n ∙ get_or-zip f.by_period g.balance.kwh i (none, zero) (omega arith) (omega arith) in
      sym (e ∙ ap (λ x. test (totals x.0) x.1.0) at ∙ ap₂ test (figures_at c f.by_period come.by_period i h none) (kwh_at g same i h zero refl)))
      r any
      ∙ ap (λ n. ltb 0 (below (λ k. cond (test (figures_of c (k + 1)) (b.kwh (k + 1))) 1 0) n)) long
