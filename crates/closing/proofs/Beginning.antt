-- Where the sharing of a tariff period begins.
use Rattle.std.proofs.Common.{◌≡◌, ℕ, ◌+◌, ◌*◌, ◌<◌, ◌≤◌, Bool, true, false, cond, not, ◌&&◌, eqb, get_or, is_some, Some, None, Option, unwrap_or, sym, refl, ap, ◌∙◌, subst, ap₂, mul-le-mul_left, arith}
use Rattle.std.proofs.lemmas.Bool.{cond_both, true≢false}
use Rattle.closing.specs.Closing.{Billed, billed_wh, Case, count, energy_read, lies, missing_in, missing_method, read_in, was_read, weighed}
use Rattle.closing.specs.Lent.{figures_of, Totals, totals}
use Rattle.closing.specs.Periods.{count_by, in_group, own_weight, SharingAt, to_share, total_by, weights_by}
use Rattle.vocabulary.specs.Methods.{method_number}
use Rattle.closing.specs.Sharing.{below}
use Rattle.closing.specs.Testing.{rule_by, rule_of}
use Rattle.closing.specs.declared.figures.Figures.{Figures}
use Rattle.vocabulary.specs.declared.method.Method.{Method}
use Rattle.closing.specs.declared.rule.Rule.{Rule}
use Rattle.closing.specs.declared.rule.Rule.TheVariants.{Keep, Rescale, Fill, CutDown}
use Rattle.closing.specs.declared.share.Share.{Share}
use Rattle.closing.proofs.Stops.{rule_is}
use Rattle.closing.proofs.Sums.{below_add, below_cong, below_zero}

either_below : (x : Bool) (f g : ℕ → ℕ) (n : ℕ) → cond x (below f n) (below g n) ≡ below (λ i. cond x (f i) (g i)) n
either_below true f g n = refl
either_below false f g n = refl

no_value : (o : Option ℕ) → is_some o ≡ false → unwrap_or o 0 ≡ 0
no_value (Some x) h = absurd (true≢false h)
no_value None h = refl

read_entry : (l r : Bool) (x : ℕ) → (r ≡ false → x ≡ 0) → cond l x 0 ≡ cond (l && r) x 0
read_entry true true x h = refl
read_entry true false x h = h refl
read_entry false r x h = refl

part_entry : (l r : Bool) → cond {A = ℕ} (l && r) 1 0 + cond {A = ℕ} (l && not r) 1 0 ≡ cond {A = ℕ} l 1 0
part_entry true true = refl
part_entry true false = refl
part_entry false r = refl

module _ (c : Case) (b : Billed) (p : ℕ) where
  read_weights : (figures_of c p).read ≡ below (λ j. cond (read_in c p j) (energy_read c j) 0) (count c)
  read_weights =
      below_cong (λ j. cond (lies c p j) (energy_read c j) 0) (λ j. cond (read_in c p j) (energy_read c j) 0) (count c)
      (λ j _. read_entry (lies c p j) (was_read c j) (energy_read c j) (no_value (get_or c.hours j None)))

  -- the hours of a period are the read ones and the missing ones
  parts : below (λ j. cond (read_in c p j) 1 0) (count c) + (figures_of c p).missing ≡ (figures_of c p).hours
  parts =
      sym (below_add (λ j. cond (read_in c p j) 1 0) (λ j. cond (missing_in c p j) 1 0) (count c))
      ∙ below_cong (λ j. cond (read_in c p j) 1 0 + cond (missing_in c p j) 1 0) (λ j. cond (lies c p j) 1 0) (count c) (λ j _. part_entry (lies c p j) (was_read c j))

  total_is : (r : Rule) → total_by r (figures_of c p) (billed_wh c b p) ≡ to_share c b p r
  total_is Keep = refl
  total_is Rescale = refl
  total_is Fill = refl
  total_is CutDown = refl

  weights_are : (r : Rule) → weights_by r (figures_of c p) ≡ below (λ j. cond (in_group c b p r j) (own_weight c b p r j) 0) (count c)
  weights_are Keep = sym (below_zero (λ j. 0) (count c) (λ i _. refl))
  weights_are Rescale = read_weights
  weights_are Fill = refl
  weights_are CutDown = read_weights

  count_is : (r : Rule) → count_by r (figures_of c p) ≡ below (λ j. cond (in_group c b p r j) 1 0) (count c)
  count_is Keep = sym (below_zero (λ j. 0) (count c) (λ i _. refl))
  count_is Rescale = let e = parts in omega arith
  count_is Fill = refl
  count_is CutDown = let e = parts in omega arith

  sum_is : (r : Rule) → cond (eqb (weights_by r (figures_of c p)) 0) (count_by r (figures_of c p)) (weights_by r (figures_of c p)) ≡ below (weighed c (in_group c b p r) (own_weight c b p r)) (count c)
  sum_is r =
      let S = below (λ j. cond (in_group c b p r j) (own_weight c b p r j) 0) (count c) in
      ap₂ (λ x y. cond (eqb x 0) y x) (weights_are r) (count_is r)
      ∙ either_below (eqb S 0) (λ j. cond (in_group c b p r j) 1 0) (λ j. cond (in_group c b p r j) (own_weight c b p r j) 0) (count c)

total_small : (r : Rule) (f : Totals) (k : ℕ) → k ≤ 82500 → total_by r f (1000 * k) ≤ 82500000
total_small Keep f k h = omega arith
total_small Rescale f k h = omega arith
total_small Fill f k h = omega arith
total_small CutDown f k h = omega arith

sum_small : (r : Rule) (f : Figures) → cond (eqb (weights_by r (totals f)) 0) (count_by r (totals f)) (weights_by r (totals f)) ≤ 1500000000
sum_small r f = cond_both (eqb (weights_by r (totals f)) 0) (count_by r (totals f)) (weights_by r (totals f)) (λ x. x ≤ 1500000000) (λ _. counts r) (λ _. weighs r)
  where
    counts : (r : Rule) → count_by r (totals f) ≤ 1500000000
    counts Keep = omega arith
    counts Rescale = omega (arith, f.few)
    counts Fill = omega (arith, f.few, f.part)
    counts CutDown = omega (arith, f.few)

    weighs : (r : Rule) → weights_by r (totals f) ≤ 1500000000
    weighs Keep = omega arith
    weighs Rescale = omega (arith, f.few, f.small)
    weighs Fill = omega (arith, f.few, f.part, f.light)
    weighs CutDown = omega (arith, f.few, f.small)

product_fits : (x y : ℕ) → x ≤ 82500000 → y ≤ 1500000000 → x * y < 18446744073709551616
product_fits x y hx hy =
    let a : x * y ≤ x * 1500000000 = mul-le-mul_left x hy in
    omega arith

pub begun : (c : Case) (b : Billed) (p : ℕ) (r : Rule) (f : Figures) (k : ℕ) → k ≤ 82500 → totals f ≡ figures_of c p → k ≡ b.kwh p → r ≡ rule_by f.missing f.read (1000 * k) →
    (s : Share) → s.total ≡ total_by r (totals f) (1000 * k) → s.even ≡ eqb (weights_by r (totals f)) 0 →
    s.sum ≡ cond (eqb (weights_by r (totals f)) 0) (count_by r (totals f)) (weights_by r (totals f)) → s.past ≡ 0 → (m : Method) → method_number m ≡ missing_method c b b.source →
    SharingAt c b p 0 (record { rule = r; share = s; missing = m })
begun c b p r f k small ef ek er s et ev es ep m em =
    record {
      rule = ap rule_of er ∙ ap₂ (λ x y. rule_of (rule_by x.missing x.read (1000 * y))) ef ek ∙ rule_is c b p;
      even = ev ∙ ap (λ x. eqb x 0) (ap (weights_by r) ef ∙ weights_are c b p r);
      total = et ∙ ap₂ (λ x y. total_by r x (1000 * y)) ef ek ∙ total_is c b p r;
      sum = es ∙ ap (λ x. cond (eqb (weights_by r x) 0) (count_by r x) (weights_by r x)) ef ∙ sum_is c b p r;
      past = ep;
      missing = em;
      fits = product_fits s.total s.sum (subst (λ x. x ≤ 82500000) (sym et) (total_small r (totals f) k small)) (subst (λ x. x ≤ 1500000000) (sym es) (sum_small r f));
    }
