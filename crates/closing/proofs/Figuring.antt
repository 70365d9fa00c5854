-- The figures of a tariff period, hour by hour.
use Rattle.std.proofs.Common.{ltb, ◌||◌, ◌≡◌, ℕ, zero, suc, ◌+◌, ◌≤◌, Bool, true, false, cond, not, ◌&&◌, List, [], ◌∷◌, length, get_or, is_some, Some, None, Option, unwrap_or, sym, refl, ap, ◌∙◌, subst, add-zero, add-one, arith}
use Rattle.std.proofs.lemmas.Bool.{eq-eqb, lt-ltb, ne_eqb}
use Rattle.profile.specs.Weights.{Weights}
use Rattle.tariff.specs.Timetables.{Timetable}
use Rattle.vocabulary.specs.declared.energy.Wh.{Wh}
use Rattle.closing.specs.Cases.{case_in}
use Rattle.closing.specs.Closing.{Case, lies, period_at}
use Rattle.closing.specs.Lent.{energies, figures_to, in_wh, Totals, with_missing, with_read}
use Rattle.std.specs.List.{list_any}
use Rattle.closing.specs.Sharing.{below}
use Rattle.closing.specs.declared.billing_period.BillingPeriod.{BillingPeriod}

pub energies_at : (hs : List (Option Wh)) (i : ℕ) → get_or (energies hs) i None ≡ in_wh (get_or hs i None)
energies_at [] i = refl
energies_at (o ∷ os) zero = refl
energies_at (o ∷ os) (suc i) = energies_at os i

pub energies_length : (hs : List (Option Wh)) → length (energies hs) ≡ length hs
energies_length [] = refl
energies_length (o ∷ os) = ap suc (energies_length os)

below_first : (f : ℕ → ℕ) (n : ℕ) → below f (suc n) ≡ f 0 + below (λ i. f (suc i)) n
below_first f zero = omega arith
below_first f (suc n) = let ih = below_first f n in omega arith

-- an hour is missing where a search for one finds it
pub missing_is : (p : Option Wh → Bool) (hs : List (Option Wh)) → p None ≡ true → ((x : Wh) → p (Some x) ≡ false) →
    list_any p hs ≡ ltb 0 (below (λ i. cond (not (is_some (get_or (energies hs) i None))) 1 0) (length (energies hs)))
missing_is p [] none some = refl
missing_is p (None ∷ os) none some =
    let f : ℕ → ℕ = λ i. cond (not (is_some (get_or (None ∷ energies os) i None))) 1 0 in
    let e = below_first f (length (energies os)) in
    ap (λ b. b || list_any p os) none ∙ sym (lt-ltb 0 (below f (suc (length (energies os)))) (omega arith))
missing_is p (Some x ∷ os) none some =
    let f : ℕ → ℕ = λ i. cond (not (is_some (get_or (Some x.0 ∷ energies os) i None))) 1 0 in
    let n = length (energies os) in
    let h = below_first f n in
    let e : below (λ i. f (suc i)) n ≡ below f (suc n) = omega arith in
    ap (λ b. b || list_any p os) (some x) ∙ missing_is p os none some ∙ ap (ltb 0) e

-- ## What one more place adds

abbrev with_place : Totals → Bool → Option ℕ → Option ℕ → Totals
with_place f l o w =
    record {
      hours = f.hours + cond l 1 0;
      missing = f.missing + cond (l && not (is_some o)) 1 0;
      read = f.read + cond l (unwrap_or o 0) 0;
      weights = f.weights + cond (l && not (is_some o)) (unwrap_or w 0) 0;
      weightless = f.weightless + cond ((l && not (is_some o)) && not (is_some w)) 1 0;
    }

place_read : (f : Totals) (e : ℕ) (w : Option ℕ) → with_read f e ≡ with_place f true (Some e) w
place_read f e w =
    λ i. record {
      hours = f.hours + 1;
      missing = sym (add-zero f.missing) i;
      read = f.read + e;
      weights = sym (add-zero f.weights) i;
      weightless = sym (add-zero f.weightless) i;
    }

place_missing : (f : Totals) (w : Option ℕ) → with_missing f w ≡ with_place f true None w
place_missing f None =
    λ i. record { hours = f.hours + 1; missing = f.missing + 1; read = sym (add-zero f.read) i; weights = f.weights + 0; weightless = f.weightless + 1 }
place_missing f (Some w) =
    λ i. record { hours = f.hours + 1; missing = f.missing + 1; read = sym (add-zero f.read) i; weights = f.weights + w; weightless = f.weightless + 0 }

place_outside : (f : Totals) (o w : Option ℕ) → f ≡ with_place f false o w
place_outside f o w =
    λ i. record {
      hours = sym (add-zero f.hours) i;
      missing = sym (add-zero f.missing) i;
      read = sym (add-zero f.read) i;
      weights = sym (add-zero f.weights) i;
      weightless = sym (add-zero f.weightless) i;
    }

mask_limit : (b : Bool) → cond {A = ℕ} b 1 0 ≤ 1
mask_limit true = omega arith
mask_limit false = omega arith

module _ {C P : Type 0} (t : C → Timetable) (w : P → Weights) (s : BillingPeriod C P) (p : ℕ) where
  abbrev c : Case
  c = case_in t w s

  abbrev weight_of : ℕ → Option ℕ
  weight_of i = (w s.profile.now).weight (s.first.number + i)

  -- the next place, by whether it lies in the tariff period and what was read there
  next_place : (f : Totals) (i : ℕ) (l : Bool) (o : Option ℕ) → f ≡ figures_to c p i → lies c p i ≡ l → get_or (energies s.hours.now) i None ≡ o →
      with_place f l o (weight_of i) ≡ figures_to c p (i + 1)
  next_place f i l o e el eo =
      ap (λ x. with_place x l o (weight_of i)) e
      ∙ ap (λ x. with_place (figures_to c p i) x o (weight_of i)) (sym el)
      ∙ ap (λ x. with_place (figures_to c p i) (lies c p i) x (weight_of i)) (sym eo)
      ∙ ap (figures_to c p) (sym (add-one i))

  module _ (i q : ℕ) (f : Totals) (e : f ≡ figures_to c p i) (asked : q ≡ period_at c i) where
    pub read_next : (x : Wh) → q ≡ p → get_or s.hours.now i None ≡ Some x → with_read f x.0 ≡ figures_to c p (i + 1)
    read_next x here o =
        place_read f x.0 (weight_of i)
        ∙ next_place f i true (Some x.0) e (eq-eqb (period_at c i) p (sym asked ∙ here)) (energies_at s.hours.now i ∙ ap in_wh o)

    pub missing_next : q ≡ p → get_or s.hours.now i None ≡ None → with_missing f (weight_of i) ≡ figures_to c p (i + 1)
    missing_next here o =
        place_missing f (weight_of i)
        ∙ next_place f i true None e (eq-eqb (period_at c i) p (sym asked ∙ here)) (energies_at s.hours.now i ∙ ap in_wh o)

    pub other_next : (q ≡ p → ⊥) → f ≡ figures_to c p (i + 1)
    other_next away =
        place_outside f (get_or (energies s.hours.now) i None) (weight_of i)
        ∙ next_place f i false (get_or (energies s.hours.now) i None) e (ne_eqb (period_at c i) p (λ h. away (asked ∙ h))) refl

  -- ## How large the figures are

  pub hours_limit : (n : ℕ) → (figures_to c p n).hours ≤ n
  hours_limit zero = omega arith
  hours_limit (suc n) = let h = hours_limit n in let m = mask_limit (lies c p n) in omega arith

pub energy_limit : {C P : Type 0} (s : BillingPeriod C P) (i : ℕ) (x : Wh) → get_or s.hours.now i None ≡ Some x → x.0 ≤ 55000
energy_limit s i x o = subst (λ y. unwrap_or (in_wh y) 0 ≤ 55000) o (s.lent.small i)
