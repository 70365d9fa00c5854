-- How large the energies of a curve can be, and which methods it can have.
use Rattle.std.proofs.Common.{◌≡◌, ℕ, zero, suc, ◌+◌, ◌-◌, ◌*◌, ◌<◌, ◌≤◌, Bool, true, cond, not, [], ◌∷◌, Some, None, Option, unwrap_or, sym, refl, ap, ◌∙◌, subst, mul-one, mul-add, arith}
use Rattle.std.proofs.lemmas.Bool.{and_from, cond_both, eq-eqb, not_from_false}
use Rattle.closing.specs.Closing.{any_missing, Balance, bill, billed_wh, Billed, Case, closed_hour, count, cut_down, energy_read, fill, first_held, from_hours, held, keep, lies, missing_hour, missing_in, missing_method, nothing_billed, period_at, read_hour, read_in, read_wh, rescale, rule, Rule, was_read, weight}
use Rattle.closing.specs.Sharing.{below, portion}
use Rattle.closing.proofs.Curves.{hour_here}
use Rattle.closing.proofs.Shares.{adds_up}
use Rattle.closing.proofs.Sums.{below_entry, group_positive, group_weight}

pub below_limit : (f : ℕ → ℕ) (m n : ℕ) → ((i : ℕ) → f i ≤ m) → below f n ≤ m * n
below_limit f m zero h = omega arith
below_limit f m (suc n) h =
    let ih = below_limit f m n h in
    let e = h n in
    let n1 : suc n ≡ n + 1 = omega arith in
    let d : m * suc n ≡ m * n + m = ap (λ x. m * x) n1 ∙ mul-add m n 1 ∙ ap (λ x. m * n + x) (mul-one m) in
    omega arith

-- what a place of a group gets is at most what is shared
group_limit : (R n : ℕ) (G : ℕ → Bool) (w : ℕ → ℕ) (i : ℕ) → i < n → G i ≡ true → portion R (group_weight n G w) n i ≤ R
group_limit R n G w i l h =
    let a = adds_up R (group_weight n G w) n (group_positive n G w i l h) in
    let b = below_entry (portion R (group_weight n G w) n) n i l in
    omega arith

module _ (c : Case) (b : Billed) (m : ℕ) (reads : (i : ℕ) → energy_read c i ≤ m) (bills : (p : ℕ) → billed_wh c b p ≤ m) where
  read_limit : (r : Rule) (p i : ℕ) → i < count c → read_in c p i ≡ true → (read_hour c b r p i).0 ≤ m
  read_limit keep p i l h = reads i
  read_limit rescale p i l h = let a = group_limit (billed_wh c b p) (count c) (read_in c p) (energy_read c) i l h in let e = bills p in omega arith
  read_limit fill p i l h = reads i
  read_limit cut_down p i l h = let a = group_limit (billed_wh c b p) (count c) (read_in c p) (energy_read c) i l h in let e = bills p in omega arith

  missing_limit : (r : Rule) (p i : ℕ) → i < count c → missing_in c p i ≡ true → (missing_hour c b r p i).0 ≤ m
  missing_limit keep p i l h = omega arith
  missing_limit rescale p i l h = omega arith
  missing_limit fill p i l h =
      let a = group_limit (billed_wh c b p - read_wh c p) (count c) (missing_in c p) (weight c) i l h in let e = bills p in omega arith
  missing_limit cut_down p i l h = omega arith

  pub hour_limit : (i : ℕ) → i < count c → (closed_hour c b i).0 ≤ m
  hour_limit i l =
      let p = period_at c i in
      let here = eq-eqb p p refl in
      subst (λ x. x ≤ m) (sym (hour_here c b i))
      (cond_both (was_read c i) (read_hour c b (rule c b p) p i).0 (missing_hour c b (rule c b p) p i).0 (λ x. x ≤ m)
      (λ t. read_limit (rule c b p) p i l (and_from (lies c p i) (was_read c i) here t))
      (λ t. missing_limit (rule c b p) p i l (and_from (lies c p i) (not (was_read c i)) here (not_from_false (was_read c i) t))))

-- methods are from 1 to 6
abbrev Method : ℕ → Type 0
Method n = (1 ≤ n) × (n ≤ 6)

module _ (c : Case) (b : Billed) (source : b.source ≤ 5) where
  missing_methods : (s : ℕ) → s ≤ 5 → Method (missing_method c b s)
  missing_methods zero l = (omega arith, omega arith)
  missing_methods (suc zero) l = (omega arith, omega arith)
  missing_methods (suc (suc zero)) l = (omega arith, omega arith)
  missing_methods (suc (suc (suc zero))) l = (omega arith, omega arith)
  missing_methods (suc (suc (suc (suc zero)))) l = (omega arith, omega arith)
  missing_methods (suc (suc (suc (suc (suc zero))))) l = (omega arith, omega arith)
  missing_methods (suc (suc (suc (suc (suc (suc s)))))) l = absurd (omega arith)

  read_methods : (r : Rule) (p i : ℕ) → Method (read_hour c b r p i).1
  read_methods keep p i = (omega arith, omega arith)
  read_methods rescale p i = (omega arith, omega arith)
  read_methods fill p i = (omega arith, omega arith)
  read_methods cut_down p i = (omega arith, omega arith)

  unread_methods : (r : Rule) (p i : ℕ) → Method (missing_hour c b r p i).1
  unread_methods keep p i = missing_methods b.source source
  unread_methods rescale p i = missing_methods b.source source
  unread_methods fill p i = missing_methods b.source source
  unread_methods cut_down p i = missing_methods b.source source

  pub hour_method : (i : ℕ) → Method (closed_hour c b i).1
  hour_method i =
      let p = period_at c i in
      cond_both (was_read c i) (read_hour c b (rule c b p) p i) (missing_hour c b (rule c b p) p i) (λ x. Method x.1)
      (λ _. read_methods (rule c b p) p i) (λ _. unread_methods (rule c b p) p i)

-- what holds of nothing, of what the hours come to and of every held balance, holds of what is billed
module _ (P : Billed → Type 0) (balances : ℕ → Option Balance) (none : P nothing_billed) (each : (s : ℕ) (b : Balance) → s ≤ 5 → balances s ≡ Some b → P (held s b)) where
  abbrev Holds : Option Billed → Type 0
  Holds o = P (unwrap_or o nothing_billed)

  held_or : (s : ℕ) (o : Option Balance) (r : Option Billed) → s ≤ 5 → balances s ≡ o → Holds r → Holds (elim o as (λ _. Option Billed) [ None ↦ r | Some b ↦ Some (held s b) ])
  held_or s None r l e h = h
  held_or s (Some b) r l e h = each s b l e

  pub of_bill : (c : Case) → P (from_hours c) → P (bill c balances)
  of_bill c hours =
      held_or 1 (balances 1) (cond (any_missing c) (first_held balances (2 ∷ 3 ∷ 4 ∷ 5 ∷ [])) (Some (from_hours c))) (omega arith) refl
      (cond_both (any_missing c) (first_held balances (2 ∷ 3 ∷ 4 ∷ 5 ∷ [])) (Some (from_hours c)) Holds
      (λ _.
      held_or 2 (balances 2) (first_held balances (3 ∷ 4 ∷ 5 ∷ [])) (omega arith) refl
      (held_or 3 (balances 3) (first_held balances (4 ∷ 5 ∷ [])) (omega arith) refl
      (held_or 4 (balances 4) (first_held balances (5 ∷ [])) (omega arith) refl
      (held_or 5 (balances 5) None (omega arith) refl none))))
      (λ _. hours))
