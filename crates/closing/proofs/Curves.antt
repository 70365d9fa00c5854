-- The curve of one close: what each tariff period comes to, which read hours stay, and what missing hours get.
use Rattle.std.proofs.Common.{◌≡◌, ℕ, zero, suc, ◌+◌, ◌-◌, ◌*◌, ◌<◌, ◌≤◌, Bool, true, false, cond, not, ◌&&◌, eqb, ltb, leb, ◌⊎◌, [], ◌∷◌, get_or, is_some, Some, None, Option, unwrap_or, sym, refl, ap, ◌∙◌, subst, ap₂, inl, inr, ⊎_elim, arith}
use Rattle.std.proofs.lemmas.Bool.{cases_eq, cond_both, cond-false, eq-eqb, eqb-true, eqb-false, leb-true, leb-false, lt-ltb, ltb-false, and_parts, and_cases, and_from, both_ways, not-false, not_from_false, false≢true, true≢false, cond-true}
use Rattle.closing.specs.Sharing.{below}
use Rattle.closing.specs.Closing.{bill, closing_tests, nothing_billed, period_at, Case, Billed, Balance, count, lies, was_read, energy_read, weight, tally, read_wh, missing, any_missing, computed, weighed, missing_in, held, first_held, billed, Rule, keep, rescale, fill, cut_down, billed_wh, rule, read_hour, missing_hour, closed_hour, some_period, changes, fills, has_weight, hourless, some_place, unreal, weightless}
use Rattle.closing.specs.Curves.{all_weigh, ClosingLaw, left_over, missing_count, profile_weight, RightCurve, weighs, weight_total}
use Rattle.closing.proofs.Passing.{passed}
use Rattle.closing.proofs.Shares.{nearly_exact}
use Rattle.closing.proofs.Sums.{below_cong, below_none, below_zero, below_some, counted, uncounted, masked, unmasked, group_positive, kept_sum, anew_sum, filled_sum}

-- what holds under each rule, by what leads to it
pub by_rule : (P : Rule → Type 0) (g v m : ℕ) →
    (g ≡ 0 → v ≤ m + 1000 → m ≤ v + 1000 → P keep) →
    (g ≡ 0 → (m + 1000 < v) ⊎ (v + 1000 < m) → P rescale) →
    (0 < g → v ≤ m + 1000 → P fill) →
    (0 < g → m + 1000 < v → P cut_down) →
    P (cond (eqb g 0) (cond (leb v (m + 1000) && leb m (v + 1000)) keep rescale) (cond (leb v (m + 1000)) fill cut_down))
by_rule P g v m k r f c =
    cond_both (eqb g 0) (cond (leb v (m + 1000) && leb m (v + 1000)) keep rescale) (cond (leb v (m + 1000)) fill cut_down) P
    (λ z. cond_both (leb v (m + 1000) && leb m (v + 1000)) keep rescale P
    (λ t. let a = and_parts (leb v (m + 1000)) (leb m (v + 1000)) t in
    k (eqb-true g 0 z) (leb-true v (m + 1000) a.0) (leb-true m (v + 1000) a.1))
    (λ t. r (eqb-true g 0 z)
    (⊎_elim (λ x. inl (leb-false v (m + 1000) x)) (λ x. inr (leb-false m (v + 1000) x)) (and_cases (leb v (m + 1000)) (leb m (v + 1000)) t))))
    (λ z. let ne = eqb-false g 0 z in
    cond_both (leb v (m + 1000)) fill cut_down P
    (λ t. f (omega arith) (leb-true v (m + 1000) t))
    (λ t. c (omega arith) (leb-false v (m + 1000) t)))

value_none : (o : Option ℕ) → is_some o ≡ false → unwrap_or o 0 ≡ 0
value_none (Some x) h = absurd (true≢false h)
value_none None h = refl

some_value : (o : Option ℕ) → 0 < unwrap_or o 0 → is_some o ≡ true
some_value (Some x) h = refl
some_value None h = absurd (omega arith)

-- a period that none of the tests names
pub no_period : (c : Case) (q : ℕ → Bool) (p : ℕ) → some_period c q ≡ false → 1 ≤ p → p ≤ c.calendar.periods → q p ≡ false
no_period c q p h lo hi =
    let z : below (λ k. cond (q (k + 1)) 1 0) c.calendar.periods ≡ 0 =
    (let y = ltb-false 0 (below (λ k. cond (q (k + 1)) 1 0) c.calendar.periods) h in omega arith) in
    let e = below_none (λ k. cond (q (k + 1)) 1 0) c.calendar.periods (p - 1) z (omega arith) in
    let f = uncounted (q (p - 1 + 1)) e in
    let s : p - 1 + 1 ≡ p = omega arith in
    subst (λ x. q x ≡ false) s f

first_of : (t : Bool) (x y : ℕ × ℕ) → (cond t x y).0 ≡ cond t x.0 y.0
first_of true x y = refl
first_of false x y = refl

under_mask : (t : Bool) (x y : ℕ) → (t ≡ true → x ≡ y) → cond t x 0 ≡ cond t y 0
under_mask true x y h = h refl
under_mask false x y h = refl

module _ (c : Case) (b : Billed) where
  -- the energy of the hour at place i under a rule
  abbrev pub hour_by : Rule → ℕ → ℕ → ℕ
  hour_by r p i = cond (was_read c i) (read_hour c b r p i).0 (missing_hour c b r p i).0

  abbrev pub sum_by : Rule → ℕ → ℕ
  sum_by r p = below (λ i. cond (lies c p i) (hour_by r p i) 0) (count c)

  abbrev pub closed_sum : ℕ → ℕ
  closed_sum p = below (λ i. cond (lies c p i) (closed_hour c b i).0 0) (count c)

  pub unread : (i : ℕ) → was_read c i ≡ false → energy_read c i ≡ 0
  unread i h = value_none (get_or c.hours i None) h

  pub hour_here : (i : ℕ) → (closed_hour c b i).0 ≡ hour_by (rule c b (c.calendar.period (c.first + i))) (c.calendar.period (c.first + i)) i
  hour_here i = let p = c.calendar.period (c.first + i) in first_of (was_read c i) (read_hour c b (rule c b p) p i) (missing_hour c b (rule c b p) p i)

  pub hour_in : (p i : ℕ) → lies c p i ≡ true → (closed_hour c b i).0 ≡ hour_by (rule c b p) p i
  hour_in p i h = hour_here i ∙ ap (λ q. hour_by (rule c b q) q i) (eqb-true (c.calendar.period (c.first + i)) p h)

  pub sum_here : (p : ℕ) → closed_sum p ≡ sum_by (rule c b p) p
  sum_here p = below_cong (λ i. cond (lies c p i) (closed_hour c b i).0 0) (λ i. cond (lies c p i) (hour_by (rule c b p) p i) 0) (count c)
      (λ i _. under_mask (lies c p i) (closed_hour c b i).0 (hour_by (rule c b p) p i) (hour_in p i))

  -- a period without missing hours: what lies in it was read
  pub all_read : (p i : ℕ) → missing c p ≡ 0 → i < count c → lies c p i ≡ true → was_read c i ≡ true
  all_read p i g l h =
      let e = uncounted (lies c p i && not (was_read c i)) (below_none (λ j. cond (lies c p j && not (was_read c j)) 1 0) (count c) i g l) in
      ⊎_elim (λ x. absurd (both_ways (lies c p i) x h)) (λ x. not-false (was_read c i) x) (and_cases (lies c p i) (not (was_read c i)) e)

  pub some_missing : (p : ℕ) → 0 < missing c p → (i : ℕ) × (i < count c) × ((lies c p i && not (was_read c i)) ≡ true)
  some_missing p h =
      let t = below_some (λ j. cond (lies c p j && not (was_read c j)) 1 0) (count c) h in
      (t.0, t.1, (counted (lies c p t.0 && not (was_read c t.0)) 1 t.2).0)

  pub some_read : (p : ℕ) → 0 < read_wh c p → (i : ℕ) × (i < count c) × ((lies c p i && was_read c i) ≡ true)
  some_read p h =
      let t = below_some (λ j. cond (lies c p j) (energy_read c j) 0) (count c) h in
      let k = counted (lies c p t.0) (energy_read c t.0) t.2 in
      (t.0, t.1, and_from (lies c p t.0) (was_read c t.0) k.0 (some_value (get_or c.hours t.0 None) k.1))

  -- what the four rules come to
  pub kept_comes : (p : ℕ) → sum_by keep p ≡ read_wh c p
  kept_comes p = kept_sum (count c) (lies c p) (was_read c) (energy_read c) unread

  pub anew_comes : (p i : ℕ) → i < count c → (lies c p i && was_read c i) ≡ true → sum_by rescale p ≡ billed_wh c b p
  anew_comes p i l h = anew_sum (count c) (lies c p) (was_read c) (energy_read c) unread (billed_wh c b p) (energy_read c) i l h

  pub cut_comes : (p i : ℕ) → i < count c → (lies c p i && was_read c i) ≡ true → sum_by cut_down p ≡ billed_wh c b p
  cut_comes p i l h = anew_sum (count c) (lies c p) (was_read c) (energy_read c) unread (billed_wh c b p) (energy_read c) i l h

  pub filled_comes : (p i : ℕ) → i < count c → (lies c p i && not (was_read c i)) ≡ true → sum_by fill p ≡ read_wh c p + (billed_wh c b p - read_wh c p)
  filled_comes p i l h = filled_sum (count c) (lies c p) (was_read c) (energy_read c) unread (billed_wh c b p - read_wh c p) (weight c) i l h

  -- a period with hours, or with at most 1 kWh and nothing read
  pub with_hours : (p : ℕ) → hourless c b p ≡ false → ((i : ℕ) × (i < count c) × (lies c p i ≡ true)) ⊎ ((read_wh c p ≡ 0) × (b.kwh p ≤ 1))
  with_hours p h = ⊎_elim (λ e. inl (some e)) (λ e. go (tally c (lies c p)) refl e) (and_cases (eqb (tally c (lies c p)) 0) (ltb 1 (b.kwh p)) h)
    where
      some : eqb (tally c (lies c p)) 0 ≡ false → (i : ℕ) × (i < count c) × (lies c p i ≡ true)
      some e =
          let ne = eqb-false (tally c (lies c p)) 0 e in
          let t = below_some (λ j. cond (lies c p j) 1 0) (count c) (omega arith) in
          (t.0, t.1, (counted (lies c p t.0) 1 t.2).0)

      go : (n : ℕ) → tally c (lies c p) ≡ n → ltb 1 (b.kwh p) ≡ false → ((i : ℕ) × (i < count c) × (lies c p i ≡ true)) ⊎ ((read_wh c p ≡ 0) × (b.kwh p ≤ 1))
      go zero z f =
          inr (
            below_zero (λ j. cond (lies c p j) (energy_read c j) 0) (count c)
                (λ j l. unmasked (lies c p j) (energy_read c j) (uncounted (lies c p j) (below_none (λ j. cond (lies c p j) 1 0) (count c) j z l))),
            ltb-false 1 (b.kwh p) f,
          )
      go (suc n) z f =
          let t = below_some (λ j. cond (lies c p j) 1 0) (count c) (omega arith) in
          inl (t.0, t.1, (counted (lies c p t.0) 1 t.2).0)

  abbrev Near : ℕ → ℕ → Type 0
  Near x y = (x ≤ y + 1000) × (y ≤ x + 1000)

  pub period_near : (p : ℕ) → hourless c b p ≡ false → Near (closed_sum p) (billed_wh c b p)
  period_near p h =
      subst (λ x. Near x (billed_wh c b p)) (sym (sum_here p))
      (by_rule (λ r. Near (sum_by r p) (billed_wh c b p)) (missing c p) (read_wh c p) (billed_wh c b p)
      (λ g x y. let e = kept_comes p in omega arith)
      (λ g far. ⊎_elim
      (λ t. let r = all_read p t.0 g t.1 t.2 in
      let e = anew_comes p t.0 t.1 (and_from (lies c p t.0) (was_read c t.0) t.2 r) in omega arith)
      (λ t. absurd (omega arith))
      (with_hours p h))
      (λ g x. let t = some_missing p g in let e = filled_comes p t.0 t.1 t.2 in omega arith)
      (λ g x. let t = some_read p (omega arith) in let e = cut_comes p t.0 t.1 t.2 in omega arith))

  -- a balance of source 1 or 2 that lies over 1 kWh below what was read, or, with none missing, above
  abbrev Far : ℕ → Type 0
  Far p = ((b.source ≡ 1) ⊎ (b.source ≡ 2)) × ((billed_wh c b p + 1000 < read_wh c p) ⊎ ((missing c p ≡ 0) × (read_wh c p + 1000 < billed_wh c b p)))

  pub real_source : (p : ℕ) → (b.source ≡ 0 → b.kwh p ≡ computed c p) → leb 3 b.source ≡ false → (billed_wh c b p + 1000 < read_wh c p) ⊎ (read_wh c p + 1000 < billed_wh c b p) →
      (b.source ≡ 1) ⊎ (b.source ≡ 2)
  real_source p z s far =
      let l = leb-false 3 b.source s in
      ⊎_elim (λ e. inl e)
      (λ ne. ⊎_elim (λ e. inr e)
      (λ nf. let e = z (omega arith) in absurd (omega arith))
      (cases_eq b.source 2))
      (cases_eq b.source 1)

  pub read_kept : (i p : ℕ) → was_read c i ≡ true → unreal c b p ≡ false → (b.source ≡ 0 → b.kwh p ≡ computed c p) → (Far p → ⊥) →
      hour_by (rule c b p) p i ≡ energy_read c i
  read_kept i p r u z far =
      by_rule (λ q. (leb 3 b.source && changes c b q) ≡ false → hour_by q p i ≡ energy_read c i) (missing c p) (read_wh c p) (billed_wh c b p)
      (λ g x y _. read keep)
      (λ g x v.
      absurd (far (real_source p z (source v) x, ⊎_elim (λ y. inl y) (λ y. inr (g, y)) x)))
      (λ g x _. read fill)
      (λ g x v. absurd (far (real_source p z (source v) (inl x), inl x)))
      u
    where
      read : (q : Rule) → hour_by q p i ≡ (read_hour c b q p i).0
      read q = cond-true (was_read c i) (read_hour c b q p i).0 (missing_hour c b q p i).0 r

      source : (leb 3 b.source && true) ≡ false → leb 3 b.source ≡ false
      source v = ⊎_elim (λ e. e) (λ e. absurd (true≢false e)) (and_cases (leb 3 b.source) true v)

  -- what missing hours of a tariff period weigh
  abbrev missing_weight : ℕ → ℕ → ℕ
  missing_weight p = weighed c (missing_in c p) (weight c)

  -- less than one unit from its share
  abbrev Shares : ℕ → ℕ → ℕ → Type 0
  Shares p i x =
      (x * below (missing_weight p) (count c) < (billed_wh c b p - read_wh c p) * missing_weight p i + below (missing_weight p) (count c))
      × ((billed_wh c b p - read_wh c p) * missing_weight p i < x * below (missing_weight p) (count c) + below (missing_weight p) (count c))

  pub missing_shared : (i p : ℕ) → i < count c → lies c p i ≡ true → was_read c i ≡ false → Shares p i (hour_by (rule c b p) p i)
  missing_shared i p l h r =
      by_rule (λ q. Shares p i (hour_by q p i)) (missing c p) (read_wh c p) (billed_wh c b p)
      (λ g x y. absurd (both_ways (was_read c i) r (all_read p i g l h)))
      (λ g x. absurd (both_ways (was_read c i) r (all_read p i g l h)))
      (λ g x. subst (λ v. Shares p i v) (sym (not_read fill)) (nearly_exact (billed_wh c b p - read_wh c p) (missing_weight p) (count c) i pos))
      (λ g x. subst (λ v. Shares p i v) (sym (not_read cut_down)) (over x))
    where
      not_read : (q : Rule) → hour_by q p i ≡ (missing_hour c b q p i).0
      not_read q = cond-false (was_read c i) (read_hour c b q p i).0 (missing_hour c b q p i).0 r

      pos : 0 < below (missing_weight p) (count c)
      pos = group_positive (count c) (missing_in c p) (weight c) i l (and_from (lies c p i) (not (was_read c i)) h (not_from_false (was_read c i) r))

      over : billed_wh c b p + 1000 < read_wh c p → Shares p i 0
      over x =
          let d : billed_wh c b p - read_wh c p ≡ 0 = omega arith in
          let e = ap (λ y. y * missing_weight p i) d in
          (omega (arith, pos, e), omega (arith, pos, e))

  -- where the test for weights passes, a missing hour with energy to share has one
  weight_known : (i p : ℕ) → i < count c → lies c p i ≡ true → was_read c i ≡ false → weightless c b p ≡ false → read_wh c p < billed_wh c b p → has_weight c i ≡ true
  weight_known i p l h r u more =
      by_rule (λ q. (fills c b q && ltb (read_wh c p) (billed_wh c b p) && lacking) ≡ false → has_weight c i ≡ true) (missing c p) (read_wh c p) (billed_wh c b p)
      (λ g x y _. absurd (both_ways (was_read c i) r (all_read p i g l h)))
      (λ g x _. absurd (both_ways (was_read c i) r (all_read p i g l h)))
      (λ g x e. ⊎_elim (λ f. absurd (both_ways (ltb (read_wh c p) (billed_wh c b p)) f (lt-ltb (read_wh c p) (billed_wh c b p) more))) here (and_cases (ltb (read_wh c p) (billed_wh c b p)) lacking e))
      (λ g x _. absurd (omega arith))
      u
    where
      lacking : Bool
      lacking = some_place c (λ j. missing_in c p j && not (has_weight c j))

      here : some_place c (λ j. missing_in c p j && not (has_weight c j)) ≡ false → has_weight c i ≡ true
      here e =
          let z = ltb-false 0 (tally c (λ j. missing_in c p j && not (has_weight c j))) e in
          let one = uncounted (missing_in c p i && not (has_weight c i)) (below_none (λ j. cond (missing_in c p j && not (has_weight c j)) 1 0) (count c) i (omega arith) l) in
          ⊎_elim (λ f. absurd (both_ways (missing_in c p i) f (and_from (lies c p i) (not (was_read c i)) h (not_from_false (was_read c i) r)))) (λ f. not-false (has_weight c i) f)
          (and_cases (missing_in c p i) (not (has_weight c i)) one)

-- a billed balance of source 0 is what the read hours come to
abbrev ZeroComputed : Billed → (ℕ → ℕ) → Option Billed → Type 0
ZeroComputed d f o = is_some o ≡ true → (unwrap_or o d).source ≡ 0 → (p : ℕ) → (unwrap_or o d).kwh p ≡ f p

module _ (d : Billed) (f : ℕ → ℕ) where
  held_real : (s : ℕ) (x : Balance) → 0 < s → ZeroComputed d f (Some (held s x))
  held_real s x l = λ _ e p. absurd (omega arith)

  first_real : (balances : ℕ → Option Balance) (s : ℕ) (o : Option Balance) (r : Option Billed) → 0 < s → ZeroComputed d f r →
      ZeroComputed d f (elim o as (λ _. Option Billed) [ None ↦ r | Some x ↦ Some (held s x) ])
  first_real balances s None r l h = h
  first_real balances s (Some x) r l h = held_real s x l

  either_real : (t : Bool) (x y : Option Billed) → ZeroComputed d f x → ZeroComputed d f y → ZeroComputed d f (cond t x y)
  either_real true x y h k = h
  either_real false x y h k = k

pub source_zero : (c : Case) (balances : ℕ → Option Balance) (d : Billed) → ZeroComputed d (computed c) (billed c balances)
source_zero c balances d =
    first_real d (computed c) balances 1 (balances 1) _ (omega arith)
    (either_real d (computed c) (any_missing c) (first_held balances (2 ∷ 3 ∷ 4 ∷ 5 ∷ [])) _
    (first_real d (computed c) balances 2 (balances 2) _ (omega arith)
    (first_real d (computed c) balances 3 (balances 3) _ (omega arith)
    (first_real d (computed c) balances 4 (balances 4) _ (omega arith)
    (first_real d (computed c) balances 5 (balances 5) None (omega arith) (λ e. absurd (false≢true e))))))
    (λ _ _ p. refl))

-- ## The promises in their own words

-- x is less than one unit from the share of the place i, which weighs w of W
abbrev ShareNear : Case → Billed → ℕ → ℕ → ℕ → ℕ → Type 0
ShareNear c b i x w W = (x * W < left_over c b i * w + W) × (left_over c b i * w < x * W + W)

-- two tests one after the other are one
mask_twice : (l r : Bool) (x : ℕ) → cond l (cond r 0 x) 0 ≡ cond (l && not r) x 0
mask_twice true true x = refl
mask_twice true false x = refl
mask_twice false r x = refl

choose_below : (b : Bool) (f g : ℕ → ℕ) (n : ℕ) → below (λ i. cond b (f i) (g i)) n ≡ cond b (below f n) (below g n)
choose_below true f g n = refl
choose_below false f g n = refl

module _ (c : Case) (b : Billed) where
  missing_same : (p : ℕ) → missing_count c b p ≡ missing c p
  missing_same p =
      below_cong (λ i. cond (lies c p i) (cond (was_read c i) 0 1) 0) (λ i. cond (missing_in c p i) 1 0) (count c) (λ i _. mask_twice (lies c p i) (was_read c i) 1)

  weights_same : (p : ℕ) → weight_total c b p ≡ below (λ i. cond (missing_in c p i) (weight c i) 0) (count c)
  weights_same p =
      below_cong (λ i. cond (lies c p i) (cond (was_read c i) 0 (weight c i)) 0) (λ i. cond (missing_in c p i) (weight c i) 0) (count c)
      (λ i _. mask_twice (lies c p i) (was_read c i) (weight c i))

  all_same : (i : ℕ) → all_weigh c b i ≡ below (missing_weight c b (period_at c i)) (count c)
  all_same i =
      let p = period_at c i in
      ap (λ n. cond (eqb n 0) (missing_count c b p) n) (weights_same p)
      ∙ ap (λ n. cond (eqb (below (λ i. cond (missing_in c p i) (weight c i) 0) (count c)) 0) n (below (λ i. cond (missing_in c p i) (weight c i) 0) (count c))) (missing_same p)
      ∙ sym (choose_below (eqb (below (λ i. cond (missing_in c p i) (weight c i) 0) (count c)) 0) (λ i. cond (missing_in c p i) 1 0) (λ i. cond (missing_in c p i) (weight c i) 0) (count c))

  weighs_same : (i : ℕ) → was_read c i ≡ false → weighs c b i ≡ missing_weight c b (period_at c i) i
  weighs_same i r =
      let p = period_at c i in
      let here = and_from (lies c p i) (not (was_read c i)) (eq-eqb p p refl) (not_from_false (was_read c i) r) in
      ap (λ n. cond (eqb n 0) 1 (profile_weight c b i)) (weights_same p)
      ∙ ap₂ (cond (eqb (below (λ i. cond (missing_in c p i) (weight c i) 0) (count c)) 0))
      (sym (masked (missing_in c p i) 1 here))
      (cond-false (was_read c i) 0 (weight c i) r ∙ sym (masked (missing_in c p i) (weight c i) here))

pub closing_law : ClosingLaw
closing_law c balances g =
    let h = passed (closing_tests c balances) g in
    let b = bill c balances in
    record {
      every_period = eqb-true b.periods c.calendar.periods (not-false (eqb b.periods c.calendar.periods) h.1.0);
      weights = λ i l r more.
          weight_known c b i (period_at c i) l (eq-eqb (period_at c i) (period_at c i) refl) r
          (no_period c (weightless c b) (period_at c i) h.1.1.1.1.0 (c.calendar.from_one (c.first + i)) (c.calendar.within (c.first + i))) (omega arith);
      within_1_kwh = λ p lo hi. period_near c b p (no_period c (hourless c b) p h.1.1.0 lo hi);
      read_hours = λ i l r far.
          hour_here c b i
          ∙ read_kept c b i (period_at c i) r
          (no_period c (unreal c b) (period_at c i) h.1.1.1.0 (c.calendar.from_one (c.first + i)) (c.calendar.within (c.first + i)))
          (λ z. source_zero c balances nothing_billed (not-false (is_some (billed c balances)) h.0) z (period_at c i))
          (λ x. far (x.0, ⊎_elim (λ y. inl y) (λ y. inr (missing_same c b (period_at c i) ∙ y.0, y.1)) x.1));
      missing_hours = λ i l r.
          subst (λ w. ShareNear c b i (closed_hour c b i).0 (weighs c b i) w) (sym (all_same c b i))
          (subst (λ w. ShareNear c b i (closed_hour c b i).0 w (below (missing_weight c b (period_at c i)) (count c))) (sym (weighs_same c b i r))
          (subst (Shares c b (period_at c i) i) (sym (hour_here c b i))
          (missing_shared c b i (period_at c i) l (eq-eqb (period_at c i) (period_at c i) refl) r)));
    }

-- what is promised of a curve depends on its energies at the places of the case alone
pub right_alike : (c : Case) (b : Billed) (f g : ℕ → ℕ) → ((i : ℕ) → i < count c → f i ≡ g i) → RightCurve c b f → RightCurve c b g
right_alike c b f g e r = record {
  every_period = r.every_period;
  weights = r.weights;
  within_1_kwh = λ p lo hi.
      let s = below_cong (λ i. cond (lies c p i) (f i) 0) (λ i. cond (lies c p i) (g i) 0) (count c) (λ i l. under_mask (lies c p i) (f i) (g i) (λ _. e i l)) in
      let w = r.within_1_kwh p lo hi in
      (omega arith, omega arith);
  read_hours = λ i l read near. sym (e i l) ∙ r.read_hours i l read near;
  missing_hours = λ i l not_read. subst (λ x. ShareNear c b i x (weighs c b i) (all_weigh c b i)) (e i l) (r.missing_hours i l not_read);
}
