-- Closing one hour of a tariff period.
use Rattle.std.proofs.Common.{◌≡◌, ℕ, zero, suc, ◌+◌, ◌*◌, ◌<◌, ◌≤◌, Bool, true, false, cond, not, eqb, is_some, Some, None, Option, unwrap_or, sym, refl, ap, ◌∙◌, subst, ap₂, ⊎_elim, add-one, arith}
use Rattle.std.proofs.lemmas.Bool.{and_from, and_left, and_right, cases_eq, eqb-true, false≢true, not_from_false, not_from_true, true≢false}
use Rattle.vocabulary.specs.declared.energy.Wh.{Wh}
use Rattle.closing.specs.Closing.{Billed, Case, closed_hour, count, energy_read, lies, missing_hour, missing_method, period_at, read_hour, rule, was_read, weighed}
use Rattle.closing.specs.Closing as rules
use Rattle.closing.specs.Lent.{in_wh}
use Rattle.closing.specs.Periods.{closed_of, Due, in_group, own_weight, SharingAt, to_share}
use Rattle.closing.specs.Sharing.{below, portion}
use Rattle.closing.specs.Testing.{alters, completes, rule_of}
use Rattle.vocabulary.specs.declared.method.Method.{Method}
use Rattle.closing.specs.declared.period.PeriodShare.{PeriodShare}
use Rattle.closing.specs.declared.rule.Rule.{Rule}
use Rattle.closing.specs.declared.rule.Rule.TheVariants.{Keep, Rescale, Fill, CutDown}
use Rattle.closing.specs.declared.share.Share.{Share}
use Rattle.closing.proofs.Sums.{group_positive, group_weight, outside_weight}

below_grows : (f : ℕ → ℕ) (n k : ℕ) → k ≤ n → below f k ≤ below f n
below_grows f zero k l = let e : k ≡ 0 = omega arith in let h = ap (below f) e in omega arith
below_grows f (suc n) k l = ⊎_elim (λ e. let h = ap (below f) e in omega arith) (λ ne. let h = below_grows f n k (omega arith) in omega arith) (cases_eq k (suc n))

inside_weight : (n : ℕ) (G : ℕ → Bool) (w : ℕ → ℕ) (i : ℕ) → G i ≡ true → group_weight n G w i ≡ cond (eqb (below (λ j. cond (G j) (w j) 0) n) 0) 1 (w i)
inside_weight n G w i h = ap (λ x. cond (eqb (below (λ j. cond (G j) (w j) 0) n) 0) (cond x 1 0) (cond x (w i) 0)) h

-- what is given and where that leaves the sharing, by what they are equal to
module _ (c : Case) (b : Billed) (p i : ℕ) where
  abbrev Gives : Wh × Method → Type 0
  Gives x = closed_of (record { energy = x.0; method = x.1 }) ≡ closed_hour c b i

  pub given : (x y : Wh × Method) (s t : PeriodShare) → x ≡ y → s ≡ t → Gives y → SharingAt c b p (i + 1) t → Gives x × SharingAt c b p (i + 1) s
  given x y s t ex es gives at = (subst Gives (sym ex) gives, subst (SharingAt c b p (i + 1)) (sym es) at)

module _ (c : Case) (b : Billed) (p : ℕ) where
  -- ## Which hours share

  group_read : (r : Rule) (i : ℕ) → alters r ≡ true → lies c p i ≡ true → was_read c i ≡ true → in_group c b p r i ≡ true
  group_read Keep i a l h = absurd (false≢true a)
  group_read Rescale i a l h = and_from (lies c p i) (was_read c i) l h
  group_read Fill i a l h = absurd (false≢true a)
  group_read CutDown i a l h = and_from (lies c p i) (was_read c i) l h

  group_unread : (r : Rule) (i : ℕ) → alters r ≡ false → was_read c i ≡ true → in_group c b p r i ≡ false
  group_unread Keep i a h = refl
  group_unread Rescale i a h = absurd (true≢false a)
  group_unread Fill i a h = and_right (lies c p i) (not (was_read c i)) (not_from_true (was_read c i) h)
  group_unread CutDown i a h = absurd (true≢false a)

  group_missing : (r : Rule) (i : ℕ) → completes r ≡ true → lies c p i ≡ true → was_read c i ≡ false → in_group c b p r i ≡ true
  group_missing Keep i a l h = absurd (false≢true a)
  group_missing Rescale i a l h = absurd (false≢true a)
  group_missing Fill i a l h = and_from (lies c p i) (not (was_read c i)) l (not_from_false (was_read c i) h)
  group_missing CutDown i a l h = absurd (false≢true a)

  group_unfilled : (r : Rule) (i : ℕ) → completes r ≡ false → was_read c i ≡ false → in_group c b p r i ≡ false
  group_unfilled Keep i a h = refl
  group_unfilled Rescale i a h = and_right (lies c p i) (was_read c i) h
  group_unfilled Fill i a h = absurd (true≢false a)
  group_unfilled CutDown i a h = and_right (lies c p i) (was_read c i) h

  pub group_outside : (r : Rule) (i : ℕ) → lies c p i ≡ false → in_group c b p r i ≡ false
  group_outside Keep i l = refl
  group_outside Rescale i l = and_left (lies c p i) (was_read c i) l
  group_outside Fill i l = and_left (lies c p i) (not (was_read c i)) l
  group_outside CutDown i l = and_left (lies c p i) (was_read c i) l

  own_read : (r : Rule) (i : ℕ) → alters r ≡ true → own_weight c b p r i ≡ energy_read c i
  own_read Keep i a = absurd (false≢true a)
  own_read Rescale i a = refl
  own_read Fill i a = absurd (false≢true a)
  own_read CutDown i a = refl

  own_missing : (r : Rule) (i : ℕ) → completes r ≡ true → own_weight c b p r i ≡ rules.weight c i
  own_missing Keep i a = absurd (false≢true a)
  own_missing Rescale i a = absurd (false≢true a)
  own_missing Fill i a = refl
  own_missing CutDown i a = absurd (false≢true a)

  abbrev weight_by : Rule → ℕ → ℕ
  weight_by r = weighed c (in_group c b p r) (own_weight c b p r)

  -- ## What an hour gets

  shared_read : (r : Rule) (i : ℕ) → alters r ≡ true → read_hour c b (rule_of r) p i ≡ (portion (to_share c b p r) (weight_by r) (count c) i, 3)
  shared_read Keep i a = absurd (false≢true a)
  shared_read Rescale i a = refl
  shared_read Fill i a = absurd (false≢true a)
  shared_read CutDown i a = refl

  kept_read : (r : Rule) (i : ℕ) → alters r ≡ false → read_hour c b (rule_of r) p i ≡ (energy_read c i, 1)
  kept_read Keep i a = refl
  kept_read Rescale i a = absurd (true≢false a)
  kept_read Fill i a = refl
  kept_read CutDown i a = absurd (true≢false a)

  shared_missing : (r : Rule) (i : ℕ) → completes r ≡ true → missing_hour c b (rule_of r) p i ≡ (portion (to_share c b p r) (weight_by r) (count c) i, missing_method c b b.source)
  shared_missing Keep i a = absurd (false≢true a)
  shared_missing Rescale i a = absurd (false≢true a)
  shared_missing Fill i a = refl
  shared_missing CutDown i a = absurd (false≢true a)

  none_missing : (r : Rule) (i : ℕ) → completes r ≡ false → missing_hour c b (rule_of r) p i ≡ (0, missing_method c b b.source)
  none_missing Keep i a = refl
  none_missing Rescale i a = refl
  none_missing Fill i a = absurd (true≢false a)
  none_missing CutDown i a = refl

  closed_read : (i : ℕ) → lies c p i ≡ true → was_read c i ≡ true → closed_hour c b i ≡ read_hour c b (rule c b p) p i
  closed_read i l h =
      let q = period_at c i in
      ap (λ x. cond x (read_hour c b (rule c b q) q i) (missing_hour c b (rule c b q) q i)) h ∙ ap (λ x. read_hour c b (rule c b x) x i) (eqb-true q p l)

  closed_missing : (i : ℕ) → lies c p i ≡ true → was_read c i ≡ false → closed_hour c b i ≡ missing_hour c b (rule c b p) p i
  closed_missing i l h =
      let q = period_at c i in
      ap (λ x. cond x (read_hour c b (rule c b q) q i) (missing_hour c b (rule c b q) q i)) h ∙ ap (λ x. missing_hour c b (rule c b x) x i) (eqb-true q p l)

  -- ## Where the sharing stands

  pub stays : (i : ℕ) (s : PeriodShare) → SharingAt c b p i s → in_group c b p s.rule i ≡ false → SharingAt c b p (i + 1) s
  stays i s at out =
      let z = outside_weight (count c) (in_group c b p s.rule) (own_weight c b p s.rule) i out in
      let e : below (weight_by s.rule) i ≡ below (weight_by s.rule) i + weight_by s.rule i = omega arith in
      record {
        rule = at.rule;
        even = at.even;
        total = at.total;
        sum = at.sum;
        past = at.past ∙ e ∙ ap (below (weight_by s.rule)) (sym (add-one i));
        missing = at.missing;
        fits = at.fits;
      }

  module _ (i : ℕ) (s : PeriodShare) (o : Option Wh) (w : ℕ) (d : Due c b p i s o w) where
    read_flag_of : (e : Wh) → o ≡ Some e → was_read c i ≡ true
    read_flag_of e h = ap is_some (d.hour ∙ ap in_wh h)

    missing_flag_of : o ≡ None → was_read c i ≡ false
    missing_flag_of h = ap is_some (d.hour ∙ ap in_wh h)

    energy_of : (e : Wh) → o ≡ Some e → energy_read c i ≡ e.0
    energy_of e h = ap (λ x. unwrap_or x 0) (d.hour ∙ ap in_wh h)

    -- a read hour shares, or a missing one
    abbrev Takes : Type 0
    Takes = (in_group c b p s.rule i ≡ true) × (own_weight c b p s.rule i ≡ w)

    pub read_takes : (e : Wh) → o ≡ Some e → alters s.rule ≡ true → Takes
    read_takes e h a =
        let f = read_flag_of e h in
        (group_read s.rule i a d.here f, own_read s.rule i a ∙ sym (d.weight ∙ ap (λ x. cond x (energy_read c i) (rules.weight c i)) f))

    pub missing_takes : o ≡ None → completes s.rule ≡ true → Takes
    missing_takes h a =
        let f = missing_flag_of h in
        (group_missing s.rule i a d.here f, own_missing s.rule i a ∙ sym (d.weight ∙ ap (λ x. cond x (energy_read c i) (rules.weight c i)) f))

    -- what the weight counts
    abbrev counted : ℕ
    counted = cond s.share.even 1 w

    weight_is : Takes → weight_by s.rule i ≡ counted
    weight_is t = inside_weight (count c) (in_group c b p s.rule) (own_weight c b p s.rule) i t.0 ∙ ap₂ (λ x y. cond x 1 y) (sym d.state.even) t.1

    pub may_take : Takes → (0 < s.share.sum) × ((s.share.past + counted ≤ s.share.sum) × (s.share.total * s.share.sum < 18446744073709551616))
    may_take t =
        let pos = group_positive (count c) (in_group c b p s.rule) (own_weight c b p s.rule) i d.within t.0 in
        let up = below_grows (weight_by s.rule) (count c) (suc i) d.within in
        let e = weight_is t in
        let a = d.state.past in
        let z = d.state.sum in
        (omega arith, (omega arith, d.state.fits))

    module _ (t : Takes) (sh : Share) (same : (sh.total ≡ s.share.total) × (sh.even ≡ s.share.even) × (sh.sum ≡ s.share.sum)) (past : sh.past ≡ s.share.past + counted) where
      pub moved : SharingAt c b p (i + 1) (record { rule = s.rule; share = sh; missing = s.missing })
      moved =
          let fits : sh.total * sh.sum ≡ s.share.total * s.share.sum = ap₂ (λ x y. x * y) same.0 same.2 in
          record {
            rule = d.state.rule;
            even = same.1 ∙ d.state.even;
            total = same.0 ∙ d.state.total;
            sum = same.2 ∙ d.state.sum;
            past = past ∙ ap₂ (λ x y. x + y) d.state.past (sym (weight_is t)) ∙ ap (below (weight_by s.rule)) (sym (add-one i));
            missing = d.state.missing;
            fits = subst (λ x. x < 18446744073709551616) (sym fits) d.state.fits;
          }

    -- the portion that is taken is the place's
    pub taken : Takes → (x : ℕ) → ((f : ℕ → ℕ) (n k : ℕ) → below f n ≡ s.share.sum → below f k ≡ s.share.past → f k ≡ counted → x ≡ portion s.share.total f n k) →
        x ≡ portion (to_share c b p s.rule) (weight_by s.rule) (count c) i
    taken t x h =
        h (weight_by s.rule) (count c) i (sym d.state.sum) (sym d.state.past) (weight_is t)
        ∙ ap (λ y. portion y (weight_by s.rule) (count c) i) d.state.total

    pub closes_shared_read : (e : Wh) → o ≡ Some e → alters s.rule ≡ true → (x : ℕ) → x ≡ portion (to_share c b p s.rule) (weight_by s.rule) (count c) i →
        (x, 3) ≡ closed_hour c b i
    closes_shared_read e h a x q =
        ap (λ y. (y, 3)) q ∙ sym (shared_read s.rule i a) ∙ ap (λ r. read_hour c b r p i) d.state.rule ∙ sym (closed_read i d.here (read_flag_of e h))

    pub closes_kept_read : (e : Wh) → o ≡ Some e → alters s.rule ≡ false → (e.0, 1) ≡ closed_hour c b i
    closes_kept_read e h a =
        ap (λ y. (y, 1)) (sym (energy_of e h)) ∙ sym (kept_read s.rule i a) ∙ ap (λ r. read_hour c b r p i) d.state.rule ∙ sym (closed_read i d.here (read_flag_of e h))

    pub closes_shared_missing : o ≡ None → completes s.rule ≡ true → (x m : ℕ) → x ≡ portion (to_share c b p s.rule) (weight_by s.rule) (count c) i → m ≡ missing_method c b b.source →
        (x, m) ≡ closed_hour c b i
    closes_shared_missing h a x m q em =
        ap₂ (λ y z. (y, z)) q em ∙ sym (shared_missing s.rule i a) ∙ ap (λ r. missing_hour c b r p i) d.state.rule ∙ sym (closed_missing i d.here (missing_flag_of h))

    pub closes_none_missing : o ≡ None → completes s.rule ≡ false → (m : ℕ) → m ≡ missing_method c b b.source → (0, m) ≡ closed_hour c b i
    closes_none_missing h a m em =
        ap (λ z. (0, z)) em ∙ sym (none_missing s.rule i a) ∙ ap (λ r. missing_hour c b r p i) d.state.rule ∙ sym (closed_missing i d.here (missing_flag_of h))

    pub kept_stays : (e : Wh) → o ≡ Some e → alters s.rule ≡ false → SharingAt c b p (i + 1) s
    kept_stays e h a = stays i s d.state (group_unread s.rule i a (read_flag_of e h))

    pub none_stays : o ≡ None → completes s.rule ≡ false → SharingAt c b p (i + 1) s
    none_stays h a = stays i s d.state (group_unfilled s.rule i a (missing_flag_of h))
