-- A history whose hours rise, and what is found in it.
use Rattle.std.proofs.Common.{◌≡◌, ℕ, zero, suc, ◌<◌, true, eqb, ltb, List, [], ◌∷◌, get_or, length, Some, None, Option, MatchOption, Bor, sym, refl, ap, ◌∙◌, ⊎_elim, arith}
use Rattle.std.specs.List.{AllByRecursion, Contains}
use Rattle.std.proofs.ByRecursion.{All-get_or, All-weaker}
use Rattle.std.proofs.lemmas.Bool.{and_parts, cases_Bool, cond-false, cond-true, eq-eqb, eqb-true, ltb-true, ne_eqb}
use Rattle.std.specs.Option.{option_map}
use Rattle.official_time.specs.declared.hour.Hour.{Hour}
use Rattle.official_time.specs.HourKeys.{Earlier, same_hour}
use Rattle.sorted_table.specs.declared.place.Place.{Place}
use Rattle.sorted_table.specs.Entries.{entry, Lacks, Rising}
use Rattle.vocabulary.specs.declared.energy.Wh.{Wh}
use Rattle.profile.specs.Rules.{after, energy_at}

-- the test for rising hours says that the entries are in order
pub rising_from : (n : ℕ) (ps : List (Place Hour Wh)) → after n ps ≡ true → AllByRecursion (λ p. n < p.key.number) ps × Rising Earlier ps
rising_from n [] t = (tt, tt)
rising_from n (p ∷ ps) t =
    let q = and_parts (ltb n p.key.number) (after p.key.number ps) t in
    let l = ltb-true n p.key.number q.0 in
    let r = rising_from p.key.number ps q.1 in
    ((l, All-weaker (λ x. p.key.number < x.key.number) (λ x. n < x.key.number) (λ x h. omega arith) ps r.0), (r.0, r.1))

pub found_at : (k : Hour) (v : Wh) (ps : List (Place Hour Wh)) → Rising Earlier ps → Contains ps (entry k v) → energy_at ps k.number ≡ Some v.0
found_at k v ps r has = by ps r has.0 has.1 has.2
  where
    by : (ps : List (Place Hour Wh)) → Rising Earlier ps → (i : ℕ) → i < length ps → get_or ps i (entry k v) ≡ entry k v → energy_at ps k.number ≡ Some v.0
    by [] r i l here = absurd (omega arith)
    by (p ∷ ps) r zero l here =
        let e : p ≡ entry k v = here in
        cond-true (eqb p.key.number k.number) (Some p.value.0) (energy_at ps k.number) (eq-eqb p.key.number k.number (λ i. (e i).key.number)) ∙ (λ i. Some (e i).value.0)
    by (p ∷ ps) r (suc i) l here =
        let later = All-get_or (λ x. Earlier p.key x.key) ps i (entry k v) (omega arith) r.0 in
        let e : get_or ps i (entry k v) ≡ entry k v = here in
        let n : p.key.number < k.number = omega (arith, ap (λ x. x.key.number) e) in
        cond-false (eqb p.key.number k.number) (Some p.value.0) (energy_at ps k.number) (ne_eqb p.key.number k.number (λ q. omega arith)) ∙ by ps r.1 i (omega arith) here

pub lacking_at : (k : Hour) (ps : List (Place Hour Wh)) → Lacks ps k → energy_at ps k.number ≡ None
lacking_at k [] none = refl
lacking_at k (p ∷ ps) none =
    ⊎_elim
    (λ t. absurd (none p.value (0, omega arith, λ i. record { key = same_hour p.key k (eqb-true p.key.number k.number t) i; value = p.value })))
    (λ f. cond-false (eqb p.key.number k.number) (Some p.value.0) (energy_at ps k.number) f ∙ lacking_at k ps (λ v has. none v (suc has.0, omega arith, has.2)))
    (cases_Bool (eqb p.key.number k.number))

-- what a search in it answers
pub energy_found : (k : Hour) (ps : List (Place Hour Wh)) (o : Option (Bor Wh)) → Rising Earlier ps → MatchOption o (Lacks ps k) (λ v. Contains ps (entry k v.now)) → option_map (λ wh. wh.0) (option_map (λ x. x.now) o) ≡ energy_at ps k.number
energy_found k ps None r lacks = sym (lacking_at k ps lacks)
energy_found k ps (Some v) r has = sym (found_at k v.now ps r has)
