-- Looking up in a list of records after some were put, and how long it can get.
use Rattle.std.proofs.Common.{◌≡◌, ℕ, suc, ◌+◌, ◌≤◌, Bool, true, false, cond, not, ◌&&◌, ◌||◌, eqb, ltb, ◌⊎◌, List, [], ◌∷◌, ◌++◌, length, is_some, Some, None, Option, sym, refl, ap, ◌∙◌, subst, ap₂, inl, inr, ⊎_elim, arith}
use Rattle.std.proofs.lemmas.Bool.{and_from, and_left, and_parts, and_right, both_ways, cases_Bool, cond-false, cond-true, eq-eqb, eqb-true, ltb-true, ne_eqb, not-true, or_cases, or_left, or_right}
use Rattle.std.specs.List.{AllByRecursion}
use Rattle.f5d.proofs.Turns.{same_itself, same_true, same_turned}
use Rattle.f5d.specs.Records.{apart, follows_on, in_turn, Record, same}
use Rattle.retail.specs.Ledgers.{put, put_all, record_of, same_key}
use Rattle.retail.specs.LoadLaw.{new_ones, or_else}

-- whether a record stands under this supply and hour
abbrev pub under : List ℕ → ℕ → Record → Bool
under u h r = same r.supply u && eqb r.hour h

pub under_true : (u : List ℕ) (h : ℕ) (r : Record) → under u h r ≡ true → (r.supply ≡ u) × (r.hour ≡ h)
under_true u h r e =
    let p = and_parts (same r.supply u) (eqb r.hour h) e in
    (same_true r.supply u p.0, eqb-true r.hour h p.1)

pub under_from : (u : List ℕ) (h : ℕ) (r : Record) → r.supply ≡ u → r.hour ≡ h → under u h r ≡ true
under_from u h r d e =
    and_from (same r.supply u) (eqb r.hour h) (rw d (same_itself u)) (eq-eqb r.hour h e)

-- two records of one key stand under the same supplies and hours
pub same_key_true : (r q : Record) → same_key r q ≡ true → (r.supply ≡ q.supply) × (r.hour ≡ q.hour)
same_key_true r q e =
    let p = and_parts (same r.supply q.supply) (eqb r.hour q.hour) e in
    (same_true r.supply q.supply p.0, eqb-true r.hour q.hour p.1)

pub same_key_from : (r q : Record) → r.supply ≡ q.supply → r.hour ≡ q.hour → same_key r q ≡ true
same_key_from r q d e = under_from q.supply q.hour r d e

cond-drop : {A : Type 0} (b c : Bool) (x y z : A) → c ≡ b → cond b x z ≡ cond b x (cond c y z)
cond-drop true c x y z e = refl
cond-drop false true x y z e = absurd (both_ways true e refl)
cond-drop false false x y z e = refl

cond-swap : {A : Type 0} (b c : Bool) (x y z : A) → (b ≡ true → c ≡ true → ⊥) → cond c y (cond b x z) ≡ cond b x (cond c y z)
cond-swap true true x y z f = absurd (f refl refl)
cond-swap true false x y z f = refl
cond-swap false true x y z f = refl
cond-swap false false x y z f = refl

pub under_one : (u : List ℕ) (h : ℕ) (r q : Record) → under u h r ≡ true → under u h q ≡ true → same_key r q ≡ true
under_one u h r q d e =
    let a = under_true u h r d in
    let b = under_true u h q e in
    same_key_from r q (a.0 ∙ sym b.0) (a.1 ∙ sym b.1)

pub under_same : (u : List ℕ) (h : ℕ) (r q : Record) → same_key r q ≡ true → under u h q ≡ under u h r
under_same u h r q e =
    let p = same_key_true r q e in
    ap₂ (λ (s : List ℕ) (t : ℕ). same s u && eqb t h) (sym p.0) (sym p.1)

pub record_put : (u : List ℕ) (h : ℕ) (r : Record) (qs : List Record) →
    record_of u h (put r qs) ≡ cond (under u h r) (Some r) (record_of u h qs)
record_put u h r [] = refl
record_put u h r (q ∷ qs) = go (same_key r q) refl (record_put u h r qs)
  where
    go : (b : Bool) → same_key r q ≡ b → record_of u h (put r qs) ≡ cond (under u h r) (Some r) (record_of u h qs) →
        record_of u h (cond b (r ∷ qs) (q ∷ put r qs)) ≡ cond (under u h r) (Some r) (cond (under u h q) (Some q) (record_of u h qs))
    go true e ih = cond-drop (under u h r) (under u h q) (Some r) (Some q) (record_of u h qs) (under_same u h r q e)
    go false e ih =
        ap (λ (z : Option Record). cond (under u h q) (Some q) z) ih
        ∙ cond-swap (under u h r) (under u h q) (Some r) (Some q) (record_of u h qs) (λ x y. both_ways (same_key r q) e (under_one u h r q x y))

-- ## Looking up after a file was put

-- a file has no record of a supply that it is apart from
pub apart_none : (u : List ℕ) (h : ℕ) (rs : List Record) → apart u rs ≡ true → record_of u h rs ≡ None
apart_none u h [] e = refl
apart_none u h (r ∷ rs) e =
    let p = and_parts (not (same u r.supply)) (apart u rs) e in
    cond-false (under u h r) (Some r) (record_of u h rs) (and_left (same r.supply u) (eqb r.hour h) (same_turned r.supply u ∙ not-true (same u r.supply) p.0))
    ∙ apart_none u h rs p.1

-- behind a record there is none of its supply for its hour or an earlier one
none_behind : (u : List ℕ) (h : ℕ) (r : Record) (rs : List Record) → in_turn (r ∷ rs) ≡ true → r.supply ≡ u → h ≤ r.hour → record_of u h rs ≡ None
none_behind u h r [] t d l = refl
none_behind u h r (q ∷ qs) t d l =
    let p = and_parts (follows_on r (q ∷ qs)) (in_turn (q ∷ qs)) t in
    go (same r.supply q.supply) refl p.0 (λ f m. none_behind u h q qs p.1 f m)
  where
    go : (b : Bool) → same r.supply q.supply ≡ b → cond b (ltb r.hour q.hour) (apart r.supply (q ∷ qs)) ≡ true →
        (q.supply ≡ u → h ≤ q.hour → record_of u h qs ≡ None) → record_of u h (q ∷ qs) ≡ None
    go true s x ih =
        let later = ltb-true r.hour q.hour x in
        cond-false (under u h q) (Some q) (record_of u h qs) (and_right (same q.supply u) (eqb q.hour h) (ne_eqb q.hour h (λ e. omega arith)))
        ∙ ih (sym (same_true r.supply q.supply s) ∙ d) (omega arith)
    go false s x ih = apart_none u h (q ∷ qs) (subst (λ v. apart v (q ∷ qs) ≡ true) d x)

-- after a file was put there is its record, or what was there
pub record_put_all : (u : List ℕ) (h : ℕ) (rs : List Record) → in_turn rs ≡ true → (qs : List Record) →
    record_of u h (put_all rs qs) ≡ or_else (record_of u h rs) (record_of u h qs)
record_put_all u h [] t qs = refl
record_put_all u h (r ∷ rs) t qs =
    record_put_all u h rs (and_parts (follows_on r rs) (in_turn rs) t).1 (put r qs)
    ∙ ap (λ (z : Option Record). or_else (record_of u h rs) z) (record_put u h r qs)
    ∙ go (under u h r) refl
  where
    go : (b : Bool) → under u h r ≡ b →
        or_else (record_of u h rs) (cond b (Some r) (record_of u h qs)) ≡ or_else (cond b (Some r) (record_of u h rs)) (record_of u h qs)
    go true e =
        let p = under_true u h r e in
        let hr = p.1 in
        ap (λ (z : Option Record). or_else z (Some r)) (none_behind u h r rs t p.0 (omega arith))
    go false e = refl

-- ## How long a list of records can get

-- some record stands under the key of r
abbrev pub has : Record → List Record → Bool
has r [] = false
has r (q ∷ qs) = same_key r q || has r qs

pub has_keeps : (k r : Record) (qs : List Record) → has k qs ≡ true → has k (put r qs) ≡ true
has_keeps k r [] e = absurd (both_ways false refl e)
has_keeps k r (q ∷ qs) e = go (same_key r q) refl (has_keeps k r qs)
  where
    go : (b : Bool) → same_key r q ≡ b → (has k qs ≡ true → has k (put r qs) ≡ true) → has k (cond b (r ∷ qs) (q ∷ put r qs)) ≡ true
    go true t ih =
        let p = same_key_true r q t in
        let f : same_key k r ≡ same_key k q = ap₂ (λ (s : List ℕ) (n : ℕ). same k.supply s && eqb k.hour n) p.0 p.1 in
        rw f e
    go false t ih = split (or_cases (same_key k q) (has k qs) e)
      where
        split : (same_key k q ≡ true) ⊎ (has k qs ≡ true) → (same_key k q || has k (put r qs)) ≡ true
        split (inl x) = or_left (same_key k q) (has k (put r qs)) x
        split (inr x) = or_right (same_key k q) (has k (put r qs)) (ih x)

pub has_put_self : (k r : Record) (qs : List Record) → same_key k r ≡ true → has k (put r qs) ≡ true
has_put_self k r [] e = or_left (same_key k r) false e
has_put_self k r (q ∷ qs) e = go (same_key r q) (has_put_self k r qs e)
  where
    go : (b : Bool) → has k (put r qs) ≡ true → has k (cond b (r ∷ qs) (q ∷ put r qs)) ≡ true
    go true ih = or_left (same_key k r) (has k qs) e
    go false ih = or_right (same_key k q) (has k (put r qs)) ih

pub length-put : (r : Record) (qs : List Record) → length (put r qs) ≡ length qs + cond (has r qs) 0 1
length-put r [] = refl
length-put r (q ∷ qs) = go (same_key r q) (length-put r qs)
  where
    go : (b : Bool) → length (put r qs) ≡ length qs + cond (has r qs) 0 1 → length (cond b (r ∷ qs) (q ∷ put r qs)) ≡ suc (length qs) + cond (b || has r qs) 0 1
    go true ih = omega arith
    go false ih = omega arith

-- how many of these keys are there
abbrev pub covered : List Record → List Record → ℕ
covered qs [] = 0
covered qs (k ∷ ks) = cond (has k qs) 1 0 + covered qs ks

pub covered_le : (qs ks : List Record) → covered qs ks ≤ length ks
covered_le qs [] = omega arith
covered_le qs (k ∷ ks) = go (has k qs) (covered_le qs ks)
  where
    go : (b : Bool) → covered qs ks ≤ length ks → cond b 1 0 + covered qs ks ≤ suc (length ks)
    go true ih = omega arith
    go false ih = omega arith

covers_one : (r : Record) (qs : List Record) (k : Record) → cond (has k qs) 1 0 ≤ cond (has k (put r qs)) 1 0
covers_one r qs k = go (has k qs) (has k (put r qs)) (has_keeps k r qs)
  where
    go : (b c : Bool) → (b ≡ true → c ≡ true) → cond b 1 0 ≤ cond c 1 0
    go true true f = omega arith
    go true false f = absurd (both_ways false refl (f refl))
    go false true f = omega arith
    go false false f = omega arith

pub covered_put : (r : Record) (qs ks : List Record) → covered qs ks ≤ covered (put r qs) ks
covered_put r qs [] = omega arith
covered_put r qs (k ∷ ks) = let a = covers_one r qs k in let b = covered_put r qs ks in omega arith

pub has_alike : (k r : Record) (qs : List Record) → k.supply ≡ r.supply → k.hour ≡ r.hour → has k qs ≡ has r qs
has_alike k r [] d e = refl
has_alike k r (q ∷ qs) d e =
    ap₂ ◌||◌ (ap₂ (λ (s : List ℕ) (n : ℕ). same s q.supply && eqb n q.hour) d e) (has_alike k r qs d e)

pub covered_more : (r : Record) (qs ks : List Record) → has r ks ≡ true → has r qs ≡ false → covered qs ks + 1 ≤ covered (put r qs) ks
covered_more r qs [] e f = absurd (both_ways false refl e)
covered_more r qs (k ∷ ks) e f = go (same_key r k) refl e (covered_more r qs ks)
  where
    go : (b : Bool) → same_key r k ≡ b → (b || has r ks) ≡ true → (has r ks ≡ true → has r qs ≡ false → covered qs ks + 1 ≤ covered (put r qs) ks) →
        cond (has k qs) 1 0 + covered qs ks + 1 ≤ cond (has k (put r qs)) 1 0 + covered (put r qs) ks
    go true t x ih =
        let p = same_key_true r k t in
        let no : has k qs ≡ false = has_alike k r qs (sym p.0) (sym p.1) ∙ f in
        let there : has k (put r qs) ≡ true = has_put_self k r qs (same_key_from k r (sym p.0) (sym p.1)) in
        let zero_one : cond {A = ℕ} (has k qs) 1 0 ≡ 0 = cond-false (has k qs) 1 0 no in
        let one-zero : cond {A = ℕ} (has k (put r qs)) 1 0 ≡ 1 = cond-true (has k (put r qs)) 1 0 there in
        let b = covered_put r qs ks in
        omega arith
    go false t x ih = let a = covers_one r qs k in let b = ih x f in omega arith

-- no more records than keys, each put under one of the keys
pub fits_put : (r : Record) (qs ks : List Record) → has r ks ≡ true → length qs ≤ covered qs ks → length (put r qs) ≤ covered (put r qs) ks
fits_put r qs ks e le = go (has r qs) refl
  where
    go : (b : Bool) → has r qs ≡ b → length (put r qs) ≤ covered (put r qs) ks
    go true t =
        let a = length-put r qs in
        let c : cond {A = ℕ} (has r qs) 0 1 ≡ 0 = cond-true (has r qs) 0 1 t in
        let m = covered_put r qs ks in
        omega arith
    go false t =
        let a = length-put r qs in
        let c : cond {A = ℕ} (has r qs) 0 1 ≡ 1 = cond-false (has r qs) 0 1 t in
        let m = covered_more r qs ks e t in
        omega arith

pub fits_put_all : (rs qs ks : List Record) → AllByRecursion (λ r. has r ks ≡ true) rs → length qs ≤ covered qs ks → length (put_all rs qs) ≤ covered (put_all rs qs) ks
fits_put_all [] qs ks e le = le
fits_put_all (r ∷ rs) qs ks e le = fits_put_all rs (put r qs) ks e.1 (fits_put r qs ks e.0 le)

-- putting after putting
pub put_all-append : (xs ys qs : List Record) → put_all (xs ++ ys) qs ≡ put_all ys (put_all xs qs)
put_all-append [] ys qs = refl
put_all-append (x ∷ xs) ys qs = put_all-append xs ys (put x qs)

-- ## How many records a file adds

pub same_key_turned : (r q : Record) → same_key r q ≡ true → same_key q r ≡ true
same_key_turned r q e = let p = same_key_true r q e in same_key_from q r (sym p.0) (sym p.1)

has_record : (r : Record) (qs : List Record) → is_some (record_of r.supply r.hour qs) ≡ has r qs
has_record r [] = refl
has_record r (q ∷ qs) = go (same_key q r) (same_key r q) (same_key_turned q r) (same_key_turned r q) (has_record r qs)
  where
    go : (b c : Bool) → (b ≡ true → c ≡ true) → (c ≡ true → b ≡ true) → is_some (record_of r.supply r.hour qs) ≡ has r qs →
        is_some (cond b (Some q) (record_of r.supply r.hour qs)) ≡ (c || has r qs)
    go true true f g ih = refl
    go true false f g ih = absurd (both_ways false refl (f refl))
    go false true f g ih = absurd (both_ways false refl (g refl))
    go false false f g ih = ih

-- what a record adds is nothing to those of other keys
new_alike : (r : Record) (rs qs : List Record) → record_of r.supply r.hour rs ≡ None → new_ones rs (put r qs) ≡ new_ones rs qs
new_alike r [] qs e = refl
new_alike r (q ∷ rs) qs e = go (same_key q r) refl e (λ f. new_alike r rs qs f)
  where
    go : (b : Bool) → same_key q r ≡ b → cond b (Some q) (record_of r.supply r.hour rs) ≡ None →
        (record_of r.supply r.hour rs ≡ None → new_ones rs (put r qs) ≡ new_ones rs qs) → new_ones (q ∷ rs) (put r qs) ≡ new_ones (q ∷ rs) qs
    go true s f ih = let z : ◌≡◌ {A = ℕ} 0 1 = cc in absurd (omega arith)
    go false s f ih =
        let here : record_of q.supply q.hour (put r qs) ≡ record_of q.supply q.hour qs =
        record_put q.supply q.hour r qs
        ∙ cond-false (same_key r q) (Some r) (record_of q.supply q.hour qs)
        (⊎_elim (λ t. absurd (both_ways (same_key q r) s (same_key_turned r q t))) (λ f. f) (cases_Bool (same_key r q))) in
        ap₂ (λ (o : Option Record) (n : ℕ). cond {A = ℕ} (is_some o) 0 1 + n) here (ih f)

-- a file needs a place more for each record that is new
pub length-put_all : (rs qs : List Record) → in_turn rs ≡ true → length (put_all rs qs) ≡ length qs + new_ones rs qs
length-put_all [] qs t = omega arith
length-put_all (r ∷ rs) qs t =
    let p = and_parts (follows_on r rs) (in_turn rs) t in
    let ih = length-put_all rs (put r qs) p.1 in
    let one = length-put r qs in
    let alike = new_alike r rs qs (none_behind r.supply r.hour r rs t refl (omega arith)) in
    let there : cond {A = ℕ} (is_some (record_of r.supply r.hour qs)) 0 1 ≡ cond (has r qs) 0 1 = ap (λ (b : Bool). cond {A = ℕ} b 0 1) (has_record r qs) in
    omega arith
