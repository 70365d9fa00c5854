-- Names of files: when they are the same, and that each next one is later.
use Rattle.std.proofs.Common.{◌≡◌, ◌+◌, ◌<◌, Bool, true, false, ◌&&◌, ◌||◌, eqb, ltb, ◌⊎◌, refl, subst, inl, inr, ⊎_elim, arith}
use Rattle.std.proofs.lemmas.Bool.{and_from, and_parts, cases_Bool, eq-eqb, eqb-true, false≢true, lt-ltb, ltb-true, or_cases, or_left, or_right}
use Rattle.f5d.proofs.Turns.{same_itself, same_true, true_same}
use Rattle.f5d.specs.Names.{comes_next, Name}
use Rattle.f5d.specs.Records.{same}
use Rattle.f5d.specs.declared.name.Word.{Word}
use Rattle.f5d.specs.declared.name.Word.TheVariants.{F5d, Rf5d}
use Rattle.official_time.specs.Dates.{day_of}
use Rattle.official_time.specs.declared.date.Date.{Date}
use Rattle.outbox.specs.Outboxes.{same_date, same_name, same_word}

-- a test that cannot be true is false
never_true : (b : Bool) → (b ≡ true → ⊥) → b ≡ false
never_true b f = ⊎_elim (λ t. absurd (f t)) (λ e. e) (cases_Bool b)

-- ## The same name

word_true : (v w : Word) → same_word v w ≡ true → v ≡ w
word_true F5d F5d e = refl
word_true F5d Rf5d e = absurd (false≢true e)
word_true Rf5d F5d e = absurd (false≢true e)
word_true Rf5d Rf5d e = refl

word_itself : (w : Word) → same_word w w ≡ true
word_itself F5d = refl
word_itself Rf5d = refl

date_true : (d e : Date) → same_date d e ≡ true → d ≡ e
date_true d e h =
    let p = and_parts (eqb d.year e.year && eqb d.month e.month) (eqb d.day e.day) h in
    let q = and_parts (eqb d.year e.year) (eqb d.month e.month) p.0 in
    let y = eqb-true d.year e.year q.0 in
    let m = eqb-true d.month e.month q.1 in
    let t = eqb-true d.day e.day p.1 in
    λ i. record { year = y i; month = m i; day = t i }

date_itself : (d : Date) → same_date d d ≡ true
date_itself d = and_from _ _ (and_from _ _ (eq-eqb d.year d.year refl) (eq-eqb d.month d.month refl)) (eq-eqb d.day d.day refl)

pub name_true : (m n : Name) → same_name m n ≡ true → m ≡ n
name_true m n h =
    let p = and_parts (same_word m.word n.word && same m.distributor n.distributor && same m.retailer n.retailer && same_date m.date n.date) (eqb m.version n.version) h in
    let q = and_parts (same_word m.word n.word && same m.distributor n.distributor && same m.retailer n.retailer) (same_date m.date n.date) p.0 in
    let r = and_parts (same_word m.word n.word && same m.distributor n.distributor) (same m.retailer n.retailer) q.0 in
    let s = and_parts (same_word m.word n.word) (same m.distributor n.distributor) r.0 in
    let w = word_true m.word n.word s.0 in
    let d = same_true m.distributor n.distributor s.1 in
    let c = same_true m.retailer n.retailer r.1 in
    let t = date_true m.date n.date q.1 in
    let v = eqb-true m.version n.version p.1 in
    λ i. record { word = w i; distributor = d i; retailer = c i; date = t i; version = v i }

pub name_itself : (n : Name) → same_name n n ≡ true
name_itself n =
    and_from _ _
    (and_from _ _ (and_from _ _ (and_from _ _ (word_itself n.word) (same_itself n.distributor)) (same_itself n.retailer)) (date_itself n.date))
    (eq-eqb n.version n.version refl)

-- ## Earlier and later names

-- on an earlier day, or with a lower version on the same
abbrev pub Before : Name → Name → Type 0
Before m n = (day_of m.date < day_of n.date) ⊎ ((day_of m.date ≡ day_of n.date) × (m.version < n.version))

pub before_trans : (m n k : Name) → Before m n → Before n k → Before m k
before_trans m n k (inl p) (inl q) = inl (omega arith)
before_trans m n k (inl p) (inr q) = let e = q.0 in inl (omega arith)
before_trans m n k (inr p) (inl q) = let e = p.0 in inl (omega arith)
before_trans m n k (inr p) (inr q) = let e = p.0 in let f = q.0 in let a = p.1 in let b = q.1 in inr (omega arith, omega arith)

pub not_before_itself : (n : Name) → Before n n → ⊥
not_before_itself n (inl p) = omega arith
not_before_itself n (inr p) = let a = p.1 in omega arith

pub before_differs : (m n : Name) → Before m n → same_name m n ≡ false
before_differs m n b = never_true (same_name m n) (λ e. not_before_itself n (subst (λ k. Before k n) (name_true m n e) b))

pub after_differs : (m n : Name) → Before n m → same_name m n ≡ false
after_differs m n b = never_true (same_name m n) (λ e. not_before_itself n (subst (λ k. Before n k) (name_true m n e) b))

-- the two ways of coming next
abbrev on_the_date : Name → Name → Bool
on_the_date m n = eqb (day_of n.date) (day_of m.date) && eqb n.version (m.version + 1)

abbrev on_a_later : Name → Name → Bool
on_a_later m n = ltb (day_of m.date) (day_of n.date) && eqb n.version 0

pub next_before : (m n : Name) → comes_next m n ≡ true → Before m n
next_before m n e =
    go (or_cases (on_the_date m n) (on_a_later m n) (and_parts (same m.distributor n.distributor && same m.retailer n.retailer) (on_the_date m n || on_a_later m n) e).1)
  where
    go : (on_the_date m n ≡ true) ⊎ (on_a_later m n ≡ true) → Before m n
    go (inl q) =
        let a = and_parts (eqb (day_of n.date) (day_of m.date)) (eqb n.version (m.version + 1)) q in
        let d = eqb-true (day_of n.date) (day_of m.date) a.0 in
        let v = eqb-true n.version (m.version + 1) a.1 in
        inr (omega arith, omega arith)
    go (inr q) =
        let a = and_parts (ltb (day_of m.date) (day_of n.date)) (eqb n.version 0) q in
        inl (ltb-true (day_of m.date) (day_of n.date) a.0)

-- nothing that came before, or is, comes next
pub not_next_again : (m n : Name) → Before n m → comes_next m n ≡ false
not_next_again m n b = never_true (comes_next m n) (λ e. not_before_itself n (before_trans n m n b (next_before m n e)))

pub not_next_itself : (n : Name) → comes_next n n ≡ false
not_next_itself n = never_true (comes_next n n) (λ e. not_before_itself n (next_before n n e))

-- the next name, from its parts
pub next_from : (m n : Name) → m.distributor ≡ n.distributor → m.retailer ≡ n.retailer →
    ((day_of n.date ≡ day_of m.date) × (n.version ≡ m.version + 1)) ⊎ ((day_of m.date < day_of n.date) × (n.version ≡ 0)) → comes_next m n ≡ true
next_from m n d r c =
    and_from (same m.distributor n.distributor && same m.retailer n.retailer) (on_the_date m n || on_a_later m n)
    (and_from (same m.distributor n.distributor) (same m.retailer n.retailer) (true_same m.distributor n.distributor d) (true_same m.retailer n.retailer r))
    (go c)
  where
    go : ((day_of n.date ≡ day_of m.date) × (n.version ≡ m.version + 1)) ⊎ ((day_of m.date < day_of n.date) × (n.version ≡ 0)) → (on_the_date m n || on_a_later m n) ≡ true
    go (inl p) =
        or_left (on_the_date m n) (on_a_later m n)
        (and_from (eqb (day_of n.date) (day_of m.date)) (eqb n.version (m.version + 1)) (eq-eqb (day_of n.date) (day_of m.date) p.0) (eq-eqb n.version (m.version + 1) p.1))
    go (inr p) =
        or_right (on_the_date m n) (on_a_later m n)
        (and_from (ltb (day_of m.date) (day_of n.date)) (eqb n.version 0) (lt-ltb (day_of m.date) (day_of n.date) p.0) (eq-eqb n.version 0 p.1))
