-- What was published, newest first: the book, the name and place of the file, and the curve.
use Rattle.std.proofs.Common.{◌≡◌, ℕ, zero, suc, ◌<◌, ◌≤◌, Bool, true, false, cond, not, ◌&&◌, eqb, ltb, ◌⊎◌, List, [], ◌∷◌, ◌++◌, length, get_or, Some, None, Option, sym, refl, ap, ◌∙◌, subst, ap₂, inl, inr, arith}
use Rattle.std.proofs.ByRecursion.{All-append}
use Rattle.std.proofs.lemmas.Bool.{and_from, and_parts, and_right, both_ways, cases_order, cond-false, cond-true, eq-eqb, le-ltb, lt-ltb, ne_eqb, not-true, or_parts}
use Rattle.std.specs.List.{AllByRecursion}
use Rattle.book.specs.Books.{some_of, Terms}
use Rattle.f5d.proofs.Turns.{every_record-append, same_itself, same_true}
use Rattle.f5d.specs.Names.{Name}
use Rattle.f5d.specs.Records.{can_bear, every_record, Record, same}
use Rattle.outbox.proofs.Turns.{whole_turn}
use Rattle.retail.proofs.Lookups.{has, put_all-append, record_put_all}
use Rattle.retail.specs.Ledgers.{put_all, record_of}
use Rattle.retail.specs.LoadLaw.{or_else}
use Rattle.exchange.specs.Exchange.{nobody, Setting}
use Rattle.exchange.specs.Law.{all_apart, Fits}
use Rattle.exchange.specs.Told.{terms_at}
use Rattle.exchange.proofs.Curves.{curve_among, Curve, keys, none_in_both, none_of_other}

pub record Pub : Type 0 where
  pub book : ℕ
  pub name : Name
  pub index : ℕ
  pub curve : List Record

-- the newest curve of a supply among those that pass a test
abbrev pub newest : Setting → (Pub → Bool) → List ℕ → List Pub → List Record
newest s q u [] = []
newest s q u (p ∷ ps) = cond (same (terms_at s p.book).supply u && q p) p.curve (newest s q u ps)

-- the records of the file at a place, oldest first
abbrev pub in_file : ℕ → List Pub → List Record
in_file i [] = []
in_file i (p ∷ ps) = cond (eqb p.index i) (in_file i ps ++ p.curve) (in_file i ps)

-- later curves are in later files, or the same
abbrev pub Falling : List Pub → Type 0
Falling [] = Unit {0}
Falling (p ∷ ps) = AllByRecursion (λ q. q.index ≤ p.index) ps × Falling ps

-- its book is there, and its curve is one that lines can bear
pub record Good (s : Setting) (p : Pub) : Type 0 where
  pub there : p.book < length s.terms
  pub whole : Curve (terms_at s p.book) p.curve
  pub bears : every_record can_bear p.curve ≡ true

pub all_map : {A : Type 0} (P Q : A → Type 0) → ((x : A) → P x → Q x) → (xs : List A) → AllByRecursion P xs → AllByRecursion Q xs
all_map P Q f [] e = tt
all_map P Q f (x ∷ xs) e = (f x e.0, all_map P Q f xs e.1)

-- ## Supplies tell books apart

apart_at : (x : Terms) (ts : List Terms) (j : ℕ) → some_of (λ t. same x.supply t.supply) ts ≡ false → j < length ts → same x.supply (get_or ts j nobody).supply ≡ false
apart_at x [] j e lt = absurd (omega arith)
apart_at x (t ∷ ts) zero e lt = (or_parts (same x.supply t.supply) (some_of (λ t. same x.supply t.supply) ts) e).0
apart_at x (t ∷ ts) (suc j) e lt = apart_at x ts j (or_parts (same x.supply t.supply) (some_of (λ t. same x.supply t.supply) ts) e).1 (omega arith)

pub one_book : (ts : List Terms) → all_apart (λ t u. same t.supply u.supply) ts ≡ true → (i j : ℕ) → i < length ts → j < length ts →
    (get_or ts i nobody).supply ≡ (get_or ts j nobody).supply → i ≡ j
one_book [] e i j li lj d = absurd (omega arith)
one_book (t ∷ ts) e zero zero li lj d = refl
one_book (t ∷ ts) e zero (suc j) li lj d =
    let a = (and_parts (not (some_of (λ u. same t.supply u.supply) ts)) (all_apart (λ t u. same t.supply u.supply) ts) e).0 in
    let f = apart_at t ts j (not-true (some_of (λ u. same t.supply u.supply) ts) a) (omega arith) in
    absurd (both_ways (same t.supply (get_or ts j nobody).supply) f (rw d (same_itself (get_or ts j nobody).supply)))
one_book (t ∷ ts) e (suc i) zero li lj d =
    let a = (and_parts (not (some_of (λ u. same t.supply u.supply) ts)) (all_apart (λ t u. same t.supply u.supply) ts) e).0 in
    let f = apart_at t ts i (not-true (some_of (λ u. same t.supply u.supply) ts) a) (omega arith) in
    absurd (both_ways (same t.supply (get_or ts i nobody).supply) f (rw d (same_itself t.supply)))
one_book (t ∷ ts) e (suc i) (suc j) li lj d =
    ap suc (one_book ts (and_parts (not (some_of (λ u. same t.supply u.supply) ts)) (all_apart (λ t u. same t.supply u.supply) ts) e).1 i j (omega arith) (omega arith) d)

pub one_supply : (s : Setting) → Fits s → (i j : ℕ) → i < length s.terms → j < length s.terms →
    (terms_at s i).supply ≡ (terms_at s j).supply → i ≡ j
one_supply s f i j li lj d = one_book s.terms f.supplies i j li lj d

-- ## Looking up after a file was loaded

pub newest_alike : (s : Setting) (q q' : Pub → Bool) (u : List ℕ) (ps : List Pub) → AllByRecursion (λ p. q p ≡ q' p) ps → newest s q u ps ≡ newest s q' u ps
newest_alike s q q' u [] e = refl
newest_alike s q q' u (p ∷ ps) e =
    ap₂ (λ (b : Bool) (z : List Record). cond (same (terms_at s p.book).supply u && b) p.curve z) e.0 (newest_alike s q q' u ps e.1)

-- no curve of a supply has an hour that another lacks
newest_none : (s : Setting) → Fits s → (q : Pub → Bool) (u : List ℕ) (h : ℕ) (j : ℕ) (c : List Record) (ps : List Pub) → AllByRecursion (Good s) ps →
    j < length s.terms → Curve (terms_at s j) c → (terms_at s j).supply ≡ u → record_of u h c ≡ None → record_of u h (newest s q u ps) ≡ None
newest_none s f q u h j c [] g lj w d e = refl
newest_none s f q u h j c (p ∷ ps) g lj w d e =
    go (same (terms_at s p.book).supply u && q p) refl (newest_none s f q u h j c ps g.1 lj w d e)
  where
    go : (b : Bool) → (same (terms_at s p.book).supply u && q p) ≡ b → record_of u h (newest s q u ps) ≡ None → record_of u h (cond b p.curve (newest s q u ps)) ≡ None
    go true t ih =
        let a = same_true (terms_at s p.book).supply u (and_parts (same (terms_at s p.book).supply u) (q p) t).0 in
        let k : j ≡ p.book = one_supply s f j p.book lj g.0.there (d ∙ sym a) in
        none_in_both u h (subst (λ (i : ℕ). Curve (terms_at s i) c) k w) g.0.whole e
    go false t ih = ih

or_else_none : {A : Type 0} (x y : Option A) → (x ≡ None → y ≡ None) → or_else x y ≡ x
or_else_none None y f = f refl
or_else_none (Some x) y f = refl

-- where all are in earlier files
pub in_file_none : (m : ℕ) (ps : List Pub) → AllByRecursion (λ p. p.index < m) ps → in_file m ps ≡ []
in_file_none m [] e = refl
in_file_none m (p ∷ ps) e =
    cond-false (eqb p.index m) (in_file m ps ++ p.curve) (in_file m ps) (ne_eqb p.index m (λ d. let x = e.0 in omega arith)) ∙ in_file_none m ps e.1

-- the file is one of the first m
abbrev pub in_first : ℕ → Pub → Bool
in_first m p = ltb p.index m

pub newest_skip : (s : Setting) (q : Pub → Bool) (u : List ℕ) (p : Pub) (ps : List Pub) → q p ≡ false → newest s q u (p ∷ ps) ≡ newest s q u ps
newest_skip s q u p ps e =
    cond-false (same (terms_at s p.book).supply u && q p) p.curve (newest s q u ps) (and_right (same (terms_at s p.book).supply u) (q p) e)

pub in_file_skip : (m : ℕ) (p : Pub) (ps : List Pub) → (p.index ≡ m → ⊥) → in_file m (p ∷ ps) ≡ in_file m ps
in_file_skip m p ps e = cond-false (eqb p.index m) (in_file m ps ++ p.curve) (in_file m ps) (ne_eqb p.index m e)

pub in_file_take : (m : ℕ) (p : Pub) (ps : List Pub) → p.index ≡ m → in_file m (p ∷ ps) ≡ in_file m ps ++ p.curve
in_file_take m p ps e = cond-true (eqb p.index m) (in_file m ps ++ p.curve) (in_file m ps) (eq-eqb p.index m e)

lower_test : (m : ℕ) (p : Pub) → p.index < m → in_first m p ≡ in_first (suc m) p
lower_test m p lt = lt-ltb p.index m lt ∙ sym (lt-ltb p.index (suc m) (omega arith))

pub loaded_lookup : (s : Setting) → Fits s → (m : ℕ) (u : List ℕ) (h : ℕ) (l : List Record) (ps : List Pub) → Falling ps → AllByRecursion (Good s) ps →
    record_of u h l ≡ record_of u h (newest s (in_first m) u ps) →
    record_of u h (put_all (in_file m ps) l) ≡ record_of u h (newest s (in_first (suc m)) u ps)
loaded_lookup s f m u h l [] fall good e = e
loaded_lookup s f m u h l (p ∷ ps) fall good e = go (cases_order p.index m) (loaded_lookup s f m u h l ps fall.1 good.1)
  where
    earlier : p.index < m → AllByRecursion (λ q. q.index < m) (p ∷ ps)
    earlier lt = (lt, all_map (λ q. q.index ≤ p.index) (λ q. q.index < m) (λ q le. omega arith) ps fall.0)

    go : (p.index ≡ m) ⊎ ((p.index < m) ⊎ (m < p.index)) →
        (record_of u h l ≡ record_of u h (newest s (in_first m) u ps) → record_of u h (put_all (in_file m ps) l) ≡ record_of u h (newest s (in_first (suc m)) u ps)) →
        record_of u h (put_all (in_file m (p ∷ ps)) l) ≡ record_of u h (newest s (in_first (suc m)) u (p ∷ ps))
    go (inl x) ih =
        let x-test : in_first (suc m) p ≡ true = lt-ltb p.index (suc m) (omega arith) in
        let r : record_of u h (put_all (in_file m ps) l) ≡ record_of u h (newest s (in_first (suc m)) u ps) =
        ih (e ∙ ap (λ (z : List Record). record_of u h z) (newest_skip s (in_first m) u p ps (le-ltb p.index m (omega arith)))) in
        ap (λ (z : List Record). record_of u h (put_all z l)) (in_file_take m p ps x)
        ∙ ap (λ (z : List Record). record_of u h z) (put_all-append (in_file m ps) p.curve l)
        ∙ record_put_all u h p.curve (whole_turn good.0.whole) (put_all (in_file m ps) l)
        ∙ by_supply (same (terms_at s p.book).supply u) refl x-test r
      where
        by_supply : (b : Bool) → same (terms_at s p.book).supply u ≡ b → in_first (suc m) p ≡ true →
            record_of u h (put_all (in_file m ps) l) ≡ record_of u h (newest s (in_first (suc m)) u ps) →
            or_else (record_of u h p.curve) (record_of u h (put_all (in_file m ps) l)) ≡ record_of u h (cond (b && in_first (suc m) p) p.curve (newest s (in_first (suc m)) u ps))
        by_supply true t x r =
            or_else_none (record_of u h p.curve) (record_of u h (put_all (in_file m ps) l))
            (λ n. r ∙ newest_none s f (in_first (suc m)) u h p.book p.curve ps good.1 good.0.there good.0.whole (same_true (terms_at s p.book).supply u t) n)
            ∙ ap (λ (z : List Record). record_of u h z) (sym (cond-true (in_first (suc m) p) p.curve (newest s (in_first (suc m)) u ps) x))
        by_supply false t x r =
            ap (λ (z : Option Record). or_else z (record_of u h (put_all (in_file m ps) l))) (none_of_other u h good.0.whole t) ∙ r
    go (inr (inl x)) ih =
        ap (λ (z : List Record). record_of u h (put_all z l)) (in_file_none m (p ∷ ps) (earlier x))
        ∙ e
        ∙ ap (λ (z : List Record). record_of u h z)
        (newest_alike s (in_first m) (in_first (suc m)) u (p ∷ ps)
        (all_map (λ q. q.index < m) (λ q. in_first m q ≡ in_first (suc m) q) (λ q lt. lower_test m q lt) (p ∷ ps) (earlier x)))
    go (inr (inr x)) ih =
        ap (λ (z : List Record). record_of u h (put_all z l)) (in_file_skip m p ps (λ d. omega arith))
        ∙ ih (e ∙ ap (λ (z : List Record). record_of u h z) (newest_skip s (in_first m) u p ps (le-ltb p.index m (omega arith))))
        ∙ sym (ap (λ (z : List Record). record_of u h z) (newest_skip s (in_first (suc m)) u p ps (le-ltb p.index (suc m) (omega arith))))

-- the records of a file stand under the books' keys
pub in_file_among : (s : Setting) (m : ℕ) (ps : List Pub) → AllByRecursion (Good s) ps → AllByRecursion (λ r. has r (keys s.terms) ≡ true) (in_file m ps)
in_file_among s m [] g = tt
in_file_among s m (p ∷ ps) g = go (eqb p.index m) (in_file_among s m ps g.1)
  where
    go : (b : Bool) → AllByRecursion (λ r. has r (keys s.terms) ≡ true) (in_file m ps) → AllByRecursion (λ r. has r (keys s.terms) ≡ true) (cond b (in_file m ps ++ p.curve) (in_file m ps))
    go true ih = All-append (λ r. has r (keys s.terms) ≡ true) (in_file m ps) p.curve ih (curve_among s.terms p.book p.curve g.0.there g.0.whole)
    go false ih = ih

-- and lines can bear them
pub in_file_bears : (s : Setting) (m : ℕ) (ps : List Pub) → AllByRecursion (Good s) ps → every_record can_bear (in_file m ps) ≡ true
in_file_bears s m [] g = refl
in_file_bears s m (p ∷ ps) g = go (eqb p.index m) (in_file_bears s m ps g.1)
  where
    go : (b : Bool) → every_record can_bear (in_file m ps) ≡ true → every_record can_bear (cond b (in_file m ps ++ p.curve) (in_file m ps)) ≡ true
    go true ih =
        every_record-append can_bear (in_file m ps) p.curve
        ∙ and_from (every_record can_bear (in_file m ps)) (every_record can_bear p.curve) ih g.0.bears
    go false ih = ih
