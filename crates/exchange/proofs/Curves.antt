-- Whole curves: which records they have, and the keys under which they stand.
use Rattle.std.proofs.Common.{◌≡◌, ℕ, zero, suc, ◌+◌, ◌<◌, Bool, true, false, cond, ◌||◌, eqb, List, [], ◌∷◌, ◌++◌, length, get_or, Some, None, sym, refl, ap, ◌∙◌, ap₂, arith, length-append}
use Rattle.std.proofs.lemmas.Bool.{and_left, both_ways, cond-false, or_left, or_right}
use Rattle.std.specs.List.{AllByRecursion}
use Rattle.book.specs.BookLaw.{done, more, Whole}
use Rattle.book.specs.Books.{sum_of, Terms}
use Rattle.f5d.specs.Records.{Record, same}
use Rattle.retail.proofs.Lookups.{has, same_key_from, under, under_same}
use Rattle.retail.specs.Ledgers.{record_of, same_key}
use Rattle.exchange.specs.Exchange.{nobody}

-- c is a curve of a book of these terms
abbrev pub Curve : Terms → List Record → Type 0
Curve t c = Whole t.supply t.first t.hours c

-- ## Looking up

-- two curves of the same hours have records of the same hours
pub none_in_both : {u : List ℕ} {a n : ℕ} {c d : List Record} (v : List ℕ) (h : ℕ) → Whole u a n c → Whole u a n d → record_of v h c ≡ None → record_of v h d ≡ None
none_in_both v h done done e = refl
none_in_both v h (more {r = r} {rs = rs} p q w) (more {r = r'} {rs = rs'} p' q' w') e = go (under v h r) refl e (none_in_both v h w w')
  where
    go : (b : Bool) → under v h r ≡ b → cond b (Some r) (record_of v h rs) ≡ None → (record_of v h rs ≡ None → record_of v h rs' ≡ None) →
        cond (under v h r') (Some r') (record_of v h rs') ≡ None
    go true t x ih = let z : ◌≡◌ {A = ℕ} 0 1 = cc in absurd (omega arith)
    go false t x ih =
        cond-false (under v h r') (Some r') (record_of v h rs') (under_same v h r r' (same_key_from r r' (p ∙ sym p') (q ∙ sym q')) ∙ t)
        ∙ ih x

-- a curve has records of its own supply alone
pub none_of_other : {u : List ℕ} {a n : ℕ} {c : List Record} (v : List ℕ) (h : ℕ) → Whole u a n c → same u v ≡ false → record_of v h c ≡ None
none_of_other v h done e = refl
none_of_other {u} v h (more {r = r} {rs = rs} d q w) e =
    cond-false (under v h r) (Some r) (record_of v h rs) (and_left (same r.supply v) (eqb r.hour h) (rw d e))
    ∙ none_of_other v h w e

-- ## The keys of the books: a record for each supply and hour

abbrev pub key : List ℕ → ℕ → Record
key u h = record { supply = u; hour = h; wh = 0; method = 0; firmness = 0; invoice = [] }

abbrev pub line : List ℕ → ℕ → ℕ → List Record
line u h zero = []
line u h (suc n) = key u h ∷ line u (h + 1) n

abbrev pub keys : List Terms → List Record
keys [] = []
keys (t ∷ ts) = line t.supply t.first t.hours ++ keys ts

length-line : (u : List ℕ) (h n : ℕ) → length (line u h n) ≡ n
length-line u h zero = refl
length-line u h (suc n) = ap suc (length-line u (h + 1) n)

pub length-keys : (ts : List Terms) → length (keys ts) ≡ sum_of (λ t. t.hours) ts
length-keys [] = refl
length-keys (t ∷ ts) =
    length-append (line t.supply t.first t.hours) (keys ts)
    ∙ ap₂ ◌+◌ (length-line t.supply t.first t.hours) (length-keys ts)

has_left : (r : Record) (xs ys : List Record) → has r xs ≡ true → has r (xs ++ ys) ≡ true
has_left r [] ys e = absurd (both_ways false refl e)
has_left r (x ∷ xs) ys e = go (same_key r x) e (has_left r xs ys)
  where
    go : (b : Bool) → (b || has r xs) ≡ true → (has r xs ≡ true → has r (xs ++ ys) ≡ true) → (b || has r (xs ++ ys)) ≡ true
    go true t ih = refl
    go false t ih = ih t

has_right : (r : Record) (xs ys : List Record) → has r ys ≡ true → has r (xs ++ ys) ≡ true
has_right r [] ys e = e
has_right r (x ∷ xs) ys e = or_right (same_key r x) (has r (xs ++ ys)) (has_right r xs ys e)

line_among : (r : Record) (ts : List Terms) (j : ℕ) → j < length ts →
    has r (line (get_or ts j nobody).supply (get_or ts j nobody).first (get_or ts j nobody).hours) ≡ true → has r (keys ts) ≡ true
line_among r [] j lt e = absurd (omega arith)
line_among r (t ∷ ts) zero lt e = has_left r (line t.supply t.first t.hours) (keys ts) e
line_among r (t ∷ ts) (suc j) lt e = has_right r (line t.supply t.first t.hours) (keys ts) (line_among r ts j (omega arith) e)

whole_among : {u : List ℕ} {a n : ℕ} {c : List Record} (ks : List Record) → Whole u a n c → ((r : Record) → has r (line u a n) ≡ true → has r ks ≡ true) → AllByRecursion (λ r. has r ks ≡ true) c
whole_among ks done f = tt
whole_among {u} {a} ks (more {n = n} {r = r} {rs = rs} d e w) f = (
  f r (or_left (same_key r (key u a)) (has r (line u (a + 1) n)) (same_key_from r (key u a) d e)),
  whole_among ks w (λ q h. f q (or_right (same_key q (key u a)) (has q (line u (a + 1) n)) h)),
)

-- the records of a book's curve stand under the books' keys
pub curve_among : (ts : List Terms) (j : ℕ) (c : List Record) → j < length ts → Curve (get_or ts j nobody) c → AllByRecursion (λ r. has r (keys ts) ≡ true) c
curve_among ts j c lt w = whole_among (keys ts) w (λ r e. line_among r ts j lt e)
