-- A book's terms, hours and balances are those that the calls tell.
use Rattle.std.proofs.Common.{◌≡◌, ℕ, zero, suc, ◌+◌, ◌-◌, ◌<◌, ◌≤◌, Bool, true, false, cond, ◌&&◌, eqb, List, [], ◌∷◌, map, length, get_or, set, replicate, Some, None, Option, unwrap_or, sym, refl, ap, ◌∙◌, subst, ⊎_elim, arith}
use Rattle.std.proofs.lemmas.Bool.{cases_eq, cond_both, eq-eqb, false≢true, ne_eqb, true≢false}
use Rattle.std.proofs.lemmas.List.{get_or-set_other, get_or-set_same}
use Rattle.book.proofs.Grants.{balance_from, estimate_from, reading_after, strike_from}
use Rattle.book.specs.Books as books
use Rattle.book.specs.Books.{Book, BookCall, difference, published, Slip, Terms, unused}
use Rattle.closing.specs.Closing.{Balance}
use Rattle.f5d.specs.Names.{Name}
use Rattle.official_time.specs.Hours.{meant}
use Rattle.outbox.specs.Outboxes.{publish_tests}
use Rattle.vocabulary.specs.Answers.{first_met, is_granted}
use Rattle.exchange.specs.Exchange.{book_at, Call, changed, load, nobody, on_book, open_file, publish, seal, Setting, was_granted, world, World}
use Rattle.exchange.specs.Told.{energy_of, last_balance, last_reading, names_hour, sets_balance, table, terms_at}
use Rattle.exchange.proofs.Granted.{book_called}

module _ {A : Type 0} where
  pub table_cong : (f g : ℕ → A) (i n : ℕ) → ((x : ℕ) → f x ≡ g x) → table f i n ≡ table g i n
  table_cong f g i zero h = refl
  table_cong f g i (suc n) h = λ j. h i j ∷ table_cong f g (suc i) n h j

  pub table-replicate : (f : ℕ → A) (a : A) (i n : ℕ) → ((x : ℕ) → f x ≡ a) → replicate n a ≡ table f i n
  table-replicate f a i zero h = refl
  table-replicate f a i (suc n) h = λ j. sym (h i) j ∷ table-replicate f a (suc i) n h j

  pub length-table : (f : ℕ → A) (i n : ℕ) → length (table f i n) ≡ n
  length-table f i zero = refl
  length-table f i (suc n) = ap suc (length-table f (suc i) n)

  table_cong_from : (f g : ℕ → A) (i n : ℕ) → ((x : ℕ) → i ≤ x → f x ≡ g x) → table f i n ≡ table g i n
  table_cong_from f g i zero h = refl
  table_cong_from f g i (suc n) h = λ j. h i (omega arith) j ∷ table_cong_from f g (suc i) n (λ x l. h x (omega arith)) j

  cons_path : {x y : A} {xs ys : List A} → x ≡ y → xs ≡ ys → x ∷ xs ≡ y ∷ ys
  cons_path p q = λ j. p j ∷ q j

  -- what a write to a table leaves, d places on
  set_on : (f g : ℕ → A) (v : A) (i n d : ℕ) → g (i + d) ≡ v → ((x : ℕ) → (x ≡ i + d → ⊥) → g x ≡ f x) → set (table f i n) d v ≡ table g i n
  set_on f g v i zero d here else = refl
  set_on f g v i (suc n) zero here else =
      cons_path (sym here ∙ ap g z) (table_cong_from f g (suc i) n (λ x l. sym (else x (omega arith))))
    where
      z : i + 0 ≡ i
      z = omega arith
  set_on f g v i (suc n) (suc d) here else =
      cons_path (sym (else i (omega arith))) (set_on f g v (suc i) n d (ap g z ∙ here) (λ x ne. else x (λ e. ne (omega arith))))
    where
      z : suc i + d ≡ i + suc d
      z = omega arith

  pub set_table : (f g : ℕ → A) (v : A) (i n m : ℕ) → i ≤ m → g m ≡ v → ((x : ℕ) → (x ≡ m → ⊥) → g x ≡ f x) → set (table f i n) (m - i) v ≡ table g i n
  set_table f g v i n m l here else =
      let e : i + (m - i) ≡ m = omega arith in
      set_on f g v i n (m - i) (ap g e ∙ here) (λ x ne. else x (λ q. ne (omega arith)))

-- ## One call on one book

-- a book with these terms, reads and balances
pub record Parts (t : Terms) (f : ℕ → Option ℕ) (g : ℕ → Option Balance) (k : Book) : Type 0 where
  pub terms : k.terms ≡ t
  pub reads : k.reads ≡ table f t.first t.hours
  pub balances : k.balances ≡ table g 1 5

pub parts_like : (t : Terms) (f f' : ℕ → Option ℕ) (g g' : ℕ → Option Balance) (k : Book) → Parts t f g k → ((x : ℕ) → f' x ≡ f x) → ((x : ℕ) → g' x ≡ g x) → Parts t f' g' k
parts_like t f f' g g' k h p q = record {
  terms = h.terms;
  reads = h.reads ∙ table_cong f f' t.first t.hours (λ x. sym (p x));
  balances = h.balances ∙ table_cong g g' 1 5 (λ x. sym (q x));
}

-- a write to the reads, and one to the balances
write_read : (f f' : ℕ → Option ℕ) (v : ℕ) (i n m : ℕ) → i ≤ m → ((x : ℕ) → f' x ≡ cond (eqb m x) (Some v) (f x)) → set (table f i n) (m - i) (Some v) ≡ table f' i n
write_read f f' v i n m l p =
    set_table f f' (Some v) i n m l
    (p m ∙ ap (λ z. cond z (Some v) (f m)) (eq-eqb m m refl))
    (λ x ne. p x ∙ ap (λ z. cond z (Some v) (f x)) (ne_eqb m x (λ e. ne (sym e))))

write_balance : (g g' : ℕ → Option Balance) (v : Option Balance) (i n m : ℕ) → i ≤ m → ((x : ℕ) → g' x ≡ unwrap_or (cond (eqb m x) (Some v) None) (g x)) → set (table g i n) (m - i) v ≡ table g' i n
write_balance g g' v i n m l q =
    set_table g g' v i n m l
    (q m ∙ ap (λ z. unwrap_or (cond z (Some v) None) (g m)) (eq-eqb m m refl))
    (λ x ne. q x ∙ ap (λ z. unwrap_or (cond z (Some v) None) (g x)) (ne_eqb m x (λ e. ne (sym e))))

-- the book after a granted call on it
pub step : (t : Terms) (f f' : ℕ → Option ℕ) (g g' : ℕ → Option Balance) (k : Book) (c : BookCall) → Parts t f g k → is_granted (books.answer k c) ≡ true →
    ((x : ℕ) → f' x ≡ cond (names_hour c x) (Some (energy_of c)) (f x)) → ((x : ℕ) → g' x ≡ unwrap_or (sets_balance t c x) (g x)) → Parts t f' g' (books.changed k c)
step t f f' g g' k (books.reading r) h a p q = record {
  terms = h.terms;
  reads =
      ap (λ (y : List (Option ℕ)). set y (meant r.label - k.terms.first) (Some r.wh)) h.reads
      ∙ ap (λ (y : Terms). set (table f t.first t.hours) (meant r.label - y.first) (Some r.wh)) h.terms
      ∙ write_read f f' r.wh t.first t.hours (meant r.label) (subst (λ (y : Terms). y.first ≤ meant r.label) h.terms (reading_after k r a)) p;
  balances = h.balances ∙ table_cong g g' 1 5 (λ x. sym (q x));
}
step t f f' g g' k (books.balance s n total ps) h a p q = record {
  terms = h.terms;
  reads = h.reads ∙ table_cong f f' t.first t.hours (λ x. sym (p x));
  balances =
      ap (λ (y : List (Option Balance)). set y (s - 1) (Some (record { periods = n; kwh = map (difference k) ps }))) h.balances
      ∙ ap (λ (y : Terms). set (table g 1 5) (s - 1) (Some (record { periods = n; kwh = map (difference (unused y)) ps }))) h.terms
      ∙ write_balance g g' (Some (record { periods = n; kwh = map (difference (unused t)) ps })) 1 5 s (balance_from k s n total ps a) q;
}
step t f f' g g' k (books.estimate s n ps) h a p q = record {
  terms = h.terms;
  reads = h.reads ∙ table_cong f f' t.first t.hours (λ x. sym (p x));
  balances =
      ap (λ (y : List (Option Balance)). set y (s - 1) (Some (record { periods = n; kwh = ps }))) h.balances
      ∙ write_balance g g' (Some (record { periods = n; kwh = ps })) 1 5 s (estimate_from k s n ps a) q;
}
step t f f' g g' k (books.strike s) h a p q = record {
  terms = h.terms;
  reads = h.reads ∙ table_cong f f' t.first t.hours (λ x. sym (p x));
  balances =
      ap (λ (y : List (Option Balance)). set y (s - 1) None) h.balances
      ∙ write_balance g g' None 1 5 s (strike_from k s a) q;
}
step t f f' g g' k (books.close cal prof inv) h a p q = let e = parts_like t f f' g g' k h p q in record { terms = e.terms; reads = e.reads; balances = e.balances }
step t f f' g g' k (books.withdraw s) h a p q = let e = parts_like t f f' g g' k h p q in record { terms = e.terms; reads = e.reads; balances = e.balances }
step t f f' g g' k books.reopen h a p q = let e = parts_like t f f' g g' k h p q in record { terms = e.terms; reads = e.reads; balances = e.balances }

-- ## The calls one after the other

start_book : (ts : List Terms) (k : ℕ) → get_or (map unused ts) k (unused nobody) ≡ unused (get_or ts k nobody)
start_book [] k = refl
start_book (t ∷ ts) zero = refl
start_book (t ∷ ts) (suc k) = start_book ts k

put_in : (P : Book → Type 0) (bs : List Book) (j k : ℕ) (b d : Book) → j < length bs → (j ≡ k → P b) → ((j ≡ k → ⊥) → P (get_or bs k d)) → P (get_or (set bs j b) k d)
put_in P bs j k b d l here else =
    ⊎_elim
    (λ e. subst P (sym (get_or-set_same bs j b d l) ∙ ap (λ x. get_or (set bs j b) x d) e) (here e))
    (λ ne. subst P (sym (get_or-set_other bs j k b d (λ e. ne (sym e)))) (else ne))
    (cases_eq j k)

module _ {A : Type 0} where
  all_on : (x y z : Bool) (u v : A) → x ≡ true → z ≡ true → cond (x && y && z) u v ≡ cond y u v
  all_on true true true u v p q = refl
  all_on true false true u v p q = refl
  all_on true true false u v p q = absurd (false≢true q)
  all_on true false false u v p q = absurd (false≢true q)
  all_on false y z u v p q = absurd (false≢true p)

  first_off : (x y z : Bool) (u v : A) → x ≡ false → cond (x && y && z) u v ≡ v
  first_off true y z u v p = absurd (true≢false p)
  first_off false y z u v p = refl

  last_off : (x y z : Bool) (u v : A) → z ≡ false → cond (x && y && z) u v ≡ v
  last_off x y true u v p = absurd (true≢false p)
  last_off true true false u v p = refl
  last_off true false false u v p = refl
  last_off false y false u v p = refl

  both_on : (x z : Bool) (u v : A) → x ≡ true → z ≡ true → cond (x && z) u v ≡ u
  both_on true true u v p q = refl
  both_on true false u v p q = absurd (false≢true q)
  both_on false z u v p q = absurd (false≢true p)

  left_off : (x z : Bool) (u v : A) → x ≡ false → cond (x && z) u v ≡ v
  left_off true z u v p = absurd (true≢false p)
  left_off false z u v p = refl

  right_off : (x z : Bool) (u v : A) → z ≡ false → cond (x && z) u v ≡ v
  right_off x true u v p = absurd (true≢false p)
  right_off true false u v p = refl
  right_off false false u v p = refl

-- book k is as the calls tell it
abbrev pub Told : Setting → List Call → ℕ → World → Type 0
Told s cs k w = Parts (terms_at s k) (last_reading s cs k) (last_balance s cs k) (book_at w k)

on_book_told : (s : Setting) (cs : List Call) (j : ℕ) (c : BookCall) (k : ℕ) → Told s cs k (world s cs) → Told s (on_book j c ∷ cs) k (world s (on_book j c ∷ cs))
on_book_told s cs j c k ih =
    cond_both (was_granted s cs (on_book j c)) (changed (world s cs) (on_book j c)) (world s cs) (λ w. Told s (on_book j c ∷ cs) k w)
    (λ g. put_in (Parts (terms_at s k) (last_reading s (on_book j c ∷ cs) k) (last_balance s (on_book j c ∷ cs) k)) (world s cs).books j k
    (books.changed (book_at (world s cs) j) c) (unused nobody) (book_called (world s cs) j (books.answer (book_at (world s cs) j) c) g).0
    (λ e. step (terms_at s k) (last_reading s cs k) (last_reading s (on_book j c ∷ cs) k) (last_balance s cs k) (last_balance s (on_book j c ∷ cs) k)
    (book_at (world s cs) j) c
    (subst (λ x. Parts (terms_at s k) (last_reading s cs k) (last_balance s cs k) (book_at (world s cs) x)) (sym e) ih)
    (book_called (world s cs) j (books.answer (book_at (world s cs) j) c) g).1
    (λ x. all_on (eqb j k) (names_hour c x) (was_granted s cs (on_book j c)) (Some (energy_of c)) (last_reading s cs k x) (eq-eqb j k e) g)
    (λ x. both_on (eqb j k) (was_granted s cs (on_book j c)) (unwrap_or (sets_balance (terms_at s k) c x) (last_balance s cs k x)) (last_balance s cs k x) (eq-eqb j k e) g))
    (λ ne. parts_like (terms_at s k) (last_reading s cs k) (last_reading s (on_book j c ∷ cs) k) (last_balance s cs k) (last_balance s (on_book j c ∷ cs) k)
    (book_at (world s cs) k) ih
    (λ x. first_off (eqb j k) (names_hour c x) (was_granted s cs (on_book j c)) (Some (energy_of c)) (last_reading s cs k x) (ne_eqb j k ne))
    (λ x. left_off (eqb j k) (was_granted s cs (on_book j c)) (unwrap_or (sets_balance (terms_at s k) c x) (last_balance s cs k x)) (last_balance s cs k x) (ne_eqb j k ne))))
    (λ g. parts_like (terms_at s k) (last_reading s cs k) (last_reading s (on_book j c ∷ cs) k) (last_balance s cs k) (last_balance s (on_book j c ∷ cs) k)
    (book_at (world s cs) k) ih
    (λ x. last_off (eqb j k) (names_hour c x) (was_granted s cs (on_book j c)) (Some (energy_of c)) (last_reading s cs k x) g)
    (λ x. right_off (eqb j k) (was_granted s cs (on_book j c)) (unwrap_or (sets_balance (terms_at s k) c x) (last_balance s cs k x)) (last_balance s cs k x) g))

publish_told : (s : Setting) (cs : List Call) (j : ℕ) (q : Slip) (n : Name) (k : ℕ) → Told s cs k (world s cs) → Told s cs k (world s (publish j q n ∷ cs))
publish_told s cs j q n k ih =
    cond_both (was_granted s cs (publish j q n)) (changed (world s cs) (publish j q n)) (world s cs) (λ w. Told s cs k w)
    (λ g. put_in (Parts (terms_at s k) (last_reading s cs k) (last_balance s cs k)) (world s cs).books j k
    (published (book_at (world s cs) j)) (unused nobody) (book_called (world s cs) j (first_met (publish_tests (world s cs).outbox (book_at (world s cs) j) q n)) g).0
    (λ e. let h : Parts (terms_at s k) (last_reading s cs k) (last_balance s cs k) (book_at (world s cs) j) =
    subst (λ x. Parts (terms_at s k) (last_reading s cs k) (last_balance s cs k) (book_at (world s cs) x)) (sym e) ih in
    record { terms = h.terms; reads = h.reads; balances = h.balances })
    (λ ne. ih))
    (λ g. ih)

-- a call that leaves the books alone
kept_told : (s : Setting) (cs : List Call) (k : ℕ) (t : Bool) (w v : World) → w.books ≡ v.books → Told s cs k v → Told s cs k (cond t w v)
kept_told s cs k t w v e ih =
    cond_both t w v (λ u. Told s cs k u)
    (λ _. subst (λ (bs : List Book). Parts (terms_at s k) (last_reading s cs k) (last_balance s cs k) (get_or bs k (unused nobody))) (sym e) ih)
    (λ _. ih)

pub told : (s : Setting) (cs : List Call) (k : ℕ) → Told s cs k (world s cs)
told s [] k =
    subst (Parts (terms_at s k) (last_reading s [] k) (last_balance s [] k)) (sym (start_book s.terms k))
    (record { terms = refl; reads = table-replicate (last_reading s [] k) None (terms_at s k).first (terms_at s k).hours (λ _. refl); balances = refl })
told s (on_book j c ∷ cs) k = on_book_told s cs j c k (told s cs k)
told s (publish j q n ∷ cs) k = publish_told s cs j q n k (told s cs k)
told s (open_file w d r ∷ cs) k =
    kept_told s cs k (was_granted s cs (open_file w d r)) (changed (world s cs) (open_file w d r)) (world s cs) refl (told s cs k)
told s (seal n ∷ cs) k = kept_told s cs k (was_granted s cs (seal n)) (changed (world s cs) (seal n)) (world s cs) refl (told s cs k)
told s (load n b ∷ cs) k = kept_told s cs k (was_granted s cs (load n b)) (changed (world s cs) (load n b)) (world s cs) refl (told s cs k)
