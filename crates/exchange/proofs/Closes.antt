-- The books after any list of calls: sound, of their terms, and each closed one with the curve of its last granted close.
use Rattle.std.proofs.Common.{◌≡◌, ℕ, ◌<◌, Bool, true, false, cond, ◌&&◌, eqb, ◌⊎◌, List, [], ◌∷◌, map, length, get_or, set, Some, None, Option, sym, refl, ap, ◌∙◌, subst, inl, inr, arith, length-set, get_or-set_other, get_or-set_same}
use lib.ListN.{length-map, get_or-map}
use Rattle.std.proofs.ByRecursion.{All-get_or}
use Rattle.std.proofs.lemmas.Bool.{and_from, and_left, and_right, both_ways, cases_eq, cond-false, cond-true, eq-eqb, ne_eqb}
use Rattle.book.proofs.Sounds.{book_law}
use Rattle.book.specs.BookLaw.{FineCurve, Sound}
use Rattle.book.specs.Books as books
use Rattle.book.specs.Books.{Book, BookCall, curve_of, is_book, is_closed, Open, published, Slip, Terms, unused}
use Rattle.closing.specs.Closing.{Balance}
use Rattle.f5d.specs.Names.{Name}
use Rattle.f5d.specs.Records.{can_bear, every_record, Record}
use Rattle.outbox.specs.Outboxes.{publish_tests}
use Rattle.profile.specs.Weights.{Weights}
use Rattle.tariff.specs.Timetables.{Timetable}
use Rattle.vocabulary.specs.Answers.{first_met, is_granted}
use Rattle.exchange.specs.Exchange.{answer, book_at, Call, changed, grants, load, nobody, on_book, open_file, publish, seal, Setting, was_granted, world, World}
use Rattle.exchange.specs.Law.{Fits}
use Rattle.exchange.specs.Told.{as_told, closes_by, curve_told, last_closed, terms_at}
use Rattle.exchange.proofs.Curves.{Curve}
use Rattle.exchange.proofs.Granted.{book_called}
use Rattle.exchange.proofs.Told.{told}

-- ## A close goes by what the calls tell

-- a book of these parts
abbrev made_of : Terms → List (Option ℕ) → List (Option Balance) → Book
made_of t r b = record { terms = t; phase = Open; reads = r; balances = b; closes = 0; curve = []; invoice = None }

as_made : (s : Setting) (cs : List Call) (k : ℕ) → made_of (book_at (world s cs) k).terms (book_at (world s cs) k).reads (book_at (world s cs) k).balances ≡ as_told s cs k
as_made s cs k = let h = told s cs k in λ i. made_of (h.terms i) (h.reads i) (h.balances i)

pub curve_same : (s : Setting) (cs : List Call) (k : ℕ) (cal : Timetable) (prof : Weights) (inv : List ℕ) →
    curve_of (book_at (world s cs) k) cal prof inv ≡ curve_of (as_told s cs k) cal prof inv
curve_same s cs k cal prof inv = ap (λ (m : Book). curve_of m cal prof inv) (as_made s cs k)

pub fine_told : (s : Setting) (cs : List Call) (k : ℕ) (cal : Timetable) (prof : Weights) (inv : List ℕ) →
    FineCurve (book_at (world s cs) k) cal prof (curve_of (book_at (world s cs) k) cal prof inv) → FineCurve (as_told s cs k) cal prof (curve_of (as_told s cs k) cal prof inv)
fine_told s cs k cal prof inv f =
    subst (λ (m : Book). FineCurve m cal prof (curve_of m cal prof inv)) (as_made s cs k) (record { right = f.right; whole = f.whole; bears = f.bears })

-- ## What is kept of the books

abbrev pub nth_book : List Book → ℕ → Book
nth_book bs k = get_or bs k (unused nobody)

-- the curve of a closed book
pub record ItsCurve (t : Terms) (c : List Record) (b : Book) : Type 0 where
  pub told : b.curve ≡ c
  pub whole : Curve t b.curve
  pub bears : every_record can_bear b.curve ≡ true

abbrev pub HoldsCurve : Terms → List Record → Book → Type 0
HoldsCurve t c b = is_closed b.phase ≡ true → ItsCurve t c b

pub record Kept (s : Setting) (bs : List Book) (closed : ℕ → List Record) : Type 0 where
  pub long : length bs ≡ length s.terms
  pub terms : (k : ℕ) → (nth_book bs k).terms ≡ terms_at s k
  pub sound : (k : ℕ) → k < length bs → Sound (nth_book bs k)
  pub holds : (k : ℕ) → HoldsCurve (terms_at s k) (closed k) (nth_book bs k)

not_closed : false ≡ true → ⊥
not_closed e = both_ways false refl e

kept_start : (s : Setting) → Fits s → (closed : ℕ → List Record) → Kept s (map unused s.terms) closed
kept_start s fit closed = record {
  long = length-map s.terms unused;
  terms = λ k. ap (λ (b : Book). b.terms) (get_or-map unused s.terms k nobody);
  sound = λ k l.
      subst Sound (sym (get_or-map unused s.terms k nobody))
      (book_law.begins (terms_at s k) (All-get_or (λ t. is_book t ≡ true) s.terms k nobody (let e = length-map s.terms unused in omega arith) fit.begun));
  holds = λ k e. absurd (not_closed (ap (λ (b : Book). is_closed b.phase) (sym (get_or-map unused s.terms k nobody)) ∙ e));
}

its_alike : (t : Terms) (c c' : List Record) (b : Book) → c ≡ c' → ItsCurve t c b → ItsCurve t c' b
its_alike t c c' b e h = record { told = h.told ∙ e; whole = h.whole; bears = h.bears }

kept_alike : (s : Setting) (bs : List Book) (c c' : ℕ → List Record) → ((k : ℕ) → c k ≡ c' k) → Kept s bs c → Kept s bs c'
kept_alike s bs c c' f k = record {
  long = k.long;
  terms = k.terms;
  sound = k.sound;
  holds = λ i e. its_alike (terms_at s i) (c i) (c' i) (nth_book bs i) (f i) (k.holds i e);
}

kept_set : (s : Setting) (bs : List Book) (c c' : ℕ → List Record) (k : ℕ) (b : Book) → Kept s bs c → k < length bs →
    b.terms ≡ terms_at s k → Sound b → HoldsCurve (terms_at s k) (c' k) b → ((j : ℕ) → (j ≡ k → ⊥) → c j ≡ c' j) → Kept s (set bs k b) c'
kept_set s bs c c' k b old lt t sd h f = record {
  long = length-set bs k b ∙ old.long;
  terms = λ j. terms j (cases_eq j k);
  sound = λ j l. sound j (let e = length-set bs k b in omega arith) (cases_eq j k);
  holds = λ j. holds j (cases_eq j k);
}
  where
    here : (j : ℕ) → j ≡ k → nth_book (set bs k b) j ≡ b
    here j e = ap (λ (i : ℕ). nth_book (set bs k b) i) e ∙ get_or-set_same bs k b (unused nobody) lt

    else : (j : ℕ) → (j ≡ k → ⊥) → nth_book (set bs k b) j ≡ nth_book bs j
    else j n = get_or-set_other bs k j b (unused nobody) n

    terms : (j : ℕ) → (j ≡ k) ⊎ (j ≡ k → ⊥) → (nth_book (set bs k b) j).terms ≡ terms_at s j
    terms j (inl e) = ap (λ (x : Book). x.terms) (here j e) ∙ t ∙ ap (λ (i : ℕ). terms_at s i) (sym e)
    terms j (inr n) = ap (λ (x : Book). x.terms) (else j n) ∙ old.terms j

    sound : (j : ℕ) → j < length bs → (j ≡ k) ⊎ (j ≡ k → ⊥) → Sound (nth_book (set bs k b) j)
    sound j l (inl e) = subst Sound (sym (here j e)) sd
    sound j l (inr n) = subst Sound (sym (else j n)) (old.sound j l)

    holds : (j : ℕ) → (j ≡ k) ⊎ (j ≡ k → ⊥) → HoldsCurve (terms_at s j) (c' j) (nth_book (set bs k b) j)
    holds j (inl e) = subst (HoldsCurve (terms_at s j) (c' j)) (sym (here j e)) (subst (λ (i : ℕ). HoldsCurve (terms_at s i) (c' i) b) (sym e) h)
    holds j (inr n) =
        subst (HoldsCurve (terms_at s j) (c' j)) (sym (else j n))
        (λ x. its_alike (terms_at s j) (c j) (c' j) (nth_book bs j) (f j n) (old.holds j x))

-- ## A call on a book

same_terms : (b : Book) (c : BookCall) → (books.changed b c).terms ≡ b.terms
same_terms b (books.reading r) = refl
same_terms b (books.balance s n t ps) = refl
same_terms b (books.estimate s n ps) = refl
same_terms b (books.strike s) = refl
same_terms b (books.close c p i) = refl
same_terms b (books.withdraw s) = refl
same_terms b books.reopen = refl

-- the curve of the last close after one more call on the book
abbrev closed_now : Setting → List Call → ℕ → BookCall → List Record
closed_now s cs k c = elim (closes_by c) [ None ↦ last_closed s cs k | Some x ↦ curve_told s cs k x ]

same_curve : (t : Terms) (c : List Record) (b b' : Book) → b.curve ≡ b'.curve → ItsCurve t c b → ItsCurve t c b'
same_curve t c b b' e h = record { told = sym e ∙ h.told; whole = subst (Curve t) e h.whole; bears = subst (λ (x : List Record). every_record can_bear x ≡ true) e h.bears }

book_step : (s : Setting) (cs : List Call) (k : ℕ) (c : BookCall) → Sound (book_at (world s cs) k) → is_granted (books.answer (book_at (world s cs) k) c) ≡ true →
    (book_at (world s cs) k).terms ≡ terms_at s k → HoldsCurve (terms_at s k) (last_closed s cs k) (book_at (world s cs) k) →
    HoldsCurve (terms_at s k) (closed_now s cs k c) (books.changed (book_at (world s cs) k) c)
book_step s cs k (books.reading r) sd g t h = λ e. same_curve (terms_at s k) (last_closed s cs k) (book_at (world s cs) k) (books.changed (book_at (world s cs) k) (books.reading r)) refl (h e)
book_step s cs k (books.balance a n to ps) sd g t h = λ e. same_curve (terms_at s k) (last_closed s cs k) (book_at (world s cs) k) (books.changed (book_at (world s cs) k) (books.balance a n to ps)) refl (h e)
book_step s cs k (books.estimate a n ps) sd g t h = λ e. same_curve (terms_at s k) (last_closed s cs k) (book_at (world s cs) k) (books.changed (book_at (world s cs) k) (books.estimate a n ps)) refl (h e)
book_step s cs k (books.strike a) sd g t h = λ e. same_curve (terms_at s k) (last_closed s cs k) (book_at (world s cs) k) (books.changed (book_at (world s cs) k) (books.strike a)) refl (h e)
book_step s cs k (books.close c p i) sd g t h =
    let f = book_law.closes (book_at (world s cs) k) c p i sd g in
    λ e. record {
      told = curve_same s cs k c p i;
      whole = subst (λ (x : Terms). Curve x (curve_of (book_at (world s cs) k) c p i)) t f.whole;
      bears = f.bears;
    }
book_step s cs k (books.withdraw x) sd g t h = λ e. absurd (not_closed e)
book_step s cs k books.reopen sd g t h = λ e. absurd (not_closed e)

closed_other : (s : Setting) (cs : List Call) (k : ℕ) (c : BookCall) (j : ℕ) → (j ≡ k → ⊥) → last_closed s cs j ≡ last_closed s (on_book k c ∷ cs) j
closed_other s cs k c j n =
    sym (cond-false (eqb k j && was_granted s cs (on_book k c)) (closed_now s cs j c) (last_closed s cs j) (and_left (eqb k j) (was_granted s cs (on_book k c)) (ne_eqb k j (λ e. n (sym e)))))

closed_refused : (s : Setting) (cs : List Call) (k : ℕ) (c : BookCall) (j : ℕ) → was_granted s cs (on_book k c) ≡ false → last_closed s cs j ≡ last_closed s (on_book k c ∷ cs) j
closed_refused s cs k c j g =
    sym (cond-false (eqb k j && was_granted s cs (on_book k c)) (closed_now s cs j c) (last_closed s cs j) (and_right (eqb k j) (was_granted s cs (on_book k c)) g))

closed_here : (s : Setting) (cs : List Call) (k : ℕ) (c : BookCall) → was_granted s cs (on_book k c) ≡ true → closed_now s cs k c ≡ last_closed s (on_book k c ∷ cs) k
closed_here s cs k c g =
    sym (cond-true (eqb k k && was_granted s cs (on_book k c)) (closed_now s cs k c) (last_closed s cs k) (and_from (eqb k k) (was_granted s cs (on_book k c)) (eq-eqb k k refl) g))

on_book_keeps : (s : Setting) (cs : List Call) (k : ℕ) (c : BookCall) → Kept s (world s cs).books (last_closed s cs) →
    (b : Bool) → was_granted s cs (on_book k c) ≡ b → Kept s (cond b (changed (world s cs) (on_book k c)) (world s cs)).books (last_closed s (on_book k c ∷ cs))
on_book_keeps s cs k c ih true g =
    let a = book_called (world s cs) k (books.answer (book_at (world s cs) k) c) g in
    kept_set s (world s cs).books (last_closed s cs) (last_closed s (on_book k c ∷ cs)) k (books.changed (book_at (world s cs) k) c) ih a.0
    (same_terms (book_at (world s cs) k) c ∙ ih.terms k)
    (book_law.stays (book_at (world s cs) k) c (ih.sound k a.0) a.1)
    (subst (λ (x : List Record). HoldsCurve (terms_at s k) x (books.changed (book_at (world s cs) k) c)) (closed_here s cs k c g)
    (book_step s cs k c (ih.sound k a.0) a.1 (ih.terms k) (ih.holds k)))
    (λ j n. closed_other s cs k c j n)
on_book_keeps s cs k c ih false g =
    kept_alike s (world s cs).books (last_closed s cs) (last_closed s (on_book k c ∷ cs)) (λ j. closed_refused s cs k c j g) ih

-- ## The other calls

publish_keeps : (s : Setting) (w : World) (closed : ℕ → List Record) (k : ℕ) (q : Slip) (n : Name) → Kept s w.books closed →
    (b : Bool) → grants (answer w (publish k q n)) ≡ b → Kept s (cond b (changed w (publish k q n)) w).books closed
publish_keeps s w closed k q n ih true g =
    let lt = (book_called w k (first_met (publish_tests w.outbox (book_at w k) q n)) g).0 in
    kept_set s w.books closed closed k (published (book_at w k)) ih lt (ih.terms k) (book_law.publishing (book_at w k) (ih.sound k lt)) (λ e. absurd (not_closed e)) (λ j d. refl)
publish_keeps s w closed k q n ih false g = ih

same_books : (b : Bool) (v w : World) → v.books ≡ w.books → (cond b v w).books ≡ w.books
same_books true v w e = e
same_books false v w e = refl

pub kept : (s : Setting) → Fits s → (cs : List Call) → Kept s (world s cs).books (last_closed s cs)
kept s fit [] = kept_start s fit (last_closed s [])
kept s fit (on_book k c ∷ cs) = on_book_keeps s cs k c (kept s fit cs) (was_granted s cs (on_book k c)) refl
kept s fit (publish k q n ∷ cs) = publish_keeps s (world s cs) (last_closed s cs) k q n (kept s fit cs) (was_granted s cs (publish k q n)) refl
kept s fit (open_file a d r ∷ cs) =
    subst (λ (bs : List Book). Kept s bs (last_closed s cs)) (sym (same_books (was_granted s cs (open_file a d r)) (changed (world s cs) (open_file a d r)) (world s cs) refl)) (kept s fit cs)
kept s fit (seal n ∷ cs) =
    subst (λ (bs : List Book). Kept s bs (last_closed s cs)) (sym (same_books (was_granted s cs (seal n)) (changed (world s cs) (seal n)) (world s cs) refl)) (kept s fit cs)
kept s fit (load n b ∷ cs) =
    subst (λ (bs : List Book). Kept s bs (last_closed s cs)) (sym (same_books (was_granted s cs (load n b)) (changed (world s cs) (load n b)) (world s cs) refl)) (kept s fit cs)
