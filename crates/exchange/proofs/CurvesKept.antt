-- After any list of calls, each granted close has the curve that the calls tell, and that curve is right.
use Rattle.std.proofs.Common.{◌≡◌, ℕ, true, List, [], ◌∷◌, Some, Option, unwrap_or, ap, ◌∙◌, subst}
use Rattle.std.proofs.lemmas.List.{get_or-set_same}
use Rattle.std.proofs.lemmas.Bool.{cond-true}
use Rattle.book.proofs.Sounds.{book_law}
use Rattle.book.specs.Books as books
use Rattle.book.specs.Books.{Book, BookCall, unused}
use Rattle.profile.specs.Weights.{Weights}
use Rattle.tariff.specs.Timetables.{Timetable}
use Rattle.exchange.specs.Exchange.{book_at, Call, changed, load, nobody, on_book, open_file, publish, seal, Setting, was_granted, world, World}
use Rattle.exchange.specs.Law.{CurveOfClose, CurvesOfCloses, Fits}
use Rattle.exchange.specs.Told.{Close, closes_by}
use Rattle.exchange.proofs.Closes.{curve_same, fine_told, kept}
use Rattle.exchange.proofs.Granted.{book_called, none_some}

close_kept : (s : Setting) → Fits s → (cs : List Call) (k : ℕ) (cal : Timetable) (prof : Weights) (inv : List ℕ) →
    was_granted s cs (on_book k (books.close cal prof inv)) ≡ true → CurveOfClose s cs k (record { calendar = cal; profile = prof; invoice = inv })
close_kept s fit cs k cal prof inv g =
    let c = on_book k (books.close cal prof inv) in
    let m = book_at (world s cs) k in
    let a = book_called (world s cs) k (books.answer m (books.close cal prof inv)) g in
    let f = fine_told s cs k cal prof inv (book_law.closes m cal prof inv ((kept s fit cs).sound k a.0) a.1) in
    record {
      exact_curve =
          ap (λ (w : World). (book_at w k).curve) (cond-true (was_granted s cs c) (changed (world s cs) c) (world s cs) g)
          ∙ ap (λ (b : Book). b.curve) (get_or-set_same (world s cs).books k (books.changed m (books.close cal prof inv)) (unused nobody) a.0)
          ∙ curve_same s cs k cal prof inv;
      every_period = f.right.every_period;
      weights = f.right.weights;
      within_1_kwh = f.right.within_1_kwh;
      read_hours = f.right.read_hours;
      missing_hours = f.right.missing_hours;
    }

call_kept : (s : Setting) → Fits s → (cs : List Call) (k : ℕ) (c : BookCall) → was_granted s cs (on_book k c) ≡ true → (x : Close) → closes_by c ≡ Some x → CurveOfClose s cs k x
call_kept s fit cs k (books.reading r) g x e = absurd (none_some x e)
call_kept s fit cs k (books.balance q n t ps) g x e = absurd (none_some x e)
call_kept s fit cs k (books.estimate q n ps) g x e = absurd (none_some x e)
call_kept s fit cs k (books.strike q) g x e = absurd (none_some x e)
call_kept s fit cs k (books.close cal prof inv) g x e =
    subst (λ (y : Close). CurveOfClose s cs k y) (ap (λ (o : Option Close). unwrap_or o (record { calendar = cal; profile = prof; invoice = inv })) e)
    (close_kept s fit cs k cal prof inv g)
call_kept s fit cs k (books.withdraw q) g x e = absurd (none_some x e)
call_kept s fit cs k books.reopen g x e = absurd (none_some x e)

pub curves_kept : (s : Setting) → Fits s → (cs : List Call) → CurvesOfCloses s cs
curves_kept s fit [] = tt
curves_kept s fit (on_book k c ∷ cs) = (call_kept s fit cs k c, curves_kept s fit cs)
curves_kept s fit (publish k q n ∷ cs) = curves_kept s fit cs
curves_kept s fit (open_file w d r ∷ cs) = curves_kept s fit cs
curves_kept s fit (seal n ∷ cs) = curves_kept s fit cs
curves_kept s fit (load n b ∷ cs) = curves_kept s fit cs
