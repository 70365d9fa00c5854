-- Granted calls keep a book sound.
use Rattle.std.proofs.Common.{◌≡◌, ℕ, zero, suc, ◌-◌, ◌*◌, ◌≤◌, true, false, List, [], ◌∷◌, map, replicate, Some, None, Option, ◌∙◌}
use Rattle.std.specs.List.{AllByRecursion}
use Rattle.std.proofs.ByRecursion.{All-set}
use Rattle.std.proofs.lemmas.List.{length-replicate, length-set}
use Rattle.std.proofs.lemmas.Bool.{ltb-false, or_parts}
use Rattle.closing.specs.Closing.{Balance}
use Rattle.official_time.specs.Hours.{meant}
use Rattle.vocabulary.specs.Answers.{is_granted}
use Rattle.book.specs.BookLaw.{BalanceLimit, BookLaw, ReadLimit, Sound}
use Rattle.book.specs.Books as books
use Rattle.book.specs.Books.{answer, Book, BookCall, changed, difference, is_book, Registered, some_of, Terms, too_much, unused, with_balance}
use Rattle.book.proofs.Curves.{fine_curve}
use Rattle.book.proofs.Grants.{balance_small, estimate_small, reading_small}

none_read : (n : ℕ) → AllByRecursion ReadLimit (replicate n None)
none_read zero = tt
none_read (suc n) = (tt, none_read n)

begins : (t : Terms) → is_book t ≡ true → Sound (unused t)
begins t e = record { begun = e; hours = length-replicate t.hours None; read = none_read t.hours; billed = (tt, (tt, (tt, (tt, (tt, tt))))) }

-- what is not too much for a book
small_parts : (k : Book) (parts : List Registered) → some_of (λ v. too_much k (difference k v)) parts ≡ false → AllByRecursion (λ kwh. kwh ≤ 55 * k.terms.hours) (map (difference k) parts)
small_parts k [] e = tt
small_parts k (v ∷ vs) e =
    let p = or_parts (too_much k (difference k v)) (some_of (λ v. too_much k (difference k v)) vs) e in
    (ltb-false (55 * k.terms.hours) (difference k v) p.0, small_parts k vs p.1)

small_estimates : (k : Book) (kwh : List ℕ) → some_of (too_much k) kwh ≡ false → AllByRecursion (λ n. n ≤ 55 * k.terms.hours) kwh
small_estimates k [] e = tt
small_estimates k (n ∷ ns) e =
    let p = or_parts (too_much k n) (some_of (too_much k) ns) e in
    (ltb-false (55 * k.terms.hours) n p.0, small_estimates k ns p.1)

balance_keeps : (k : Book) (source : ℕ) (b : Option Balance) → BalanceLimit k.terms.hours b → Sound k → Sound (with_balance source b k)
balance_keeps k source b l s = record {
  begun = s.begun;
  hours = s.hours;
  read = s.read;
  billed = All-set (BalanceLimit k.terms.hours) k.balances (source - 1) b l s.billed;
}

stays : (k : Book) (c : BookCall) → Sound k → is_granted (answer k c) ≡ true → Sound (changed k c)
stays k (books.reading r) s g = record {
  begun = s.begun;
  hours = length-set k.reads (meant r.label - k.terms.first) (Some r.wh) ∙ s.hours;
  read = All-set ReadLimit k.reads (meant r.label - k.terms.first) (Some r.wh) (reading_small k r g) s.read;
  billed = s.billed;
}
stays k (books.balance x n total parts) s g =
    balance_keeps k x (Some (record { periods = n; kwh = map (difference k) parts }))
    (small_parts k parts (or_parts (too_much k (difference k total)) (some_of (λ v. too_much k (difference k v)) parts) (balance_small k x n total parts g)).1) s
stays k (books.estimate x n kwh) s g = balance_keeps k x (Some (record { periods = n; kwh = kwh })) (small_estimates k kwh (estimate_small k x n kwh g)) s
stays k (books.strike x) s g = balance_keeps k x None tt s
stays k (books.close cal prof inv) s g = record { begun = s.begun; hours = s.hours; read = s.read; billed = s.billed }
stays k (books.withdraw slip) s g = record { begun = s.begun; hours = s.hours; read = s.read; billed = s.billed }
stays k books.reopen s g = record { begun = s.begun; hours = s.hours; read = s.read; billed = s.billed }

pub book_law : BookLaw
book_law = record {
  begins = begins;
  stays = stays;
  publishing = λ k s. record { begun = s.begun; hours = s.hours; read = s.read; billed = s.billed };
  closes = λ k cal prof inv s g. fine_curve k s cal prof inv g;
}
