-- An office and its retailer: the eleven calls, what each answers, and the world after any list of them.
use Rattle.std.specs.Prelude.{ℕ, Bool, false, cond, List, [], ◌∷◌, map, length, Some, None, Option, nat_lt, slice_index_or, slice_set}
use Rattle.book.specs.Books as books
use Rattle.book.specs.Books.{Book, BookCall, published, Slip, Terms, unused}
use Rattle.f5d.specs.Names.{Name}
use Rattle.official_time.specs.declared.date.Date.{Date}
use Rattle.outbox.specs.Outboxes.{appended, names_empty, open_tests, opened, Outbox, publish_tests, seal_tests, sealed_up}
use Rattle.retail.specs.Ledgers.{Ledger, load_answer, loaded}
use Rattle.vocabulary.specs.Answers.{Answer, first_met, is_granted}

-- Whatever a call names is free: a book by its place in the office, a slip by its numbers, a file by its name, and a load
-- by any name and any bytes. Reading, balance, estimate, strike, close, withdraw and reopen are calls on a book.
pub data Call : Type 0 where
  on_book : (place : ℕ) → BookCall → Call
  publish : (place : ℕ) → Slip → Name → Call
  open_file : (word : List ℕ) → Date → (room : ℕ) → Call
  seal : Name → Call
  load : (name bytes : List ℕ) → Call

pub record World : Type 0 where
  pub books : List Book
  pub outbox : Outbox
  pub ledger : Ledger

-- what an office begins with: the terms of its books, the codes of distributor and retailer, and the places of the ledger
pub record Setting : Type 0 where
  pub terms : List Terms
  pub distributor : List ℕ
  pub retailer : List ℕ
  pub places : ℕ

abbrev pub start : Setting → World
start s = record {
  books = map unused s.terms;
  outbox = record { distributor = s.distributor; retailer = s.retailer; open_file = None; sealed = [] };
  ledger = record { places = s.places; records = []; last = None };
}

-- the terms of no book
abbrev pub nobody : Terms
nobody = record { number = 0; supply = []; integration = 0; first = 0; hours = 0; register = 0 }

abbrev pub book_at : World → ℕ → Book
book_at w k = slice_index_or w.books k (unused nobody)

abbrev pub has_book : World → ℕ → Bool
has_book w k = nat_lt k (length w.books)

-- What a call answers. None: there is no such call to make, since there is no such book, or since the file has no curve yet.
abbrev pub answer : World → Call → Option Answer
answer w (on_book k c) = cond (has_book w k) (Some (books.answer (book_at w k) c)) None
answer w (publish k slip name) = cond (has_book w k) (Some (first_met (publish_tests w.outbox (book_at w k) slip name))) None
answer w (open_file word date room) = Some (first_met (open_tests w.outbox word date))
answer w (seal name) = cond (names_empty w.outbox name) None (Some (first_met (seal_tests w.outbox name)))
answer w (load name bytes) = Some (load_answer w.ledger name bytes)

abbrev pub grants : Option Answer → Bool
grants None = false
grants (Some a) = is_granted a

abbrev pub with_book : World → ℕ → Book → World
with_book w k b = record { books = slice_set w.books k b; outbox = w.outbox; ledger = w.ledger }

abbrev pub with_outbox : World → Outbox → World
with_outbox w o = record { books = w.books; outbox = o; ledger = w.ledger }

abbrev pub with_ledger : World → Ledger → World
with_ledger w l = record { books = w.books; outbox = w.outbox; ledger = l }

-- the world after a call that was granted
abbrev pub changed : World → Call → World
changed w (on_book k c) = with_book w k (books.changed (book_at w k) c)
changed w (publish k slip name) = with_book (with_outbox w (appended w.outbox (book_at w k).curve)) k (published (book_at w k))
changed w (open_file word date room) = with_outbox w (opened w.outbox word date room)
changed w (seal name) = with_outbox w (sealed_up w.outbox)
changed w (load name bytes) = with_ledger w (loaded w.ledger name bytes)

-- a call that is not granted leaves everything as it was
abbrev pub after : World → Call → World
after w c = cond (grants (answer w c)) (changed w c) w

-- a history is a list of calls, the newest first; each meets the world that those before it left
abbrev pub world : Setting → List Call → World
world s [] = start s
world s (c ∷ cs) = after (world s cs) c

abbrev pub was_granted : Setting → List Call → Call → Bool
was_granted s cs c = grants (answer (world s cs) c)
