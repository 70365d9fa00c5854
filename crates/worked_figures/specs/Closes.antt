-- Shares, closes, registers and lines in small figures.
use Rattle.std.specs.Prelude.{◌≡◌, ℕ, List, [], ◌∷◌, ◌++◌, map, length, Some, None, codes, Option, slice_index_or}
use Rattle.book.specs.Books.{answer, balance, balance_of, bill_of, Book, BookCall, changed, close, curve_of, Open, Registered, Terms, unused}
use Rattle.closing.specs.Closing.{Balance}
use Rattle.closing.specs.Sharing.{portion}
use Rattle.f5d.specs.Records.{Record}
use Rattle.f5d.specs.Written.{lines_text}
use Rattle.profile.specs.Profiles.{even_weights, published_weights}
use Rattle.tariff.specs.Calendars.{timetable_20a}
use Rattle.vocabulary.specs.Answers.{granted, refused}
use Rattle.vocabulary.specs.Refusals.{plain}

-- the shares of R by three weights
abbrev pub Shared : (R a b c x y z : ℕ) → Type 0
Shared R a b c x y z =
    let w : ℕ → ℕ = λ i. slice_index_or (a ∷ b ∷ c ∷ []) i 0 in
    (portion R w 3 0 ≡ x) × (portion R w 3 1 ≡ y) × (portion R w 3 2 ≡ z)

-- ## Closes

-- the terms of a book of some hours from hour 217,584 on, with a register of 100,000 kWh
abbrev pub terms_of : ℕ → Terms
terms_of hours = record { number = 1; supply = codes "ES0000000000000001TR0F"; integration = 1; first = 217584; hours = hours; register = 100000 }

-- an open book with these hours and this remote balance
abbrev pub book_of : List (Option ℕ) → Option Balance → Book
book_of reads remote = record {
  terms = terms_of (length reads);
  phase = Open;
  reads = reads;
  balances = remote ∷ None ∷ None ∷ None ∷ None ∷ [];
  closes = 0;
  curve = [];
  invoice = None;
}

abbrev pub kwh_of : ℕ → Option Balance
kwh_of n = Some (record { periods = 1; kwh = n ∷ [] })

-- a close under 2.0A with the even profile is granted, and these are the Wh and the methods of its curve
pub record ClosedTo (reads : List (Option ℕ)) (remote : ℕ) (wh methods : List ℕ) : Type 0 where
  pub answers : answer (book_of reads (kwh_of remote)) (close timetable_20a even_weights (codes "F0001")) ≡ granted
  pub energies : map (λ r. r.wh) (curve_of (book_of reads (kwh_of remote)) timetable_20a even_weights (codes "F0001")) ≡ wh
  pub how : map (λ r. r.method) (curve_of (book_of reads (kwh_of remote)) timetable_20a even_weights (codes "F0001")) ≡ methods

-- without a balance, one hour of so many Wh is billed as so many kWh, computed (source 0)
pub record Computed (wh kwh : ℕ) : Type 0 where
  pub source : (bill_of (book_of (Some wh ∷ []) None) timetable_20a even_weights).source ≡ 0
  pub value : (bill_of (book_of (Some wh ∷ []) None) timetable_20a even_weights).kwh 1 ≡ kwh

-- ## Registers

-- a remote balance of one tariff period whose register goes from a first to a last value
abbrev pub remote_balance : ℕ → ℕ → BookCall
remote_balance first last = let v : Registered = record { first = first; last = last } in balance 1 1 v (v ∷ [])

-- in a book of so many hours it is granted, and so many kWh are then held
pub record Registers (hours first last kwh : ℕ) : Type 0 where
  pub answers : answer (unused (terms_of hours)) (remote_balance first last) ≡ granted
  pub holds : balance_of (changed (unused (terms_of hours)) (remote_balance first last)) 1 ≡ kwh_of kwh

abbrev pub RegisterRefused : (hours first last number : ℕ) → Type 0
RegisterRefused hours first last number = answer (unused (terms_of hours)) (remote_balance first last) ≡ refused (plain number)

-- ## Lines

-- hours 217,584 to 217,587: the first and the third are read, the others missing, and these weigh 1 and 2
abbrev pub night : List Record
night = curve_of (book_of (Some 500 ∷ None ∷ Some 700 ∷ None ∷ []) (kwh_of 3)) timetable_20a (published_weights 217584 (0 ∷ 1 ∷ 0 ∷ 2 ∷ [])) (codes "F0001")

-- its lines in the night in which 02:00 comes twice; each ends with byte 10
abbrev pub NightWritten : Type 0
NightWritten =
    lines_text night
    ≡ codes "ES0000000000000001TR0F;2024/10/27 01:00;1;500;;;;;;1;1;F0001;" ++ 10
    ∷ (codes "ES0000000000000001TR0F;2024/10/27 02:00;1;600;;;;;;2;1;F0001;" ++ 10
    ∷ (codes "ES0000000000000001TR0F;2024/10/27 02:00;0;700;;;;;;1;1;F0001;" ++ 10
    ∷ (codes "ES0000000000000001TR0F;2024/10/27 03:00;0;1200;;;;;;2;1;F0001;" ++ 10 ∷ [])))
