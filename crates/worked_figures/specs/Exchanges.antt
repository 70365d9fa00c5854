-- One exchange from the first reading to the ledger.
use Rattle.std.specs.Prelude.{◌≡◌, ℕ, true, List, [], ◌∷◌, Some, codes}
use Rattle.book.specs.Books.{close, reading}
use Rattle.exchange.specs.Exchange.{answer, Call, load, on_book, open_file, publish, seal, Setting, world}
use Rattle.f5d.specs.Names.{Name, name_text}
use Rattle.f5d.specs.Written.{lines_text}
use Rattle.f5d.specs.declared.name.Word.TheVariants.{F5d}
use Rattle.official_time.specs.Dates.{on}
use Rattle.profile.specs.Profiles.{published_weights}
use Rattle.tariff.specs.Calendars.{timetable_20a}
use Rattle.vocabulary.specs.Answers.{refused}
use Rattle.vocabulary.specs.Refusals.{in_line, plain}
use Rattle.worked_figures.specs.Closes.{night, remote_balance, terms_of}

-- an office with one book of four hours, and a ledger with as many places
abbrev pub office : Setting
office = record { terms = terms_of 4 ∷ []; distributor = codes "0021"; retailer = codes "0894"; places = 4 }

-- a reading of the October night, by the clock hour and the flag
abbrev pub read_at : ℕ → ℕ → ℕ → Call
read_at hour flag wh =
    on_book 0 (reading (record { label = record { date = on 2024 10 27; hour = hour; minute = 0; second = 0; flag = flag }; wh = wh; valid = true; present = 218000 }))

abbrev pub file_name : Name
file_name = record { word = F5d; distributor = codes "0021"; retailer = codes "0894"; date = on 2024 11 5; version = 0 }

-- the calls, the newest first
abbrev pub night_calls : List Call
night_calls =
    load (name_text file_name) (lines_text night)
    ∷ seal file_name
    ∷ publish 0 (record { book = 1; close = 1 }) file_name
    ∷ open_file (codes "F5D") (on 2024 11 5) 1000
    ∷ on_book 0 (close timetable_20a (published_weights 217584 (0 ∷ 1 ∷ 0 ∷ 2 ∷ [])) (codes "F0001"))
    ∷ on_book 0 (remote_balance 10 13)
    ∷ read_at 2 0 700
    ∷ read_at 1 1 500
    ∷ []

-- all of them are granted: the ledger holds the four hours
abbrev pub NightExchanged : Type 0
NightExchanged = (world office night_calls).ledger.records ≡ night

-- the same file is then refused with 34, and the next one, if it is empty, with line 1 and field A (65)
abbrev pub next_name : Name
next_name = record { word = F5d; distributor = codes "0021"; retailer = codes "0894"; date = on 2024 11 5; version = 1 }

pub record NightAfter : Type 0 where
  pub again : answer (world office night_calls) (load (name_text file_name) (lines_text night)) ≡ Some (refused (plain 34))
  pub empty : answer (world office night_calls) (load (name_text next_name) []) ≡ Some (refused (in_line 13 1 65))
