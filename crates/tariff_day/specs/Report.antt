-- What is written of an hour, of a clock day, and in answer to a line of input.
use Rattle.std.specs.Prelude.{◌≡◌, ℕ, ◌+◌, ◌≤◌, true, List, [], ◌∷◌, ◌++◌, decimal}
use Rattle.official_time.specs.Dates.{day_of, is_date}
use Rattle.official_time.specs.Hours.{clock_day, is_hour, IsLabel}
use Rattle.official_time.specs.Texts.{date_text, label_text}
use Rattle.official_time.specs.declared.date.Date.{Date}
use Rattle.official_time.specs.declared.date.Day.{Day}
use Rattle.official_time.specs.declared.label.Label.{Label}
use Rattle.tariff.specs.Rules.{period_20a, period_20dha, period_20td}
use Rattle.vocabulary.specs.Refusals.{plain, told}

-- a line of six fields, parted by `;` (59): hour, label, flag, and the period under each tariff
abbrev pub line_text : ℕ → Label → ℕ → ℕ → ℕ → List ℕ
line_text h l a b c = decimal h ++ 59 ∷ (label_text l ++ 59 ∷ (decimal l.flag ++ 59 ∷ (decimal a ++ 59 ∷ (decimal b ++ 59 ∷ (decimal c ++ 10 ∷ [])))))

-- the line of an hour h, l being its label
abbrev pub hour_line : List Day → ℕ → Label → List ℕ
hour_line holidays h l = line_text h l (period_20a h) (period_20dha h) (period_20td holidays h)

-- the lines of the hours from a first one on, up to and without another
pub data Lines (holidays : List Day) (first : ℕ) : ℕ → List ℕ → Type 0 where
  none : Lines holidays first first []
  more : {h : ℕ} {l : Label} {bytes : List ℕ} → Lines holidays first h bytes → IsLabel h l → Lines holidays first (h + 1) (bytes ++ hour_line holidays h l)

-- the lines of the hours of the clock day d, in their order
pub record DayText (holidays : List Day) (d : ℕ) (bytes : List ℕ) : Type 0 where
  pub first : ℕ
  pub last : ℕ
  pub all : (h : ℕ) → is_hour h ≡ true → clock_day h ≡ d → (first ≤ h) × (h ≤ last)
  pub only : (h : ℕ) → first ≤ h → h ≤ last → clock_day h ≡ d
  pub lines : Lines holidays first (last + 1) bytes

-- the line is the date of the day d
pub record IsDay (line : List ℕ) (d : ℕ) : Type 0 where
  pub date : Date
  pub written : date_text date ≡ line
  pub real : is_date date ≡ true
  pub here : day_of date ≡ d

-- the answer to a line: the hours of the day whose date it is, or the refusal of a date that is none
pub data Answers (holidays : List Day) (line : List ℕ) : List ℕ → Type 0 where
  hours : {d : ℕ} {bytes : List ℕ} → IsDay line d → DayText holidays d bytes → Answers holidays line bytes
  no_date : ((d : ℕ) → IsDay line d → ⊥) → Answers holidays line (told (plain 16) ++ 10 ∷ [])
