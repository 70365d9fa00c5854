-- The rule of a tariff period and the tests of a close, by the figures that the program goes by.
use Rattle.std.specs.Prelude.{ℕ, ◌+◌, ◌*◌, Bool, true, false, cond, not, ◌&&◌, List, [], ◌∷◌, Ok, Err, Result, ◌==◌, nat_le, nat_lt}
use Rattle.vocabulary.specs.Answers.{Answer, granted, refused, Test, test}
use Rattle.vocabulary.specs.Refusals.{notice}
use Rattle.vocabulary.specs.declared.refusal.Refusal.{Refusal}
use Rattle.closing.specs.Closing as rules
use Rattle.closing.specs.Lent.{Totals}
use Rattle.closing.specs.declared.rule.Rule.{Rule}
use Rattle.closing.specs.declared.rule.Rule.TheVariants.{Keep, Rescale, Fill, CutDown}

-- the rule of a tariff period with so many missing hours, read Wh and billed Wh
abbrev pub rule_by : ℕ → ℕ → ℕ → Rule
rule_by missing read billed =
    cond (missing == 0) (cond (nat_le read (billed + 1000) && nat_le billed (read + 1000)) Keep Rescale) (cond (nat_le read (billed + 1000)) Fill CutDown)

abbrev pub rule_of : Rule → rules.Rule
rule_of Keep = rules.keep
rule_of Rescale = rules.rescale
rule_of Fill = rules.fill
rule_of CutDown = rules.cut_down

abbrev pub alters : Rule → Bool
alters Keep = false
alters Rescale = true
alters Fill = false
alters CutDown = true

abbrev pub completes : Rule → Bool
completes Keep = false
completes Rescale = false
completes Fill = true
completes CutDown = false

-- the tests of a tariff period, by its figures and its kWh: energy for no hour, a balance of a source that would change
-- read hours, and a missing hour with energy to share but no weight
abbrev pub hourless_by : Totals → ℕ → Bool
hourless_by f kwh = f.hours == 0 && nat_lt 1 kwh

abbrev pub unreal_by : ℕ → Totals → ℕ → Bool
unreal_by source f kwh = nat_le 3 source && alters (rule_by f.missing f.read (1000 * kwh))

abbrev pub weightless_by : Totals → ℕ → Bool
weightless_by f kwh = completes (rule_by f.missing f.read (1000 * kwh)) && nat_lt f.read (1000 * kwh) && nat_lt 0 f.weightless

-- the tests of what is billed: all tests of a close but the first
abbrev pub bill_tests : rules.Case → rules.Billed → List Test
bill_tests c b =
    test 25 (not (b.periods == c.calendar.periods))
    ∷ test 26 (rules.some_period c (rules.hourless c b))
    ∷ test 27 (rules.some_period c (rules.unreal c b))
    ∷ test 15 (rules.some_period c (rules.weightless c b))
    ∷ []

-- what a result answers
abbrev pub answer_of : {T : Type 0} → Result T Refusal → Answer
answer_of (Ok v) = granted
answer_of (Err e) = refused (notice e)
