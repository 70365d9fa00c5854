use Rattle.std.proofs.Common.{◌≡◌, ℕ, ◌+◌, List, [], ◌++◌, ap, sym, ◌∙◌, subst, append_assoc, append-nil, arith}
use Rattle.official_time.specs.declared.date.Day.{Day}
use Rattle.official_time.specs.declared.label.Label.{Label}
use Rattle.official_time.specs.Hours.{IsLabel}
use Rattle.tariff_day.specs.Report.{hour_line, Lines, none, more}
use Rattle.tariff_day.proofs.report.write_day.Goals as goal

pub loop-number-init : goal.loop-number-init
loop-number-init c = ([], none, sym (append-nil _))

-- one more line behind the lines so far
one_more : {days : List Day} {first h k : ℕ} {l : Label} {bytes : List ℕ} (before between after : List ℕ) → Lines days first h bytes → k ≡ h → IsLabel k l → between ≡ before ++ bytes → after ≡ between ++ hour_line days k l → (x : List ℕ) × Lines days first (h + 1) x × (after ≡ before ++ x)
one_more {days} {first} {h} {k} {l} {bytes} before between after lines e isl p q = (
  bytes ++ hour_line days h l,
  more lines (subst (λ n. IsLabel n l) e isl),
  q ∙ (λ i. p i ++ hour_line days (e i) l) ∙ append_assoc before bytes (hour_line days h l),
)

pub loop-number-preserved : goal.loop-number-preserved
loop-number-preserved c =
    let i = c.loop-number.invariant in
    let w = c.in_ok-write_hour.ensures in
    one_more _ _ _ i.1 (simp c.unwrap.ensures at c.new.ensures.value) w.1 i.2 w.2

moved : {days : List Day} {f g m n : ℕ} {bytes : List ℕ} → f ≡ g → m ≡ n → Lines days f m bytes → Lines days g n bytes
moved {days} {f} {g} {m} {n} {bytes} p q lines = subst (λ k. Lines days k n bytes) p (subst (λ k. Lines days f k bytes) q lines)

pub returns-in_ok-write_hour : goal.returns-in_ok-write_hour
returns-in_ok-write_hour c =
    let i = c.loop-number.invariant in
    let w = c.in_ok-write_hour.ensures in
    let r = c.of-hours.result in
    let e = c.of-hours.ensures in
    let first = c.number-number.ensures.value in
    let last = c.number-number-end.ensures.value in
    let written = one_more _ _ _ i.1 (simp c.unwrap.ensures at c.new.ensures.value) w.1 i.2 w.2 in
    let end : c.loop-number.number ≡ r.last.number = omega arith in
    (written.0, record { first = r.first.number; last = r.last.number; all = e.all; only = e.only; lines = moved first (ap (λ n. n + 1) end) written.1 }, written.2)
