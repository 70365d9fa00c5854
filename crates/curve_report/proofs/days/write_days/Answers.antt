use Rattle.std.proofs.Common.{[], ◌++◌, map, string_bytes, sym, ap, ◌∙◌, subst, append_assoc, append-nil, arith}
use Rattle.f5d.specs.Meanings.{record_of}
use Rattle.curve_report.specs.Report.{Days, DayText}
use Rattle.curve_report.proofs.Pictures.{day_some, days_more, none_left}
use Rattle.curve_report.proofs.days.write_days.Goals as goal

pub loop-rest-preserved : goal.loop-rest-preserved
loop-rest-preserved c =
    let rest = c.loop-rest.rest.now in
    let d = c.clock_day-day.result.number in
    let end = c.day_end.ensures in
    let some = day_some d rest c.first-item.result c.day_end.result (omega arith) c.first-item.is c.clock_day-day.ensures end.ends in
    let known = c.loop-rest.invariant in
    let here = c.in_ok-write_day.ensures in (
      known.0 ++ here.0,
      here.2 ∙ ap (λ t. t ++ here.0) known.1 ∙ append_assoc (string_bytes c.args.out.now) known.0 here.0,
      λ more later.
          subst (Days (map record_of c.args.records.now)) (sym (append_assoc known.0 here.0 more))
          (known.2 (here.0 ++ more)
          (days_more d rest c.day_end.result (omega arith) some end.all end.ends here.0 more
          (subst (λ l. DayText d (map record_of l) here.0) c.split_at.ensures.front here.1)
          (subst (λ l. Days (map record_of l) more) c.split_at.ensures.back later))),
    )

pub returns : goal.returns
returns c =
    let known = c.loop-rest.invariant in
    (known.0 ++ [], known.2 [] (none_left c.loop-rest.rest.now c.in_default.len_below), known.1 ∙ ap (λ t. string_bytes c.args.out.now ++ t) (sym (append-nil known.0)))
