use Rattle.std.proofs.Common.{◌∙◌, arith, rules, tests}
use Rattle.std.proofs.lemmas.Iterator.{YieldsList-from_slice}
use Rattle.std.proofs.lemmas.Iterator.Consumers.{count_from_yields_List}
use Rattle.std.proofs.lemmas.Iterator.Search.{YieldsList-from_take_while}
use Rattle.std.proofs.lemmas.List.Folds.{length-prefix_len}
use Rattle.std.proofs.lemmas.List.Sums.{prefix_len-le-length}
use Rattle.curve_report.proofs.Pictures.{day_all, day_left, here}
use Rattle.curve_report.proofs.days.day_end.Goals as goal

pub returns : goal.returns
returns c =
    let d = c.args.day.number in
    let all = c.args.records.now in
    let count = count_from_yields_List c.take_while.result c.count.result c.count.ensures.ran
    (YieldsList-from_take_while _ (here d) (YieldsList-from_slice all cc) c.take_while.ensures.closure c.take_while.ensures.done (λ x b q k. search (rules, tests)))
    ∙ length-prefix_len (here d) all in
    record {
      high_bound = omega (arith, prefix_len-le-length (here d) all);
      all = day_all d all c.count.result count;
      ends = day_left d all c.count.result count;
    }
