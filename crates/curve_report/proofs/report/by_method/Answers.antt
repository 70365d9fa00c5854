use Rattle.std.proofs.Common.{◌≡◌, ℕ, ◌+◌, Bool, true, false, cond, eqb, map, sym, refl, ◌∙◌, arith, rules}
use Rattle.std.specs.List.{count_by}
use Rattle.std.proofs.lemmas.List.Recursion.{is_count_by}
use Rattle.f5d.specs.Meanings.{record_of}
use Rattle.f5d.specs.declared.hours.HourRecord.{HourRecord}
use Rattle.vocabulary.specs.Methods.{method_number}
use Rattle.curve_report.specs.Report.{by_method as count_of}
use Rattle.curve_report.proofs.report.by_method.Goals as goal

one_more : (b : Bool) (n : ℕ) → cond b 1 0 + n ≡ cond b (1 + n) n
one_more true n = refl
one_more false n = omega arith

pub returns : goal.returns
returns c =
    let m = method_number c.args.method in
    let count : c.count.result ≡ count_by (λ (r : HourRecord). eqb (record_of r).method m) c.args.records.now = search rules in
    count
    ∙ sym (is_count_by (λ rs. count_of m (map record_of rs)) (λ r. eqb (record_of r).method m) refl (λ r rs. one_more (eqb (record_of r).method m) (count_of m (map record_of rs))) c.args.records.now)
