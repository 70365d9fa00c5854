use Rattle.std.proofs.Common.{true, get_or, set}
use Rattle.f5d.specs.Marking.{mixed}
use Rattle.f5d.proofs.Marked.{all_kept}
use Rattle.f5d.proofs.marks.Marks.note.Goals as goal

pub returns-clause-kept : goal.returns-clause-kept
returns-clause-kept c = λ other e.
    let n = mixed 0 other in
    let m1 = set c.args.self.now.seen (get_or c.places_of.result 0 0) true in
    let m2 = set m1 (get_or c.places_of.result 1 0) true in
    let m3 = set m2 (get_or c.places_of.result 2 0) true in
    all_kept m3 (get_or c.places_of.result 3 0) n (all_kept m2 (get_or c.places_of.result 2 0) n (all_kept m1 (get_or c.places_of.result 1 0) n (all_kept c.args.self.now.seen (get_or c.places_of.result 0 0) n e)))
