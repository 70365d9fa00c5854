use Rattle.std.proofs.Common.{true, [], refl, ap, ◌∙◌, subst}
use Rattle.std.proofs.lemmas.Bool.{and_from}
use Rattle.f5d.specs.Bytes.{Lower, lower_irreflexive}
use Rattle.f5d.specs.Marking.{marked}
use Rattle.f5d.proofs.passed.Turns.begin.Goals as goal

pub returns : goal.returns
returns c =
    λ q supply hour.
    let code = c.args.first.supply.bytes in
    let marks = c.note.new.self.seen in
    record {
      front = [];
      last = q;
      ends = refl;
      supply = supply;
      hour = hour;
      highest = (λ l. lower_irreflexive code (subst (Lower code) supply l), tt);
      seen = and_from (marked marks q.supply) true (ap (marked marks) supply ∙ c.note.ensures.noted) refl;
    }
