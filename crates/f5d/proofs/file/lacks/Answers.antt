use Rattle.std.proofs.Common.{sym, ◌∙◌}
use Rattle.f5d.specs.Meanings.{record_of}
use Rattle.f5d.proofs.Going.{left_found, left_more, left_none}
use Rattle.f5d.proofs.file.lacks.Goals as goal

pub returns-then-eq : goal.returns-then-eq
returns-then-eq c =
    left_found c.args.supply.now.bytes c.args.bytes.now c.loop-record.record-iterator.rest.now c.loop-record.invariant (record_of c.in-Some.record) c.next.new.self.rest.now c.in-Some.ensures.steps (sym c.eq.ensures ∙ c.if-eq.true)

pub loop-record-preserved : goal.loop-record-preserved
loop-record-preserved c =
    left_more c.args.supply.now.bytes c.args.bytes.now c.loop-record.record-iterator.rest.now c.loop-record.invariant (record_of c.in-Some.record) c.next.new.self.rest.now c.in-Some.ensures.steps (sym c.eq.ensures ∙ c.if-eq.false)

pub returns : goal.returns
returns c =
    let end = c.in-None.ensures.steps in
    left_none c.args.supply.now.bytes c.args.bytes.now c.loop-record.record-iterator.rest.now c.loop-record.invariant end.0 end.1
