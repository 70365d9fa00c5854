use Rattle.std.proofs.Common.{ap, ◌∙◌}
use Rattle.f5d.specs.Names.{named_behind}
use Rattle.f5d.proofs.FileNames.{word_off, word_on}
use Rattle.f5d.proofs.Stepping.{tail_from}
use Rattle.f5d.proofs.name.name_in.Goals as goal

pub returns-in_err-word_of : goal.returns-in_err-word_of
returns-in_err-word_of c =
    let text = c.args.text.now in
    rw c.from_residual.ensures (word_off text c.word_end-end.result c.word_end-end.ensures.value c.in_err-word_of.ensures)

pub returns : goal.returns
returns c =
    let text = c.args.text.now in
    let end = c.word_end-end.result in
    let word = c.in_ok-word_of.field-0 in
    c.name_behind.ensures ∙ ap (named_behind word) (tail_from text end) ∙ word_on text end word c.in_ok-word_of.ensures
