use Rattle.std.proofs.Common.{sym, ◌∙◌, subst}
use Rattle.f5d.specs.Reading.{RightLine}
use Rattle.f5d.proofs.Lines.{line_reading}
use Rattle.f5d.proofs.hours.HourRecord.read_line.Goals as goal

pub returns : goal.returns
returns c =
    let bytes = c.args.bytes.now in
    let told = c.read_fields.ensures.told in
    record {
      told = told;
      right = subst (RightLine bytes) (sym told) (line_reading.right bytes);
      only = λ x h. line_reading.only bytes x h ∙ sym told;
      within = c.read_fields.ensures.within;
    }
