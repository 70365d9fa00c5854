use Rattle.closing.proofs.Curves.{closing_law}
use Rattle.closing.proofs.closing_law.Goals as goal

pub returns : goal.returns
returns c = closing_law
