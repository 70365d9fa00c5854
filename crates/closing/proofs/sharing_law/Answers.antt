use Rattle.closing.proofs.Shares.{adds_up, nearly_exact}
use Rattle.closing.proofs.sharing_law.Goals as goal

pub returns : goal.returns
returns c = record { adds_up = adds_up; nearly_exact = nearly_exact }
