use Rattle.retail.proofs.Loads.{load_law}
use Rattle.retail.proofs.load_law.Goals as goal

pub returns : goal.returns
returns c = load_law
