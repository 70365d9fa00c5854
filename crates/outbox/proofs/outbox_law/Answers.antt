use Rattle.outbox.proofs.Files.{outbox_law}
use Rattle.outbox.proofs.outbox_law.Goals as goal

pub returns : goal.returns
returns c = outbox_law
