use Rattle.book.proofs.Sounds.{book_law}
use Rattle.book.proofs.book_law.Goals as goal

pub returns : goal.returns
returns c = book_law
