use Rattle.run_book.proofs.Ending.{closed_apart}
use Rattle.phase_tests.proofs.books.two_share.Goals as goal

pub new-requires : goal.new-requires
new-requires g c = closed_apart _ _ _ _ _ _ _ c.close.ensures
