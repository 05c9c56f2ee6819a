use Rattle.run_book.proofs.Ending.{closed_apart}
use Rattle.phase_tests.proofs.books.one_left_out.Goals as goal

pub new-gathered-requires : goal.new-gathered-requires
new-gathered-requires g c = closed_apart _ _ _ _ _ _ _ c.close.ensures
