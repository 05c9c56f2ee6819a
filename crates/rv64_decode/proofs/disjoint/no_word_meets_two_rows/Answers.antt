use Rattle.rv64_decode.proofs.Rows.{met_once}
use Rattle.rv64_decode.proofs.disjoint.no_word_meets_two_rows.Goals as goal

pub returns : goal.returns
returns c = met_once
