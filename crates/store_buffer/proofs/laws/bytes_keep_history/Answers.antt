use Rattle.std.proofs.Common.{[]}
use Rattle.store_buffer.proofs.CoveredLaws.{after_with_stores, covered-with_stores, last_byte-with_stores}
use Rattle.store_buffer.proofs.laws.bytes_keep_history.Goals as goal

pub returns : goal.returns
returns c = λ ss. record {
  after_it = λ bs. after_with_stores [] bs ss tt;
  last = λ b x. last_byte-with_stores b [] ss x tt;
  covers_same = λ x. covered-with_stores [] ss x;
}
