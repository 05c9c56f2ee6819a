use Rattle.std.proofs.Common.{◌++◌, ap}
use Rattle.store_buffer.specs.Lines.{lines_bytes}
use Rattle.store_buffer.proofs.LineFirst.{whole_empty}
use Rattle.store_buffer.proofs.stores.Stores.new.Goals as goal

pub returns : goal.returns
returns c = ap (λ xs. xs ++ lines_bytes c.args.rest) (whole_empty 0 c.empty.result c.empty.ensures)
