use Rattle.hex.specs.Hex.{encode_with}
use Rattle.gdb_talk.proofs.saying.ask.Goals as goal

pub returns-clause-writes : goal.returns-clause-writes
unfolding encode_with
returns-clause-writes g c = c.put_all.ensures.ok
