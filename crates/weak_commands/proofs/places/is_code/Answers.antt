use Rattle.std.proofs.Common.{rules, tests}
use Rattle.std.proofs.lemmas.Iterator.{YieldsList-from_slice}
use Rattle.std.proofs.lemmas.Iterator.Search.{any_from_yields_List}
use Rattle.weak_commands.specs.Places.{has_address}
use Rattle.weak_commands.proofs.places.is_code.Goals as goal

pub returns : goal.returns
returns c = any_from_yields_List (has_address c.args.address) _ _ c.any.result c.any.ensures.ran (YieldsList-from_slice c.args.code.now cc) (λ x b q k. search (rules, tests))
