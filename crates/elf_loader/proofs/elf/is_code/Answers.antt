use Rattle.std.proofs.Common.{◌∙◌, rules, tests}
use Rattle.std.proofs.lemmas.Iterator.{YieldsList-from_slice}
use Rattle.std.proofs.lemmas.Iterator.Search.{any_from_yields_List}
use Rattle.pages.specs.Memory.{in_range}
use Rattle.elf_loader.proofs.Ranges.{code_by_range}
use Rattle.elf_loader.proofs.elf.is_code.Goals as goal

pub returns : goal.returns
returns c =
    any_from_yields_List (λ r. in_range r.start r.len c.args.address) _ _ c.any.result c.any.ensures.ran (YieldsList-from_slice c.args.code.now cc) (λ x b q k. search (rules, tests))
    ∙ code_by_range c.args.code.now c.args.address
