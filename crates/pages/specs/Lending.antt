-- What the pages are once the parts that they lent come back.
use Rattle.std.specs.Prelude.{List}
use Rattle.std.specs.Borrow.{Lends, MutBor, Fml, Array}
use Rattle.pages.specs.Flat.{Page}
use Rattle.pages.specs.Paged.{Paged, with_pages}
use Rattle.pages.specs.contracts.pages.Pages.{the_row}
use Rattle.pages.specs.contracts.part.Part.{the_row as part_row}

-- s ends with the last pages behind r in the place of its own
abbrev pub LendsParts : MutBor Paged → MutBor (List Page) → Fml
LendsParts s r = Lends the_row (Array part_row 0) s r (with_pages s.now)
