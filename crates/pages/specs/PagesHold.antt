-- What holds of the pages of guest memory.
use Rattle.std.specs.Prelude.{◌≡◌, ◌≤◌, ◌+◌, ◌^◌, ℕ, Bool, List, length, map, All, Option, IfSome}
use Rattle.pages.specs.declared.access.Range.{Range}
use Rattle.pages.specs.declared.pages.TheConstants.{MOST_PAGES}
use Rattle.pages.specs.Flat.{Page, is_ready}
use Rattle.pages.specs.Paged.{count_unready}

-- a range lies within these two addresses
abbrev pub LiesWithin : ℕ → ℕ → Range → Type 0
LiesWithin from to r = (from ≤ r.start) × (r.start + r.len ≤ to)

-- the number that is noted, if one is, is that of the pages that are not ready
abbrev pub IsCounted : Option ℕ → List Bool → Type 0
IsCounted unready ready = IfSome unready (λ n. n ≡ count_unready ready)

-- at most 64 MiB, no more spare pages than pages, a true count, and code between two addresses
pub record PagesHold (parts : List Page) (spare : ℕ) (unready : Option ℕ) (code : List Range) (from to : ℕ) : Type 0 where
  pub count : length parts ≤ MOST_PAGES
  pub few : spare ≤ length parts
  pub counted : IsCounted unready (map is_ready parts)
  pub code_within : All (λ (r : Range). LiesWithin from to r) code
  pub code_below : to ≤ 2 ^ 26
