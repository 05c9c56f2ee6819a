-- The hits of two lists of events, one after the other.
use Rattle.std.proofs.Common.{◌≡◌, List, [], ◌++◌, Option, Some, None, filter, refl, ap, ◌∙◌}
use Rattle.std.proofs.lemmas.List.Elements.{filter-append}
use Rattle.pages.specs.declared.access.Range.{Range}
use Rattle.round_schedule.specs.declared.event.Event.{Event}
use Rattle.run_events.specs.declared.rounds.Rounds.{Rounds}
use Rattle.run_events.specs.Hits.{hits, is_hit, is_within, sought_in}

pub both : (within : Option Rounds) (ranges : List Range) (xs ys : List Event) → sought_in within ranges (xs ++ ys) ≡ sought_in within ranges xs ++ sought_in within ranges ys
both None ranges xs ys = filter-append (is_hit ranges) xs ys
both (Some x) ranges xs ys = ap (filter (is_within x.first x.last)) (filter-append (is_hit ranges) xs ys) ∙ filter-append (is_within x.first x.last) (hits ranges xs) (hits ranges ys)

pub none_of_none : (within : Option Rounds) (ranges : List Range) → [] ≡ sought_in within ranges []
none_of_none None ranges = refl
none_of_none (Some x) ranges = refl
