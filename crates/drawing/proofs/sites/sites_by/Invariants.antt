use Rattle.std.proofs.Common.{◌≡◌, ℕ, Option, map, take}
use Rattle.round_schedule.specs.declared.event.Event.{Event}
use Rattle.picture.specs.Titles.{told}
use Rattle.drawing.specs.Drawn.{told_by}
use Rattle.drawing.proofs.sites.sites_by.Given as goal

abbrev pub invariant-loop-number : goal.invariant-loop-number
invariant-loop-number l = (f : Event → Option ℕ) → l.pcs ≡ map f l.events → map told l.sites.items ≡ map (λ e. told_by l.format l.image e (f e)) (take l.number l.events)
