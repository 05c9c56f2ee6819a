-- The rounds of a run in three stages: those before the first one that is drawn, those that are drawn, and the rest; and what is drawn of them.
use Rattle.std.proofs.Common.{◌≡◌, ℕ, ◌≤◌, List, map, slice_index, ap, ◌∙◌, arith}
use mathlib.Core.Path.{fun_ext}
use Rattle.round_schedule.specs.declared.event.Event.{Event}
use Rattle.hart_step.specs.declared.hart.Hart.{Hart}
use Rattle.machine.specs.Machine.{Running, after_rounds}
use Rattle.round_planner.specs.declared.settings.Settings.{Settings}
use Rattle.picture.specs.declared.view.View.{View}
use Rattle.picture.specs.Picture.{Drawn}
use Rattle.picture.specs.Rows.{events_shown}
use Rattle.picture.specs.Titles.{Told}
use Rattle.drawing.specs.Drawn.{before_drawn, drawn_by, last_drawn, told_of}

pub few_before : (rounds : ℕ) (v : View) → before_drawn rounds v ≤ last_drawn rounds v
few_before rounds v = omega arith

pub few_drawn : (rounds : ℕ) (v : View) → last_drawn rounds v ≤ rounds
few_drawn rounds v = omega arith

abbrev pub drawn : List Event → (ℕ → ℕ) → List Hart → List Hart → List Told → Drawn
drawn t opening starts ends told = record { trace = t; opening = opening; starts = starts; ends = ends; told = told }

-- what is drawn is what the definitions name
pub same_drawn : (s : Settings) (file : List ℕ) (m : Running) (v : View) (t t' : List Event) (opening : ℕ → ℕ) (starts ends : List Hart) (ts : List Told) →
    t ≡ t' → ((x : ℕ) → opening x ≡ slice_index m.opening x) → starts ≡ (after_rounds (before_drawn s.rounds v) m).state.harts →
    ends ≡ (after_rounds (last_drawn s.rounds v) m).state.harts → ts ≡ map (told_of s file m) (events_shown v t) → drawn t opening starts ends ts ≡ drawn_by s file m v t'
same_drawn s file m v t t' opening starts ends ts trace opens begins ended tells =
    ap (λ (xs : List Told). drawn t opening starts ends xs) tells
    ∙ ap (λ (f : ℕ → ℕ). drawn t f starts ends (map (told_of s file m) (events_shown v t))) (fun_ext opens)
    ∙ ap (λ (hs : List Hart). drawn t (slice_index m.opening) hs ends (map (told_of s file m) (events_shown v t))) begins
    ∙ ap (λ (hs : List Hart). drawn t (slice_index m.opening) (after_rounds (before_drawn s.rounds v) m).state.harts hs (map (told_of s file m) (events_shown v t))) ended
    ∙ ap (drawn_by s file m v) trace
