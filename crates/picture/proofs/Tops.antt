-- How far down the boxes of a picture stand.
use Rattle.std.proofs.Common.{ℕ, ◌+◌, ◌≤◌, Bool, true, false, if◌then◌else◌, max, List, [], ◌∷◌, arith}
use Rattle.std.specs.List.{All}
use Rattle.std.proofs.lemmas.List.Elements.{All-head, All-tail}
use Rattle.round_schedule.specs.declared.event.Event.{Event}
use Rattle.picture.specs.declared.event_box.EventBox.{EventBox}
use Rattle.picture.specs.Layout.{are_beside, step, top_under}

-- the box stands at most so far down
abbrev pub IsAbove : ℕ → EventBox → Type 0
IsAbove m b = b.top ≤ m

one_of : (b c : Bool) → (if b then 68 else (if c then 78 else 92)) ≤ 92
one_of true c = omega arith
one_of false true = omega arith
one_of false false = omega arith

step_small : (e f : Event) → step e f ≤ 92
step_small e f = one_of _ _

lower_of : (b : Bool) (top s rest m : ℕ) → top ≤ m → s ≤ 92 → rest ≤ m + 92 → (if b then rest else max (top + s) rest) ≤ m + 92
lower_of true top s rest m h k l = l
lower_of false top s rest m h k l = omega arith

-- under boxes that stand at most so far down, a box stands at most 92 further down
pub top_under_low : (m : ℕ) → 236 ≤ m → (bs : List EventBox) (e : Event) → All (IsAbove m) bs → top_under bs e ≤ m + 92
top_under_low m l [] e h = omega arith
top_under_low m l (b ∷ bs) e h =
    lower_of (are_beside b.event e) b.top (step b.event e) (top_under bs e) m
    (All-head (IsAbove m) b bs h) (step_small b.event e) (top_under_low m l bs e (All-tail (IsAbove m) b bs h))
