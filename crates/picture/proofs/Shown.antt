-- The events that have a box are of the rounds that the view shows.
use Rattle.std.proofs.Common.{◌≡◌, ℕ, ◌≤◌, ◌&&◌, Bool, true, false, if◌then◌else◌, nat_le, List, [], ◌∷◌, All, length, take, Option, Some, None, refl}
use Rattle.std.specs.List.{range_with_len}
use Rattle.std.proofs.lemmas.Bool.{leb-true}
use Rattle.std.proofs.lemmas.List.Elements.{All-cons, All-head, All-map, All-nil, All-tail, All-take, All-weaker, filter_passes}
use Rattle.round_schedule.specs.declared.event.Event.{Event}
use Rattle.round_schedule.specs.Positions.{event}
use Rattle.picture.specs.declared.rows.Row.{Row}
use Rattle.picture.specs.declared.view.View.{View}
use Rattle.picture.specs.Rows.{events_shown, is_more, row, rows_after, rows_seen}
use Rattle.picture.specs.Views.{is_seen, is_shown, indexes_seen}

first_passes : (a b : Bool) → (a && b) ≡ true → a ≡ true
first_passes true b h = refl
first_passes false b h = h

either : (P : ℕ → Type 0) (b : Bool) (r : Row) (rs : List Row) → P r.index → All (λ (q : Row). P q.index) rs → All (λ (q : Row). P q.index) (if b then rs else r ∷ rs)
either P true r rs h all = all
either P false r rs h all = All-cons (λ (q : Row). P q.index) r rs h all

rows_keep : (P : ℕ → Type 0) (t : List Event) (before : Option ℕ) (is : List ℕ) → All P is → All (λ (r : Row). P r.index) (rows_after t before is)
rows_keep P t before [] h = All-nil (λ (r : Row). P r.index)
rows_keep P t before (i ∷ is) h = either P (is_more t before i) (row t i is) (rows_after t (Some i) is) (All-head P i is h) (rows_keep P t (Some i) is (All-tail P i is h))

abbrev pub IsFrom : View → Event → Type 0
IsFrom v e = v.from ≤ e.round

pub shown_from : (v : View) (t : List Event) → All (IsFrom v) (events_shown v t)
unfolding indexes_seen
shown_from v t =
    All-map (IsFrom v) (λ (r : Row). event t r.index) (take 400 (rows_seen v t))
    (All-take (λ (r : Row). IsFrom v (event t r.index)) 400 (rows_seen v t)
    (rows_keep (λ i. IsFrom v (event t i)) t None (indexes_seen v t)
    (All-weaker (λ i. is_shown v (event t i) ≡ true) (λ i. IsFrom v (event t i)) (λ i h. late v (event t i) h) (indexes_seen v t)
    (filter_passes (λ i. is_shown v (event t i)) (range_with_len 0 (length t))))))
  where
    late : (v : View) (e : Event) → is_shown v e ≡ true → v.from ≤ e.round
    late v e h =
        let within = first_passes (nat_le v.from e.round && nat_le e.round v.to) (is_seen v.ranges.now e.access) h in
        leb-true v.from e.round (first_passes (nat_le v.from e.round) (nat_le e.round v.to) within)
