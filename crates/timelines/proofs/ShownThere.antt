-- What is shown of the other harts.
use Rattle.std.proofs.Common.{◌≡◌, ℕ, ◌<◌, ◌==◌, ◌&&◌, true, false, nat_eq, List, length, get_or, slice_get, Option, Some, None, refl, sym, ◌∙◌, ap, arith}
use Rattle.std.proofs.lemmas.Bool.Decides.{nat_tests}
use Rattle.pages.specs.declared.access.Range.{Range}
use Rattle.round_schedule.specs.declared.event.Phase.TheVariants.{Parallel, Serial}
use Rattle.round_schedule.specs.Schedule.{run_of}
use Rattle.hart_step.specs.declared.hart.Hart.{Hart}
use Rattle.machine.specs.Machine.{Running, after_round, after_rounds}
use Rattle.machine.specs.Untraced.{IsUntraced, Untraced}
use Rattle.moments.specs.Sights.{Sight}
use Rattle.past_harts.specs.declared.place.Place.{Place}
use Rattle.past_harts.specs.Begun.{Begun, begun_of}
use Rattle.past_harts.specs.declared.point.Side.{Side}
use Rattle.past_harts.specs.Moments.{phase_number}
use Rattle.timelines.specs.Shown.{behind_move, beside, beside_part, beside_turn, mover, shown_at, shown_at_point}
use Rattle.past_harts.specs.Points.{is_behind_move}
use Rattle.past_harts.proofs.Begun.{begun_by, begun_same, got}

another_hart : (m : Running) (p : Place) (i : ℕ) (h : Hart) → (i ≡ p.hart → ⊥) → slice_get m.state.harts i ≡ Some h → shown_at m p i ≡ beside p.phase m p i h
another_hart m p i h ne e = let t : nat_eq i p.hart ≡ false = grind (arith, nat_tests) in rw (t, e) refl

-- of a machine without its trace
hart_there : (m : Running) (u : Untraced) (hs : List Hart) (i : ℕ) (h d : Hart) → IsUntraced m u → hs ≡ u.harts → i < length hs → h ≡ get_or hs i d → slice_get m.state.harts i ≡ Some h
hart_there m u hs i h d is e lt there = ap (λ (gs : List Hart). slice_get gs i) (sym (e ∙ is.harts)) ∙ got hs i h d lt there

pub shown_in_part : (m : Running) (u : Untraced) (code : List Range) (hs : List Hart) (p : Place) (i : ℕ) (h d : Hart) (s : Sight Hart) → IsUntraced m u → m.code ≡ code → hs ≡ u.harts → i < length hs → h ≡ get_or hs i d →
    (i ≡ p.hart → ⊥) → p.phase ≡ Parallel → beside_part (begun_by u code) p i h ≡ Some s → Some s ≡ shown_at m p i
shown_in_part m u code hs p i h d s is c e lt there ne phase seen =
    let now : Some s ≡ beside p.phase m p i h = rw phase (sym seen ∙ ap (λ (b : Begun). beside_part b p i h) (begun_same m u code is c)) in
    now ∙ sym (another_hart m p i h ne (hart_there m u hs i h d is e lt there))

pub shown_in_turn : (m : Running) (u : Untraced) (hs : List Hart) (p : Place) (i : ℕ) (h d : Hart) (s : Option (Sight Hart)) → IsUntraced m u → hs ≡ u.harts → i < length hs → h ≡ get_or hs i d →
    (i ≡ p.hart → ⊥) → p.phase ≡ Serial → s ≡ beside_turn m p i h → s ≡ shown_at m p i
shown_in_turn m u hs p i h d s is e lt there ne phase seen =
    let now : s ≡ beside p.phase m p i h = rw phase seen in
    now ∙ sym (another_hart m p i h ne (hart_there m u hs i h d is e lt there))

pub none_beside : (m : Running) (p : Place) (i : ℕ) (h : Hart) → mover m p ≡ None → None ≡ beside_turn m p i h
none_beside m p i h e = rw e refl

one_round_on : (m : Running) → after_rounds 1 m ≡ after_round m
unfolding run_of
one_round_on m = refl

pub after_turn : (m : Running) (v : Untraced) (hs : List Hart) (i : ℕ) (d : Hart) → IsUntraced (after_rounds 1 m) v → hs ≡ v.harts → i < length hs → slice_get (after_round m).state.harts i ≡ Some (get_or hs i d)
after_turn m v hs i d is e lt =
    ap (λ (x : Running). slice_get x.state.harts i) (sym (one_round_on m))
    ∙ ap (λ (gs : List Hart). slice_get gs i) (sym (e ∙ is.harts))
    ∙ got hs i (get_or hs i d) d lt refl

-- ---- at a point

pub behind_there : (m : Running) (u : Untraced) (code : List Range) (side : Side) (p : Place) (i : ℕ) (s : Option (Sight Hart)) → IsUntraced m u → m.code ≡ code →
    (is_behind_move side && (phase_number p.phase == 0 && i == p.hart)) ≡ true → s ≡ behind_move (begun_by u code) p (slice_get u.harts p.hart) → s ≡ shown_at_point m side p i
behind_there m u code side p i s is c its seen =
    rw its
    (seen ∙ ap (λ (b : Begun). behind_move b p (slice_get u.harts p.hart)) (begun_same m u code is c)
    ∙ ap (λ (hs : List Hart). behind_move (begun_of m) p (slice_get hs p.hart)) is.harts)

pub elsewhere : (m : Running) (side : Side) (p : Place) (i : ℕ) (s : Option (Sight Hart)) → (is_behind_move side && (phase_number p.phase == 0 && i == p.hart)) ≡ false → s ≡ shown_at m p i → s ≡ shown_at_point m side p i
elsewhere m side p i s none seen = rw none seen
