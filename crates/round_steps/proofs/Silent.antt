-- Where nothing is asked for, nothing is told, and without watchpoints no move is.
use Rattle.std.proofs.Common.{◌≡◌, ◌<◌, ℕ, zero, suc, arith, ◌&&◌, Bool, true, false, cond, List, [], ◌∷◌, ◌++◌, length, drop, is_some, slice_get, Option, Some, None, refl, sym, ◌∙◌, ap}
use Rattle.round_schedule.specs.declared.access.Access.{Access}
use Rattle.round_schedule.specs.declared.event.Phase.TheVariants.{Parallel, Serial}
use Rattle.hart_step.specs.declared.hart.Hart.{Hart}
use Rattle.machine.specs.Machine.{Running}
use Rattle.moments.specs.Moves.{Move}
use Rattle.moments.specs.declared.asked.Asked.{Asked}
use Rattle.moments.specs.Hits.{hits_from, is_moment, tells}
use Rattle.watching.specs.declared.hits.Hit.{Hit}
use Rattle.watching.specs.declared.watchpoint.Watchpoint.{Watchpoint}
use Rattle.watching.specs.declared.watchpoint.Way.{Way}
use Rattle.watching.specs.Watches.{access_hits, beside, hits_after, hits_of}
use Rattle.past_harts.specs.declared.place.Place.{Place}
use Rattle.past_harts.specs.Begun.{Begun, begun_of}
use Rattle.round_steps.specs.Places.{parallel_places, part_counts, part_of, part_places, past_at, places, round_places, serial_places, turn_of, turn_places}

abbrev pub IsSilent : Asked → Type 0
IsSilent a = (i : ℕ) (h : Hart) → tells a i h ≡ false

untold : (b c : Bool) (n : ℕ) (ns : List ℕ) → c ≡ false → ns ≡ [] → (cond (b && c) (n ∷ []) []) ++ ns ≡ []
untold true c n ns e f = rw (e, f) refl
untold false c n ns e f = f

no_hits : (f : Hart → Bool) → ((h : Hart) → f h ≡ false) → (c : ℕ) (hs : List Hart) → hits_from f c hs ≡ []
no_hits f s c [] = refl
no_hits f s c (h ∷ hs) = untold (is_moment h hs) (f h) c (hits_from f (suc c) hs) (s h) (no_hits f s (suc c) hs)

no_counts : (f : Hart → Bool) → ((h : Hart) → f h ≡ false) → (h : Hart) (part : List Hart) (b : Bool) → is_some h.stop ≡ b → part_counts f h part ≡ []
no_counts f s h part true e = rw e refl
no_counts f s h part false e = rw e (no_hits f s 0 part)

part_silent : (a : Asked) → IsSilent a → (b : Begun) (i : ℕ) (o : Option Hart) → part_places a b i o ≡ []
part_silent a s b i None = refl
part_silent a s b i (Some h) = ap (places Parallel i) (no_counts (tells a i) (s i) h (part_of b i h) (is_some h.stop) refl)

turn_silent : (a : Asked) → IsSilent a → (i : ℕ) (past : List Hart) (t : Option ℕ) → turn_places a i past t ≡ []
turn_silent a s i past None = refl
turn_silent a s i past (Some n) = ap (places Serial i) (no_hits (tells a i) (s i) n (drop n past))

parts_silent : (a : Asked) → IsSilent a → (b : Begun) (n : ℕ) → parallel_places a b n ≡ []
unfolding parallel_places
parts_silent a s b zero = refl
parts_silent a s b (suc i) = ap (λ (xs : List Place). xs ++ part_places a b i (slice_get b.harts i)) (parts_silent a s b i) ∙ part_silent a s b i (slice_get b.harts i)

turns_silent : (a : Asked) → IsSilent a → (m : Running) (n : ℕ) → serial_places a m n ≡ []
unfolding serial_places
turns_silent a s m zero = refl
turns_silent a s m (suc i) = ap (λ (xs : List Place). xs ++ turn_places a i (past_at m i) (turn_of m i)) (turns_silent a s m i) ∙ turn_silent a s i (past_at m i) (turn_of m i)

pub no_places : (a : Asked) → IsSilent a → (m : Running) (xs : List Place) → xs ≡ [] → xs ≡ round_places a m
no_places a s m xs e =
    e ∙ sym (ap (λ (ps : List Place). ps ++ serial_places a m (length m.state.harts)) (parts_silent a s (begun_of m) (length m.state.harts)) ∙ turns_silent a s m (length m.state.harts))

no_access : {H : Type 0} (others : List (Move H)) (m : Move H) (o : Option Access) → access_hits [] others m o ≡ []
no_access others m None = refl
no_access others m (Some a) = refl

none_after : {H : Type 0} (way : Way) (earlier ms : List (Move H)) → hits_after way [] earlier ms ≡ []
none_after way earlier [] = refl
none_after way earlier (m ∷ ms) =
    ap (λ (xs : List Hit). xs ++ hits_after way [] (earlier ++ m ∷ []) ms) (no_access (beside way earlier ms) m m.access) ∙ none_after way (earlier ++ m ∷ []) ms

no_elements : {A : Type 0} (xs : List A) → length xs < 1 → xs ≡ []
no_elements [] e = refl
no_elements (x ∷ xs) e = absurd (omega (arith, e))

pub unwatched : {H : Type 0} (way : Way) (ws : List Watchpoint) (ms : List (Move H)) (hs : List Hit) → length ws < 1 → hs ≡ [] → hs ≡ hits_of way ws ms
unwatched way ws ms hs few e = e ∙ sym (ap (λ (xs : List Watchpoint). hits_of way xs ms) (no_elements ws few) ∙ none_after way [] ms)
