-- Harts that have stopped: their rounds do nothing.
use Rattle.std.proofs.Common.{◌≡◌, ℕ, zero, suc, Bool, true, false, if◌then◌else◌, List, [], ◌∷◌, Some, is_some, option_map, slice_get, refl, ap, ◌∙◌}
use Rattle.std.proofs.lemmas.Bool.{false≢true}
use Rattle.pages.specs.declared.access.Range.{Range}
use Rattle.pages.specs.Memory.{Memory}
use Rattle.round_schedule.specs.declared.access.Access.{Access}
use Rattle.round_schedule.specs.Schedule.{began, ended, first_or_zero, hart_round_of, hart_rounds, rest_of, round_from}
use Rattle.hart_step.specs.declared.hart.Hart.{Hart}
use Rattle.hart_step.specs.Words.{words_of}
use Rattle.hart_rounds.specs.Starts.{Start}
use Rattle.hart_rounds.specs.Ends.{end_at_rest, end_of, round_at}
use Rattle.hart_rounds.proofs.RoundAt.{nothing_logged}

pub picked : {A : Type 0} (b : Bool) (x y : A) → b ≡ true → (if b then x else y) ≡ x
picked true x y e = refl
picked false x y e = absurd (false≢true e)

-- it is where it began
pub stays : (code : List Range) (bs : List ℕ) (n : ℕ) (h : Hart) → is_some h.stop ≡ true → round_from (words_of code) bs n (began h) ≡ ended (began h) false
unfolding round_from
stays code bs zero h e = refl
stays code bs (suc n) h e = picked (is_some h.stop) (ended (began h) false) _ e

stopped_get : (m : Memory) (qs : List ℕ) (hs : List Hart) (i : ℕ) (h : Hart) → slice_get hs i ≡ Some h → is_some h.stop ≡ true →
    slice_get (hart_rounds (words_of m.code) m.bytes qs hs) i ≡ Some (ended (began h) false)
stopped_get m qs [] i h at e = absurd (cc)
stopped_get m qs (x ∷ hs) zero h at e = let same : x ≡ h = cc in ap (λ (g : Hart). Some (hart_round_of (words_of m.code) m.bytes (first_or_zero qs) g)) same ∙ ap Some (stays m.code m.bytes (first_or_zero qs) h e)
stopped_get m qs (x ∷ hs) (suc i) h at e = stopped_get m (rest_of qs) hs i h at e

-- the round of a hart that has stopped
pub round_at_rest : (s : Start) (n : ℕ) (h : Hart) → slice_get s.harts n ≡ Some h → is_some h.stop ≡ true → round_at s n ≡ Some (end_at_rest h)
unfolding round_at
round_at_rest s n h at e = ap (option_map (end_of s.logs)) (stopped_get s.memory s.quotas s.harts n h at e) ∙ ap (λ (log : List Access). Some (record (end_at_rest h) { log = log })) (nothing_logged s.logs)
