-- A whole history and the rounds of all harts are the same.
use Rattle.std.proofs.Common.{◌≡◌, Bool, ℕ, zero, suc, ◌+◌, ◌-◌, ◌<◌, List, [], ◌∷◌, length, get_or, option_map, slice_get, Some, refl, sym, ap, ◌∙◌, subst, arith}
use Rattle.pages.specs.Memory.{Memory}
use Rattle.round_schedule.specs.Schedule.{HartRound, hart_round_of, hart_rounds, first_or_zero, rest_of}
use Rattle.round_planner.specs.Quotas.{Planned, quota_of, quotas_of}
use Rattle.hart_step.specs.declared.hart.Hart.{Hart}
use Rattle.hart_step.specs.Words.{words_of}
use Rattle.hart_rounds.specs.declared.hart_end.HartEnd.{HartEnd}
use Rattle.hart_rounds.specs.Starts.{Start, rounds_of}
use Rattle.hart_rounds.specs.Ends.{end_of, round_at}
use Rattle.parallel_phase.specs.Rounds.{IsWholeHistory}
use Rattle.guest_rounds.specs.Guests.{Guest}
use Rattle.guest_rounds.specs.HartEnds.{AllFit, AreEndsOf}
use Rattle.guest_rounds.specs.NextStarts.{AreOfGuest, next_start, quotas_from}
use Rattle.guest_rounds.proofs.Fits.{buffer_fits}
use Rattle.guest_rounds.proofs.GuestRounds.{many_of}
use Rattle.guest_rounds.proofs.NextStarts.{of_guest}
use Rattle.guest_rounds.proofs.RoundsOfHarts.{same_rounds}

-- the entry of a hart is its round
entry_is : (logs : Bool) (m : Memory) (rs : List (HartRound Hart)) (os : List HartEnd) → AreEndsOf logs m rs os → (h : ℕ) → slice_get os h ≡ option_map (end_of logs) (slice_get rs h)
entry_is logs m [] [] a h = refl
entry_is logs m (r ∷ rs) [] a h = absurd a
entry_is logs m [] (o ∷ os) a h = absurd a
entry_is logs m (r ∷ rs) (o ∷ os) a zero = ap Some a.0.is
entry_is logs m (r ∷ rs) (o ∷ os) a (suc h) = entry_is logs m rs os a.1 h

-- entries that are the harts' rounds, one for each
ends_from : (logs : Bool) (m : Memory) (qs : List ℕ) (hs : List Hart) (os : List HartEnd) → length os ≡ length hs →
    ((h : ℕ) → h < length hs → slice_get os h ≡ option_map (end_of logs) (slice_get (hart_rounds (words_of m.code) m.bytes qs hs) h)) →
    AreEndsOf logs m (hart_rounds (words_of m.code) m.bytes qs hs) os
ends_from logs m qs [] [] count f = tt
ends_from logs m qs [] (o ∷ os) count f = absurd (omega arith)
ends_from logs m qs (h ∷ hs) [] count f = absurd (omega arith)
ends_from logs m qs (h ∷ hs) (o ∷ os) count f =
    let e : HartEnd = end_of logs (hart_round_of (words_of m.code) m.bytes (first_or_zero qs) h) in
    let at : Some o ≡ Some e = f 0 (omega arith) in
    let same : o ≡ e = cc in (
      record {
        is = same;
        fits = subst (λ (es : List (ℕ × ℕ)). AllFit m es) (ap (λ (x : HartEnd). x.buffer) (sym same)) (buffer_fits m (first_or_zero qs) h);
      },
      ends_from logs m (rest_of qs) hs os (omega (arith, count)) (λ k low. f (suc k) (omega (arith, low))),
    )

pub ends_of_whole : (s : Start) (os : List HartEnd) → IsWholeHistory s os → AreEndsOf s.logs s.memory (rounds_of s) os
unfolding round_at
ends_of_whole s os w = ends_from s.logs s.memory s.quotas s.harts os w.count w.rounds

quota_at : (plan : Planned) (round k n h : ℕ) → h < n → get_or (quotas_from plan round k n) h 0 ≡ quota_of plan round (k + h)
quota_at plan round k zero h low = absurd (omega arith)
quota_at plan round k (suc n) zero low = let none : k ≡ k + 0 = omega arith in ap (quota_of plan round) none
quota_at plan round k (suc n) (suc h) low =
    let next : suc k + h ≡ k + suc h = omega arith in
    quota_at plan round (suc k) n h (omega (arith, low)) ∙ ap (quota_of plan round) next

quota_from_first : (plan : Planned) (round n h : ℕ) → h < n → get_or (quotas_from plan round 0 n) h 0 ≡ quota_of plan round h
quota_from_first plan round n h low = let first : 0 + h ≡ h = omega arith in quota_at plan round 0 n h low ∙ ap (quota_of plan round) first

-- a whole history of a guest's next round has what the rounds of its harts left
pub of_whole : (logs : Bool) (plan : Planned) (n : ℕ) (g : Guest) (os : List HartEnd) → IsWholeHistory (next_start logs plan n g) os → AreOfGuest logs plan n g os
of_whole logs plan n g os w =
    of_guest logs plan n g.shared.memory (quotas_from plan (n + 1) 0 (length g.harts)) g.harts g os (λ h low. quota_from_first plan (n + 1) (length g.harts) h low) refl refl
    (ends_of_whole (next_start logs plan n g) os w)

-- and what they left is one
pub whole_of_guest : (logs : Bool) (plan : Planned) (n : ℕ) (g : Guest) (os : List HartEnd) → AreOfGuest logs plan n g os → IsWholeHistory (next_start logs plan n g) os
unfolding round_at
whole_of_guest logs plan n g os a =
    let m = g.shared.memory in
    let less : (n + 1) - 1 ≡ n = omega arith in
    let rounds = same_rounds (words_of m.code) m.bytes (quotas_from plan (n + 1) 0 (length g.harts)) (quotas_of plan n) g.harts
    (λ k low. quota_from_first plan (n + 1) (length g.harts) k low ∙ ap (λ (x : ℕ). get_or (quotas_of plan x) k 0) less) in
    let all = subst (λ (rs : List (HartRound Hart)). AreEndsOf logs m rs os) (sym rounds) a in
    record {
      count = many_of logs plan n g os a;
      rounds = λ h low. entry_is logs m _ os all h;
    }
