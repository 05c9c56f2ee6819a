-- Of the harts that a hart is after 0, 1, 2, .. of its instructions, those at which something is told.
use Rattle.std.specs.Prelude.{◌≡◌, ℕ, suc, ◌+◌, ◌-◌, ◌≤◌, ◌==◌, ◌||◌, ◌&&◌, not, Bool, true, false, if◌then◌else◌, List, [], ◌∷◌, ◌++◌, map, length, is_some, Option, Some, None}
use Rattle.hart_step.specs.declared.hart.Hart.{Hart}
use Rattle.hart_step.specs.declared.hart.Stop.{Stop}
use Rattle.hart_step.specs.Words.{words_of}
use Rattle.pages.specs.declared.access.Range.{Range}
use Rattle.pages.specs.Memory.{Memory}
use Rattle.round_schedule.specs.Past.{last_of}
use Rattle.moments.specs.Sights.{Sight, part_sights}
use Rattle.moments.specs.declared.asked.Asked.{Asked}
use Rattle.moments.specs.Bytes.{sight_of}
use Rattle.moments.specs.Stops.{is_one_of}

-- any stop but the exit call is a fault
abbrev pub is_fault : Option Stop → Bool
is_fault None = false
is_fault (Some s) = not (s.code == 1)

-- whether all moments of hart i are told
abbrev pub is_hart : Option ℕ → ℕ → Bool
is_hart None i = false
is_hart (Some k) i = k == i

-- hart i, where it is as h, is told of if all its moments are, if its pc is one of these addresses, or if a fault stopped it
abbrev pub tells : Asked → ℕ → Hart → Bool
tells a i h = is_hart a.each i || (a.faults && is_fault h.stop) || is_one_of a.stops.items h.pc

-- a moment of a hart is one before an instruction that it does, or behind the one that stops it
abbrev pub is_moment : Hart → List Hart → Bool
is_moment h [] = is_some h.stop
is_moment h (g ∷ gs) = true

-- the counts of instructions after which it is at a moment that tells something, where the first of them has this count
abbrev pub hit_at : (Hart → Bool) → ℕ → Hart → List Hart → List ℕ
hit_at f c h hs = if is_moment h hs && f h then c ∷ [] else []

abbrev pub hits_from : (Hart → Bool) → ℕ → List Hart → List ℕ
hits_from f c [] = []
hits_from f c (h ∷ hs) = hit_at f c h hs ++ hits_from f (suc c) hs

-- the harts of some sights
abbrev pub harts_of : List (Sight Hart) → List Hart
harts_of seen = map (λ (x : Sight Hart). x.hart) seen

-- a hart after 0, 1, 2, .. of at most n further instructions of its part of the parallel phase
abbrev pub harts_in_part : List Range → ℕ → Sight Hart → List Hart
harts_in_part code n s = harts_of (part_sights (words_of code) n s)

-- all but the last of these harts were walked over: those counts tell something, and the last is this hart, after so many instructions
pub record Walked (f : Hart → Bool) (hs : List Hart) (counts : List ℕ) (done : ℕ) (h : Hart) : Type 0 where
  pub hits : hits_from f 0 hs ≡ counts ++ hits_from f done (h ∷ [])
  pub size : length hs ≡ done + 1
  pub end : last_of hs ≡ Some h

-- n instructions are passed over: nothing is told of the harts before them, memory is as it was, and the rest of a part is that of the hart behind them
pub record PassesOver (f : Hart → Bool) (m : Memory) (n : ℕ) (h g : Hart) : Type 0 where
  pub hits : (quota c : ℕ) → n ≤ quota → hits_from f c (harts_in_part m.code quota (sight_of h m)) ≡ hits_from f (c + n) (harts_in_part m.code (quota - n) (sight_of g m))
  pub size : (quota : ℕ) → n ≤ quota → length (harts_in_part m.code quota (sight_of h m)) ≡ n + length (harts_in_part m.code (quota - n) (sight_of g m))
  pub end : (quota : ℕ) → n ≤ quota → last_of (harts_in_part m.code quota (sight_of h m)) ≡ last_of (harts_in_part m.code (quota - n) (sight_of g m))
