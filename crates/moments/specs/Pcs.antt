-- The pcs of events, by the harts that their hart is after 0, 1, 2, .. instructions of its part of the parallel phase.
use Rattle.std.specs.Prelude.{◌≡◌, ℕ, zero, suc, ◌-◌, ◌<◌, ◌≤◌, true, All, List, [], ◌∷◌, drop, get_or, length, is_some, Option, Some, None}
use Rattle.pages.specs.Memory.{Memory}
use Rattle.rv64_decode.specs.declared.instruction.Instr.{Instr}
use Rattle.round_schedule.specs.declared.event.Event.{Event}
use Rattle.round_schedule.specs.Accesses.{place_of}
use Rattle.hart_step.specs.declared.hart.Hart.{Hart}
use Rattle.hart_step.specs.DecodedCode.{Shows}
use Rattle.moments.specs.Hits.{harts_in_part}
use Rattle.moments.specs.Bytes.{sight_of}

-- the pc of the instruction that it does after so many others; none where it does no more
abbrev pub pc_after : List Hart → ℕ → Option ℕ
pc_after [] count = None
pc_after (h ∷ []) count = None
pc_after (h ∷ g ∷ hs) zero = Some h.pc
pc_after (h ∷ g ∷ hs) (suc count) = pc_after (g ∷ hs) count

-- that of an event of a hart that had done `before` instructions when the part began: the event's place says how many it had done
abbrev pub pc_in : ℕ → List Hart → Event → Option ℕ
pc_in before part e = pc_after part (place_of e.access - before)

-- each of these events comes later in the part than the one before it, and the part has its instruction
pub record ComeInOrder (before : ℕ) (part : List Hart) (es : List Event) : Type 0 where
  pub later : (k : ℕ) (d : Event) → suc k < length es → place_of (get_or es k d).access - before < place_of (get_or es (suc k) d).access - before
  pub there : All (λ (e : Event). is_some (pc_in before part e) ≡ true) es

-- n instructions of a part of at most `quota` are done, and the rest of it is the part that begins here; the words of a code are still those of memory
pub record GoesOn (quota n first : ℕ) (words : List Instr) (h₀ : Hart) (m₀ : Memory) (h : Hart) (m : Memory) : Type 0 where
  pub code : m.code ≡ m₀.code
  pub within : n ≤ quota
  pub shows : Shows m first words
  pub rest : drop n (harts_in_part m₀.code quota (sight_of h₀ m₀)) ≡ harts_in_part m₀.code (quota - n) (sight_of h m)
