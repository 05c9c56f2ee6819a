-- What is noted of serial turns while the harts along them are shown: where something is told, as if each hart that was shown did one more instruction.
use Rattle.std.specs.Prelude.{ℕ, suc, ◌+◌, Bool, if◌then◌else◌, List, [], ◌∷◌, ◌++◌, length, get_or, Option, Some, None}
use Rattle.hart_step.specs.declared.hart.Hart.{Hart}
use Rattle.round_schedule.specs.declared.event.Phase.TheVariants.{Serial}
use Rattle.moments.specs.declared.asked.Asked.{Asked}
use Rattle.moments.specs.Hits.{hits_from, tells}
use Rattle.past_harts.specs.declared.place.Place.{Place}
use Rattle.past_harts.specs.Moments.{place_in}
use Rattle.round_steps.specs.Places.{places}

-- hart i after c instructions of a turn, where it is told; the turn comes after so many others, if it does
abbrev pub noted_at : Bool → ℕ → ℕ → Option ℕ → List Place
noted_at told i c None = []
noted_at told i c (Some begun) = if told then place_in Serial i (begun + c) ∷ [] else []

-- the counts of those of these harts of which something is told, where the first has this count
abbrev pub counts_told : (Hart → Bool) → ℕ → List Hart → List ℕ
counts_told f c [] = []
counts_told f c (h ∷ hs) = (if f h then c ∷ [] else []) ++ counts_told f (suc c) hs

-- of a turn under way
abbrev pub noted_so_far : Asked → ℕ → Option ℕ → List Hart → List Place
noted_so_far a i None along = []
noted_so_far a i (Some begun) along = places Serial i (counts_told (tells a i) begun along)

-- of a whole turn
abbrev pub noted_in_turn : Asked → ℕ → Option ℕ → List Hart → List Place
noted_in_turn a i None along = []
noted_in_turn a i (Some begun) along = places Serial i (hits_from (tells a i) begun along)

abbrev pub begun_in : List (Option ℕ) → ℕ → Option ℕ
begun_in begun i = get_or begun i None

-- of whole turns, from hart i on, which come after so many instructions
abbrev pub noted_in_turns : Asked → List (Option ℕ) → ℕ → List (List Hart) → List Place
noted_in_turns a begun i [] = []
noted_in_turns a begun i (along ∷ turns) = noted_in_turn a i (begun_in begun i) along ++ noted_in_turns a begun (suc i) turns

-- of these turns and of the next one, along which the hart was these
abbrev pub noted : Asked → List (Option ℕ) → List (List Hart) → List Hart → List Place
noted a begun turns along = noted_in_turns a begun 0 turns ++ noted_so_far a (length turns) (begun_in begun (length turns)) along
