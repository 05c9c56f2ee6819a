-- What follows one spot of a hart's runs.
use Rattle.std.specs.Prelude.{◌≡◌, ℕ, ◌<◌, ◌⊎◌, Bool, true, false, List, Contains, Some, None}
use Rattle.pages.specs.Memory.{Memory}
use Rattle.rv64_decode.specs.declared.instruction.Instr.TheVariants.{Ecall}
use Rattle.round_schedule.specs.Accesses.{stores as writing}
use Rattle.hart_step.specs.DecodedCode.{decoded}
use Rattle.all_endings.specs.Offering.{Offers}
use Rattle.all_endings.specs.RunStates.{Move}
use Rattle.all_endings.specs.StoreLists.{Stored, later}
use Rattle.all_endings.specs.Walking.{EndsAt, HartEnding, IsPaid}
use Rattle.private_bytes.specs.Owners.{KeepsToItself, is_own, is_private}
use Rattle.private_bytes.specs.PrivateWalks.{LeadsOn, Spot, spot_with}
use Rattle.list_suffixes.specs.ApartRuns.{MovesApart}

-- some spots cover what each move of a spot leads to, if that isn't lost
abbrev pub CoverMoves : (ℕ → ℕ → Bool) → ℕ → Memory → ℕ → List Stored → (ℕ → ℕ) → Spot → List Spot → Type 0
CoverMoves owns k image h m opening p ps = (v : Move) → p.place.count < k → MovesApart owns image h m opening p v → LeadsOn owns h m ps p v

-- the same of the moves by which hart h does a store to nobody's own bytes LATER
abbrev pub CoverLater : (ℕ → ℕ → Bool) → ℕ → Memory → ℕ → List Stored → (ℕ → ℕ) → Spot → List Spot → Type 0
CoverLater owns k image h m opening p ps =
    (v : Move) → p.place.count < k → MovesApart owns image h m opening p v → is_private owns h v.access ≡ false → writing v.access ≡ true → v.time ≡ later m →
    LeadsOn owns h m ps p v

-- a store to nobody's own bytes that a spot is offered is among some, or the hart does it LATER, and what that leads to is covered, if it isn't
-- lost
abbrev pub CoverOffers : (ℕ → ℕ → Bool) → ℕ → Memory → ℕ → List Stored → (ℕ → ℕ) → Spot → List Stored → List Spot → Type 0
CoverOffers owns k image h m opening p offered ps =
    (s : Stored) → p.place.next ≡ None → is_own owns h s.address ≡ false → Offers image h m opening p.place.state s →
    Contains offered s ⊎ CoverLater owns k image h m opening (spot_with p s) ps

-- of a hart that owes nothing, the store that comes next is among some
abbrev pub TellNext : ℕ → List Stored → Spot → List Stored → Type 0
TellNext h m p offered = (s : Stored) → p.place.next ≡ Some s → IsPaid h m p.place → Contains offered s

-- so are its ends
abbrev pub TellEnds : Memory → ℕ → List Stored → Spot → List HartEnding → Type 0
TellEnds image h m p ends = (e : HartEnding) → EndsAt image h m p.place e → Contains ends e

-- a call that comes next has a constant number
abbrev pub KnowsCall : Memory → Spot → Type 0
KnowsCall image p = decoded image p.place.state.pc ≡ Some Ecall → p.constant ≡ true

-- all that `IsWalkedFrom` asks of one spot
pub record IsFollowed (owns : ℕ → ℕ → Bool) (k : ℕ) (image : Memory) (harts h : ℕ) (m : List Stored) (opening : ℕ → ℕ) (p : Spot) (offered : List Stored) (ends : List HartEnding) (ps : List Spot) : Type 0 where
  pub apart : KeepsToItself owns image harts h p.place.state
  pub moves : CoverMoves owns k image h m opening p ps
  pub offers : CoverOffers owns k image h m opening p offered ps
  pub grows : TellNext h m p offered
  pub calls : KnowsCall image p
  pub endings : TellEnds image h m p ends
