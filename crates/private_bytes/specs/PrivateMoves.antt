-- Moves of a hart against a list of those stores alone that are to nobody's own bytes. A time is a number of these. What the hart does with
-- its own bytes has a time as well, which all rules bound as ever: so dependencies pass through a stack slot as through a register. Beside
-- each bound is the manual's rule (section 14.1.3) that it is kept for.
use Rattle.std.specs.Prelude.{◌≡◌, ℕ, zero, suc, ◌+◌, ◌*◌, ◌^◌, ◌<◌, ◌≤◌, Bool, true, false, min, if◌then◌else◌, List, option_map, Option, Some, None}
use Rattle.pages.specs.declared.access.Width.{Width}
use Rattle.pages.specs.Memory.{Memory, width_bytes}
use Rattle.round_schedule.specs.declared.access.Access.TheVariants.{Load}
use Rattle.round_schedule.specs.Accesses.{writes}
use Rattle.hart_step.specs.Effect.{Read}
use Rattle.hart_step.specs.Numbers.{plus}
use Rattle.hart_step.specs.Step.{extended_to}
use Rattle.memory_order.specs.Operations.{is_plain_store}
use Rattle.all_endings.specs.HartRuns.{Acts, IsReadable, KnowsAll, acts}
use Rattle.all_endings.specs.RunStates.{Move, OwnByte, RunState, moved_at}
use Rattle.all_endings.specs.StoreLists.{Stored, later}
use Rattle.private_bytes.specs.Owners.{is_private}

-- ---- loads

-- the byte that the hart's own last store left, and what it depends on (rule 12); where there is none, the opening byte
abbrev pub left_by : ℕ → Option OwnByte → Option ℕ
left_by opening None = Some opening
left_by opening (Some o) = o.byte

abbrev pub needs_of : Option OwnByte → ℕ
needs_of None = 0
needs_of (Some o) = o.needs

abbrev pub own_byte : (ℕ → ℕ) → RunState → ℕ → Option ℕ
own_byte opening a x = left_by (opening x) (a.own x)

-- the number in n own bytes from an address on, least significant first, where all of them are known
abbrev pub joined : Option ℕ → Option ℕ → Option ℕ
joined None rest = None
joined (Some byte) rest = option_map (λ n. byte + 2 ^ 8 * n) rest

abbrev pub own_number : (ℕ → ℕ) → RunState → ℕ → ℕ → Option ℕ
own_number opening a address zero = Some 0
own_number opening a address (suc n) = joined (own_byte opening a address) (own_number opening a (address + 1) n)

-- ---- instructions

-- what an instruction that goes on does
pub data ActsApart (owns : ℕ → ℕ → Bool) (image : Memory) (h : ℕ) (m : List Stored) (opening : ℕ → ℕ) (HasPlace : Move → Type 0) (a : RunState) (v : Move) : Type 0 where
  -- what touches none of the hart's own bytes acts as ever
  shares : is_private owns h v.access ≡ false → Acts image h m opening HasPlace a v → ActsApart owns image h m opening HasPlace a v
  -- a store to them has no place in the list
  keeps : is_private owns h v.access ≡ true → is_plain_store v.access ≡ true → Acts image h m opening (λ u. Unit {0}) a v → ActsApart owns image h m opening HasPlace a v
  -- a load of them reads what the hart left there, whenever it stands: known, even where it is LATER
  recalls : (rd address : ℕ) (w : Width) (signed : Bool) → is_private owns h v.access ≡ true → KnowsAll a v → acts a v ≡ Read rd address w signed →
      IsReadable image address w → v.access ≡ Load w 0 address 0 → ((k : ℕ) → k < width_bytes w → needs_of (a.own (address + k)) ≤ v.time) →
      v.result ≡ option_map (extended_to signed w) (own_number opening a address (width_bytes w)) → ((x : ℕ) → v.source x ≡ 0) →
      v.next ≡ plus a.pc 4 → ActsApart owns image h m opening HasPlace a v

-- ---- what they leave

-- nobody asks where a store to own bytes stands
abbrev pub without_place : OwnByte → OwnByte
without_place o = record o { place = 0 }

-- what an operation on own bytes leaves: it stands at its time, and not behind one more store of the list
abbrev pub moved_privately : ℕ → List Stored → RunState → Move → RunState
moved_privately h m a v = record (moved_at h (min v.time (later m)) a v) {
  own = λ x. if writes v.access x then option_map without_place ((moved_at h (min v.time (later m)) a v).own x) else a.own x;
}
