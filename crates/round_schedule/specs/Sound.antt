-- What a set of instructions has to keep so that its runs leave round traces whose places rise.
use Rattle.std.specs.Prelude.{◌≡◌, ℕ, ◌+◌, ◌<◌, ◌%◌, ◌^◌, true, false, if◌then◌else◌, List, [], length, slice_index, Option, Some, None}
use Rattle.pages.specs.declared.access.Store.{Store}
use Rattle.pages.specs.Memory.{IsBytes, covered, last_byte}
use Rattle.round_schedule.specs.declared.access.Access.{Access}
use Rattle.round_schedule.specs.declared.access.Access.TheVariants.{StoreConditional}
use Rattle.round_schedule.specs.declared.access.Stepped.{Stepped}
use Rattle.round_schedule.specs.declared.access.Stepped.TheVariants.{Done, Waits, Stopped}
use Rattle.round_schedule.specs.declared.span.Span.{Span}
use Rattle.round_schedule.specs.Accesses.{byte_read, byte_written, must_be_serial, place_of, reads, writes}
use Rattle.round_schedule.specs.RoundTrace.{IsRoundTrace}
use Rattle.round_schedule.specs.Schedule.{Words, opening_state, run_of}

-- an access over these bytes and these stores: it reads the bytes that are there, and the stores write its bytes and no others
pub record Matches (bs : List ℕ) (a : Access) (ss : List Store) : Type 0 where
  pub read_within : (x : ℕ) → reads a x ≡ true → x < length bs
  pub read_bytes : (x : ℕ) → reads a x ≡ true → byte_read a x ≡ slice_index bs x
  pub put_bytes : (x b : ℕ) → last_byte b ss x ≡ (if writes a x then byte_written a x else b)
  pub put_where : (x : ℕ) → covered ss x ≡ writes a x

-- without an access there are no stores
abbrev pub Agrees : List ℕ → List Store → Option Access → Type 0
Agrees bs ss None = ss ≡ []
Agrees bs ss (Some a) = Matches bs a ss

-- what is done in the parallel phase does not have to be serial
abbrev pub IsParallel : Option Access → Type 0
IsParallel None = Unit {0}
IsParallel (Some a) = must_be_serial a ≡ false

-- a store-conditional that succeeds has the reservation of its bytes
abbrev pub HasReservation : Option Span → Option Access → Type 0
HasReservation r (Some (StoreConditional w ordering p a (Some v))) = r ≡ Some (record { address = a; width = w })
HasReservation r _ = Unit {0}

pub record Sound {H C : Type 0} (w : Words H C) : Type 0 where
  pub step_agrees : (h : H) (bs : List ℕ) (a : Option Access) → IsBytes bs → (w.step h bs).answer ≡ Done a → Agrees bs (w.step h bs).stores a
  pub step_parallel : (h : H) (bs : List ℕ) (a : Option Access) → (w.step h bs).answer ≡ Done a → IsParallel a
  pub serial_agrees : (n : ℕ) (h : H) (bs : List ℕ) (c : C) (r : Option Span) (a : Option Access) → IsBytes bs →
      (w.serial_step n h bs c r).answer ≡ Done a → Agrees bs (w.serial_step n h bs c r).stores a
  pub serial_reserved : (n : ℕ) (h : H) (bs : List ℕ) (c : C) (r : Option Span) (a : Option Access) →
      (w.serial_step n h bs c r).answer ≡ Done a → HasReservation r a

-- the count of instructions that a hart did, after an answer
abbrev pub counted : Stepped → ℕ → ℕ
counted (Done a) d = (d + 1) % 2 ^ 64
counted Waits d = d
counted (Stopped code) d = d

-- an access's place is the count before it
abbrev pub IsPlacedAt : Stepped → ℕ → Type 0
IsPlacedAt (Done (Some a)) d = place_of a ≡ d
IsPlacedAt _ d = Unit {0}

pub record Counts {H C : Type 0} (w : Words H C) (done : H → ℕ) : Type 0 where
  pub step_counts : (h : H) (bs : List ℕ) → done (w.step h bs).hart ≡ counted (w.step h bs).answer (done h)
  pub step_places : (h : H) (bs : List ℕ) → IsPlacedAt (w.step h bs).answer (done h)
  pub serial_counts : (n : ℕ) (h : H) (bs : List ℕ) (c : C) (r : Option Span) → done (w.serial_step n h bs c r).hart ≡ counted (w.serial_step n h bs c r).answer (done h)
  pub serial_places : (n : ℕ) (h : H) (bs : List ℕ) (c : C) (r : Option Span) → IsPlacedAt (w.serial_step n h bs c r).answer (done h)

-- the trace of every run over sound words is a round trace, whose opening bytes are those of the start
abbrev pub TracesAreRoundTraces : (H C : Type 0) → Type 0
TracesAreRoundTraces H C =
    (w : Words H C) → Sound w → (budget : ℕ) (quotas : ℕ → List ℕ) (n : ℕ) (hs : List H) (bs : List ℕ) (c : C) → IsBytes bs →
    IsRoundTrace (run_of w budget quotas n (opening_state hs bs c)).trace (λ x. slice_index bs x) budget
