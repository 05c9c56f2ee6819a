-- Round traces: the traces that a run in rounds may leave, told without any instruction.
use Rattle.std.specs.Prelude.{◌≡◌, ◌≢◌, ℕ, ◌<◌, ◌≤◌, ◌⊎◌, ◌==◌, ◌&&◌, ◌||◌, Bool, true, false, List, length, count_by, Option}
use Rattle.pages.specs.Memory.{in_range}
use Rattle.round_schedule.specs.declared.event.Event.{Event}
use Rattle.round_schedule.specs.declared.event.Phase.{Phase}
use Rattle.round_schedule.specs.declared.event.Phase.TheVariants.{Parallel, Serial}
use Rattle.round_schedule.specs.Accesses.{byte_read, bytes_of, address_of, is_lr, is_sc, must_be_serial, stores}
use Rattle.round_schedule.specs.Events.{is_serial}
use Rattle.round_schedule.specs.Positions.{IsLatest, ProgramBefore, event, reads_at, source_byte, writes_at}
use Rattle.round_schedule.specs.Spans.{span_of}

abbrev pub phase_number : Phase → ℕ
phase_number Parallel = 0
phase_number Serial = 1

-- round by round; in a round the parallel events and then the serial ones; in a phase hart by hart
pub record Follows (e f : Event) : Type 0 where
  pub rounds : e.round ≤ f.round
  pub phases : e.round ≡ f.round → phase_number e.phase ≤ phase_number f.phase
  pub harts : e.round ≡ f.round → phase_number e.phase ≡ phase_number f.phase → e.hart ≤ f.hart

-- what a parallel load may see: the writes of earlier rounds and its hart's own earlier ones
abbrev pub SeenInParallel : List Event → ℕ → ℕ → ℕ → Type 0
SeenInParallel t r x w = (writes_at t w x ≡ true) × (((event t w).round < (event t r).round) ⊎ ProgramBefore t w r)

-- what a serial load may see: every earlier write
abbrev pub SeenInSerial : List Event → ℕ → ℕ → ℕ → Type 0
SeenInSerial t r x w = (writes_at t w x ≡ true) × (w < r)

-- the last LR before the SC c of its hart is at l and has the SC's bytes, and no write of another hart to them follows it
pub record Reservation (t : List Event) (l c : ℕ) : Type 0 where
  pub reserved : is_lr (event t l).access ≡ true
  pub in_program : ProgramBefore t l c
  pub same_bytes : span_of (event t l).access ≡ span_of (event t c).access
  pub last : (k : ℕ) → l < k → k < c → (event t k).hart ≡ (event t c).hart → (is_lr (event t k).access || is_sc (event t k).access) ≡ true → ⊥
  pub unbroken : (k x : ℕ) → l < k → k < c → (event t k).hart ≢ (event t c).hart →
      in_range (address_of (event t l).access) (bytes_of (event t l).access) x ≡ true → writes_at t k x ≡ true → ⊥

-- the events of hart h's turn in the serial phase of round n
abbrev pub in_turn : ℕ → ℕ → Event → Bool
in_turn h n e = is_serial e.phase && (e.hart == h) && (e.round == n)

-- a round trace over these opening bytes, with a budget of so many instructions a serial turn
pub record IsRoundTrace (t : List Event) (opening : ℕ → ℕ) (budget : ℕ) : Type 0 where
  pub in_order : (i j : ℕ) → i < j → j < length t → Follows (event t i) (event t j)
  pub serial_words : (i : ℕ) → must_be_serial (event t i).access ≡ true → is_serial (event t i).phase ≡ true
  pub budgeted : (h n : ℕ) → count_by (in_turn h n) t ≤ budget
  pub parallel_loads : (r x : ℕ) → reads_at t r x ≡ true → is_serial (event t r).phase ≡ false →
      (s : Option ℕ) × IsLatest (λ w. w) (SeenInParallel t r x) s × (byte_read (event t r).access x ≡ source_byte t opening x s)
  pub serial_loads : (r x : ℕ) → reads_at t r x ≡ true → is_serial (event t r).phase ≡ true →
      (s : Option ℕ) × IsLatest (λ w. w) (SeenInSerial t r x) s × (byte_read (event t r).access x ≡ source_byte t opening x s)
  pub reservations : (c : ℕ) → is_sc (event t c).access ≡ true → stores (event t c).access ≡ true → (l : ℕ) × Reservation t l c
