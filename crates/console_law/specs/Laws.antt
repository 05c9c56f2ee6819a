-- What the calls of a run leave and answer.
use Rattle.std.specs.Prelude.{◌≡◌, ℕ, ◌<◌, if◌then◌else◌, nat_lt, List, [], length, slice_index, take, All}
use Rattle.pages.specs.declared.access.Range.{Range}
use Rattle.round_schedule.specs.Schedule.{IsSerialTurn, State, Turn, Words, opening_state, run_of, turn_from}
use Rattle.hart_step.specs.declared.hart.Hart.{Hart}
use Rattle.hart_step.specs.Console.{ConsoleState, all_ones, output_room}
use Rattle.hart_step.specs.Words.{words_of}
use Rattle.console_law.specs.Calls.{bytes_put, calls_of_run, get_answers, put_answers}
use Rattle.console_law.specs.TurnStates.{turn_states}

-- before the first round: this input, of which nothing was taken, and no output
abbrev pub run_opening : List Hart → List ℕ → List ℕ → State Hart ConsoleState
run_opening harts bytes input = opening_state harts bytes (record { input = input; place = 0; output = [] })

-- the output is the first 2^20 bytes that were put
abbrev pub OutputIsFirstPuts : Type 0
OutputIsFirstPuts =
    (code : List Range) (budget : ℕ) (quotas : ℕ → List ℕ) (n : ℕ) (harts : List Hart) (bytes input : List ℕ) →
    (run_of (words_of code) budget quotas n (run_opening harts bytes input)).console.output
    ≡ take output_room (bytes_put (calls_of_run code budget quotas n (run_opening harts bytes input)))

-- a hart has 32 registers (section 2.1)
abbrev pub HasRegisters : Hart → Type 0
HasRegisters h = length h.x ≡ 32

-- the k-th of these answers is `f k`
abbrev pub AnsweredBy : (ℕ → ℕ) → List ℕ → Type 0
AnsweredBy f answers = (k : ℕ) → k < length answers → slice_index answers k ≡ f k

-- byte k of the input, and 2^64-1 where it has none
abbrev pub input_answer : List ℕ → ℕ → ℕ
input_answer input k = if nat_lt k (length input) then slice_index input k else all_ones

-- over harts that have their registers, the get calls take the input byte by byte
abbrev pub GetsTakeInput : Type 0
GetsTakeInput =
    (code : List Range) (budget : ℕ) (quotas : ℕ → List ℕ) (n : ℕ) (harts : List Hart) (bytes input : List ℕ) → All HasRegisters harts →
    AnsweredBy (input_answer input) (get_answers (calls_of_run code budget quotas n (run_opening harts bytes input)))

-- 0 while the output has room, and then 2^64-1
abbrev pub room_answer : ℕ → ℕ
room_answer k = if nat_lt k output_room then 0 else all_ones

-- over harts that have their registers, the put calls are answered by whether the output has room
abbrev pub PutsAreAnswered : Type 0
PutsAreAnswered =
    (code : List Range) (budget : ℕ) (quotas : ℕ → List ℕ) (n : ℕ) (harts : List Hart) (bytes input : List ℕ) → All HasRegisters harts →
    AnsweredBy room_answer (put_answers (calls_of_run code budget quotas n (run_opening harts bytes input)))

-- `turn_states` is the sequence that is the turn
abbrev pub TurnStatesAreTurn : (H C : Type 0) → Type 0
TurnStatesAreTurn H C = (w : Words H C) (n i k : ℕ) (p : Turn H C) → IsSerialTurn w n i k p (turn_states w n i k p) (turn_from w n i k p)
