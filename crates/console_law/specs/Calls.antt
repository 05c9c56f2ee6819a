-- The calls of the console that a run does, in the order in which they are done.
use Rattle.std.specs.Prelude.{ℕ, zero, suc, ◌%◌, ◌^◌, ◌==◌, Bool, true, false, if◌then◌else◌, List, [], ◌∷◌, ◌++◌}
use Rattle.pages.specs.declared.access.Range.{Range}
use Rattle.pages.specs.Memory.{fetched}
use Rattle.round_schedule.specs.Schedule.{HartRound, State, Turn, committed, hart_rounds, joined, round_of, turn_of}
use Rattle.rv64_decode.specs.declared.instruction.Instr.{Instr}
use Rattle.rv64_decode.specs.declared.instruction.Instr.TheVariants.{Ecall}
use Rattle.hart_step.specs.declared.hart.Hart.{Hart}
use Rattle.hart_step.specs.Console.{ConsoleState}
use Rattle.hart_step.specs.Registers.{reg}
use Rattle.hart_step.specs.Step.{by_word}
use Rattle.hart_step.specs.Words.{words_of}
use Rattle.console_law.specs.TurnStates.{turn_states}

-- a call of the console
pub data ConsoleCall : Type 0 where
  -- a put call: the byte, and its answer
  PutByte : ℕ → ℕ → ConsoleCall
  -- a get call: its answer
  GetByte : ℕ → ConsoleCall

-- whether an instruction is ECALL (section 2.8)
abbrev pub is_ecall : Instr → Bool
is_ecall Ecall = true
is_ecall _ = false

-- the call of an ECALL, by the hart before it and after it: x17 has the number, 1 for put and 2 for get, x10 the argument and then the answer
abbrev pub call_of : Hart → Hart → List ConsoleCall
call_of before after =
    if reg before.x 17 == 1 then PutByte (reg before.x 10 % 2 ^ 8) (reg after.x 10) ∷ []
    else (if reg before.x 17 == 2 then GetByte (reg after.x 10) ∷ [] else [])

-- the call, or none, that the instruction from one state of a turn to the next is
abbrev pub call_between : List Range → Turn Hart ConsoleState → Turn Hart ConsoleState → List ConsoleCall
call_between code p q =
    by_word (fetched (record { bytes = p.bytes; code = code }) p.hart.pc) [] []
    (λ i. if is_ecall i then call_of p.hart q.hart else [])

-- the calls of a sequence of states, each from the one before by one instruction
abbrev pub calls_along : List Range → Turn Hart ConsoleState → List (Turn Hart ConsoleState) → List ConsoleCall
calls_along code p [] = []
calls_along code p (q ∷ qs) = call_between code p q ++ calls_along code q qs

-- where the turn of a hart begins
abbrev pub turn_start : State Hart ConsoleState → HartRound Hart → Turn Hart ConsoleState
turn_start s r = record { hart = r.last.hart; bytes = s.bytes; console = s.console; trace = s.trace }

-- the calls of hart i's turn, of budget instructions if it waits and of none else
abbrev pub calls_of_turn : List Range → ℕ → State Hart ConsoleState → ℕ → HartRound Hart → List ConsoleCall
calls_of_turn code budget s i r =
    calls_along code (turn_start s r) (turn_states (words_of code) s.rounds i (if r.waits then budget else 0) (turn_start s r))

-- the calls of a serial phase: the turns hart by hart, from hart i on
abbrev pub calls_of_phase : List Range → ℕ → ℕ → List (HartRound Hart) → State Hart ConsoleState → List ConsoleCall
calls_of_phase code budget i [] s = []
calls_of_phase code budget i (r ∷ rs) s =
    calls_of_turn code budget s i r ++ calls_of_phase code budget (suc i) rs (joined s (turn_of (words_of code) budget s i r))

-- the calls of a round: only its serial phase has any
unfoldable pub calls_of_round : List Range → ℕ → (ℕ → List ℕ) → State Hart ConsoleState → List ConsoleCall
calls_of_round code budget quotas s =
    let rounds = hart_rounds (words_of code) s.bytes (quotas s.rounds) s.harts in
    calls_of_phase code budget 0 rounds (committed s rounds)

-- the calls of n rounds
unfoldable pub calls_of_run : List Range → ℕ → (ℕ → List ℕ) → ℕ → State Hart ConsoleState → List ConsoleCall
calls_of_run code budget quotas zero s = []
calls_of_run code budget quotas (suc n) s =
    calls_of_round code budget quotas s ++ calls_of_run code budget quotas n (round_of (words_of code) budget quotas s)

-- the bytes of the put calls, in order
abbrev pub bytes_put : List ConsoleCall → List ℕ
bytes_put [] = []
bytes_put (PutByte byte answer ∷ cs) = byte ∷ bytes_put cs
bytes_put (GetByte answer ∷ cs) = bytes_put cs

-- the answers of the put calls, in order
abbrev pub put_answers : List ConsoleCall → List ℕ
put_answers [] = []
put_answers (PutByte byte answer ∷ cs) = answer ∷ put_answers cs
put_answers (GetByte answer ∷ cs) = put_answers cs

-- the answers of the get calls, in order
abbrev pub get_answers : List ConsoleCall → List ℕ
get_answers [] = []
get_answers (PutByte byte answer ∷ cs) = get_answers cs
get_answers (GetByte answer ∷ cs) = answer ∷ get_answers cs
