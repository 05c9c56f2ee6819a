-- How the lines and the calls of a file decide the steps of its harts: first the calls in their order, and then one hart after another.
use Rattle.std.specs.Prelude.{◌≡◌, ◌≢◌, ◌⊎◌, ◌+◌, ◌^◌, ◌<◌, ◌≤◌, ℕ, Bool, false, if◌then◌else◌, nat_le, ◌&&◌, true, List, [], ◌∷◌, ◌++◌, length, slice_get, slice_index_or, take, Option, Some, None}
use Rattle.pages.specs.Memory.{Memory}
use Rattle.rv64_decode.specs.declared.instruction.Instr.{Instr}
use Rattle.rv64_decode.specs.declared.instruction.Instr.TheVariants.{Ecall}
use Rattle.hart_step.specs.declared.hart.Hart.{Hart}
use Rattle.hart_step.specs.declared.hart.Stop.{Stop}
use Rattle.hart_step.specs.Registers.{reg}
use Rattle.execution.specs.Executions.{Goes, Standing, Stops}
use Rattle.execution_file.specs.Recorded.{HartDeeds, Turn}
use Rattle.execution_file.specs.Deeds.{code_of, numbers_of, value_of}

-- how many instructions hart h has done, and how it stopped
abbrev pub done_of : Option Hart → ℕ
done_of None = 0
done_of (Some g) = g.done

abbrev pub done_by : Standing → ℕ → ℕ
done_by p h = done_of (slice_get p.harts h)

abbrev pub stop_in : Option Hart → Option Stop
stop_in None = None
stop_in (Some g) = g.stop

abbrev pub stop_by : Standing → ℕ → Option Stop
stop_by p h = stop_in (slice_get p.harts h)

-- the line of hart h; a hart that has none does nothing
abbrev pub no_line : HartDeeds
no_line = record { steps = 0; code = 0; value = None; reads = [] }

abbrev pub line_of : List HartDeeds → ℕ → HartDeeds
line_of lines h = slice_index_or lines h no_line

-- ---- one hart

-- hart h does its next instruction, in round n; what it has read then is how its line begins: each instruction that reads a number takes the
-- next one of the line
pub record Reads (image : Memory) (line : HartDeeds) (n h : ℕ) (p q : Standing) : Type 0 where
  pub goes : Goes image h p q
  pub round : q.round ≡ n
  pub numbers : numbers_of h q.events ≡ take (length (numbers_of h q.events)) line.reads

-- whether an instruction is a call that puts a byte, gets one or asks for the round, where x17 is this
abbrev pub is_call : Instr → ℕ → Bool
is_call Ecall number = nat_le 1 number && nat_le number 3
is_call _ number = false

abbrev pub calls : {image : Memory} {line : HartDeeds} {n h : ℕ} {p q : Standing} → Reads image line n h p q → Bool
calls s = is_call s.goes.instruction (reg s.goes.before.x 17)

-- it does some of the instructions that its line leaves it, k of them such calls
pub data Runs (image : Memory) (line : HartDeeds) (n h : ℕ) : ℕ → Standing → Standing → Type 0 where
  runs-none : (p : Standing) → Runs image line n h 0 p p
  runs-more : (k : ℕ) (p q r : Standing) → Runs image line n h k p q → done_by q h < line.steps → (s : Reads image line n h q r) →
      Runs image line n h (if calls s then k + 1 else k) p r

-- it goes on up to its next call, and does that
pub record Calls (image : Memory) (line : HartDeeds) (n h : ℕ) (p r : Standing) : Type 0 where
  pub before : Standing
  pub runs : Runs image line n h 0 p before
  pub left : done_by before h < line.steps
  pub last : Reads image line n h before r
  pub call : calls last ≡ true

-- it stops in round n with this code, and with this value of the exit call
pub record StopsWith (image : Memory) (n h k : ℕ) (v : Option ℕ) (p q : Standing) : Type 0 where
  pub stops : Stops image h p q
  pub round : q.round ≡ n
  pub code : code_of (stop_by q h) ≡ k
  pub value : value_of (stop_by q h) ≡ v

-- it runs on or stops, as its line says
abbrev pub IsEnd : Memory → HartDeeds → ℕ → ℕ → Standing → Standing → Type 0
IsEnd image line n h p q =
    ((line.code ≡ 0) × (line.value ≡ None) × (q ≡ p)) ⊎ ((line.code ≢ 0) × StopsWith image n h line.code line.value p q)

-- it does all that its line leaves it, and ends so
pub record Ends (image : Memory) (line : HartDeeds) (n h : ℕ) (p q : Standing) : Type 0 where
  pub before : Standing
  pub calls : ℕ
  pub runs : Runs image line n h calls p before
  pub all : done_by before h ≡ line.steps
  pub end : IsEnd image line n h before q
  pub numbers : numbers_of h q.events ≡ line.reads

-- ---- all harts

-- the round from a call on: as it was, or the one that the call's turn says, which is no earlier and has 32 bits
abbrev pub round_from : ℕ → Option ℕ → ℕ
round_from n None = n
round_from n (Some m) = m

abbrev pub IsRound : ℕ → Option ℕ → Type 0
IsRound n None = Unit {0}
IsRound n (Some m) = (n ≤ m) × (m < 2 ^ 32)

-- from a start and round 0, the calls of these turns are done one after another; the round of the last is n
pub data AreCalled (image : Memory) (lines : List HartDeeds) (start : Standing) : List Turn → ℕ → Standing → Type 0 where
  called-none : AreCalled image lines start [] 0 start
  called-more : (us : List Turn) (u : Turn) (n : ℕ) (p q : Standing) → AreCalled image lines start us n p → IsRound n u.number →
      Calls image (line_of lines u.hart) (round_from n u.number) u.hart p q → AreCalled image lines start (us ++ u ∷ []) (round_from n u.number) q

-- then harts 0, 1, .., k - 1 end in round n
pub data HaveEnded (image : Memory) (lines : List HartDeeds) (n : ℕ) (start : Standing) : ℕ → Standing → Type 0 where
  ended-none : HaveEnded image lines n start 0 start
  ended-more : (k : ℕ) (p q : Standing) → HaveEnded image lines n start k p → Ends image (line_of lines k) n k p q → HaveEnded image lines n start (k + 1) q

-- first the calls, and then all harts
pub record AreFollowed (image : Memory) (lines : List HartDeeds) (turns : List Turn) (start end : Standing) : Type 0 where
  pub round : ℕ
  pub called : Standing
  pub calls : AreCalled image lines start turns round called
  pub ends : HaveEnded image lines round called (length lines) end
