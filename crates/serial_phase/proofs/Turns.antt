-- What is left of a turn that is watched.
use Rattle.std.proofs.Common.{◌≡◌, ℕ, zero, suc, ◌-◌, ◌<◌, ◌||◌, ◌&&◌, ◌==◌, ◌++◌, Bool, true, false, if◌then◌else◌, is_some, List, [], Option, Some, refl, sym, ap, ◌∙◌, arith, true≢false}
use Rattle.std.specs.Prelude.{option_to_list}
use Rattle.pages.specs.declared.access.Range.{Range}
use Rattle.pages.specs.Memory.{Memory, after, fetched}
use Rattle.round_schedule.specs.declared.access.Access.{Access}
use Rattle.round_schedule.specs.declared.access.Stepped.{Stepped}
use Rattle.round_schedule.specs.declared.access.Stepped.TheVariants.{Done, Waits, Stopped}
use Rattle.round_schedule.specs.ReservingTurn.{ReservingTurn, reserving_turn_next, updated_by}
use Rattle.round_schedule.specs.Schedule.{SerialOutcome}
use Rattle.round_schedule.specs.Reservations.{entry}
use Rattle.hart_step.specs.declared.hart.Hart.{Hart}
use Rattle.hart_step.specs.Console.{ConsoleState}
use Rattle.hart_step.specs.SerialStep.{serial_stepped}
use Rattle.hart_step.specs.Registers.{reg}
use Rattle.hart_step.specs.Step.{by_instr, by_word}
use Rattle.hart_step.specs.Words.{words_of}
use Rattle.rv64_decode.specs.declared.instruction.Instr.{Instr}
use Rattle.rv64_decode.specs.Table.{instr_of}
use Rattle.serial_phase.specs.declared.shared.Turn.{Turn}
use Rattle.serial_phase.specs.Turns.{Turns}
use Rattle.serial_phase.specs.UnderWay.{At, Under, reserving_turn_at}
use Rattle.serial_phase.specs.Words.{answered_reservations}
use Rattle.serial_phase.proofs.Came.{Came}
use Rattle.serial_phase.proofs.TurnUnderWay.{IsNext, outcome_at, went}
use Rattle.serial_phase.specs.Asking.{asks_after, asks_in_reserving_turn, reserving_turn_went}
use Rattle.serial_phase.specs.Forgetting.{asks_number, is_ecall}
use Rattle.serial_phase.proofs.Words.{picked, picked_not}

-- whether one of the next k instructions of a turn that began at x and is at y asks
abbrev pub asks_left : Turn → At → ℕ → At → Bool
asks_left turn x k y =
    asks_in_reserving_turn (words_of x.state.pages.memory.code) (asks_number x.state.pages.memory.code) turn.round turn.hart k (reserving_turn_at y)

abbrev pub asks_now : At → Bool
asks_now y = asks_number y.state.pages.memory.code y.hart y.state.pages.memory.bytes

-- a turn that is watched has come to y: whether it asks is whether it has, or will
pub record Watched (turn : Turn) (left : ℕ) (asked : Bool) (x y : At) : Type 0 where
  pub under : Under turn left x y
  pub asks : asks_left turn x turn.budget x ≡ (asked || asks_left turn x left y)

or_none : (b : Bool) → b ≡ (b || false)
or_none true = refl
or_none false = refl

or_more : (a b c : Bool) → (a || (b || c)) ≡ ((a || b) || c)
or_more true b c = refl
or_more false b c = refl

none_left : (turn : Turn) (x y : At) (left : ℕ) → left ≡ 0 → asks_left turn x left y ≡ false
unfolding asks_in_reserving_turn
none_left turn x y zero e = refl
none_left turn x y (suc k) e = absurd (omega (arith, e))

one_left : (turn : Turn) (x y : At) (left rest : ℕ) → left ≡ suc rest → is_some y.hart.stop ≡ false →
    asks_left turn x left y ≡ (asks_number x.state.pages.memory.code y.hart y.state.pages.memory.bytes
    || asks_after (reserving_turn_next (words_of x.state.pages.memory.code) turn.round turn.hart (reserving_turn_at y)).answer
    (λ a. asks_in_reserving_turn (words_of x.state.pages.memory.code) (asks_number x.state.pages.memory.code) turn.round turn.hart rest
    (reserving_turn_went turn.hart (reserving_turn_at y) (reserving_turn_next (words_of x.state.pages.memory.code) turn.round turn.hart (reserving_turn_at y)) a)))
unfolding asks_in_reserving_turn
one_left turn x y zero rest e on = absurd (omega (arith, e))
one_left turn x y (suc k) rest e on = ap (λ (j : ℕ). asks_left turn x (suc j) y) (omega (arith, e)) ∙ picked_not (is_some y.hart.stop) false _ on

stopped_left : (turn : Turn) (x y : At) (left : ℕ) → 0 < left → is_some y.hart.stop ≡ true → asks_left turn x left y ≡ false
unfolding asks_in_reserving_turn
stopped_left turn x y zero some off = absurd (omega (arith, some))
stopped_left turn x y (suc k) some off = picked (is_some y.hart.stop) false _ off

same_next : (turn : Turn) (x y : At) → y.state.pages.memory.code ≡ x.state.pages.memory.code →
    reserving_turn_next (words_of x.state.pages.memory.code) turn.round turn.hart (reserving_turn_at y) ≡ outcome_at turn y
same_next turn x y same =
    ap (λ (code : List Range). serial_stepped turn.round y.hart (record { bytes = y.state.pages.memory.bytes; code = code }) y.state.console.console (entry y.state.reservations turn.hart)) (sym same)

-- the next instruction, as the code does it
next_left : (turn : Turn) (x y : At) (left : ℕ) (z : Came) → 0 < left → is_some y.hart.stop ≡ false → y.state.pages.memory.code ≡ x.state.pages.memory.code → IsNext turn y z →
    asks_left turn x left y ≡ (asks_now y || asks_after z.answer (λ a. asks_in_reserving_turn (words_of x.state.pages.memory.code) (asks_number x.state.pages.memory.code) turn.round turn.hart (left - 1)
    (reserving_turn_went turn.hart (reserving_turn_at y) (outcome_at turn y) a)))
next_left turn x y left z some on same n =
    let rest : SerialOutcome Hart ConsoleState → Option Access → Bool =
    λ o a. asks_in_reserving_turn (words_of x.state.pages.memory.code) (asks_number x.state.pages.memory.code) turn.round turn.hart (left - 1) (reserving_turn_went turn.hart (reserving_turn_at y) o a) in
    one_left turn x y left (left - 1) (omega (arith, some)) on
    ∙ ap (λ (o : SerialOutcome Hart ConsoleState). asks_number x.state.pages.memory.code y.hart y.state.pages.memory.bytes || asks_after o.answer (rest o)) (same_next turn x y same)
    ∙ ap (λ (code : List Range). asks_number code y.hart y.state.pages.memory.bytes || asks_after (outcome_at turn y).answer (rest (outcome_at turn y))) (sym same)
    ∙ ap (λ (b : Stepped). asks_now y || asks_after b (rest (outcome_at turn y))) (sym n.0)

-- ---- how it goes on, and ends

pub asks_first : (turn : Turn) (x : At) → asks_left turn x turn.budget x ≡ (false || asks_left turn x turn.budget x)
asks_first turn x = refl

pub asks_more : (turn : Turn) (left : ℕ) (asked : Bool) (x y : At) (z : Came) (l : Turns) (a : Option Access) → 0 < left → is_some y.hart.stop ≡ false → z.answer ≡ Done a → IsNext turn y z →
    l.current ≡ z.state.log.current ++ option_to_list a → Watched turn left asked x y → asks_left turn x turn.budget x ≡ ((asked || asks_now y) || asks_left turn x (left - 1) (went z l z.state.shows))
asks_more turn left asked x y z l a some on is n log u =
    let s = n.1 in
    let o = outcome_at turn y in
    let done : o.answer ≡ Done a = sym n.0 ∙ is in
    let bytes : z.state.pages.memory.bytes ≡ after y.state.pages.memory.bytes o.stores = ap (λ (m : Memory). m.bytes) s.pages.memory in
    let entries : z.state.reservations ≡ updated_by turn.hart a y.state.reservations = s.reservations ∙ ap (λ (b : Stepped). answered_reservations turn.hart b y.state.reservations) done in
    let current : l.current ≡ y.state.log.current ++ option_to_list a = log ∙ ap (λ (k : Turns). k.current ++ option_to_list a) s.log in
    let there : reserving_turn_at (went z l z.state.shows) ≡ reserving_turn_went turn.hart (reserving_turn_at y) o a = cc (s.hart, bytes, s.console, entries, current) in
    let rest : ReservingTurn Hart ConsoleState → Bool = asks_in_reserving_turn (words_of x.state.pages.memory.code) (asks_number x.state.pages.memory.code) turn.round turn.hart (left - 1) in
    u.asks
    ∙ ap (λ (b : Bool). asked || b)
    (next_left turn x y left z some on u.under.keeps.code n
    ∙ ap (λ (b : Stepped). asks_now y || asks_after b (λ e. rest (reserving_turn_went turn.hart (reserving_turn_at y) o e))) is
    ∙ ap (λ (d : ReservingTurn Hart ConsoleState). asks_now y || rest d) (sym there))
    ∙ or_more asked (asks_now y) (asks_left turn x (left - 1) (went z l z.state.shows))

asks_ended : (turn : Turn) (left : ℕ) (asked : Bool) (x y : At) (z : Came) → 0 < left → is_some y.hart.stop ≡ false → ((f : Option Access → Bool) → asks_after z.answer f ≡ false) → IsNext turn y z →
    Watched turn left asked x y → (asked || asks_now y) ≡ asks_left turn x turn.budget x
asks_ended turn left asked x y z some on ends n u =
    sym (u.asks ∙ ap (λ (b : Bool). asked || b) (next_left turn x y left z some on u.under.keeps.code n ∙ ap (λ (b : Bool). asks_now y || b) (ends _) ∙ sym (or_none (asks_now y))))

pub asks_waiting : (turn : Turn) (left : ℕ) (asked : Bool) (x y : At) (z : Came) → 0 < left → is_some y.hart.stop ≡ false → z.answer ≡ Waits → IsNext turn y z →
    Watched turn left asked x y → (asked || asks_now y) ≡ asks_left turn x turn.budget x
asks_waiting turn left asked x y z some on is n u = asks_ended turn left asked x y z some on (λ f. ap (λ (b : Stepped). asks_after b f) is) n u

pub asks_stopped : (turn : Turn) (left : ℕ) (asked : Bool) (x y : At) (z : Came) (code : ℕ) → 0 < left → is_some y.hart.stop ≡ false → z.answer ≡ Stopped code → IsNext turn y z →
    Watched turn left asked x y → (asked || asks_now y) ≡ asks_left turn x turn.budget x
asks_stopped turn left asked x y z code some on is n u = asks_ended turn left asked x y z some on (λ f. ap (λ (b : Stepped). asks_after b f) is) n u

pub asks_off : (turn : Turn) (left : ℕ) (asked : Bool) (x y : At) → 0 < left → is_some y.hart.stop ≡ true → Watched turn left asked x y → asked ≡ asks_left turn x turn.budget x
asks_off turn left asked x y some off u = or_none asked ∙ sym (u.asks ∙ ap (λ (b : Bool). asked || b) (stopped_left turn x y left some off))

pub asks_over : (turn : Turn) (left : ℕ) (asked : Bool) (x y : At) → left ≡ 0 → Watched turn left asked x y → asked ≡ asks_left turn x turn.budget x
asks_over turn left asked x y none u = or_none asked ∙ sym (u.asks ∙ ap (λ (b : Bool). asked || b) (none_left turn x y left none))

-- the whole turn from its beginning, whose log is empty
pub asks_whole : (turn : Turn) (x : At) (b : Bool) → x.state.log.current ≡ [] → b ≡ asks_left turn x turn.budget x →
    b ≡ asks_in_reserving_turn (words_of x.state.pages.memory.code) (asks_number x.state.pages.memory.code) turn.round turn.hart turn.budget (record {
      hart = x.hart;
      bytes = x.state.pages.memory.bytes;
      console = x.state.console.console;
      reservations = x.state.reservations;
      log = [];
    })
asks_whole turn x b e f =
    f ∙ ap (λ (l : List Access). asks_in_reserving_turn (words_of x.state.pages.memory.code) (asks_number x.state.pages.memory.code) turn.round turn.hart turn.budget (record (reserving_turn_at x) { log = l })) e

-- ---- one instruction

pub asks_of : (m : Memory) (h : Hart) (w : ℕ) (i : Instr) → fetched m h.pc ≡ Some w → instr_of w ≡ Some i → (is_ecall i && (reg h.x 17 == 3)) ≡ asks_number m.code h m.bytes
asks_of m h w i e f =
    let test : Instr → Bool = λ j. is_ecall j && (reg h.x 17 == 3) in
    sym (ap (λ (x : Option ℕ). by_word x false false test) e ∙ ap (λ (x : Option Instr). by_instr x false test) f)
