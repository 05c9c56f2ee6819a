-- Whether states are alike, and whether a run comes back, as answers.
use Rattle.std.specs.Prelude.{◌≡◌, ℕ, zero, suc, ◌+◌, ◌-◌, ◌/◌, ◌%◌, ◌≤◌, ◌==◌, ◌&&◌, ◌||◌, not, Bool, true, false, List, [], ◌∷◌, length, Option, Some, None}
use Rattle.std.specs.Str.{bytes_eq}
use Rattle.pages.specs.Memory.{width_bytes}
use Rattle.pages.specs.declared.access.Range.{Range}
use Rattle.round_schedule.specs.declared.span.Span.{Span}
use Rattle.round_schedule.specs.Held.{held}
use Rattle.round_schedule.specs.Schedule.{State, run_of}
use Rattle.hart_step.specs.declared.hart.Hart.{Hart}
use Rattle.hart_step.specs.declared.hart.Stop.{Stop}
use Rattle.hart_step.specs.Console.{ConsoleState}
use Rattle.hart_step.specs.Words.{words_of}
use Rattle.serial_phase.specs.Asking.{asks_in_run}
use Rattle.serial_phase.specs.Forgetting.{asks_number, uncounted}
use Rattle.serial_phase.specs.Returning.{Alike, ComesBack}

-- ---- states

abbrev pub same_stop : Option Stop → Option Stop → Bool
same_stop None None = true
same_stop None (Some t) = false
same_stop (Some s) None = false
same_stop (Some s) (Some t) = (s.code == t.code) && (s.value == t.value)

-- two harts but for their counts
abbrev pub same_hart : Hart → Hart → Bool
same_hart h g = bytes_eq h.x g.x && (h.pc == g.pc) && same_stop h.stop g.stop

abbrev pub same_harts : List Hart → List Hart → Bool
same_harts [] [] = true
same_harts [] (g ∷ gs) = false
same_harts (h ∷ hs) [] = false
same_harts (h ∷ hs) (g ∷ gs) = same_hart h g && same_harts hs gs

abbrev pub same_console : ConsoleState → ConsoleState → Bool
same_console c d = bytes_eq c.input d.input && (c.place == d.place) && bytes_eq c.output d.output

abbrev pub same_span : Option Span → Option Span → Bool
same_span None None = true
same_span None (Some t) = false
same_span (Some s) None = false
same_span (Some s) (Some t) = (s.address == t.address) && (width_bytes s.width == width_bytes t.width)

-- the first n harts have the same reservations
abbrev pub same_held : ℕ → State Hart ConsoleState → State Hart ConsoleState → Bool
same_held zero s t = true
same_held (suc n) s t = same_held n s t && same_span (held n s.trace) (held n t.trace)

unfoldable pub are_alike : State Hart ConsoleState → State Hart ConsoleState → Bool
are_alike s t = same_harts s.harts t.harts && bytes_eq s.bytes t.bytes && same_console s.console t.console && same_held (length s.harts) s t

-- it is the answer to whether they are
abbrev pub AlikeIsDecided : Type 0
AlikeIsDecided =
    (s t : State Hart ConsoleState) → (are_alike s t ≡ true → Alike uncounted s t) × (Alike uncounted s t → are_alike s t ≡ true)

-- ---- runs

-- whether a run is p rounds on where it was: these are whole turns of a plan's so many rows, all that later rounds depend on is
-- the same, and no hart asked for the number of a round in between
unfoldable pub is_back_in : List Range → ℕ → (ℕ → List ℕ) → ℕ → State Hart ConsoleState → ℕ → Bool
is_back_in code budget quotas rows s p =
    (p % rows == 0) && are_alike s (run_of (words_of code) budget quotas p s) && not (asks_in_run (words_of code) (asks_number code) budget quotas p s)

-- whether it is within n rounds
unfoldable pub comes_back_within : List Range → ℕ → (ℕ → List ℕ) → ℕ → State Hart ConsoleState → ℕ → Bool
comes_back_within code budget quotas rows s zero = false
comes_back_within code budget quotas rows s (suc n) =
    comes_back_within code budget quotas rows s n || is_back_in code budget quotas rows s (suc n)

-- whether a run of so many rounds is found to go round: it comes back to where it was when half of them were done
unfoldable pub goes_round : List Range → ℕ → (ℕ → List ℕ) → ℕ → State Hart ConsoleState → ℕ → Bool
goes_round code budget quotas rows s rounds =
    comes_back_within code budget quotas rows (run_of (words_of code) budget quotas (rounds / 2) s) (rounds - rounds / 2)

-- a run that does comes back from there on
abbrev pub GoingRoundComesBack : Type 0
GoingRoundComesBack =
    (code : List Range) (budget : ℕ) (quotas : ℕ → List ℕ) (rows : ℕ) (s : State Hart ConsoleState) (rounds : ℕ) →
    ((p x : ℕ) → p % rows ≡ 0 → quotas (x + p) ≡ quotas x) → goes_round code budget quotas rows s rounds ≡ true →
    (p : ℕ) × (p ≤ rounds - rounds / 2) × ComesBack (words_of code) uncounted (asks_number code) budget quotas p (run_of (words_of code) budget quotas (rounds / 2) s)

-- and one that is found back somewhere on its way does: i rounds on it is where it is j rounds on, with at most i between them
abbrev pub EarlierGoesRound : Type 0
EarlierGoesRound =
    (code : List Range) (budget : ℕ) (quotas : ℕ → List ℕ) (rows : ℕ) (s : State Hart ConsoleState) (rounds i p : ℕ) →
    ((q x : ℕ) → q % rows ≡ 0 → quotas (x + q) ≡ quotas x) → i ≤ rounds / 2 → 1 ≤ p → p ≤ rounds - rounds / 2 →
    is_back_in code budget quotas rows (run_of (words_of code) budget quotas i s) p ≡ true →
    goes_round code budget quotas rows s rounds ≡ true
