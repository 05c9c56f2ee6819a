-- What the harts of an execution did, as a file says it.
use Rattle.std.specs.Prelude.{ℕ, ◌+◌, ◌==◌, Bool, true, false, if◌then◌else◌, List, [], ◌∷◌, ◌++◌, Option, Some, None}
use Rattle.round_schedule.specs.declared.access.Access.{Access}
use Rattle.round_schedule.specs.declared.access.Access.TheVariants.{Load, Store, LoadReserved, StoreConditional, Atomic, Fence}
use Rattle.round_schedule.specs.declared.event.Event.{Event}
use Rattle.hart_step.specs.declared.hart.Hart.{Hart}
use Rattle.hart_step.specs.declared.hart.Stop.{Stop}
use Rattle.execution_file.specs.Recorded.{HartDeeds}

-- the number that an access shows of what was read: of an SC 1 where it succeeded, and 0 where it failed
abbrev pub number_shown : Access → Option ℕ
number_shown (Load w p a read) = Some read
number_shown (Store w p a written) = None
number_shown (LoadReserved w o p a read) = Some read
number_shown (StoreConditional w o p a None) = Some 0
number_shown (StoreConditional w o p a (Some written)) = Some 1
number_shown (Atomic w o p a read written) = Some read
number_shown (Fence before after mode p) = None

abbrev pub one_more : Bool → Option ℕ → List ℕ → List ℕ
one_more true (Some n) ns = n ∷ ns
one_more true None ns = ns
one_more false o ns = ns

-- the numbers that the events of hart h show, in their order
abbrev pub numbers_of : ℕ → List Event → List ℕ
numbers_of h [] = []
numbers_of h (e ∷ t) = one_more (e.hart == h) (number_shown e.access) (numbers_of h t)

abbrev pub code_of : Option Stop → ℕ
code_of None = 0
code_of (Some s) = s.code

-- the value of the exit call
abbrev pub value_of : Option Stop → Option ℕ
value_of None = None
value_of (Some s) = if s.code == 1 then Some s.value else None

-- what hart h did
abbrev pub part_of : ℕ → Hart → List Event → HartDeeds
part_of h g t = record { steps = g.done; code = code_of g.stop; value = value_of g.stop; reads = numbers_of h t }

-- what harts h, h + 1, .. did
abbrev pub parts_from : ℕ → List Hart → List Event → List HartDeeds
parts_from h [] t = []
parts_from h (g ∷ gs) t = part_of h g t ∷ parts_from (h + 1) gs t

abbrev pub deeds : List Hart → List Event → List HartDeeds
deeds gs t = parts_from 0 gs t

-- what harts h, h + 1, .. did, and this event
abbrev pub with_event : ℕ → List HartDeeds → Event → List HartDeeds
with_event h [] e = []
with_event h (p ∷ ps) e = record p { reads = p.reads ++ numbers_of h (e ∷ []) } ∷ with_event (h + 1) ps e
