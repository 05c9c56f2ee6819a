-- The lines of a report, which end with LF: decimal numbers, hexadecimal with leading zeros.
use Rattle.std.specs.Prelude.{ℕ, zero, suc, ◌+◌, ◌*◌, ◌/◌, ◌%◌, ◌==◌, ◌||◌, if◌then◌else◌, nat_lt, List, [], ◌∷◌, ◌++◌, codes, Option, Some, None}
use Rattle.std.specs.Fmt.{decimal}
use Rattle.pages.specs.declared.access.Width.{Width}
use Rattle.pages.specs.Memory.{width_bytes}
use Rattle.rv64_decode.specs.declared.ordering.AcquireRelease.{AcquireRelease}
use Rattle.rv64_decode.specs.declared.ordering.FenceMode.{FenceMode}
use Rattle.rv64_decode.specs.declared.ordering.FenceMode.TheVariants.{Normal, Tso}
use Rattle.rv64_decode.specs.declared.ordering.FenceSet.{FenceSet}
use Rattle.round_schedule.specs.declared.access.Access.{Access}
use Rattle.round_schedule.specs.declared.access.Access.TheVariants.{Load, Store, LoadReserved, StoreConditional, Atomic, Fence}
use Rattle.round_schedule.specs.declared.event.Event.{Event}
use Rattle.round_schedule.specs.declared.event.Phase.{Phase}
use Rattle.round_schedule.specs.declared.event.Phase.TheVariants.{Parallel, Serial}
use Rattle.round_schedule.specs.Accesses.{place_of}
use Rattle.hart_step.specs.declared.hart.Hart.{Hart}
use Rattle.hart_step.specs.declared.hart.Stop.{Stop}

abbrev pub hex_digit : ℕ → ℕ
hex_digit d = if nat_lt d 10 then 48 + d else 87 + d

-- the low n hexadecimal digits of a number
unfoldable pub hex : ℕ → ℕ → List ℕ
hex zero v = []
hex (suc n) v = hex n (v / 16) ++ hex_digit (v % 16) ∷ []

-- bytes, two digits each
abbrev pub bytes_text : List ℕ → List ℕ
bytes_text [] = []
bytes_text (b ∷ bs) = hex 2 b ++ bytes_text bs

-- ---- events

abbrev pub phase_text : Phase → List ℕ
phase_text Parallel = codes "p"
phase_text Serial = codes "s"

abbrev pub ordering_text : AcquireRelease → List ℕ
ordering_text o = if o.acquire then (if o.release then codes "aqrl" else codes "aq") else (if o.release then codes "rl" else codes "-")

-- a number of as many bytes as the access has, or a dash where there is none
abbrev pub number_text : Width → Option ℕ → List ℕ
number_text w None = codes "-"
number_text w (Some v) = hex (2 * width_bytes w) v

-- 2 for loads and 1 for stores
abbrev pub set_number : FenceSet → ℕ
set_number s = (if s.reads then 2 else 0) + (if s.writes then 1 else 0)

abbrev pub mode_text : FenceMode → List ℕ
mode_text Normal = codes "normal"
mode_text Tso = codes "tso"

abbrev pub operation_text : List ℕ → List ℕ → ℕ → Width → Option ℕ → Option ℕ → List ℕ
operation_text kind order a w r v = kind ++ order ++ codes " " ++ hex 8 a ++ codes " " ++ decimal (width_bytes w) ++ codes " " ++ number_text w r ++ codes " " ++ number_text w v

unfoldable pub access_text : Access → List ℕ
access_text (Load w p a r) = operation_text (codes "load ") (codes "-") a w (Some r) None
access_text (Store w p a v) = operation_text (codes "store ") (codes "-") a w None (Some v)
access_text (LoadReserved w o p a r) = operation_text (codes "lr ") (ordering_text o) a w (Some r) None
access_text (StoreConditional w o p a v) = operation_text (codes "sc ") (ordering_text o) a w None v
access_text (Atomic w o p a r v) = operation_text (codes "amo ") (ordering_text o) a w (Some r) (Some v)
access_text (Fence b f m p) = codes "fence " ++ decimal (set_number b) ++ codes " " ++ decimal (set_number f) ++ codes " " ++ mode_text m

-- an event's line: round, hart, place, phase, and what was done
unfoldable pub event_text : Event → List ℕ
event_text e = decimal e.round ++ codes " " ++ decimal e.hart ++ codes " " ++ decimal (place_of e.access) ++ codes " " ++ phase_text e.phase ++ codes " " ++ access_text e.access ++ codes "\n"

-- ---- harts

abbrev pub stop_text : Option Stop → List ℕ
stop_text None = codes "running"
stop_text (Some s) = if s.code == 1 then codes "exit " ++ hex 16 s.value else codes "stop " ++ decimal s.code

unfoldable pub hart_line : ℕ → Hart → List ℕ
hart_line i h = codes "hart " ++ decimal i ++ codes " pc " ++ hex 16 h.pc ++ codes " done " ++ decimal h.done ++ codes " " ++ stop_text h.stop ++ codes "\n"

-- the line of register k, where it is not x0 and not 0
unfoldable pub register_line : ℕ → ℕ → List ℕ
register_line k v = if (k == 0) || (v == 0) then [] else codes "x" ++ decimal k ++ codes " " ++ hex 16 v ++ codes "\n"

-- the lines of registers k, k + 1, ..
abbrev pub register_lines : ℕ → List ℕ → List ℕ
register_lines k [] = []
register_lines k (v ∷ vs) = register_line k v ++ register_lines (k + 1) vs

-- a hart's lines: its state, and its registers 1 to 31 that are not 0
unfoldable pub hart_text : ℕ → Hart → List ℕ
hart_text i h = hart_line i h ++ register_lines 0 h.x
