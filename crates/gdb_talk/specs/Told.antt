-- What a debugger is told of a hart at a moment.
use Rattle.std.specs.Prelude.{ℕ, ◌+◌, ◌-◌, ◌==◌, ◌||◌, nat_lt, Bool, true, false, is_some, if◌then◌else◌, List, codes, slice_get, slice_set, slice_index, Option, Some, None}
use Rattle.hart_step.specs.declared.hart.Hart.{Hart}
use Rattle.hart_step.specs.declared.hart.Stop.{Stop}
use Rattle.moments.specs.Sights.{Sight}
use Rattle.moments.specs.Stops.{is_one_of}
use Rattle.past_harts.specs.declared.moment.Moment.{Moment}
use Rattle.past_harts.specs.Moments.{phase_number}
use Rattle.gdb_replies.specs.declared.note.ThreadNote.{ThreadNote}
use Rattle.gdb_replies.specs.declared.registers.Registers.{Registers}
use Rattle.gdb_replies.specs.declared.stop_reply.Reason.{Reason}
use Rattle.gdb_replies.specs.declared.stop_reply.Reason.TheVariants.{AccessWatch, Breakpoint, HardwareBreakpoint, ReadWatch, Signal, Step, Watch}
use Rattle.gdb_replies.specs.declared.stop_reply.StopReply.{StopReply}
use Rattle.watching.specs.declared.watchpoint.WatchKind.{WatchKind}
use Rattle.watching.specs.declared.watchpoint.WatchKind.TheVariants.{Changes, Reads, Accesses}
use Rattle.watching.specs.declared.watchpoint.Watchpoint.{Watchpoint}
use Rattle.gdb_talk.specs.Stops.{Stopping}

-- the hart's own numbers, of which x0 reads 0, and where in the run it is
abbrev pub registers_of : Hart → Moment → Registers
registers_of h at = record { x = slice_set h.x 0 0; pc = h.pc; round = at.rounds + 1; place = h.done; phase = phase_number at.place.phase }

abbrev pub told_stop : Option Stop → Option (ℕ × ℕ)
told_stop None = None
told_stop (Some s) = Some (s.code, s.value)

-- what is said of hart i by the hart alone: not whether it waits, and nothing of its stores
abbrev pub note_of : ℕ → Hart → Moment → ThreadNote
note_of i h at = record { hart = i; round = at.rounds + 1; phase = at.place.phase; place = h.done; waits = false; uncommitted = 0; stop = told_stop h.stop }

-- gdb's number of the signal that a fault is: 4 for an illegal word, 10 for an address that is no multiple of what it has to be, 5 for EBREAK, and
-- 11 for what lies outside memory or code, or is a store to code
abbrev pub signal_of : ℕ → ℕ
signal_of code =
    if code == 2 then 4
    else (if (code == 4) || (code == 5) || (code == 7) then 10
    else (if code == 10 then 5 else 11))

-- why one stands at a hart: a fault has stopped it, or a breakpoint is at its pc, or a step has ended there; the exit call is no reason
abbrev pub reason_by_stop : Option Stop → Reason → Reason
reason_by_stop None other = other
reason_by_stop (Some s) other = if s.code == 1 then other else Signal (signal_of s.code)

-- software and hardware breakpoints are at these addresses
abbrev pub reason_of : List ℕ → List ℕ → Hart → Reason
reason_of software hardware h =
    reason_by_stop h.stop (if is_one_of software h.pc then Breakpoint else (if is_one_of hardware h.pc then HardwareBreakpoint else Step))

-- why one stands where there is this hart, or none
abbrev pub why : List ℕ → List ℕ → Option Hart → Reason
why software hardware None = Step
why software hardware (Some h) = reason_of software hardware h

-- a watchpoint is named by its kind and its own address
abbrev pub watch_reason : WatchKind → ℕ → Reason
watch_reason Changes address = Watch address
watch_reason Reads address = ReadWatch address
watch_reason Accesses address = AccessWatch address

abbrev pub named : Option Watchpoint → Reason
named None = Step
named (Some w) = watch_reason w.kind w.range.start

-- why one stands where this is told: by which watchpoint, or why at the hart
abbrev pub why_told : Stopping → Option ℕ → Option Hart → Reason
why_told s None h = why s.software s.hardware h
why_told s (Some watch) h = named (slice_get s.watches watch)

-- there is no step of a hart that has stopped, nor of one that isn't there
abbrev pub is_stopped : Option Hart → Bool
is_stopped None = true
is_stopped (Some h) = is_some h.stop

-- thread i + 1 stands there for a reason
abbrev pub stop_reply_of : Reason → ℕ → Hart → StopReply
stop_reply_of why i h = record { reason = why; thread = i + 1; pc = h.pc; sp = slice_index h.x 2; fp = slice_index h.x 8 }

-- threads are numbered from 1
abbrev pub hart_of_thread : ℕ → ℕ → Option ℕ
hart_of_thread harts thread = if thread == 0 || nat_lt harts thread then None else Some (thread - 1)

-- what is answered where something is done, and where there is no such thing
abbrev pub done_if : Bool → List ℕ
done_if done = if done then codes "OK" else codes "E01"

-- what is answered of a hart as it is seen, and `E01` where there is no such hart
abbrev pub or_missing : Option (Sight Hart) → (Sight Hart → List ℕ) → List ℕ
or_missing None f = codes "E01"
or_missing (Some s) f = f s
