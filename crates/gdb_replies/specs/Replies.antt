-- What each reply says, byte by byte.
use Rattle.std.specs.Prelude.{ℕ, ◌+◌, ◌==◌, nat_lt, Bool, if◌then◌else◌, List, [], ◌∷◌, ◌++◌, length, take, drop, codes, Option, Some, None}
use Rattle.std.specs.Fmt.{decimal}
use Rattle.std.specs.Int.{w32, to_be_bytes}
use Rattle.hex.specs.Hex.{encode_lower}
use Rattle.round_schedule.specs.declared.event.Phase.{Phase}
use Rattle.round_schedule.specs.declared.event.Phase.TheVariants.{Parallel, Serial}
use Rattle.gdb_replies.specs.declared.note.ThreadNote.{ThreadNote}
use Rattle.gdb_replies.specs.declared.reply.Reply.{Reply}
use Rattle.gdb_replies.specs.declared.reply.Reply.TheVariants as replies
use Rattle.gdb_replies.specs.declared.stop_reply.Reason.{Reason}
use Rattle.gdb_replies.specs.declared.stop_reply.Reason.TheVariants.{AccessWatch, Begin, Breakpoint, End, HardwareBreakpoint, ReadWatch, Signal, Step, Watch}
use Rattle.gdb_replies.specs.declared.stop_reply.StopReply.{StopReply}
use Rattle.gdb_replies.specs.declared.window.Window.{Window}
use Rattle.gdb_replies.specs.FileReplies.{file_text}
use Rattle.gdb_replies.specs.Words.{address_text, register_text, registers_text, thread_text, threads_text}

-- ---- why the run stands: a signal, and what is more to be said of it

abbrev pub reason_text : Reason → List ℕ
reason_text Step = codes "T05"
reason_text Breakpoint = codes "T05swbreak:;"
reason_text HardwareBreakpoint = codes "T05hwbreak:;"
reason_text (Watch a) = codes "T05watch:" ++ address_text a ++ codes ";"
reason_text (ReadWatch a) = codes "T05rwatch:" ++ address_text a ++ codes ";"
reason_text (AccessWatch a) = codes "T05awatch:" ++ address_text a ++ codes ";"
reason_text (Signal n) = codes "T" ++ encode_lower (n ∷ [])
reason_text Begin = codes "T05replaylog:begin;"
reason_text End = codes "T05replaylog:end;"

-- a register's value behind its number
abbrev pub named : List ℕ → ℕ → List ℕ
named number value = number ++ register_text value

-- the reason, registers pc (32, in hexadecimal 20), sp and fp, and the thread
abbrev pub stop_text : StopReply → List ℕ
stop_text s =
    reason_text s.reason
    ++ named (codes "20:") s.pc
    ++ named (codes ";02:") s.sp
    ++ named (codes ";08:") s.fp
    ++ (codes ";thread:" ++ thread_text s.thread ++ codes ";")

-- ---- what is said of a hart

abbrev pub phase_word : Phase → List ℕ
phase_word Parallel = codes "parallel"
phase_word Serial = codes "serial"

abbrev pub place_text : ThreadNote → List ℕ
place_text n = codes "round " ++ decimal n.round ++ codes ", " ++ phase_word n.phase ++ codes ", place " ++ decimal n.place

-- whether it waits for its turn
abbrev pub waits_text : Bool → List ℕ
waits_text waits = if waits then codes ", waits" else []

-- how many bytes its stores cover that are not committed; nothing where there are none
abbrev pub uncommitted_text : ℕ → List ℕ
uncommitted_text n = if n == 0 then [] else codes ", " ++ decimal n ++ codes " bytes not committed"

-- a hart that runs is somewhere in a round; one that has stopped did so by the exit call with a value, or with a code
abbrev pub state_text : ThreadNote → Option (ℕ × ℕ) → List ℕ
state_text n None = place_text n ++ waits_text n.waits ++ uncommitted_text n.uncommitted
state_text n (Some s) = if s.0 == 1 then codes "exit " ++ decimal s.1 else codes "stop " ++ decimal s.0

abbrev pub note_text : ThreadNote → List ℕ
note_text n = codes "hart " ++ decimal n.hart ++ codes ", " ++ state_text n n.stop

-- the list of threads, as a document of gdb's: each with its number, its hart's name, and where the hart is
unfoldable pub thread_list_begin : List ℕ
thread_list_begin = codes "<?xml version=\"1.0\"?><threads>"

abbrev pub thread_words : ThreadNote → List ℕ
thread_words n = codes "\">" ++ (state_text n n.stop ++ codes "</thread>")

abbrev pub thread_element : ThreadNote → List ℕ
thread_element n = (codes "<thread id=\"" ++ thread_text (n.hart + 1)) ++ ((codes "\" name=\"hart " ++ decimal n.hart) ++ thread_words n)

unfoldable pub thread_list_end : List ℕ
thread_list_end = codes "</threads>"

-- ---- documents in parts: `m` where more follows, `l` with the last part

abbrev pub part_of : List ℕ → ℕ → ℕ → List ℕ
part_of text offset count = (if nat_lt (offset + count) (length text) then codes "m" else codes "l") ++ take count (drop offset text)

abbrev pub part_text : Window → List ℕ
part_text w = part_of w.text.now w.offset w.count

-- ---- what else there is to be said

-- what of the protocol is offered, and with an image also that
abbrev pub features_text : Bool → List ℕ
features_text has_image =
    codes "PacketSize=10000;qXfer:features:read+;qXfer:threads:read+;"
    ++ ((if has_image then codes "qXfer:exec-file:read+;" else [])
    ++ codes "ReverseStep+;ReverseContinue+;swbreak+;hwbreak+;vContSupported+")

abbrev pub checksum_text : ℕ → List ℕ
checksum_text sum = codes "C" ++ encode_lower (to_be_bytes w32 sum)

-- ---- all of them

abbrev pub payload_of : Reply → List ℕ
payload_of replies.Unknown = []
payload_of replies.Done = codes "OK"
payload_of replies.Missing = codes "E01"
payload_of (replies.Refused n) = codes "E.error " ++ decimal n
payload_of replies.PastStands = codes "E.the past of a recording cannot be changed"
payload_of replies.ExecutionStands = codes "E.the past of an execution cannot be changed"
payload_of (replies.Features has_image) = features_text has_image
payload_of replies.Actions = codes "vCont;c;C;s;S;r"
payload_of replies.Attached = codes "1"
payload_of (replies.Registers r) = registers_text r.now
payload_of (replies.Register v) = register_text v
payload_of (replies.Memory bs) = encode_lower bs.now
payload_of (replies.Stopped s) = stop_text s
payload_of (replies.Threads n) = threads_text n
payload_of replies.NoMoreThreads = codes "l"
payload_of (replies.Thread t) = codes "QC" ++ thread_text t
payload_of (replies.Note n) = encode_lower (note_text n)
payload_of (replies.Console text) = codes "O" ++ encode_lower text.now
payload_of (replies.Part w) = part_text w
payload_of (replies.Checksum sum) = checksum_text sum
payload_of (replies.File file) = file_text file
payload_of (replies.Words words) = encode_lower words.now
