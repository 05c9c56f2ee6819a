-- What a packet's payload asks for.
use Rattle.std.specs.Prelude.{ℕ, List, codes, Option, Some, None}
use Rattle.gdb_packets.specs.declared.request.Request.{Request}
use Rattle.gdb_packets.specs.declared.request.Request.TheVariants as requests
use Rattle.gdb_packets.specs.declared.request.Watch.TheVariants.{Access, Read, Write}
use Rattle.gdb_packets.specs.Fields.{alone, behind, by_address, by_thread, by_two, number_from, or_else, thread_of, two_numbers}
use Rattle.gdb_packets.specs.Files.{file_of, name_of}
use Rattle.gdb_packets.specs.Commands.{command_of}

-- queries about threads, and what the user says: behind `q`
abbrev pub asking_of : List ℕ → Request
asking_of bs =
    or_else (behind (codes "Rcmd,") bs) (λ r. requests.Command (command_of r))
    (or_else (behind (codes "fThreadInfo") bs) (λ r. requests.FirstThreads)
    (or_else (behind (codes "sThreadInfo") bs) (λ r. requests.MoreThreads)
    (or_else (behind (codes "ThreadExtraInfo,") bs) (λ r. by_thread requests.Note (thread_of r))
    (or_else (behind (codes "Attached") bs) (λ r. requests.Attached)
    (or_else (behind (codes "C") bs) (λ r. alone requests.PresentThread r)
    requests.Unknown)))))

-- all queries
abbrev pub query_of : List ℕ → Request
query_of bs =
    or_else (behind (codes "Supported") bs) (λ r. requests.Features)
    (or_else (behind (codes "Xfer:features:read:target.xml:") bs) (λ r. by_two requests.Description (two_numbers r))
    (or_else (behind (codes "Xfer:threads:read::") bs) (λ r. by_two requests.ThreadList (two_numbers r))
    (or_else (behind (codes "Xfer:exec-file:read:") bs) (λ r. name_of (number_from 0 r))
    (or_else (behind (codes "CRC:") bs) (λ r. by_two requests.Checksum (two_numbers r))
    (asking_of bs)))))

-- a step of one thread, in which the others may go on where more actions follow; a signal before the thread is passed over
abbrev pub together_where : Option (List ℕ) → Request → Request → Request
together_where None alone together = alone
together_where (Some bs) alone together = together

abbrev pub others_go : List ℕ → Request → Request → Request
others_go bs alone together = together_where (behind (codes ";") bs) alone together

abbrev pub step_by : Option (ℕ × List ℕ) → Request
step_by None = requests.Unknown
step_by (Some x) = others_go x.1 (requests.StepAlone x.0) (requests.Step x.0)

abbrev pub step_of : List ℕ → Request
step_of bs = or_else (behind (codes ":") bs) (λ r. step_by (number_from 0 r)) requests.Unknown

-- steps in a range of addresses: its ends and the thread. Of a thread alone they are one step
abbrev pub steps_by : ℕ → ℕ → Option (ℕ × List ℕ) → Request
steps_by low high None = requests.Unknown
steps_by low high (Some x) = others_go x.1 (requests.StepAlone x.0) (requests.StepIn low high x.0)

abbrev pub range_to : ℕ → Option (ℕ × List ℕ) → Request
range_to low None = requests.Unknown
range_to low (Some x) = or_else (behind (codes ":") x.1) (λ r. steps_by low x.0 (number_from 0 r)) requests.Unknown

abbrev pub range_from : Option (ℕ × List ℕ) → Request
range_from None = requests.Unknown
range_from (Some x) = or_else (behind (codes ",") x.1) (λ r. range_to x.0 (number_from 0 r)) requests.Unknown

abbrev pub range_of : List ℕ → Request
range_of bs = range_from (number_from 0 bs)

abbrev pub signalled_by : Option (ℕ × List ℕ) → Request
signalled_by None = requests.Unknown
signalled_by (Some x) = step_of x.1

-- ways to go on without steps, an end, and files: behind `v`
abbrev pub going_of : List ℕ → Request
going_of bs =
    or_else (behind (codes "Cont;c") bs) (λ r. requests.Continue)
    (or_else (behind (codes "Cont;C") bs) (λ r. requests.Continue)
    (or_else (behind (codes "Kill") bs) (λ r. requests.Detach)
    (or_else (behind (codes "File:") bs) file_of
    requests.Unknown)))

-- all ways to go on, and files
abbrev pub resume_of : List ℕ → Request
resume_of bs =
    or_else (behind (codes "Cont?") bs) (λ r. requests.Actions)
    (or_else (behind (codes "Cont;s") bs) step_of
    (or_else (behind (codes "Cont;S") bs) (λ r. signalled_by (number_from 0 r))
    (or_else (behind (codes "Cont;r") bs) range_of
    (going_of bs))))

-- ways back and ends
abbrev pub way_of : List ℕ → Request
way_of bs =
    or_else (behind (codes "bs") bs) (λ r. requests.StepBack)
    (or_else (behind (codes "bc") bs) (λ r. requests.ContinueBack)
    (or_else (behind (codes "D") bs) (λ r. requests.Detach)
    (or_else (behind (codes "k") bs) (λ r. requests.Kill)
    requests.Unknown)))

-- watchpoints of writes, of reads, and of both
abbrev pub watching_of : List ℕ → Request
watching_of bs =
    or_else (behind (codes "Z2,") bs) (λ r. by_two (requests.AddWatch Write) (two_numbers r))
    (or_else (behind (codes "z2,") bs) (λ r. by_two (requests.RemoveWatch Write) (two_numbers r))
    (or_else (behind (codes "Z3,") bs) (λ r. by_two (requests.AddWatch Read) (two_numbers r))
    (or_else (behind (codes "z3,") bs) (λ r. by_two (requests.RemoveWatch Read) (two_numbers r))
    (or_else (behind (codes "Z4,") bs) (λ r. by_two (requests.AddWatch Access) (two_numbers r))
    (or_else (behind (codes "z4,") bs) (λ r. by_two (requests.RemoveWatch Access) (two_numbers r))
    (way_of bs))))))

-- breakpoints, those that gdb calls software breakpoints and those that it calls hardware breakpoints
abbrev pub moving_of : List ℕ → Request
moving_of bs =
    or_else (behind (codes "Z0,") bs) (λ r. by_address requests.AddStop (number_from 0 r))
    (or_else (behind (codes "z0,") bs) (λ r. by_address requests.RemoveStop (number_from 0 r))
    (or_else (behind (codes "Z1,") bs) (λ r. by_address requests.AddHardwareStop (number_from 0 r))
    (or_else (behind (codes "z1,") bs) (λ r. by_address requests.RemoveHardwareStop (number_from 0 r))
    (watching_of bs))))

-- what is there
abbrev pub reading_of : List ℕ → Request
reading_of bs =
    or_else (behind (codes "?") bs) (λ r. requests.WhyStopped)
    (or_else (behind (codes "Hg") bs) (λ r. requests.SelectGeneral (thread_of r))
    (or_else (behind (codes "Hc") bs) (λ r. requests.SelectMoving (thread_of r))
    (or_else (behind (codes "T") bs) (λ r. by_thread requests.IsAlive (thread_of r))
    (or_else (behind (codes "g") bs) (λ r. requests.ReadRegisters)
    (or_else (behind (codes "p") bs) (λ r. by_address requests.ReadRegister (number_from 0 r))
    (or_else (behind (codes "m") bs) (λ r. by_two requests.ReadMemory (two_numbers r))
    (moving_of bs)))))))

-- what can't be changed
abbrev pub change_of : List ℕ → Request
change_of bs =
    or_else (behind (codes "G") bs) (λ r. requests.Change)
    (or_else (behind (codes "P") bs) (λ r. requests.Change)
    (or_else (behind (codes "M") bs) (λ r. requests.Change)
    (or_else (behind (codes "X") bs) (λ r. requests.Change)
    (reading_of bs))))

abbrev pub request_of : List ℕ → Request
request_of bs = or_else (behind (codes "q") bs) query_of (or_else (behind (codes "v") bs) resume_of (change_of bs))
