-- The list of threads, as a document of gdb's.
use Rattle.std.specs.Prelude.{ℕ, zero, suc, ◌+◌, ◌==◌, if◌then◌else◌, List, [], ◌++◌, codes, Option, Some, None}
use Rattle.std.specs.Fmt.{decimal}
use Rattle.hart_step.specs.declared.hart.Hart.{Hart}
use Rattle.hart_step.specs.declared.hart.Stop.{Stop}
use Rattle.execution_moments.specs.Shown.{hart_at}
use Rattle.gdb_replies.specs.Replies.{thread_list_begin, thread_list_end}
use Rattle.execution_moments.specs.Looked.{Looked}
use Rattle.execution_session.specs.Sessions.{position_at}

-- where a hart's next memory operation stands in the order, and how many instructions it has done; or how it ended
abbrev pub state_text : Option Stop → ℕ → ℕ → List ℕ
state_text None position done = codes "position " ++ decimal position ++ codes ", place " ++ decimal done
state_text (Some s) position done = if s.code == 1 then codes "exit " ++ decimal s.value else codes "stop " ++ decimal s.code

abbrev pub thread_element : ℕ → Hart → ℕ → List ℕ
thread_element i h position =
    (codes "<thread id=\"" ++ decimal (i + 1)) ++ (codes "\" name=\"hart " ++ decimal i) ++ codes "\">" ++ state_text h.stop position h.done ++ codes "</thread>"

abbrev pub thread_entry : ℕ → ℕ → Option Hart → List ℕ
thread_entry i position None = []
thread_entry i position (Some h) = thread_element i h position

-- those of harts 0, 1, .., n - 1 at a time
unfoldable pub thread_entries : Looked → ℕ → ℕ → List ℕ
thread_entries r time zero = []
thread_entries r time (suc n) = thread_entries r time n ++ thread_entry n (position_at r time n) (hart_at r.course time n)

abbrev pub thread_list : Looked → ℕ → List ℕ
thread_list r time = thread_list_begin ++ thread_entries r time r.harts ++ thread_list_end
