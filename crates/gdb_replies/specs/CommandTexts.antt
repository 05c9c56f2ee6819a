-- What the user's commands say.
use Rattle.std.specs.Prelude.{ℕ, Bool, if◌then◌else◌, List, ◌++◌, codes}
use Rattle.std.specs.Fmt.{decimal}
use Rattle.hex.specs.Hex.{encode_lower}
use Rattle.gdb_replies.specs.declared.note.ThreadNote.{ThreadNote}
use Rattle.gdb_replies.specs.Replies.{note_text}
use Rattle.gdb_replies.specs.Words.{address_text}

abbrev pub hart_line : ThreadNote → List ℕ
hart_line n = note_text n ++ codes "\n"

-- where a hart is, after how many instructions of the round, and its pc
abbrev pub pc_rest : ℕ → List ℕ
pc_rest pc = codes " instructions of the round, pc " ++ address_text pc ++ codes "\n"

abbrev pub where_rest : ℕ → ℕ → List ℕ
where_rest count pc = (codes ", after " ++ decimal count) ++ pc_rest pc

abbrev pub where_line : ThreadNote → ℕ → ℕ → List ℕ
where_line n count pc = note_text n ++ where_rest count pc

-- a round, the budget of a serial turn, and behind them how many instructions each hart may do
abbrev pub plan_head : ℕ → ℕ → List ℕ
plan_head round budget = (codes "round " ++ decimal round) ++ ((codes ", budget " ++ decimal budget) ++ codes ", quotas")

abbrev pub quota_text : ℕ → List ℕ
quota_text quota = codes " " ++ decimal quota

-- the bytes of a store behind their address
abbrev pub store_line : ℕ → List ℕ → List ℕ
store_line address bytes = address_text address ++ codes " " ++ encode_lower bytes ++ codes "\n"

-- a hart, and how many bytes from which address on it has reserved
abbrev pub reserved_rest : ℕ → List ℕ
reserved_rest address = codes " bytes at " ++ address_text address ++ codes "\n"

abbrev pub reservation_line : ℕ → ℕ → ℕ → List ℕ
reservation_line hart count address = (codes "hart " ++ decimal hart) ++ ((codes ", " ++ decimal count) ++ reserved_rest address)

-- where a run is to stop once, and why it can't
abbrev pub ahead_text : List ℕ
ahead_text = codes "continue stops there, if nothing stops it before\n"

abbrev pub behind_text : List ℕ
behind_text = codes "reverse-continue stops there, if nothing stops it before\n"

abbrev pub here_text : List ℕ
here_text = codes "the run stands there\n"

abbrev pub rounds_text : ℕ → List ℕ
rounds_text rounds = (codes "the recording has " ++ decimal rounds) ++ codes " rounds\n"

abbrev pub harts_text : ℕ → List ℕ
harts_text harts = (codes "the recording has " ++ decimal harts) ++ codes " harts\n"

abbrev pub elsewhere_text : List ℕ
elsewhere_text = codes "the hart is not there in that round\n"

-- whether stops at watchpoints tell the access
abbrev pub hits_text : Bool → List ℕ
hits_text on = if on then codes "each stop at a watchpoint tells the access\n" else codes "stops at watchpoints tell no access\n"

unfoldable pub help_text : List ℕ
help_text =
    codes "where         where the run stands\n"
    ++ codes "harts         where each hart is\n"
    ++ codes "buffer        which stores of the selected hart are not committed\n"
    ++ codes "event         what the instruction at which the run stands reads or writes\n"
    ++ codes "reservations  which bytes each hart has reserved\n"
    ++ codes "plan          how many instructions each hart may do in this round\n"
    ++ codes "output        what the program had put out when this round began\n"
    ++ codes "goto ROUND    the next continue stops where this round begins, once\n"
    ++ codes "goto ROUND HART PLACE  .. where the hart has done so many instructions\n"
    ++ codes "goto end      .. behind the last round\n"
    ++ codes "hits on       each stop at a watchpoint tells what the instruction reads or writes\n"
    ++ codes "hits off      it tells nothing, as at first\n"
