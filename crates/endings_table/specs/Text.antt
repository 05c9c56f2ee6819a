-- The text of a table of all endings: lines that end with LF.
use Rattle.std.specs.Prelude.{ℕ, ◌+◌, ◌==◌, if◌then◌else◌, List, [], ◌∷◌, ◌++◌, length, codes, Some}
use Rattle.std.specs.Fmt.{decimal}
use Rattle.std.specs.List.{flat_map}
use Rattle.std.specs.Global.{Vec}
use Rattle.report_lines.specs.Text.{hex, stop_text}
use Rattle.hunt_table.specs.Text.{mark, quoted, seen_lines}
use Rattle.hunt_table.specs.declared.seen_range.SeenRange.{SeenRange}
use Rattle.endings_table.specs.Endings.{is_bad}
use Rattle.endings_table.specs.declared.fence_need.FenceNeed.{FenceNeed}
use Rattle.endings_table.specs.declared.fence_need.Need.{Need}
use Rattle.endings_table.specs.declared.fence_need.Need.TheVariants as needs
use Rattle.endings_table.specs.declared.found_ending.FoundEnding.{FoundEnding}
use Rattle.endings_table.specs.declared.hart_end.HartEnd.{HartEnd}
use Rattle.endings_table.specs.declared.hart_end.HartEnd.TheVariants.{Stopped, Waits}
use Rattle.endings_table.specs.declared.others.Others.{Others}
use Rattle.endings_table.specs.declared.others.Others.TheVariants.{Absent, Possible}
use Rattle.endings_table.specs.declared.others.Why.{Why}
use Rattle.endings_table.specs.declared.others.Why.TheVariants as reasons
use Rattle.endings_table.specs.declared.table.EndingsTable.{EndingsTable}

-- how a hart ends: why it stops, or where it waits for ever
abbrev pub end_words : HartEnd → List ℕ
end_words (Stopped s) = stop_text (Some s)
end_words (Waits pc) = codes "waits " ++ hex 16 pc

-- the line of a hart
unfoldable pub end_line : ℕ → HartEnd → List ℕ
end_line h e = codes "hart " ++ decimal h ++ codes " " ++ end_words e ++ codes "\n"

-- the lines of harts h, h + 1, ..
abbrev pub end_lines : ℕ → List HartEnd → List ℕ
end_lines h [] = []
end_lines h (e ∷ es) = end_line h e ++ end_lines (h + 1) es

-- how many bytes were put out, and the bytes between quotes
abbrev pub output_words : List ℕ → List ℕ
output_words bs = decimal (length bs) ++ codes " \"" ++ quoted bs ++ codes "\"\n"

-- the line of a hart's own output
unfoldable pub own_output_line : ℕ → List ℕ → List ℕ
own_output_line h bs = codes "output " ++ decimal h ++ codes " " ++ output_words bs

-- where a hart put nothing out, it has no such line
abbrev pub own_output : ℕ → List ℕ → List ℕ
own_output h bs = if length bs == 0 then [] else own_output_line h bs

-- the outputs of harts h, h + 1, ..
abbrev pub own_outputs : ℕ → List (Vec ℕ) → List ℕ
own_outputs h [] = []
own_outputs h (o ∷ os) = own_output h o.items ++ own_outputs (h + 1) os

-- the number of an ending, and whether it is bad
abbrev pub ending_line : ℕ → FoundEnding → List ℕ
ending_line k e = codes "ending " ++ decimal k ++ mark (is_bad e) ++ codes "\n"

-- an ending: how its harts end, the bytes that are looked at, and what each hart put out
unfoldable pub ending_text : List SeenRange → ℕ → FoundEnding → List ℕ
ending_text ranges k e =
    ending_line k e ++ end_lines 0 e.ends.items ++ seen_lines ranges (flat_map (λ bs. bs.items) e.seen.items)
    ++ own_outputs 0 e.outputs.items

-- endings k, k + 1, ..
abbrev pub endings_text : List SeenRange → ℕ → List FoundEnding → List ℕ
endings_text ranges k [] = []
endings_text ranges k (e ∷ es) = ending_text ranges k e ++ endings_text ranges (k + 1) es

-- why there may be others
abbrev pub why_words : Why → List ℕ
why_words reasons.Time = codes "time"
why_words reasons.Nodes = codes "nodes"
why_words reasons.Steps = codes "steps"
why_words reasons.Input = codes "input that several harts read"
why_words reasons.Round = codes "the call for the round"
why_words reasons.Call = codes "a call whose number comes late"
why_words reasons.Output = codes "more output than a console takes"
why_words reasons.States = codes "states of a hart"
why_words reasons.Unchecked = codes "not checked"

-- whether there are others
abbrev pub others_line : Others → List ℕ
others_line Absent = codes "no others\n"
others_line (Possible why) = codes "others are possible: " ++ why_words why ++ codes "\n"

-- what becomes of a guest without a fence
abbrev pub need_words : Need → List ℕ
need_words needs.Unneeded = codes "unneeded "
need_words needs.Needed = codes "needed "
need_words needs.Waits = codes "unknown "
need_words (needs.Unknown why) = codes "unknown "

-- why that isn't known
abbrev pub doubt_words : Need → List ℕ
doubt_words needs.Unneeded = []
doubt_words needs.Needed = []
doubt_words needs.Waits = codes ": a hart may wait for ever"
doubt_words (needs.Unknown why) = codes ": " ++ why_words why

-- whether a fence is needed
unfoldable pub need_line : FenceNeed → List ℕ
need_line f = need_words f.need ++ hex 16 f.pc ++ doubt_words f.need ++ codes "\n"

-- two counts behind their words
abbrev pub counts : List ℕ → ℕ → List ℕ → ℕ → List ℕ
counts first m second n = first ++ decimal m ++ second ++ decimal n

-- the harts, the nodes that were gone through, the instructions of a hart that were followed at most, and how many endings there are
unfoldable pub header_text : EndingsTable → List ℕ
header_text t =
    counts (codes "all harts ") t.harts (codes " nodes ") t.nodes ++ counts (codes " steps ") t.steps (codes "\nendings ") (length t.endings.items) ++ codes "\n"

-- the table, as text
unfoldable pub table_text : EndingsTable → List ℕ
table_text t = header_text t ++ endings_text t.ranges.items 1 t.endings.items ++ others_line t.others ++ flat_map need_line t.fences.items ++ codes "end\n"
