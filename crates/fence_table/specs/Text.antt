-- The text of what a search for missing fences found: lines that end with LF.
use Rattle.std.specs.Prelude.{ℕ, ◌+◌, ◌==◌, false, if◌then◌else◌, List, [], ◌∷◌, ◌++◌, codes, Option, Some, None}
use Rattle.std.specs.Fmt.{decimal, digits}
use Rattle.pages.specs.declared.access.Width.{Width}
use Rattle.pages.specs.Memory.{width_bytes}
use Rattle.round_schedule.specs.declared.access.Access.{Access}
use Rattle.round_schedule.specs.declared.access.Access.TheVariants.{Load, Store, LoadReserved, StoreConditional, Atomic, Fence}
use Rattle.report_lines.specs.Text.{hex, number_text, stop_text}
use Rattle.hunt_table.specs.Text.{output_line, plans_words, seen_lines}
use Rattle.hunt_table.specs.declared.seen_range.SeenRange.{SeenRange}
use Rattle.fence_table.specs.declared.site.Site.{Site}
use Rattle.fence_table.specs.declared.site.SiteName.{SiteName}
use Rattle.fence_table.specs.declared.fence_kind.FenceKind.{FenceKind}
use Rattle.fence_table.specs.declared.fence_kind.TriedFence.{TriedFence}
use Rattle.fence_table.specs.declared.fence_kind.Side.{Side}
use Rattle.fence_table.specs.declared.fence_kind.Side.TheVariants.{Loads, Stores, Both}
use Rattle.fence_table.specs.declared.moved.Direction.{Direction}
use Rattle.fence_table.specs.declared.moved.Direction.TheVariants.{Before, Behind}
use Rattle.fence_table.specs.declared.moved.Operation.{Operation}
use Rattle.fence_table.specs.declared.moved.Passed.{Passed}
use Rattle.fence_table.specs.declared.moved.Moved.{Moved}
use Rattle.fence_table.specs.declared.gap.NamedGap.{NamedGap}
use Rattle.fence_table.specs.declared.failure.Failure.{Failure}
use Rattle.fence_table.specs.declared.failure.Failure.TheVariants.{Stopped, Otherwise, Stuck}
use Rattle.fence_table.specs.declared.tally.Tally.{Tally}
use Rattle.fence_table.specs.declared.missing.Shown.{Shown}
use Rattle.fence_table.specs.declared.missing.Missing.{Missing}
use Rattle.fence_table.specs.declared.fence_table.FenceTable.{FenceTable}

-- ---- gaps

-- one side of a fence, as assemblers write it
abbrev pub side_word : Side → List ℕ
side_word Loads = codes "r"
side_word Stores = codes "w"
side_word Both = codes "rw"

-- a fence: `fence w,r`
abbrev pub fence_words : FenceKind → List ℕ
fence_words f = codes " fence " ++ side_word f.before ++ codes "," ++ side_word f.after

-- where an instruction stands in a function: `hart_main+0x3c`
abbrev pub site_name_text : SiteName → List ℕ
site_name_text n = n.function.items ++ codes "+0x" ++ digits 16 false n.offset

abbrev pub name_word : Option SiteName → List ℕ
name_word None = []
name_word (Some n) = codes " " ++ site_name_text n

-- an instruction: its address, and where it stands in a function where one is known
unfoldable pub site_words : Site → List ℕ
site_words s = codes " " ++ hex 16 s.pc ++ name_word s.name

-- ---- memory operations

-- an operation of some bytes at an address
abbrev pub bytes_words : List ℕ → ℕ → Width → List ℕ
bytes_words kind address width = kind ++ hex 8 address ++ codes " " ++ decimal (width_bytes width) ++ codes " "

-- what was done: the kind, the address, how many bytes, and the number that was read or written; of an AMO the one that was read, and
-- the one that was written
unfoldable pub access_words : Access → List ℕ
access_words (Load w p a r) = bytes_words (codes " load ") a w ++ number_text w (Some r)
access_words (Store w p a v) = bytes_words (codes " store ") a w ++ number_text w (Some v)
access_words (LoadReserved w o p a r) = bytes_words (codes " lr ") a w ++ number_text w (Some r)
access_words (StoreConditional w o p a v) = bytes_words (codes " sc ") a w ++ number_text w v
access_words (Atomic w o p a r v) = bytes_words (codes " amo ") a w ++ number_text w (Some r) ++ codes " " ++ number_text w (Some v)
access_words (Fence b f m p) = codes " fence"

-- which hart did it
abbrev pub operation_words : Operation → List ℕ
operation_words o = codes " hart " ++ decimal o.hart ++ access_words o.access

abbrev pub direction_word : Direction → List ℕ
direction_word Before = codes " before"
direction_word Behind = codes " behind"

-- the operation of another hart that one moved past, and its instruction
abbrev pub passed_words : Passed → List ℕ
passed_words p = operation_words p.operation ++ codes " at" ++ site_words p.site

-- ---- a missing fence

-- the gap: between two instructions, the earlier one in the program first
unfoldable pub gap_text : NamedGap → List ℕ
gap_text p = codes "between" ++ site_words p.earlier ++ codes "\nand" ++ site_words p.later ++ codes "\n"

-- the operation that is out of order, its instruction, and what it moved past
unfoldable pub moved_line : Moved → List ℕ
moved_line m =
    codes "moved" ++ operation_words m.operation ++ codes " at" ++ site_words m.site
    ++ direction_word m.direction ++ passed_words m.passed ++ codes "\n"

-- the bytes that are looked at, and those that are put out, where ordinary runs have others
unfoldable pub otherwise_text : List SeenRange → List ℕ → List ℕ → List ℕ
otherwise_text ranges seen output = codes "ends otherwise\n" ++ seen_lines ranges seen ++ output_line output

-- how the execution fails: how a hart stops; or that what comes of it is another; or that it goes on where ordinary runs have ended
abbrev pub failure_text : List SeenRange → Failure → List ℕ
failure_text ranges (Stopped h s) = codes "ends hart " ++ decimal h ++ codes " " ++ stop_text (Some s) ++ codes "\n"
failure_text ranges (Otherwise seen output) = otherwise_text ranges seen.items output.items
failure_text ranges Stuck = codes "stuck\n"

-- two counts behind their words
unfoldable pub two_counts : List ℕ → ℕ → List ℕ → ℕ → List ℕ
two_counts first m second n = first ++ decimal m ++ second ++ decimal n

-- the execution that shows it: its number, the departures that it has, and how long it is
unfoldable pub shown_line : Shown → List ℕ
shown_line s =
    two_counts (codes "execution ") s.number (codes " departures ") s.departures
    ++ two_counts (codes " steps ") s.steps (codes " operations ") s.operations ++ codes "\n"

-- with how many executions a fence was tried, and before which instruction
unfoldable pub tried_words : TriedFence → List ℕ
tried_words f = codes " tried " ++ decimal f.executions ++ codes " before " ++ hex 16 f.pc

-- its number, the fence, the numbers that fail for want of it, and how it was tried
unfoldable pub missing_line : ℕ → TriedFence → Tally → List ℕ
missing_line k f t =
    codes "missing " ++ decimal k ++ fence_words f.kind ++ plans_words t.plans t.first ++ tried_words f ++ codes "\n"

unfoldable pub missing_text : List SeenRange → ℕ → Missing → List ℕ
missing_text ranges k m =
    missing_line k m.fence m.numbers ++ gap_text m.gap ++ moved_line m.moved
    ++ failure_text ranges m.failure ++ shown_line m.shown

-- missing fences k, k + 1, ..
abbrev pub missing_texts : List SeenRange → ℕ → List Missing → List ℕ
missing_texts ranges k [] = []
missing_texts ranges k (m ∷ ms) = missing_text ranges k m ++ missing_texts ranges (k + 1) ms

-- ---- the whole

-- some of the numbers, and the first of them, where there are any
abbrev pub tally_line : List ℕ → Tally → List ℕ
tally_line word t = if t.plans == 0 then [] else word ++ decimal t.plans ++ codes " first " ++ decimal t.first ++ codes "\n"

-- the numbers that were tried: the first, how many, and their seed
unfoldable pub numbers_line : ℕ → ℕ → ℕ → List ℕ
numbers_line first count seed = codes "fences " ++ decimal first ++ codes " " ++ decimal count ++ codes " seed " ++ decimal seed ++ codes "\n"

unfoldable pub header_text : FenceTable → List ℕ
header_text t =
    numbers_line t.first t.count t.seed ++ tally_line (codes "ordinary ") t.ordinary
    ++ tally_line (codes "unnamed ") t.unnamed ++ tally_line (codes "running ") t.running
    ++ tally_line (codes "accepted ") t.accepted

-- what the search found, as text
unfoldable pub fences_text : FenceTable → List ℕ
fences_text t = header_text t ++ missing_texts t.ranges.items 1 t.missing.items ++ codes "end\n"
