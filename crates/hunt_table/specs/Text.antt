-- The text of a hunt's table: lines that end with LF.
use Rattle.std.specs.Prelude.{◌≡◌, ◌⊎◌, ℕ, ◌+◌, ◌==◌, ◌&&◌, not, if◌then◌else◌, nat_le, nat_lt, Bool, true, false, List, [], ◌∷◌, ◌++◌, length, take, drop, codes, Option, Some, None}
use Rattle.std.specs.Fmt.{decimal}
use Rattle.std.specs.List.{list_all}
use Rattle.plan_hunt.specs.declared.hart_ending.HartEnding.{HartEnding}
use Rattle.plan_hunt.specs.declared.hart_ending.HartEnding.TheVariants.{Loops, Runs, Stopped}
use Rattle.plan_hunt.specs.Endings.{ends_well}
use Rattle.plan_hunt.specs.declared.row.Row.{Row}
use Rattle.report_lines.specs.Text.{bytes_text, hex, stop_text}
use Rattle.hunt_table.specs.declared.fingerprint.Fingerprint.{Fingerprint}
use Rattle.hunt_table.specs.declared.header.Header.{Header}
use Rattle.hunt_table.specs.declared.seen_range.SeenRange.{SeenRange}

-- a byte between quotes: a character that can be printed stands for itself
unfoldable pub quoted_byte : ℕ → List ℕ
quoted_byte b =
    if b == 34 then codes "\\\""
    else (if b == 92 then codes "\\\\"
    else (if b == 10 then codes "\\n"
    else (if nat_le 32 b && nat_lt b 127 then b ∷ [] else codes "\\x" ++ hex 2 b)))

abbrev pub quoted : List ℕ → List ℕ
quoted [] = []
quoted (b ∷ bs) = quoted_byte b ++ quoted bs

-- the line of the output: how many bytes it has, and the bytes between quotes
unfoldable pub output_line : List ℕ → List ℕ
output_line bs = codes "output " ++ decimal (length bs) ++ codes " \"" ++ quoted bs ++ codes "\"\n"

-- how a hart ended: why it stopped, or that it never does under this plan, or that it still ran
abbrev pub hart_words : HartEnding → List ℕ
hart_words Runs = codes "running"
hart_words Loops = codes "loops"
hart_words (Stopped s) = stop_text (Some s)

-- the line of a hart
unfoldable pub stop_line : ℕ → HartEnding → List ℕ
stop_line i s = codes "hart " ++ decimal i ++ codes " " ++ hart_words s ++ codes "\n"

-- the lines of harts i, i + 1, ..
abbrev pub stop_lines : ℕ → List HartEnding → List ℕ
stop_lines i [] = []
stop_lines i (s ∷ ss) = stop_line i s ++ stop_lines (i + 1) ss

-- the name of a range, where it has one
abbrev pub name_word : Option (List ℕ) → List ℕ
name_word None = []
name_word (Some name) = 32 ∷ name

-- the numbers of a range
abbrev pub range_front : ℕ → ℕ → List ℕ
range_front address size = codes "see " ++ hex 8 address ++ codes " " ++ decimal size ++ codes " "

-- the line of a range: its bytes in rising address, two digits each, and its name
unfoldable pub seen_line : SeenRange → List ℕ → List ℕ
seen_line r bs = range_front r.address r.length ++ bytes_text bs ++ name_word r.name ++ codes "\n"

-- the lines of the ranges, whose bytes stand one after the other
abbrev pub seen_lines : List SeenRange → List ℕ → List ℕ
seen_lines [] bs = []
seen_lines (r ∷ rs) bs = seen_line r (take r.length bs) ++ seen_lines rs (drop r.length bs)

-- whether a hart runs on, was stopped by a fault, or exited with another value than 0
abbrev pub is_bad : Row → Bool
is_bad r = not (list_all ends_well r.ending.stops)

-- the word of its own that marks a bad ending
abbrev pub mark : Bool → List ℕ
mark bad = if bad then codes " bad" else []

-- the number of an ending; where bad endings are marked, whether it is one
abbrev pub ending_front : Bool → ℕ → Row → List ℕ
ending_front marked k r = codes "ending " ++ decimal k ++ mark (marked && is_bad r)

-- the word of a weak hunt behind an ending's first plan: RVWMO allows that execution
abbrev pub checked_word : Bool → List ℕ
checked_word weak = if weak then codes " checked" else []

-- how many plans there are, and the first of them
abbrev pub plans_words : ℕ → ℕ → List ℕ
plans_words plans first = codes " plans " ++ decimal plans ++ codes " first " ++ decimal first

-- how many plans lead to an ending, and the first of them
unfoldable pub ending_line : Bool → Bool → ℕ → Row → List ℕ
ending_line weak marked k r =
    ending_front marked k r ++ plans_words r.plans r.first ++ checked_word weak ++ codes "\n"

-- an ending: its plans, its harts, the bytes that are looked at, and the output
unfoldable pub ending_text : Bool → Bool → List SeenRange → ℕ → Row → List ℕ
ending_text weak marked ranges k r =
    ending_line weak marked k r ++ stop_lines 0 r.ending.stops ++ seen_lines ranges r.ending.seen ++ output_line r.ending.output

-- endings k, k + 1, ..
abbrev pub endings_text : Bool → Bool → List SeenRange → ℕ → List Row → List ℕ
endings_text weak marked ranges k [] = []
endings_text weak marked ranges k (r ∷ rs) = ending_text weak marked ranges k r ++ endings_text weak marked ranges (k + 1) rs

-- the word of a weak hunt behind its seed
abbrev pub weak_word : Bool → List ℕ
weak_word weak = if weak then codes " weak" else []

-- the numbers of the plans
abbrev pub plans_front : ℕ → ℕ → List ℕ
plans_front first count = codes "plans " ++ decimal first ++ codes " " ++ decimal count

-- the line of the plans
unfoldable pub plans_line : Bool → ℕ → ℕ → ℕ → List ℕ
plans_line weak seed first count = plans_front first count ++ codes " seed " ++ decimal seed ++ weak_word weak ++ codes "\n"

-- how long a program's image is, and its CRC-32 in eight digits
abbrev pub fingerprint_words : Fingerprint → List ℕ
fingerprint_words p = codes "program " ++ decimal p.length ++ codes " crc " ++ hex 8 p.checksum

-- the line of the program, where one is told
unfoldable pub program_line : Option Fingerprint → List ℕ
program_line None = []
program_line (Some p) = fingerprint_words p ++ codes "\n"

-- the plans of the hunt, the program, and how many endings they have
unfoldable pub header_text : Bool → ℕ → ℕ → ℕ → Option Fingerprint → ℕ → List ℕ
header_text weak seed first count program endings = plans_line weak seed first count ++ program_line program ++ codes "endings " ++ decimal endings ++ codes "\n"

-- the table of a hunt, as text: with bad endings marked, or, as it was once written, without
unfoldable pub table_text_by : Bool → Header → List Row → List ℕ
table_text_by marked h rows =
    header_text h.is_weak h.seed h.first h.count h.program (length rows) ++ endings_text h.is_weak marked h.ranges.items 1 rows ++ codes "end\n"

abbrev pub table_text : Header → List Row → List ℕ
table_text h rows = table_text_by true h rows

-- what was asked for, of so many plans
abbrev pub with_count : Header → ℕ → Header
with_count h n = record h { count = n }

-- it is the text of a table, in one of the two forms
abbrev pub IsTextOf : Header → List Row → List ℕ → Type 0
IsTextOf h rows text = (text ≡ table_text h rows) ⊎ (text ≡ table_text_by false h rows)
