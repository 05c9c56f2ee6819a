-- What a reader makes of a text, whatever it is: each part is read from the front as if it were there. Where the text is a
-- table's, that is the table.
use Rattle.std.specs.Prelude.{ℕ, zero, suc, ◌+◌, ◌-◌, ◌*◌, ◌/◌, ◌%◌, ◌^◌, ◌==◌, ◌&&◌, min, nat_le, nat_lt, if◌then◌else◌, Bool, true, false, List, [], ◌∷◌, fold, length, map, take, drop, slice_index, Option, Some, None}
use Rattle.std.specs.List.{flat_map, prefix_len}
use Rattle.plan_hunt.specs.declared.hart_ending.HartEnding.{HartEnding}
use Rattle.plan_hunt.specs.declared.hart_ending.HartEnding.TheVariants.{Loops, Runs, Stopped}
use Rattle.hunt_table.specs.Names.{is_name_byte, name_of}
use Rattle.hunt_table.specs.Programs.{fingerprint}
use Rattle.hunt_table.specs.declared.fingerprint.Fingerprint.{Fingerprint}
use Rattle.hunt_table.specs.declared.seen_range.SeenRange.{SeenRange}
use Rattle.plan_hunt.specs.Adding.{row}
use Rattle.plan_hunt.specs.Endings.{ended}
use Rattle.plan_hunt.specs.declared.row.Row.{Row}
use Rattle.hunt_table.specs.declared.table.Table.{Table}

-- ---- numbers

-- a decimal number with one more digit, up to the largest of 64 bits
abbrev pub with_digit : ℕ → ℕ → ℕ
with_digit n d = min (min (n * 10) (2 ^ 64 - 1) + d) (2 ^ 64 - 1)

-- the number whose digits before these are those of n, and what follows
abbrev pub number_after : ℕ → List ℕ → ℕ × List ℕ
number_after n [] = (n, [])
number_after n (b ∷ bs) = if nat_le 48 b && nat_le b 57 then number_after (with_digit n (b - 48)) bs else (n, b ∷ bs)

unfoldable pub number_at : List ℕ → ℕ × List ℕ
number_at bs = number_after 0 bs

abbrev pub word_at : List ℕ → ℕ × List ℕ
word_at bs = (min (number_at bs).0 (2 ^ 32 - 1), (number_at bs).1)

-- the value of a hexadecimal digit
abbrev pub digit_value : ℕ → ℕ
digit_value b = if nat_lt b 97 then b - 48 else b - 97 + 10

abbrev pub with_hex_digit : ℕ → ℕ → ℕ
with_hex_digit n b = (n * 16 % 2 ^ 64 + digit_value b) % 2 ^ 64

unfoldable pub hex_value : List ℕ → ℕ
hex_value ds = fold with_hex_digit 0 ds

-- ---- parts, one after the other

-- at most n parts, each read from the front, as long as one is there; and what follows
unfoldable pub many : {A : Type 0} → (List ℕ → Bool) → (List ℕ → A × List ℕ) → ℕ → List ℕ → List A × List ℕ
many there part zero bs = ([], bs)
many there part (suc n) bs =
    if there bs then ((part bs).0 ∷ (many there part n (part bs).1).0, (many there part n (part bs).1).1) else ([], bs)

-- ---- the lines of harts

abbrev pub stop_at : List ℕ → HartEnding × List ℕ
stop_at bs =
    if slice_index bs 0 == 114 then (Runs, drop 7 bs)
    else (if slice_index bs 0 == 108 then (Loops, drop 5 bs)
    else (if slice_index bs 0 == 101 then (Stopped (record { code = 1; value = hex_value (take 16 (drop 5 bs)) }), drop 16 (drop 5 bs))
    else (Stopped (record { code = min (number_at (drop 5 bs)).0 255; value = 0 }), (number_at (drop 5 bs)).1)))

unfoldable pub stop_line_at : List ℕ → HartEnding × List ℕ
stop_line_at bs = let s = stop_at (drop 1 (number_at (drop 5 bs)).1) in (s.0, drop 1 s.1)

-- a line that begins with `h`
abbrev pub is_stop_line : List ℕ → Bool
is_stop_line bs = slice_index bs 0 == 104

abbrev pub stops_at : List ℕ → List HartEnding × List ℕ
stops_at bs = many is_stop_line stop_line_at (length bs) bs

-- ---- the lines of ranges

-- n bytes of two digits each
unfoldable pub bytes_at : ℕ → List ℕ → List ℕ
bytes_at zero bs = []
bytes_at (suc n) bs = hex_value (take 2 bs) % 2 ^ 8 ∷ bytes_at n (drop 2 bs)

-- what stands behind a blank, as far as a name may, and what follows
abbrev pub name_after : List ℕ → Option (List ℕ) × List ℕ
name_after bs = let n = prefix_len is_name_byte bs in (name_of (take n bs), drop n bs)

-- the name at the front, if there is a blank
unfoldable pub name_at : List ℕ → Option (List ℕ) × List ℕ
name_at bs = if slice_index bs 0 == 32 then name_after (drop 1 bs) else (None, bs)

-- a range with its name, and its bytes
abbrev pub named_at : ℕ → ℕ → List ℕ → List ℕ → (SeenRange × List ℕ) × List ℕ
named_at address length seen bs =
    let name = name_at bs in ((record { address = address; length = length; name = name.0 }, seen), drop 1 name.1)

-- as many bytes as the line tells, if the text has two digits for each
abbrev pub seen_bytes : ℕ → ℕ → List ℕ → (SeenRange × List ℕ) × List ℕ
seen_bytes address size bs = let n = min size (length bs / 2) in named_at address size (bytes_at n bs) (drop (2 * n) bs)

-- a range, and its bytes
unfoldable pub seen_line_at : List ℕ → (SeenRange × List ℕ) × List ℕ
seen_line_at bs =
    let size = word_at (drop 9 (drop 4 bs)) in
    seen_bytes (min (hex_value (take 8 (drop 4 bs))) (2 ^ 32 - 1)) size.0 (drop 1 size.1)

-- a line that begins with `s`
abbrev pub is_seen_line : List ℕ → Bool
is_seen_line bs = slice_index bs 0 == 115

abbrev pub seen_at : List ℕ → List (SeenRange × List ℕ) × List ℕ
seen_at bs = many is_seen_line seen_line_at (length bs) bs

abbrev pub ranges_of : List (SeenRange × List ℕ) → List SeenRange
ranges_of lines = map (λ (l : SeenRange × List ℕ). l.0) lines

abbrev pub bytes_of : List (SeenRange × List ℕ) → List ℕ
bytes_of lines = flat_map (λ (l : SeenRange × List ℕ). l.1) lines

-- ---- the line of the output

-- a byte between quotes
unfoldable pub quoted_byte_at : List ℕ → ℕ × List ℕ
quoted_byte_at bs =
    if slice_index bs 0 == 92
    then (if slice_index bs 1 == 110 then (10, drop 2 bs)
    else (if slice_index bs 1 == 120 then (hex_value (take 2 (drop 2 bs)) % 2 ^ 8, drop 2 (drop 2 bs))
    else (slice_index bs 1, drop 2 bs)))
    else (slice_index bs 0, drop 1 bs)

abbrev pub quoted_at : ℕ → List ℕ → List ℕ × List ℕ
quoted_at n bs = many (λ _. true) quoted_byte_at n bs

-- as many bytes as the line tells, if the text has a character for each
abbrev pub output_bytes : ℕ × List ℕ → List ℕ × List ℕ
output_bytes n = quoted_at (min n.0 (length n.1)) (drop 2 n.1)

unfoldable pub output_line_at : List ℕ → List ℕ × List ℕ
output_line_at bs = let b = output_bytes (number_at (drop 7 bs)) in (b.0, drop 2 b.1)

-- ---- endings

-- from the second line of an ending on: the ending with so many plans from a first one on, and its ranges
unfoldable pub ending_lines_at : ℕ → ℕ → List ℕ → (Row × List SeenRange) × List ℕ
ending_lines_at plans first bs =
    let stops = stops_at bs in
    let seen = seen_at stops.1 in
    let output = output_line_at seen.1 in
    ((row (ended stops.0 output.0 (bytes_of seen.0)) first plans, ranges_of seen.0), output.1)

-- what follows the word that marks a bad ending, where it is there: it has a `b` where ` plans` has a `p`
abbrev pub after_mark : List ℕ → List ℕ
after_mark bs = if slice_index bs 1 == 98 then drop 4 bs else bs

-- what follows the word ` checked`, where it is there
abbrev pub after_checked : List ℕ → List ℕ
after_checked bs = if slice_index bs 0 == 32 then drop 8 bs else bs

unfoldable pub ending_at : List ℕ → (Row × List SeenRange) × List ℕ
ending_at bs =
    let plans = word_at (drop 7 (after_mark (number_at (drop 7 bs)).1)) in
    let first = word_at (drop 7 plans.1) in
    ending_lines_at plans.0 first.0 (drop 1 (after_checked first.1))

-- a line that begins as `endi` does, and not as the last, which is `end`
abbrev pub is_ending_line : List ℕ → Bool
is_ending_line bs = slice_index bs 3 == 105

abbrev pub endings_at : ℕ → List ℕ → List (Row × List SeenRange) × List ℕ
endings_at n bs = many is_ending_line ending_at n bs

abbrev pub rows_of : List (Row × List SeenRange) → List Row
rows_of endings = map (λ (e : Row × List SeenRange). e.0) endings

-- the ranges of the last ending, or those before it where there is none
abbrev pub last_ranges : List SeenRange → List (Row × List SeenRange) → List SeenRange
last_ranges ranges [] = ranges
last_ranges ranges (e ∷ es) = last_ranges e.1 es

-- ---- a table

pub record Told : Type 0 where
  pub is_weak : Bool
  pub seed : ℕ
  pub first : ℕ
  pub count : ℕ
  pub program : Option Fingerprint
  pub ranges : List SeenRange
  pub rows : List Row

abbrev pub told : ℕ → ℕ → ℕ → Bool → Option Fingerprint → List (Row × List SeenRange) → Told
told first count seed weak program es =
    record { is_weak = weak; seed = seed; first = first; count = count; program = program; ranges = last_ranges [] es; rows = rows_of es }

-- whether the word ` weak` is there, and what follows
abbrev pub weak_at : List ℕ → Bool × List ℕ
weak_at bs = if slice_index bs 0 == 32 then (true, drop 5 bs) else (false, bs)

-- the CRC-32 behind its word, with a length before it, and what follows its line
abbrev pub checksum_at : ℕ → List ℕ → Option Fingerprint × List ℕ
checksum_at length bs = (Some (fingerprint length (min (hex_value (take 8 bs)) (2 ^ 32 - 1))), drop 9 bs)

-- the line of the program, where one begins as `program` does, and what follows
unfoldable pub program_at : List ℕ → Option Fingerprint × List ℕ
program_at bs = if slice_index bs 0 == 112 then (let length = number_at (drop 8 bs) in checksum_at length.0 (drop 5 length.1)) else (None, bs)

unfoldable pub table_at : List ℕ → Told
table_at bs =
    let first = word_at (drop 6 bs) in
    let count = word_at (drop 1 first.1) in
    let seed = number_at (drop 6 count.1) in
    let weak = weak_at seed.1 in
    let program = program_at (drop 1 weak.1) in
    let endings = number_at (drop 8 program.1) in
    told first.0 count.0 seed.0 weak.0 program.0 (endings_at endings.0 (drop 1 endings.1)).0

-- a table in memory as its contents
abbrev pub contents : Table → Told
contents t = record { is_weak = t.header.is_weak; seed = t.header.seed; first = t.header.first; count = t.header.count; program = t.header.program; ranges = t.header.ranges.items; rows = t.rows.items }
