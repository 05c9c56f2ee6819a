-- The bytes that lines of 64 hold.
use Rattle.std.specs.Prelude.{ℕ, zero, suc, ◌+◌, ◌*◌, ◌/◌, ◌%◌, ◌^◌, ◌==◌, Bool, true, false, List, [], ◌∷◌, ◌++◌, map, Option, Some, None, slice_index, unwrap_or}
use Rattle.std.specs.Ordering.{nat_cmp}
use Rattle.std.specs.BTreeMap.{is_at}
use Rattle.std.specs.Map.{lookup}
use Rattle.store_buffer.specs.declared.line.Line.{Line}

-- a byte, if its bit is set
abbrev pub byte_if : Bool → ℕ → Option ℕ
byte_if true b = Some (b % 2 ^ 8)
byte_if false b = None

-- the byte at a index of a line, if it is covered
abbrev pub line_at : Line → ℕ → Option ℕ
line_at l j = byte_if (l.mask / 2 ^ j % 2 == 1) (slice_index l.bytes j)

-- the line of a number, and the byte at a index of it
abbrev pub line_of : List (ℕ × Line) → ℕ → Option Line
line_of es k = lookup (is_at (nat_cmp k)) es

abbrev pub index_of : Option Line → ℕ → Option ℕ
index_of None j = None
index_of (Some l) j = line_at l j

abbrev pub put_first : ℕ → Option ℕ → List (ℕ × ℕ) → List (ℕ × ℕ)
put_first a None es = es
put_first a (Some b) es = (a, b) ∷ es

-- the covered bytes of n indices from j on, in a line that starts at a
abbrev pub line_bytes : ℕ → Line → ℕ → ℕ → List (ℕ × ℕ)
line_bytes a l j zero = []
line_bytes a l j (suc n) = put_first (a + j) (line_at l j) (line_bytes a l (j + 1) n)

-- the covered bytes of a line that starts at an address
unfoldable pub whole_line : ℕ → Line → List (ℕ × ℕ)
whole_line a l = line_bytes a l 0 64

-- the bytes of lines, each with its number
abbrev pub lines_bytes : List (ℕ × Line) → List (ℕ × ℕ)
lines_bytes [] = []
lines_bytes (e ∷ es) = whole_line (64 * e.0) e.1 ++ lines_bytes es

-- the bytes of lines, each with the address of its first byte
abbrev pub lent_bytes : List (ℕ × Line) → List (ℕ × ℕ)
lent_bytes [] = []
lent_bytes (e ∷ es) = whole_line e.0 e.1 ++ lent_bytes es

-- lines with addresses for their numbers
abbrev pub addressed : List (ℕ × Line) → List (ℕ × Line)
addressed es = map (λ e. (64 * e.0, e.1)) es

-- a number of n bytes with the covered bytes of a line instead of its own
abbrev pub number_over : Line → ℕ → ℕ → ℕ → ℕ
number_over l j m zero = 0
number_over l j m (suc n) = unwrap_or (line_at l j) (m % 2 ^ 8) + 2 ^ 8 * number_over l (j + 1) (m / 2 ^ 8) n
