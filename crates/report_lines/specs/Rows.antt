-- The lines of memory.
use Rattle.std.specs.Prelude.{ℕ, zero, suc, ◌+◌, ◌==◌, Bool, if◌then◌else◌, List, [], ◌++◌, drop, take, codes}
use Rattle.std.specs.List.{list_all}
use Rattle.report_lines.specs.Text.{bytes_text, hex}

abbrev pub all_zero : List ℕ → Bool
all_zero bs = list_all (λ b. b == 0) bs

-- the line of the 16 bytes from an address on, where they are not all 0
unfoldable pub memory_row : ℕ → List ℕ → List ℕ
memory_row a row = if all_zero row then [] else hex 8 a ++ codes " " ++ bytes_text row ++ codes "\n"

-- n such lines
unfoldable pub memory_rows : ℕ → List ℕ → ℕ → List ℕ
memory_rows a bs zero = []
memory_rows a bs (suc n) = memory_row a (take 16 bs) ++ memory_rows (a + 16) (drop 16 bs) n
