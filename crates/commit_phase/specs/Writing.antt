-- Writing the bytes of a line to its page.
use Rattle.std.specs.Prelude.{◌≡◌, ℕ, ◌+◌, true, List, [], All}
use Rattle.pages.specs.Flat.{Page, full, is_ready}
use Rattle.pages.specs.Memory.{after}
use Rattle.store_buffer.specs.Covered.{stores_of}
use Rattle.store_buffer.specs.Lines.{line_at, line_bytes, put_first}
use Rattle.store_buffer.specs.declared.line.Line.{Line}

-- the page is ready, if there is a byte to be written
abbrev pub Writable : Page → List (ℕ × ℕ) → Type 0
Writable p es = All (λ (e : ℕ × ℕ). is_ready p ≡ true) es

-- the bytes are in the page, and nothing else is changed
pub record Written (es : List (ℕ × ℕ)) (p q : Page) : Type 0 where
  pub bytes : full q ≡ after (full p) (stores_of es)
  pub ready : is_ready q ≡ is_ready p

-- the covered bytes of eight indices of a line that starts at a
unfoldable pub word_bytes : ℕ → Line → ℕ → List (ℕ × ℕ)
word_bytes a l j = line_bytes a l j 8

-- the byte of one index, if it is covered
abbrev pub index_bytes : ℕ → Line → ℕ → List (ℕ × ℕ)
index_bytes a l j = put_first (a + j) (line_at l j) []
