-- What an image stands for, and what holds of each.
use Rattle.std.specs.Prelude.{◌≡◌, ℕ, ◌+◌, ◌*◌, ◌%◌, ◌≤◌, true, List, [], ◌∷◌, length, map, slice_index, All, AllPairs}
use Rattle.std.specs.List.{range_with_len}
use Rattle.pages.specs.declared.access.Piece.{Piece}
use Rattle.pages.specs.declared.access.Range.{Range}
use Rattle.pages.specs.declared.pages.TheConstants.{MOST_PAGES}
use Rattle.pages.specs.Memory.{Memory, IsBytes, all_code, in_range}

-- guest memory as it begins, the ranges of it that are code, the first address to be run, and how many pages there are
pub record Loaded : Type 0 where
  pub bytes : List ℕ
  pub code : List Range
  pub entry : ℕ
  pub pages : ℕ

-- guest memory as an image opens it
abbrev pub memory_of : Loaded → Memory
memory_of image = record { bytes = image.bytes; code = image.code }

-- no address is held by both pieces
abbrev pub AreApart : Piece → Piece → Type 0
AreApart p q = (x : ℕ) → in_range p.start (length p.bytes.items) x ≡ true → in_range q.start (length q.bytes.items) x ≡ true → ⊥

-- the pieces lie in memory and share no address, and code lies in memory and has the entry's four bytes
pub record IsImage (pieces : List Piece) (code : List Range) (entry pages : ℕ) : Type 0 where
  pub some_pages : 1 ≤ pages
  pub few_pages : pages ≤ MOST_PAGES
  pub bytes : All (λ p. IsBytes p.bytes.items) pieces
  pub within : All (λ p. p.start + length p.bytes.items ≤ 4096 * pages) pieces
  pub apart : AllPairs AreApart pieces
  pub code_within : All (λ r. r.start + r.len ≤ 4096 * pages) code
  pub aligned : entry % 4 ≡ 0
  pub fetched : all_code code entry 4 ≡ true

-- a flat file in memory from address 0 on, as one code range
unfoldable pub flat_image : List ℕ → ℕ → Loaded
flat_image file pages = record {
  bytes = map (λ x. slice_index file x) (range_with_len 0 (4096 * pages));
  code = record { start = 0; len = length file } ∷ [];
  entry = 0;
  pages = pages;
}
