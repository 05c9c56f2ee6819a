-- Guest memory as it begins: the pieces that are laid into it.
use Rattle.std.specs.Prelude.{◌≡◌, ◌<◌, refl, get_or, ℕ, ◌+◌, ◌-◌, ◌*◌, Bool, false, ◌||◌, if◌then◌else◌, List, [], ◌∷◌, length, map, slice_index}
use Rattle.std.specs.List.{range_with_len}
use Rattle.std.proofs.lemmas.List.FromFn.{get_or-map-range_with_len, length-map-range_with_len}
use Rattle.pages.specs.declared.access.Piece.{Piece}
use Rattle.pages.specs.declared.access.Range.{Range}
use Rattle.pages.specs.Code.{overlaps}
use Rattle.pages.specs.Memory.{in_range}
use Rattle.pages.specs.Paged.{Paged}

-- the byte at an address: that of the first piece that holds it, else 0
abbrev pub piece_byte : List Piece → ℕ → ℕ
piece_byte [] x = 0
piece_byte (p ∷ ps) x = if in_range p.start (length p.bytes.items) x then slice_index p.bytes.items (x - p.start) else piece_byte ps x

-- whether a piece of the list has a byte in a page
abbrev pub is_touched : List Piece → ℕ → Bool
is_touched [] page = false
is_touched (p ∷ ps) page = overlaps p.start (length p.bytes.items) (4096 * page) 4096 || is_touched ps page

-- the bytes of n addresses from a on
unfoldable pub bytes_from : List Piece → ℕ → ℕ → List ℕ
bytes_from pieces a n = map (piece_byte pieces) (range_with_len a n)

-- there are n of them
pub length-bytes_from : (pieces : List Piece) (a n : ℕ) → length (bytes_from pieces a n) ≡ n
unfolding bytes_from
length-bytes_from pieces a n = length-map-range_with_len (piece_byte pieces) a n

-- each is that of the first piece that holds its address
pub get_or-bytes_from : (pieces : List Piece) (a n k : ℕ) → k < n → get_or (bytes_from pieces a n) k 0 ≡ piece_byte pieces (a + k)
unfolding bytes_from
get_or-bytes_from pieces a n k h = get_or-map-range_with_len (piece_byte pieces) a n k (a + k) 0 h refl

-- so many pages that hold these pieces, with the touched ones ready and none spare
unfoldable pub initial : ℕ → List Piece → List Range → Paged
initial count pieces code = record {
  memory = record { bytes = bytes_from pieces 0 (4096 * count); code = code };
  ready = map (is_touched pieces) (range_with_len 0 count);
  spare = 0;
}
