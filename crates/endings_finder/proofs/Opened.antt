-- Memory opens with the bytes of the pieces that are laid into it.
use Rattle.std.proofs.Common.{◌≡◌, ◌∙◌, ℕ, ◌+◌, ◌≤◌, All, List, ap, length, map, slice_index}
use Rattle.pages.specs.declared.access.Piece.{Piece}
use Rattle.pages.specs.Initial.{bytes_from}
use Rattle.trace.specs.Traced.{laid, opening_at}
use Rattle.trace.proofs.Openings.{bytes_of_pieces, none_beyond, opening_is}

pub opened_at : (ps : List Piece) (n : ℕ) → All (λ (p : Piece). p.start + length p.bytes.items ≤ n) ps → (x : ℕ) → opening_at (map laid ps) x ≡ slice_index (bytes_from ps 0 n) x
opened_at ps n within x = opening_is (map laid ps) n (λ y l. none_beyond ps n y within l) x ∙ ap (λ (bs : List ℕ). slice_index bs x) (bytes_of_pieces ps n)
