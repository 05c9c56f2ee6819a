-- A NOP before the pieces of an image.
use Rattle.std.proofs.Common.{◌≡◌, ◌∙◌, ℕ, zero, suc, ◌-◌, ◌<◌, Bool, true, false, if◌then◌else◌, List, [], ◌∷◌, length, get_or, slice_index, refl, sym, ap, arith, zero-add}
use Rattle.std.proofs.lemmas.Bool.Decides.{nat_tests}
use Rattle.std.proofs.lemmas.List.{ext_get_or}
use Rattle.pages.proofs.StoreLaws.{byte_put_at, length-put}
use Rattle.pages.specs.Initial.{bytes_from, get_or-bytes_from, length-bytes_from, piece_byte}
use Rattle.pages.specs.Memory.{byte_of, in_range, put}
use Rattle.pages.specs.declared.access.Piece.{Piece}
use Rattle.pages.specs.declared.access.Store.{Store}
use Rattle.pages.specs.declared.access.Width.TheVariants.{W4}

abbrev pub nop : List ℕ
nop = 19 ∷ 0 ∷ 0 ∷ 0 ∷ []

abbrev pub nop_at : ℕ → Store
nop_at pc = record { address = pc; width = W4; value = 19 }

same_if : (b : Bool) (x y z : ℕ) → (b ≡ true → x ≡ y) → (if b then x else z) ≡ (if b then y else z)
same_if true x y z h = h refl
same_if false x y z h = refl

byte_of_nop : (j : ℕ) → j < 4 → slice_index nop j ≡ byte_of 19 j
byte_of_nop zero l = refl
byte_of_nop (suc zero) l = refl
byte_of_nop (suc (suc zero)) l = refl
byte_of_nop (suc (suc (suc zero))) l = refl
byte_of_nop (suc (suc (suc (suc j)))) l = absurd (omega (arith, l))

within_word : (pc k : ℕ) → in_range pc 4 k ≡ true → k - pc < 4
within_word pc k h = grind (arith, nat_tests)

laid_byte : (p : Piece) (pc : ℕ) (ps : List Piece) (k : ℕ) → p.start ≡ pc → p.bytes.items ≡ nop →
    piece_byte (p ∷ ps) k ≡ (if in_range pc 4 k then byte_of 19 (k - pc) else piece_byte ps k)
laid_byte p pc ps k start bytes =
    ap (λ (s : ℕ). if in_range s (length p.bytes.items) k then slice_index p.bytes.items (k - s) else piece_byte ps k) start
    ∙ ap (λ (bs : List ℕ). if in_range pc (length bs) k then slice_index bs (k - pc) else piece_byte ps k) bytes
    ∙ same_if (in_range pc 4 k) (slice_index nop (k - pc)) (byte_of 19 (k - pc)) (piece_byte ps k) (λ h. byte_of_nop (k - pc) (within_word pc k h))

byte_at : (p : Piece) (pc : ℕ) (ps : List Piece) (n k : ℕ) → k < n → p.start ≡ pc → p.bytes.items ≡ nop →
    get_or (bytes_from (p ∷ ps) 0 n) k 0 ≡ get_or (put (bytes_from ps 0 n) (nop_at pc)) k 0
byte_at p pc ps n k l start bytes =
    let inside : k < length (bytes_from ps 0 n) = omega (arith, length-bytes_from ps 0 n, l) in
    get_or-bytes_from (p ∷ ps) 0 n k l
    ∙ ap (piece_byte (p ∷ ps)) (zero-add k)
    ∙ laid_byte p pc ps k start bytes
    ∙ ap (λ (b : ℕ). if in_range pc 4 k then byte_of 19 (k - pc) else b) (sym (get_or-bytes_from ps 0 n k l ∙ ap (piece_byte ps) (zero-add k)))
    ∙ sym (byte_put_at (bytes_from ps 0 n) (nop_at pc) k inside)

-- what is laid first is what a store leaves
pub nop_laid : (p : Piece) (pc : ℕ) (ps : List Piece) (n : ℕ) → p.start ≡ pc → p.bytes.items ≡ nop → bytes_from (p ∷ ps) 0 n ≡ put (bytes_from ps 0 n) (nop_at pc)
nop_laid p pc ps n start bytes = ext_get_or 0 (bytes_from (p ∷ ps) 0 n) (put (bytes_from ps 0 n) (nop_at pc))
    (length-bytes_from (p ∷ ps) 0 n ∙ sym (length-bytes_from ps 0 n) ∙ sym (length-put (bytes_from ps 0 n) (nop_at pc)))
    (λ k l. byte_at p pc ps n k (omega (arith, length-bytes_from (p ∷ ps) 0 n, l)) start bytes)
