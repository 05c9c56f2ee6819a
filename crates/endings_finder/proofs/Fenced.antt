-- A fence in memory.
use Rattle.std.proofs.Common.{◌≡◌, ◌∙◌, ℕ, ◌+◌, ◌*◌, ◌≤◌, Bool, true, false, if◌then◌else◌, ◌&&◌, nat_le, All, List, ◌∷◌, length, Some, None, refl, sym, ap, subst, arith}
use Rattle.std.proofs.lemmas.Bool.{and_parts}
use Rattle.std.proofs.lemmas.Bool.Decides.{nat_tests}
use Rattle.std.proofs.lemmas.List.Elements.{All-cons}
use Rattle.elf_loader.specs.Image.{Loaded, memory_of}
use Rattle.endings_finder.proofs.Nop.{nop, nop_at, nop_laid}
use Rattle.endings_finder.specs.Fences.{HasFence, IsFence, without}
use Rattle.hart_step.specs.DecodedCode.{decoded, instr_in}
use Rattle.pages.specs.Initial.{bytes_from, length-bytes_from}
use Rattle.pages.specs.Memory.{Memory, all_code, fetched, number_at, put}
use Rattle.pages.specs.declared.access.Piece.{Piece}
use Rattle.pages.specs.declared.access.Range.{Range}
use Rattle.rv64_decode.specs.Table.{instr_of}

-- a word that is a fence
pub fence_there : (m : Memory) (pc w : ℕ) → fetched m pc ≡ Some w → IsFence (instr_of w) → IsFence (decoded m pc)
unfolding decoded
fence_there m pc w e h = subst IsFence (sym (ap instr_in e)) h

is_there : (b : Bool) (w : ℕ) → IsFence (instr_in (if b then Some w else None)) → b ≡ true
is_there true w h = refl
is_there false w h = absurd h

below : (a n : ℕ) → nat_le a n ≡ true → a ≤ n
below a n h = grind (arith, nat_tests)

-- it lies in memory
pub fence_within : (m : Memory) (pc : ℕ) → IsFence (decoded m pc) → pc + 4 ≤ length m.bytes
unfolding decoded fetched
fence_within m pc h =
    below (pc + 4) (length m.bytes) (and_parts (nat_le (pc + 4) (length m.bytes)) (all_code m.code pc 4)
    (is_there (nat_le (pc + 4) (length m.bytes) && all_code m.code pc 4) (number_at m.bytes pc 4) h)).0

abbrev FitsIn : ℕ → Piece → Type 0
FitsIn n p = p.start + length p.bytes.items ≤ n

-- so does a NOP in its place, before the pieces of the image
pub nop_within : (image : Loaded) (pc pages : ℕ) (p : Piece) (ps qs : List Piece) → HasFence image pc → pages ≡ image.pages → bytes_from ps 0 (4096 * image.pages) ≡ image.bytes →
    p.start ≡ pc → p.bytes.items ≡ nop → All (FitsIn (4096 * image.pages)) ps → qs ≡ p ∷ ps → All (FitsIn (4096 * pages)) qs
nop_within image pc pages p ps qs h same bytes start items within all =
    let size : length image.bytes ≡ 4096 * image.pages = sym (ap length bytes) ∙ length-bytes_from ps 0 (4096 * image.pages) in
    let four : length p.bytes.items ≡ 4 = ap length items in
    let fits : p.start + length p.bytes.items ≤ 4096 * image.pages = omega (arith, fence_within (memory_of image) pc h.fence, size, start, four) in
    subst (All (FitsIn (4096 * pages))) (sym all) (subst (λ (n : ℕ). All (FitsIn (4096 * n)) (p ∷ ps)) (sym same) (All-cons (FitsIn (4096 * image.pages)) p ps fits within))

abbrev loaded_with : List ℕ → List Range → ℕ → ℕ → Loaded
loaded_with bytes code entry pages = record { bytes = bytes; code = code; entry = entry; pages = pages }

equal_parts : (bs cs : List ℕ) (rs ss : List Range) (e f m n : ℕ) → bs ≡ cs → rs ≡ ss → e ≡ f → m ≡ n → loaded_with bs rs e m ≡ loaded_with cs ss f n
equal_parts bs cs rs ss e f m n a b c d = cc

-- what is laid with a NOP before the pieces of an image is the image without what stood there
pub laid_without : (image l : Loaded) (pc : ℕ) (p : Piece) (ps qs : List Piece) (code : List Range) (entry pages : ℕ) →
    l ≡ loaded_with (bytes_from qs 0 (4096 * pages)) code entry pages → qs ≡ p ∷ ps → bytes_from ps 0 (4096 * image.pages) ≡ image.bytes → p.start ≡ pc → p.bytes.items ≡ nop →
    code ≡ image.code → entry ≡ image.entry → pages ≡ image.pages → l ≡ without image pc
laid_without image l pc p ps qs code entry pages is all bytes start items c e n =
    let w = without image pc in
    let before : bytes_from qs 0 (4096 * pages) ≡ bytes_from (p ∷ ps) 0 (4096 * image.pages) = cc in
    let after : put (bytes_from ps 0 (4096 * image.pages)) (nop_at pc) ≡ w.bytes = ap (λ (bs : List ℕ). put bs (nop_at pc)) bytes in
    is ∙ equal_parts (bytes_from qs 0 (4096 * pages)) w.bytes code image.code entry image.entry pages image.pages
    (before ∙ (nop_laid p pc ps (4096 * image.pages) start items ∙ after)) c e n
