-- A byte that is loaded, and the bytes so far.
use Rattle.std.proofs.Common.{◌≡◌, ℕ, ◌+◌, ◌-◌, ◌%◌, ◌^◌, ◌<◌, ◌≤◌, Bool, true, false, cond, List, [], ◌∷◌, ◌++◌, length, take, drop, slice_index, Ok, Err, inl, inr, refl, sym, ◌∙◌, ap, subst, arith, add-zero, eq-eqb, length-drop}
use Rattle.std.specs.Prelude.{◌==◌, nat_le}
use Rattle.std.proofs.lemmas.Bool.{leb-true}
use Rattle.std.proofs.lemmas.Bool.Decides.{leb_tells}
use Rattle.std.proofs.lemmas.List.{get_or-drop, take_all, take_more}
use Rattle.pages.specs.declared.access.Fault.{Fault}
use Rattle.pages.specs.declared.access.Fault.TheVariants.{LoadMisaligned, LoadOutside}
use Rattle.pages.specs.declared.access.Width.TheVariants.{W1}
use Rattle.pages.specs.Memory.{IsBytes, Memory, after, loaded, stored}
use Rattle.pages.proofs.StoreLaws.{bytes_after, length-after}
use Rattle.store_buffer.specs.Covered.{stores_of}
use Rattle.moments.specs.Bytes.{bytes_from}

loaded_by : (m : Memory) (a : ℕ) (t : Bool) → nat_le (a + 1) (length m.bytes) ≡ t → loaded m a W1 ≡ cond t (Ok (slice_index m.bytes a)) (Err LoadOutside)
unfolding loaded
loaded_by m a t e =
    let aligned : (a % 1 == 0) ≡ true = eq-eqb (a % 1) 0 (omega arith) in
    ap (λ (c : Bool). cond c (cond (nat_le (a + 1) (length m.bytes)) (Ok (slice_index m.bytes a + 0)) (Err LoadOutside)) (Err LoadMisaligned)) aligned
    ∙ ap (λ (c : Bool). cond c (Ok (slice_index m.bytes a + 0)) (Err LoadOutside)) e
    ∙ ap (λ (n : ℕ). cond t (Ok n) (Err LoadOutside)) (add-zero (slice_index m.bytes a))

-- this is the byte at an address
pub record IsByte (bs : List ℕ) (a n : ℕ) : Type 0 where
  pub within : a < length bs
  pub byte : n ≡ slice_index bs a

there_by : (m : Memory) (a n : ℕ) (t : Bool) → nat_le (a + 1) (length m.bytes) ≡ t → Ok n ≡ loaded m a W1 → IsByte m.bytes a n
there_by m a n true e is =
    let found : Ok n ≡ Ok (slice_index m.bytes a) = is ∙ loaded_by m a true e in
    record { within = omega (arith, leb-true (a + 1) (length m.bytes) e); byte = cc }
there_by m a n false e is =
    let found : Ok n ≡ Err LoadOutside = is ∙ loaded_by m a false e in
    absurd cc

pub is_there : (m : Memory) (a n : ℕ) → Ok n ≡ loaded m a W1 → IsByte m.bytes a n
is_there m a n is = there_by m a n (nat_le (a + 1) (length m.bytes)) refl is

past_by : (m : Memory) (a : ℕ) (f : Fault) (t : Bool) → nat_le (a + 1) (length m.bytes) ≡ t → Err f ≡ loaded m a W1 → length m.bytes ≤ a
past_by m a f true e is =
    let found : Err f ≡ Ok (slice_index m.bytes a) = is ∙ loaded_by m a true e in
    absurd cc
past_by m a f false e is = elim (leb_tells (a + 1) (length m.bytes)) [ inl w ↦ absurd cc | inr w ↦ omega (arith, w.1) ]

pub is_past : (m : Memory) (a : ℕ) (f : Fault) → Err f ≡ loaded m a W1 → length m.bytes ≤ a
is_past m a f is = past_by m a f (nat_le (a + 1) (length m.bytes)) refl is

-- ---- the bytes so far

pub one_byte : (bs : List ℕ) (a k b : ℕ) (xs ys : List ℕ) → xs ≡ bytes_from bs a k → a + k < length bs → b ≡ slice_index bs (a + k) → ys ≡ xs ++ b ∷ [] → ys ≡ bytes_from bs a (k + 1)
one_byte bs a k b xs ys so_far lt is pushed =
    let within : k < length (drop a bs) = omega (arith, length-drop a bs, lt) in
    pushed
    ∙ ap (λ (zs : List ℕ). zs ++ b ∷ []) so_far
    ∙ ap (λ (x : ℕ). take k (drop a bs) ++ x ∷ []) (is ∙ sym (get_or-drop a bs k 0))
    ∙ sym (take_more (drop a bs) k 0 within)

pub all_bytes : (bs : List ℕ) (a k count : ℕ) (xs : List ℕ) → xs ≡ bytes_from bs a k → length bs ≤ a + k → k ≤ count → xs ≡ bytes_from bs a count
all_bytes bs a k count xs so_far past le =
    let few : length (drop a bs) ≤ k = omega (arith, length-drop a bs, past) in
    let fewer : length (drop a bs) ≤ count = omega (arith, few, le) in
    so_far ∙ take_all k (drop a bs) few ∙ sym (take_all count (drop a bs) fewer)

-- ---- through a buffer, where these bytes are seen

pub seen_fit : (m : Memory) (es : List (ℕ × ℕ)) (a n : ℕ) → IsBytes m.bytes → Ok n ≡ loaded (stored m (stores_of es)) a W1 → n < 2 ^ 8
seen_fit m es a n fit is =
    let at = is_there (stored m (stores_of es)) a n is in
    let small : slice_index (after m.bytes (stores_of es)) a < 2 ^ 8 = bytes_after m.bytes (stores_of es) fit a 0 at.within in
    omega (arith, at.byte, small)

pub seen_there : (m : Memory) (es : List (ℕ × ℕ)) (bs : List ℕ) (a n : ℕ) → after m.bytes (stores_of es) ≡ bs → Ok n ≡ loaded (stored m (stores_of es)) a W1 → IsByte bs a n
seen_there m es bs a n e is =
    let at = is_there (stored m (stores_of es)) a n is in
    subst (λ (xs : List ℕ). IsByte xs a n) e (record { within = at.within; byte = at.byte })

pub seen_past : (m : Memory) (es : List (ℕ × ℕ)) (bs : List ℕ) (a : ℕ) (f : Fault) → after m.bytes (stores_of es) ≡ bs → Err f ≡ loaded (stored m (stores_of es)) a W1 → length bs ≤ a
seen_past m es bs a f e is = let past = is_past (stored m (stores_of es)) a f is in omega (arith, past, ap length e)

pub seen_size : (m : Memory) (es : List (ℕ × ℕ)) (bs : List ℕ) → after m.bytes (stores_of es) ≡ bs → length bs ≡ length m.bytes
seen_size m es bs e = sym (ap length e) ∙ length-after m.bytes (stores_of es)
