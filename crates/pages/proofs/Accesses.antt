-- Loads, stores and fetches by pages.
use Rattle.std.proofs.Common.{◌≡◌, ℕ, ◌+◌, ◌*◌, ◌/◌, ◌%◌, ◌<◌, ◌≤◌, ◌==◌, List, length, get_or, refl, ap, ◌∙◌, arith, Bool, true, false, nat_le, Some, None, Ok, Err, if◌then◌else◌, add-zero}
use Rattle.std.proofs.lemmas.Bool.{eq-eqb, ne_eqb, le-leb, lt-leb, eqb-true, leb-true}
use Rattle.pages.specs.declared.access.Fault.{Fault}
use Rattle.pages.specs.declared.access.Fault.TheVariants.{LoadMisaligned, LoadOutside, StoreMisaligned, StoreOutside, StoreToCode}
use Rattle.pages.specs.declared.access.Range.{Range}
use Rattle.pages.specs.declared.access.Width.{Width}
use Rattle.pages.specs.declared.access.Width.TheVariants.{W1, W2, W4, W8}
use Rattle.pages.specs.Flat.{Page, absent, full, flat}
use Rattle.pages.specs.Memory.{Memory, number_at, value_at, width_bytes, loaded, store_fault, fetched, any_code, all_code}
use Rattle.pages.proofs.FlatPages.{length-flat, number_in_page}

-- an access at a multiple of its width stays in its page
pub in_one_page : (a : ℕ) (w : Width) → a % width_bytes w ≡ 0 → a % 4096 + width_bytes w ≤ 4096
in_one_page a W1 h = omega arith
in_one_page a W2 h = omega arith
in_one_page a W4 h = omega arith
in_one_page a W8 h = omega arith

-- a number of a width within one page
pub value_in_page : (ps : List Page) (a : ℕ) (w : Width) → a / 4096 < length ps → a % 4096 + width_bytes w ≤ 4096 → value_at (full (get_or ps (a / 4096) absent)) (a % 4096) w ≡ value_at (flat ps) a w
value_in_page ps a W1 l h = number_in_page 1 ps a l h
value_in_page ps a W2 l h = number_in_page 2 ps a l h
value_in_page ps a W4 l h = number_in_page 4 ps a l h
value_in_page ps a W8 l h = number_in_page 8 ps a l h

-- it ends in memory if its page is there
within : (n a w : ℕ) → a % 4096 + w ≤ 4096 → a / 4096 < n → a + w ≤ 4096 * n
within n a w h l =
    let split : a ≡ 4096 * (a / 4096) + a % 4096 = omega arith in
    omega arith

outside : (n a w : ℕ) → 0 < w → n ≤ a / 4096 → 4096 * n < a + w
outside n a w h l =
    let split : a ≡ 4096 * (a / 4096) + a % 4096 = omega arith in
    omega arith

some_bytes : (w : Width) → 0 < width_bytes w
some_bytes W1 = omega arith
some_bytes W2 = omega arith
some_bytes W4 = omega arith
some_bytes W8 = omega arith

pub load_misaligned : (m : Memory) (a : ℕ) (w : Width) → (a % width_bytes w ≡ 0 → ⊥) → Err LoadMisaligned ≡ loaded m a w
unfolding loaded
load_misaligned m a w h = rw (ne_eqb (a % width_bytes w) 0 h) refl

pub load_outside : (ps : List Page) (code : List Range) (a : ℕ) (w : Width) → a % width_bytes w ≡ 0 → length ps ≤ a / 4096 → Err LoadOutside ≡ loaded (record { bytes = flat ps; code = code }) a w
unfolding loaded
load_outside ps code a w h l =
    let past : length (flat ps) < a + width_bytes w = omega (arith, outside (length ps) a (width_bytes w) (some_bytes w) l, length-flat ps) in
    rw (eq-eqb (a % width_bytes w) 0 h, lt-leb (a + width_bytes w) (length (flat ps)) past) refl

pub load_inside : (ps : List Page) (code : List Range) (a : ℕ) (w : Width) → a % width_bytes w ≡ 0 → a / 4096 < length ps → Ok (value_at (full (get_or ps (a / 4096) absent)) (a % 4096) w) ≡ loaded (record { bytes = flat ps; code = code }) a w
unfolding loaded
load_inside ps code a w h l =
    let page = in_one_page a w h in
    let end : a + width_bytes w ≤ length (flat ps) = omega (arith, within (length ps) a (width_bytes w) page l, length-flat ps) in
    rw (eq-eqb (a % width_bytes w) 0 h, le-leb (a + width_bytes w) (length (flat ps)) end) (ap (λ v. Ok v) (value_in_page ps a w l page))

pub store_misaligned : (m : Memory) (a : ℕ) (w : Width) → (a % width_bytes w ≡ 0 → ⊥) → store_fault m a w ≡ Some StoreMisaligned
unfolding store_fault
store_misaligned m a w h = rw (ne_eqb (a % width_bytes w) 0 h) refl

pub store_outside : (ps : List Page) (code : List Range) (a : ℕ) (w : Width) → a % width_bytes w ≡ 0 → length ps ≤ a / 4096 → store_fault (record { bytes = flat ps; code = code }) a w ≡ Some StoreOutside
unfolding store_fault
store_outside ps code a w h l =
    let past : length (flat ps) < a + width_bytes w = omega (arith, outside (length ps) a (width_bytes w) (some_bytes w) l, length-flat ps) in
    rw (eq-eqb (a % width_bytes w) 0 h, lt-leb (a + width_bytes w) (length (flat ps)) past) refl

pub store_inside : (ps : List Page) (code : List Range) (a : ℕ) (w : Width) (b : Bool) → a % width_bytes w ≡ 0 → a / 4096 < length ps → any_code code a (width_bytes w) ≡ b → store_fault (record { bytes = flat ps; code = code }) a w ≡ (if b then Some StoreToCode else None)
unfolding store_fault
store_inside ps code a w b h l e =
    let end : a + width_bytes w ≤ length (flat ps) = omega (arith, within (length ps) a (width_bytes w) (in_one_page a w h) l, length-flat ps) in
    rw (eq-eqb (a % width_bytes w) 0 h, le-leb (a + width_bytes w) (length (flat ps)) end, e) refl

fault_tells : (b c d : Bool) (e f g : Fault) → (if b then (if c then (if d then Some g else None) else Some f) else Some e) ≡ None → (b ≡ true) × (c ≡ true) × (d ≡ false)
fault_tells true true false e f g h = (refl, refl, refl)
fault_tells true true true e f g h = cc
fault_tells true false d e f g h = cc
fault_tells false c d e f g h = cc

-- a store with no fault is at a multiple of its width, in memory, and touches no code
pub store_accepted : (m : Memory) (a : ℕ) (w : Width) → store_fault m a w ≡ None → (a % width_bytes w ≡ 0) × (a + width_bytes w ≤ length m.bytes) × (any_code m.code a (width_bytes w) ≡ false)
unfolding store_fault
store_accepted m a w h =
    let t = fault_tells (a % width_bytes w == 0) (nat_le (a + width_bytes w) (length m.bytes)) (any_code m.code a (width_bytes w)) StoreMisaligned StoreOutside StoreToCode h in
    (eqb-true (a % width_bytes w) 0 t.0, leb-true (a + width_bytes w) (length m.bytes) t.1, t.2)

pub fetch_inside : (ps : List Page) (code : List Range) (pc : ℕ) → pc / 4096 < length ps → pc % 4096 ≤ 4092 → all_code code pc 4 ≡ true → Some (number_at (full (get_or ps (pc / 4096) absent)) (pc % 4096) 4) ≡ fetched (record { bytes = flat ps; code = code }) pc
unfolding fetched
fetch_inside ps code pc l h e =
    let end : pc + 4 ≤ length (flat ps) = omega (arith, within (length ps) pc 4 (omega arith) l, length-flat ps) in
    rw (e, le-leb (pc + 4) (length (flat ps)) end) (ap (λ v. Some v) (number_in_page 4 ps pc l (omega arith)))

pub fetch_outside : (m : Memory) (pc : ℕ) → length m.bytes < pc + 4 → None ≡ fetched m pc
unfolding fetched
fetch_outside m pc h = rw (lt-leb (pc + 4) (length m.bytes) h) refl

pub outside_page : (ps : List Page) (pc : ℕ) → length ps ≤ pc / 4096 → length (flat ps) < pc + 4
outside_page ps pc l = omega (arith, outside (length ps) pc 4 (omega arith) l, length-flat ps)

pub fetch_apart : (m : Memory) (pc v : ℕ) (b : Bool) → pc + 4 ≤ length m.bytes → all_code m.code pc 4 ≡ b → number_at m.bytes pc 4 ≡ v → (if b then Some v else None) ≡ fetched m pc
unfolding fetched
fetch_apart m pc v b h e n = rw (le-leb (pc + 4) (length m.bytes) h, e, n) refl

pub byte_in_page : (ps : List Page) (a : ℕ) → a / 4096 < length ps → number_at (full (get_or ps (a / 4096) absent)) (a % 4096) 1 ≡ get_or (flat ps) a 0
byte_in_page ps a l = number_in_page 1 ps a l (omega arith) ∙ add-zero (get_or (flat ps) a 0)

-- an address in memory is in one of the pages
pub page_below : (ps : List Page) (a : ℕ) → a < length (flat ps) → a / 4096 < length ps
page_below ps a h = omega (arith, length-flat ps)

-- four bytes make a word
pub word_of_bytes : (bs : List ℕ) (pc b0 b1 b2 b3 v : ℕ) → b0 ≡ get_or bs pc 0 → b1 ≡ get_or bs (pc + 1) 0 → b2 ≡ get_or bs (pc + 2) 0 → b3 ≡ get_or bs (pc + 3) 0 → v ≡ b0 + b1 * 256 + b2 * 65536 + b3 * 16777216 → number_at bs pc 4 ≡ v
word_of_bytes bs pc b0 b1 b2 b3 v e0 e1 e2 e3 e =
    let two : pc + 1 + 1 ≡ pc + 2 = omega arith in
    let three : pc + 1 + 1 + 1 ≡ pc + 3 = omega arith in
    let at_two = ap (λ k. get_or bs k 0) two in
    let at_three = ap (λ k. get_or bs k 0) three in
    omega (arith, at_two, at_three)

pub accepted_page : (ps : List Page) (code : List Range) (a : ℕ) (w : Width) → store_fault (record { bytes = flat ps; code = code }) a w ≡ None → (a % width_bytes w ≡ 0) × (a / 4096 < length ps)
accepted_page ps code a w h =
    let t = store_accepted (record { bytes = flat ps; code = code }) a w h in
    let some = some_bytes w in
    let inside : a < length (flat ps) = omega (arith, t.1) in
    (t.0, page_below ps a inside)
