-- Laws of what a list of stores leaves.
use Rattle.std.proofs.Common.{◌≡◌, ◌≢◌, ℕ, zero, suc, ◌+◌, ◌-◌, ◌*◌, ◌/◌, ◌%◌, ◌^◌, ◌<◌, ◌≤◌, List, [], ◌∷◌, ◌++◌, length, get_or, set, refl, sym, ap, ◌∙◌, arith, All, Bool, true, false, ◌||◌, if◌then◌else◌, ◌⊎◌, ⊎_elim, slice_index, Some, None, ◌&&◌, nat_le}
use Rattle.std.proofs.Math.Nat.{div-div-eq-div-mul, div-one}
use Rattle.std.proofs.lemmas.Bool.{and_parts, cases_order, false≢true, leb-true, or_parts}
use Rattle.std.proofs.lemmas.Bool.Decides.{nat_tests}
use Rattle.std.proofs.lemmas.List.{ext_get_or, get_or-set_same, get_or-set_other, length-set}
use Rattle.std.proofs.lemmas.List.Elements.{All-cons, All-set, All-head, All-tail}
use Rattle.std.proofs.lemmas.Nat.{pow-add}
use Rattle.pages.specs.declared.access.Range.{Range}
use Rattle.pages.specs.declared.access.Store.{Store}
use Rattle.pages.specs.declared.access.Width.{Width}
use Rattle.pages.specs.Memory.{IsBytes, Memory, TouchesNoCode, after, all_code, any_code, byte_of, byte_put, covered, covers, fetched, in_range, is_code, last_byte, number_at, put, store_fault, stored, width_bytes, written}

length-written : (n : ℕ) (bs : List ℕ) (a v : ℕ) → length (written bs a v n) ≡ length bs
length-written zero bs a v = refl
length-written (suc n) bs a v = length-written n (set bs a (v % 2 ^ 8)) (a + 1) (v / 2 ^ 8) ∙ length-set bs a (v % 2 ^ 8)

pub length-put : (bs : List ℕ) (s : Store) → length (put bs s) ≡ length bs
unfolding put
length-put bs s = length-written (width_bytes s.width) bs s.address s.value

-- stores leave as many bytes as there were
pub length-after : (bs : List ℕ) (ss : List Store) → length (after bs ss) ≡ length bs
length-after bs [] = refl
length-after bs (s ∷ ss) = length-after (put bs s) ss ∙ length-put bs s

-- two lists of stores, one after the other
pub after-append : (bs : List ℕ) (ss ts : List Store) → after bs (ss ++ ts) ≡ after (after bs ss) ts
after-append bs [] ts = refl
after-append bs (s ∷ ss) ts = after-append (put bs s) ss ts

pub last_byte-append : (b : ℕ) (ss ts : List Store) (x : ℕ) → last_byte b (ss ++ ts) x ≡ last_byte (last_byte b ss x) ts x
last_byte-append b [] ts x = refl
last_byte-append b (s ∷ ss) ts x = last_byte-append (if covers s x then byte_put s x else b) ss ts x

or_assoc : (p q r : Bool) → ((p || q) || r) ≡ (p || (q || r))
or_assoc true q r = refl
or_assoc false q r = refl

pub covered-append : (ss ts : List Store) (x : ℕ) → covered (ss ++ ts) x ≡ (covered ss x || covered ts x)
covered-append [] ts x = refl
covered-append (s ∷ ss) ts x = ap (λ b. covers s x || b) (covered-append ss ts x) ∙ sym (or_assoc (covers s x) (covered ss x) (covered ts x))

low_byte : (v : ℕ) → v % 2 ^ 8 < 2 ^ 8
low_byte v = omega arith

bytes_written : (n : ℕ) (bs : List ℕ) (a v : ℕ) → IsBytes bs → IsBytes (written bs a v n)
bytes_written zero bs a v h = h
bytes_written (suc n) bs a v h = bytes_written n (set bs a (v % 2 ^ 8)) (a + 1) (v / 2 ^ 8) (All-set (λ b. b < 2 ^ 8) bs a (v % 2 ^ 8) (low_byte v) h)

pub bytes_put : (bs : List ℕ) (s : Store) → IsBytes bs → IsBytes (put bs s)
unfolding put
bytes_put bs s h = bytes_written (width_bytes s.width) bs s.address s.value h

-- stores leave bytes
pub bytes_after : (bs : List ℕ) (ss : List Store) → IsBytes bs → IsBytes (after bs ss)
bytes_after bs [] h = h
bytes_after bs (s ∷ ss) h = bytes_after (put bs s) ss (bytes_put bs s h)

in_first : (a n : ℕ) → in_range a (suc n) a ≡ true
in_first a n = grind (arith, nat_tests)

not_in_next : (a n k : ℕ) → k ≤ a → in_range (a + 1) n k ≡ false
not_in_next a n k h = grind (arith, nat_tests)

not_before : (a n k : ℕ) → k < a → in_range a n k ≡ false
not_before a n k h = grind (arith, nat_tests)

in_later : (a n k : ℕ) → a < k → in_range a (suc n) k ≡ in_range (a + 1) n k
in_later a n k h = grind (arith, nat_tests)

shift_on : (v a k : ℕ) → a < k → byte_of (v / 2 ^ 8) (k - (a + 1)) ≡ byte_of v (k - a)
shift_on v a k h =
    let m = 8 * (k - (a + 1)) in
    let size : 8 + m ≡ 8 * (k - a) = omega arith in
    ap (λ x. x % 2 ^ 8) (div-div-eq-div-mul v (2 ^ 8) (2 ^ m) ∙ ap (λ x. v / x) (sym (pow-add 2 8 m) ∙ ap (λ j. 2 ^ j) size))

first_byte : (v a : ℕ) → v % 2 ^ 8 ≡ byte_of v (a - a)
first_byte v a =
    let none : 8 * (a - a) ≡ 0 = omega arith in
    ap (λ x. x % 2 ^ 8) (sym (div-one v)) ∙ ap (λ j. v / 2 ^ j % 2 ^ 8) (sym none)

-- a byte after the low bytes of a value are written
pub written_at : (n : ℕ) (bs : List ℕ) (a v k : ℕ) → k < length bs → get_or (written bs a v n) k 0 ≡ (if in_range a n k then byte_of v (k - a) else get_or bs k 0)
written_at zero bs a v k h = ap (λ b. if b then byte_of v (k - a) else get_or bs k 0) (sym (none a k))
  where
    none : (a k : ℕ) → in_range a 0 k ≡ false
    none a k = grind (arith, nat_tests)
written_at (suc n) bs a v k h =
    let b = v % 2 ^ 8 in
    let inside : k < length (set bs a b) = omega (arith, length-set bs a b) in
    let rest = written_at n (set bs a b) (a + 1) (v / 2 ^ 8) k inside in
    rest
    ∙ ⊎_elim
    (λ (same : k ≡ a).
    let at : a < length bs = omega arith in
    let le : k ≤ a = omega arith in
    ap (λ t. if t then byte_of (v / 2 ^ 8) (k - (a + 1)) else get_or (set bs a b) k 0) (not_in_next a n k le)
    ∙ ap (λ j. get_or (set bs a b) j 0) same ∙ get_or-set_same bs a b 0 at ∙ first_byte v a
    ∙ sym (ap (λ t. if t then byte_of v (a - a) else get_or bs a 0) (in_first a n))
    ∙ ap (λ j. if in_range a (suc n) j then byte_of v (j - a) else get_or bs j 0) (sym same))
    (λ (other : (k < a) ⊎ (a < k)).
    ⊎_elim
    (λ (lt : k < a).
    let ne : k ≢ a = omega arith in
    let le : k ≤ a = omega arith in
    ap (λ t. if t then byte_of (v / 2 ^ 8) (k - (a + 1)) else get_or (set bs a b) k 0) (not_in_next a n k le)
    ∙ get_or-set_other bs a k b 0 ne
    ∙ sym (ap (λ t. if t then byte_of v (k - a) else get_or bs k 0) (not_before a (suc n) k lt)))
    (λ (gt : a < k).
    let ne : k ≢ a = omega arith in
    ap (λ x. if in_range (a + 1) n k then x else get_or (set bs a b) k 0) (shift_on v a k gt)
    ∙ ap (λ x. if in_range (a + 1) n k then byte_of v (k - a) else x) (get_or-set_other bs a k b 0 ne)
    ∙ ap (λ t. if t then byte_of v (k - a) else get_or bs k 0) (sym (in_later a n k gt)))
    other)
    (cases_order k a)

-- a byte after one store
pub byte_put_at : (bs : List ℕ) (s : Store) (k : ℕ) → k < length bs → get_or (put bs s) k 0 ≡ (if covers s k then byte_put s k else get_or bs k 0)
unfolding put
byte_put_at bs s k h = written_at (width_bytes s.width) bs s.address s.value k h

-- each byte is that of the last store that covers it, else what it was
pub byte_after : (bs : List ℕ) (k : ℕ) (ss : List Store) → k < length bs → slice_index (after bs ss) k ≡ last_byte (slice_index bs k) ss k
byte_after bs k [] h = refl
byte_after bs k (s ∷ ss) h =
    let inside : k < length (put bs s) = omega (arith, length-put bs s) in
    byte_after (put bs s) k ss inside ∙ ap (λ b. last_byte b ss k) (byte_put_at bs s k h)

-- lists of stores that leave each byte the same leave the same bytes
pub same_after : (bs : List ℕ) (ss ts : List Store) → ((b x : ℕ) → x < length bs → last_byte b ss x ≡ last_byte b ts x) → after bs ss ≡ after bs ts
same_after bs ss ts h =
    ext_get_or 0 (after bs ss) (after bs ts) (length-after bs ss ∙ sym (length-after bs ts))
    (λ k l.
    let inside : k < length bs = omega (arith, length-after bs ss) in
    byte_after bs k ss inside ∙ h (slice_index bs k) k inside ∙ sym (byte_after bs k ts inside))

-- a byte that no store covers stays
pub last_byte-uncovered : (b : ℕ) (ss : List Store) (x : ℕ) → covered ss x ≡ false → last_byte b ss x ≡ b
last_byte-uncovered b [] x h = refl
last_byte-uncovered b (s ∷ ss) x h =
    let parts = or_parts (covers s x) (covered ss x) h in
    ap (λ t. last_byte (if t then byte_put s x else b) ss x) parts.0 ∙ last_byte-uncovered b ss x parts.1

-- a store that has no fault touches no code
pub no_code : (m : Memory) (a : ℕ) (w : Width) → store_fault m a w ≡ None → any_code m.code a (width_bytes w) ≡ false
unfolding store_fault
no_code m a w e = grind (arith, nat_tests)

pub touches_none : (code : List Range) → TouchesNoCode code []
touches_none code = λ k d h. absurd (omega arith)

pub touches_more : (m : Memory) (s : Store) (ss : List Store) → store_fault m s.address s.width ≡ None → TouchesNoCode m.code ss → TouchesNoCode m.code (s ∷ ss)
touches_more m s ss e t = All-cons (λ (x : Store). any_code m.code x.address (width_bytes x.width) ≡ false) s ss (no_code m s.address s.width e) t

apart_at : (code : List Range) (n a x : ℕ) → any_code code a n ≡ false → is_code code x ≡ true → in_range a n x ≡ false
apart_at code zero a x h e = none a x
  where
    none : (a k : ℕ) → in_range a 0 k ≡ false
    none a k = grind (arith, nat_tests)
apart_at code (suc n) a x h e =
    let parts = or_parts (is_code code a) (any_code code (a + 1) n) h in
    ⊎_elim
    (λ (same : x ≡ a). absurd (false≢true (sym parts.0 ∙ ap (is_code code) (sym same) ∙ e)))
    (λ (other : (x < a) ⊎ (a < x)).
    ⊎_elim
    (λ (lt : x < a). not_before a (suc n) x lt)
    (λ (gt : a < x). in_later a n x gt ∙ apart_at code n (a + 1) x parts.1 e)
    other)
    (cases_order x a)

-- a byte of code stays
code_stays : (code : List Range) (bs : List ℕ) (ss : List Store) (x : ℕ) → TouchesNoCode code ss → is_code code x ≡ true → x < length bs → get_or (after bs ss) x 0 ≡ get_or bs x 0
code_stays code bs [] x h e l = refl
code_stays code bs (s ∷ ss) x h e l =
    let P : Store → Type 0 = λ (s : Store). any_code code s.address (width_bytes s.width) ≡ false in
    let here = All-head P s ss h in
    let rest = All-tail P s ss h in
    let inside : x < length (put bs s) = omega (arith, length-put bs s) in
    code_stays code (put bs s) ss x rest e inside
    ∙ byte_put_at bs s x l
    ∙ ap (λ t. if t then byte_put s x else get_or bs x 0) (apart_at code (width_bytes s.width) s.address x here e)

numbers_agree : (n : ℕ) (bs cs : List ℕ) (a : ℕ) (code : List Range) → all_code code a n ≡ true → a + n ≤ length bs → ((x : ℕ) → is_code code x ≡ true → x < length bs → get_or cs x 0 ≡ get_or bs x 0) → number_at cs a n ≡ number_at bs a n
numbers_agree zero bs cs a code h l same = refl
numbers_agree (suc n) bs cs a code h l same =
    let parts = and_parts (is_code code a) (all_code code (a + 1) n) h in
    let rest = numbers_agree n bs cs (a + 1) code parts.1 (omega arith) same in
    let byte = same a parts.0 (omega arith) in
    rw (byte, rest) refl

-- stores that touch no code change no fetched word
pub fetched_stays : (m : Memory) (pc : ℕ) (ss : List Store) → TouchesNoCode m.code ss → fetched (stored m ss) pc ≡ fetched m pc
unfolding fetched
fetched_stays m pc ss h =
    let size : nat_le (pc + 4) (length (after m.bytes ss)) ≡ nat_le (pc + 4) (length m.bytes) = ap (nat_le (pc + 4)) (length-after m.bytes ss) in
    ap (λ t. if t && all_code m.code pc 4 then Some (number_at (after m.bytes ss) pc 4) else None) size
    ∙ only_if (nat_le (pc + 4) (length m.bytes) && all_code m.code pc 4) (number_at (after m.bytes ss) pc 4) (number_at m.bytes pc 4)
    (λ e.
    let parts = and_parts (nat_le (pc + 4) (length m.bytes)) (all_code m.code pc 4) e in
    numbers_agree 4 m.bytes (after m.bytes ss) pc m.code parts.1 (leb-true (pc + 4) (length m.bytes) parts.0) (λ x c l. code_stays m.code m.bytes ss x h c l))
  where
    only_if : (b : Bool) (x y : ℕ) → (b ≡ true → x ≡ y) → (if b then Some x else None) ≡ (if b then Some y else None)
    only_if true x y h = ap (λ v. Some v) (h refl)
    only_if false x y h = refl
