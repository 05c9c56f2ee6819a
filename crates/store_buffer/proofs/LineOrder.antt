-- The bytes of lines by their addresses.
use Rattle.std.proofs.Common.{◌≡◌, ℕ, zero, suc, ◌+◌, ◌-◌, ◌*◌, ◌/◌, ◌%◌, ◌^◌, ◌<◌, ◌≤◌, ◌==◌, List, [], ◌∷◌, ◌++◌, refl, sym, ap, subst, ◌∙◌, arith, Bool, true, false, cond, if◌then◌else◌, ◌⊎◌, ⊎_elim, inl, inr, Option, Some, None, is_some, nat_cmp, slice_index}
use Rattle.std.proofs.lemmas.Bool.{cases_lt, cases_eq, eq-eqb, ne_eqb}
use Rattle.std.proofs.lemmas.Bool.Decides.{nat_tests}
use Rattle.std.proofs.lemmas.Map.Keys.{sorted_head, sorted_tail}
use Rattle.std.specs.BTreeMap.{is_at}
use Rattle.std.specs.List.{AllByRecursion}
use Rattle.std.specs.List.Sorted.{IsStrictlySortedBy}
use Rattle.std.specs.Map.{keys_of}
use Rattle.std.specs.declared.cmp.Ordering.TheVariants.{Less}
use Rattle.pages.specs.declared.access.Store.{Store}
use Rattle.pages.specs.Memory.{byte_of, byte_put, covers, in_range, width_bytes}
use Rattle.store_buffer.specs.declared.line.Line.{Line}
use Rattle.store_buffer.specs.Covered.{Rising, byte_at, with_store}
use Rattle.store_buffer.proofs.CoveredLaws.{byte_at-with_store, rising_from, rising_with_store, same_bytes}
use Rattle.store_buffer.specs.Held.{RisingLines}
use Rattle.store_buffer.specs.Lines.{byte_if, line_at, line_bytes, line_of, lines_bytes, index_of, put_first, whole_line}

abbrev pub or_else : Option ℕ → Option ℕ → Option ℕ
or_else None o = o
or_else (Some b) o = Some b

at_same : {X : Type 0} (a b : ℕ) (x y : X) → a ≡ b → (if a == b then x else y) ≡ x
at_same a b x y e = ap (λ t. if t then x else y) (eq-eqb a b e)

at_other : {X : Type 0} (a b : ℕ) (x y : X) → (a ≡ b → ⊥) → (if a == b then x else y) ≡ y
at_other a b x y n = ap (λ t. if t then x else y) (ne_eqb a b n)

in_yes : (a n k : ℕ) → a ≤ k → k < a + n → in_range a n k ≡ true
in_yes a n k l h = grind (arith, nat_tests)

in_no : (a n k : ℕ) → (k < a) ⊎ (a + n ≤ k) → in_range a n k ≡ false
in_no a n k h = grind (arith, nat_tests)

first_at : (a x : ℕ) (o : Option ℕ) (es : List (ℕ × ℕ)) → byte_at (put_first a o es) x ≡ (if a == x then or_else o (byte_at es x) else byte_at es x)
first_at a x None es = same (a == x) (byte_at es x)
  where
    same : (t : Bool) (o : Option ℕ) → o ≡ (if t then o else o)
    same true o = refl
    same false o = refl
first_at a x (Some b) es = refl

-- a byte of n indices of a line
pub byte_at-line_bytes : (n a j x : ℕ) (l : Line) → byte_at (line_bytes a l j n) x ≡ (if in_range (a + j) n x then line_at l (x - a) else None)
byte_at-line_bytes zero a j x l = ap (λ t. if t then line_at l (x - a) else None) (sym (none (a + j) x))
  where
    none : (a k : ℕ) → in_range a 0 k ≡ false
    none a k = grind (arith, nat_tests)
byte_at-line_bytes (suc n) a j x l =
    let next : a + (j + 1) ≡ a + j + 1 = omega arith in
    let rest = byte_at-line_bytes n a (j + 1) x l ∙ ap (λ k. if in_range k n x then line_at l (x - a) else None) next in
    first_at (a + j) x (line_at l j) (line_bytes a l (j + 1) n)
    ∙ ap (λ o. if a + j == x then or_else (line_at l j) o else o) rest
    ∙ ⊎_elim
    (λ (same : a + j ≡ x).
    let index : j ≡ x - a = omega arith in
    let past : in_range (a + j + 1) n x ≡ false = in_no (a + j + 1) n x (inl (omega arith)) in
    let here : in_range (a + j) (suc n) x ≡ true = in_yes (a + j) (suc n) x (omega arith) (omega arith) in
    at_same (a + j) x (or_else (line_at l j) (if in_range (a + j + 1) n x then line_at l (x - a) else None)) (if in_range (a + j + 1) n x then line_at l (x - a) else None) same
    ∙ ap (λ t. or_else (line_at l j) (if t then line_at l (x - a) else None)) past
    ∙ or_none (line_at l j) ∙ ap (line_at l) index ∙ sym (ap (λ t. if t then line_at l (x - a) else None) here))
    (λ (other : a + j ≡ x → ⊥).
    at_other (a + j) x (or_else (line_at l j) (if in_range (a + j + 1) n x then line_at l (x - a) else None)) (if in_range (a + j + 1) n x then line_at l (x - a) else None) other
    ∙ ap (λ t. if t then line_at l (x - a) else None) (moved (a + j) n x other))
    (cases_eq (a + j) x)
  where
    or_none : (o : Option ℕ) → or_else o None ≡ o
    or_none None = refl
    or_none (Some b) = refl

    moved : (a n k : ℕ) → (a ≡ k → ⊥) → in_range (a + 1) n k ≡ in_range a (suc n) k
    moved a n k h = grind (arith, nat_tests)

byte_at-append : (xs ys : List (ℕ × ℕ)) (x : ℕ) → byte_at (xs ++ ys) x ≡ or_else (byte_at xs x) (byte_at ys x)
byte_at-append [] ys x = refl
byte_at-append (e ∷ xs) ys x = ap (λ o. if e.0 == x then Some e.1 else o) (byte_at-append xs ys x) ∙ inside (e.0 == x) e.1 (byte_at xs x) (byte_at ys x)
  where
    inside : (t : Bool) (v : ℕ) (o p : Option ℕ) → (if t then Some v else or_else o p) ≡ or_else (if t then Some v else o) p
    inside true v o p = refl
    inside false v o p = refl

rising_first : (low a v : ℕ) (t : Bool) (es : List (ℕ × ℕ)) → low ≤ a → Rising (a + 1) es → Rising low (put_first a (byte_if t v) es)
rising_first low a v true es l h = (l, small v, h)
  where
    small : (v : ℕ) → v % 2 ^ 8 < 2 ^ 8
    small v = omega arith
rising_first low a v false es l h = rising_from low (a + 1) es (omega arith) h

rising_line : (n low a j : ℕ) (l : Line) (es : List (ℕ × ℕ)) → low ≤ a + j → Rising (a + j + n) es → Rising low (line_bytes a l j n ++ es)
rising_line zero low a j l es h r = rising_from low (a + j + 0) es (omega arith) r
rising_line (suc n) low a j l es h r =
    let size : a + j + suc n ≡ a + (j + 1) + n = omega arith in
    let step : a + j + 1 ≡ a + (j + 1) = omega arith in
    let rest = rising_line n (a + j + 1) a (j + 1) l es (omega arith) (subst (λ k. Rising k es) size r) in
    subst (λ (zs : List (ℕ × ℕ)). Rising low zs) (sym (put_first-append (a + j) (line_at l j) (line_bytes a l (j + 1) n) es)) (rising_first low (a + j) (slice_index l.bytes j) (l.mask / 2 ^ j % 2 == 1) (line_bytes a l (j + 1) n ++ es) h rest)
  where
    put_first-append : (a : ℕ) (o : Option ℕ) (xs ys : List (ℕ × ℕ)) → put_first a o xs ++ ys ≡ put_first a o (xs ++ ys)
    put_first-append a None xs ys = refl
    put_first-append a (Some b) xs ys = refl

-- the bytes of lines rise
pub rising_lines : (low : ℕ) (es : List (ℕ × Line)) → RisingLines low es → Rising (64 * low) (lines_bytes es)
unfolding whole_line
rising_lines low [] h = tt
rising_lines low (e ∷ es) h =
    let next : 64 * (e.0 + 1) ≡ 64 * e.0 + 0 + 64 = omega arith in
    rising_line 64 (64 * low) (64 * e.0) 0 e.1 (lines_bytes es) (omega (arith, h.0)) (subst (λ k. Rising k (lines_bytes es)) next (rising_lines (e.0 + 1) es h.1))

pub is_at_same : (k q : ℕ) → k ≡ q → is_at (nat_cmp k) q ≡ true
is_at_same k q h = grind (arith, nat_tests)

pub is_at_other : (k q : ℕ) → (k ≡ q → ⊥) → is_at (nat_cmp k) q ≡ false
is_at_other k q h = grind (arith, nat_tests)

pub line_of-below : (low : ℕ) (es : List (ℕ × Line)) (k : ℕ) → k < low → RisingLines low es → line_of es k ≡ None
line_of-below low [] k l h = refl
line_of-below low (e ∷ es) k l h =
    ap (λ t. cond t (Some e.1) (line_of es k)) (is_at_other k e.0 (λ s. omega (arith, h.0))) ∙ line_of-below (e.0 + 1) es k (omega (arith, h.0)) h.1

-- a byte of lines, by the number of its line and its index there
pub lines_at : (low : ℕ) (es : List (ℕ × Line)) (x : ℕ) → RisingLines low es → byte_at (lines_bytes es) x ≡ index_of (line_of es (x / 64)) (x % 64)
unfolding whole_line
lines_at low [] x h = refl
lines_at low (e ∷ es) x h =
    let rest = lines_at (e.0 + 1) es x h.1 in
    let z : 64 * e.0 + 0 ≡ 64 * e.0 = omega arith in
    byte_at-append (line_bytes (64 * e.0) e.1 0 64) (lines_bytes es) x
    ∙ ap (λ o. or_else o (byte_at (lines_bytes es) x)) (byte_at-line_bytes 64 (64 * e.0) 0 x e.1 ∙ ap (λ k. if in_range k 64 x then line_at e.1 (x - 64 * e.0) else None) z)
    ∙ ap (λ o. or_else (if in_range (64 * e.0) 64 x then line_at e.1 (x - 64 * e.0) else None) o) rest
    ∙ ⊎_elim
    (λ (same : x / 64 ≡ e.0).
    let index : x - 64 * e.0 ≡ x % 64 = omega arith in
    let inside : in_range (64 * e.0) 64 x ≡ true = in_yes (64 * e.0) 64 x (omega arith) (omega arith) in
    let absent : line_of es (x / 64) ≡ None = line_of-below (e.0 + 1) es (x / 64) (omega arith) h.1 in
    ap (λ t. or_else (if t then line_at e.1 (x - 64 * e.0) else None) (index_of (line_of es (x / 64)) (x % 64))) inside
    ∙ ap (λ o. or_else (line_at e.1 (x - 64 * e.0)) (index_of o (x % 64))) absent
    ∙ or_none (line_at e.1 (x - 64 * e.0)) ∙ ap (line_at e.1) index
    ∙ sym (ap (λ t. index_of (cond t (Some e.1) (line_of es (x / 64))) (x % 64)) (is_at_same (x / 64) e.0 same)))
    (λ (other : x / 64 ≡ e.0 → ⊥).
    let outside : in_range (64 * e.0) 64 x ≡ false = in_no (64 * e.0) 64 x (apart x e.0 other) in
    ap (λ t. or_else (if t then line_at e.1 (x - 64 * e.0) else None) (index_of (line_of es (x / 64)) (x % 64))) outside
    ∙ sym (ap (λ t. index_of (cond t (Some e.1) (line_of es (x / 64))) (x % 64)) (is_at_other (x / 64) e.0 other)))
    (cases_eq (x / 64) e.0)
  where
    or_none : (o : Option ℕ) → or_else o None ≡ o
    or_none None = refl
    or_none (Some b) = refl

    apart : (x k : ℕ) → (x / 64 ≡ k → ⊥) → (x < 64 * k) ⊎ (64 * k + 64 ≤ x)
    apart x k h = ⊎_elim (λ (lt : x < 64 * k). inl lt) (λ (ge : 64 * k ≤ x). ⊎_elim (λ (lt : x < 64 * k + 64). absurd (h (omega arith))) (λ (past : 64 * k + 64 ≤ x). inr past) (cases_lt x (64 * k + 64))) (cases_lt x (64 * k))

less_below : (k q : ℕ) → nat_cmp k q ≡ Less → k + 1 ≤ q
less_below k q h = grind (arith, nat_tests)

rising_keys_from : (k : ℕ) (es : List (ℕ × Line)) → AllByRecursion (λ y. nat_cmp k y ≡ Less) (keys_of es) → IsStrictlySortedBy nat_cmp (keys_of es) → RisingLines (k + 1) es
rising_keys_from k [] h s = tt
rising_keys_from k (e ∷ es) h s = (less_below k e.0 h.0, rising_keys_from e.0 es (sorted_head nat_cmp e.0 (keys_of es) s) (sorted_tail nat_cmp e.0 (keys_of es) s))

-- what a map says of the order of its keys
pub rising_keys : (es : List (ℕ × Line)) → IsStrictlySortedBy nat_cmp (keys_of es) → RisingLines 0 es
rising_keys [] s = tt
rising_keys (e ∷ es) s = (omega arith, rising_keys_from e.0 es (sorted_head nat_cmp e.0 (keys_of es) s) (sorted_tail nat_cmp e.0 (keys_of es) s))

same_line : (a w x : ℕ) → a % 64 + w ≤ 64 → x / 64 ≡ a / 64 → in_range a w x ≡ in_range (a % 64) w (x % 64)
same_line a w x h e =
    let p : a ≡ 64 * (a / 64) + a % 64 = omega arith in
    let q : x ≡ 64 * (x / 64) + x % 64 = omega arith in
    shifted (64 * (a / 64)) (a % 64) w (x % 64) a x p (omega arith)
  where
    shifted : (c a w x b y : ℕ) → b ≡ c + a → y ≡ c + x → in_range b w y ≡ in_range a w x
    shifted c a w x b y e f = grind (arith, nat_tests)

other_line : (a w x : ℕ) → a % 64 + w ≤ 64 → (x / 64 ≡ a / 64 → ⊥) → in_range a w x ≡ false
other_line a w x h n = in_no a w x (⊎_elim (λ (lt : x < a). inl lt) (λ (ge : a ≤ x). ⊎_elim (λ (lt : x < a + w). absurd (n (omega arith))) (λ (past : a + w ≤ x). inr past) (cases_lt x (a + w))) (cases_lt x a))

-- lines of which one took a store
pub put_lines : (es fs : List (ℕ × Line)) (l : Line) (s : Store) → RisingLines 0 es → RisingLines 0 fs → s.address % 64 + width_bytes s.width ≤ 64 → ((q : ℕ) → line_of fs q ≡ cond (is_at (nat_cmp (s.address / 64)) q) (Some l) (line_of es q)) → ((j : ℕ) → j < 64 → line_at l j ≡ (if in_range (s.address % 64) (width_bytes s.width) j then Some (byte_of s.value (j - s.address % 64)) else index_of (line_of es (s.address / 64)) j)) → lines_bytes fs ≡ with_store (lines_bytes es) s
put_lines es fs l s r t within others here =
    let w = width_bytes s.width in
    let re : Rising 0 (lines_bytes es) = rising_lines 0 es r in
    same_bytes 0 0 (lines_bytes fs) (with_store (lines_bytes es) s) (rising_lines 0 fs t) (rising_with_store (lines_bytes es) s re)
    (λ x.
    lines_at 0 fs x t ∙ ap (λ o. index_of o (x % 64)) (others (x / 64))
    ∙ ⊎_elim
    (λ (same : x / 64 ≡ s.address / 64).
    let back : s.address / 64 ≡ x / 64 = sym same in
    let low : x % 64 < 64 = omega arith in
    ap (λ b. index_of (cond b (Some l) (line_of es (x / 64))) (x % 64)) (is_at_same (s.address / 64) (x / 64) back)
    ∙ here (x % 64) low
    ∙ ap (λ b. if b then Some (byte_of s.value (x % 64 - s.address % 64)) else index_of (line_of es (s.address / 64)) (x % 64)) (sym (same_line s.address w x within same))
    ∙ ap (λ k. if covers s x then Some (byte_of s.value (x % 64 - s.address % 64)) else index_of (line_of es k) (x % 64)) back
    ∙ ap (λ k. if covers s x then Some (byte_of s.value k) else index_of (line_of es (x / 64)) (x % 64)) (distance s.address x same)
    ∙ ap (λ o. if covers s x then Some (byte_put s x) else o) (sym (lines_at 0 es x r)))
    (λ (other : x / 64 ≡ s.address / 64 → ⊥).
    ap (λ b. index_of (cond b (Some l) (line_of es (x / 64))) (x % 64)) (is_at_other (s.address / 64) (x / 64) (λ e. other (sym e)))
    ∙ sym (lines_at 0 es x r)
    ∙ sym (ap (λ b. if b then Some (byte_put s x) else byte_at (lines_bytes es) x) (other_line s.address w x within other)))
    (cases_eq (x / 64) (s.address / 64))
    ∙ sym (byte_at-with_store (lines_bytes es) s x))
  where
    distance : (a x : ℕ) → x / 64 ≡ a / 64 → x % 64 - a % 64 ≡ x - a
    distance a x e = omega arith

-- a line is there where one of its bytes is
pub line_there : (es : List (ℕ × Line)) (q : ℕ) → RisingLines 0 es → is_some (byte_at (lines_bytes es) q) ≡ true → is_some (line_of es (q / 64)) ≡ true
line_there es q r h = there (line_of es (q / 64)) (q % 64) (sym (ap (λ o. is_some o) (lines_at 0 es q r)) ∙ h)
  where
    there : (o : Option Line) (j : ℕ) → is_some (index_of o j) ≡ true → is_some o ≡ true
    there None j h = h
    there (Some l) j h = refl

-- in a buffer where the line is there, a byte of it is found at its index
pub line_read : (es : List (ℕ × Line)) (l : Line) (x : ℕ) → RisingLines 0 es → Some l ≡ line_of es (x / 64) → byte_at (lines_bytes es) x ≡ line_at l (x % 64)
line_read es l x r e = lines_at 0 es x r ∙ ap (λ o. index_of o (x % 64)) (sym e)

pub line_missing : (es : List (ℕ × Line)) (x : ℕ) → RisingLines 0 es → None ≡ line_of es (x / 64) → byte_at (lines_bytes es) x ≡ None
line_missing es x r e = lines_at 0 es x r ∙ ap (λ o. index_of o (x % 64)) (sym e)
