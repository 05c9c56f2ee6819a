-- What the bits of a word under a mask say of the rows that it meets.
use Rattle.std.proofs.Common.{ℕ, ◌≡◌, ◌==◌, ◌&&◌, ◌||◌, ◌^◌, ◌-◌, ◌<◌, ◌≤◌, ◌%◌, Bool, true, false, if◌then◌else◌, List, [], ◌∷◌, Option, Some, None, inl, inr, not, refl, sym, ap, arith}
use Rattle.std.proofs.lemmas.Bool.{eq-eqb}
use Rattle.std.proofs.lemmas.Bool.Decides.{eqb_tells, nat_tests}
use Rattle.std.proofs.lemmas.Nat.{and_assoc, and_comm, and_mask}
use Rattle.std.specs.Int.Bits.{bit_and}
use Rattle.rv64_decode.specs.Table.{Row, rows, rows_met, first_of, instr_of, NoWordMeetsTwoRows}
use Rattle.rv64_decode.specs.declared.instruction.Instr.{Instr}

-- the bits of w under m are k: under a mask within m they are those of k
known : (m k w a v : ℕ) → bit_and w m ≡ k → (bit_and m a == a) ≡ true → (bit_and w a == v) ≡ (bit_and k a == v)
known m k w a v e s = let q : bit_and m a ≡ a = grind (arith, nat_tests) in cc (and_assoc a w m)

-- and a value that differs from k where both masks have a bit is not met
unmet : (m k w a v : ℕ) → bit_and w m ≡ k → (bit_and k a == bit_and v m) ≡ false → (bit_and w a == v) ≡ false
unmet m k w a v e s = elim (eqb_tells (bit_and w a) v) [
  | inl p ↦ let f : bit_and w a ≡ v = p.1 in
      let q : bit_and k a ≡ bit_and v m = cc (and_assoc m w a, and_assoc a w m, and_comm a m) in
      let t : (bit_and k a == bit_and v m) ≡ true = eq-eqb _ _ q in
      cc
  | inr p ↦ p.0
]

-- of a row: whether its mask lies within m, whether k meets it, whether some word with k under m may meet it, whether w does
abbrev chosen : Bool → Bool → Bool → Bool → Option Instr → Option Instr → Option Instr
chosen true by_k may by_w x y = if by_k then x else y
chosen false by_k true by_w x y = if by_w then x else y
chosen false by_k false by_w x y = y

chosen_is : (inside by_k may by_w : Bool) (x y z : Option Instr) → (inside ≡ true → by_w ≡ by_k) → (may ≡ false → by_w ≡ false) → z ≡ y → (if by_w then x else z) ≡ chosen inside by_k may by_w x y
chosen_is true by_k may by_w x y z f g e = let p : by_w ≡ by_k = f refl in cc
chosen_is false by_k true by_w x y z f g e = cc
chosen_is false by_k false by_w x y z f g e = let p : by_w ≡ false = g refl in rw p e

-- the first row that w meets, looked for with what k tells of it
abbrev pub narrowed : ℕ → ℕ → List Row → ℕ → Option Instr
narrowed m k [] w = None
narrowed m k (r ∷ rs) w = chosen (bit_and m r.mask == r.mask) (bit_and k r.mask == r.value) (bit_and k r.mask == bit_and r.value m) (bit_and w r.mask == r.value) (Some (r.make w)) (narrowed m k rs w)

narrowed_is : (m k w : ℕ) (rs : List Row) → bit_and w m ≡ k → first_of rs w ≡ narrowed m k rs w
narrowed_is m k w [] e = refl
narrowed_is m k w (r ∷ rs) e = chosen_is _ _ _ _ _ _ _ (known m k w r.mask r.value e) (unmet m k w r.mask r.value e) (narrowed_is m k w rs e)

pub instr_from : (m k w : ℕ) → bit_and w m ≡ k → instr_of w ≡ narrowed m k rows w
unfolding instr_of
instr_from m k w e = narrowed_is m k w rows e

-- whether w may meet a row, by its bits under n, among the rows that a word with bits k under m may meet
abbrev may_meet : Bool → Bool → Bool → Bool
may_meet true true by_n = by_n
may_meet true false by_n = true
may_meet false inside by_n = false

abbrev pub meets : ℕ → ℕ → ℕ → List Row → ℕ → Bool
meets m k n [] w = false
meets m k n (r ∷ rs) w = may_meet (bit_and k r.mask == bit_and r.value m) (bit_and r.mask n == n) (bit_and w n == bit_and r.value n) || meets m k n rs w

skipped : (n w a v : ℕ) → (bit_and a n == n) ≡ true → (bit_and w n == bit_and v n) ≡ false → (bit_and w a == v) ≡ false
skipped n w a v i s = elim (eqb_tells (bit_and w a) v) [
  | inl p ↦ let f : bit_and w a ≡ v = p.1 in
      let j : bit_and a n ≡ n = grind (arith, nat_tests) in
      let q : bit_and w n ≡ bit_and v n = cc (and_assoc n w a) in
      let t : (bit_and w n == bit_and v n) ≡ true = eq-eqb _ _ q in
      cc
  | inr p ↦ p.0
]

may_meet_is : (may inside by_n by_w : Bool) → (may ≡ false → by_w ≡ false) → (inside ≡ true → by_n ≡ false → by_w ≡ false) → may_meet may inside by_n ≡ false → by_w ≡ false
may_meet_is true true by_n by_w f g e = g refl e
may_meet_is true false by_n by_w f g e = cc
may_meet_is false inside by_n by_w f g e = f refl

or_false : (a b : Bool) → (a || b) ≡ false → (a ≡ false) × (b ≡ false)
or_false true b e = (e, cc)
or_false false b e = (refl, e)

passed : (b : Bool) (x y : Option Instr) → b ≡ false → y ≡ None → (if b then x else y) ≡ None
passed b x y e f = rw e f

none_among : (m k n w : ℕ) (rs : List Row) → bit_and w m ≡ k → meets m k n rs w ≡ false → first_of rs w ≡ None
none_among m k n w [] e f = refl
none_among m k n w (r ∷ rs) e f =
    let g = or_false _ _ f in
    passed _ _ _ (may_meet_is _ _ _ _ (unmet m k w r.mask r.value e) (skipped n w r.mask r.value) g.0) (none_among m k n w rs e g.1)

pub none_from : (m k n w : ℕ) → bit_and w m ≡ k → meets m k n rows w ≡ false → None ≡ instr_of w
unfolding instr_of
none_from m k n w e f = sym (none_among m k n w rows e f)

-- whether a list has a number
abbrev pub has : ℕ → List ℕ → Bool
has x [] = false
has x (y ∷ ys) = (x == y) || has x ys

-- whether each row's value under n is listed
abbrev pub listed : ℕ → List ℕ → List Row → Bool
listed n ys [] = true
listed n ys (r ∷ rs) = (bit_and r.mask n == n) && has (bit_and r.value n) ys && listed n ys rs

and_true : (a b c : Bool) → (a && b && c) ≡ true → (a ≡ true) × (b ≡ true) × (c ≡ true)
and_true true true c e = (refl, refl, e)
and_true true false c e = (refl, e, cc)
and_true false b c e = (e, cc, cc)

has_not : (x y : ℕ) (ys : List ℕ) → has y ys ≡ true → has x ys ≡ false → (x == y) ≡ false
has_not x y ys h f = elim (eqb_tells x y) [
  | inl p ↦ let q : x ≡ y = p.1 in let t : has x ys ≡ has y ys = ap (λ z. has z ys) q in cc
  | inr p ↦ p.0
]

unlisted : (n : ℕ) (ys : List ℕ) (w : ℕ) (rs : List Row) → listed n ys rs ≡ true → has (bit_and w n) ys ≡ false → first_of rs w ≡ None
unlisted n ys w [] e f = refl
unlisted n ys w (r ∷ rs) e f =
    let g = and_true _ _ _ e in
    passed _ _ _ (skipped n w r.mask r.value g.0 (has_not _ _ ys g.1 f)) (unlisted n ys w rs g.2 f)

pub none_unlisted : (n : ℕ) (ys : List ℕ) (w : ℕ) → listed n ys rows ≡ true → has (bit_and w n) ys ≡ false → None ≡ instr_of w
unfolding instr_of
none_unlisted n ys w e f = sym (unlisted n ys w rows e f)

-- the opcodes of the table, the low seven bits of a word
abbrev pub opcodes : List ℕ
opcodes = 0x03 ∷ 0x0f ∷ 0x13 ∷ 0x17 ∷ 0x1b ∷ 0x23 ∷ 0x2f ∷ 0x33 ∷ 0x37 ∷ 0x3b ∷ 0x63 ∷ 0x67 ∷ 0x6f ∷ 0x73 ∷ []

-- a word has 32 bits
pub whole : (w : ℕ) → w < 2 ^ 32 → bit_and w 0xffffffff ≡ w
whole w h = let e : bit_and w (2 ^ 32 - 1) ≡ w % 2 ^ 32 = and_mask w 32 in let f : w % 2 ^ 32 ≡ w = omega arith in cc

-- whether no word meets a row and one of a list: somewhere under both masks the values differ
abbrev apart : Row → List Row → Bool
apart r [] = true
apart r (s ∷ ss) = not (bit_and r.value s.mask == bit_and s.value r.mask) && apart r ss

abbrev all_apart : List Row → Bool
all_apart [] = true
all_apart (r ∷ rs) = apart r rs && all_apart rs

both : (a b : Bool) → (a && b) ≡ true → (a ≡ true) × (b ≡ true)
both true b e = (refl, e)
both false b e = (e, cc)

not_true : (a : Bool) → not a ≡ true → a ≡ false
not_true true e = cc
not_true false e = refl

alone : (r : Row) (ss : List Row) (w : ℕ) → bit_and w r.mask ≡ r.value → apart r ss ≡ true → rows_met ss w ≡ 0
alone r [] w e h = refl
alone r (s ∷ ss) w e h =
    let g = both _ _ h in
    let f : (bit_and w s.mask == s.value) ≡ false = unmet r.mask r.value w s.mask s.value e (not_true _ g.0) in
    let k : rows_met ss w ≡ 0 = alone r ss w e g.1 in
    rw f (omega arith)

at_most_one : (rs : List Row) (w : ℕ) → all_apart rs ≡ true → rows_met rs w ≤ 1
at_most_one [] w h = omega arith
at_most_one (r ∷ rs) w h =
    let g = both _ _ h in
    elim (eqb_tells (bit_and w r.mask) r.value) [
      | inl p ↦ let k : rows_met rs w ≡ 0 = alone r rs w p.1 g.0 in rw p.0 (omega arith)
      | inr p ↦ let k : rows_met rs w ≤ 1 = at_most_one rs w g.1 in rw p.0 (omega arith)
    ]

pub met_once : NoWordMeetsTwoRows
met_once w = at_most_one rows w refl
