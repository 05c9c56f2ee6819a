-- Lists of stores each of which touches no byte that is another hart's own.
use Rattle.std.proofs.Common.{◌≡◌, ℕ, zero, suc, ◌+◌, ◌/◌, ◌%◌, ◌<◌, ◌≤◌, ◌==◌, ◌&&◌, ◌||◌, not, nat_le, nat_lt, Bool, true, false, if◌then◌else◌, List, [], ◌∷◌, ◌++◌, length, get_or, Option, Some, None, Result, Err, is_ok, refl, sym, ap, ◌∙◌, inl, inr, arith}
use Rattle.std.proofs.lemmas.Bool.{and_parts, cases_eq, eq-eqb, eqb-true, le-leb, leb-true, lt-ltb, ltb-true}
use Rattle.pages.specs.declared.access.Fault.{Fault}
use Rattle.pages.specs.declared.access.Fault.TheVariants.{LoadMisaligned, StoreMisaligned}
use Rattle.pages.specs.declared.access.Width.{Width}
use Rattle.pages.specs.declared.access.Width.TheVariants.{W1, W2, W4, W8}
use Rattle.pages.specs.Memory.{Memory, in_range, loaded, store_fault, width_bytes}
use Rattle.memory_order.proofs.Facts.{or_cases}
use Rattle.all_endings.specs.HartRuns.{IsReadable, IsWritable}
use Rattle.all_endings.specs.StoreLists.{Stored, no_store}
use Rattle.all_endings.proofs.Sources.{both}
use Rattle.private_bytes.specs.Owners.{is_own}
use Rattle.private_bytes.proofs.OwnStores.{IsAlone}
use Rattle.private_bytes.proofs.SharedLists.{Concerns}

-- ---- bytes of one doubleword

abbrev pub IsInOne : ℕ → ℕ → Type 0
IsInOne address bytes = address % 8 + bytes ≤ 8

pub one_doubleword : (address bytes x : ℕ) → IsInOne address bytes → in_range address bytes x ≡ true → x / 8 ≡ address / 8
one_doubleword address bytes x one within =
    let p = and_parts (nat_le address x) (nat_lt x (address + bytes)) within in
    let a = leb-true address x p.0 in
    let b = ltb-true x (address + bytes) p.1 in
    omega (arith, one, a, b)

aligned_one : (address : ℕ) (w : Width) → address % width_bytes w ≡ 0 → IsInOne address (width_bytes w)
aligned_one address W1 e = omega (arith, e)
aligned_one address W2 e = omega (arith, e)
aligned_one address W4 e = omega (arith, e)
aligned_one address W8 e = omega (arith, e)

pub writable_one : (image : Memory) (address : ℕ) (w : Width) → IsWritable image address w → IsInOne address (width_bytes w)
unfolding store_fault
writable_one image address w safe = aligned_one address w (eqb-true (address % width_bytes w) 0 (by_test (address % width_bytes w == 0) _ safe))
  where
    by_test : (b : Bool) (o : Option Fault) → (if b then o else Some StoreMisaligned) ≡ None → b ≡ true
    by_test true o e = refl
    by_test false o e = absurd (cc)

pub readable_one : (image : Memory) (address : ℕ) (w : Width) → IsReadable image address w → IsInOne address (width_bytes w)
unfolding loaded
readable_one image address w safe = aligned_one address w (eqb-true (address % width_bytes w) 0 (by_test (address % width_bytes w == 0) _ safe))
  where
    by_test : (b : Bool) (o : Result ℕ Fault) → is_ok (if b then o else Err LoadMisaligned) ≡ true → b ≡ true
    by_test true o e = refl
    by_test false o e = absurd (cc)

-- ---- kept lists

-- a store to nobody's own bytes
abbrev pub is_shared : (ℕ → ℕ → Bool) → Stored → Bool
is_shared owns s = not (is_own owns s.hart s.address)

module _ (owns : ℕ → ℕ → Bool) (harts : ℕ) where
  abbrev belongs : Stored → ℕ → Bool
  belongs s zero = true
  belongs s (suc j) = (not (is_own owns j s.address) || j == s.hart) && belongs s j

  abbrev pub is_kept : Stored → Bool
  is_kept s = nat_lt s.hart harts && (nat_le (s.address % 8 + s.bytes) 8 && belongs s harts)

  abbrev pub are_kept : List Stored → Bool
  are_kept [] = true
  are_kept (s ∷ m) = is_kept s && are_kept m

  -- in words
  pub record Keeps (s : Stored) : Type 0 where
    pub hart : s.hart < harts
    pub one : IsInOne s.address s.bytes
    pub owner : (j : ℕ) → j < harts → is_own owns j s.address ≡ true → j ≡ s.hart

  belongs_at : (s : Stored) (n j : ℕ) → belongs s n ≡ true → j < n → is_own owns j s.address ≡ true → j ≡ s.hart
  belongs_at s zero j e l own = absurd (omega (arith, l))
  belongs_at s (suc n) j e l own =
      let p = and_parts (not (is_own owns n s.address) || n == s.hart) (belongs s n) e in
      elim (cases_eq j n) [
        | inl here ↦ elim (or_cases (not (is_own owns n s.address)) (n == s.hart) p.0) [
          | inl none ↦ absurd (let q = ap (λ (k : ℕ). is_own owns k s.address) here in cc)
          | inr same ↦ here ∙ eqb-true n s.hart same
        ]
        | inr other ↦ belongs_at s n j p.1 (omega (arith, l, other)) own
      ]

  all_belong : (s : Stored) (n : ℕ) → ((j : ℕ) → j < n → is_own owns j s.address ≡ true → j ≡ s.hart) → belongs s n ≡ true
  all_belong s zero each = refl
  all_belong s (suc n) each = both (not (is_own owns n s.address) || n == s.hart) (belongs s n) (by_test (is_own owns n s.address) refl) (all_belong s n (λ j l own. each j (omega (arith, l)) own))
    where
      by_test : (b : Bool) → is_own owns n s.address ≡ b → (not b || n == s.hart) ≡ true
      by_test true e = eq-eqb n s.hart (each n (omega arith) e)
      by_test false e = refl

  keeps_of : (s : Stored) → is_kept s ≡ true → Keeps s
  keeps_of s e =
      let p = and_parts (nat_lt s.hart harts) (nat_le (s.address % 8 + s.bytes) 8 && belongs s harts) e in
      let q = and_parts (nat_le (s.address % 8 + s.bytes) 8) (belongs s harts) p.1 in record {
        hart = ltb-true s.hart harts p.0;
        one = leb-true (s.address % 8 + s.bytes) 8 q.0;
        owner = λ j l own. belongs_at s harts j q.1 l own;
      }

  pub is_kept_by : (s : Stored) → Keeps s → is_kept s ≡ true
  is_kept_by s k = both (nat_lt s.hart harts) (nat_le (s.address % 8 + s.bytes) 8 && belongs s harts) (lt-ltb s.hart harts k.hart)
      (both (nat_le (s.address % 8 + s.bytes) 8) (belongs s harts) (le-leb (s.address % 8 + s.bytes) 8 k.one) (all_belong s harts k.owner))

  pub kept_at : (m : List Stored) (k : ℕ) → are_kept m ≡ true → k < length m → Keeps (get_or m k no_store)
  kept_at [] k e l = absurd (omega (arith, l))
  kept_at (s ∷ m) zero e l = keeps_of s (and_parts (is_kept s) (are_kept m) e).0
  kept_at (s ∷ m) (suc k) e l = kept_at m k (and_parts (is_kept s) (are_kept m) e).1 (omega (arith, l))

  pub kept_with : (m : List Stored) (s : Stored) → are_kept m ≡ true → is_kept s ≡ true → are_kept (m ++ s ∷ []) ≡ true
  kept_with [] s e k = both (is_kept s) true k refl
  kept_with (r ∷ m) s e k =
      let p = and_parts (is_kept r) (are_kept m) e in
      both (is_kept r) (are_kept (m ++ s ∷ [])) p.0 (kept_with m s p.1 k)

  -- an own byte: each store of the list to it is the hart's; a byte of nobody: each is in the shorter list
  pub alone : (m : List Stored) (h x : ℕ) → are_kept m ≡ true → h < harts → is_own owns h x ≡ true → IsAlone h m x
  alone m h x kept within own k l wet =
      let s = kept_at m k kept l in
      let e = one_doubleword _ _ x s.one wet in
      sym (s.owner h within (ap (owns h) (sym e) ∙ own))

  pub concerns : (m : List Stored) (x : ℕ) → are_kept m ≡ true → ((j : ℕ) → j < harts → is_own owns j x ≡ false) → Concerns (is_shared owns) m x
  concerns m x kept none k l wet =
      let s = kept_at m k kept l in
      let e = one_doubleword _ _ x s.one wet in
      ap not (ap (owns (get_or m k no_store).hart) (sym e) ∙ none (get_or m k no_store).hart s.hart)
