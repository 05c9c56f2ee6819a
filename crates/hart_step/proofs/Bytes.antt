-- Numbers in memory by their bytes, and what an access says of them.
use Rattle.std.proofs.Common.{subst, ◌≡◌, ℕ, zero, suc, ◌+◌, ◌-◌, ◌*◌, ◌/◌, ◌%◌, ◌^◌, ◌<◌, ◌≤◌, ◌==◌, ◌||◌, Bool, true, false, if◌then◌else◌, nat_le, List, [], ◌∷◌, length, get_or, slice_index, Some, None, Ok, Err, refl, sym, ap, ◌∙◌, inl, inr, arith}
use Rattle.std.proofs.Math.ListN.{get_or-eq_default}
use Rattle.std.proofs.Math.Nat.{div-div-eq-div-mul, div-one}
use Rattle.std.proofs.Math.Pow.{mod-mod-pow}
use Rattle.std.proofs.lemmas.Bool.Decides.{leb_tells, nat_tests}
use Rattle.std.proofs.lemmas.Nat.{field_of, pow-add}
use Rattle.pages.specs.declared.access.Fault.{Fault}
use Rattle.pages.specs.declared.access.Width.{Width}
use Rattle.pages.specs.declared.access.Width.TheVariants.{W1, W2, W4, W8}
use Rattle.pages.specs.Memory.{IsBytes, Memory, byte_of, in_range, number_at, value_at, width_bytes, loaded}
use Rattle.round_schedule.specs.declared.access.Access.TheVariants.{Load, Store as StoreAccess, LoadReserved, StoreConditional, Atomic, Fence}
use Rattle.rv64_decode.specs.declared.ordering.AcquireRelease.{AcquireRelease}
use Rattle.rv64_decode.specs.declared.ordering.FenceMode.{FenceMode}
use Rattle.rv64_decode.specs.declared.ordering.FenceSet.{FenceSet}
use Rattle.round_schedule.specs.Sound.{Matches}
use Rattle.hart_step.specs.Step.{cut}

range_within : (a n k : ℕ) → in_range a n k ≡ true → (a ≤ k) × (k < a + n)
range_within a n k e = grind (arith, nat_tests)

byte_first : (v : ℕ) → byte_of v 0 ≡ v % 2 ^ 8
byte_first v = ap (λ (m : ℕ). m % 2 ^ 8) (div-one v)

byte_next : (v k : ℕ) → byte_of (v / 2 ^ 8) k ≡ byte_of v (k + 1)
byte_next v k =
    let moved : 8 + 8 * k ≡ 8 * (k + 1) = omega arith in
    ap (λ (m : ℕ). m % 2 ^ 8) (div-div-eq-div-mul v (2 ^ 8) (2 ^ (8 * k)) ∙ ap (λ (m : ℕ). v / m) (sym (pow-add 2 8 (8 * k))) ∙ ap (λ (m : ℕ). v / 2 ^ m) moved)

small_byte : (bs : List ℕ) (k : ℕ) → IsBytes bs → get_or bs k 0 < 2 ^ 8
small_byte bs k small = elim (leb_tells (k + 1) (length bs)) [
  | inl p ↦ small k 0 (omega (arith, p.1))
  | inr p ↦ let h : length bs ≤ k = omega (arith, p.1) in omega (arith, get_or-eq_default bs 0 h)
]

number_byte : (bs : List ℕ) (a n j : ℕ) → IsBytes bs → j < n → byte_of (number_at bs a n) j ≡ get_or bs (a + j) 0
number_byte bs a zero j small h = absurd (omega arith)
number_byte bs a (suc n) zero small h =
    let b : get_or bs a 0 < 2 ^ 8 = small_byte bs a small in
    let m : ℕ = number_at bs (a + 1) n in
    let low : (get_or bs a 0 + 2 ^ 8 * m) % 2 ^ 8 ≡ get_or bs a 0 = omega arith in
    let here : a ≡ a + 0 = omega arith in
    byte_first (get_or bs a 0 + 2 ^ 8 * m) ∙ low ∙ ap (λ (i : ℕ). get_or bs i 0) here
number_byte bs a (suc n) (suc j) small h =
    let b : get_or bs a 0 < 2 ^ 8 = small_byte bs a small in
    let m : ℕ = number_at bs (a + 1) n in
    let high : (get_or bs a 0 + 2 ^ 8 * m) / 2 ^ 8 ≡ m = omega arith in
    let next : j + 1 ≡ suc j = omega arith in
    let there : a + 1 + j ≡ a + suc j = omega arith in
    ap (byte_of (get_or bs a 0 + 2 ^ 8 * m)) (sym next) ∙ sym (byte_next (get_or bs a 0 + 2 ^ 8 * m) j) ∙ ap (λ (v : ℕ). byte_of v j) high
    ∙ number_byte bs (a + 1) n j small (omega arith) ∙ ap (λ (i : ℕ). get_or bs i 0) there

cut_byte : (n v k : ℕ) → k < n → byte_of (v % 2 ^ (8 * n)) k ≡ byte_of v k
cut_byte n v k h =
    let j : ℕ = 8 * (n - k - 1) in
    let parts : 8 * n ≡ (j + 8) + 8 * k = omega arith in
    ap (λ (e : ℕ). v % 2 ^ e / 2 ^ (8 * k) % 2 ^ 8) parts ∙ ap (λ (x : ℕ). x % 2 ^ 8) (field_of v (j + 8) (8 * k)) ∙ mod-mod-pow (v / 2 ^ (8 * k)) j 8

number_fits : (bs : List ℕ) (a n : ℕ) → IsBytes bs → number_at bs a n < 2 ^ (8 * n)
number_fits bs a zero small = omega arith
number_fits bs a (suc n) small =
    let b : get_or bs a 0 < 2 ^ 8 = small_byte bs a small in
    let rest : number_at bs (a + 1) n < 2 ^ (8 * n) = number_fits bs (a + 1) n small in
    let next : 8 + 8 * n ≡ 8 * suc n = omega arith in
    let power : 2 ^ (8 * suc n) ≡ 2 ^ 8 * 2 ^ (8 * n) = ap (λ (k : ℕ). 2 ^ k) (sym next) ∙ pow-add 2 8 (8 * n) in
    omega (arith, power)

value_is : (bs : List ℕ) (a : ℕ) (w : Width) → value_at bs a w ≡ number_at bs a (width_bytes w)
value_is bs a W1 = refl
value_is bs a W2 = refl
value_is bs a W4 = refl
value_is bs a W8 = refl

pub value_fits : (bs : List ℕ) (a : ℕ) (w : Width) → IsBytes bs → value_at bs a w < 2 ^ (8 * width_bytes w)
value_fits bs a w small = subst (λ (v : ℕ). v < 2 ^ (8 * width_bytes w)) (sym (value_is bs a w)) (number_fits bs a (width_bytes w) small)

both_pass : (p q : Bool) (x v : ℕ) (f g : Fault) → (if p then (if q then Ok x else Err f) else Err g) ≡ Ok v → (p ≡ true) × (q ≡ true) × (x ≡ v)
both_pass true true x v f g e = (refl, refl, cc)
both_pass true false x v f g e = absurd (cc e)
both_pass false q x v f g e = absurd (cc e)

loaded_parts : (m : Memory) (a : ℕ) (w : Width) (v : ℕ) → loaded m a w ≡ Ok v → ((a % width_bytes w == 0) ≡ true) × (nat_le (a + width_bytes w) (length m.bytes) ≡ true) × (value_at m.bytes a w ≡ v)
unfolding loaded
loaded_parts m a w v e = both_pass (a % width_bytes w == 0) (nat_le (a + width_bytes w) (length m.bytes)) (value_at m.bytes a w) v _ _ e

pub loaded_within : (m : Memory) (a : ℕ) (w : Width) (v : ℕ) → loaded m a w ≡ Ok v → (a + width_bytes w ≤ length m.bytes) × (value_at m.bytes a w ≡ v)
loaded_within m a w v e =
    let p = loaded_parts m a w v e in
    let t : nat_le (a + width_bytes w) (length m.bytes) ≡ true = p.1 in
    (grind (arith, nat_tests), p.2)

pub loaded_aligned : (m : Memory) (a : ℕ) (w : Width) (v : ℕ) → loaded m a w ≡ Ok v → a % width_bytes w ≡ 0
loaded_aligned m a w v e = let p = loaded_parts m a w v e in let t : (a % width_bytes w == 0) ≡ true = p.0 in grind (arith, nat_tests)

within : (bs : List ℕ) (a n x : ℕ) → a + n ≤ length bs → in_range a n x ≡ true → x < length bs
within bs a n x h r = let q = range_within a n x r in omega (arith, q.1)

read_byte : (bs : List ℕ) (a x : ℕ) (w : Width) (v : ℕ) → IsBytes bs → value_at bs a w ≡ v → in_range a (width_bytes w) x ≡ true → byte_of v (x - a) ≡ slice_index bs x
read_byte bs a x w v small e r =
    let q = range_within a (width_bytes w) x r in
    let there : a + (x - a) ≡ x = omega (arith, q.0) in
    ap (λ (y : ℕ). byte_of y (x - a)) (sym e ∙ value_is bs a w) ∙ number_byte bs a (width_bytes w) (x - a) small (omega (arith, q.0, q.1)) ∙ ap (λ (i : ℕ). get_or bs i 0) there

put_byte : (a v x b : ℕ) (w : Width) (t : Bool) → in_range a (width_bytes w) x ≡ t → (if t then byte_of v (x - a) else b) ≡ (if t then byte_of (cut w v) (x - a) else b)
put_byte a v x b w true r = let q = range_within a (width_bytes w) x r in sym (cut_byte (width_bytes w) v (x - a) (omega (arith, q.0, q.1)))
put_byte a v x b w false r = refl

only : (b : Bool) → (b || false) ≡ b
only true = refl
only false = refl

module _ (bs : List ℕ) (w : Width) (p a : ℕ) where
  pub match_load : (v : ℕ) → IsBytes bs → a + width_bytes w ≤ length bs → value_at bs a w ≡ v → Matches bs (Load w p a v) []
  match_load v small h e = record { read_within = λ x r. within bs a (width_bytes w) x h r; read_bytes = λ x r. read_byte bs a x w v small e r; put_bytes = λ x b. refl; put_where = λ x. refl }

  pub match_reserved : (ordering : AcquireRelease) (v : ℕ) → IsBytes bs → a + width_bytes w ≤ length bs → value_at bs a w ≡ v → Matches bs (LoadReserved w ordering p a v) []
  match_reserved ordering v small h e = record { read_within = λ x r. within bs a (width_bytes w) x h r; read_bytes = λ x r. read_byte bs a x w v small e r; put_bytes = λ x b. refl; put_where = λ x. refl }

  pub match_store : (v : ℕ) → Matches bs (StoreAccess w p a (cut w v)) (record { address = a; width = w; value = v } ∷ [])
  match_store v = record { read_within = λ x r. absurd (cc r); read_bytes = λ x r. absurd (cc r); put_bytes = λ x b. put_byte a v x b w (in_range a (width_bytes w) x) refl; put_where = λ x. only (in_range a (width_bytes w) x) }

  pub match_success : (ordering : AcquireRelease) (v : ℕ) → Matches bs (StoreConditional w ordering p a (Some (cut w v))) (record { address = a; width = w; value = v } ∷ [])
  match_success ordering v = record { read_within = λ x r. absurd (cc r); read_bytes = λ x r. absurd (cc r); put_bytes = λ x b. put_byte a v x b w (in_range a (width_bytes w) x) refl; put_where = λ x. only (in_range a (width_bytes w) x) }

  pub match_failure : (ordering : AcquireRelease) → Matches bs (StoreConditional w ordering p a None) []
  match_failure ordering = record { read_within = λ x r. absurd (cc r); read_bytes = λ x r. absurd (cc r); put_bytes = λ x b. refl; put_where = λ x. refl }

  pub match_atomic : (ordering : AcquireRelease) (old new : ℕ) → IsBytes bs → a + width_bytes w ≤ length bs → value_at bs a w ≡ old → Matches bs (Atomic w ordering p a old new) (record { address = a; width = w; value = new } ∷ [])
  match_atomic ordering old new small h e = record { read_within = λ x r. within bs a (width_bytes w) x h r; read_bytes = λ x r. read_byte bs a x w old small e r; put_bytes = λ x b. refl; put_where = λ x. only (in_range a (width_bytes w) x) }

pub match_fence : (bs : List ℕ) (before after : FenceSet) (mode : FenceMode) (p : ℕ) → Matches bs (Fence before after mode p) []
match_fence bs before after mode p = record { read_within = λ x r. absurd (cc r); read_bytes = λ x r. absurd (cc r); put_bytes = λ x b. refl; put_where = λ x. refl }
