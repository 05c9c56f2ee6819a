-- What stands in lists, and what a load reads of a byte.
use Rattle.std.proofs.Common.{◌≡◌, ◌≢◌, ℕ, suc, ◌+◌, ◌^◌, ◌<◌, ◌≤◌, None, set, slice_index, below_more, false, if◌then◌else◌, List, length, get_or, slice_index_or, Option, Some, option_map, refl, sym, ap, ◌∙◌, subst, arith}
use Rattle.std.proofs.lemmas.List.{get_or-map, get_or-set_other, get_or-set_same, get_or_past, length-map}
use Rattle.pages.specs.declared.access.Width.{Width}
use Rattle.pages.specs.declared.access.Width.TheVariants.{W1, W2, W4, W8}
use Rattle.pages.specs.Memory.{byte_of, width_bytes}
use Rattle.hart_step.specs.Step.{width_bits}
use Rattle.all_endings.specs.HartRuns.{Gets, IsPast, IsRead, forwarded, gets, gets-later, remembered}
use Rattle.all_endings.specs.RunStates.{Move, OwnByte, RunState}
use Rattle.all_endings.specs.StoreLists.{Stored, byte_at, has_byte, last_place, later, no_store}
use Rattle.hart_states.specs.declared.listed_store.ListedStore.{ListedStore}
use Rattle.run_bounds.specs.declared.touched.OwnByte.{OwnByte as KeptByte}
use Rattle.hart_states.specs.States.{listed, own_of, stored_of}

pub store_listed : (l : List ListedStore) (k : ℕ) (s : ListedStore) → k < length l → s ≡ get_or l k s → slice_index_or (listed l) k no_store ≡ stored_of s
store_listed l k s w e = get_or-map stored_of l k s no_store w ∙ ap stored_of (sym e)

pub store_past : (l : List ListedStore) (k : ℕ) → length l ≤ k → slice_index_or (listed l) k no_store ≡ no_store
store_past l k w = get_or_past (listed l) k no_store (omega (arith, length-map l stored_of, w))

-- one store more
pub last_more : (m : List Stored) (x n k : ℕ) → n ≡ k + 1 → last_place m x n ≡ (if has_byte (slice_index_or m k no_store) x then n else last_place m x k)
last_more m x n k e = subst (λ (j : ℕ). last_place m x j ≡ (if has_byte (slice_index_or m k no_store) x then j else last_place m x k)) (sym s) refl
  where
    s : n ≡ suc k
    s = omega (arith, e)

some_own : (o p : OwnByte) (q : Option OwnByte) → q ≡ Some o → q ≡ Some p → o ≡ p
some_own o p q e d = cc

past_of : (o : OwnByte) (q : Option OwnByte) (time : ℕ) → q ≡ Some o → IsPast q time → o.place ≤ time
past_of o q time e past = subst (λ (y : Option OwnByte). IsPast y time) e past

-- what is asked of the own last store behind the load
pub record IsAhead (a : RunState) (time x p b : ℕ) (o : OwnByte) : Type 0 where
  pub place : o.place ≡ p
  pub atomic : o.atomic ≡ false
  pub needs : o.needs ≤ time
  pub seen : a.seen x ≤ o.place
  pub byte : o.byte ≡ Some b

pub read_ahead : (m : List Stored) (opening : ℕ → ℕ) (a : RunState) (time x p b : ℕ) (o : OwnByte) → a.own x ≡ Some o → time < o.place → IsRead m opening a time x p b → IsAhead a time x p b o
read_ahead m opening a time x _ b o own late (forwarded u _ own2 late2 plain needs seen known) =
    subst (λ (y : OwnByte). IsAhead a time x u.place b y) (some_own u o (a.own x) own2 own)
    (record { place = refl; atomic = plain; needs = needs; seen = seen; byte = known })
read_ahead m opening a time x _ _ o own late (remembered past seen) = absurd (let l = past_of o (a.own x) time own past in omega (arith, l, late))

-- and of the stores before it
pub record IsBehind (m : List Stored) (opening : ℕ → ℕ) (a : RunState) (time x p b : ℕ) : Type 0 where
  pub place : last_place m x time ≡ p
  pub seen : a.seen x ≤ last_place m x time
  pub byte : byte_at m opening x (last_place m x time) ≡ b

pub read_behind : (m : List Stored) (opening : ℕ → ℕ) (a : RunState) (time x p b : ℕ) → ((o : OwnByte) → a.own x ≡ Some o → o.place ≤ time) → IsRead m opening a time x p b →
    IsBehind m opening a time x p b
read_behind m opening a time x _ b none (forwarded u _ own late plain needs seen known) = absurd (let l = none u own in omega (arith, l, late))
read_behind m opening a time x _ _ none (remembered past seen) = record { place = refl; seen = seen; byte = refl }

-- what a number that is read is made of
pub record IsGiven (m : List Stored) (opening : ℕ → ℕ) (a : RunState) (v : Move) (address : ℕ) (w : Width) (n : ℕ) : Type 0 where
  pub early : v.time < later m
  pub fits : n < 2 ^ width_bits w
  pub bytes : (k : ℕ) → k < width_bytes w → IsRead m opening a v.time (address + k) (v.source (address + k)) (byte_of n k)

pub gets_given : (m : List Stored) (opening : ℕ → ℕ) (a : RunState) (v : Move) (address : ℕ) (w : Width) (n : ℕ) (o : Option ℕ) → o ≡ Some n → Gets m opening a v address w o →
    IsGiven m opening a v address w n
gets_given m opening a v address w n _ e (gets k early fits bytes) =
    let s : k ≡ n = cc in subst (λ (y : ℕ). IsGiven m opening a v address w y) s (record { early = early; fits = fits; bytes = bytes })
gets_given m opening a v address w n _ e (gets-later late none) = absurd (cc)

-- one byte more of a number
pub set_more : (bytes sources : List ℕ) (i b s : ℕ) (f g : ℕ → ℕ) → length bytes ≡ 8 → length sources ≡ 8 → i < 8 →
    ((k : ℕ) → k < i → (slice_index bytes k ≡ f k) × (slice_index sources k ≡ g k)) → b ≡ f i → s ≡ g i →
    (k : ℕ) → k < i + 1 → (slice_index (set bytes i b) k ≡ f k) × (slice_index (set sources i s) k ≡ g k)
set_more bytes sources i b s f g p q few old here there = below_more _ _
    (λ k l. let d : k ≢ i = omega (arith, l) in (get_or-set_other bytes i k b 0 d ∙ (old k l).0, get_or-set_other sources i k s 0 d ∙ (old k l).1))
    (get_or-set_same bytes i b 0 (omega (arith, p, few)) ∙ here, get_or-set_same sources i s 0 (omega (arith, q, few)) ∙ there)

pub few_bytes : (w : Width) → width_bytes w ≤ 8
few_bytes W1 = omega arith
few_bytes W2 = omega arith
few_bytes W4 = omega arith
few_bytes W8 = omega arith

pub own_kept : (k : Option KeptByte) (o : OwnByte) → option_map own_of k ≡ Some o → (u : KeptByte) × (k ≡ Some u) × (u.place ≡ o.place)
own_kept None o e = absurd (cc)
own_kept (Some u) o e = (u, refl, let s : own_of u ≡ o = cc in ap (λ (y : OwnByte). y.place) s)
