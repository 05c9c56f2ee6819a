-- Bytes of memory behind one store more.
use Rattle.std.proofs.Common.{◌≡◌, ℕ, suc, ◌+◌, Bool, true, false, if◌then◌else◌, List, get_or, length, ◌<◌, refl, sym, ap, ◌∙◌, subst, arith}
use Rattle.std.proofs.lemmas.List.{get_or-map}
use Rattle.all_endings.specs.StoreLists.{Stored, byte_at, byte_in, has_byte, last_place, no_store}
use Rattle.hart_states.specs.declared.listed_store.ListedStore.{ListedStore}
use Rattle.hart_states.specs.States.{listed, stored_of}

behind_one : (m : List Stored) (opening : ℕ → ℕ) (x k b : ℕ) (c : Bool) → c ≡ has_byte (get_or m k no_store) x → b ≡ byte_at m opening x (last_place m x k) →
    (if c then byte_in (get_or m k no_store) x else b) ≡ byte_at m opening x (last_place m x (suc k))
behind_one m opening x k b true e before = ap (λ (d : Bool). byte_at m opening x (if d then suc k else last_place m x k)) e
behind_one m opening x k b false e before = before ∙ ap (λ (d : Bool). byte_at m opening x (if d then suc k else last_place m x k)) e

pub byte_more : (m : List Stored) (opening : ℕ → ℕ) (x k n b : ℕ) (s : Stored) → get_or m k no_store ≡ s → n ≡ k + 1 → b ≡ byte_at m opening x (last_place m x k) →
    (if has_byte s x then byte_in s x else b) ≡ byte_at m opening x (last_place m x n)
byte_more m opening x k n b s at e before =
    subst (λ (t : Stored). (if has_byte t x then byte_in t x else b) ≡ byte_at m opening x (last_place m x n)) at
    (subst (λ (j : ℕ). (if has_byte (get_or m k no_store) x then byte_in (get_or m k no_store) x else b) ≡ byte_at m opening x (last_place m x j))
    (let s : suc k ≡ n = omega (arith, e) in s) (behind_one m opening x k b (has_byte (get_or m k no_store) x) refl before))

-- the same of a list as it is kept
pub byte_listed : (l : List ListedStore) (opening : ℕ → ℕ) (x k n b : ℕ) (s d : ListedStore) → k < length l → s ≡ get_or l k d → n ≡ k + 1 →
    b ≡ byte_at (listed l) opening x (last_place (listed l) x k) →
    (if has_byte (stored_of s) x then byte_in (stored_of s) x else b) ≡ byte_at (listed l) opening x (last_place (listed l) x n)
byte_listed l opening x k n b s d within at e before =
    byte_more (listed l) opening x k n b (stored_of s) (get_or-map stored_of l k d no_store within ∙ ap stored_of (sym at)) e before
