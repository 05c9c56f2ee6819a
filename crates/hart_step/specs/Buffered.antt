-- Guest memory seen through a store buffer.
use Rattle.std.proofs.Common.{◌≡◌, ℕ, ◌/◌, false, List, [], ◌∷◌, ◌++◌, IsSome, refl, sym, ap, ◌∙◌}
use Rattle.pages.specs.declared.access.Range.{Range}
use Rattle.pages.specs.declared.access.Store.{Store}
use Rattle.pages.specs.Memory.{Memory, is_code, stored}
use Rattle.store_buffer.specs.Covered.{byte_at, stores_of, with_stores}
use Rattle.store_buffer.proofs.CoveredLaws.{with_stores-append}

-- guest memory, and the bytes that are put over it, each with its address
pub record Overlay : Type 0 where
  pub base : Memory
  pub bytes : List (ℕ × ℕ)

-- what is seen
abbrev pub seen_through : Overlay → Memory
seen_through v = stored v.base (stores_of v.bytes)

-- no byte lies over code
abbrev pub Clear : List Range → List (ℕ × ℕ) → Type 0
Clear code [] = Unit {0}
Clear code (e ∷ es) = (is_code code e.0 ≡ false) × Clear code es

-- a byte of the store's line of 64 is there
abbrev pub HasLine : Overlay → Store → Type 0
HasLine v s = (x : ℕ) × (x / 64 ≡ s.address / 64) × IsSome (byte_at v.bytes x)

-- the stores put over the bytes that are there, on the same memory
pub record Puts (v : Overlay) (ss : List Store) (w : Overlay) : Type 0 where
  pub base : w.base ≡ v.base
  pub bytes : w.bytes ≡ with_stores v.bytes ss

pub puts_none : (v : Overlay) → Puts v [] v
puts_none v = record { base = refl; bytes = refl }

pub puts_more : (u v w : Overlay) (ss ts : List Store) → Puts u ss v → Puts v ts w → Puts u (ss ++ ts) w
puts_more u v w ss ts p q = record {
  base = q.base ∙ p.base;
  bytes = q.bytes ∙ ap (λ (es : List (ℕ × ℕ)). with_stores es ts) p.bytes ∙ sym (with_stores-append u.bytes ss ts);
}
