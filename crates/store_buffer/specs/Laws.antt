-- The laws of a buffer's bytes that functions of this crate carry.
use Rattle.std.specs.Prelude.{◌≡◌, ℕ, List, []}
use Rattle.pages.specs.declared.access.Store.{Store}
use Rattle.pages.specs.Memory.{after, covered, last_byte}
use Rattle.store_buffer.specs.Covered.{stores_of, with_stores}

-- the bytes of a buffer that took some stores leave what those stores leave, and cover what they cover
pub record KeepsHistory (ss : List Store) : Type 0 where
  pub after_it : (bs : List ℕ) → after bs (stores_of (with_stores [] ss)) ≡ after bs ss
  pub last : (b x : ℕ) → last_byte b (stores_of (with_stores [] ss)) x ≡ last_byte b ss x
  pub covers_same : (x : ℕ) → covered (stores_of (with_stores [] ss)) x ≡ covered ss x

abbrev pub BytesKeepHistory : Type 0
BytesKeepHistory = (ss : List Store) → KeepsHistory ss
