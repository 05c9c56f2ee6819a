-- Shards of guest memory, each some pages in a row.
use Rattle.std.specs.Prelude.{◌≡◌, ℕ, ◌+◌, ◌-◌, ◌*◌, ◌/◌, ◌<◌, ◌≤◌, true, List, length, map, slice_index, slice_index_or, All}
use Rattle.pages.specs.declared.access.Store.{Store}
use Rattle.pages.specs.Flat.{Page, absent, full, is_ready}
use Rattle.pages.specs.Memory.{last_byte}

-- page k of a shard
abbrev pub page_at : List Page → ℕ → Page
page_at ps k = slice_index_or ps k absent

-- each byte that lies in the shard from page n on is on a page that is ready
abbrev pub IsShardReady : ℕ → List Page → List (ℕ × ℕ) → Type 0
IsShardReady n ps es = All (λ (e : ℕ × ℕ). n ≤ e.0 / 4096 → e.0 / 4096 < n + length ps → is_ready (page_at ps (e.0 / 4096 - n)) ≡ true) es

-- each byte of the shard from page n on is that of the last store to it, and no page became ready
pub record ShardWritten (n : ℕ) (ss : List Store) (ps qs : List Page) : Type 0 where
  pub count : length qs ≡ length ps
  pub ready : map is_ready qs ≡ map is_ready ps
  pub bytes : (k i : ℕ) → k < length ps → i < 4096 → slice_index (full (page_at qs k)) i ≡ last_byte (slice_index (full (page_at ps k)) i) ss (4096 * (n + k) + i)
