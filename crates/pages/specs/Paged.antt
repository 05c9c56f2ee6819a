-- Guest memory as callers see it: its bytes and code, the pages that are ready, and how many spare pages there are.
use Rattle.std.specs.Prelude.{ℕ, ◌-◌, ◌/◌, Bool, true, false, if◌then◌else◌, not, List, [], ◌∷◌, map, count_by, slice_index_or, slice_set}
use Rattle.pages.specs.declared.access.Store.{Store}
use Rattle.pages.specs.Memory.{Memory, put}
use Rattle.pages.specs.Flat.{Page, flat, is_ready, laid}

pub record Paged : Type 0 where
  pub memory : Memory
  pub ready : List Bool
  pub spare : ℕ

-- whether a page is ready; none is past the last
abbrev pub is_page_ready : Paged → ℕ → Bool
is_page_ready p page = slice_index_or p.ready page false

-- how many pages are not ready
abbrev pub count_unready : List Bool → ℕ
count_unready ready = count_by (λ b. not b) ready

-- how many spare pages are left once a page is made ready
abbrev pub spare_after : Bool → ℕ → ℕ
spare_after ready n = if ready then n else n - 1

-- after one store, which may use a spare page
unfoldable pub applied : Paged → Store → Paged
applied p s = record {
  memory = record p.memory { bytes = put p.memory.bytes s };
  ready = slice_set p.ready (s.address / 4096) true;
  spare = spare_after (is_page_ready p (s.address / 4096)) p.spare;
}

-- the pages of a list made ready
abbrev pub all_ready : List Bool → List ℕ → List Bool
all_ready ready [] = ready
all_ready ready (page ∷ pages) = all_ready (slice_set ready page true) pages

-- with these pages in the place of its own, as many as it has
abbrev pub with_pages : Paged → List Page → Paged
with_pages p ps = record p {
  memory = record p.memory { bytes = laid p.memory.bytes (flat ps) };
  ready = laid p.ready (map is_ready ps);
}
