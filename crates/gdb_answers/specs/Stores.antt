-- How many bytes some stores cover.
use Rattle.std.specs.Prelude.{ℕ, List, [], length}
use Rattle.pages.specs.declared.access.Store.{Store}
use Rattle.store_buffer.specs.Covered.{with_stores}

-- each address counted once
abbrev pub bytes_covered : List Store → ℕ
bytes_covered ss = length (with_stores [] ss)
