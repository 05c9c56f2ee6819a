-- What is said of the stores of a hart that are not committed.
use Rattle.std.specs.Prelude.{ℕ, List, take, codes, Option}
use Rattle.std.specs.Int.{w64, to_le_bytes}
use Rattle.std.specs.List.{flat_map}
use Rattle.hex.specs.Hex.{encode_lower}
use Rattle.pages.specs.Memory.{width_bytes}
use Rattle.pages.specs.declared.access.Store.{Store}
use Rattle.hart_step.specs.declared.hart.Hart.{Hart}
use Rattle.machine.specs.Machine.{Running}
use Rattle.moments.specs.Sights.{Sight}
use Rattle.past_harts.specs.declared.point.Point.{Point}
use Rattle.gdb_replies.specs.CommandTexts.{store_line}
use Rattle.gdb_talk.specs.Told.{or_missing}
use Rattle.gdb_events.specs.Output.{last_told}
use Rattle.gdb_events.specs.Saying.{text_or}
use Rattle.timelines.specs.OwnParts.{uncommitted}

-- a line for each
abbrev pub line_of : Store → List ℕ
line_of s = store_line s.address (take (width_bytes s.width) (to_le_bytes w64 s.value))

abbrev pub store_lines : List Store → List ℕ
store_lines ss = flat_map line_of ss

-- of many the end is told
abbrev pub buffer_text : List Store → List ℕ
buffer_text ss = text_or (codes "no stores\n") (last_told (store_lines ss))

abbrev pub buffer_answer : Running → Point → ℕ → Option (Sight Hart) → List ℕ
buffer_answer m at h s = or_missing s (λ (x : Sight Hart). encode_lower (buffer_text (uncommitted m at h)))
