-- Endings as the definitions of executions' endings have them.
use Rattle.std.specs.Prelude.{ℕ, List, map}
use Rattle.std.specs.Global.{Vec}
use Rattle.all_endings.specs.Endings.{Ending}
use Rattle.all_endings.specs.Walking.{HartEnding, ending_with}
use Rattle.hart_ends.specs.declared.ends.HartEnd.{HartEnd}
use Rattle.hart_ends.specs.declared.ends.TableEnding.{TableEnding}

abbrev pub end_told : HartEnd → HartEnding
end_told e = record { stop = e.stop; output = e.output.items }

abbrev pub ends_told : List HartEnd → List HartEnding
ends_told es = map end_told es

-- the ends that each hart may have
abbrev pub ways_told : List (Vec HartEnd) → List (List HartEnding)
ways_told ways = map (λ (w : Vec HartEnd). ends_told w.items) ways

abbrev pub bytes_told : List (Vec ℕ) → List (List ℕ)
bytes_told seen = map (λ (v : Vec ℕ). v.items) seen

abbrev pub ending_told : TableEnding → Ending
ending_told e = ending_with (ends_told e.harts.items) (bytes_told e.seen.items)

-- a table's endings
abbrev pub table_told : List TableEnding → List Ending
table_told t = map ending_told t
