-- What is shown of a run whose trace isn't kept.
use Rattle.std.specs.Prelude.{ℕ, List, ◌++◌, length, codes}
use Rattle.std.specs.Fmt.{decimal}
use Rattle.hart_step.specs.declared.hart.Hart.{Hart}
use Rattle.report.specs.Report.{harts_text, head_text}

-- the report without its events: so many rounds, these harts, these bytes of memory and this output
unfoldable pub state_text : ℕ → List Hart → List ℕ → List ℕ → List ℕ
state_text rounds harts bytes output = head_text rounds harts bytes output ++ codes "end\n"

-- how many bytes of output there are
unfoldable pub output_line : List ℕ → List ℕ
output_line output = codes "output " ++ decimal (length output) ++ codes "\n"

-- the lines of the rounds and the harts, and how many bytes of output there are
unfoldable pub summary_text : ℕ → List Hart → List ℕ → List ℕ
summary_text rounds harts output =
    codes "rounds " ++ decimal rounds ++ codes "\n"
    ++ harts_text 0 harts
    ++ output_line output
