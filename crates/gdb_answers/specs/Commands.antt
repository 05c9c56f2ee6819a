-- What the user's commands are answered, each as the digits of its text.
use Rattle.std.specs.Prelude.{ℕ, zero, suc, List, [], ◌++◌, codes, Option, Some, None}
use Rattle.hex.specs.Hex.{encode_lower}
use Rattle.hart_step.specs.declared.hart.Hart.{Hart}
use Rattle.machine.specs.Machine.{Running}
use Rattle.moments.specs.Sights.{Sight}
use Rattle.round_planner.specs.Quotas.{Planned, quota_of}
use Rattle.past_harts.specs.declared.moment.Moment.{Moment}
use Rattle.past_harts.specs.declared.point.Point.{Point}
use Rattle.gdb_replies.specs.CommandTexts.{hart_line, plan_head, quota_text, where_line}
use Rattle.gdb_replies.specs.declared.note.ThreadNote.{ThreadNote}
use Rattle.gdb_talk.specs.Told.{note_of, or_missing}
use Rattle.gdb_answers.specs.Answers.{note_at}

-- the hart of the moment, and its pc
abbrev pub where_answer : Moment → Option (Sight Hart) → List ℕ
where_answer at s = or_missing s (λ (x : Sight Hart). encode_lower (where_line (note_of at.place.hart x.hart at) at.place.count x.hart.pc))

-- a line for each of the first n harts
abbrev pub hart_entry : Option ThreadNote → List ℕ
hart_entry None = []
hart_entry (Some n) = hart_line n

unfoldable pub hart_lines : Running → Point → ℕ → List ℕ
hart_lines m at zero = []
hart_lines m at (suc i) = hart_lines m at i ++ hart_entry (note_at m at i)

abbrev pub harts_answer : Running → Point → ℕ → List ℕ
harts_answer m at harts = encode_lower (hart_lines m at harts)

-- how many instructions each hart may do in a round
unfoldable pub quotas_text : Planned → ℕ → ℕ → List ℕ
quotas_text p round zero = []
quotas_text p round (suc h) = quotas_text p round h ++ quota_text (quota_of p round h)

abbrev pub plan_text : Planned → ℕ → List ℕ
plan_text p round = plan_head round p.budget ++ quotas_text p round p.harts ++ codes "\n"

abbrev pub plan_answer : Planned → ℕ → List ℕ
plan_answer p round = encode_lower (plan_text p round)
