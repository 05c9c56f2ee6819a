-- The laws of the instructions that functions of this crate carry.
use Rattle.std.specs.Prelude.{List}
use Rattle.pages.specs.declared.access.Range.{Range}
use Rattle.hart_step.specs.declared.hart.Hart.{Hart}
use Rattle.round_schedule.specs.Sound.{Sound, Counts}
use Rattle.hart_step.specs.Forms.{Forms}
use Rattle.hart_step.specs.Words.{words_of}

abbrev pub IsSound : Type 0
IsSound = (code : List Range) → Sound (words_of code)

abbrev pub CountsDone : Type 0
CountsDone = (code : List Range) → Counts (words_of code) (λ (h : Hart). h.done)

abbrev pub HasForms : Type 0
HasForms = (code : List Range) → Forms (words_of code)
