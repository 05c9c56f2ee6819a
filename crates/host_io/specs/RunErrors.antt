-- The numbers of refusals, as the program prints them.
use Rattle.std.specs.Prelude.{ℕ}
use Rattle.host_io.specs.declared.load_error.LoadError.{LoadError}
use Rattle.host_io.specs.declared.load_error.LoadError.TheVariants as of_image
use Rattle.host_io.specs.declared.plan_error.PlanError.{PlanError}
use Rattle.host_io.specs.declared.plan_error.PlanError.TheVariants as of_plan
use Rattle.host_io.specs.declared.error.RunError.{RunError}
use Rattle.host_io.specs.declared.error.RunError.TheVariants.{Image, Plan, OutOfMemory, SinkFailed, HartsOutOfRange, PagesOutOfRange, WorkersOutOfRange, RoundsExhausted, BudgetOutOfRange, SourceFailed}

-- what is wrong with an image
abbrev pub image_number : LoadError → ℕ
image_number of_image.TooShort = 1
image_number of_image.Magic = 2
image_number of_image.Class = 3
image_number of_image.Type = 4
image_number of_image.Machine = 5
image_number of_image.HeaderTable = 6
image_number of_image.SegmentPastFile = 7
image_number of_image.PastMemory = 8
image_number of_image.SharedAddress = 9
image_number of_image.WritableCode = 10
image_number of_image.Entry = 11
image_number of_image.FlatLength = 12
image_number of_image.OutOfMemory = 20

-- what is wrong with a plan
abbrev pub plan_number : PlanError → ℕ
plan_number of_plan.NotAPlan = 31
plan_number of_plan.QuotaOutOfRange = 32
plan_number of_plan.RowLength = 33
plan_number of_plan.TooManyRows = 34
plan_number of_plan.OutOfMemory = 20

-- any refusal
abbrev pub number_of : RunError → ℕ
number_of (Image e) = image_number e
number_of (Plan e) = plan_number e
number_of OutOfMemory = 20
number_of SinkFailed = 21
number_of HartsOutOfRange = 51
number_of PagesOutOfRange = 52
number_of WorkersOutOfRange = 53
number_of RoundsExhausted = 54
number_of BudgetOutOfRange = 55
number_of SourceFailed = 61
