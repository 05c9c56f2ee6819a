-- Answers to questions about a recorded run, and their texts.
use Rattle.std.specs.Prelude.{◌≡◌, ℕ, ◌+◌, List, [], ◌∷◌, ◌++◌, codes, Option, Some, None}
use Rattle.std.specs.Fmt.{decimal}
use Rattle.hart_step.specs.declared.hart.Hart.{Hart}
use Rattle.hunt_table.specs.Text.{seen_lines}
use Rattle.hunt_table.specs.declared.seen_range.SeenRange.{SeenRange}
use Rattle.machine.specs.Machine.{Running}
use Rattle.moments.specs.Sights.{Sight}
use Rattle.past_commands.specs.declared.question.Question.{Question}
use Rattle.past_commands.specs.declared.question.Question.TheVariants as questions
use Rattle.past_commands.specs.declared.telling.Told.{Told}
use Rattle.past_commands.specs.declared.telling.Told.TheVariants as tells
use Rattle.program_files.specs.declared.exit_status.ExitStatus.{ExitStatus}
use Rattle.program_files.specs.declared.exit_status.ExitStatus.TheVariants as statuses
use Rattle.replayer.specs.Past.{DidSoMany, IsCountAt, IsStateBefore, sight_at}
use Rattle.replayer.specs.declared.verdict.Verdict.{Verdict}
use Rattle.replayer.specs.declared.verdict.Verdict.TheVariants.{Differs, Same}
use Rattle.report_lines.specs.Text.{hart_text}
use Rattle.moments.specs.Bytes.{bytes_from}

-- the line of a word and a number
abbrev pub number_line : List ℕ → ℕ → List ℕ
number_line word n = word ++ decimal n ++ codes "\n"

-- ---- whether the run is the recorded one

abbrev pub verdict_text : Verdict → List ℕ
verdict_text Same = codes "same\n"
verdict_text (Differs round) = number_line (codes "differs ") round

abbrev pub verdict_status : Verdict → ExitStatus
verdict_status Same = statuses.Done
verdict_status (Differs round) = statuses.Differs

-- ---- a hart's past

-- the round in which a hart did its instruction at a place of the run, and the hart and what it saw before it; none where it did so
-- many in no round
abbrev pub IsSightBefore : ℕ → Running → ℕ → ℕ → Option (ℕ × Sight Hart) → Type 0
IsSightBefore rounds m hart place None = IsStateBefore rounds m hart place None
IsSightBefore rounds m hart place (Some x) =
    (count : ℕ) × (sight_at rounds m x.0 hart count ≡ Some x.1) × (x.1.hart.done ≡ place) × DidSoMany rounds m x.0 hart (count + 1)

-- what was found is the answer to the question about this hart, for so many of its instructions within a round
abbrev pub IsTold : ℕ → ℕ → ℕ → Running → Question → Told → Type 0
IsTold hart count rounds m (questions.Before place) (tells.Before found) = IsSightBefore rounds m hart place found
IsTold hart count rounds m (questions.Before place) (tells.Count found) = ⊥
IsTold hart count rounds m (questions.Before place) (tells.Within found) = ⊥
IsTold hart count rounds m (questions.Count round) (tells.Before found) = ⊥
IsTold hart count rounds m (questions.Count round) (tells.Count found) = IsCountAt rounds m round hart found
IsTold hart count rounds m (questions.Count round) (tells.Within found) = ⊥
IsTold hart count rounds m (questions.Within round) (tells.Before found) = ⊥
IsTold hart count rounds m (questions.Within round) (tells.Count found) = ⊥
IsTold hart count rounds m (questions.Within round) (tells.Within found) = found ≡ sight_at rounds m round hart count

-- the bytes of ranges, one after the other, by what so many bytes from an address on are
abbrev pub all_bytes : (ℕ → ℕ → List ℕ) → List SeenRange → List ℕ
all_bytes look [] = []
all_bytes look (r ∷ rs) = look r.address r.length ++ all_bytes look rs

-- a hart's lines, and a line for each of these ranges of memory as it sees them
abbrev pub sight_text : ℕ → List SeenRange → Sight Hart → List ℕ
sight_text hart ranges s = hart_text hart s.hart ++ seen_lines ranges (all_bytes (bytes_from s.bytes) ranges)

-- the text of what was found
abbrev pub told_text : ℕ → List SeenRange → Told → List ℕ
told_text hart ranges (tells.Count None) = codes "none\n"
told_text hart ranges (tells.Count (Some n)) = number_line (codes "count ") n
told_text hart ranges (tells.Within None) = codes "none\n"
told_text hart ranges (tells.Within (Some s)) = sight_text hart ranges s
told_text hart ranges (tells.Before None) = codes "none\n"
told_text hart ranges (tells.Before (Some x)) = number_line (codes "round ") x.0 ++ sight_text hart ranges x.1
