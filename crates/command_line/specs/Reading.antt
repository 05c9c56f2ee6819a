-- What a command line says, by the matches that clap has on it.
use Rattle.std.specs.Prelude.{◌≡◌, ◌^◌, ◌&&◌, ◌||◌, ℕ, Bool, true, false, List, [], ◌∷◌, Option, Some, None}
use Rattle.std.specs.Prelude.{if◌then◌else◌, nat_eq, nat_lt, not, codes, drop, find, length, map, option_and_then, option_map, unwrap_or}
use Rattle.std.specs.List.{list_all, starts_with}
use Rattle.std.specs.Str.{bytes_eq}
use Rattle.std.specs.Char.{digit_value}
use Rattle.std.specs.Str.Parse.{digits_value, without_leading_plus}
use Rattle.clap.specs.Words.{Row, Text, all_of, first_of, one_of}
use Rattle.clap.specs.declared.parser.matches.ValueSource.{ValueSource}
use Rattle.clap.specs.declared.parser.matches.ValueSource.TheVariants.{CommandLine}
use Rattle.command_line.specs.declared.settings.Command.{Command}
use Rattle.command_line.specs.declared.settings.Command.TheVariants as command
use Rattle.command_line.specs.declared.settings.AllEndings.{AllEndings}
use Rattle.command_line.specs.declared.settings.Bytes.{Bytes}
use Rattle.command_line.specs.declared.settings.Compare.{Compare}
use Rattle.command_line.specs.declared.settings.Draw.{Draw}
use Rattle.command_line.specs.declared.settings.Execution.{Execution}
use Rattle.command_line.specs.declared.settings.FailOn.{FailOn}
use Rattle.command_line.specs.declared.settings.FailOn.TheVariants as fail_on
use Rattle.command_line.specs.declared.settings.Fences.{Fences}
use Rattle.command_line.specs.declared.settings.FencesFailOn.{FencesFailOn}
use Rattle.command_line.specs.declared.settings.FencesFailOn.TheVariants as fences_fail_on
use Rattle.command_line.specs.declared.settings.Hunt.{Hunt}
use Rattle.command_line.specs.declared.settings.HuntUntil.{HuntUntil}
use Rattle.command_line.specs.declared.settings.HuntUntil.TheVariants as until
use Rattle.command_line.specs.declared.settings.Merge.{Merge}
use Rattle.command_line.specs.declared.settings.Gdb.{Gdb}
use Rattle.command_line.specs.declared.settings.Migrate.{Migrate}
use Rattle.command_line.specs.declared.settings.Check.{Check}
use Rattle.command_line.specs.declared.settings.Plan.{Plan}
use Rattle.command_line.specs.declared.settings.PlanChoice.{PlanChoice}
use Rattle.command_line.specs.declared.settings.Print.{Print}
use Rattle.command_line.specs.declared.settings.Program.{Program}
use Rattle.command_line.specs.declared.settings.Record.{Record}
use Rattle.command_line.specs.declared.settings.Replay.{Replay}
use Rattle.command_line.specs.declared.settings.Run.{Run}
use Rattle.command_line.specs.declared.settings.Search.{Search}
use Rattle.command_line.specs.declared.settings.Shrink.{Shrink}
use Rattle.command_line.specs.declared.settings.Shown.{Shown}
use Rattle.command_line.specs.declared.settings.Watch.{Watch}
use Rattle.command_line.specs.declared.settings.Shown.TheVariants as shown

-- the text is one or more digits in the radix, after a plus that may be there, of a number of so many bits
abbrev pub is_number : ℕ → ℕ → Text → Bool
is_number bits radix text =
    let digits = without_leading_plus text in
    nat_lt 0 (length digits) && list_all (λ d. nat_lt (digit_value d) radix) digits
    && nat_lt (digits_value radix digits) (2 ^ bits)

-- the number that the text is
abbrev pub number_in : ℕ → ℕ → Text → Option ℕ
number_in bits radix text =
    if is_number bits radix text then Some (digits_value radix (without_leading_plus text)) else None

-- the number that the text is, if there is one, in decimal
abbrev pub number_given : ℕ → Option Text → Option ℕ
number_given bits None = None
number_given bits (Some text) = number_in bits 10 text

-- the digits begin with a zero, and have more after it, as an address that a report prints
abbrev pub has_leading_zero : Text → Bool
has_leading_zero text =
    let digits = without_leading_plus text in
    starts_with nat_eq digits (codes "0") && nat_lt 1 (length digits)

-- the address that the text is, of 64 bits: in hexadecimal after `0x`, and else in decimal without leading zeros
abbrev pub address_in : Text → Option ℕ
address_in text = if starts_with nat_eq text (codes "0x") then number_in 64 16 (drop 2 text)
    else if has_leading_zero text then None
    else number_in 64 10 text

-- the address that the text is has no `0x` before it, and so is in decimal
abbrev pub is_decimal : Text → Bool
is_decimal text = not (starts_with nat_eq text (codes "0x"))

-- ---- what clap states for an argument or option, by its name

-- where its text is from
abbrev pub source_of : Text → List Row → Option ValueSource
source_of id rows = option_and_then (λ r. r.source) (find (λ r. bytes_eq r.id id) rows)

abbrev pub is_from_line : Option ValueSource → Bool
is_from_line (Some CommandLine) = true
is_from_line source = false

-- the line itself gives it
abbrev pub is_given : Text → List Row → Bool
is_given id rows = is_from_line (source_of id rows)

-- its text: that of the line, or the default; where there is neither, none
abbrev pub text_at : Text → List Row → Text
text_at id rows = unwrap_or (first_of id rows) []

-- the line has the flag
abbrev pub is_set : Text → List Row → Bool
is_set id rows = bytes_eq (text_at id rows) (codes "true")

-- its number of so many bits, if it has one, and 0 where it has none
abbrev pub number_at : ℕ → Text → List Row → Option ℕ
number_at bits id rows = number_given bits (one_of id rows)

abbrev pub number_of : ℕ → Text → List Row → ℕ
number_of bits id rows = unwrap_or (number_at bits id rows) 0

-- all texts of the argument or option, in the order of the line
abbrev pub texts_given : Text → List Row → List Text
texts_given id rows = unwrap_or (all_of id rows) []

-- the texts two by two
abbrev pub pairs : List Text → List (Text × Text)
pairs [] = []
pairs (text ∷ []) = []
pairs (first ∷ second ∷ rest) = (first, second) ∷ pairs rest

-- what each --see is given as ADDRESS and LENGTH
abbrev pub seen_given : List Row → List (Text × Text)
seen_given rows = pairs (texts_given (codes "see") rows)

-- the bytes that ADDRESS and LENGTH say
abbrev pub bytes_of : Text × Text → Bytes
bytes_of given = record {
  address = unwrap_or (address_in given.0) 0;
  length = unwrap_or (number_in 64 10 given.1) 0;
  is_decimal = is_decimal given.0;
}

-- what the word after --show asks for
abbrev pub shown_in : Text → Option Shown
shown_in text = if bytes_eq text (codes "report") then Some shown.Report
    else if bytes_eq text (codes "output") then Some shown.Output
    else if bytes_eq text (codes "harts") then Some shown.Harts else None

-- the words after --fail-on, joined by a comma, say which endings give another exit status
abbrev pub fail_on_in : Text → Option FailOn
fail_on_in text = if bytes_eq text (codes "differ") then Some fail_on.Differ
    else if bytes_eq text (codes "bad") then Some fail_on.Bad
    else if bytes_eq text (codes "differ,bad") || bytes_eq text (codes "bad,differ") then Some fail_on.Either
    else if bytes_eq text (codes "never") then Some fail_on.Never else None

-- the word after --until says with which ending a hunt is over
abbrev pub until_in : Text → Option HuntUntil
until_in text = if bytes_eq text (codes "bad") then Some until.Bad
    else if bytes_eq text (codes "differ") then Some until.Differ else None

-- the word after --fail-on says which tables of missing fences give another exit status
abbrev pub fences_fail_on_in : Text → Option FencesFailOn
fences_fail_on_in text = if bytes_eq text (codes "missing") then Some fences_fail_on.Missing
    else if bytes_eq text (codes "never") then Some fences_fail_on.Never else None

-- the word after --until says that a search ends with a missing fence
abbrev pub is_until_missing : Text → Bool
is_until_missing text = bytes_eq text (codes "missing")

-- which endings `hunt` and `merge` are given after --fail-on
abbrev pub fail_on_at : List Row → FailOn
fail_on_at rows = unwrap_or (fail_on_in (text_at (codes "fail-on") rows)) fail_on.Either

-- `watch` is given ADDRESS, and in decimal
abbrev pub address_is_decimal : List Row → Bool
address_is_decimal rows = is_given (codes "address") rows && is_decimal (text_at (codes "address") rows)

-- each value is the one that clap states for its name
pub record HoldsProgram (rows : List Row) (program : Program) : Type 0 where
  pub image : program.image.now ≡ text_at (codes "image") rows
  pub flat : program.flat ≡ is_set (codes "flat") rows
  pub spurious : program.spurious ≡ is_set (codes "spurious") rows
  pub harts : program.harts ≡ number_of 32 (codes "harts") rows
  pub pages : program.pages ≡ number_of 32 (codes "pages") rows
  pub rounds : program.rounds ≡ number_of 32 (codes "rounds") rows
  pub workers : program.workers ≡ number_of 32 (codes "workers") rows
  pub input : option_map (λ s. s.now) program.input ≡ first_of (codes "input") rows
  pub progress : program.progress ≡ is_set (codes "progress") rows

-- the line gives a row of quotas, and a file that has the plan
abbrev pub quota_is_unread : List Row → Bool
quota_is_unread rows = is_given (codes "quota") rows && is_given (codes "plan") rows

pub record HoldsPlanChoice (rows : List Row) (plan : PlanChoice) : Type 0 where
  pub quota : plan.quota.now ≡ text_at (codes "quota") rows
  pub file : option_map (λ s. s.now) plan.file ≡ first_of (codes "plan") rows
  pub budget : plan.budget ≡ number_of 32 (codes "budget") rows
  pub number : plan.number ≡ number_at 32 (codes "plan-number") rows
  pub seed : plan.seed ≡ number_of 64 (codes "seed") rows
  pub quota_is_unread : plan.quota_is_unread ≡ quota_is_unread rows

abbrev pub HoldsRun : List Row → Run → Type 0
HoldsRun rows run = HoldsProgram rows run.program × HoldsPlanChoice rows run.plan

pub record HoldsPrint (rows : List Row) (print : Print) : Type 0 where
  pub run : HoldsRun rows print.run
  pub show : print.show ≡ unwrap_or (shown_in (text_at (codes "show") rows)) shown.Report
  pub no_trace : print.no_trace ≡ is_set (codes "no-trace") rows
  pub strict : print.strict ≡ is_set (codes "strict") rows

pub record HoldsRecord (rows : List Row) (r : Record) : Type 0 where
  pub run : HoldsRun rows r.run
  pub out : r.out.now ≡ text_at (codes "out") rows
  pub every : r.every ≡ number_of 32 (codes "every") rows
  pub until_stopped : r.until_stopped ≡ is_set (codes "until-stopped") rows

-- `replay` is asked of a hart
abbrev pub asks_of_a_hart : List Row → Bool
asks_of_a_hart rows = is_given (codes "round") rows || is_given (codes "place") rows

-- the line gives an option of `replay` that says of which hart, where and what, and doesn't ask of a hart
abbrev pub is_unread : Text → List Row → Bool
is_unread id rows = is_given id rows && not (asks_of_a_hart rows)

pub record HoldsReplay (rows : List Row) (replay : Replay) : Type 0 where
  pub recording : replay.recording.now ≡ text_at (codes "recording") rows
  pub workers : replay.workers ≡ number_of 32 (codes "workers") rows
  pub round : replay.round ≡ number_at 32 (codes "round") rows
  pub hart : replay.hart ≡ number_of 32 (codes "hart") rows
  pub count : replay.count ≡ number_of 64 (codes "count") rows
  pub how_many : replay.how_many ≡ is_set (codes "how-many") rows
  pub place : replay.place ≡ number_at 64 (codes "place") rows
  pub seen : replay.seen.items ≡ map bytes_of (seen_given rows)
  pub objects : map (λ s. s.now) replay.objects.items ≡ texts_given (codes "see-object") rows
  pub every : replay.every ≡ number_of 32 (codes "every") rows
  pub progress : replay.progress ≡ is_set (codes "progress") rows
  pub hart_is_unread : replay.hart_is_unread ≡ is_unread (codes "hart") rows
  pub count_is_unread : replay.count_is_unread ≡ is_unread (codes "count") rows
  pub seen_is_unread : replay.seen_is_unread ≡ is_unread (codes "see") rows
  pub object_is_unread : replay.object_is_unread ≡ is_unread (codes "see-object") rows

pub record HoldsWatch (rows : List Row) (watch : Watch) : Type 0 where
  pub recording : watch.recording.now ≡ text_at (codes "recording") rows
  pub address : watch.address ≡ address_in (text_at (codes "address") rows)
  pub is_decimal : watch.is_decimal ≡ address_is_decimal rows
  pub length : watch.length ≡ number_of 64 (codes "length") rows
  pub more : watch.more.items ≡ map bytes_of (seen_given rows)
  pub objects : map (λ s. s.now) watch.objects.items ≡ texts_given (codes "see-object") rows
  pub hart : watch.hart ≡ number_at 32 (codes "hart") rows
  pub stores : watch.stores ≡ is_set (codes "stores") rows
  pub pc : watch.pc ≡ is_set (codes "pc") rows
  pub from : watch.from ≡ number_at 32 (codes "from") rows
  pub to : watch.to ≡ number_at 32 (codes "to") rows
  pub workers : watch.workers ≡ number_of 32 (codes "workers") rows
  pub progress : watch.progress ≡ is_set (codes "progress") rows

pub record HoldsMigrate (rows : List Row) (migrate : Migrate) : Type 0 where
  pub recording : migrate.recording.now ≡ text_at (codes "recording") rows
  pub out : migrate.out.now ≡ text_at (codes "out") rows

pub record HoldsGdb (rows : List Row) (gdb : Gdb) : Type 0 where
  pub recording : gdb.recording.now ≡ text_at (codes "recording") rows

pub record HoldsSearch (rows : List Row) (search : Search) : Type 0 where
  pub program : HoldsProgram rows search.program
  pub seed : search.seed ≡ number_of 64 (codes "seed") rows
  pub seen : search.seen.items ≡ map bytes_of (seen_given rows)
  pub objects : map (λ s. s.now) search.objects.items ≡ texts_given (codes "see-object") rows

pub record HoldsHunt (rows : List Row) (hunt : Hunt) : Type 0 where
  pub search : HoldsSearch rows hunt.search
  pub plans : hunt.plans ≡ number_of 32 (codes "plans") rows
  pub first : hunt.first ≡ number_of 32 (codes "first") rows
  pub fail_on : hunt.fail_on ≡ fail_on_at rows
  pub until : hunt.until ≡ until_in (text_at (codes "until") rows)
  pub seconds : hunt.seconds ≡ number_at 32 (codes "seconds") rows
  pub weak : hunt.weak ≡ is_set (codes "weak") rows
  pub steps : hunt.steps ≡ number_of 32 (codes "steps") rows

pub record HoldsFences (rows : List Row) (fences : Fences) : Type 0 where
  pub search : HoldsSearch rows fences.search
  pub plans : fences.plans ≡ number_of 32 (codes "plans") rows
  pub first : fences.first ≡ number_of 32 (codes "first") rows
  pub steps : fences.steps ≡ number_of 32 (codes "steps") rows
  pub fail_on : fences.fail_on ≡ unwrap_or (fences_fail_on_in (text_at (codes "fail-on") rows)) fences_fail_on.Missing
  pub until_missing : fences.until_missing ≡ is_until_missing (text_at (codes "until") rows)
  pub seconds : fences.seconds ≡ number_at 32 (codes "seconds") rows
  pub keep : option_map (λ s. s.now) fences.keep ≡ first_of (codes "keep") rows
  pub accept : option_map (λ s. s.now) fences.accept ≡ first_of (codes "accept") rows
  pub as_if_fence : map (λ s. s.now) fences.as_if_fence.items ≡ texts_given (codes "as-if-fence") rows

pub record HoldsAll (rows : List Row) (all : AllEndings) : Type 0 where
  pub search : HoldsSearch rows all.search
  pub steps : all.steps ≡ number_of 32 (codes "steps") rows
  pub nodes : all.nodes ≡ number_of 32 (codes "nodes") rows
  pub seconds : all.seconds ≡ number_at 32 (codes "seconds") rows
  pub keep : option_map (λ s. s.now) all.keep ≡ first_of (codes "keep") rows
  pub fences : all.fences ≡ is_set (codes "fences") rows

pub record HoldsShrink (rows : List Row) (shrink : Shrink) : Type 0 where
  pub search : HoldsSearch rows shrink.search
  pub plan_number : shrink.plan_number ≡ number_of 32 (codes "plan-number") rows

pub record HoldsMerge (rows : List Row) (merge : Merge) : Type 0 where
  pub tables : map (λ s. s.now) merge.tables.items ≡ texts_given (codes "table") rows
  pub fail_on : merge.fail_on ≡ fail_on_at rows

pub record HoldsCompare (rows : List Row) (compare : Compare) : Type 0 where
  pub old : compare.old.now ≡ text_at (codes "old") rows
  pub new : compare.new.now ≡ text_at (codes "new") rows

pub record HoldsPlan (rows : List Row) (plan : Plan) : Type 0 where
  pub number : plan.number ≡ number_of 32 (codes "number") rows
  pub harts : plan.harts ≡ number_of 32 (codes "harts") rows
  pub seed : plan.seed ≡ number_of 64 (codes "seed") rows

pub record HoldsDraw (rows : List Row) (draw : Draw) : Type 0 where
  pub run : HoldsRun rows draw.run
  pub seen : draw.seen.items ≡ map bytes_of (seen_given rows)
  pub objects : map (λ s. s.now) draw.objects.items ≡ texts_given (codes "see-object") rows
  pub from : draw.from ≡ number_at 32 (codes "from") rows
  pub to : draw.to ≡ number_at 32 (codes "to") rows

pub record HoldsExecution (rows : List Row) (execution : Execution) : Type 0 where
  pub run : HoldsRun rows execution.run
  pub weak : execution.weak ≡ is_set (codes "weak") rows
  pub steps : execution.steps ≡ number_of 32 (codes "steps") rows

pub record HoldsCheck (rows : List Row) (check : Check) : Type 0 where
  pub file : check.file.now ≡ text_at (codes "file") rows

-- the line is of the subcommand of that name, and holds its values
abbrev pub HoldsNamed : Text → List Row → Command → Type 0
HoldsNamed name rows (command.Run print) = (name ≡ codes "run") × HoldsPrint rows print
HoldsNamed name rows (command.Order run) = (name ≡ codes "order") × HoldsRun rows run
HoldsNamed name rows (command.Record r) = (name ≡ codes "record") × HoldsRecord rows r
HoldsNamed name rows (command.Replay replay) = (name ≡ codes "replay") × HoldsReplay rows replay
HoldsNamed name rows (command.Watch watch) = (name ≡ codes "watch") × HoldsWatch rows watch
HoldsNamed name rows (command.Migrate migrate) = (name ≡ codes "migrate") × HoldsMigrate rows migrate
HoldsNamed name rows (command.Gdb gdb) = (name ≡ codes "gdb") × HoldsGdb rows gdb
HoldsNamed name rows (command.Hunt hunt) = (name ≡ codes "hunt") × HoldsHunt rows hunt
HoldsNamed name rows (command.Shrink shrink) = (name ≡ codes "shrink") × HoldsShrink rows shrink
HoldsNamed name rows (command.Merge merge) = (name ≡ codes "merge") × HoldsMerge rows merge
HoldsNamed name rows (command.Fences fences) = (name ≡ codes "fences") × HoldsFences rows fences
HoldsNamed name rows (command.All all) = (name ≡ codes "all") × HoldsAll rows all
HoldsNamed name rows (command.Compare compare) = (name ≡ codes "compare") × HoldsCompare rows compare
HoldsNamed name rows (command.Plan plan) = (name ≡ codes "plan") × HoldsPlan rows plan
HoldsNamed name rows (command.Draw draw) = (name ≡ codes "draw") × HoldsDraw rows draw
HoldsNamed name rows (command.Trace run) = (name ≡ codes "trace") × HoldsRun rows run
HoldsNamed name rows (command.Execution execution) = (name ≡ codes "execution") × HoldsExecution rows execution
HoldsNamed name rows (command.Check check) = (name ≡ codes "check") × HoldsCheck rows check

-- the subcommand is the one that the line is of, and the line holds its values
abbrev pub HoldsLine : Option (Text × List Row) → Command → Type 0
HoldsLine None line = ⊥
HoldsLine (Some met) line = HoldsNamed met.0 met.1 line
