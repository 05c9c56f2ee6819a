-- The command line, as a command of clap: what its tables say.
use Rattle.std.specs.Prelude.{◌≡◌, List, [], Option, Some, true, codes, find, fold, if◌then◌else◌, length, map, pos}
use Rattle.std.specs.Borrow.{Bor}
use Rattle.std.specs.Option.{option_map_or}
use Rattle.std.specs.Str.{bytes_eq}
use Rattle.clap.specs.Words.{App, Rule, Text, fault_of, is_simple_and_free, new_app, new_rule, subcommand_of, with_rule, with_subcommand}
use Rattle.clap.specs.declared.builder.value_parser.ValueParser.{ValueParser}
use Rattle.clap.specs.declared.builder.value_parser.ValueParser.TheVariants as parser
use Rattle.command_options.specs.declared.rows.Kind.{Kind}
use Rattle.command_options.specs.declared.rows.Value.{Value}
use Rattle.command_options.specs.declared.rows.Value.TheVariants as value
use Rattle.command_options.specs.declared.tables.Group.{Group}
use Rattle.command_options.specs.declared.tables.Group.TheVariants as group
use Rattle.command_options.specs.declared.tables.TheConstants.{ALL, CHECK, COMPARE, DRAW, EXECUTION, FENCES, GDB, GUEST, HUNT, MERGE, MIGRATE, PLAN, RECORD, REPLAY, RUN, RUNNING, SEARCHING, SHRINK, SUBCOMMANDS, TRACE, WATCH}

-- the number is one of 32 bits, or of 64
abbrev pub parser_of : Value → ValueParser
parser_of value.Text = parser.String
parser_of value.Flag = parser.Bool
parser_of value.Narrow = parser.Signed (pos 0) (pos 4294967295)
parser_of value.Wide = parser.Unsigned 0 18446744073709551615

-- what a reference of a constant refers to
abbrev pub Told : Type 0 → Type 0
Told X = record { now : X }

-- a row of a table: the name, the kind, what the usage calls the values, the default if there is one, and the help
abbrev pub Row : Type 0
Row = Told Text × Kind × Told (List (Told Text)) × Told (List (Told Text)) × Told Text

-- the argument of a row
abbrev pub argument_told : Row → Rule
argument_told row = record (new_rule row.0.now) {
  action = Some row.1.action;
  value_names = length row.2.now;
  defaults = map (λ s. s.now) row.3.now;
  parser = Some (parser_of row.1.value);
  required = row.1.required;
}

-- the argument, or the option `--NAME`
abbrev pub rule_told : Row → Rule
rule_told row = if row.1.is_option then record (argument_told row) { long = Some row.0.now } else argument_told row

-- a subcommand of the table: its name, what it takes as others do, and alone, and what it does
abbrev pub Subcommand : Type 0
Subcommand = Told Text × Group × Group × Told Text

-- the command with those of these rows too
abbrev pub with_rows : App → List Row → App
with_rows = fold (λ app row. with_rule app (rule_told row))

-- those of a group
abbrev pub rows_in : Group → List Row
rows_in group.Nothing = []
rows_in group.Guest = GUEST.now
rows_in group.Running = RUNNING.now
rows_in group.Searching = SEARCHING.now
rows_in group.Run = RUN.now
rows_in group.Record = RECORD.now
rows_in group.Replay = REPLAY.now
rows_in group.Watch = WATCH.now
rows_in group.Migrate = MIGRATE.now
rows_in group.Gdb = GDB.now
rows_in group.Hunt = HUNT.now
rows_in group.Shrink = SHRINK.now
rows_in group.Merge = MERGE.now
rows_in group.Fences = FENCES.now
rows_in group.All = ALL.now
rows_in group.Compare = COMPARE.now
rows_in group.Plan = PLAN.now
rows_in group.Draw = DRAW.now
rows_in group.Trace = TRACE.now
rows_in group.Execution = EXECUTION.now
rows_in group.Check = CHECK.now

-- the subcommand with all its rows
abbrev pub app_told : Subcommand → App
app_told it = with_rows (with_rows (new_app it.0.now) (rows_in it.1)) (rows_in it.2)

-- `dethart` without its subcommands, of which it must be given one where it isn't asked for its version
abbrev pub bare_app : App
bare_app = record {
  top = record (new_app (codes "dethart")).top {
    has_version = true;
    subcommand_required = true;
    disable_help_subcommand = true;
  };
  subs = [];
}

-- the subcommands, in the order of the help
unfoldable pub subcommands : List Subcommand
subcommands = SUBCOMMANDS

-- the command with these subcommands too
abbrev pub with_subcommands : App → List Subcommand → App
with_subcommands = fold (λ app subcommand. with_subcommand app (app_told subcommand).top)

abbrev pub dethart_app : App
dethart_app = with_subcommands bare_app subcommands

-- the subcommand of a name
abbrev pub named : Text → Option Subcommand
named name = find (λ subcommand. bytes_eq subcommand.0.now name) subcommands

-- it alone, and where there is none the command without subcommands
abbrev pub named_app : Text → App
named_app name = option_map_or app_told (named name) bare_app

-- ---- rows as a function has them

abbrev pub told : {X : Type 0} → Bor X → Told X
told b = record { now = b.now }

abbrev pub row_told : Bor Text × Kind × Bor (List (Bor Text)) × Bor (List (Bor Text)) × Bor Text → Row
row_told row = (told row.0, row.1, record { now = map told row.2.now }, record { now = map told row.3.now }, told row.4)

abbrev pub subcommand_told : Bor Text × Group × Group × Bor Text → Subcommand
subcommand_told it = (told it.0, it.1, it.2, told it.3)

-- ----

-- by this command clap reads a line as by the one with all subcommands: the same words of the same subcommand, or the same kinds of error
pub record ReadsAsAll (words : List Text) (app : App) : Type 0 where
  pub simple : is_simple_and_free app ≡ true
  pub subcommand : subcommand_of app words ≡ subcommand_of dethart_app words
  pub fault : fault_of app words ≡ fault_of dethart_app words
