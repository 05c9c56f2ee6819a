-- What of a hart's past in a recorded run a line asks for.
use Rattle.std.specs.Prelude.{ℕ, Bool, true, false, List, map, Option, Some, None}
use Rattle.command_line.specs.declared.settings.Replay.{Replay}
use Rattle.hunt_table.specs.declared.seen_range.SeenRange.{SeenRange}
use Rattle.program_files.specs.Naming.{IsNaming, named_in, seen_ranges}
use Rattle.program_files.specs.declared.fault.NamingFault.{NamingFault}
use Rattle.past_commands.specs.declared.question.Question.{Question}
use Rattle.past_commands.specs.declared.question.Question.TheVariants.{Before, Count, Within}

-- by --place, --round and --how-many; with neither a place nor a round it asks whether the run is the recorded one
abbrev pub question_of : Option ℕ → Option ℕ → Bool → Option Question
question_of (Some place) round how_many = Some (Before place)
question_of None (Some round) true = Some (Count round)
question_of None (Some round) false = Some (Within round)
question_of None None how_many = None

-- the names of the objects that it wants to see
abbrev pub names_seen : Replay → List (List ℕ)
names_seen asked = map (λ s. s.now) asked.objects.items

-- what is wrong with the bytes that it wants to see
abbrev pub IsSeeing : Replay → List ℕ → ℕ → Option NamingFault → Type 0
IsSeeing asked image pages fault = IsNaming image pages asked.seen.items (names_seen asked) fault

-- these bytes as ranges: those that are named by addresses, and then the objects
abbrev pub ranges_seen : Replay → List ℕ → List SeenRange
ranges_seen asked image = seen_ranges (named_in image asked.seen.items (names_seen asked)) (names_seen asked)
