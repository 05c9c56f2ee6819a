-- What is wrong with a line that clap takes.
use Rattle.std.specs.Prelude.{ℕ, ◌&&◌, ◌||◌, Bool, true, false, List, [], ◌∷◌, Option, Some, None}
use Rattle.std.specs.Prelude.{if◌then◌else◌, nat_lt, not, codes, is_some}
use Rattle.std.specs.List.{list_any}
use Rattle.std.specs.Str.{bytes_eq}
use Rattle.clap.specs.Kinds.{or_else}
use Rattle.clap.specs.Words.{Kinds, Row, Text, fault_of, first_of, subcommand_of}
use Rattle.clap.specs.declared.error.kind.ErrorKind.TheVariants.{ArgumentConflict, ValueValidation}
use Rattle.command_options.specs.Options.{dethart_app}
use Rattle.command_line.specs.Reading.{address_in, fail_on_in, fences_fail_on_in, is_given, is_until_missing, number_at, number_in, seen_given, shown_in, text_at, until_in}

-- ---- words that clap takes as texts

-- ADDRESS of `watch` is none
abbrev pub has_bad_address : List Row → Bool
has_bad_address rows = is_given (codes "address") rows && not (is_some (address_in (text_at (codes "address") rows)))

-- there is an ADDRESS without a LENGTH, or neither ADDRESS nor --see nor --see-object
abbrev pub has_no_bytes : List Row → Bool
has_no_bytes rows = if is_given (codes "address") rows then not (is_given (codes "length") rows)
    else not (is_given (codes "see") rows || is_given (codes "see-object") rows)

-- the texts are no ADDRESS and LENGTH
abbrev pub is_bad_pair : Text × Text → Bool
is_bad_pair given = not (is_some (address_in given.0) && is_some (number_in 64 10 given.1))

-- ADDRESS or LENGTH of a --see is none
abbrev pub has_bad_bytes : List Row → Bool
has_bad_bytes rows = list_any is_bad_pair (seen_given rows)

-- the subcommand of this name takes the word after the option
abbrev pub is_word : Text → Text → Text → Bool
is_word name id text = if bytes_eq id (codes "show") then is_some (shown_in text)
    else if bytes_eq id (codes "as") then bytes_eq text (codes "perfetto")
    else if bytes_eq id (codes "fail-on") then
    (if bytes_eq name (codes "fences") then is_some (fences_fail_on_in text) else is_some (fail_on_in text))
    else if bytes_eq name (codes "fences") then is_until_missing text else is_some (until_in text)

-- the line has a word after it that the subcommand doesn't take
abbrev pub is_bad : Text → Text → List Row → Bool
is_bad name id rows = is_given id rows && not (is_word name id (text_at id rows))

-- clap takes each text as such a word, and this one is none; or the line of `watch` names no bytes
abbrev pub has_bad_word : Text → List Row → Bool
has_bad_word name rows = has_bad_address rows || (bytes_eq name (codes "watch") && has_no_bytes rows
    || (has_bad_bytes rows || (is_bad name (codes "show") rows
    || (is_bad name (codes "fail-on") rows || (is_bad name (codes "until") rows || is_bad name (codes "as") rows)))))

-- ---- options that contradict each other

-- an option, whether it contradicts that another one is there or that it isn't, and that one; and an option that the subcommand has where
-- this counts: --quota where it runs a guest program by one plan, --weak where it makes executions if that is set
abbrev pub Contradiction : Type 0
Contradiction = Text × Bool × Text × Text

abbrev pub contradictions : List Contradiction
contradictions =
    (codes "plan-number", true, codes "quota", codes "plan-number")
    ∷ (codes "plan-number", true, codes "plan", codes "plan-number")
    ∷ (codes "plan-number", true, codes "budget", codes "plan-number")
    ∷ (codes "place", true, codes "round", codes "place")
    ∷ (codes "place", true, codes "count", codes "place")
    ∷ (codes "how-many", true, codes "place", codes "how-many")
    ∷ (codes "how-many", true, codes "count", codes "how-many")
    ∷ (codes "how-many", true, codes "see", codes "how-many")
    ∷ (codes "how-many", true, codes "see-object", codes "how-many")
    ∷ (codes "how-many", false, codes "round", codes "how-many")
    ∷ (codes "weak", true, codes "quota", codes "weak")
    ∷ (codes "weak", true, codes "plan", codes "weak")
    ∷ (codes "weak", true, codes "budget", codes "weak")
    ∷ (codes "weak", false, codes "plan-number", codes "quota")
    ∷ (codes "steps", false, codes "weak", codes "weak")
    ∷ (codes "seed", false, codes "plan-number", codes "quota")
    ∷ []

-- the line has the option, and the other one too, or not
abbrev pub contradicts : List Row → Contradiction → Bool
contradicts rows row = is_some (first_of row.3 rows)
    && (is_given row.0 rows && (if row.1 then is_given row.2 rows else not (is_given row.2 rows)))

abbrev pub is_after : Option ℕ → Option ℕ → Bool
is_after (Some first) (Some last) = nat_lt last first
is_after first last = false

-- the first round that is looked at comes after the last one
abbrev pub has_turned_rounds : List Row → Bool
has_turned_rounds rows =
    is_after (number_at 32 (codes "from") rows) (number_at 32 (codes "to") rows)

-- two of the options contradict each other
abbrev pub has_contradiction : List Row → Bool
has_contradiction rows = list_any (contradicts rows) contradictions || has_turned_rounds rows

-- ---- both

-- a word that clap takes is none, or two of the options contradict each other
abbrev pub word_fault : Option (Text × List Row) → Kinds
word_fault None = []
word_fault (Some met) = if has_bad_word met.0 met.1 then ValueValidation ∷ []
    else if has_contradiction met.1 then ArgumentConflict ∷ [] else []

-- the kinds of error that the words may give: those of clap, and where there are none, that of a bad word or of options that
-- contradict each other
abbrev pub line_fault : List Text → Kinds
line_fault words = or_else (fault_of dethart_app words) (word_fault (subcommand_of dethart_app words))
