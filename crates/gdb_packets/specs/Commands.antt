-- Commands of the user's, which gdb sends for `monitor COMMAND`.
use Rattle.std.specs.Prelude.{ℕ, Bool, true, false, if◌then◌else◌, List, [], ◌∷◌, codes, Option, Some, None}
use Rattle.gdb_packets.specs.declared.command.Command.{Command}
use Rattle.gdb_packets.specs.declared.command.Command.TheVariants as commands
use Rattle.gdb_packets.specs.Fields.{behind_spelled, spelled_number}

-- the text is this word, spelled in hexadecimal digits, and nothing more
abbrev pub is_all : Option (List ℕ) → Bool
is_all None = false
is_all (Some []) = true
is_all (Some (b ∷ bs)) = false

abbrev pub by_rest : Option (List ℕ) → (List ℕ → Command) → Command
by_rest None f = commands.Unknown
by_rest (Some bs) f = f bs

abbrev pub is_word : List ℕ → List ℕ → Bool
is_word word bs = is_all (behind_spelled word bs)

-- where to go: a round, a hart's place in it, or the end
abbrev pub placed_by : ℕ → ℕ → Option (ℕ × List ℕ) → Command
placed_by round hart None = commands.Unknown
placed_by round hart (Some x) = if is_all (Some x.1) then commands.GotoPlace round hart x.0 else commands.Unknown

abbrev pub hart_by : ℕ → Option (ℕ × List ℕ) → Command
hart_by round None = commands.Unknown
hart_by round (Some x) = by_rest (behind_spelled (codes " ") x.1) (λ r. placed_by round x.0 (spelled_number r))

abbrev pub round_by : Option (ℕ × List ℕ) → Command
round_by None = commands.Unknown
round_by (Some x) = if is_all (Some x.1) then commands.GotoRound x.0 else by_rest (behind_spelled (codes " ") x.1) (λ r. hart_by x.0 (spelled_number r))

abbrev pub goto_of : List ℕ → Command
goto_of bs = if is_word (codes "end") bs then commands.GotoEnd else round_by (spelled_number bs)

abbrev pub command_of : List ℕ → Command
command_of bs =
    if is_word (codes "where") bs then commands.Where
    else (if is_word (codes "harts") bs then commands.Harts
    else (if is_word (codes "buffer") bs then commands.Buffer
    else (if is_word (codes "event") bs then commands.Event
    else (if is_word (codes "reservations") bs then commands.Reservations
    else (if is_word (codes "plan") bs then commands.Plan
    else (if is_word (codes "output") bs then commands.Output
    else (if is_word (codes "help") bs then commands.Help
    else (if is_word (codes "hits on") bs then commands.HitsOn
    else (if is_word (codes "hits off") bs then commands.HitsOff
    else by_rest (behind_spelled (codes "goto ") bs) goto_of)))))))))
