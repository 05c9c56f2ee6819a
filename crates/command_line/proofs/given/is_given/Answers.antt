use Rattle.std.proofs.Common.{◌≡◌, ◌∙◌, ap, find, option_map, refl, sym, Option, Some, None}
use Rattle.std.specs.Prelude.{option_and_then}
use Rattle.clap.specs.Facts.{Entry}
use Rattle.clap.specs.Words.{Text, found_of, matched_of, rows_of}
use Rattle.clap.specs.Walk.{row_of}
use Rattle.clap.specs.declared.parser.matches.Found.{Found}
use Rattle.std.specs.Str.{bytes_eq}
use Rattle.clap.proofs.WalkLemmas.{find_row}
use Rattle.command_line.specs.Reading.{is_from_line, source_of}
use Rattle.command_line.proofs.given.is_given.Goals as goal

source-rows : (f : Found) (id : Text) → option_and_then (λ a. a.source) (matched_of f id) ≡ source_of id (rows_of f)
source-rows f id = go (find (λ e. bytes_eq e.0.now id) f.entries.items) ∙ ap (option_and_then (λ r. r.source)) (sym (find_row f.entries.items id))
  where
    go : (o : Option Entry) → option_and_then (λ a. a.source) (option_map (λ e. e.1) o) ≡ option_and_then (λ r. r.source) (option_map row_of o)
    go None = refl
    go (Some e) = refl

pub returns : goal.returns
returns c = c.is_from_line.ensures ∙ ap is_from_line (c.value_source.ensures ∙ source-rows (found_of c.args.matches.now) c.args.id.now)
