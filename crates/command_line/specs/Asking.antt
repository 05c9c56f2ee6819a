-- Words that ask for a text, and the options that ask for the same.
use Rattle.std.specs.Prelude.{List, [], ◌∷◌, if◌then◌else◌, codes}
use Rattle.std.specs.Str.{bytes_eq}
use Rattle.clap.specs.Words.{Text}

-- the option that asks for the same as the word, if one does, and else the word
abbrev pub option_of : Text → Text
option_of word = if bytes_eq word (codes "help") then codes "--help"
    else if bytes_eq word (codes "version") then codes "--version" else word

-- `help`, `help COMMAND` and `version` as `--help`, `COMMAND --help` and `--version`; other words as they are
abbrev pub asked_by_options : List Text → List Text
asked_by_options (program ∷ word ∷ []) = program ∷ option_of word ∷ []
asked_by_options (program ∷ word ∷ command ∷ []) =
    if bytes_eq word (codes "help") then program ∷ command ∷ codes "--help" ∷ []
    else program ∷ word ∷ command ∷ []
asked_by_options words = words
