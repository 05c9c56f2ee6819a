-- The names of the subcommands.
use Rattle.std.specs.Prelude.{◌≡◌, ◌⊎◌, codes}
use Rattle.clap.specs.Words.{Text}

abbrev pub IsSubcommand : Text → Type 0
IsSubcommand name = (name ≡ codes "run") ⊎ (name ≡ codes "order") ⊎ (name ≡ codes "record")
    ⊎ (name ≡ codes "replay") ⊎ (name ≡ codes "watch") ⊎ (name ≡ codes "migrate") ⊎ (name ≡ codes "gdb")
    ⊎ (name ≡ codes "hunt") ⊎ (name ≡ codes "shrink") ⊎ (name ≡ codes "merge") ⊎ (name ≡ codes "fences")
    ⊎ (name ≡ codes "all") ⊎ (name ≡ codes "compare") ⊎ (name ≡ codes "plan") ⊎ (name ≡ codes "draw")
    ⊎ (name ≡ codes "trace") ⊎ (name ≡ codes "execution") ⊎ (name ≡ codes "check")
