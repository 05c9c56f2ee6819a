-- The files of runs.
use Rattle.std.specs.Prelude.{◌≡◌, ℕ, Bool, true, false, List, length}
use Rattle.round_planner.specs.declared.settings.Format.{Format}
use Rattle.round_planner.specs.declared.settings.Format.TheVariants.{Elf, Flat}
use Rattle.round_planner.specs.declared.settings.Settings.{Settings}
use Rattle.machine.specs.Machine.{Running}
use Rattle.execution_file.specs.Recorded.{HartDeeds, Recorded}
use Rattle.execution_file.specs.Deeds.{deeds}
use Rattle.execution_makers.specs.declared.scripted.ScriptedGuest.{ScriptedGuest}

abbrev pub is_flat : Format → Bool
is_flat Flat = true
is_flat Elf = false

-- a file of this image and this input, in which the harts do this
pub record IsFileWith (s : Settings) (file given : List ℕ) (parts : List HartDeeds) (r : Recorded) : Type 0 where
  pub flat : r.flat ≡ is_flat s.format
  pub pages : r.pages ≡ s.pages
  pub image : r.image ≡ file
  pub input : r.input ≡ given
  pub harts : r.harts ≡ parts

-- in which they do what they did in a run
abbrev pub IsFileOf : Settings → List ℕ → List ℕ → Running → Recorded → Type 0
IsFileOf s image input m r = IsFileWith s image input (deeds m.state.harts m.state.trace) r

-- a file of this guest: of its image and its input, and for so many harts
pub record IsFileFor (g : ScriptedGuest) (r : Recorded) : Type 0 where
  pub flat : r.flat ≡ is_flat g.format
  pub pages : r.pages ≡ g.pages
  pub image : r.image ≡ g.image.now
  pub input : r.input ≡ g.input.now
  pub harts : length r.harts ≡ g.harts
