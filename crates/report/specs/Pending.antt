-- Text that goes to a sink by way of a line, which is put where it is long.
use Rattle.std.specs.Prelude.{◌≡◌, ℕ, ◌<◌, ◌⊎◌, List, ◌++◌, Result, MatchResult}
use Rattle.host_io.specs.declared.error.RunError.{RunError}
use Rattle.host_io.specs.declared.error.RunError.TheVariants.{OutOfMemory, SinkFailed}

-- what the sink took, how often it failed, and the text that is still to be put
pub record Way : Type 0 where
  pub took : List ℕ
  pub failures : ℕ
  pub line : List ℕ

abbrev pub way : List ℕ → ℕ → List ℕ → Way
way took failures line = record { took = took; failures = failures; line = line }

-- of a text, a beginning came to the sink after what was there, and the rest is not put
pub record Split (old new text rest : List ℕ) : Type 0 where
  pub gone : List ℕ
  pub out : new ≡ old ++ gone
  pub text_is : text ≡ gone ++ rest

-- a refusal of memory, or a failure of the sink, which counts it
abbrev pub Refused : RunError → ℕ → ℕ → Type 0
Refused e old new = ((e ≡ OutOfMemory) × (new ≡ old)) ⊎ ((e ≡ SinkFailed) × (old < new))

-- a call adds this text: with Ok it is in the sink or in the line; and else a beginning of it all is in the sink
unfoldable pub Wrote : List ℕ → Way → Result (Unit {0}) RunError → Way → Type 0
Wrote text old result new =
    MatchResult result
    (λ _. (new.failures ≡ old.failures) × Split old.took new.took (old.line ++ text) new.line)
    (λ e. Refused e old.failures new.failures × ((rest : List ℕ) × Split old.took new.took (old.line ++ text) rest))

-- a call adds this text to what a sink and a line hold: `Wrote`, by what the sink says that it took and how often it failed
abbrev pub Puts : {S : Type 0} → (S → List ℕ) → (S → ℕ) → List ℕ → S → List ℕ → Result (Unit {0}) RunError → S → List ℕ → Type 0
Puts took failures text out line result out_then line_then =
    Wrote text (way (took out) (failures out) line) result (way (took out_then) (failures out_then) line_then)
