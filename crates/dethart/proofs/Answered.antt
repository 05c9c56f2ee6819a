-- The status of a command, by that of its answer.
use Rattle.std.proofs.Common.{◌≡◌, ◌⊎◌, ℕ, List, Err, IfErr, IfOk, Ok, Result, inl, inr, subst, sym, ⊎_elim}
use Rattle.clap.specs.Words.{IsAmong, kind_of}
use Rattle.clap.specs.declared.error.Error.{Error}
use Rattle.clap.specs.declared.error.kind.ErrorKind.{ErrorKind}
use Rattle.clap.specs.declared.error.kind.ErrorKind.TheVariants.{DisplayHelp, DisplayVersion, OutOfMemory}
use Rattle.command_line.specs.Faults.{line_fault}
use Rattle.command_line.specs.declared.settings.Command.{Command}
use Rattle.dethart.specs.Answers.{AskForText, IsDoneBy, OrRefused}
use Rattle.dethart.specs.declared.failure.Failure.TheVariants as failures
use Rattle.hunt_commands.specs.Relations.{HuntRelation}
use Rattle.program_files.specs.Relations.{FileRelations}
use Rattle.program_files.specs.declared.exit_status.ExitStatus.{ExitStatus}
use Rattle.program_files.specs.declared.exit_status.ExitStatus.TheVariants.{Refused}
use Rattle.weak_commands.specs.Relations.{FenceRelations}

-- what is promised of an answer is so of the status, which is that of the answer or of a refusal
pub finished : {E : Type 0} (r : Result ExitStatus E) (IsDone : ExitStatus → Type 0) (status : ExitStatus) →
    IfOk r (λ s. status ≡ s) → IfErr r (λ _. status ≡ Refused) → IfOk r IsDone → OrRefused IsDone status
finished (Ok s) IsDone status done refused h = inl (subst IsDone (sym done) h)
finished (Err e) IsDone status done refused h = inr refused

-- by what a command promises of its status, it was done
pub done_by : {E : Type 0} (f : FileRelations) (weakly : HuntRelation) (fences : FenceRelations) (command other : Command) (r : Result ExitStatus E) (P : ExitStatus → Type 0) → command ≡ other →
    ((s : ExitStatus) → P s → IsDoneBy f weakly fences other s) → IfOk r P → IfOk r (IsDoneBy f weakly fences command)
done_by f weakly fences command other (Ok s) P is more h = subst (λ (c : Command). IsDoneBy f weakly fences c s) (sym is) (more s h)
done_by f weakly fences command other (Err e) P is more h = tt

-- an error by which a text is printed is that of words that ask for it
pub asks : (words : List (List ℕ)) (e : Error) → (kind_of e ≡ OutOfMemory) ⊎ IsAmong (kind_of e) (line_fault words) →
    (kind_of e ≡ DisplayHelp) ⊎ (kind_of e ≡ DisplayVersion) → AskForText words
asks words e has is = ⊎_elim (λ memory. absurd (⊎_elim (λ help. no_help memory help) (λ version. no_version memory version) is)) (λ among.
    ⊎_elim (λ help. inl (subst (λ (k : ErrorKind). IsAmong k (line_fault words)) help among))
    (λ version. inr (subst (λ (k : ErrorKind). IsAmong k (line_fault words)) version among)) is) has
  where
    no_help : kind_of e ≡ OutOfMemory → kind_of e ≡ DisplayHelp → ⊥
    no_help a b = cc

    no_version : kind_of e ≡ OutOfMemory → kind_of e ≡ DisplayVersion → ⊥
    no_version a b = cc
