-- As many harts stand behind a step as before it, and a file has as many lines.
use Rattle.std.proofs.Common.{◌≡◌, ◌⊎◌, ◌+◌, ◌∙◌, ℕ, List, [], ◌∷◌, None, Option, Some, ap, length, refl, suc, zero, ⊎_elim}
use Rattle.std.proofs.lemmas.List.{length-set}
use Rattle.pages.specs.Memory.{Memory}
use Rattle.execution.specs.Executions.{Goes, Standing, Stops}
use Rattle.execution.specs.Progressing.{IsTaken}
use Rattle.execution.specs.declared.step.ScriptedStep.{ScriptedStep}
use Rattle.execution.specs.declared.step_fault.StepFault.{StepFault}
use Rattle.hart_step.specs.declared.hart.Hart.{Hart}
use Rattle.round_schedule.specs.declared.event.Event.{Event}
use Rattle.elf_loader.specs.Image.{Loaded}
use Rattle.guest_rounds.specs.Guests.{opening_guest}
use Rattle.guest_rounds.specs.Opening.{opening_harts}
use Rattle.execution_file.specs.Recorded.{HartDeeds}
use Rattle.execution_file.specs.Deeds.{deeds, parts_from}
use Rattle.execution_scripts.specs.Findings.{start_of}

-- a step changes one hart
pub as_many : (m : Memory) (s : ScriptedStep) (p q : Standing) (fault : Option StepFault) → IsTaken fault m s p q → length q.harts ≡ length p.harts
as_many m s p q None h =
    ⊎_elim (λ (g : Goes m s.hart p q). ap (λ (hs : List Hart). length hs) g.harts ∙ length-set p.harts s.hart g.after)
    (λ (x : Stops m s.hart p q). ap (λ (hs : List Hart). length hs) x.harts ∙ length-set p.harts s.hart x.after)
    (h m (record { size = refl; code = refl; words = λ pc. refl })).step
as_many m s p q (Some f) h = ap (λ (x : Standing). length x.harts) h.1

parts : (h : ℕ) (gs : List Hart) (t : List Event) → length (parts_from h gs t) ≡ length gs
parts h [] t = refl
parts h (g ∷ gs) t = ap (λ k. suc k) (parts (h + 1) gs t)

-- as many harts as are opened
opened : (entry n i k : ℕ) → length (opening_harts entry n i k) ≡ k
opened entry n i zero = refl
opened entry n i (suc k) = ap (λ m. suc m) (opened entry n (suc i) k)

-- k harts, where a guest's execution begins that was opened with k harts
pub as_many_opened : (image : Loaded) (input : List ℕ) (k : ℕ) (p : Standing) → p ≡ start_of (opening_guest image input k) → length p.harts ≡ k
as_many_opened image input k p opens = ap (λ (s : Standing). length s.harts) opens ∙ opened image.entry k 0 k

-- a part for each of k harts
pub a_part_each : (k : ℕ) (p q : Standing) (hs : List Hart) (t : List Event) (ps : List HartDeeds) →
    length p.harts ≡ k → length q.harts ≡ length p.harts → hs ≡ q.harts → ps ≡ deeds hs t → length ps ≡ k
a_part_each k p q hs t ps count as_many_more are did =
    ap (λ (xs : List HartDeeds). length xs) did ∙ parts 0 hs t ∙ ap (λ (xs : List Hart). length xs) are ∙ as_many_more ∙ count
