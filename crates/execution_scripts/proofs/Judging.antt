-- A verdict over the pieces of an image is one over its bytes.
use Rattle.std.proofs.Common.{◌≡◌, ℕ, ◌+◌, ◌*◌, ◌≤◌, List, Option, length, map, slice_index, ap, ◌∙◌, refl, subst, All}
use Rattle.pages.specs.declared.access.Piece.{Piece}
use Rattle.pages.specs.Initial.{bytes_from}
use Rattle.pages.specs.Memory.{Memory}
use Rattle.trace.specs.Traced.{Laid, laid, opening_at}
use Rattle.trace.proofs.Openings.{bytes_of_pieces, none_beyond, opening_is}
use Rattle.elf_loader.specs.Image.{Loaded}
use Rattle.guest_rounds.specs.Guests.{Guest, opening_guest}
use Rattle.execution.specs.declared.step.ScriptedStep.{ScriptedStep}
use Rattle.execution.specs.Executions.{Standing}
use Rattle.execution_checker.specs.declared.verdict.Verdict.{Verdict}
use Rattle.execution_checker.specs.Allowed.{IsVerdict}
use Rattle.execution_views.specs.declared.sights.HartStep.{HartStep}
use Rattle.execution_file.specs.Recorded.{Recorded}
use Rattle.execution_scripts.specs.Findings.{IsFound, IsJudged, start_of}
use Rattle.execution_scripts.specs.Misfits.{IsUnsaid}
use Rattle.execution_scripts.specs.declared.fault.Fault.{Fault as FaultFound}
use Rattle.execution_scripts.specs.declared.checking.Checked.{Checked}
use Rattle.execution_scripts.specs.declared.checking.Finding.{Finding}
use Rattle.execution_scripts.specs.declared.checking.Finding.TheVariants.{Fault, Judged}

pub opened_at : (image : Loaded) (ps : List Piece) → bytes_from ps 0 (4096 * image.pages) ≡ image.bytes →
    All (λ (p : Piece). p.start + length p.bytes.items ≤ 4096 * image.pages) ps → (x : ℕ) → opening_at (map laid ps) x ≡ slice_index image.bytes x
opened_at image ps bytes within x =
    opening_is (map laid ps) (4096 * image.pages) (λ y l. none_beyond ps (4096 * image.pages) y within l) x
    ∙ ap (λ (bs : List ℕ). slice_index bs x) (bytes_of_pieces ps (4096 * image.pages) ∙ bytes)

pub verdict_on : (image : Loaded) (input : List ℕ) (n : ℕ) (ps : List Piece) (o : List Laid) (m : Memory) (p : Standing) (v : Verdict) (ss : List ScriptedStep) (order : List ℕ) (q : Standing) →
    bytes_from ps 0 (4096 * image.pages) ≡ image.bytes → All (λ (r : Piece). r.start + length r.bytes.items ≤ 4096 * image.pages) ps → o ≡ map laid ps →
    m ≡ (opening_guest image input n).shared.memory → p ≡ start_of (opening_guest image input n) → IsVerdict v m (opening_at o) ss order p q →
    IsVerdict v (opening_guest image input n).shared.memory (λ x. slice_index image.bytes x) ss order (start_of (opening_guest image input n)) q
verdict_on image input n ps o m p v ss order q bytes within opened memory start judged =
    subst (λ (f : ℕ → ℕ). IsVerdict v (opening_guest image input n).shared.memory f ss order (start_of (opening_guest image input n)) q) same
    (subst (λ (x : Standing). IsVerdict v (opening_guest image input n).shared.memory (opening_at o) ss order x q) start
    (subst (λ (x : Memory). IsVerdict v x (opening_at o) ss order p q) memory judged))
  where
    at_byte : (x : ℕ) → opening_at o x ≡ slice_index image.bytes x
    at_byte x = ap (λ (ls : List Laid). opening_at ls x) opened ∙ opened_at image ps bytes within x

    same : opening_at o ≡ (λ x. slice_index image.bytes x)
    same = λ i. λ x. at_byte x i

-- what is found, where it is so of each verdict and of each fault that it may be
pub found_by : (g : Guest) (r : Recorded) (asked : Option HartStep) (f : Finding) (c : Checked) → ((v : Verdict) → f ≡ Judged v → IsJudged g r asked v c) →
    ((x : FaultFound) → f ≡ Fault x → IsUnsaid g.shared.memory r (start_of g) x) → IsFound g r asked f c
found_by g r asked (Judged v) c h u = h v refl
found_by g r asked (Fault x) c h u = u x refl
