-- What a verdict of the checker of executions says of a guest.
use Rattle.std.proofs.Common.{◌≡◌, ℕ, ◌+◌, ◌*◌, ◌≤◌, List, length, map, slice_index, ap, ◌∙◌, subst, All}
use Rattle.pages.specs.declared.access.Piece.{Piece}
use Rattle.pages.specs.Initial.{bytes_from}
use Rattle.pages.specs.Memory.{Memory}
use Rattle.trace.specs.Traced.{Laid, laid, opening_at}
use Rattle.trace.proofs.Openings.{bytes_of_pieces, none_beyond, opening_is}
use Rattle.hart_step.specs.declared.hart.Hart.{Hart}
use Rattle.elf_loader.specs.Image.{Loaded, memory_of}
use Rattle.execution.specs.declared.step.ScriptedStep.{ScriptedStep}
use Rattle.execution.specs.Executions.{Standing}
use Rattle.execution.specs.Progressing.{at_start}
use Rattle.execution_checker.specs.declared.verdict.Verdict.{Verdict}
use Rattle.execution_checker.specs.declared.verdict.Verdict.TheVariants.{Allowed}
use Rattle.execution_checker.specs.Allowed.{Allows, Follows, IsVerdict}
use Rattle.serial_phase.specs.Opening.{opening_console}
use Rattle.weak_executions.specs.AllowedEnds.{IsAllowedEnd}

pub opened_at : (image : Loaded) (ps : List Piece) → bytes_from ps 0 (4096 * image.pages) ≡ image.bytes →
    All (λ (p : Piece). p.start + length p.bytes.items ≤ 4096 * image.pages) ps → (x : ℕ) → opening_at (map laid ps) x ≡ slice_index image.bytes x
opened_at image ps bytes within x =
    opening_is (map laid ps) (4096 * image.pages) (λ y l. none_beyond ps (4096 * image.pages) y within l) x
    ∙ ap (λ (bs : List ℕ). slice_index bs x) (bytes_of_pieces ps (4096 * image.pages) ∙ bytes)

pub allowed_end : (image : Loaded) (input : List ℕ) (harts : List Hart) (o : List Laid) (m : Memory) (script : List ScriptedStep) (order : List ℕ)
    (p q : Standing) (v : Verdict) (ends : List Hart) (output : List ℕ) → ((x : ℕ) → opening_at o x ≡ slice_index image.bytes x) → m ≡ memory_of image →
    p ≡ at_start harts (opening_console input) → IsVerdict v m (opening_at o) script order p q → ends ≡ q.harts → output ≡ q.console.output → v ≡ Allowed →
    IsAllowedEnd image input harts ends output
allowed_end image input harts o m script order p q v ends output opened memory start judged harts_are output_is allowed = record {
  script = script;
  order = order;
  end = q;
  follows = subst (λ (x : Memory). Follows x script (at_start harts (opening_console input)) q) memory (subst (λ (x : Standing). Follows m script x q) start both.0);
  allows = subst (λ (f : ℕ → ℕ). Allows f q order) same both.1;
  lead_to = harts_are;
  put_out = output_is;
}
  where
    both : Follows m script p q × Allows (opening_at o) q order
    both = subst (λ (w : Verdict). IsVerdict w m (opening_at o) script order p q) allowed judged

    same : opening_at o ≡ (λ x. slice_index image.bytes x)
    same = λ i. λ x. opened x i
