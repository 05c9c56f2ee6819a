use Rattle.std.proofs.Common.{◌≡◌, ℕ, List, ◌∙◌, ap, arith, length, sym}
use Rattle.std.proofs.lemmas.List.{length-map}
use Rattle.elf_loader.specs.Image.{Loaded}
use Rattle.guest_rounds.specs.Guests.{Guest, opening_guest}
use Rattle.execution_file.specs.Views.{as_recorded, hart_view}
use Rattle.execution_file.specs.declared.file.ExecutionFile.{ExecutionFile}
use Rattle.execution_scripts.specs.Findings.{guest_in, image_in, start_of}
use Rattle.execution_session.proofs.opening.start.Goals as goal

same_guest : (f : ExecutionFile) (image : Loaded) (input : List ℕ) (harts : ℕ) → image ≡ image_in (as_recorded f) → input ≡ f.input.items → harts ≡ length f.harts.items →
    opening_guest image input harts ≡ guest_in (as_recorded f)
same_guest f image input harts image_is input_is count =
    ap (λ (i : Loaded). opening_guest i input harts) image_is
    ∙ ap (λ (xs : List ℕ). opening_guest (image_in (as_recorded f)) xs harts) input_is
    ∙ ap (λ (n : ℕ). opening_guest (image_in (as_recorded f)) f.input.items n) (count ∙ sym (length-map f.harts.items hart_view))

pub returns-clause-memory : goal.returns-clause-memory
returns-clause-memory c =
    let same =
    same_guest c.args.file.now c.in_ok-image.image c.deref.result.now c.len-harts.result c.in_ok-image.ensures c.deref.ensures.value
    (omega (arith, c.len-harts.ensures, c.args.file.now.harts.ok.0)) in
    c.in_ok-open_execution.ensures.memory ∙ ap (λ (g : Guest). g.shared.memory) same

pub returns-clause-standing : goal.returns-clause-standing
returns-clause-standing c =
    let same =
    same_guest c.args.file.now c.in_ok-image.image c.deref.result.now c.len-harts.result c.in_ok-image.ensures c.deref.ensures.value
    (omega (arith, c.len-harts.ensures, c.args.file.now.harts.ok.0)) in
    c.in_ok-open_execution.ensures.standing ∙ ap start_of same
