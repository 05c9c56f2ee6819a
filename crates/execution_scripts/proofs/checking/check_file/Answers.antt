use Rattle.std.proofs.Common.{◌≡◌, ℕ, ◌∙◌, ap, arith, length, subst, sym, IfOk}
use Rattle.std.proofs.lemmas.List.{length-map}
use Rattle.elf_loader.specs.Image.{Loaded}
use Rattle.guest_rounds.specs.Guests.{Guest, opening_guest}
use Rattle.execution_file.specs.Views.{as_recorded, hart_view}
use Rattle.execution_scripts.specs.Findings.{IsFound, guest_in, image_in}
use Rattle.execution_scripts.proofs.checking.check_file.Goals as goal

pub returns : goal.returns
returns c =
    let r = as_recorded c.args.file.now in
    let n = length c.args.file.now.harts.items in
    let same : opening_guest c.in_ok-image.image r.input n ≡ guest_in r =
    ap (λ (i : Loaded). opening_guest i r.input n) c.in_ok-image.ensures
    ∙ ap (λ (k : ℕ). opening_guest (image_in r) r.input k) (sym (length-map c.args.file.now.harts.items hart_view)) in
    subst (λ (g : Guest). IfOk c.check_over.result (λ k. IsFound g r c.args.asked k.finding k)) same c.check_over.ensures
