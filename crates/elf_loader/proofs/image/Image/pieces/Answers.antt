use Rattle.std.proofs.Common.{◌*◌, length, sym, ◌∙◌, ap, subst}
use Rattle.elf_loader.specs.Image.{Loaded}
use Rattle.pages.specs.Initial.{length-bytes_from}
use Rattle.pages.specs.Memory.{IsBytes}
use Rattle.elf_loader.proofs.Bytes.{bytes_from-small}
use Rattle.elf_loader.proofs.image.Image.pieces.Goals as goal

pub returns-clause-length : goal.returns-clause-length
returns-clause-length c =
    let inside = c.self.inside in
    let same = c.self.view_is in
    ap (λ (i : Loaded). length i.bytes) (sym same) ∙ length-bytes_from inside.pieces.items 0 (4096 * inside.pages) ∙ ap (λ (i : Loaded). 4096 * i.pages) same

pub returns-clause-is_bytes : goal.returns-clause-is_bytes
returns-clause-is_bytes c =
    let inside = c.self.inside in
    subst (λ (i : Loaded). IsBytes i.bytes) c.self.view_is (bytes_from-small inside.pieces.items 0 (4096 * inside.pages) c.self.invariant.bytes)
