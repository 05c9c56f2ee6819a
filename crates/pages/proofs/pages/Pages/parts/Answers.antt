use Rattle.std.proofs.Common.{◌≡◌, ◌∙◌, ap, map, length, refl, rules}
use Rattle.pages.specs.Flat.{flat, is_ready}
use Rattle.pages.specs.Paged.{Paged, with_pages}
use Rattle.pages.proofs.Lent.{given_back}
use Rattle.pages.proofs.pages.Pages.parts.Goals as goal

pub returns : goal.returns
returns c =
    let inside = c.self.inside in
    let size : inside.parts.len ≡ length inside.parts.items = search rules in (
      (refl, λ w. given_back inside.parts.items w inside.parts.len (length inside.spares.items) inside.code.items size ∙ ap (λ (h : Paged). with_pages h w) c.self.view_is),
      record {
        writes_back = tt;
        bytes = ap flat c.as_mut_slice.ensures.value ∙ ap (λ (h : Paged). h.memory.bytes) c.self.view_is;
        ready = ap (map is_ready) c.as_mut_slice.ensures.value ∙ ap (λ (h : Paged). h.ready) c.self.view_is;
      },
    )
