use Rattle.std.proofs.Common.{◌≡◌, ◌<◌, ◌∙◌, ◌/◌, ap, sym, subst, arith, length, vec_len, get_or, map, true, List}
use Rattle.std.specs.List.{slice_set}
use Rattle.pages.specs.Flat.{absent, Page, flat, is_ready}
use Rattle.pages.specs.Memory.{store_fault, put}
use Rattle.pages.specs.Paged.{Paged, applied, spare_after}
use Rattle.pages.proofs.Accesses.{accepted_page}
use Rattle.pages.proofs.Applied.{applied_to, made_ready}
use Rattle.pages.proofs.pages.Pages.apply.Goals as goal

pub ready_page-requires-clause-page : goal.ready_page-requires-clause-page
ready_page-requires-clause-page c =
    let accepted = accepted_page c.self.inside.parts.items c.self.inside.code.items c.args.s.address c.args.s.width (ap (λ (h : Paged). store_fault h.memory c.args.s.address c.args.s.width) c.self.view_is ∙ c.requires.accepted) in
    subst (λ (ps : List Page). c.args.s.address / 4096 < length ps) (sym c.as_mut_slice-parts.ensures.value) accepted.1

pub put_into-requires-clause-page : goal.put_into-requires-clause-page
put_into-requires-clause-page c =
    let accepted = accepted_page c.self.inside.parts.items c.self.inside.code.items c.args.s.address c.args.s.width (ap (λ (h : Paged). store_fault h.memory c.args.s.address c.args.s.width) c.self.view_is ∙ c.requires.accepted) in
    omega (arith, accepted.1, c.ready_page.auto.parts, ap length c.as_mut_slice-parts.ensures.value)

pub put_into-requires-clause-ready : goal.put_into-requires-clause-ready
put_into-requires-clause-ready c =
    let accepted = accepted_page c.self.inside.parts.items c.self.inside.code.items c.args.s.address c.args.s.width (ap (λ (h : Paged). store_fault h.memory c.args.s.address c.args.s.width) c.self.view_is ∙ c.requires.accepted) in
    let below : c.args.s.address / 4096 < length c.as_mut_slice-parts.result.now = omega (arith, accepted.1, ap length c.as_mut_slice-parts.ensures.value) in
    let below' : c.args.s.address / 4096 < length c.ready_page.new.parts = omega (arith, below, c.ready_page.auto.parts) in
    made_ready c.as_mut_slice-parts.result.now c.ready_page.new.parts (c.args.s.address / 4096) below below' c.ready_page.ensures.ready

pub put_into-requires-clause-aligned : goal.put_into-requires-clause-aligned
put_into-requires-clause-aligned c =
    let accepted = accepted_page c.self.inside.parts.items c.self.inside.code.items c.args.s.address c.args.s.width (ap (λ (h : Paged). store_fault h.memory c.args.s.address c.args.s.width) c.self.view_is ∙ c.requires.accepted) in
    accepted.0

pub returns : goal.returns
returns c =
    let inside = c.self.inside in
    let page = c.args.s.address / 4096 in
    let lent = c.as_mut_slice-parts.ensures.value in
    let accepted = accepted_page inside.parts.items inside.code.items c.args.s.address c.args.s.width (ap (λ (h : Paged). store_fault h.memory c.args.s.address c.args.s.width) c.self.view_is ∙ c.requires.accepted) in
    let size : length c.put_into.new.parts ≡ inside.parts.len = omega (arith, c.put_into.auto.parts, c.ready_page.auto.parts, ap length lent, inside.parts.ok.0) in
    let bytes = c.put_into.ensures.bytes ∙ ap (λ bs. put bs c.args.s) (c.ready_page.ensures.bytes ∙ ap flat lent) in
    let ready = c.put_into.ensures.ready ∙ c.ready_page.ensures.ready ∙ ap (λ (ps : List Page). slice_set (map is_ready ps) page true) lent in
    let spare : length c.ready_page.new.spares.items ≡ spare_after (is_ready (get_or inside.parts.items page absent)) (length inside.spares.items) =
    let left : length c.ready_page.new.spares.items ≡ vec_len c.ready_page.new.spares = omega (arith, c.ready_page.new.spares.ok.0) in
    let had : vec_len inside.spares ≡ length inside.spares.items = omega (arith, inside.spares.ok.0) in
    left ∙ c.ready_page.ensures.spares ∙ ap (λ (ps : List Page). spare_after (is_ready (get_or ps page absent)) (vec_len inside.spares)) lent ∙ ap (spare_after (is_ready (get_or inside.parts.items page absent))) had in
    applied_to inside.parts.items c.put_into.new.parts inside.parts.len (length inside.spares.items) (length c.ready_page.new.spares.items) inside.code.items c.args.s size accepted.1 bytes ready spare
    ∙ ap (λ (h : Paged). applied h c.args.s) c.self.view_is
