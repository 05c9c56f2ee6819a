use Rattle.std.proofs.Common.{◌≡◌, ◌<◌, ◌∙◌, ◌-◌, ◌^◌, ℕ, ap, rules, length, get_or, slice_index, true, if◌then◌else◌}
use Rattle.pages.specs.Flat.{Page, bytes_in, full, page_of}
use Rattle.pages.specs.Memory.{in_range}
use Rattle.pages.proofs.Laying.{laid_back}
use Rattle.pages.proofs.Page.{own_size}
use Rattle.pages.proofs.part.Part.fill.Goals as goal

pub returns-clause-bytes : goal.returns-clause-bytes
returns-clause-bytes c =
    let bs = c.self.inside.own.items in
    let w = c.lay_over.new.bytes in
    let shared = bytes_in c.self.inside.shared (λ a. a.value.items) in
    let ready : (page_of bs shared).own ≡ true = ap (λ (p : Page). p.own) c.self.view_is ∙ c.in_ok-make_own.ensures.ready in
    let size : length bs ≡ 4096 = own_size bs shared c.self.invariant.0 ready in
    let len : c.self.inside.own.len ≡ 4096 = search rules in
    let same : length w ≡ length bs = search rules in
    let small : (j : ℕ) → get_or bs j 0 < 2 ^ 8 = search (rules, c.lay_over.ensures.old_bytes) in
    let laid : (j : ℕ) → get_or w j 0 ≡ (if in_range c.args.place (length c.args.bytes.now) j then get_or c.args.bytes.now (j - c.args.place) 0 else get_or bs j 0) = search (rules, c.lay_over.ensures.laid) in
    λ k h. laid_back bs w shared c.args.bytes.now c.args.place c.self.inside.own.len size len same small c.lay_over.ensures.new_bytes laid k
    ∙ ap (λ q. if in_range c.args.place (length c.args.bytes.now) k then slice_index c.args.bytes.now (k - c.args.place) else slice_index q k) (ap full c.self.view_is ∙ c.in_ok-make_own.ensures.bytes)
