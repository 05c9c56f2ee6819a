use Rattle.std.proofs.Common.{◌≡◌, ◌<◌, ◌^◌, ◌%◌, ℕ, get_or, length, rules, ◌∙◌, ap, true}
use Rattle.pages.proofs.Page.{own_size, put_back}
use Rattle.pages.specs.Flat.{Page, bytes_in, full, in_page, page_of}
use Rattle.pages.specs.Memory.{put, written, width_bytes}
use Rattle.pages.proofs.part.Part.apply.Goals as goal

pub returns-clause-bytes : goal.returns-clause-bytes
returns-clause-bytes c =
    let bs = c.self.inside.own.items in
    let shared = bytes_in c.self.inside.shared (λ a. a.value.items) in
    let own : (page_of bs shared).own ≡ true = ap (λ (p : Page). p.own) c.self.view_is ∙ c.requires.ready in
    let size : length bs ≡ 4096 = own_size bs shared c.self.invariant.0 own in
    let len : c.self.inside.own.len ≡ 4096 = search rules in
    let small : (k : ℕ) → get_or bs k 0 < 2 ^ 8 = search (rules, c.write_number.ensures.bytes) in
    let is = c.write_number.ensures.written ∙ ap (λ q. written q (c.args.s.address % 4096) c.args.s.value (width_bytes c.args.s.width)) c.deref_mut.ensures.value in
    put_back bs c.write_number.new.bytes shared c.args.s c.self.inside.own.len size len small is ∙ ap (λ q. put (full q) (in_page c.args.s)) c.self.view_is
