use Rattle.std.proofs.Common.{◌≡◌, ◌<◌, ◌≤◌, ◌%◌, ◌/◌, ◌∙◌, Some, true, ap, rules, length, get_or}
use Rattle.std.specs.List.{list_any}
use Rattle.pages.specs.Code.{has_word}
use Rattle.pages.specs.Flat.{absent, flat, full}
use Rattle.pages.specs.Memory.{fetched, number_at}
use Rattle.pages.specs.Paged.{Paged}
use Rattle.pages.proofs.Accesses.{fetch_inside, fetch_outside, outside_page}
use Rattle.pages.proofs.CodeTests.{all_code_by_word}
use Rattle.pages.proofs.pages.Pages.fetch.Goals as goal
use Rattle.pages.proofs.pages.Pages.fetch.Goals.{in-Some, in-None}

pub returns-then-has_word_at : goal.returns-then-has_word_at
returns-then-has_word_at c =
    let ps = c.self.inside.parts.items in
    let code = c.self.inside.code.items in
    let word : list_any (has_word c.args.pc) code ≡ true = search rules in
    elim c.match-get.branch [
      | in-Some w ↦
          (let inside : c.args.pc / 4096 < length ps = search rules in
          let part : w.in-Some.part.now ≡ get_or ps (c.args.pc / 4096) absent = search rules in
          w.result-is
          ∙ ap (λ v. Some v) (w.number.ensures.value ∙ ap (λ q. number_at (full q) (c.args.pc % 4096) 4) part)
          ∙ fetch_inside ps code c.args.pc inside (search rules) (all_code_by_word code c.args.pc word)
          ∙ ap (λ (h : Paged). fetched h.memory c.args.pc) c.self.view_is)
      | in-None w ↦
          (let outside : length ps ≤ c.args.pc / 4096 = search rules in
          w.result-is
          ∙ fetch_outside (record { bytes = flat ps; code = code }) c.args.pc (outside_page ps c.args.pc outside)
          ∙ ap (λ (h : Paged). fetched h.memory c.args.pc) c.self.view_is)
    ]
