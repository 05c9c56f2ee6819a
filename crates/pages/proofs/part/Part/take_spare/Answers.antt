use Rattle.std.proofs.Common.{rules, ◌≡◌, length, ap, arith, ◌∙◌, false, inr, []}
use Rattle.pages.proofs.Page.{blank_taken, page_own, shared_taken}
use Rattle.pages.specs.Flat.{Page, bytes_in, full, page_of}
use Rattle.pages.proofs.part.Part.take_spare.Goals as goal
use Rattle.pages.proofs.part.Part.take_spare.Goals.{in-Some, in-None}

pub invariant_of-self : goal.invariant_of-self
invariant_of-self c =
    elim c.match-self.branch [
      | in-Some w ↦ (let size : length c.match-self.own.items ≡ 4096 = search rules in (inr size, tt))
      | in-None w ↦ (let size : length c.match-self.own.items ≡ 4096 = search rules in (inr size, tt))
    ]

pub returns-clause-bytes : goal.returns-clause-bytes
returns-clause-bytes c =
    let bs = c.self.inside.own.items in
    let shared = bytes_in c.self.inside.shared (λ a. a.value.items) in
    let unready : (page_of bs shared).own ≡ false = ap (λ (p : Page). p.own) c.self.view_is ∙ c.requires.unready in
    elim c.match-self.branch [
      | in-Some w ↦
          (let is : c.match-self.own.items ≡ shared = search rules in
          let size : length shared ≡ 4096 = search rules in
          shared_taken c.match-self.own.items bs shared is size unready ∙ ap full c.self.view_is)
      | in-None w ↦
          (let none : length shared ≡ 0 = search rules in
          blank_taken c.match-self.own.items bs shared (search rules) none unready ∙ ap full c.self.view_is)
    ]

pub returns-clause-ready : goal.returns-clause-ready
returns-clause-ready c =
    elim c.match-self.branch [
      | in-Some w ↦ (let size : length c.match-self.own.items ≡ 4096 = search rules in ap (λ (p : Page). p.own) (page_own c.match-self.own.items [] (omega (arith, size))))
      | in-None w ↦ (let size : length c.match-self.own.items ≡ 4096 = search rules in ap (λ (p : Page). p.own) (page_own c.match-self.own.items [] (omega (arith, size))))
    ]
