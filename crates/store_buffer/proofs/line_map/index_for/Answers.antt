use Rattle.std.proofs.Common.{◌≡◌, ◌<◌, ◌∙◌, List, None, Option, ap, is_some, length, subst, ℕ}
use Rattle.std.proofs.lemmas.Bool.{false≢true}
use Rattle.store_buffer.specs.declared.slots.Numbered.{Numbered}
use Rattle.store_buffer.specs.LineMaps.{ArePlaced, listed_at}
use Rattle.store_buffer.specs.Slots.{number_in}
use Rattle.store_buffer.proofs.LineMaps.{added, none_listed, where_ok}
use Rattle.store_buffer.proofs.line_map.index_for.Goals as goal

-- no line was found, so none is listed
absent : (ls ms : List Numbered) (es : List (ℕ × ℕ)) (number : ℕ) → ms ≡ ls → ArePlaced ls es → ((p : ℕ) → p < length ms → number_in ms p ≡ number → ⊥) → None ≡ listed_at es number
absent ls ms es number e a none = none_listed ls es number a (subst (λ (l : List Numbered). (p : ℕ) → p < length l → number_in l p ≡ number → ⊥) e none)

pub returns-in-None-clause-ok : goal.returns-in-None-clause-ok
returns-in-None-clause-ok c =
    let none = absent c.args.lines.now.items c.deref.result.now c.args.indices.now.entries c.args.number c.deref.ensures.value c.requires.placed c.in-None.ensures.none in
    where_ok c.add_line.result _ _ (λ index h. added c.args.lines.now.items c.add_line.new.lines.items c.args.indices.now.entries c.add_line.new.indices.entries c.args.number index c.requires.placed none h) c.add_line.ensures.ok

pub returns-in-None-clause-room : goal.returns-in-None-clause-room
returns-in-None-clause-room c = λ some.
    let none = absent c.args.lines.now.items c.deref.result.now c.args.indices.now.entries c.args.number c.deref.ensures.value c.requires.placed c.in-None.ensures.none in
    absurd (false≢true (ap (λ (o : Option ℕ). is_some o) none ∙ some))
