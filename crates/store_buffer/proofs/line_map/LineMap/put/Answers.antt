use Rattle.std.proofs.Common.{◌≡◌, ◌∙◌, ◌-◌, ℕ, List, Option, Some, true, is_some, ap, sym, subst, if◌then◌else◌}
use Rattle.std.proofs.Math.ListN.{set}
use Rattle.std.proofs.lemmas.Bool.{false≢true}
use Rattle.std.proofs.lemmas.List.{get_or_default}
use Rattle.pages.specs.Memory.{byte_of, in_range, width_bytes}
use Rattle.store_buffer.specs.declared.line.Line.{Line}
use Rattle.store_buffer.specs.declared.slots.Numbered.{Numbered}
use Rattle.store_buffer.specs.Held.{Held}
use Rattle.store_buffer.specs.LineMaps.{HasTaken, lines_in}
use Rattle.store_buffer.specs.Lines.{line_at, line_of, index_of}
use Rattle.store_buffer.specs.Slots.{blank}
use Rattle.store_buffer.proofs.LineMaps.{held, line_listed, placed_on, some_listed, still_chained, taken, written}
use Rattle.store_buffer.proofs.line_map.LineMap.put.Goals as goal

pub returns-in_err-index-clause-room : goal.returns-in_err-index-clause-room
returns-in_err-index-clause-room c = λ h.
    let es = c.self.inside.indices.entries in
    let some : is_some (line_of (lines_in c.self.inside.lines.items es) c.args.number) ≡ true = subst (λ (xs : List (ℕ × Line)). is_some (line_of xs c.args.number) ≡ true) (sym c.self.view_is) h in
    let ok = c.in_err-index.ensures.room (some_listed c.self.inside.lines.items es c.args.number some) in
    absurd (false≢true ok)

-- a refusal leaves the lines
kept : (ls ms : List Numbered) (es fs : List (ℕ × ℕ)) → ms ≡ ls → fs ≡ es → Held (lines_in ls es) → Held (lines_in ms fs)
kept ls ms es fs d e h = subst (λ (l : List Numbered). Held (lines_in l fs)) (sym d) (subst (λ (x : List (ℕ × ℕ)). Held (lines_in ls x)) (sym e) h)

pub returns-in_err-index-clause-rising : goal.returns-in_err-index-clause-rising
returns-in_err-index-clause-rising c =
    (kept c.self.inside.lines.items c.index_for.new.lines.items c.self.inside.indices.entries c.index_for.new.indices.entries c.in_err-index.ensures.err_lines c.in_err-index.ensures.err_indices
    (held c.self.inside.lines.items c.self.inside.latest.items c.self.inside.indices c.self.invariant)).rising

pub returns-in_err-index-clause-near : goal.returns-in_err-index-clause-near
returns-in_err-index-clause-near c =
    (kept c.self.inside.lines.items c.index_for.new.lines.items c.self.inside.indices.entries c.index_for.new.indices.entries c.in_err-index.ensures.err_lines c.in_err-index.ensures.err_indices
    (held c.self.inside.lines.items c.self.inside.latest.items c.self.inside.indices c.self.invariant)).near

pub invariant_of-self-2 : goal.invariant_of-self-2
invariant_of-self-2 c =
    let ls = c.self.inside.lines.items in
    let ms = c.index_for.new.lines.items in
    let es = c.self.inside.indices.entries in
    let fs = c.index_for.new.indices.entries in
    let index = c.in_ok-index.index in
    let old = c.index_mut.result.now in
    let opened = c.in_ok-index.ensures.ok in
    let at = c.index_mut.ensures.value ∙ get_or_default ms index old blank opened.low in
    let number : old.number ≡ c.args.number = ap (λ (x : Numbered). x.number) at ∙ opened.number_there in
    let x : Numbered = record { number = old.number; before = old.before; line = c.put.new.self } in
    let changed = written ls ms es fs c.args.number index x opened number in
    record {
      placed = placed_on ls (set ms index x) es fs c.args.number index c.put.new.self c.self.invariant.placed changed;
      chained = still_chained ms c.index_for.new.latest.items index x opened.low (ap (λ (y : Numbered). y.number) at) (ap (λ (y : Numbered). y.before) at) c.index_for.ensures.chained;
      ordered = c.index_for.ensures.ordered c.self.invariant.ordered;
      near = c.index_for.ensures.near c.requires.number c.self.invariant.near;
    }

pub returns-clause-ok : goal.returns-clause-ok
returns-clause-ok c =
    let ls = c.self.inside.lines.items in
    let ms = c.index_for.new.lines.items in
    let es = c.self.inside.indices.entries in
    let fs = c.index_for.new.indices.entries in
    let index = c.in_ok-index.index in
    let old = c.index_mut.result.now in
    let w = width_bytes c.args.width in
    let opened = c.in_ok-index.ensures.ok in
    let at = c.index_mut.ensures.value ∙ get_or_default ms index old blank opened.low in
    let number : old.number ≡ c.args.number = ap (λ (x : Numbered). x.number) at ∙ opened.number_there in
    let x : Numbered = record { number = old.number; before = old.before; line = c.put.new.self } in
    let changed = written ls ms es fs c.args.number index x opened number in
    let before : (j : ℕ) → line_at old.line j ≡ index_of (line_of (lines_in ls es) c.args.number) j = λ j.
    ap (λ (x : Numbered). line_at x.line j) at ∙ opened.same j ∙ ap (λ (o : Option Line). index_of o j) (sym (line_listed ls es c.args.number)) in
    let news = set ms index x in
    subst (λ (xs : List (ℕ × Line)). HasTaken c.args.number c.args.at c.args.width c.args.value xs (lines_in news fs)) c.self.view_is
    (taken ls news es fs c.args.number index c.put.new.self c.self.invariant.placed changed c.args.at c.args.width c.args.value
    (λ j low. c.put.ensures j low ∙ ap (λ (o : Option ℕ). if in_range c.args.at w j then Some (byte_of c.args.value (j - c.args.at)) else o) (before j)))

pub returns-clause-rising : goal.returns-clause-rising
returns-clause-rising c =
    (held (set c.index_for.new.lines.items c.in_ok-index.index (record { number = c.index_mut.result.now.number; before = c.index_mut.result.now.before; line = c.put.new.self })) c.index_for.new.latest.items c.index_for.new.indices (invariant_of-self-2 c)).rising

pub returns-clause-near : goal.returns-clause-near
returns-clause-near c =
    (held (set c.index_for.new.lines.items c.in_ok-index.index (record { number = c.index_mut.result.now.number; before = c.index_mut.result.now.before; line = c.put.new.self })) c.index_for.new.latest.items c.index_for.new.indices (invariant_of-self-2 c)).near
