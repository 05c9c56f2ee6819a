use Rattle.std.proofs.Common.{◌≡◌, ◌∙◌, ℕ, List, true, is_some, ap, rules, subst, sym}
use Rattle.store_buffer.specs.Covered.{byte_at, with_store}
use Rattle.store_buffer.specs.Lines.{line_of, lines_bytes}
use Rattle.store_buffer.proofs.LineMaps.{on_ok}
use Rattle.store_buffer.proofs.LineNumbers.{in_one_line}
use Rattle.store_buffer.proofs.LineOrder.{line_there, put_lines, rising_lines}
use Rattle.store_buffer.proofs.store_buffer.StoreBuffer.put.Goals as goal

pub put-requires : goal.put-requires
put-requires c = record {
  number = search rules;
  at = in_one_line c.args.s.address c.args.s.width c.requires;
}

pub returns-clause-ok : goal.returns-clause-ok
returns-clause-ok c =
    let s = c.args.s in
    on_ok c.put.result _ _ (λ took. put_lines c.self.inside.lines c.put.new.self took.line s c.self.invariant.rising c.put.ensures.rising (in_one_line s.address s.width c.requires) took.others took.here
    ∙ ap (λ (es : List (ℕ × ℕ)). with_store es s) c.self.view_is) c.put.ensures.ok

pub returns-clause-room : goal.returns-clause-room
returns-clause-room c = λ x same covered.
    let es = c.self.inside.lines in
    let inside : is_some (byte_at (lines_bytes es) x) ≡ true = subst (λ (zs : List (ℕ × ℕ)). is_some (byte_at zs x) ≡ true) (sym c.self.view_is) covered in
    c.put.ensures.room (subst (λ (k : ℕ). is_some (line_of es k) ≡ true) same (line_there es x c.self.invariant.rising inside))

pub returns-clause-rising : goal.returns-clause-rising
returns-clause-rising c = rising_lines 0 c.put.new.self c.put.ensures.rising
