use Rattle.std.proofs.Common.{◌≡◌, ◌<◌, ◌+◌, ◌*◌, ◌%◌, ◌^◌, ◌++◌, ◌∷◌, [], ℕ, List, ap, sym, subst, rules, arith, length, ◌∙◌, w64, slice_index, bit_and}
use Rattle.std.specs.Int.{bit_not, trailing_zeros}
use Rattle.std.proofs.Math.Nat.{mod-eq_of_lt}
use Rattle.std.specs.Map.{keys_of}
use Rattle.std.proofs.lemmas.List.Elements.{All-head, All-tail}
use Rattle.store_buffer.specs.declared.line.Line.{Line}
use Rattle.store_buffer.specs.Covered.{one_byte, stores_of}
use Rattle.store_buffer.specs.Held.{AllNear}
use Rattle.store_buffer.specs.Lines.{lines_bytes, whole_line}
use Rattle.store_buffer.proofs.LineFirst.{lines_first, lines_next, whole_empty}
use Rattle.store_buffer.proofs.stores.StoresIterator.next.Goals as goal

pub returns-in_err-number-clause-steps : goal.returns-in_err-number-clause-steps
returns-in_err-number-clause-steps c =
    let inside = c.loop-self.self-inside in
    let ended = c.in_err-number.ensures.steps in
    let empty = whole_empty inside.start inside.line c.loop-self-test.true in
    let before : c.args.self.now ≡ [] = sym c.loop-self.invariant.same ∙ ap (λ xs. xs ++ lines_bytes inside.rest) empty ∙ ap lines_bytes ended.0 in
    let after : whole_line inside.start inside.line ++ lines_bytes c.next.new.self ≡ [] = ap (λ xs. xs ++ lines_bytes c.next.new.self) empty ∙ ap lines_bytes ended.1 in
    rw c.from_residual.ensures (ap stores_of before, ap stores_of after)

pub loop-self-preserved : goal.loop-self-preserved
loop-self-preserved c =
    let inside = c.loop-self.self-inside in
    let k = c.in_ok-number.number in
    let l = c.in_ok-number.line.now in
    let es = c.next.new.self in
    let step : inside.rest ≡ (k, l) ∷ es = c.in_ok-number.ensures.steps in
    let near : AllNear ((k, l) ∷ es) = subst (λ (es : List (ℕ × Line)). AllNear es) step c.loop-self.invariant.near in
    let low : k < 2 ^ 58 = All-head (λ k. k < 2 ^ 58) k (keys_of es) near in
    record {
      same = lines_next inside.start k inside.line l es (lines_bytes inside.rest) c.args.self.now c.loop-self.invariant.same c.loop-self-test.true (ap lines_bytes step);
      within = omega arith;
      near = All-tail (λ k. k < 2 ^ 58) k (keys_of es) near;
    }

pub returns-clause-steps : goal.returns-clause-steps
returns-clause-steps c =
    let inside = c.loop-self.self-inside in
    let small : inside.line.mask < 2 ^ 64 = search rules in
    let index = trailing_zeros w64 inside.line.mask in
    let first = lines_first inside.start inside.line (lines_bytes inside.rest) c.args.self.now c.loop-self.invariant.same c.loop-self-test.false small in
    let byte : slice_index inside.line.bytes index < 2 ^ 8 = search rules in
    let value : slice_index inside.line.bytes index % 2 ^ 8 ≡ c.from-2.result = mod-eq_of_lt byte ∙ sym c.from-2.ensures in
    let address : inside.start + index ≡ inside.start + c.from.result = ap (λ n. inside.start + n) (sym c.from.ensures) in
    ap stores_of first ∙ ap (λ s. s ∷ stores_of (whole_line inside.start (record inside.line { mask = bit_and inside.line.mask (bit_not w64 (1 * 2 ^ index % 2 ^ 64)) }) ++ lines_bytes inside.rest))
    (ap (λ a. one_byte (a, slice_index inside.line.bytes index % 2 ^ 8)) address ∙ ap (λ v. one_byte (inside.start + c.from.result, v)) value)

pub returns-clause-goes : goal.returns-clause-goes
returns-clause-goes c =
    let inside = c.loop-self.self-inside in
    let small : inside.line.mask < 2 ^ 64 = search rules in
    let first = lines_first inside.start inside.line (lines_bytes inside.rest) c.args.self.now c.loop-self.invariant.same c.loop-self-test.false small in
    let shorter = ap length (ap stores_of first) in
    record {
      on = λ _. (tt, tt, omega (arith, shorter));
      keeps = tt;
      rests = λ _. tt;
    }
