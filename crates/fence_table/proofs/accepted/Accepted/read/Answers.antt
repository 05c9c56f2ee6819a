use Rattle.std.proofs.Common.{◌∙◌, ◌-◌, ◌++◌, ◌+◌, ◌≡◌, ℕ, suc, Bool, if◌then◌else◌, List, Some, None, ap, arith, inr, length, option_map}
use Rattle.fence_table.specs.Accepting.{Words, accepted_in, lines_said}
use Rattle.fence_table.proofs.Lists.{after_none, goes_on, is_none}
use Rattle.fence_table.proofs.accepted.Accepted.read.Goals as goal

pub loop-index-init : goal.loop-index-init
unfolding accepted_in
loop-index-init c =
    let text = c.args.text.now in
    let all : length text - 0 ≡ length text = omega arith in
    ap (λ (ps : List Words). option_map (λ more. ps ++ more) (lines_said (length text - 0) text)) c.new-pairs.ensures.items
    ∙ (after_none (lines_said (length text - 0) text) ∙ ap (λ (n : ℕ). lines_said n text) all)

pub returns-then-not-branch-clause-errors : goal.returns-then-not-branch-clause-errors
returns-then-not-branch-clause-errors c =
    let more : length c.args.text.now - c.loop-index.index ≡ suc (length c.args.text.now - (c.loop-index.index + 1)) = omega arith in
    inr (is_none _ _ _ c.loop-index.pairs.items c.loop-index.rest.now _ more c.length_before-end.ensures.count (c.in_ok-add_line.ensures ∙ ap (λ (t : Bool). if t then Some c.add_line.new.pairs.items else None) c.if-not-branch.true) c.loop-index.invariant)

pub loop-index-preserved : goal.loop-index-preserved
loop-index-preserved c =
    let more : length c.args.text.now - c.loop-index.index ≡ suc (length c.args.text.now - (c.loop-index.index + 1)) = omega arith in
    goes_on _ _ _ c.loop-index.pairs.items c.add_line.new.pairs.items c.loop-index.rest.now _ _ more c.length_before-end.ensures.count c.after-rest.ensures (c.in_ok-add_line.ensures ∙ ap (λ (t : Bool). if t then Some c.add_line.new.pairs.items else None) c.if-not-branch.false) c.loop-index.invariant
