use Rattle.std.proofs.Common.{◌≡◌, ◌∷◌, ◌∙◌, ◌+◌, ◌-◌, ◌%◌, ◌/◌, ◌^◌, ◌<◌, ℕ, List, All, ap, sym, subst, refl, arith, inl, inr, length, true}
use Rattle.pages.specs.Flat.{Page, absent, is_ready}
use Rattle.commit_phase.specs.Writing.{Written}
use Rattle.std.proofs.lemmas.List.{get_or_default}
use Rattle.std.proofs.lemmas.List.Elements.{All-head, All-tail}
use Rattle.store_buffer.specs.declared.line.Line.{Line}
use Rattle.store_buffer.specs.Lines.{lent_bytes, whole_line}
use Rattle.commit_phase.proofs.Sharding.{line_writable, sharding_begun, sharding_over, sharding_same, sharding_skips, sharding_takes}
use Rattle.commit_phase.proofs.shard.write_shard.Goals as goal

abbrev IsLine : ℕ × Line → Type 0
IsLine e = (e.0 % 64 ≡ 0) × (e.0 < 2 ^ 64)

-- the alignment of the lines that are left, the first of them taken
abbrev all_aligned : (rest now : List (ℕ × Line)) (e : ℕ × Line) → rest ≡ e ∷ now → All IsLine rest → All IsLine (e ∷ now)
all_aligned rest now e is all = subst (λ (es : List (ℕ × Line)). All IsLine es) is all

pub loop-start-init : goal.loop-start-init
loop-start-init c =
    let same : c.into_iter-start-iterator.result ≡ c.lines-start-items.result = c.into_iter-start-iterator.ensures.into_iter_gives in
    record {
      sharding = sharding_begun c.args.first c.args.parts.now c.args.buffer.now (lent_bytes c.into_iter-start-iterator.result) (sym (ap lent_bytes same ∙ c.lines-start-items.ensures.bytes)) c.requires.ready;
      aligned = subst (λ (es : List (ℕ × Line)). All IsLine es) (sym same) c.lines-start-items.ensures.aligned;
    }

pub loop-start-preserved-then-page-first : goal.loop-start-preserved-then-page-first
loop-start-preserved-then-page-first c =
    let next = ap lent_bytes c.in-Some.ensures.steps in
    let all = all_aligned c.loop-start.start-iterator c.next.new.self (c.in-Some.start, c.in-Some.line.now) c.in-Some.ensures.steps c.loop-start.invariant.aligned in
    record {
      sharding = sharding_skips c.args.first c.args.parts.now c.loop-start.parts c.args.buffer.now (lent_bytes c.next.new.self) c.in-Some.start c.in-Some.line.now
          (All-head IsLine (c.in-Some.start, c.in-Some.line.now) c.next.new.self all).0 (inl c.if-page-first.true)
          (sharding_same c.args.first c.args.parts.now c.loop-start.parts c.args.buffer.now _ _ next c.loop-start.invariant.sharding);
      aligned = All-tail IsLine (c.in-Some.start, c.in-Some.line.now) c.next.new.self all;
    }

pub loop-start-preserved-then-page-end : goal.loop-start-preserved-then-page-end
loop-start-preserved-then-page-end c =
    let next = ap lent_bytes c.in-Some.ensures.steps in
    let all = all_aligned c.loop-start.start-iterator c.next.new.self (c.in-Some.start, c.in-Some.line.now) c.in-Some.ensures.steps c.loop-start.invariant.aligned in
    record {
      sharding = sharding_skips c.args.first c.args.parts.now c.loop-start.parts c.args.buffer.now (lent_bytes c.next.new.self) c.in-Some.start c.in-Some.line.now
          (All-head IsLine (c.in-Some.start, c.in-Some.line.now) c.next.new.self all).0 (inr c.if-page-end.true)
          (sharding_same c.args.first c.args.parts.now c.loop-start.parts c.args.buffer.now _ _ next c.loop-start.invariant.sharding);
      aligned = All-tail IsLine (c.in-Some.start, c.in-Some.line.now) c.next.new.self all;
    }

pub write_line-requires-clause-ready : goal.write_line-requires-clause-ready
write_line-requires-clause-ready c =
    let next = ap lent_bytes c.in-Some.ensures.steps in
    let all = all_aligned c.loop-start.start-iterator c.next.new.self (c.in-Some.start, c.in-Some.line.now) c.in-Some.ensures.steps c.loop-start.invariant.aligned in
    let k : ℕ = c.in-Some.start / 4096 - c.args.first in
    let page : c.args.first + k ≡ c.in-Some.start / 4096 = omega (arith, c.if-page-first.false) in
    let low : k < length c.args.parts.now = omega (arith, c.if-page-first.false, c.if-page-end.false) in
    subst (λ (p : Page). All (λ (e : ℕ × ℕ). is_ready p ≡ true) (whole_line (c.in-Some.start % 4096) c.in-Some.line.now)) (get_or_default c.loop-start.parts k absent c.index-parts-page.result (omega (arith, low, c.loop-start.invariant.sharding.count)))
    (line_writable c.args.first c.args.parts.now c.loop-start.parts c.args.buffer.now (lent_bytes c.next.new.self) c.in-Some.start k (c.in-Some.start % 4096) c.in-Some.line.now page low
    (All-head IsLine (c.in-Some.start, c.in-Some.line.now) c.next.new.self all).0
    (sharding_same c.args.first c.args.parts.now c.loop-start.parts c.args.buffer.now _ _ next c.loop-start.invariant.sharding))

pub loop-start-preserved : goal.loop-start-preserved
loop-start-preserved c =
    let next = ap lent_bytes c.in-Some.ensures.steps in
    let all = all_aligned c.loop-start.start-iterator c.next.new.self (c.in-Some.start, c.in-Some.line.now) c.in-Some.ensures.steps c.loop-start.invariant.aligned in
    let k : ℕ = c.in-Some.start / 4096 - c.args.first in
    let page : c.args.first + k ≡ c.in-Some.start / 4096 = omega (arith, c.if-page-first.false) in
    let low : k < length c.args.parts.now = omega (arith, c.if-page-first.false, c.if-page-end.false) in
    record {
      sharding = sharding_takes c.args.first c.args.parts.now c.loop-start.parts c.args.buffer.now (lent_bytes c.next.new.self) c.in-Some.start k (c.in-Some.start % 4096) c.in-Some.line.now c.write_line.new.part page low refl
          (All-head IsLine (c.in-Some.start, c.in-Some.line.now) c.next.new.self all).0
          (subst (λ (p : Page). Written (whole_line (c.in-Some.start % 4096) c.in-Some.line.now) p c.write_line.new.part) (sym (get_or_default c.loop-start.parts k absent c.index-parts-page.result (omega (arith, low, c.loop-start.invariant.sharding.count)))) c.write_line.ensures)
          (sharding_same c.args.first c.args.parts.now c.loop-start.parts c.args.buffer.now _ _ next c.loop-start.invariant.sharding);
      aligned = All-tail IsLine (c.in-Some.start, c.in-Some.line.now) c.next.new.self all;
    }

pub returns : goal.returns
returns c = sharding_over c.args.first c.args.parts.now c.loop-start.parts c.args.buffer.now (lent_bytes c.loop-start.start-iterator) (ap lent_bytes c.in-None.ensures.steps.0) c.loop-start.invariant.sharding
