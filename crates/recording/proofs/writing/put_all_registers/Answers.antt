use Rattle.std.proofs.Common.{◌≡◌, ◌+◌, ◌++◌, ℕ, List, subst, add-one}
use Rattle.std.specs.Global.{Vec}
use Rattle.std.specs.Int.{w64}
use Rattle.recording.specs.Fields.{each, spelled_each}
use Rattle.recording.specs.Grammar.{any}
use Rattle.recording.proofs.Written.{one_more, all_written}
use Rattle.recording.proofs.writing.put_all_registers.Goals as goal

pub loop-values-preserved : goal.loop-values-preserved
loop-values-preserved c =
    one_more (λ _. each 31 1 (λ _. any w64)) (λ (r : Vec ℕ). r.items) c.args.harts.now c.loop-values.values-index c.loop-values.values-index (c.loop-values.values-index + 1) c.values-item.result _ c.loop-values.text.items c.put_registers.new.text.items _
    c.loop-values-test.true c.values-item.is (add-one c.loop-values.values-index)
    (subst (λ (ns : List ℕ). c.put_registers.new.text.items ≡ c.loop-values.text.items ++ spelled_each 1 (λ _. any w64) ns) c.as_slice.ensures.value c.in_ok-put_registers.ensures) c.loop-values.invariant

pub returns : goal.returns
returns c = all_written (λ _. each 31 1 (λ _. any w64)) (λ (r : Vec ℕ). r.items) c.args.harts.now c.loop-values.values-index c.loop-values.values-index c.loop-values.text.items _ c.loop-values-test.false c.loop-values.invariant
