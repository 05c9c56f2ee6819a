use Rattle.std.proofs.Common.{◌+◌, refl, add-one}
use Rattle.recording.specs.Grammar.{hart_summary}
use Rattle.recording.specs.Views.{hart_view}
use Rattle.recording.proofs.Written.{one_more, all_written}
use Rattle.recording.proofs.writing.put_harts.Goals as goal

pub loop-hart-preserved : goal.loop-hart-preserved
loop-hart-preserved c =
    one_more (λ _. hart_summary) hart_view c.args.harts.now c.loop-hart.hart-index c.loop-hart.hart-index (c.loop-hart.hart-index + 1) _ _ c.loop-hart.text.items c.put_hart.new.text.items _
    c.loop-hart-test.true refl (add-one c.loop-hart.hart-index) c.in_ok-put_hart.ensures c.loop-hart.invariant

pub returns : goal.returns
returns c = all_written (λ _. hart_summary) hart_view c.args.harts.now c.loop-hart.hart-index c.loop-hart.hart-index c.loop-hart.text.items _ c.loop-hart-test.false c.loop-hart.invariant
