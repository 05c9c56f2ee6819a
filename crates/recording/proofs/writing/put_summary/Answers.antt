use Rattle.std.proofs.Common.{◌≡◌, ◌++◌, List, map, subst}
use Rattle.recording.specs.declared.recording.HartSummary.{HartSummary}
use Rattle.recording.specs.Fields.{spelled_each}
use Rattle.recording.specs.Grammar.{hart_summary}
use Rattle.recording.specs.Views.{hart_view}
use Rattle.recording.proofs.Written.{on_ok, then_written}
use Rattle.recording.proofs.writing.put_summary.Goals as goal

pub returns : goal.returns
returns c =
    on_ok c.put_harts.result _ _ (λ e count.
    then_written c.args.text.now.items c.put_double.new.text.items _ _ c.put_harts.new.text.items c.in_ok-put_double.ensures
    (then_written c.put_double.new.text.items c.put_double-2.new.text.items _ _ c.put_harts.new.text.items c.in_ok-put_double-2.ensures
    (subst (λ (hs : List HartSummary). c.put_harts.new.text.items ≡ c.put_double-2.new.text.items ++ spelled_each 0 (λ _. hart_summary) (map hart_view hs)) c.as_slice.ensures.value e))) c.put_harts.ensures
