use Rattle.recording.specs.Grammar.{is_due, registers, summary}
use Rattle.recording.specs.Fields.{where_due}
use Rattle.recording.specs.Views.{registers_view, summary_view}
use Rattle.recording.proofs.Written.{on_ok, then_written}
use Rattle.recording.proofs.writing.put_checkpoint.Goals as goal

pub returns : goal.returns
returns c =
    on_ok c.put_due.result _ _ (λ e count.
    then_written c.args.text.now.items c.put_summary.new.text.items ((summary count).spelled (summary_view c.args.checkpoint.now.summary))
    ((where_due (is_due c.args.every c.args.round) (registers count)).spelled (registers_view c.args.checkpoint.now.registers)) c.put_due.new.text.items
    (c.in_ok-put_summary.ensures count) (e count)) c.put_due.ensures
