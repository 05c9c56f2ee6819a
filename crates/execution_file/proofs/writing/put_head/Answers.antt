use Rattle.execution_file.proofs.Written.{on_ok, then_written}
use Rattle.execution_file.proofs.writing.put_head.Goals as goal

pub returns : goal.returns
returns c =
    on_ok c.put_pages.result _ _ (λ e.
    then_written c.args.text.now.items c.put.new.text.items _ _ c.put_pages.new.text.items c.in_ok-put.ensures
    (then_written c.put.new.text.items c.put_number.new.text.items _ _ c.put_pages.new.text.items c.in_ok-put_number.ensures e)) c.put_pages.ensures
