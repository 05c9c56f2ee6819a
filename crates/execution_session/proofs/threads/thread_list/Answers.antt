use Rattle.std.proofs.Common.{◌≡◌, ℕ, ◌+◌, ◌++◌, List, ap, sym, ◌∙◌, append_assoc, add-one}
use Rattle.gdb_replies.specs.Replies.{thread_list_begin}
use Rattle.execution_moments.specs.Shown.{hart_at}
use Rattle.execution_moments.specs.Looked.{Looked, looked_at}
use Rattle.execution_session.specs.Sessions.{position_at}
use Rattle.execution_session.specs.Threads.{thread_entries, thread_entry}
use Rattle.execution_session.proofs.threads.thread_list.Goals as goal

one_more : (r : Looked) (time i : ℕ) (before text : List ℕ) → before ≡ thread_list_begin ++ thread_entries r time i →
    text ≡ before ++ thread_entry i (position_at r time i) (hart_at r.course time i) → text ≡ thread_list_begin ++ thread_entries r time (i + 1)
unfolding thread_entries
one_more r time i before text e f =
    f ∙ ap (λ (xs : List ℕ). xs ++ thread_entry i (position_at r time i) (hart_at r.course time i)) e
    ∙ append_assoc thread_list_begin (thread_entries r time i) (thread_entry i (position_at r time i) (hart_at r.course time i))
    ∙ ap (λ (k : ℕ). thread_list_begin ++ thread_entries r time k) (sym (add-one i))

pub loop-number-preserved : goal.loop-number-preserved
loop-number-preserved c = one_more (looked_at c.args.past.now) c.args.time c.loop-number.number c.loop-number.text.items c.put_entry.new.text.items c.loop-number.invariant c.in_ok-put_entry.ensures
