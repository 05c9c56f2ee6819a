use Rattle.std.proofs.Common.{◌≡◌, ℕ, ◌+◌, ◌++◌, List, ap, sym, subst, ◌∙◌, append_assoc, add-one}
use Rattle.machine.specs.Machine.{Running}
use Rattle.machine.specs.Untraced.{IsUntraced}
use Rattle.past_harts.specs.declared.point.Point.{Point}
use Rattle.timelines.specs.Timelines.{Line}
use Rattle.gdb_replies.specs.Replies.{thread_list_begin}
use Rattle.gdb_answers.specs.Answers.{note_at, thread_entries, thread_entry}
use Rattle.gdb_answers.proofs.threads.thread_list.Goals as goal

one_more : (m : Running) (at : Point) (i : ℕ) (before text : List ℕ) → before ≡ thread_list_begin ++ thread_entries m at i →
    text ≡ before ++ thread_entry (note_at m at i) → text ≡ thread_list_begin ++ thread_entries m at (i + 1)
unfolding thread_entries
one_more m at i before text e f =
    f ∙ ap (λ (xs : List ℕ). xs ++ thread_entry (note_at m at i)) e
    ∙ append_assoc thread_list_begin (thread_entries m at i) (thread_entry (note_at m at i))
    ∙ ap (λ (k : ℕ). thread_list_begin ++ thread_entries m at k) (sym (add-one i))

pub loop-hart-preserved : goal.loop-hart-preserved
loop-hart-preserved g c = (
  c.in_ok-add_entry.ensures.stays ∙ c.loop-hart.invariant.0,
  λ m is.
      let P : Line → Type 0 = λ t. IsUntraced m t.start in
      one_more m c.args.look.point c.loop-hart.hart c.loop-hart.text.items c.add_entry.new.text.items (c.loop-hart.invariant.1 m is)
      (c.in_ok-add_entry.ensures.entry m (subst P (sym c.loop-hart.invariant.0) is)),
)
