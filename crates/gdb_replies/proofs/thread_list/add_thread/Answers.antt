use Rattle.std.proofs.Common.{◌++◌, ◌+◌, ◌∙◌, ℕ, List, ap, codes}
use Rattle.std.specs.Fmt.{decimal}
use Rattle.std.proofs.lemmas.Result.{on_ok_weaker}
use Rattle.gdb_replies.specs.Replies.{thread_words}
use Rattle.gdb_replies.specs.Words.{thread_text}
use Rattle.gdb_replies.proofs.Texts.{assoc}
use Rattle.gdb_replies.proofs.thread_list.add_thread.Goals as goal

pub returns : goal.returns
returns c =
    let n = c.args.note.now in
    let id : List ℕ = codes "<thread id=\"" ++ thread_text (n.hart + 1) in
    let rest : List ℕ = (codes "\" name=\"hart " ++ decimal n.hart) ++ thread_words n in
    on_ok_weaker c.put_name.result (λ e. e ∙ ap (λ (xs : List ℕ). xs ++ rest) c.in_ok-put_id.ensures ∙ assoc c.args.text.now.items id rest) c.put_name.ensures
