use Rattle.std.proofs.Common.{◌≡◌, ℕ, ◌+◌, ◌++◌, List, ap, codes, ◌∙◌, append_assoc}
use Rattle.std.specs.Fmt.{decimal}
use Rattle.std.proofs.lemmas.Result.{on_ok_weaker}
use Rattle.execution_session.specs.Threads.{state_text}
use Rattle.execution_session.proofs.threads.put_thread.Goals as goal

five_behind : (t a b c d e : List ℕ) → t ++ a ++ b ++ c ++ d ++ e ≡ t ++ (a ++ b ++ c ++ d ++ e)
five_behind t a b c d e =
    ap (λ (xs : List ℕ). xs ++ e) (ap (λ (xs : List ℕ). xs ++ d) (ap (λ (xs : List ℕ). xs ++ c) (append_assoc t a b) ∙ append_assoc t (a ++ b) c) ∙ append_assoc t (a ++ b ++ c) d)
    ∙ append_assoc t (a ++ b ++ c ++ d) e

pub returns : goal.returns
returns c =
    let t = c.args.text.now.items in
    let i = c.args.number in
    let a : List ℕ = codes "<thread id=\"" ++ decimal (i + 1) in
    let b : List ℕ = codes "\" name=\"hart " ++ decimal i in
    let d = state_text c.args.hart.now.stop c.args.position c.args.hart.now.done in
    let first : c.put_words.new.text.items ≡ t ++ a = c.in_ok-put_words.ensures ∙ ap (λ (n : ℕ). t ++ (codes "<thread id=\"" ++ decimal (n + 1))) c.from.ensures in
    let second : c.put_words-2.new.text.items ≡ t ++ a ++ b =
    c.in_ok-put_words-2.ensures ∙ ap (λ (n : ℕ). c.put_words.new.text.items ++ (codes "\" name=\"hart " ++ decimal n)) c.from-2.ensures ∙ ap (λ (xs : List ℕ). xs ++ b) first in
    let third : c.put.new.text.items ≡ t ++ a ++ b ++ codes "\">" = c.in_ok-put.ensures ∙ ap (λ (xs : List ℕ). xs ++ codes "\">") second in
    let fourth : c.put_state.new.text.items ≡ t ++ a ++ b ++ codes "\">" ++ d = c.in_ok-put_state.ensures ∙ ap (λ (xs : List ℕ). xs ++ d) third in
    on_ok_weaker c.put-2.result (λ e. e ∙ ap (λ (xs : List ℕ). xs ++ codes "</thread>") fourth ∙ five_behind t a b (codes "\">") d (codes "</thread>")) c.put-2.ensures
