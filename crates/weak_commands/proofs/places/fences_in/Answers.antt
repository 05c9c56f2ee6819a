use Rattle.std.proofs.Common.{List, arith, inl, inr, map, subst, ℕ, ⊎_elim}
use Rattle.weak_commands.proofs.NamedWords.{Halfway, at_word, first_of, one_more}
use Rattle.weak_commands.proofs.places.fences_in.Goals as goal

pub returns-in-Err-clause-errors : goal.returns-in-Err-clause-errors
returns-in-Err-clause-errors g c =
    let file = c.args.file.now in
    let code = c.args.code.now in
    let words = c.args.words.now in
    let fences = c.loop-word.fences.items in
    let h = subst (λ (left : List (List ℕ)). Halfway file code (map (λ s. s.now) words) left fences) (at_word words c.loop-word.word-index _ (omega arith)) c.loop-word.invariant in
    ⊎_elim (λ memory. inl memory) (λ told. inr (_, c.in-Err.why, first_of file code (map (λ s. s.now) words) _ _ fences c.in-Err.why h c.in-Err.ensures, told)) c.no_place.ensures

pub loop-word-preserved : goal.loop-word-preserved
loop-word-preserved g c =
    let file = c.args.file.now in
    let code = c.args.code.now in
    let words = c.args.words.now in
    let fences = c.loop-word.fences.items in
    let h = subst (λ (left : List (List ℕ)). Halfway file code (map (λ s. s.now) words) left fences) (at_word words c.loop-word.word-index _ (omega arith)) c.loop-word.invariant in
    rw c.in_ok-add-in-Ok.ensures (one_more file code (map (λ s. s.now) words) _ _ fences c.in-Ok.fence h c.in-Ok.ensures)
