use Rattle.std.proofs.Common.{◌≡◌, true, false, sym, ◌∙◌}
use Rattle.std.proofs.lemmas.Bool.{eq-eqb}
use Rattle.all_endings.specs.RunStates.{answers_to}
use Rattle.run_places.proofs.Puts.{stays_by}
use Rattle.run_places.proofs.constants.constant_behind.Goals as goal

true_or_false : true ≡ false → ⊥
true_or_false e = cc

pub returns-then-index-eq-CALL_NUMBER : goal.returns-then-index-eq-CALL_NUMBER
returns-then-index-eq-CALL_NUMBER c = λ is.
    let at : answers_to c.args.i.now ≡ 17 = sym c.answered.ensures ∙ (sym c.index.ensures.value ∙ c.if-index-eq-CALL_NUMBER.true) in
    stays_by c.args.before c.args.i.now (λ e. c.puts_constant.ensures is) (λ e. absurd (true_or_false (sym (eq-eqb (answers_to c.args.i.now) 17 at) ∙ e)))
