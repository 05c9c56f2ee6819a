use Rattle.std.proofs.Common.{◌≡◌, ℕ, List, IsSomeAnd, Option, None, Some, sym, ◌∙◌, subst, arith}
use Rattle.std.specs.Global.{Vec}
use Rattle.hart_step.specs.declared.hart.Stop.{Stop}
use Rattle.all_endings.specs.Walking.{HartEnding}
use Rattle.hart_states.specs.States.{state_of}
use Rattle.run_places.proofs.following.end_of.Goals as goal

none_is_none : {s : Stop} → None ≡ Some s → ⊥
none_is_none e = cc

same_stop : (s t : Stop) → Some s ≡ Some t → s ≡ t
same_stop s t e = cc

abbrev end_with : Stop → List ℕ → HartEnding
end_with s o = record { stop = s; output = o }

same_end : (s t : Stop) (o p : List ℕ) → s ≡ t → o ≡ p → end_with s o ≡ end_with t p
same_end s t o p e f = cc

pub returns-in-None : goal.returns-in-None
returns-in-None c = λ paid e at.
    absurd (none_is_none (sym c.in-None.is ∙ (c.in_ok-stop.ensures ∙ c.stops_are_known.ensures c.args.against.now.memory.pages.now.memory (state_of c.args.place.now.state) e.stop at.halts at.knows)))

pub returns-in-Some-2 : goal.returns-in-Some-2
returns-in-Some-2 c = λ paid e at.
    let stopped = same_stop c.in-Some.stop e.stop
    (sym c.in-Some.is ∙ (c.in_ok-stop.ensures ∙ c.stops_are_known.ensures c.args.against.now.memory.pages.now.memory (state_of c.args.place.now.state) e.stop at.halts at.knows)) in
    let told = subst (λ (r : Option (Vec ℕ)). IsSomeAnd r (λ (v : Vec ℕ). v.items ≡ e.output)) c.in-Some-2.is (c.in_ok-output.ensures e.output (c.deref.ensures.value ∙ at.puts)) in
    (0, omega arith, same_end c.in-Some.stop e.stop c.in-Some-2.output.items e.output stopped told)
