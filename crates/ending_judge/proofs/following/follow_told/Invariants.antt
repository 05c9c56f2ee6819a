use Rattle.execution.specs.Executions.{IsLike}
use Rattle.ending_judge.specs.JudgedEndings.{AreOutputs}
use Rattle.ending_judge.proofs.following.follow_told.Given as goal

-- what each hart has put out so far
abbrev pub invariant-loop-index : goal.invariant-loop-index
invariant-loop-index l = record {
  like : IsLike l.fn.execution.memory l.execution.memory;
  told : AreOutputs l.fn.execution.memory l.fn.execution.standing l.execution.standing l.outputs.items;
}
