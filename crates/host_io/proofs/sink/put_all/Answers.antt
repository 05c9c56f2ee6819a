use Rattle.std.proofs.Common.{◌≡◌, ℕ, ◌+◌, ◌==◌, ◌&&◌, Bool, cond, arith, ◌∙◌}
use Rattle.std.proofs.lemmas.Bool.Decides.{nat_tests}
use Rattle.host_io.proofs.Putting.{put_more}
use Rattle.host_io.proofs.sink.put_all.Goals as goal

took_some : (n old new : ℕ) (more : Bool) → (n ≡ 0 → ⊥) → new ≡ cond ((n == 0) && more) (old + 1) old → new ≡ old
took_some n old new more some e = grind (arith, nat_tests)

pub loop-rest-preserved : goal.loop-rest-preserved
loop-rest-preserved g c = record {
  putting = put_more _ _ _ _ _ c.in-Ok.n c.in-Ok.ensures.within c.in-Ok.ensures.took c.loop-rest.invariant.putting;
  failures = took_some c.in-Ok.n _ _ _ c.in-Ok.n-test.1 c.in-Ok.ensures.counts ∙ c.loop-rest.invariant.failures;
}
