use Rattle.std.proofs.Common.{ℕ, below_more, get_or, refl, subst}
use Rattle.std.proofs.lemmas.List.{get_or_read}
use Rattle.commit_phase.specs.Commit.{IsWritable}
use Rattle.phase_tests.proofs.commits.shards.all_fit.Goals as goal

pub loop-buffer-preserved : goal.loop-buffer-preserved
loop-buffer-preserved c =
    let bs = c.args.buffers.now in
    let i = c.loop-buffer.buffer-index in
    record {
      fit = λ k d low.
          below_more (λ (n : ℕ). IsWritable c.args.pages.now (get_or bs n d)) i (λ n h. c.loop-buffer.invariant.fit n d h)
          (subst (IsWritable c.args.pages.now) (get_or_read bs i c.buffer-item.result c.loop-buffer-test.true c.buffer-item.is d) (record { fits = c.if-not-fits.ensures.fits refl; ready = c.if-not-fits.ensures.ready refl }))
          k low;
    }
