use Rattle.std.proofs.Common.{◌≡◌, All, List, [], ◌∷◌, map, ap, refl, subst, sym, ℕ}
use Rattle.commit_phase.specs.Commit.{IsWritable}
use Rattle.phase_tests.proofs.commits.shards.commit_all.Goals as goal

unchanged : (bs : List (List (ℕ × ℕ))) → map (λ b. b) bs ≡ bs
unchanged [] = refl
unchanged (b ∷ bs) = ap (λ cs. b ∷ cs) (unchanged bs)

pub commit_on-requires-clause-writable : goal.commit_on-requires-clause-writable
commit_on-requires-clause-writable g c κs within =
    subst (All (IsWritable c.args.pages.now)) (sym (unchanged c.args.buffers.now)) (c.if-not-all_fit.ensures refl)
