use Rattle.std.proofs.Common.{[], ℕ, List, ap, inl, inr, option_map, refl, subst, ⊎_elim}
use Rattle.host_io.specs.Taken.{BeganText}
use Rattle.hunter.specs.Hunts.{hunt_fault}
use Rattle.program_files.proofs.Failing.{why_cut}
use Rattle.program_files.proofs.Told.{where_refused}
use Rattle.host_io.proofs.Answered.{begun}
use Rattle.weak_hunter.specs.WeakHunts.{IsWeakReason}
use Rattle.weak_hunter.specs.declared.error.WeakHuntError.TheVariants.{Hunt}
use Rattle.host_world.proofs.searches.HostWorldFenceSearches.search_fences.Goals as goal

pub returns-clause-begun : goal.returns-clause-begun
returns-clause-begun g c =
    let old = g.S.Sink.took c.args.out.now in
    let new = g.S.Sink.took c.find_fences.new.out in
    where_refused c.find_fences.result _ _ (λ h. ⊎_elim (λ same. inl same) (λ b. inr (
      b.answer.table,
      [],
      b.is_text.table,
      b.is_text.told,
      tt,
      subst (λ (t : List ℕ). BeganText old new t) b.is_text.is_text b.began,
    )) h) (begun _ (rw (c.deref.ensures.value, c.deref-2.ensures.value) at c.find_fences.ensures.writes))

pub returns-clause-errors : goal.returns-clause-errors
returns-clause-errors g c = λ none. why_cut (option_map Hunt (hunt_fault c.args.settings.hunt)) (IsWeakReason c.args.settings.hunt c.args.files.now.image.items) c.find_fences.result
    (rw (c.deref.ensures.value, c.deref-2.ensures.value) at c.find_fences.ensures.writes) (inl refl) (ap (option_map Hunt) none)
