use Rattle.std.proofs.Common.{ap, inl, option_map, refl}
use Rattle.host_io.specs.declared.error.RunError.TheVariants as refusals
use Rattle.hunter.specs.Hunts.{hunt_fault}
use Rattle.hunter.specs.declared.error.HuntError.TheVariants as hunting
use Rattle.program_files.proofs.Failing.{why_cut}
use Rattle.program_files.proofs.Unprinted.{unprinted}
use Rattle.weak_hunter.specs.Refusals.{weak_hunt_number}
use Rattle.weak_hunter.specs.WeakHunts.{IsWeakReason}
use Rattle.weak_hunter.specs.declared.error.WeakHuntError.TheVariants.{Hunt}
use Rattle.host_world.proofs.searches.HostWorldWeakHunts.hunt_weakly.Goals as goal

pub returns-clause-unprinted : goal.returns-clause-unprinted
returns-clause-unprinted g c =
    unprinted weak_hunt_number (Hunt (hunting.Run refusals.OutOfMemory)) (Hunt (hunting.Run refusals.SinkFailed)) c.hunt_weakly.result refl refl (rw (c.deref.ensures.value, c.deref-2.ensures.value) at c.hunt_weakly.ensures.writes)

pub returns-clause-errors : goal.returns-clause-errors
returns-clause-errors g c = λ none. why_cut (option_map Hunt (hunt_fault c.args.asked.now.settings.now)) (IsWeakReason c.args.asked.now.settings.now c.args.files.now.image.items) c.hunt_weakly.result
    (rw (c.deref.ensures.value, c.deref-2.ensures.value) at c.hunt_weakly.ensures.writes) (inl refl) (ap (option_map Hunt) none)
