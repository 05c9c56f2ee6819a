use Rattle.std.proofs.lemmas.Result.{IfOk-weaker}
use Rattle.std.specs.Prelude.{IfSome}
use Rattle.std.proofs.Common.{◌≡◌, subst}
use Rattle.machine.specs.Untraced.{IsUntraced, Untraced}
use Rattle.round_steps.specs.declared.told.Told.{Told}
use Rattle.gdb_runs.specs.Wanted.{nearest_of}
use Rattle.gdb_runs.specs.Sessions.{IsWithin, recorded_of}
use Rattle.gdb_runs.proofs.Finding.{nearest_found}
use Rattle.gdb_runs.proofs.Recording.{begun, found_within}
use Rattle.gdb_runs.proofs.asking.find.Goals as goal

pub returns-clause-finds : goal.returns-clause-finds
returns-clause-finds g c = λ m is w asks.
    nearest_found (recorded_of m c.args.run.now) c.args.way w c.args.from.now c.args.telling asks c.nearest-found.result (c.nearest-found.ensures.nearest m is)

pub returns-clause-within : goal.returns-clause-within
returns-clause-within g c =
    let d = c.args.run.now in
    let m = c.requires.run.0 in
    let is = subst (λ (u : Untraced). IsUntraced m u) c.requires.start c.requires.run.1 in
    let r = recorded_of m d in
    IfOk-weaker c.nearest-found.result (λ x. x ≡ nearest_of r c.args.way c.args.telling c.args.from.now) (λ x. IfSome x (λ (told : Told). IsWithin d told.point))
    (λ x e. found_within d m (begun d m is c.requires.start c.requires.fresh c.requires.harts) c.args.telling c.args.from.now c.args.way c.requires.within x e)
    (c.nearest-found.ensures.nearest m is)
