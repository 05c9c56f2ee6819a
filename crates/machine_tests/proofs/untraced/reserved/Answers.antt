use Rattle.std.proofs.lemmas.Result.{IfOk-weaker}
use Rattle.std.proofs.Common.{◌≡◌, [], refl}
use Rattle.machine.specs.Machine.{Running}
use Rattle.machine.specs.Untraced.{AreLast, IsUntraced, Untraced}
use Rattle.machine_tests.proofs.untraced.reserved.Goals as goal

none_yet : (m : Running) (u : Untraced) → IsUntraced m u → m.state.trace ≡ [] → AreLast u []
none_yet m u i e = (m, i, ([], e))

pub returns : goal.returns
returns c = IfOk-weaker c.prepare_untraced.result _ _ (λ u x. none_yet _ u x.2 refl) c.prepare_untraced.ensures.machine
