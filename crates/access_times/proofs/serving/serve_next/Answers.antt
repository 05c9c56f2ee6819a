use Rattle.std.proofs.Common.{◌∙◌, ap, length}
use Rattle.execution.proofs.Liking.{length-answered}
use Rattle.access_times.proofs.serving.serve_next.Goals as goal

pub returns : goal.returns
returns c = record { reservations = ap length c.serve.ensures.serves.reservations ∙ length-answered c.from.result _ c.args.shared.now.reservations }
