use Rattle.trace.proofs.RunForms.{leaves_trace}
use Rattle.trace.proofs.laws.runs_leave_traces.Goals as goal

pub returns : goal.returns
returns g c = λ w done forms counts budget most quotas low n hs bs c bytes size none small. leaves_trace w done forms counts budget most quotas low n hs bs c bytes size none small
