use Rattle.pages.proofs.StoreLaws.{byte_after}
use Rattle.round_schedule.specs.Schedule.{all_stores}
use Rattle.round_schedule.proofs.laws.commit_is_last_store.Goals as goal

pub returns : goal.returns
returns g c = λ s rs x h. byte_after s.bytes x (all_stores rs) h
