-- A request that is none to change breakpoints and watchpoints.
use Rattle.std.proofs.Common.{◌≡◌, ℕ, None, refl}
use Rattle.gdb_packets.specs.declared.request.Request.{Request}
use Rattle.gdb_packets.specs.declared.request.Request.TheVariants as requests
use Rattle.gdb_packets.specs.declared.request.Watch.{Watch}
use Rattle.gdb_talk.specs.Stops.{Stopping, changed_by}

pub unchanged : (s : Stopping) (request : Request) → ((a : ℕ) → request ≡ requests.AddStop a → ⊥) → ((a : ℕ) → request ≡ requests.RemoveStop a → ⊥) → ((a : ℕ) → request ≡ requests.AddHardwareStop a → ⊥) → ((a : ℕ) → request ≡ requests.RemoveHardwareStop a → ⊥) → ((k : Watch) (a n : ℕ) → request ≡ requests.AddWatch k a n → ⊥) → ((k : Watch) (a n : ℕ) → request ≡ requests.RemoveWatch k a n → ⊥) →
    changed_by s request ≡ None
unchanged s requests.Features _ _ _ _ _ _ = refl
unchanged s (requests.Description o c) _ _ _ _ _ _ = refl
unchanged s requests.WhyStopped _ _ _ _ _ _ = refl
unchanged s (requests.ThreadList o c) _ _ _ _ _ _ = refl
unchanged s requests.FirstThreads _ _ _ _ _ _ = refl
unchanged s requests.MoreThreads _ _ _ _ _ _ = refl
unchanged s requests.PresentThread _ _ _ _ _ _ = refl
unchanged s (requests.Note n) _ _ _ _ _ _ = refl
unchanged s requests.Attached _ _ _ _ _ _ = refl
unchanged s (requests.SelectGeneral n) _ _ _ _ _ _ = refl
unchanged s (requests.SelectMoving n) _ _ _ _ _ _ = refl
unchanged s (requests.IsAlive n) _ _ _ _ _ _ = refl
unchanged s requests.ReadRegisters _ _ _ _ _ _ = refl
unchanged s (requests.ReadRegister n) _ _ _ _ _ _ = refl
unchanged s (requests.ReadMemory a n) _ _ _ _ _ _ = refl
unchanged s (requests.Checksum a n) _ _ _ _ _ _ = refl
unchanged s (requests.ImageName o c) _ _ _ _ _ _ = refl
unchanged s (requests.File f) _ _ _ _ _ _ = refl
unchanged s (requests.Command k) _ _ _ _ _ _ = refl
unchanged s requests.Change _ _ _ _ _ _ = refl
unchanged s (requests.AddStop a) x _ _ _ _ _ = absurd (x a refl)
unchanged s (requests.RemoveStop a) _ x _ _ _ _ = absurd (x a refl)
unchanged s (requests.AddHardwareStop a) _ _ x _ _ _ = absurd (x a refl)
unchanged s (requests.RemoveHardwareStop a) _ _ _ x _ _ = absurd (x a refl)
unchanged s (requests.AddWatch k a n) _ _ _ _ x _ = absurd (x k a n refl)
unchanged s (requests.RemoveWatch k a n) _ _ _ _ _ x = absurd (x k a n refl)
unchanged s requests.Actions _ _ _ _ _ _ = refl
unchanged s requests.Continue _ _ _ _ _ _ = refl
unchanged s (requests.Step n) _ _ _ _ _ _ = refl
unchanged s (requests.StepIn n a b) _ _ _ _ _ _ = refl
unchanged s (requests.StepAlone n) _ _ _ _ _ _ = refl
unchanged s requests.StepBack _ _ _ _ _ _ = refl
unchanged s requests.ContinueBack _ _ _ _ _ _ = refl
unchanged s requests.Detach _ _ _ _ _ _ = refl
unchanged s requests.Kill _ _ _ _ _ _ = refl
unchanged s requests.Unknown _ _ _ _ _ _ = refl
