-- What a debugger is answered: facts by cases of its request.
use Rattle.std.proofs.Common.{◌≡◌, ℕ, [], Option, None, refl}
use Rattle.gdb_packets.specs.declared.request.Request.{Request}
use Rattle.gdb_packets.specs.declared.request.Request.TheVariants as requests
use Rattle.gdb_talk.specs.Stops.{changed_by}
use Rattle.execution_session.specs.declared.session.Standing.{Standing}
use Rattle.execution_session.specs.Answers.{answer_to, changes_by, fixed_text, moment_text}
use Rattle.execution_moments.specs.Looked.{Looked}
use Rattle.execution_session.specs.Sessions.{State}

-- a request that neither selects a thread nor resumes the execution
pub only_changes : (r : Looked) (s : State) (request : Request) → ((n : Option ℕ) → request ≡ requests.SelectGeneral n → ⊥) → ((n : Option ℕ) → request ≡ requests.SelectMoving n → ⊥) → (request ≡ requests.Continue → ⊥) → ((n : ℕ) → request ≡ requests.Step n → ⊥) → ((n : ℕ) (a : ℕ) (b : ℕ) → request ≡ requests.StepIn n a b → ⊥) → ((n : ℕ) → request ≡ requests.StepAlone n → ⊥) → (request ≡ requests.StepBack → ⊥) → (request ≡ requests.ContinueBack → ⊥) →
    answer_to r s request ≡ changes_by r s request (changed_by s.stops request)
only_changes r s requests.Features _ _ _ _ _ _ _ _ = refl
only_changes r s (requests.Description o c) _ _ _ _ _ _ _ _ = refl
only_changes r s requests.WhyStopped _ _ _ _ _ _ _ _ = refl
only_changes r s (requests.ThreadList o c) _ _ _ _ _ _ _ _ = refl
only_changes r s requests.FirstThreads _ _ _ _ _ _ _ _ = refl
only_changes r s requests.MoreThreads _ _ _ _ _ _ _ _ = refl
only_changes r s requests.PresentThread _ _ _ _ _ _ _ _ = refl
only_changes r s (requests.Note n) _ _ _ _ _ _ _ _ = refl
only_changes r s requests.Attached _ _ _ _ _ _ _ _ = refl
only_changes r s (requests.SelectGeneral n) x _ _ _ _ _ _ _ = absurd (x n refl)
only_changes r s (requests.SelectMoving n) _ x _ _ _ _ _ _ = absurd (x n refl)
only_changes r s (requests.IsAlive n) _ _ _ _ _ _ _ _ = refl
only_changes r s requests.ReadRegisters _ _ _ _ _ _ _ _ = refl
only_changes r s (requests.ReadRegister n) _ _ _ _ _ _ _ _ = refl
only_changes r s (requests.ReadMemory a n) _ _ _ _ _ _ _ _ = refl
only_changes r s (requests.Checksum a n) _ _ _ _ _ _ _ _ = refl
only_changes r s (requests.ImageName o c) _ _ _ _ _ _ _ _ = refl
only_changes r s (requests.File f) _ _ _ _ _ _ _ _ = refl
only_changes r s (requests.Command k) _ _ _ _ _ _ _ _ = refl
only_changes r s requests.Change _ _ _ _ _ _ _ _ = refl
only_changes r s (requests.AddStop a) _ _ _ _ _ _ _ _ = refl
only_changes r s (requests.RemoveStop a) _ _ _ _ _ _ _ _ = refl
only_changes r s (requests.AddHardwareStop a) _ _ _ _ _ _ _ _ = refl
only_changes r s (requests.RemoveHardwareStop a) _ _ _ _ _ _ _ _ = refl
only_changes r s (requests.AddWatch k a n) _ _ _ _ _ _ _ _ = refl
only_changes r s (requests.RemoveWatch k a n) _ _ _ _ _ _ _ _ = refl
only_changes r s requests.Actions _ _ _ _ _ _ _ _ = refl
only_changes r s requests.Continue _ _ x _ _ _ _ _ = absurd (x refl)
only_changes r s (requests.Step n) _ _ _ x _ _ _ _ = absurd (x n refl)
only_changes r s (requests.StepIn n a b) _ _ _ _ x _ _ _ = absurd (x n a b refl)
only_changes r s (requests.StepAlone n) _ _ _ _ _ x _ _ = absurd (x n refl)
only_changes r s requests.StepBack _ _ _ _ _ _ x _ = absurd (x refl)
only_changes r s requests.ContinueBack _ _ _ _ _ _ _ x = absurd (x refl)
only_changes r s requests.Detach _ _ _ _ _ _ _ _ = refl
only_changes r s requests.Kill _ _ _ _ _ _ _ _ = refl
only_changes r s requests.Unknown _ _ _ _ _ _ _ _ = refl

-- one that is about the time
pub not_fixed : (r : Looked) (t : Standing) (request : Request) → (request ≡ requests.Features → ⊥) → ((o : ℕ) (c : ℕ) → request ≡ requests.Description o c → ⊥) → (request ≡ requests.FirstThreads → ⊥) → (request ≡ requests.MoreThreads → ⊥) → (request ≡ requests.PresentThread → ⊥) → (request ≡ requests.Attached → ⊥) → (request ≡ requests.Change → ⊥) → (request ≡ requests.Actions → ⊥) → (request ≡ requests.Detach → ⊥) →
    fixed_text r t request ≡ None
not_fixed r t requests.Features x0 _ _ _ _ _ _ _ _ = absurd (x0 refl)
not_fixed r t (requests.Description o c) _ x1 _ _ _ _ _ _ _ = absurd (x1 o c refl)
not_fixed r t requests.WhyStopped _ _ _ _ _ _ _ _ _ = refl
not_fixed r t (requests.ThreadList o c) _ _ _ _ _ _ _ _ _ = refl
not_fixed r t requests.FirstThreads _ _ x2 _ _ _ _ _ _ = absurd (x2 refl)
not_fixed r t requests.MoreThreads _ _ _ x3 _ _ _ _ _ = absurd (x3 refl)
not_fixed r t requests.PresentThread _ _ _ _ x4 _ _ _ _ = absurd (x4 refl)
not_fixed r t (requests.Note n) _ _ _ _ _ _ _ _ _ = refl
not_fixed r t requests.Attached _ _ _ _ _ x5 _ _ _ = absurd (x5 refl)
not_fixed r t (requests.SelectGeneral n) _ _ _ _ _ _ _ _ _ = refl
not_fixed r t (requests.SelectMoving n) _ _ _ _ _ _ _ _ _ = refl
not_fixed r t (requests.IsAlive n) _ _ _ _ _ _ _ _ _ = refl
not_fixed r t requests.ReadRegisters _ _ _ _ _ _ _ _ _ = refl
not_fixed r t (requests.ReadRegister n) _ _ _ _ _ _ _ _ _ = refl
not_fixed r t (requests.ReadMemory a n) _ _ _ _ _ _ _ _ _ = refl
not_fixed r t (requests.Checksum a n) _ _ _ _ _ _ _ _ _ = refl
not_fixed r t (requests.ImageName o c) _ _ _ _ _ _ _ _ _ = refl
not_fixed r t (requests.File f) _ _ _ _ _ _ _ _ _ = refl
not_fixed r t (requests.Command k) _ _ _ _ _ _ _ _ _ = refl
not_fixed r t requests.Change _ _ _ _ _ _ x6 _ _ = absurd (x6 refl)
not_fixed r t (requests.AddStop a) _ _ _ _ _ _ _ _ _ = refl
not_fixed r t (requests.RemoveStop a) _ _ _ _ _ _ _ _ _ = refl
not_fixed r t (requests.AddHardwareStop a) _ _ _ _ _ _ _ _ _ = refl
not_fixed r t (requests.RemoveHardwareStop a) _ _ _ _ _ _ _ _ _ = refl
not_fixed r t (requests.AddWatch k a n) _ _ _ _ _ _ _ _ _ = refl
not_fixed r t (requests.RemoveWatch k a n) _ _ _ _ _ _ _ _ _ = refl
not_fixed r t requests.Actions _ _ _ _ _ _ _ x7 _ = absurd (x7 refl)
not_fixed r t requests.Continue _ _ _ _ _ _ _ _ _ = refl
not_fixed r t (requests.Step n) _ _ _ _ _ _ _ _ _ = refl
not_fixed r t (requests.StepIn n a b) _ _ _ _ _ _ _ _ _ = refl
not_fixed r t (requests.StepAlone n) _ _ _ _ _ _ _ _ _ = refl
not_fixed r t requests.StepBack _ _ _ _ _ _ _ _ _ = refl
not_fixed r t requests.ContinueBack _ _ _ _ _ _ _ _ _ = refl
not_fixed r t requests.Detach _ _ _ _ _ _ _ _ x8 = absurd (x8 refl)
not_fixed r t requests.Kill _ _ _ _ _ _ _ _ _ = refl
not_fixed r t requests.Unknown _ _ _ _ _ _ _ _ _ = refl

-- one that isn't answered
pub not_known : (r : Looked) (t : Standing) (request : Request) → (request ≡ requests.WhyStopped → ⊥) → ((o : ℕ) (c : ℕ) → request ≡ requests.ThreadList o c → ⊥) → ((n : ℕ) → request ≡ requests.IsAlive n → ⊥) → (request ≡ requests.ReadRegisters → ⊥) → ((n : ℕ) → request ≡ requests.ReadRegister n → ⊥) → ((a : ℕ) (n : ℕ) → request ≡ requests.ReadMemory a n → ⊥) →
    moment_text r t request ≡ []
not_known r t requests.Features _ _ _ _ _ _ = refl
not_known r t (requests.Description o c) _ _ _ _ _ _ = refl
not_known r t requests.WhyStopped x0 _ _ _ _ _ = absurd (x0 refl)
not_known r t (requests.ThreadList o c) _ x1 _ _ _ _ = absurd (x1 o c refl)
not_known r t requests.FirstThreads _ _ _ _ _ _ = refl
not_known r t requests.MoreThreads _ _ _ _ _ _ = refl
not_known r t requests.PresentThread _ _ _ _ _ _ = refl
not_known r t (requests.Note n) _ _ _ _ _ _ = refl
not_known r t requests.Attached _ _ _ _ _ _ = refl
not_known r t (requests.SelectGeneral n) _ _ _ _ _ _ = refl
not_known r t (requests.SelectMoving n) _ _ _ _ _ _ = refl
not_known r t (requests.IsAlive n) _ _ x2 _ _ _ = absurd (x2 n refl)
not_known r t requests.ReadRegisters _ _ _ x3 _ _ = absurd (x3 refl)
not_known r t (requests.ReadRegister n) _ _ _ _ x4 _ = absurd (x4 n refl)
not_known r t (requests.ReadMemory a n) _ _ _ _ _ x5 = absurd (x5 a n refl)
not_known r t (requests.Checksum a n) _ _ _ _ _ _ = refl
not_known r t (requests.ImageName o c) _ _ _ _ _ _ = refl
not_known r t (requests.File f) _ _ _ _ _ _ = refl
not_known r t (requests.Command k) _ _ _ _ _ _ = refl
not_known r t requests.Change _ _ _ _ _ _ = refl
not_known r t (requests.AddStop a) _ _ _ _ _ _ = refl
not_known r t (requests.RemoveStop a) _ _ _ _ _ _ = refl
not_known r t (requests.AddHardwareStop a) _ _ _ _ _ _ = refl
not_known r t (requests.RemoveHardwareStop a) _ _ _ _ _ _ = refl
not_known r t (requests.AddWatch k a n) _ _ _ _ _ _ = refl
not_known r t (requests.RemoveWatch k a n) _ _ _ _ _ _ = refl
not_known r t requests.Actions _ _ _ _ _ _ = refl
not_known r t requests.Continue _ _ _ _ _ _ = refl
not_known r t (requests.Step n) _ _ _ _ _ _ = refl
not_known r t (requests.StepIn n a b) _ _ _ _ _ _ = refl
not_known r t (requests.StepAlone n) _ _ _ _ _ _ = refl
not_known r t requests.StepBack _ _ _ _ _ _ = refl
not_known r t requests.ContinueBack _ _ _ _ _ _ = refl
not_known r t requests.Detach _ _ _ _ _ _ = refl
not_known r t requests.Kill _ _ _ _ _ _ = refl
not_known r t requests.Unknown _ _ _ _ _ _ = refl
