-- What isn't to end is answered.
use Rattle.std.proofs.Common.{◌≡◌, refl}
use Rattle.gdb_packets.specs.declared.request.Request.{Request}
use Rattle.gdb_packets.specs.declared.request.Request.TheVariants as requests
use Rattle.gdb_talk.specs.Asking.{UnlessKill}

pub unless_kill : (request : Request) (Ends Said : Type 0) → (request ≡ requests.Kill → ⊥) → Said → UnlessKill request Ends Said
unless_kill requests.Kill Ends Said isnt x = absurd (isnt refl)
unless_kill requests.Features Ends Said isnt x = x
unless_kill (requests.Description o c) Ends Said isnt x = x
unless_kill requests.WhyStopped Ends Said isnt x = x
unless_kill (requests.ThreadList o c) Ends Said isnt x = x
unless_kill requests.FirstThreads Ends Said isnt x = x
unless_kill requests.MoreThreads Ends Said isnt x = x
unless_kill requests.PresentThread Ends Said isnt x = x
unless_kill (requests.Note n) Ends Said isnt x = x
unless_kill requests.Attached Ends Said isnt x = x
unless_kill (requests.SelectGeneral n) Ends Said isnt x = x
unless_kill (requests.SelectMoving n) Ends Said isnt x = x
unless_kill (requests.IsAlive n) Ends Said isnt x = x
unless_kill requests.ReadRegisters Ends Said isnt x = x
unless_kill (requests.ReadRegister n) Ends Said isnt x = x
unless_kill (requests.ReadMemory a n) Ends Said isnt x = x
unless_kill (requests.Checksum a n) Ends Said isnt x = x
unless_kill (requests.ImageName o c) Ends Said isnt x = x
unless_kill (requests.File f) Ends Said isnt x = x
unless_kill (requests.Command k) Ends Said isnt x = x
unless_kill requests.Change Ends Said isnt x = x
unless_kill (requests.AddStop a) Ends Said isnt x = x
unless_kill (requests.RemoveStop a) Ends Said isnt x = x
unless_kill (requests.AddHardwareStop a) Ends Said isnt x = x
unless_kill (requests.RemoveHardwareStop a) Ends Said isnt x = x
unless_kill (requests.AddWatch k a n) Ends Said isnt x = x
unless_kill (requests.RemoveWatch k a n) Ends Said isnt x = x
unless_kill requests.Actions Ends Said isnt x = x
unless_kill requests.Continue Ends Said isnt x = x
unless_kill (requests.Step n) Ends Said isnt x = x
unless_kill (requests.StepIn l h n) Ends Said isnt x = x
unless_kill (requests.StepAlone n) Ends Said isnt x = x
unless_kill requests.StepBack Ends Said isnt x = x
unless_kill requests.ContinueBack Ends Said isnt x = x
unless_kill requests.Detach Ends Said isnt x = x
unless_kill requests.Unknown Ends Said isnt x = x
