-- What a request is answered: facts by cases of it.
use Rattle.std.proofs.Common.{◌≡◌, ℕ, List, codes, Option, Some, None, Result, ap, inl, inr, refl, sym, subst}
use Rattle.std.specs.Prelude.{◌⊎◌, ◌++◌, IfOk}
use Rattle.std.proofs.lemmas.Result.{IfOk-weaker}
use Rattle.std.specs.Global.{Vec}
use Rattle.hex.specs.Hex.{encode_lower}
use Rattle.gdb_packets.specs.Writing.{packet_text}
use Rattle.gdb_packets.specs.declared.command.Command.{Command}
use Rattle.gdb_packets.specs.declared.command.Command.TheVariants as commands
use Rattle.gdb_packets.specs.declared.request.Request.{Request}
use Rattle.gdb_packets.specs.declared.request.Request.TheVariants as requests
use Rattle.gdb_talk.specs.declared.look.Look.{Look}
use Rattle.gdb_talk.specs.Stops.{Stopping, changed_by}
use Rattle.gdb_runs.specs.Sessions.{Recorded, State}
use Rattle.gdb_runs.specs.declared.session.Standing.{Standing}
use Rattle.gdb_session.specs.Answers.{Answers, AnswersBy, Replied, Resumes, command_text, reply_at}

-- ---- replies

pub replied_with : (r : Recorded) (t : Standing) (request q : Request) (said written : List ℕ) → request ≡ q → reply_at r t q ≡ Some said →
    written ≡ packet_text said → Replied r t request written
replied_with r t request q said written is same wrote =
    let P : Request → Type 0 = λ x. reply_at r t x ≡ Some said in
    record { said = said; is = subst P (sym is) same; wrote = wrote }

-- what is looked at where the run stands
pub read_with : (r : Recorded) (t : Standing) (request q : Request) (f : Look → List ℕ) (look : Look) (workers : ℕ) → request ≡ q →
    look ≡ record { point = t.point; hart = t.general; workers = workers } → reply_at r t q ≡ Some (f (record { point = t.point; hart = t.general; workers = workers })) →
    {E : Type 0} (res : Result (Vec ℕ) E) → IfOk res (λ text. text.items ≡ packet_text (f look)) → IfOk res (λ text. Replied r t request text.items)
read_with r t request q f look workers is there same res wrote =
    let W : Look → Type 0 = λ l. IfOk res (λ text. text.items ≡ packet_text (f l)) in
    IfOk-weaker res _ _ (λ text e. replied_with r t request q (f (record { point = t.point; hart = t.general; workers = workers })) text.items is same e) (subst W there wrote)

-- it is what is answered, and the session stays
pub replied : (r : Recorded) (s : State) (request : Request) (written : List ℕ) → Replied r s.standing request written → Answers r s request written s
replied r s request written x =
    let P : Option (List ℕ) → Type 0 = λ said. AnswersBy said r s request written s in
    subst P (sym x.is) (x.wrote, refl)

-- a command that there isn't
pub no_command : (r : Recorded) (t : Standing) (k : Command) → (k ≡ commands.Where → ⊥) → (k ≡ commands.Harts → ⊥) → (k ≡ commands.Buffer → ⊥) → (k ≡ commands.Event → ⊥) →
    (k ≡ commands.Reservations → ⊥) → (k ≡ commands.Plan → ⊥) → (k ≡ commands.Output → ⊥) → (k ≡ commands.Help → ⊥) → command_text r t k ≡ encode_lower (codes "no such command: monitor help\n")
no_command r t commands.Where a b c d e f g h = absurd (a refl)
no_command r t commands.Harts a b c d e f g h = absurd (b refl)
no_command r t commands.Buffer a b c d e f g h = absurd (c refl)
no_command r t commands.Event a b c d e f g h = absurd (d refl)
no_command r t commands.Reservations a b c d e f g h = absurd (e refl)
no_command r t commands.Plan a b c d e f g h = absurd (f refl)
no_command r t commands.Output a b c d e f g h = absurd (g refl)
no_command r t commands.Help a b c d e f g h = absurd (h refl)
no_command r t (commands.GotoRound n) a b c d e f g h = refl
no_command r t (commands.GotoPlace n i p) a b c d e f g h = refl
no_command r t commands.GotoEnd a b c d e f g h = refl
no_command r t commands.HitsOn a b c d e f g h = refl
no_command r t commands.HitsOff a b c d e f g h = refl
no_command r t commands.Unknown a b c d e f g h = refl

-- one that changes breakpoints or watchpoints
module _ (r : Recorded) (s : State) (stops : Stopping) (written : List ℕ) (wrote : written ≡ packet_text (codes "OK")) where
  none : None ≡ Some stops → ⊥
  none e = cc

  stops_in : Option Stopping → Stopping
  stops_in None = stops
  stops_in (Some x) = x

  pub changed : (request : Request) → changed_by s.stops request ≡ Some stops → Answers r s request written (record s { stops = stops })
  unfolding stops_in
  changed requests.Features e = absurd (none e)
  changed (requests.Description o c) e = absurd (none e)
  changed requests.WhyStopped e = absurd (none e)
  changed (requests.ThreadList o c) e = absurd (none e)
  changed requests.FirstThreads e = absurd (none e)
  changed requests.MoreThreads e = absurd (none e)
  changed requests.PresentThread e = absurd (none e)
  changed (requests.Note n) e = absurd (none e)
  changed requests.Attached e = absurd (none e)
  changed (requests.SelectGeneral n) e = absurd (none e)
  changed (requests.SelectMoving n) e = absurd (none e)
  changed (requests.IsAlive n) e = absurd (none e)
  changed requests.ReadRegisters e = absurd (none e)
  changed (requests.ReadRegister n) e = absurd (none e)
  changed (requests.ReadMemory a n) e = absurd (none e)
  changed (requests.Checksum a n) e = absurd (none e)
  changed (requests.ImageName o c) e = absurd (none e)
  changed (requests.File f) e = absurd (none e)
  changed (requests.Command k) e = absurd (none e)
  changed requests.Change e = absurd (none e)
  changed (requests.AddStop a) e = (wrote, ap (λ (o : Option Stopping). record s { stops = stops_in o }) (sym e))
  changed (requests.RemoveStop a) e = (wrote, ap (λ (o : Option Stopping). record s { stops = stops_in o }) (sym e))
  changed (requests.AddHardwareStop a) e = (wrote, ap (λ (o : Option Stopping). record s { stops = stops_in o }) (sym e))
  changed (requests.RemoveHardwareStop a) e = (wrote, ap (λ (o : Option Stopping). record s { stops = stops_in o }) (sym e))
  changed (requests.AddWatch k a n) e = (wrote, ap (λ (o : Option Stopping). record s { stops = stops_in o }) (sym e))
  changed (requests.RemoveWatch k a n) e = (wrote, ap (λ (o : Option Stopping). record s { stops = stops_in o }) (sym e))
  changed requests.Actions e = absurd (none e)
  changed requests.Continue e = absurd (none e)
  changed (requests.Step n) e = absurd (none e)
  changed (requests.StepIn n a b) e = absurd (none e)
  changed (requests.StepAlone n) e = absurd (none e)
  changed requests.StepBack e = absurd (none e)
  changed requests.ContinueBack e = absurd (none e)
  changed requests.Detach e = absurd (none e)
  changed requests.Kill e = absurd (none e)
  changed requests.Unknown e = absurd (none e)

-- ---- steps

module _ (r : Recorded) (s : State) (written : List ℕ) (t : State) where
  step_is : (request q : Request) → request ≡ q → (Resumes r s q written t → Answers r s q written t) → Resumes r s request written t → Answers r s request written t
  step_is request q is answers did =
      let P : Request → Type 0 = λ k. Resumes r s k written t → Answers r s k written t in
      subst P (sym is) answers did

  pub step_answered : (request : Request) →
      ((n : ℕ) × (request ≡ requests.Step n))
      ⊎ (((low : ℕ) × (high : ℕ) × (n : ℕ) × (request ≡ requests.StepIn low high n)) ⊎ (((n : ℕ) × (request ≡ requests.StepAlone n)) ⊎ (request ≡ requests.StepBack))) →
      Resumes r s request written t → Answers r s request written t
  step_answered request (inl x) did = step_is request (requests.Step x.0) x.1 (λ d. d) did
  step_answered request (inr (inl x)) did = step_is request (requests.StepIn x.0 x.1 x.2) x.3 (λ d. d) did
  step_answered request (inr (inr (inl x))) did = step_is request (requests.StepAlone x.0) x.1 (λ d. d) did
  step_answered request (inr (inr (inr is))) did = step_is request requests.StepBack is (λ d. d) did
