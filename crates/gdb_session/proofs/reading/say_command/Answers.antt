use Rattle.std.proofs.Common.{◌≡◌, ℕ, List, subst, sym}
use Rattle.std.specs.Prelude.{IfOk}
use Rattle.machine.specs.Untraced.{IsUntraced, Untraced}
use Rattle.gdb_packets.specs.Writing.{packet_text}
use Rattle.gdb_runs.specs.Sessions.{recorded_of}
use Rattle.gdb_session.proofs.Arriving.{no_command}
use Rattle.gdb_session.proofs.reading.say_command.Goals as goal

pub answer_event-requires-clause-run : goal.answer_event-requires-clause-run
answer_event-requires-clause-run g c κs within =
    let ready = c.requires.ready in
    (ready.run.0, subst (λ (u : Untraced). IsUntraced ready.run.0 u) ready.start ready.run.1)

pub returns-in_default-clause-text : goal.returns-in_default-clause-text
returns-in_default-clause-text g c = λ m is.
    let P : List ℕ → Type 0 = λ said. IfOk c.reply_text-in_default.result (λ text. text.items ≡ packet_text said) in
    let other = c.in_default in
    subst P
    (sym (no_command (recorded_of m c.args.run.now) c.args.standing c.args.command other.not-Where other.not-Harts other.not-Buffer other.not-Event other.not-Reservations other.not-Plan other.not-Output other.not-Help))
    c.reply_text-in_default.ensures
