use Rattle.std.proofs.Common.{◌≡◌, sym, subst}
use Rattle.std.specs.Prelude.{IfOk}
use Rattle.hex.specs.Hex.{encode_lower}
use Rattle.gdb_packets.specs.Writing.{packet_text}
use Rattle.gdb_resumes.specs.declared.goals.Goal.{Goal}
use Rattle.gdb_runs.specs.Sessions.{recorded_of}
use Rattle.gdb_session.specs.Answers.{goal_text}
use Rattle.gdb_session.proofs.goto.goal_text.Goals as goal

pub returns-in-NoPlace : goal.returns-in-NoPlace
returns-in-NoPlace c = λ m is.
    let W : Goal → Type 0 = λ wanted. IfOk c.say-in-NoPlace.result (λ text. text.items ≡ packet_text (encode_lower (goal_text (recorded_of m c.args.run.now) c.args.standing wanted))) in
    subst W (sym c.in-NoPlace.is) c.say-in-NoPlace.ensures
