use Rattle.std.proofs.Common.{◌≡◌}
use Rattle.hex.specs.Hex.{encode_lower}
use Rattle.gdb_packets.specs.Writing.{packet_text}
use Rattle.gdb_runs.specs.Sessions.{Recorded, recorded_of, state_of}
use Rattle.gdb_runs.proofs.Runs.{of_same}
use Rattle.gdb_session.specs.Answers.{goal_text}
use Rattle.gdb_session.proofs.Wanting.{goes_to, ready_with}
use Rattle.gdb_session.proofs.goto.go_to.Goals as goal

pub returns-clause-ready : goal.returns-clause-ready
returns-clause-ready g c =
    ready_with c.args.run.now c.args.session.now.standing c.in_ok-goal.goal c.goal_then-session.result c.requires.ready c.in_ok-goal.ensures.within c.goal_then-session.ensures

pub returns-clause-answers : goal.returns-clause-answers
returns-clause-answers g c = λ m is.
    let d = c.args.run.now in
    let s = state_of c.args.session.now in
    let wanted = c.in_ok-goal.goal in
    let written = c.in_ok-text.text.items in
    let W : Recorded → Type 0 = λ r. written ≡ packet_text (encode_lower (goal_text r s.standing wanted)) in
    goes_to (recorded_of m d) s c.args.command wanted c.goal_then-session.result written c.requires.goes (c.in_ok-goal.ensures.goal m is) c.goal_then-session.ensures
    (of_same d c.goal_of.new.run W c.in_ok-goal.ensures.stays c.in_ok-text.ensures m is)
