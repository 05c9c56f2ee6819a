use Rattle.std.proofs.Common.{ℕ, ◌-◌, List, [], length, take, drop, get_or, sym, ap, ◌∙◌, arith}
use Rattle.round_schedule.specs.declared.access.Access.{Access}
use Rattle.serial_phase.specs.Turns.{Turns, start_of}
use Rattle.serial_phase.proofs.TurnLists.{lies, past_turns}
use Rattle.serial_phase.proofs.log.SerialLog.events.Goals as goal

pub returns-then-turn-self : goal.returns-then-turn-self
returns-then-turn-self c =
    sym (past_turns c.self.inside.accesses.items 0 (take c.self.inside.turns c.self.inside.ends) c.args.hart (omega (arith, c.self.invariant.2)))
    ∙ ap (λ (v : Turns). get_or v.closed c.args.hart []) c.self.view_is

pub between-requires : goal.between-requires
between-requires c =
    let l = lies c.self.inside.accesses.items c.self.inside.ends c.self.inside.turns c.args.hart c.if-turn-self.false c.self.invariant.2 c.self.invariant.1 in
    record {
      rises = omega (arith, l.rises, c.start_of.ensures);
      within = omega (arith, l.within, ap length c.deref.ensures.value);
    }

pub returns : goal.returns
returns c =
    let l = lies c.self.inside.accesses.items c.self.inside.ends c.self.inside.turns c.args.hart c.if-turn-self.false c.self.invariant.2 c.self.invariant.1 in
    c.between.ensures
    ∙ ap (λ (s : ℕ). take (get_or c.self.inside.ends c.args.hart 0 - s) (drop s c.deref.result.now)) c.start_of.ensures
    ∙ ap (λ (xs : List Access). take (get_or c.self.inside.ends c.args.hart 0 - start_of 0 c.self.inside.ends c.args.hart) (drop (start_of 0 c.self.inside.ends c.args.hart) xs)) c.deref.ensures.value
    ∙ sym l.value
    ∙ ap (λ (v : Turns). get_or v.closed c.args.hart []) c.self.view_is
