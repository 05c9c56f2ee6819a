use Rattle.std.proofs.Common.{inl, inr, sym, ◌∙◌, subst, arith}
use Rattle.std.proofs.lemmas.Bool.{cases_lt}
use Rattle.std.proofs.lemmas.List.{length-map}
use Rattle.memory_order.specs.declared.registers.Registers.{Registers}
use Rattle.rule_checker.specs.CarriedBounds.{AreRegisters}
use Rattle.hart_states.specs.Opening.{opening_of}
use Rattle.hart_states.specs.States.{listed, state_of, stored_of}
use Rattle.hart_moves.proofs.Early.{early_follows}
use Rattle.hart_moves.proofs.Inverting.{time_within}
use Rattle.hart_moves.proofs.Again.{found_again}
use Rattle.hart_moves.proofs.operating.operate.Goals.{else-is_enough, then-is_enough}
use Rattle.hart_moves.proofs.operating.operate.Goals as goal

pub loop-time-preserved : goal.loop-time-preserved
loop-time-preserved c = record {
  does = λ v same stands so place l. elim (cases_lt v.time c.loop-time.time) [
    | inl early ↦ let f = c.loop-time.invariant.does v same stands so place early in (f.0, c.in_ok-add_successor-2.ensures.keeps f.0 f.1, f.2)
    | inr late ↦ c.in_ok-add_successor-2.ensures.adds v (c.placed_at-choice.ensures.found v same (omega (arith, late, l)) stands so place)
  ];
  fails = λ v same so. let f = c.loop-time.invariant.fails v same so in (f.0, c.in_ok-add_successor-2.ensures.keeps f.0 f.1, f.2);
  is = c.placed_at-choice.ensures.is;
  later = λ enough v same so late. elim c.if-is_enough.branch [
    | then-is_enough w ↦ let f = c.loop-time.invariant.later w.if-is_enough.true v same so late in (f.0, c.in_ok-add_successor-2.ensures.keeps f.0 f.1, f.2)
    | else-is_enough w ↦
        early_follows c.early_loads_are_ahead.ensures c.args.hart (listed c.args.list.now) (opening_of c.args.memory.now) (state_of c.args.state.now) c.args.coming.now c.placed_at-choice.result
        c.add_successor-in-loop-time.new.found.items c.is_sized.ensures (subst (λ (u : Registers). AreRegisters u) c.used_registers.ensures c.are_registers.ensures) c.requires.coming
        (w.reads_seen-is_enough.ensures (sym w.is_enough-is ∙ enough)) c.placed_at-choice.ensures.is (λ u f. c.in_ok-add_successor-2.ensures.adds u f) v same so late
  ];
  latest = λ v f. c.in_ok-add_successor-2.ensures.adds v f;
}

pub loop-time-preserved-then-is_again : goal.loop-time-preserved-then-is_again
loop-time-preserved-then-is_again c =
    let i = c.loop-time.invariant in
    let choice = c.placed_at-choice.ensures in
    record {
      does = λ v same stands so place l. elim (cases_lt v.time c.loop-time.time) [
        | inl early ↦ i.does v same stands so place early
        | inr late ↦
            i.latest v
            (found_again (listed c.args.list.now) (state_of c.args.state.now) c.args.coming.now c.loop-time.latest c.placed_at-choice.result v (c.is_again.ensures c.if-is_again.true) i.is choice.is
            (choice.found v same (omega (arith, late, l)) stands so place))
      ];
      fails = i.fails;
      is = i.is;
      later = i.later;
      latest = i.latest;
    }

pub returns-then-is_enough-2-clause-does : goal.returns-then-is_enough-2-clause-does
returns-then-is_enough-2-clause-does c = λ v same stands so place.
    let w = time_within c.args.hart (listed c.args.list.now) (opening_of c.args.memory.now) (state_of c.args.state.now) c.args.coming.now.operation v so place in
    elim (cases_lt v.time c.loop-time.time) [
      | inl early ↦ c.loop-time.invariant.does v same stands so place early
      | inr late ↦ c.loop-time.invariant.later c.if-is_enough-2.true v same so (omega (arith, w, late, length-map c.args.list.now stored_of))
    ]

pub returns-clause-does : goal.returns-clause-does
returns-clause-does c = λ v same stands so place.
    let w = time_within c.args.hart (listed c.args.list.now) (opening_of c.args.memory.now) (state_of c.args.state.now) c.args.coming.now.operation v so place in
    elim (cases_lt v.time c.loop-time.time) [
      | inl early ↦ let f = c.loop-time.invariant.does v same stands so place early in (f.0, c.in_ok-add_successor-3.ensures.keeps f.0 f.1, f.2)
      | inr late ↦ c.in_ok-add_successor-3.ensures.adds v (c.placed_at-later.ensures.found v same (omega (arith, w, late, length-map c.args.list.now stored_of)) stands so place)
    ]

pub returns-clause-fails : goal.returns-clause-fails
returns-clause-fails c = λ v same so. let f = c.loop-time.invariant.fails v same so in (f.0, c.in_ok-add_successor-3.ensures.keeps f.0 f.1, f.2)
