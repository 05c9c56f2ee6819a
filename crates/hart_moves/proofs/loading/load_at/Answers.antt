use Rattle.std.proofs.Common.{◌≡◌, ℕ, Option, Some, option_map, slice_index, ap, sym, ◌∙◌}
use Rattle.rv64_decode.specs.declared.instruction.Instr.{Instr}
use Rattle.round_schedule.specs.Accesses.{stores as writing}
use Rattle.hart_step.specs.Step.{extended_to}
use Rattle.memory_order.specs.Registers.{registers_of}
use Rattle.all_endings.specs.HartRuns.{data_of}
use Rattle.all_endings.specs.Locality.{set_view, view}
use Rattle.all_endings.specs.RunStates.{answers_to}
use Rattle.hart_states.specs.declared.choice.Choice.{Choice}
use Rattle.hart_moves.specs.declared.loading.Got.{Got}
use Rattle.hart_states.specs.States.{listed, state_of}
use Rattle.hart_moves.specs.Choosing.{exchanged}
use Rattle.hart_moves.proofs.Found.{covered_at, found_alike}
use Rattle.hart_moves.proofs.loading.load_at.Goals as goal

pub returns-in-None-clause-found : goal.returns-in-None-clause-found
returns-in-None-clause-found c = λ v same at so.
    let got = c.got_at.ensures (state_of c.args.state.now) v so.number c.requires.coming.span at so.gets in
    let is = got.is in
    let none = c.in-None.is in
    absurd (cc)

pub returns-in-Some-clause-found : goal.returns-in-Some-clause-found
returns-in-Some-clause-found c = λ v same at so.
    let o = c.args.coming.now.operation in
    let i = c.args.coming.now.instruction in
    let got = c.got_at.ensures (state_of c.args.state.now) v so.number c.requires.coming.span at so.gets in
    let is = got.is in
    let some = c.in-Some.is in
    let one : c.in-Some.got ≡ got.got = cc in
    found_alike (listed c.args.list.now) (state_of c.args.state.now) _ _ v (ap (λ (d : Choice). Some d) c.load_of.ensures) (record {
      instruction = sym same;
      access = sym so.access;
      next = sym so.next;
      time = sym at;
      registers = ap (λ (r : Option ℕ). set_view c.args.state.now.registers (answers_to c.args.coming.now.instruction) r)
          (ap (λ (n : Option ℕ). option_map (extended_to o.signed o.width) n) (ap (λ (g : Got). g.number) one ∙ got.number) ∙ sym so.result);
      source = λ load x there.
          let k = covered_at o x there in
          ap (λ (n : ℕ). slice_index c.in-Some.got.sources n) k.3
          ∙ ap (λ (g : Got). slice_index g.sources k.0) one
          ∙ got.sources k.0 k.1 ∙ ap v.source k.2;
      written = λ store.
          ap (λ (n : Option ℕ). exchanged i n c.args.coming.now.operand) (ap (λ (g : Got). g.number) one ∙ got.number)
          ∙ ap (λ (n : Option ℕ). exchanged i so.number n) (c.requires.coming.operand ∙ ap (λ (j : Instr). view c.args.state.now.registers (registers_of j).value) (sym same))
          ∙ ap (λ (j : Instr). exchanged j so.number (data_of (state_of c.args.state.now) v)) (sym same)
          ∙ sym (so.written (ap writing so.access ∙ store));
    })
