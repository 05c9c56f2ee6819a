-- What an action touches is its operation's.
use Rattle.std.proofs.Common.{◌≡◌, ℕ, ◌/◌, ◌==◌, ◌<◌, ◌&&◌, Bool, true, false, List, length, slice_index_or, Some, None, refl, sym, ap, ◌∙◌, subst}
use Rattle.std.proofs.lemmas.Bool.{and_parts, eqb-true}
use Rattle.std.proofs.lemmas.List.Folds.{Any-from_list_any}
use Rattle.pages.specs.Memory.{Memory}
use Rattle.rv64_decode.specs.declared.instruction.Instr.{Instr}
use Rattle.hart_step.specs.DecodedCode.{decoded}
use Rattle.hart_step.specs.Effect.{Action, action}
use Rattle.memory_order.specs.Registers.{registers_of}
use Rattle.run_bounds.specs.declared.operation.Operation.{Operation}
use Rattle.run_bounds.specs.declared.operation.Kind.TheVariants.{Load, Store, LoadReserved, StoreConditional, Atomic}
use Rattle.run_bounds.specs.Operations.{no_annotation, operation_in}
use Rattle.all_endings.specs.HartRuns.{IsReadable, IsWritable}
use Rattle.all_endings.specs.Locality.{KnowsButData, filled, without_data}
use Rattle.all_endings.specs.RunStates.{RunState}
use Rattle.hart_moves.specs.Choosing.{IsAble, reads_only}
use Rattle.hart_moves.proofs.Inverting.{same_operation}
use Rattle.private_bytes.specs.Owners.{KeepsToItself, Touches, by-conditional, by-exchange, by-read, by-reserve, by-write}
use Rattle.own_moves.specs.declared.owned.OwnDoubleword.{OwnDoubleword}
use Rattle.own_moves.specs.Owned.{owns_of}
use Rattle.own_moves.specs.Private.{is_plain}

-- an action's operation, where it touches memory
record IsTouching (image : Memory) (b : Action) (plain : Bool) (address : ℕ) : Type 0 where
  operation : Operation
  is : operation_in b ≡ Some operation
  at : operation.address ≡ address
  kind : is_plain operation.kind ≡ plain
  readable : reads_only operation.kind ≡ true → IsReadable image operation.address operation.width
  writable : reads_only operation.kind ≡ false → IsWritable image operation.address operation.width

touches : (image : Memory) (b : Action) (plain : Bool) (address : ℕ) → Touches image b plain address → IsTouching image b plain address
touches image _ _ _ (by-read rd address w signed able) = record {
  operation = record { kind = Load; address = address; width = w; ordering = no_annotation; signed = signed };
  is = refl;
  at = refl;
  kind = refl;
  readable = λ r. able;
  writable = λ r. absurd (cc);
}
touches image _ _ _ (by-write address n w able) = record {
  operation = record { kind = Store; address = address; width = w; ordering = no_annotation; signed = false };
  is = refl;
  at = refl;
  kind = refl;
  readable = λ r. absurd (cc);
  writable = λ r. able;
}
touches image _ _ _ (by-reserve rd address w ordering able) = record {
  operation = record { kind = LoadReserved; address = address; width = w; ordering = ordering; signed = true };
  is = refl;
  at = refl;
  kind = refl;
  readable = λ r. able;
  writable = λ r. absurd (cc);
}
touches image _ _ _ (by-conditional rd address n w ordering able) = record {
  operation = record { kind = StoreConditional; address = address; width = w; ordering = ordering; signed = true };
  is = refl;
  at = refl;
  kind = refl;
  readable = λ r. absurd (cc);
  writable = λ r. able;
}
touches image _ _ _ (by-exchange rd address w f ordering able) = record {
  operation = record { kind = Atomic; address = address; width = w; ordering = ordering; signed = true };
  is = refl;
  at = refl;
  kind = refl;
  readable = λ r. absurd (cc);
  writable = λ r. able;
}

-- what holds of each doubleword of a list that says so
pub told : (os : List OwnDoubleword) (hart harts number : ℕ) (plain : Bool) →
    ((k : ℕ) (d : OwnDoubleword) → k < length os → (slice_index_or os k d).number ≡ number → (slice_index_or os k d).hart < harts → ((slice_index_or os k d).hart ≡ hart) × (plain ≡ true)) →
    (owner : ℕ) → owner < harts → owns_of os owner number ≡ true → (owner ≡ hart) × (plain ≡ true)
told os hart harts number plain each owner few owns =
    let a = Any-from_list_any (λ (o : OwnDoubleword). (o.hart == owner) && (o.number == number)) os owns in
    let p = and_parts (a.1.hart == owner) (a.1.number == number) a.4 in
    let e = eqb-true a.1.hart owner p.0 in
    let at = a.3 in
    let f = each a.0 a.1 a.2 (ap (λ (o : OwnDoubleword). o.number) at ∙ eqb-true a.1.number number p.1)
    (subst (λ (n : ℕ). n < harts) (sym (ap (λ (o : OwnDoubleword). o.hart) at ∙ e)) few) in
    (sym e ∙ sym (ap (λ (o : OwnDoubleword). o.hart) at) ∙ f.0, f.1)

module _ (owns : ℕ → ℕ → Bool) (image : Memory) (harts h : ℕ) (a : RunState) (i : Instr) (at : decoded image a.pc ≡ Some i) where
  same_instruction : (j : Instr) → decoded image a.pc ≡ Some j → j ≡ i
  same_instruction j there = cc

  touched : (j : Instr) (plain : Bool) (address : ℕ) → decoded image a.pc ≡ Some j → Touches image (without_data (action j (filled a.registers) a.pc)) plain address →
      IsTouching image (without_data (action i (filled a.registers) a.pc)) plain address
  touched j plain address there t =
      touches image _ plain address (subst (λ (k : Instr). Touches image (without_data (action k (filled a.registers) a.pc)) plain address) (same_instruction j there) t)

  pub none_strays : operation_in (action i (filled a.registers) a.pc) ≡ None → KeepsToItself owns image harts h a
  none_strays none = λ j plain address owner there knows t few own.
      let s = touched j plain address there t in
      let e = same_operation (action i (filled a.registers) a.pc) in
      let is = s.is in
      absurd (cc)

  module _ (o : Operation) (does : operation_in (action i (filled a.registers) a.pc) ≡ Some o) where
    is_it : (plain : Bool) (address : ℕ) (s : IsTouching image (without_data (action i (filled a.registers) a.pc)) plain address) → s.operation ≡ o
    is_it plain address s = let e = same_operation (action i (filled a.registers) a.pc) in let is = s.is in cc

    -- what memory doesn't let be done touches nothing
    pub unable_keeps : (IsAble image a i o → ⊥) → KeepsToItself owns image harts h a
    unable_keeps unable = λ j plain address owner there knows t few own.
        let s = touched j plain address there t in
        let k = subst (λ (l : Instr). KnowsButData (registers_of l) a.registers) (same_instruction j there) knows in
        absurd (unable (subst (λ (p : Operation). IsAble image a i p) (is_it plain address s) (record { address = k.address; readable = s.readable; writable = s.writable })))

    pub told_keeps : ((owner : ℕ) → owner < harts → owns owner (o.address / 8) ≡ true → (owner ≡ h) × (is_plain o.kind ≡ true)) → KeepsToItself owns image harts h a
    told_keeps told = λ j plain address owner there knows t few own.
        let s = touched j plain address there t in
        let e = is_it plain address s in
        let at : address ≡ o.address = sym s.at ∙ ap (λ (p : Operation). p.address) e in
        let f = told owner few (ap (λ (x : ℕ). owns owner (x / 8)) (sym at) ∙ own) in
        (f.0, sym s.kind ∙ ap (λ (p : Operation). is_plain p.kind) e ∙ f.1)

pub nothing_keeps : (owns : ℕ → ℕ → Bool) (image : Memory) (harts h : ℕ) (a : RunState) → ((i : Instr) → decoded image a.pc ≡ Some i → ⊥) → KeepsToItself owns image harts h a
nothing_keeps owns image harts h a none = λ i plain address owner at knows t few own. absurd (none i at)
