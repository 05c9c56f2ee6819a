-- The operations by which a hart goes on from where a state can stand: their access is the one over the state's registers.
use Rattle.std.proofs.Common.{◌≡◌, ℕ, ◌||◌, ◌&&◌, Bool, true, false, inl, inr, List, Option, Some, None, is_some, refl, sym, ap, ◌∙◌, subst}
use Rattle.pages.specs.Memory.{Memory}
use Rattle.round_schedule.specs.declared.access.Access.{Access}
use Rattle.round_schedule.specs.Accesses.{address_of, loads}
use Rattle.round_schedule.specs.Accesses.{stores as writing}
use Rattle.rv64_decode.specs.declared.instruction.Instr.{Instr}
use Rattle.hart_step.specs.DecodedCode.{decoded}
use Rattle.hart_step.specs.Effect.{Action, Put, Jump, Branch, Order, Halt, Call, action}
use Rattle.hart_step.specs.Numbers.{plus}
use Rattle.memory_order.specs.Registers.{registers_of}
use Rattle.all_endings.specs.HartRuns.{acts}
use Rattle.all_endings.specs.Locality.{KnowsButData, filled, view}
use Rattle.all_endings.specs.RunStates.{Move, RunState, operates}
use Rattle.all_endings.specs.StoreLists.{Stored}
use Rattle.private_bytes.specs.Ahead.{IsAhead, Tells}
use Rattle.private_bytes.specs.Owners.{is_own}
use Rattle.private_bytes.specs.PrivateWalks.{Spot}
use Rattle.list_suffixes.specs.ApartRuns.{MovesApart}
use Rattle.early_reads.specs.EarlyMaps.{Agrees}
use Rattle.early_reads.specs.Flows.{IsOver, access_in}
use Rattle.late_spots.specs.LateSpots.{OfOperations}
use Rattle.late_spots.specs.Onward.{MakesAt}
use Rattle.early_reads.proofs.Accesses.{over}
use Rattle.early_reads.proofs.Moves.{IsOf, apart_is_of, needs_operands, next_in}
use Rattle.early_reads.proofs.Points.{same_instruction}

abbrev is_operation : Access → Bool
is_operation y = loads y || writing y

-- ---- actions

operation_needs : (b : Action) → is_operation (access_in b) ≡ true → needs_operands b ≡ true
operation_needs (Put rd n) e = absurd (cc)
operation_needs (Order before after mode) e = absurd (cc)
operation_needs (Halt n) e = absurd (cc)
operation_needs Call e = absurd (cc)
operation_needs _ e = refl

operation_next : (pc : ℕ) (b : Action) → is_operation (access_in b) ≡ true → next_in pc b ≡ plus pc 4
operation_next pc (Jump rd target) e = absurd (cc)
operation_next pc (Branch taken target) e = absurd (cc)
operation_next pc _ e = refl

neither : (a b : Bool) → a ≡ false → b ≡ false → (a || b) ≡ true → ⊥
neither true b e f g = cc
neither false true e f g = cc
neither false false e f g = cc

both : (a b : Bool) → a ≡ true → b ≡ true → (a && b) ≡ false → ⊥
both true true e f g = cc
both true false e f g = cc
both false b e f g = cc

-- ---- registers

some_told : (o p : Option ℕ) → Tells o p → is_some o ≡ true → is_some p ≡ true
some_told None p tells e = absurd (cc)
some_told (Some n) p tells e = ap is_some (tells n refl)

module _ (owns : ℕ → ℕ → Bool) (image : Memory) (h : ℕ) (a : RunState) (i : Instr) (there : decoded image a.pc ≡ Some i) where
  abbrev made : Access
  made = access_in (action i (filled a.registers) a.pc)

  module _ (m : List Stored) (opening : ℕ → ℕ) (q : Spot) (v : Move) (ahead : IsAhead a q.place.state) (moves : MovesApart owns image h m opening q v) (op : operates v ≡ true) where
    is : v.instruction ≡ i
    is = same_instruction v.instruction i (decoded image q.place.state.pc) moves.decodes (ap (λ (pc : ℕ). decoded image pc) (sym ahead.pc) ∙ there)

    o : IsOf q.place.state v
    o = apart_is_of image h m opening q.place.state v owns moves.acts

    agrees : Agrees a.registers q.place.state.registers
    agrees r n l e f = let t = ahead.registers r l f in cc

    dry_not : loads v.access ≡ false → writing v.access ≡ false → ⊥
    dry_not e f = neither (loads v.access) (writing v.access) e f op

    -- it isn't an SC that fails
    made_there : v.access ≡ access_in (acts q.place.state v)
    made_there = elim o.access [
      | inl e ↦ e
      | inr failing ↦ absurd (dry_not failing.no_load failing.dry)
    ]

    operation : is_operation (access_in (acts q.place.state v)) ≡ true
    operation = sym (ap is_operation made_there) ∙ op

    known : KnowsButData (registers_of i) a.registers
    known = record { address = one (registers_of i).address here.address; first = one (registers_of i).first here.first; second = one (registers_of i).second here.second }
      where
        here : KnowsButData (registers_of i) q.place.state.registers
        here = subst (λ (j : Instr). KnowsButData (registers_of j) q.place.state.registers) is (o.knows (operation_needs (acts q.place.state v) operation))

        one : (r : ℕ) → is_some (view q.place.state.registers r) ≡ true → is_some (view a.registers r) ≡ true
        one r e = some_told (view q.place.state.registers r) (view a.registers r) (λ n f. ahead.registers r n f) e

    next : v.next ≡ plus a.pc 4
    next = o.next ∙ operation_next q.place.state.pc (acts q.place.state v) operation ∙ ap (λ (pc : ℕ). plus pc 4) (sym ahead.pc)

    accesses : v.access ≡ made
    accesses = by_over (over a.registers a.pc i true (λ e. known) owns image h m opening q.place.state v (sym ahead.pc) is moves.acts agrees)
      where
        by_over : IsOver true made v.access → v.access ≡ made
        by_over (inl same) = same.1 refl
        by_over (inr failing) = absurd (dry_not failing.no_load failing.dry)

  -- the operands are known
  pub operands_known : OfOperations owns image h a (λ v. KnowsButData (registers_of i) a.registers)
  operands_known m opening q v ahead moves op public = known m opening q v ahead moves op

  pub makes_access : (y : Access) → y ≡ made → OfOperations owns image h a (λ v. MakesAt a.pc y v)
  makes_access y e m opening q v ahead moves op public = (accesses m opening q v ahead moves op ∙ sym e, next m opening q v ahead moves op)

  -- there is none where the access is no operation, or on own bytes
  pub none_made : (y : Access) → y ≡ made → loads y ≡ false → writing y ≡ false → OfOperations owns image h a (λ v. ⊥)
  none_made y e no_load dry m opening q v ahead moves op public =
      let s : v.access ≡ y = accesses m opening q v ahead moves op ∙ sym e in
      dry_not m opening q v ahead moves op (ap loads s ∙ no_load) (ap writing s ∙ dry)

  pub none_shared : (y : Access) → y ≡ made → is_own owns h (address_of y) ≡ true → OfOperations owns image h a (λ v. ⊥)
  none_shared y e own m opening q v ahead moves op public =
      let s : v.access ≡ y = accesses m opening q v ahead moves op ∙ sym e in
      both (loads v.access || writing v.access) (is_own owns h (address_of v.access)) op (ap (λ (z : Access). is_own owns h (address_of z)) s ∙ own) public

-- there is none where nothing is decoded
pub none_decoded : (owns : ℕ → ℕ → Bool) (image : Memory) (h : ℕ) (a : RunState) → decoded image a.pc ≡ None → OfOperations owns image h a (λ v. ⊥)
none_decoded owns image h a none m opening q v ahead moves op public =
    let e : decoded image q.place.state.pc ≡ None = ap (λ (pc : ℕ). decoded image pc) (sym ahead.pc) ∙ none in
    let d = moves.decodes in
    cc
