-- The access of a move beside the one over constants.
use Rattle.std.proofs.Common.{◌≡◌, ℕ, ◌⊎◌, Bool, true, false, inl, inr, List, Option, Some, None, is_some, refl, sym, ap, ◌∙◌, subst}
use Rattle.std.proofs.lemmas.Bool.{cases_Bool}
use Rattle.round_schedule.specs.declared.access.Access.{Access}
use Rattle.round_schedule.specs.declared.access.Access.TheVariants.{Load, Store, LoadReserved, StoreConditional, Atomic, Fence}
use Rattle.round_schedule.specs.Accesses.{is_sc, loads}
use Rattle.round_schedule.specs.Accesses.{stores as writing}
use Rattle.rv64_decode.specs.declared.instruction.Instr.{Instr}
use Rattle.rv64_decode.specs.declared.instruction.Instr.TheVariants.{Ecall}
use Rattle.hart_step.specs.Effect.{Action, Put, Read, Write, Order, Halt, Call, Reserve, Conditional, Exchange, action}
use Rattle.hart_step.specs.Registers.{reg}
use Rattle.execution.specs.Executions.{no_access}
use Rattle.memory_order.specs.Registers.{registers_of}
use Rattle.run_bounds.specs.declared.operation.Operation.{Operation}
use Rattle.run_bounds.specs.Operations.{access_of, operation_in}
use Rattle.all_endings.specs.HartRuns.{acts}
use Rattle.all_endings.specs.Locality.{AgreesButData, KnowsButData, filled, view}
use Rattle.all_endings.proofs.Locality.{action_but_data, filled_refines}
use Rattle.early_reads.specs.declared.early_point.LateKinds.{LateKinds}
use Rattle.early_reads.specs.EarlyMaps.{Agrees}
use Rattle.early_reads.specs.Flows.{FailsThere, IsOver, MovesFrom, access_in, unplaced}
use Rattle.early_reads.specs.Windows.{shuts}
use Rattle.early_reads.proofs.Moves.{IsOf, access_data, apart_is_of, needs_operands, same_there}

abbrev access_or : Option Operation → Access
access_or None = no_access
access_or (Some o) = access_of o

pub access_of_operation : (b : Action) (o : Operation) → operation_in b ≡ Some o → access_in b ≡ access_of o
access_of_operation (Read rd a w s) o e = ap access_or e
access_of_operation (Write a w v) o e = ap access_or e
access_of_operation (Reserve rd a w p) o e = ap access_or e
access_of_operation (Conditional rd a w v p) o e = ap access_or e
access_of_operation (Exchange rd a w f p) o e = ap access_or e
access_of_operation _ o e = absurd (cc)

-- ---- kinds

pub same_kind : (i : Instr) (x y : List ℕ) (pc : ℕ) → unplaced (access_in (action i x pc)) ≡ unplaced (access_in (action i y pc))
same_kind Ecall x y pc = refl
same_kind _ x y pc = refl

loads_un : (y : Access) → loads (unplaced y) ≡ loads y
loads_un (Load w p a r) = refl
loads_un (Store w p a r) = refl
loads_un (LoadReserved w o p a r) = refl
loads_un (StoreConditional w o p a r) = refl
loads_un (Atomic w o p a r u) = refl
loads_un (Fence c d m p) = refl

writing_un : (y : Access) → writing (unplaced y) ≡ writing y
writing_un (Load w p a r) = refl
writing_un (Store w p a r) = refl
writing_un (LoadReserved w o p a r) = refl
writing_un (StoreConditional w o p a r) = refl
writing_un (Atomic w o p a r u) = refl
writing_un (Fence c d m p) = refl

shuts_un : (l : LateKinds) (y : Access) → shuts l (unplaced y) ≡ shuts l y
shuts_un l (Load w p a r) = refl
shuts_un l (Store w p a r) = refl
shuts_un l (LoadReserved w o p a r) = refl
shuts_un l (StoreConditional w o p a r) = refl
shuts_un l (Atomic w o p a r u) = refl
shuts_un l (Fence c d m p) = refl

sc_un : (y : Access) → is_sc (unplaced y) ≡ is_sc y
sc_un (Load w p a r) = refl
sc_un (Store w p a r) = refl
sc_un (LoadReserved w o p a r) = refl
sc_un (StoreConditional w o p a r) = refl
sc_un (Atomic w o p a r u) = refl
sc_un (Fence c d m p) = refl

sc_same : (z y : Access) → unplaced z ≡ unplaced y → is_sc z ≡ is_sc y
sc_same z y e = sym (sc_un z) ∙ ap is_sc e ∙ sc_un y

pub loads_same : (z y : Access) → unplaced z ≡ unplaced y → loads z ≡ loads y
loads_same z y e = sym (loads_un z) ∙ ap loads e ∙ loads_un y

pub writing_same : (z y : Access) → unplaced z ≡ unplaced y → writing z ≡ writing y
writing_same z y e = sym (writing_un z) ∙ ap writing e ∙ writing_un y

pub shuts_same : (l : LateKinds) (z y : Access) → unplaced z ≡ unplaced y → shuts l z ≡ shuts l y
shuts_same l z y e = sym (shuts_un l z) ∙ ap (shuts l) e ∙ shuts_un l y

-- ---- moves

abbrev is_fence : Access → Bool
is_fence (Fence before after mode p) = true
is_fence _ = false

fence_same : (z y : Access) → is_fence z ≡ true → unplaced z ≡ unplaced y → z ≡ y
fence_same (Fence c d m p) (Fence c2 d2 m2 p2) f e = e
fence_same (Fence c d m p) _ f e = absurd (cc)
fence_same _ y f e = absurd (cc)

quiet_fence : (b : Action) → needs_operands b ≡ false → is_fence (access_in b) ≡ true
quiet_fence (Put rd n) e = refl
quiet_fence (Order before after mode) e = refl
quiet_fence (Halt n) e = refl
quiet_fence Call e = refl
quiet_fence _ e = absurd (cc)

module _ (k : List (Option ℕ)) (pc : ℕ) (i : Instr) where
  agrees_operands : (v : List (Option ℕ)) → Agrees k v → KnowsButData (registers_of i) k → KnowsButData (registers_of i) v → AgreesButData (registers_of i) (filled v) (filled k)
  agrees_operands v agrees there here = record {
    address = one (registers_of i).address there.address here.address;
    first = one (registers_of i).first there.first here.first;
    second = one (registers_of i).second there.second here.second;
  }
    where
      one : (r : ℕ) → is_some (view k r) ≡ true → is_some (view v r) ≡ true → reg (filled v) r ≡ reg (filled k) r
      one r known seen = by_view (view k r) refl known
        where
          by_view : (o : Option ℕ) → view k r ≡ o → is_some o ≡ true → reg (filled v) r ≡ reg (filled k) r
          by_view None e q = absurd (cc)
          by_view (Some n) e q = same_there k v r n agrees e seen ∙ sym (filled_refines k r n e)

  same_place : (v : List (Option ℕ)) → AgreesButData (registers_of i) (filled v) (filled k) → access_in (action i (filled v) pc) ≡ access_in (action i (filled k) pc)
  same_place v agrees =
      sym (access_data (action i (filled v) pc)) ∙ ap access_in (action_but_data i (filled v) (filled k) pc agrees) ∙ access_data (action i (filled k) pc)

  -- an access that needs no operands is the same over all registers
  no_operands : (x y : List ℕ) → needs_operands (action i x pc) ≡ false → access_in (action i x pc) ≡ access_in (action i y pc)
  no_operands x y e = fence_same _ _ (quiet_fence (action i x pc) e) (same_kind i x y pc)

  pub over : (known : Bool) → (known ≡ true → KnowsButData (registers_of i) k) → MovesFrom k pc i (λ a v. IsOver known (access_in (action i (filled k) pc)) v.access)
  over known knows owns image h m opening a v at is acting agrees = by_access o.access
    where
      o : IsOf a v
      o = apart_is_of image h m opening a v owns acting

      same : acts a v ≡ action i (filled a.registers) pc
      same = ap (λ (j : Instr). action j (filled a.registers) a.pc) is ∙ ap (λ (p : ℕ). action i (filled a.registers) p) at

      kind : unplaced (access_in (acts a v)) ≡ unplaced (access_in (action i (filled k) pc))
      kind = ap (λ (b : Action). unplaced (access_in b)) same ∙ same_kind i (filled a.registers) (filled k) pc

      there : known ≡ true → access_in (acts a v) ≡ access_in (action i (filled k) pc)
      there e = elim (cases_Bool (needs_operands (acts a v))) [
        | inl needed ↦
            ap access_in same ∙ same_place a.registers (agrees_operands a.registers agrees (knows e) (subst (λ (j : Instr). KnowsButData (registers_of j) a.registers) is (o.knows needed)))
        | inr unneeded ↦ ap access_in same ∙ no_operands (filled a.registers) (filled k) (sym (ap needs_operands same) ∙ unneeded)
      ]

      by_access : ((v.access ≡ access_in (acts a v)) ⊎ FailsThere v.access (access_in (acts a v))) → IsOver known (access_in (action i (filled k) pc)) v.access
      by_access (inl e) = inl (ap unplaced e ∙ kind, λ q. e ∙ there q)
      by_access (inr failing) = inr (record {
        sc = sym (sc_same _ _ kind) ∙ failing.sc;
        store = sym (writing_same _ _ kind) ∙ failing.store;
        dry = failing.dry;
        no_load = failing.no_load;
      })
