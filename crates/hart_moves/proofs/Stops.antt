-- The stop of an action, as what it leaves of a hart has it.
use Rattle.std.proofs.Common.{◌≡◌, ℕ, ◌%◌, ◌==◌, Bool, true, false, if◌then◌else◌, List, Some, None, refl, sym, ap}
use Rattle.pages.specs.Memory.{Memory}
use Rattle.round_schedule.specs.Accesses.{is_full_fence}
use Rattle.rv64_decode.specs.declared.instruction.Instr.{Instr}
use Rattle.rv64_decode.specs.declared.instruction.Instr.TheVariants.{Ecall}
use Rattle.rv64_decode.specs.declared.ordering.FenceMode.{FenceMode}
use Rattle.rv64_decode.specs.declared.ordering.FenceSet.{FenceSet}
use Rattle.hart_step.specs.declared.hart.Hart.{Hart}
use Rattle.hart_step.specs.Effect.{Action, Put, Jump, Branch, Read, Write, Order, Halt, Reserve, Conditional, Exchange, Call, action}
use Rattle.hart_step.specs.Step.{fenced, jumped, next_pc, ordered, performed, put_to, stopped_by, waiting}
use Rattle.run_bounds.specs.declared.operation.Operation.{Operation}
use Rattle.run_bounds.specs.Operations.{operation_in}
use Rattle.all_endings.specs.Stopping.{stop_in, stop_of_jump, stop_with}
use Rattle.hart_moves.specs.Stops.{stop_of_operation}

same_stop : (image : Memory) (o p : Operation) → Some o ≡ Some p → stop_of_operation image o ≡ stop_of_operation image p
same_stop image o p e = let d : o ≡ p = cc in ap (λ (q : Operation). stop_of_operation image q) d

-- a memory operation stops by its fault alone
pub operation_stops : (image : Memory) (x : List ℕ) (b : Action) (o : Operation) → operation_in b ≡ Some o → stop_of_operation image o ≡ stop_in image x b
operation_stops image x (Put rd n) o e = absurd (cc)
operation_stops image x (Jump rd t) o e = absurd (cc)
operation_stops image x (Branch t n) o e = absurd (cc)
operation_stops image x (Read rd a w signed) o e = sym (same_stop image _ o e)
operation_stops image x (Write a w n) o e = sym (same_stop image _ o e)
operation_stops image x (Order b a m) o e = absurd (cc)
operation_stops image x (Halt c) o e = absurd (cc)
operation_stops image x (Reserve rd a w r) o e = sym (same_stop image _ o e)
operation_stops image x (Conditional rd a w n r) o e = sym (same_stop image _ o e)
operation_stops image x (Exchange rd a w f r) o e = sym (same_stop image _ o e)
operation_stops image x Call o e = absurd (cc)

jump_stops : (h : Hart) (rd target : ℕ) → h.stop ≡ None → (jumped h rd target).hart.stop ≡ stop_of_jump target
jump_stops h rd target runs = by_test (target % 4 == 0)
  where
    by_test : (t : Bool) → (if t then put_to h rd (next_pc h) target else stopped_by h 4).hart.stop ≡ (if t then None else Some (stop_with 4))
    by_test true = runs
    by_test false = refl

fence_stops : (h : Hart) (before after : FenceSet) (mode : FenceMode) → h.stop ≡ None → (ordered h before after mode).hart.stop ≡ None
fence_stops h before after mode runs = by_test (is_full_fence before after mode)
  where
    by_test : (t : Bool) → (if t then waiting h else fenced h before after mode).hart.stop ≡ None
    by_test true = runs
    by_test false = runs

-- an instruction that is neither an operation nor a call stops as the hart does in the parallel phase
pub others_stop : (image : Memory) (h : Hart) (b : Action) → h.stop ≡ None → operation_in b ≡ None → (b ≡ Call → ⊥) → (performed b h image).hart.stop ≡ stop_in image h.x b
others_stop image h (Put rd n) runs e call = runs
others_stop image h (Jump rd t) runs e call = jump_stops h rd t runs
others_stop image h (Branch true t) runs e call = jump_stops h 0 t runs
others_stop image h (Branch false t) runs e call = runs
others_stop image h (Read rd a w signed) runs e call = absurd (cc)
others_stop image h (Write a w n) runs e call = absurd (cc)
others_stop image h (Order b a m) runs e call = fence_stops h b a m runs
others_stop image h (Halt c) runs e call = refl
others_stop image h (Reserve rd a w r) runs e call = absurd (cc)
others_stop image h (Conditional rd a w n r) runs e call = absurd (cc)
others_stop image h (Exchange rd a w f r) runs e call = absurd (cc)
others_stop image h Call runs e call = absurd (call refl)

-- an ECALL alone is a call
pub call_only : (i : Instr) (x : List ℕ) (pc : ℕ) → action i x pc ≡ Call → i ≡ Ecall
call_only Ecall x pc e = refl
call_only _ x pc e = absurd (cc)
