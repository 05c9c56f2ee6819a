-- The registers of a decoded instruction are registers.
use Rattle.std.proofs.Common.{◌≡◌, ℕ, ◌<◌, ◌==◌, Bool, true, false, if◌then◌else◌, List, [], ◌∷◌, ◌++◌, length, slice_index_or, Option, Some, None, sym, ap, ◌∙◌, subst, inl, inr, arith}
use Rattle.std.proofs.lemmas.Bool.{cases_eq, cases_lt}
use Rattle.std.proofs.Math.Seq.{get_or-append_seam}
use Rattle.std.proofs.lemmas.List.{get_or_append_left, get_or_past, length-append}
use Rattle.std.specs.Int.Bits.{bit_and}
use Rattle.pages.specs.Memory.{Memory, fetched}
use Rattle.rv64_decode.specs.declared.instruction.Instr.{Instr}
use Rattle.rv64_decode.specs.declared.instruction.Instr.TheVariants.{Ecall}
use Rattle.rv64_decode.specs.Operands.{rd_of, rs1_of, rs2_of}
use Rattle.rv64_decode.specs.Table.{Row, first_of, instr_of, rows, rv32a, rv32i, rv32m, rv64a, rv64i, rv64m}
use Rattle.hart_step.specs.DecodedCode.{decoded, instr_in}
use Rattle.memory_order.specs.Registers.{branches, computes, computes_one, exchanges, loads, none, registers_of, sets, stores, turns}
use Rattle.memory_order.specs.Dependencies.{registers_at}
use Rattle.rule_checker.specs.CarriedBounds.{AreRegisters}
use Rattle.execution.specs.Executions.{Executes, Standing, begins, goes, stops}
use Rattle.execution.specs.Progressing.{at_start}
use Rattle.all_endings.specs.Decoded.{RegistersAreRegisters}

rd_fits : (w : ℕ) → rd_of w < 32
rd_fits w = omega arith

rs1_fits : (w : ℕ) → rs1_of w < 32
rs1_fits w = omega arith

rs2_fits : (w : ℕ) → rs2_of w < 32
rs2_fits w = omega arith

-- ---- by the forms of rows

zero_fits : 0 < 32
zero_fits = omega arith

nothing : (w : ℕ) → AreRegisters none
nothing w = record { address = zero_fits; value = zero_fits; first = zero_fits; second = zero_fits; destination = zero_fits }

set : (w : ℕ) → AreRegisters (sets (rd_of w))
set w = record { address = zero_fits; value = zero_fits; first = zero_fits; second = zero_fits; destination = rd_fits w }

turned : (w : ℕ) → AreRegisters (turns (rd_of w) (rs1_of w))
turned w = record { address = zero_fits; value = zero_fits; first = rs1_fits w; second = zero_fits; destination = rd_fits w }

branched : (w : ℕ) → AreRegisters (branches (rs1_of w) (rs2_of w))
branched w = record { address = zero_fits; value = zero_fits; first = rs1_fits w; second = rs2_fits w; destination = zero_fits }

computed_one : (w : ℕ) → AreRegisters (computes_one (rd_of w) (rs1_of w))
computed_one w = record { address = zero_fits; value = zero_fits; first = rs1_fits w; second = zero_fits; destination = rd_fits w }

computed : (w : ℕ) → AreRegisters (computes (rd_of w) (rs1_of w) (rs2_of w))
computed w = record { address = zero_fits; value = zero_fits; first = rs1_fits w; second = rs2_fits w; destination = rd_fits w }

loaded : (w : ℕ) → AreRegisters (loads (rd_of w) (rs1_of w))
loaded w = record { address = rs1_fits w; value = zero_fits; first = zero_fits; second = zero_fits; destination = rd_fits w }

stored : (w : ℕ) → AreRegisters (stores (rs1_of w) (rs2_of w))
stored w = record { address = rs1_fits w; value = rs2_fits w; first = zero_fits; second = zero_fits; destination = zero_fits }

exchanged : (w : ℕ) → AreRegisters (exchanges (rd_of w) (rs1_of w) (rs2_of w))
exchanged w = record { address = rs1_fits w; value = rs2_fits w; first = zero_fits; second = zero_fits; destination = rd_fits w }

-- ---- rows

data RowsFit : List Row → Type 0 where
  fit-none : RowsFit []
  fit : {r : Row} {rs : List Row} → ((w : ℕ) → AreRegisters (registers_of (r.make w))) → RowsFit rs → RowsFit (r ∷ rs)

both_fit : (xs ys : List Row) → RowsFit xs → RowsFit ys → RowsFit (xs ++ ys)
both_fit [] ys fit-none b = b
both_fit (x ∷ xs) ys (fit a rest) b = fit a (both_fit xs ys rest b)

rv32i_fit : RowsFit rv32i
rv32i_fit =
    (fit set (fit set (fit set (fit turned (fit branched (fit branched (fit branched (fit branched (fit branched (fit branched (fit loaded
    (fit loaded (fit loaded (fit loaded (fit loaded (fit stored (fit stored (fit stored (fit computed_one (fit computed_one
    (fit computed_one (fit computed_one (fit computed_one (fit computed_one (fit computed (fit computed (fit computed (fit computed
    (fit computed (fit computed (fit computed (fit computed (fit computed (fit computed (fit nothing (fit nothing (fit nothing
    fit-none)))))))))))))))))))))))))))))))))))))

rv64i_fit : RowsFit rv64i
rv64i_fit =
    (fit loaded (fit loaded (fit stored (fit computed_one (fit computed_one (fit computed_one (fit computed_one (fit computed_one
    (fit computed_one (fit computed_one (fit computed (fit computed (fit computed (fit computed (fit computed fit-none)))))))))))))))

rv32m_fit : RowsFit rv32m
rv32m_fit =
    (fit computed (fit computed (fit computed (fit computed (fit computed (fit computed (fit computed (fit computed fit-none))))))))

rv64m_fit : RowsFit rv64m
rv64m_fit =
    (fit computed (fit computed (fit computed (fit computed (fit computed fit-none)))))

rv32a_fit : RowsFit rv32a
rv32a_fit =
    (fit loaded (fit exchanged (fit exchanged (fit exchanged (fit exchanged (fit exchanged (fit exchanged (fit exchanged (fit exchanged
    (fit exchanged (fit exchanged fit-none)))))))))))

rv64a_fit : RowsFit rv64a
rv64a_fit =
    (fit loaded (fit exchanged (fit exchanged (fit exchanged (fit exchanged (fit exchanged (fit exchanged (fit exchanged (fit exchanged
    (fit exchanged (fit exchanged fit-none)))))))))))

rows_fit : RowsFit rows
rows_fit =
    both_fit rv32i (rv64i ++ rv32m ++ rv64m ++ rv32a ++ rv64a) rv32i_fit
    (both_fit rv64i (rv32m ++ rv64m ++ rv32a ++ rv64a) rv64i_fit
    (both_fit rv32m (rv64m ++ rv32a ++ rv64a) rv32m_fit
    (both_fit rv64m (rv32a ++ rv64a) rv64m_fit
    (both_fit rv32a rv64a rv32a_fit rv64a_fit))))

one_fits : (b : Bool) (j i : Instr) (rest : Option Instr) → AreRegisters (registers_of j) → (rest ≡ Some i → AreRegisters (registers_of i)) →
    (if b then Some j else rest) ≡ Some i →
    AreRegisters (registers_of i)
one_fits true j i rest this others e = let same : j ≡ i = cc in subst (λ (k : Instr). AreRegisters (registers_of k)) same this
one_fits false j i rest this others e = others e

chosen_fits : (rs : List Row) (w : ℕ) (i : Instr) → RowsFit rs → first_of rs w ≡ Some i → AreRegisters (registers_of i)
chosen_fits [] w i fit-none e = cc
chosen_fits (r ∷ rs) w i (fit row rest) e = one_fits (bit_and w r.mask == r.value) (r.make w) i (first_of rs w) (row w) (λ d. chosen_fits rs w i rest d) e

pub word_fits : (w : ℕ) (i : Instr) → instr_of w ≡ Some i → AreRegisters (registers_of i)
unfolding instr_of
word_fits w i e = chosen_fits rows w i rows_fit e

fetched_fits : (o : Option ℕ) (i : Instr) → instr_in o ≡ Some i → AreRegisters (registers_of i)
fetched_fits None i e = cc
fetched_fits (Some w) i e = word_fits w i e

pub decoded_fits : (image : Memory) (pc : ℕ) (i : Instr) → decoded image pc ≡ Some i → AreRegisters (registers_of i)
unfolding decoded
decoded_fits image pc i e = fetched_fits (fetched image pc) i e

-- ---- all instructions of an execution

abbrev AllFit : List Instr → Type 0
AllFit is = (k : ℕ) → AreRegisters (registers_at is k)

one_more : (is : List Instr) (i : Instr) → AreRegisters (registers_of i) → AllFit is → AllFit (is ++ i ∷ [])
one_more is i fits each k = elim (cases_lt k (length is)) [
  | inl low ↦ subst (λ (j : Instr). AreRegisters (registers_of j)) (sym (get_or_append_left is (i ∷ []) Ecall k low)) (each k)
  | inr high ↦ elim (cases_eq k (length is)) [
    | inl last ↦ subst (λ (j : Instr). AreRegisters (registers_of j)) (sym (ap (λ (n : ℕ). slice_index_or (is ++ i ∷ []) n Ecall) last ∙ get_or-append_seam is i [] Ecall)) fits
    | inr other ↦ subst (λ (j : Instr). AreRegisters (registers_of j)) (sym (get_or_past (is ++ i ∷ []) k Ecall (simp length-append (omega (arith, high, other))))) (nothing 0)
  ]
]

none_fit : AllFit []
none_fit k = nothing 0

pub executes_fit : (image : Memory) (p q : Standing) → Executes image p q → AllFit p.instructions → AllFit q.instructions
executes_fit image p q (begins _) each = each
executes_fit image p q (goes i _ s _ x g) each =
    subst AllFit (sym g.instructions) (one_more s.instructions g.instruction (decoded_fits image g.before.pc g.instruction g.decodes) (executes_fit image p s x each))
executes_fit image p q (stops i _ s _ x g) each = subst AllFit (sym g.instructions) (executes_fit image p s x each)

pub all_registers_are : RegistersAreRegisters
all_registers_are image hs c q e = executes_fit image (at_start hs c) q e none_fit
