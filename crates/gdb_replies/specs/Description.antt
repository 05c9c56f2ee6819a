-- The registers that a debugger is shown, as a document of gdb's: x0 to x31 by the names of the calling convention, pc, and those that say where in
-- the run a hart is. Without an ABI of its own gdb takes that of another system, and steps by breakpoints.
use Rattle.std.specs.Prelude.{ℕ, List, [], ◌∷◌, ◌++◌, codes}
use Rattle.std.specs.List.{flat_map}

-- a register of 64 bits
abbrev pub described : List ℕ × List ℕ → List ℕ
described r = codes "<reg name=\"" ++ r.0 ++ codes "\" bitsize=\"64\" type=\"" ++ r.1 ++ codes "\"/>"

abbrev pub hart_registers : List (List ℕ × List ℕ)
hart_registers =
    (codes "zero", codes "int") ∷ (codes "ra", codes "code_ptr") ∷ (codes "sp", codes "data_ptr") ∷ (codes "gp", codes "data_ptr") ∷
    (codes "tp", codes "data_ptr") ∷ (codes "t0", codes "int") ∷ (codes "t1", codes "int") ∷ (codes "t2", codes "int") ∷
    (codes "fp", codes "data_ptr") ∷ (codes "s1", codes "int") ∷ (codes "a0", codes "int") ∷ (codes "a1", codes "int") ∷
    (codes "a2", codes "int") ∷ (codes "a3", codes "int") ∷ (codes "a4", codes "int") ∷ (codes "a5", codes "int") ∷
    (codes "a6", codes "int") ∷ (codes "a7", codes "int") ∷ (codes "s2", codes "int") ∷ (codes "s3", codes "int") ∷
    (codes "s4", codes "int") ∷ (codes "s5", codes "int") ∷ (codes "s6", codes "int") ∷ (codes "s7", codes "int") ∷
    (codes "s8", codes "int") ∷ (codes "s9", codes "int") ∷ (codes "s10", codes "int") ∷ (codes "s11", codes "int") ∷
    (codes "t3", codes "int") ∷ (codes "t4", codes "int") ∷ (codes "t5", codes "int") ∷ (codes "t6", codes "int") ∷
    (codes "pc", codes "code_ptr") ∷ []

abbrev pub moment_registers : List (List ℕ × List ℕ)
moment_registers = (codes "round", codes "uint64") ∷ (codes "place", codes "uint64") ∷ (codes "phase", codes "uint64") ∷ []

unfoldable pub target_text : List ℕ
target_text =
    codes "<?xml version=\"1.0\"?><!DOCTYPE target SYSTEM \"gdb-target.dtd\"><target version=\"1.0\"><architecture>riscv:rv64</architecture><osabi>none</osabi><feature name=\"org.gnu.gdb.riscv.cpu\">"
    ++ flat_map described hart_registers
    ++ codes "</feature><feature name=\"org.dethart.moment\">"
    ++ flat_map described moment_registers
    ++ codes "</feature></target>"
