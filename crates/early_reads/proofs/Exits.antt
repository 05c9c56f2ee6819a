-- A call of the number 0 has no move.
use Rattle.std.proofs.Common.{◌≡◌, ℕ, Bool, true, false, List, Option, Some, refl, sym, ap, ◌∙◌}
use Rattle.rv64_decode.specs.declared.instruction.Instr.{Instr}
use Rattle.rv64_decode.specs.declared.instruction.Instr.TheVariants.{Ecall}
use Rattle.hart_step.specs.Effect.{Action, Branch, Call, Conditional, Exchange, Halt, Jump, Order, Put, Read, Reserve, Write, action}
use Rattle.all_endings.specs.HartRuns.{Acts, acts, branches, calls, exchanges, exchanges-unknown, fails, jumps, orders, puts, puts-unknown, reads, reserves, stores, succeeds}
use Rattle.all_endings.specs.Locality.{filled, view, without_data}
use Rattle.all_endings.specs.RunStates.{Move, RunState}
use Rattle.all_endings.specs.StoreLists.{Stored}
use Rattle.pages.specs.Memory.{Memory}
use Rattle.private_bytes.specs.PrivateMoves.{keeps, recalls, shares}
use Rattle.early_reads.specs.EarlyMaps.{Agrees}
use Rattle.early_reads.specs.Flows.{MovesFrom}

abbrev is_call : Action → Bool
is_call Call = true
is_call _ = false

call_bare : (b : Action) → is_call (without_data b) ≡ is_call b
call_bare (Put rd n) = refl
call_bare (Jump rd t) = refl
call_bare (Branch c t) = refl
call_bare (Read rd a w s) = refl
call_bare (Write a w r) = refl
call_bare (Order x y z) = refl
call_bare (Halt c) = refl
call_bare (Reserve rd a w o) = refl
call_bare (Conditional rd a w v o) = refl
call_bare (Exchange rd a w f o) = refl
call_bare Call = refl

module _ (k : List (Option ℕ)) (zero_there : view k 17 ≡ Some 0) (image : Memory) (h : ℕ) (m : List Stored) (opening : ℕ → ℕ) (HasPlace : Move → Type 0) (a : RunState) (v : Move)
    (is : v.instruction ≡ Ecall) (agrees : Agrees k a.registers) where
  calling : is_call (acts a v) ≡ true
  calling = ap (λ (i : Instr). is_call (action i (filled a.registers) a.pc)) is

  no_act : Acts image h m opening HasPlace a v → ⊥
  no_act (puts rd n known to d e x) = let r = calling in let q = ap is_call to in cc
  no_act (puts-unknown rd n known to d e x) = let r = calling in let q = ap is_call to in cc
  no_act (jumps rd target known to even d e x) = let r = calling in let q = ap is_call to in cc
  no_act (branches taken target known to even d x) = let r = calling in let q = ap is_call to in cc
  no_act (orders before after mode to d x) = let r = calling in let q = ap is_call to in cc
  no_act (reads rd address w signed number known to safe d g e x) = let r = calling in let q = ap is_call to in cc
  no_act (stores address w known to safe d data_is q x) = let r = calling in let p = sym (call_bare (acts a v)) ∙ ap is_call to in cc
  no_act (reserves rd address w o number known to safe d g e x) = let r = calling in let q = ap is_call to in cc
  no_act (fails rd address w o known to safe d e x) = let r = calling in let p = sym (call_bare (acts a v)) ∙ ap is_call to in cc
  no_act (succeeds rd address w o known to safe d data_is held reserved q unbroken e x) = let r = calling in let p = sym (call_bare (acts a v)) ∙ ap is_call to in cc
  no_act (exchanges rd address w f o number known to safe d g e data_is q x) = let r = calling in let p = ap is_call to in cc
  no_act (exchanges-unknown rd address w o known none to safe d g e data_is x) = let r = calling in let p = sym (call_bare (acts a v)) ∙ ap is_call to in cc
  no_act (calls number answer ecall at nonzero answered d e x) = nonzero (sym (agrees 17 0 number zero_there at))

pub no_exit_move : (k : List (Option ℕ)) (pc : ℕ) (i : Instr) → i ≡ Ecall → view k 17 ≡ Some 0 → MovesFrom k pc i (λ a v. ⊥)
no_exit_move k pc i is there owns image h m opening a v at same (shares shared doing) agrees = no_act k there image h m opening _ a v (same ∙ is) agrees doing
no_exit_move k pc i is there owns image h m opening a v at same (keeps private plain doing) agrees = no_act k there image h m opening _ a v (same ∙ is) agrees doing
no_exit_move k pc i is there owns image h m opening a v at same (recalls rd address w signed private known to safe d needs r source x) agrees =
    let y = ap (λ (j : Instr). is_call (action j (filled a.registers) a.pc)) (same ∙ is) in let q = ap is_call to in cc
