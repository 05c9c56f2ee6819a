-- What another instruction depends on has a destination register, so it is no plain store.
use Rattle.std.proofs.Common.{◌≡◌, ◌≢◌, ℕ, Bool, true, false, if◌then◌else◌, List, slice_index_or, refl, sym, ap, ◌∙◌, ◌⊎◌, inl, inr}
use Rattle.std.proofs.lemmas.Bool.{cases_Bool}
use Rattle.rv64_decode.specs.declared.instruction.Instr.{Instr}
use Rattle.rv64_decode.specs.declared.instruction.Instr.TheVariants.{Ecall, Sb, Sh, Sw, Sd}
use Rattle.round_schedule.specs.declared.event.Event.{Event}
use Rattle.round_schedule.specs.Positions.{event}
use Rattle.memory_order.specs.Operations.{is_plain_store}
use Rattle.memory_order.specs.Orders.{order_position}
use Rattle.memory_order.specs.Rvwmo.{MeetsRvwmo, MeetsRvwmoBy, NotPlainStore}
use Rattle.memory_order.proofs.Fewer.{fewer_are_met}
use Rattle.memory_order.specs.Dependencies.{DependencyRule, Depends, by-address, by-address-between, by-control, by-data, by-forwarding, destination_at, directly, has_failed, registers_at, through}
use Rattle.memory_order.specs.Registers.{registers_of}
use Rattle.memory_order.specs.WiderRule.{StoresAreOfStores, WiderRuleIsWider, is_store_instruction}

writer_has_destination : (is : List Instr) (t : List Event) (h j r i : ℕ) → Depends is t h j r i → destination_at is t i ≢ 0
writer_has_destination is t h _ _ i (directly _ _ _ w) = λ none. w.register (sym w.destination ∙ none)
writer_has_destination is t h _ _ i (through _ _ m p _ d c s e) = writer_has_destination is t h m p i e

store_has_no_destination : (i : Instr) → is_store_instruction i ≡ true → (registers_of i).destination ≡ 0
store_has_no_destination (Sb rs1 rs2 imm) e = refl
store_has_no_destination (Sh rs1 rs2 imm) e = refl
store_has_no_destination (Sw rs1 rs2 imm) e = refl
store_has_no_destination (Sd rs1 rs2 imm) e = refl
store_has_no_destination _ e = cc

zero_either_way : (b : Bool) (n : ℕ) → n ≡ 0 → (if b then 0 else n) ≡ 0
zero_either_way true n e = refl
zero_either_way false n e = e

not_plain_store : (is : List Instr) (t : List Event) (h j r i : ℕ) → StoresAreOfStores is t → Depends is t h j r i → is_plain_store (event t i).access ≡ false
not_plain_store is t h j r i stores d = elim (cases_Bool (is_plain_store (event t i).access)) [
  | inr other ↦ other
  | inl plain ↦ absurd (writer_has_destination is t h j r i d
      (zero_either_way (has_failed (event t i).access) (registers_at is i).destination (store_has_no_destination (slice_index_or is i Ecall) (stores i plain))))
]

rule_is_wider : (is : List Instr) (t : List Event) (pos : ℕ → ℕ) (a b : ℕ) → StoresAreOfStores is t → DependencyRule is t pos a b → NotPlainStore t a b
rule_is_wider is t pos a b stores (by-address d) = not_plain_store is t _ _ _ a stores d
rule_is_wider is t pos a b stores (by-data s d) = not_plain_store is t _ _ _ a stores d
rule_is_wider is t pos a b stores (by-control s (m, before, steers, (r, source, d))) = not_plain_store is t _ _ _ a stores d
rule_is_wider is t pos a b stores (by-forwarding m x before (inl d) reads source) = not_plain_store is t _ _ _ a stores d
rule_is_wider is t pos a b stores (by-forwarding m x before (inr d) reads source) = not_plain_store is t _ _ _ a stores d
rule_is_wider is t pos a b stores (by-address-between m s before d) = not_plain_store is t _ _ _ a stores d

pub wider_is_wider : WiderRuleIsWider
wider_is_wider is t opening g stores meets =
    fewer_are_met (DependencyRule is t) (λ pos. NotPlainStore t) t opening g (λ a b. rule_is_wider is t (order_position g) a b stores) meets
