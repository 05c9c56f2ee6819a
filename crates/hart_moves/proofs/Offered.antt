-- What a state offers is what its next operation does.
use Rattle.std.proofs.Common.{◌≡◌, ℕ, List, length, Option, Some, refl, sym, ap, ◌∙◌, subst, inl, inr}
use Rattle.pages.specs.Memory.{Memory, width_bytes}
use Rattle.round_schedule.specs.Accesses.{address_of, bytes_of}
use Rattle.round_schedule.specs.Accesses.{stores as writing}
use Rattle.rv64_decode.specs.declared.instruction.Instr.{Instr}
use Rattle.hart_step.specs.DecodedCode.{decoded}
use Rattle.hart_step.specs.Effect.{action}
use Rattle.run_bounds.specs.declared.operation.Operation.{Operation}
use Rattle.run_bounds.specs.Operations.{access_of, operation_in}
use Rattle.all_endings.specs.Locality.{DestinationsAreWritten, filled}
use Rattle.all_endings.specs.Offering.{Offers}
use Rattle.all_endings.specs.RunStates.{RunState}
use Rattle.all_endings.specs.StoreLists.{Stored}
use Rattle.hart_states.specs.declared.choice.Choice.{Choice}
use Rattle.hart_moves.specs.Choosing.{DoesSo, IsAble, IsFound}
use Rattle.hart_moves.proofs.Found.{address_as}
use Rattle.hart_moves.proofs.Inverting.{Inverted, does_so}

same_instruction : (i j : Instr) → Some i ≡ Some j → i ≡ j
same_instruction i j e = cc

same_stored : (s : Stored) (h a b : ℕ) → s.hart ≡ h → s.address ≡ a → s.bytes ≡ b → record { hart = h; address = a; bytes = b; number = s.number } ≡ s
same_stored s h a b e f g =
    ap (λ (n : ℕ). record { hart = n; address = a; bytes = b; number = s.number }) (sym e)
    ∙ (ap (λ (n : ℕ). record { hart = s.hart; address = n; bytes = b; number = s.number }) (sym f)
    ∙ ap (λ (n : ℕ). record { hart = s.hart; address = s.address; bytes = n; number = s.number }) (sym g))

module _ (image : Memory) (h : ℕ) (m : List Stored) (opening : ℕ → ℕ) (a : RunState) (s : Stored) (offer : Offers image h m opening a s)
    (i : Instr) (o : Operation) (there : decoded image a.pc ≡ Some i) (is : operation_in (action i (filled a.registers) a.pc) ≡ Some o) (law : DestinationsAreWritten) where
  pub offered_by : offer.move.instruction ≡ i
  offered_by = same_instruction offer.move.instruction i (sym offer.decodes ∙ there)

  inverted : Inverted image h m opening (λ u. u.time ≡ length m) a o offer.move
  inverted =
      does_so image h m opening (λ u. u.time ≡ length m) a offer.move law o (ap (λ (j : Instr). operation_in (action j (filled a.registers) a.pc)) offered_by ∙ is) offer.acts

  pub offer_able : IsAble image a i o
  offer_able = subst (λ (j : Instr). IsAble image a j o) offered_by inverted.able

  pub offer_does : DoesSo h m opening a o offer.move
  offer_does = elim inverted.does [
    | inl does ↦ does.0
    | inr fails ↦ absurd (let dry = ap writing fails.access in let wet = offer.stores in cc)
  ]

  accessed : DoesSo h m opening a o offer.move → offer.move.access ≡ access_of o
  accessed (inl so) = so.access
  accessed (inr so) = so.access

  pub offer_stored : record { hart = h; address = o.address; bytes = width_bytes o.width; number = s.number } ≡ s
  offer_stored =
      let does = accessed offer_does in
      let at = address_as o.kind o refl in
      same_stored s h o.address (width_bytes o.width) offer.hart (offer.address ∙ (ap address_of does ∙ at.0)) (offer.bytes ∙ (ap bytes_of does ∙ at.1))

  pub offer_written : (found : Option Choice) (c : Choice) → found ≡ Some c → IsFound m a found offer.move → c.written ≡ Some s.number
  offer_written found c some f =
      let one : c ≡ f.choice = same_choice c f.choice (sym some ∙ f.is) in
      ap (λ (d : Choice). d.written) one ∙ (f.earlier.written (ap writing f.earlier.access ∙ offer.stores) ∙ offer.number)
    where
      same_choice : (c d : Choice) → Some c ≡ Some d → c ≡ d
      same_choice c d e = cc
