-- What an early load leaves is ahead of what it leaves LATER.
use Rattle.std.proofs.Common.{◌≡◌, ℕ, ◌-◌, ◌<◌, ◌≤◌, inl, inr, Bool, true, false, if◌then◌else◌, List, slice_index, slice_index_or, Option, Some, None, IfSome, option_map, refl, sym, ap, ◌∙◌, subst, arith}
use Rattle.round_schedule.specs.declared.access.Access.{Access}
use Rattle.round_schedule.specs.Accesses.{address_of, loads}
use Rattle.round_schedule.specs.Accesses.{stores as writing}
use Rattle.pages.specs.declared.access.Width.{Width}
use Rattle.pages.specs.Memory.{width_bytes}
use Rattle.rv64_decode.specs.declared.instruction.Instr.{Instr}
use Rattle.hart_step.specs.Step.{extended_to}
use Rattle.memory_order.specs.Operations.{covers}
use Rattle.memory_order.specs.Registers.{registers_of}
use Rattle.rule_checker.specs.CarriedBounds.{AreRegisters}
use Rattle.run_bounds.specs.declared.touched.TouchedByte.{TouchedByte}
use Rattle.run_bounds.specs.Touched.{untouched}
use Rattle.all_endings.specs.Earlier.{IsSized}
use Rattle.all_endings.specs.HartRuns.{Gets, gets, gets-later}
use Rattle.all_endings.specs.RunStates.{Move, RunState}
use Rattle.all_endings.specs.StoreLists.{Stored, later}
use Rattle.hart_states.specs.declared.choice.Choice.{Choice}
use Rattle.hart_states.specs.declared.following.Successor.{Successor}
use Rattle.hart_states.specs.Choices.{move_of}
use Rattle.hart_states.specs.Following.{place_done}
use Rattle.hart_moves.specs.declared.coming.Coming.{Coming}
use Rattle.hart_moves.specs.Choosing.{DoesSo, IsChoiceOf, IsComing, IsFound, LoadsSo, ReadsSeen}
use Rattle.hart_moves.specs.Moves.{HasFollower}
use Rattle.hart_moves.proofs.Found.{covered_at, storing_writes}
use Rattle.private_bytes.specs.LaterLoads.{EarlyLoadsAreAhead, IsLoadAndLater}
use Rattle.private_bytes.proofs.Mirroring.{ahead_on}

-- ---- loads that are LATER

-- what is got LATER is unknown
record IsUnknown (v : Move) (o : Option ℕ) : Type 0 where
  number : o ≡ None
  source : (x : ℕ) → v.source x ≡ 0

late_unknown : (m : List Stored) (opening : ℕ → ℕ) (a : RunState) (v : Move) (address : ℕ) (w : Width) (o : Option ℕ) → v.time ≡ later m → Gets m opening a v address w o → IsUnknown v o
late_unknown m opening a v address w _ late (gets n early fits bytes) = absurd (omega (arith, early, late))
late_unknown m opening a v address w _ late (gets-later at none) = record { number = refl; source = none }

module _ (h : ℕ) (m : List Stored) (opening : ℕ → ℕ) (a : RunState) (c : Coming) (d : Choice) (v : Move) (coming : IsComing a c) (is : IsChoiceOf a c d) (load : loads d.access ≡ true) (dry : writing d.access ≡ false)
    (seen : (k : ℕ) (e : TouchedByte) → k < width_bytes c.operation.width → slice_index d.sources k ≤ (slice_index_or c.known k e).seen) (same : v.instruction ≡ c.instruction) (late : v.time ≡ later m) where
  both : LoadsSo m opening a c.operation v → IsLoadAndLater m a (move_of d) v
  both so =
      let u = late_unknown m opening a v c.operation.address c.operation.width so.number late so.gets in
      let does : d.access ≡ v.access = is.access ∙ sym so.access in
      record {
        instruction = is.instruction ∙ sym same;
        access = does;
        next = is.next ∙ sym so.next;
        loads = ap loads (sym does) ∙ load;
        plain = ap writing (sym does) ∙ dry;
        seen = λ x there.
            let k = covered_at c.operation x (ap (λ (y : Access). covers y x) (sym so.access) ∙ there) in
            let l = seen k.0 (untouched x) k.1 in
            let e : slice_index d.sources (x - address_of d.access) ≡ slice_index d.sources k.0 = ap (λ (n : ℕ). slice_index d.sources n) (ap (λ (y : Access). x - address_of y) is.access ∙ k.3) in
            let s : a.seen x ≡ (slice_index_or c.known k.0 (untouched x)).seen = ap a.seen (sym k.2) ∙ coming.span.seen k.0 (untouched x) k.1 in
            omega (arith, l, e, s);
        late = late;
        unknown = so.result ∙ ap (λ (o : Option ℕ). option_map (extended_to c.operation.signed c.operation.width) o) u.number;
        sources = u.source;
      }

  loads_so : DoesSo h m opening a c.operation v → LoadsSo m opening a c.operation v
  loads_so (inl so) = so
  loads_so (inr so) = absurd (let e = storing_writes c.operation so.kind in let f = ap writing is.access in cc)

in_some : (o : Option Choice) (P : Choice → Type 0) (d : Choice) → o ≡ Some d → IfSome o P → P d
in_some o P d e p = subst (λ (q : Option Choice). IfSome q P) e p

found_itself : (m : List Stored) (a : RunState) (found : Option Choice) (d : Choice) → found ≡ Some d → IsFound m a found (move_of d)
found_itself m a found d is = record {
  choice = d;
  is = is;
  earlier = record {
    instruction = refl;
    access = refl;
    next = refl;
    registers = refl;
    time = λ op. omega arith;
    source = λ load x there. refl;
    place = λ store. refl;
    written = λ store. refl;
  };
  done = refl;
}

no_place : (v : Move) → writing v.access ≡ false → place_done v ≡ None
no_place v dry = ap (λ (b : Bool). if b then Some v.time else None) dry

-- what is found of a load that reads what was seen stands for the load LATER
pub early_follows : EarlyLoadsAreAhead → (h : ℕ) (m : List Stored) (opening : ℕ → ℕ) (a : RunState) (c : Coming) (found : Option Choice) (ss : List Successor) → IsSized a →
    AreRegisters (registers_of c.instruction) → IsComing a c → ReadsSeen c found → IfSome found (λ d. IsChoiceOf a c d) → ((w : Move) → IsFound m a found w → HasFollower h m a w ss) →
    (v : Move) → v.instruction ≡ c.instruction → DoesSo h m opening a c.operation v → v.time ≡ later m → HasFollower h m a v ss
early_follows law h m opening a c found ss sized fit coming r is adds v same so late =
    let d = in_some found (λ d. IsChoiceOf a c d) r.choice r.is is in
    let f = adds (move_of r.choice) (found_itself m a found r.choice r.is) in
    let b = both h m opening a c r.choice v coming d r.loads r.stores r.seen same late (loads_so h m opening a c r.choice v coming d r.loads r.stores r.seen same late so) in
    let ahead = law h m a (move_of r.choice) v sized (subst (λ (i : Instr). AreRegisters (registers_of i)) (sym same) fit) b in (
      f.0,
      f.1,
      record {
        state = ahead_on _ _ _ f.2.state ahead;
        done = f.2.done ∙ no_place (move_of r.choice) r.stores ∙ sym (no_place v b.plain);
      },
    )
