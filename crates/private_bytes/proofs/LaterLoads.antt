-- Loads that need not be followed LATER.
use Rattle.std.proofs.Common.{◌≡◌, ℕ, ◌+◌, ◌≤◌, ◌&&◌, max, min, Bool, true, false, if◌then◌else◌, List, Option, Some, None, refl, sym, ap, ◌∙◌, subst, arith}
use Rattle.std.proofs.lemmas.Bool.{and_parts}
use Rattle.round_schedule.specs.Accesses.{is_lr, loads, writes}
use Rattle.memory_order.specs.Operations.{covers}
use Rattle.memory_order.specs.Registers.{registers_of}
use Rattle.rule_checker.specs.CarriedBounds.{AreRegisters}
use Rattle.execution.specs.Progressing.{step_event}
use Rattle.all_endings.specs.Earlier.{IsSized}
use Rattle.all_endings.specs.RunStates.{Move, OwnByte, RunState, answers_to, behind, moved, operates}
use Rattle.all_endings.specs.StoreLists.{Stored, later}
use Rattle.all_endings.proofs.Lowering.{carried_most, kinds_most, rises, same}
use Rattle.all_endings.proofs.Times.{carried_below_after, kinds_below_after}
use Rattle.private_bytes.specs.Ahead.{IsAhead, OwnAhead, ahead-both, ahead-none}
use Rattle.private_bytes.specs.LaterLoads.{EarlyLoadsAreAhead, IsLoadAndLater}
use Rattle.private_bytes.proofs.Mirroring.{outputs_same, set_size, set_tells, tells_none}
use Rattle.private_bytes.proofs.PrivateTimes.{carried_self, kinds_self, move_same}

module _ (h : ℕ) (m : List Stored) (a : RunState) (v w : Move) (sized : IsSized a) (fit : AreRegisters (registers_of w.instruction)) (both : IsLoadAndLater m a v w) where
  -- v, with the other's instruction, access and next pc
  abbrev as_other : Move
  as_other = record w { time = v.time; result = v.result; written = v.written; source = v.source }

  is_it : v ≡ as_other
  is_it = move_same v.instruction w.instruction v.access w.access v.time v.result v.written v.source v.next w.next both.instruction both.access both.next

  after : behind m as_other ≤ behind m w
  after =
      let e : behind m w ≡ min w.time (later m) = ap (λ (b : Bool). min (if b then w.time + 1 else w.time) (later m)) both.plain in
      let l = both.late in
      let s : behind m as_other ≤ later m = omega arith in
      omega (arith, e, l, s)

  raised : (c : Bool) (u : ℕ) → (if c then max u (behind m as_other) else u) ≤ (if c then max u (behind m w) else u)
  raised true u = let l = after in omega (arith, l)
  raised false u = omega arith

  seen_at : (c : Bool) (x : ℕ) → (c ≡ true → v.source x ≤ a.seen x) → (if c then max (a.seen x) (v.source x) else a.seen x) ≤ (if c then max (a.seen x) (w.source x) else a.seen x)
  seen_at true x e = let q = e refl in omega (arith, q)
  seen_at false x e = omega arith

  own_self : (o : Option OwnByte) → OwnAhead o o
  own_self None = ahead-none
  own_self (Some o) = ahead-both o o refl (λ n e. e) refl (omega arith)

  own_at : (x : ℕ) (c : Bool) (o p : OwnByte) → c ≡ false → OwnAhead (if c then Some o else a.own x) (if c then Some p else a.own x)
  own_at x true o p e = absurd (cc)
  own_at x false o p e = own_self (a.own x)

  dry : (x : ℕ) → writes w.access x ≡ false
  dry x = ap (λ (b : Bool). b && covers w.access x) both.plain

  reserved_at : (b : Bool) → (if b then behind m as_other else a.reserved) ≤ (if b then behind m w else a.reserved)
  reserved_at true = after
  reserved_at false = omega arith

  sources_at : (b : Bool) (x : ℕ) → (if b then w.source else a.sources) x ≤ (if b then v.source else a.sources) x
  sources_at true x = let z = both.sources x in omega (arith, z)
  sources_at false x = omega arith

  other_ahead : IsAhead (moved h m a as_other) (moved h m a w)
  other_ahead = record {
    pc = refl;
    size = set_size a.registers (answers_to w.instruction) v.result ∙ sym (set_size a.registers (answers_to w.instruction) w.result);
    registers = set_tells a.registers a.registers (answers_to w.instruction) w.result v.result refl (λ n e. tells_none v.result n (sym both.unknown ∙ e)) (λ r n e. e);
    kinds = kinds_most _ _ (kinds_below_after same rises a.kinds a.kinds w.access (operates w) (behind m as_other) (behind m w) after (kinds_self a));
    carried = carried_most _ _ (carried_below_after same rises a.carried a.carried (registers_of w.instruction) (step_event h (Some w.access)) (behind m as_other) (behind m w) fit after (carried_self a sized));
    touched = λ x. raised (operates w && covers w.access x) (a.touched x);
    seen = λ x. seen_at (loads w.access && covers w.access x) x (λ e. both.seen x (and_parts (loads w.access) (covers w.access x) e).1);
    own = λ x. own_at x (writes w.access x) _ _ (dry x);
    held = refl;
    reserved = reserved_at (is_lr w.access);
    sources = λ x e. sources_at (is_lr w.access) x;
    output = outputs_same _;
  }

pub early_ahead : EarlyLoadsAreAhead
early_ahead h m a v w sized fit both = subst (λ (u : Move). IsAhead (moved h m a u) (moved h m a w)) (sym (is_it h m a v w sized fit both)) (other_ahead h m a v w sized fit both)
