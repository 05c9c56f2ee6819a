-- What a state can do, each lower one can.
use Rattle.std.proofs.Common.{◌≡◌, ℕ, ◌+◌, ◌≤◌, ◌&&◌, max, Bool, true, false, if◌then◌else◌, List, ◌++◌, length, Option, Some, None, option_map, refl, sym, ap, ◌∙◌, subst, arith}
use Rattle.pages.specs.declared.access.Width.{Width}
use Rattle.pages.specs.Memory.{Memory}
use Rattle.rv64_decode.specs.declared.ordering.AcquireRelease.{AcquireRelease}
use Rattle.round_schedule.specs.declared.access.Access.{Access}
use Rattle.round_schedule.specs.declared.access.Access.TheVariants.{Load, Store, LoadReserved, StoreConditional, Atomic, Fence}
use Rattle.round_schedule.specs.declared.span.Span.{Span}
use Rattle.round_schedule.specs.Accesses.{is_lr, loads, writes}
use Rattle.round_schedule.specs.Held.{held_after_own}
use Rattle.hart_step.specs.DecodedCode.{decoded}
use Rattle.hart_step.specs.Effect.{action}
use Rattle.hart_step.specs.Numbers.{plus}
use Rattle.hart_step.specs.Step.{cut}
use Rattle.memory_order.specs.Operations.{covers}
use Rattle.memory_order.specs.Registers.{registers_of}
use Rattle.rule_checker.specs.CarriedBounds.{AreRegisters, operand_bound}
use Rattle.rule_checker.specs.declared.annotated.KindBounds.{KindBounds}
use Rattle.rule_checker.specs.declared.carried.Carried.{Carried}
use Rattle.all_endings.specs.HartRuns.{Acts, Gets, IsPast, IsPlaced, IsRead, KnowsAll, KnowsMost, Runs, Stands, acts, branches, calls, exchanges, exchanges-unknown, fails, forwarded, gets, gets-later, jumps, orders, puts, puts-unknown, reads, remembered, reserves, runs-more, runs-none, stores, succeeds}
use Rattle.all_endings.specs.Locality.{Knows, KnowsButData, filled, set_view, view, without_data}
use Rattle.all_endings.specs.Lowering.{CarriedAtMost, IsLower, KindsAtMost, LowerStatesDoAsMuch, OwnAtMost, is_held, own-both, own-none}
use Rattle.all_endings.specs.RunStates.{Move, OwnByte, RunState, answers_to, behind, moved, operates, puts_out}
use Rattle.all_endings.specs.StoreLists.{Stored}
use Rattle.execution.specs.Progressing.{step_event}
use Rattle.all_endings.proofs.DecodedRegisters.{decoded_fits}
use Rattle.all_endings.proofs.Times.{CarriedBelow, KindsBelow, allowed_below, carried_below_after, kinds_below_after, may_below, operands_below, Rises}

abbrev pub same : ℕ → ℕ
same x = x

pub rises : Rises same
rises p q l = l

pub kinds_below : (a b : KindBounds) → KindsAtMost a b → KindsBelow same a b
kinds_below a b k = record {
  loads = k.loads;
  stores = k.stores;
  acquires = k.acquires;
  annotated = k.annotated;
  load_load = k.load_load;
  load_store = k.load_store;
  store_load = k.store_load;
  store_store = k.store_store;
}

pub kinds_most : (a b : KindBounds) → KindsBelow same a b → KindsAtMost a b
kinds_most a b k = record {
  loads = k.loads;
  stores = k.stores;
  acquires = k.acquires;
  annotated = k.annotated;
  load_load = k.load_load;
  load_store = k.load_store;
  store_load = k.store_load;
  store_store = k.store_store;
}

pub carried_down : (a b : Carried) → CarriedAtMost a b → CarriedBelow same a b
carried_down a b k = record { small = k.small; size = k.size; registers = k.registers; steered = k.steered; addressed = k.addressed }

pub carried_most : (a b : Carried) → CarriedBelow same a b → CarriedAtMost a b
carried_most a b k = record { small = k.small; size = k.size; registers = k.registers; steered = k.steered; addressed = k.addressed }

-- ---- one move

-- where it isn't an LR, an access leaves of a reservation's bytes those that were there
still_held : (y : Access) (s : Option Span) (x : ℕ) → is_lr y ≡ false → is_held (held_after_own y s) x ≡ true → is_held s x ≡ true
still_held (Load w p z r) s x e k = k
still_held (Store w p z v) s x e k = k
still_held (LoadReserved w o p z r) s x e k = absurd (cc)
still_held (StoreConditional w o p z v) s x e k = absurd (cc)
still_held (Atomic w o p z r v) s x e k = k
still_held (Fence before after mode p) s x e k = k

-- an SC's bytes are those of the reservation that it needs
covered_held : {y : Access} {s : Option Span} {w : Width} {o : AcquireRelease} {address : ℕ} → y ≡ StoreConditional w o 0 address (Some 0) →
    s ≡ Some (record { address = address; width = w }) → (x : ℕ) → covers y x ≡ true → is_held s x ≡ true
covered_held e held x c = ap (λ (u : Option Span). is_held u x) held ∙ (sym (ap (λ (z : Access). covers z x) e) ∙ c)

module _ (image : Memory) (h : ℕ) (m : List Stored) (opening : ℕ → ℕ) (a b : RunState) (v : Move) (low : IsLower a b) where
  acts_same : acts a v ≡ acts b v
  acts_same = ap (λ (r : List (Option ℕ)). action v.instruction (filled r) a.pc) low.registers ∙ ap (λ (p : ℕ). action v.instruction (filled b.registers) p) low.pc

  all : KnowsAll b v → KnowsAll a v
  all k = subst (Knows (registers_of v.instruction)) (sym low.registers) k

  not_all : (KnowsAll b v → ⊥) → KnowsAll a v → ⊥
  not_all n k = n (subst (Knows (registers_of v.instruction)) low.registers k)

  most : KnowsMost b v → KnowsMost a v
  most k = subst (KnowsButData (registers_of v.instruction)) (sym low.registers) k

  following : (n : ℕ) → n ≡ plus b.pc 4 → n ≡ plus a.pc 4
  following n e = e ∙ ap (λ (p : ℕ). plus p 4) (sym low.pc)

  number_at : (o : Option ℕ) → o ≡ Some (plus b.pc 4) → o ≡ Some (plus a.pc 4)
  number_at o e = e ∙ ap (λ (p : ℕ). Some (plus p 4)) (sym low.pc)

  view_same : (r : ℕ) → view a.registers r ≡ view b.registers r
  view_same r = ap (λ (x : List (Option ℕ)). view x r) low.registers

  past_low : (o p : Option OwnByte) (time : ℕ) → OwnAtMost o p → IsPast p time → IsPast o time
  past_low _ _ time own-none past = past
  past_low _ _ time (own-both o p place byte atomic needs) past = omega (arith, place, past)

  own_low : (o p : Option OwnByte) (q : OwnByte) → OwnAtMost o p → p ≡ Some q →
      (u : OwnByte) × (o ≡ Some u) × (u.place ≡ q.place) × (u.byte ≡ q.byte) × (u.atomic ≡ q.atomic) × (u.needs ≤ q.needs)
  own_low _ _ q own-none e = absurd (cc)
  own_low _ _ q (own-both o p place byte atomic needs) e =
      let s : p ≡ q = cc in (
        o,
        refl,
        place ∙ ap (λ (y : OwnByte). y.place) s,
        byte ∙ ap (λ (y : OwnByte). y.byte) s,
        atomic ∙ ap (λ (y : OwnByte). y.atomic) s,
        let n = ap (λ (y : OwnByte). y.needs) s in omega (arith, needs, n),
      )

  read_low : (time x place byte : ℕ) → IsRead m opening b time x place byte → IsRead m opening a time x place byte
  read_low time x _ _ (forwarded o byte own late plain needs seen known) =
      let u = own_low (a.own x) (b.own x) o (low.own x) own in
      let p = u.2 in
      let n = u.5 in
      let s = low.seen x in
      subst (λ (q : ℕ). IsRead m opening a time x q byte) u.2
      (forwarded u.0 byte u.1 (omega (arith, late, p)) (u.4 ∙ plain) (omega (arith, needs, n)) (omega (arith, seen, s, p)) (u.3 ∙ known))
  read_low time x _ _ (remembered past seen) = let s = low.seen x in remembered (past_low (a.own x) (b.own x) time (low.own x) past) (omega (arith, seen, s))

  gets_low : (address : ℕ) (w : Width) (o : Option ℕ) → Gets m opening b v address w o → Gets m opening a v address w o
  gets_low address w _ (gets n early fits bytes) = gets n early fits (λ k l. read_low v.time (address + k) _ _ (bytes k l))
  gets_low address w _ (gets-later late none) = gets-later late none

  pub acts_low : (HasPlace : Move → Type 0) → Acts image h m opening HasPlace b v → Acts image h m opening HasPlace a v
  acts_low P (puts rd n k is e r x) = puts rd n (all k) (acts_same ∙ is) e r (following v.next x)
  acts_low P (puts-unknown rd n k is e r x) = puts-unknown rd n (not_all k) (acts_same ∙ is) e r (following v.next x)
  acts_low P (jumps rd target k is even e r x) = jumps rd target (all k) (acts_same ∙ is) even e (number_at v.result r) x
  acts_low P (branches taken target k is even e x) = branches taken target (all k) (acts_same ∙ is) even e (x ∙ ap (λ (p : ℕ). if taken then target else plus p 4) (sym low.pc))
  acts_low P (orders before after mode is e x) = orders before after mode (acts_same ∙ is) e (following v.next x)
  acts_low P (reads rd address w signed number k is safe e g r x) = reads rd address w signed number (all k) (acts_same ∙ is) safe e (gets_low address w number g) r (following v.next x)
  acts_low P (stores address w k is safe e d p x) =
      stores address w (most k) (ap without_data acts_same ∙ is) safe e (d ∙ ap (λ (o : Option ℕ). option_map (cut w) o) (sym (view_same (registers_of v.instruction).value))) p (following v.next x)
  acts_low P (reserves rd address w o number k is safe e g r x) = reserves rd address w o number (all k) (acts_same ∙ is) safe e (gets_low address w number g) r (following v.next x)
  acts_low P (fails rd address w o k is safe e r x) = fails rd address w o (most k) (ap without_data acts_same ∙ is) safe e r (following v.next x)
  acts_low P (succeeds rd address w o k is safe e d held reserved p unbroken r x) =
      succeeds rd address w o (most k) (ap without_data acts_same ∙ is) safe e (d ∙ ap (λ (y : Option ℕ). option_map (cut w) y) (sym (view_same (registers_of v.instruction).value)))
      (low.held ∙ held) (let l = low.reserved in omega (arith, l, reserved)) p
      (λ k y within before c wet other. let l = unbroken k y within before c wet other in let q = low.sources y (covered_held e held y c) in omega (arith, l, q)) r (following v.next x)
  acts_low P (exchanges rd address w f o number k is safe e g r d p x) = exchanges rd address w f o number (all k) (acts_same ∙ is) safe e (gets_low address w number g) r d p (following v.next x)
  acts_low P (exchanges-unknown rd address w o k none is safe e g r d x) =
      exchanges-unknown rd address w o (most k) (view_same (registers_of v.instruction).value ∙ none) (ap without_data acts_same ∙ is) safe e (gets_low address w None g) r d (following v.next x)
  acts_low P (calls number answer ecall at nonzero answered e r x) = calls number answer ecall (view_same 17 ∙ at) nonzero answered e r (following v.next x)

  module _ (fit : AreRegisters (registers_of v.instruction)) where
    pub stands_low : Stands b v → Stands a v
    stands_low s = record {
      kinds = allowed_below same rises a.kinds b.kinds v.access v.time (kinds_below a.kinds b.kinds low.kinds) s.kinds;
      carried = may_below same rises a.carried b.carried (registers_of v.instruction) v.access v.time fit (carried_down a.carried b.carried low.carried) s.carried;
      touched = λ x store c. let l = low.touched x in let t = s.touched x store c in omega (arith, l, t);
    }

    raised : (c : Bool) (u w n : ℕ) → u ≤ w → (if c then max u n else u) ≤ (if c then max w n else w)
    raised true u w n l = omega (arith, l)
    raised false u w n l = l

    own_moved : (c : Bool) (p : ℕ) (byte : Option ℕ) (atomic : Bool) (o q : Option OwnByte) → OwnAtMost o q →
        OwnAtMost (if c then Some (record { place = p; byte = byte; atomic = atomic; needs = operand_bound a.carried (registers_of v.instruction) }) else o)
        (if c then Some (record { place = p; byte = byte; atomic = atomic; needs = operand_bound b.carried (registers_of v.instruction) }) else q)
    own_moved true p byte atomic o q l =
        own-both (record { place = p; byte = byte; atomic = atomic; needs = operand_bound a.carried (registers_of v.instruction) })
        (record { place = p; byte = byte; atomic = atomic; needs = operand_bound b.carried (registers_of v.instruction) }) refl refl refl
        (operands_below same rises a.carried b.carried (registers_of v.instruction) fit (carried_down a.carried b.carried low.carried))
    own_moved false p byte atomic o q l = l

    chosen : (c : Bool) (n u w : ℕ) → u ≤ w → (if c then n else u) ≤ (if c then n else w)
    chosen true n u w l = omega arith
    chosen false n u w l = l

    kept : (c : Bool) (f u w : ℕ → ℕ) (x : ℕ) → (c ≡ false → w x ≤ u x) → (if c then f else w) x ≤ (if c then f else u) x
    kept true f u w x l = omega arith
    kept false f u w x l = l refl

    pub moved_low : IsLower (moved h m a v) (moved h m b v)
    moved_low = record {
      pc = refl;
      registers = ap (λ (r : List (Option ℕ)). set_view r (answers_to v.instruction) v.result) low.registers;
      kinds = kinds_most _ _ (kinds_below_after same rises a.kinds b.kinds v.access (operates v) (behind m v) (behind m v) (omega arith) (kinds_below a.kinds b.kinds low.kinds));
      carried = carried_most _ _ (carried_below_after same rises a.carried b.carried (registers_of v.instruction) (step_event h (Some v.access)) (behind m v) (behind m v) fit (omega arith)
          (carried_down a.carried b.carried low.carried));
      touched = λ x. raised (operates v && covers v.access x) (a.touched x) (b.touched x) (behind m v) (low.touched x);
      seen = λ x. raised (loads v.access && covers v.access x) (a.seen x) (b.seen x) (v.source x) (low.seen x);
      own = λ x. own_moved (writes v.access x) (behind m v) _ _ (a.own x) (b.own x) (low.own x);
      held = ap (held_after_own v.access) low.held;
      reserved = chosen (is_lr v.access) (behind m v) a.reserved b.reserved low.reserved;
      sources = λ x s. kept (is_lr v.access) v.source a.sources b.sources x (λ plain. low.sources x (still_held v.access b.held x plain s));
      output = ap (λ (o : List (Option ℕ)). o ++ puts_out a.registers v.instruction) low.output ∙ ap (λ (r : List (Option ℕ)). b.output ++ puts_out r v.instruction) low.registers;
    }

-- ---- runs

runs_low : (image : Memory) (h : ℕ) (m : List Stored) (opening : ℕ → ℕ) (a b : RunState) → IsLower a b → (vs : List Move) (c : RunState) → Runs image h m opening b vs c →
    (d : RunState) × Runs image h m opening a vs d × IsLower d c
runs_low image h m opening a b low _ _ (runs-none _) = (a, runs-none a, low)
runs_low image h m opening a b low _ _ (runs-more _ c vs v r at doing stand) =
    let u = runs_low image h m opening a b low vs c r in
    let fit = decoded_fits image c.pc v.instruction at in (
      moved h m u.0 v,
      runs-more a u.0 vs v u.1 (ap (decoded image) u.2.pc ∙ at) (acts_low image h m opening u.0 c v u.2 (IsPlaced h m) doing) (λ op. stands_low image h m opening u.0 c v u.2 fit (stand op)),
      moved_low image h m opening u.0 c v u.2 fit,
    )

pub lower_do_as_much : LowerStatesDoAsMuch
lower_do_as_much image h m opening a b low = (
  λ vs c r. runs_low image h m opening a b low vs c r,
  λ s o. record {
    move = o.move;
    decodes = ap (decoded image) low.pc ∙ o.decodes;
    acts = acts_low image h m opening a b o.move low (λ (v : Move). v.time ≡ length m) o.acts;
    stands = stands_low image h m opening a b o.move low (decoded_fits image b.pc o.move.instruction o.decodes) o.stands;
    time = o.time;
    stores = o.stores;
    hart = o.hart;
    address = o.address;
    bytes = o.bytes;
    number = o.number;
  },
)
