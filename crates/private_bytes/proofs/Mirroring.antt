-- A state of a run apart mirrors one of a run against the list of all stores: its bounds are at most the other's, in numbers of shared stores,
-- and it knows what the other knows. What they leave by one instruction mirror each other.
use Rattle.std.proofs.Common.{◌≡◌, ℕ, ◌-◌, ◌%◌, ◌^◌, ◌<◌, ◌≤◌, ◌==◌, ◌&&◌, max, Bool, true, false, if◌then◌else◌, List, [], ◌∷◌, ◌++◌, length, get_or, slice_set, Option, Some, None, option_map, refl, sym, ap, ◌∙◌, subst, inl, inr, length-set, arith}
use Rattle.std.proofs.lemmas.Bool.{and_parts, cases_eq, cases_lt, cond-false, cond-true, eq-eqb, ne_eqb}
use Rattle.std.proofs.lemmas.List.{get_or-set_other, get_or-set_same}
use Rattle.pages.specs.Memory.{byte_of}
use Rattle.rv64_decode.specs.declared.instruction.Instr.{Instr}
use Rattle.rv64_decode.specs.declared.instruction.Instr.TheVariants.{Ecall}
use Rattle.round_schedule.specs.declared.access.Access.{Access}
use Rattle.round_schedule.specs.declared.access.Access.TheVariants.{Load, Store, LoadReserved, StoreConditional, Atomic, Fence}
use Rattle.round_schedule.specs.declared.span.Span.{Span}
use Rattle.round_schedule.specs.Accesses.{address_of, is_lr, loads, writes}
use Rattle.round_schedule.specs.Held.{held_after_own}
use Rattle.memory_order.specs.Operations.{covers}
use Rattle.memory_order.specs.Registers.{registers_of}
use Rattle.rule_checker.specs.CarriedBounds.{AreRegisters}
use Rattle.execution.specs.Progressing.{step_event}
use Rattle.all_endings.specs.Locality.{set_view, view}
use Rattle.all_endings.specs.Lowering.{OwnAtMost, is_held, own-both, own-none}
use Rattle.all_endings.specs.RunStates.{Move, OwnByte, RunState, answers_to, moved_at, operates, put_byte, puts_out}
use Rattle.all_endings.proofs.Locality.{not_both, past_end}
use Rattle.all_endings.proofs.Times.{CarriedBelow, KindsBelow, Rises, carried_below_after, kinds_below_after, operands_below}
use Rattle.private_bytes.specs.Ahead.{IsAhead, LowerStatesAreAhead, OutputTells, OwnAhead, Tells, TellsAll, ahead-both, ahead-none, tells-more, tells-nothing}
use Rattle.private_bytes.specs.Owners.{is_own}

-- ---- what is known

pub tells_same : (o p : Option ℕ) → o ≡ p → Tells o p
tells_same o p e n is = sym e ∙ is

pub tells_none : (p : Option ℕ) → Tells None p
tells_none p n is = absurd (not_both n None refl is)

pub tells_map : (f : ℕ → ℕ) (o p : Option ℕ) → Tells o p → Tells (option_map f o) (option_map f p)
tells_map f None p t n is = absurd (not_both n None refl is)
tells_map f (Some k) p t n is = ap (option_map f) (t k refl) ∙ is

pub set_tells : (v w : List (Option ℕ)) (rd : ℕ) (o p : Option ℕ) → length v ≡ length w → Tells o p → TellsAll v w → TellsAll (set_view v rd o) (set_view w rd p)
set_tells v w rd o p even put tells r m e = elim (cases_eq rd 0) [
  | inl z ↦ ap (λ (y : List (Option ℕ)). view y r) (cond-true (rd == 0) w (slice_set w rd p) (eq-eqb rd 0 z))
      ∙ tells r m (sym (ap (λ (y : List (Option ℕ)). view y r) (cond-true (rd == 0) v (slice_set v rd o) (eq-eqb rd 0 z))) ∙ e)
  | inr nz ↦ ap (λ (y : List (Option ℕ)). view y r) (cond-false (rd == 0) w (slice_set w rd p) (ne_eqb rd 0 nz))
      ∙ by_zero (r == 0) refl (sym (ap (λ (y : List (Option ℕ)). view y r) (cond-false (rd == 0) v (slice_set v rd o) (ne_eqb rd 0 nz))) ∙ e)
]
  where
    by_place : (r == 0) ≡ false → get_or (slice_set v rd o) r None ≡ Some m → get_or (slice_set w rd p) r None ≡ Some m
    by_place z f = elim (cases_eq r rd) [
      | inr other ↦ get_or-set_other w rd r p None other ∙ sym (cond-false (r == 0) (Some 0) (get_or w r None) z)
          ∙ tells r m (cond-false (r == 0) (Some 0) (get_or v r None) z ∙ sym (get_or-set_other v rd r o None other) ∙ f)
      | inl here ↦ elim (cases_lt r (length v)) [
        | inl l ↦
            let lv : rd < length v = omega (arith, l, here) in
            let lw : rd < length w = omega (arith, l, here, even) in
            ap (λ i. get_or (slice_set w rd p) i None) here ∙ get_or-set_same w rd p None lw
            ∙ put m (sym (get_or-set_same v rd o None lv) ∙ sym (ap (λ i. get_or (slice_set v rd o) i None) here) ∙ f)
        | inr l ↦ absurd (not_both m (get_or (slice_set v rd o) r None) (past_end (slice_set v rd o) r (omega (arith, l, length-set v rd o))) f)
      ]
    ]

    by_zero : (b : Bool) → (r == 0) ≡ b → (if b then Some 0 else get_or (slice_set v rd o) r None) ≡ Some m → (if b then Some 0 else get_or (slice_set w rd p) r None) ≡ Some m
    by_zero true z f = f
    by_zero false z f = by_place z f

pub set_size : (v : List (Option ℕ)) (rd : ℕ) (o : Option ℕ) → length (set_view v rd o) ≡ length v
set_size v rd o = by_test (rd == 0)
  where
    by_test : (b : Bool) → length (if b then v else slice_set v rd o) ≡ length v
    by_test true = refl
    by_test false = length-set v rd o

-- ---- what was put out

outputs_joined : (os ps us ws : List (Option ℕ)) → OutputTells os ps → OutputTells us ws → OutputTells (os ++ us) (ps ++ ws)
outputs_joined _ _ us ws tells-nothing more = more
outputs_joined _ _ us ws (tells-more o p os ps t rest) more = tells-more o p (os ++ us) (ps ++ ws) t (outputs_joined os ps us ws rest more)

puts_tell : (v w : List (Option ℕ)) (i : Instr) → TellsAll v w → (i ≡ Ecall → (n : ℕ) × (view v 17 ≡ Some n)) → OutputTells (puts_out v i) (puts_out w i)
puts_tell v w i tells numbered = by_kind i numbered
  where
    by_test : (b : Bool) → OutputTells (if b then option_map (λ n. n % 2 ^ 8) (view v 10) ∷ [] else []) (if b then option_map (λ n. n % 2 ^ 8) (view w 10) ∷ [] else [])
    by_test true = tells-more _ _ [] [] (tells_map (λ n. n % 2 ^ 8) (view v 10) (view w 10) (tells 10)) tells-nothing
    by_test false = tells-nothing

    by_numbers : (o p : Option ℕ) (n : ℕ) → Some n ≡ o → Some n ≡ p → OutputTells (put_byte o (view v 10)) (put_byte p (view w 10))
    by_numbers o p n e f = subst (λ (y : Option ℕ). OutputTells (put_byte y (view v 10)) (put_byte p (view w 10))) e
        (subst (λ (y : Option ℕ). OutputTells (put_byte (Some n) (view v 10)) (put_byte y (view w 10))) f (by_test (n == 1)))

    by_kind : (j : Instr) → (j ≡ Ecall → (n : ℕ) × (view v 17 ≡ Some n)) → OutputTells (puts_out v j) (puts_out w j)
    by_kind Ecall at = let k = at refl in by_numbers (view v 17) (view w 17) k.0 (sym k.1) (sym (tells 17 k.0 k.1))
    by_kind _ at = tells-nothing

-- ---- states

-- the own last store to a byte: of a shared byte also where it stands
pub data OwnMirrors (f g : ℕ → ℕ) (private : Bool) : Option OwnByte → Option OwnByte → Type 0 where
  mirrors-none : OwnMirrors f g private None None
  mirrors-both : (o p : OwnByte) → (private ≡ false → o.place ≡ g p.place) → (private ≡ false → o.atomic ≡ p.atomic) → Tells p.byte o.byte → o.needs ≤ f p.needs →
      OwnMirrors f g private (Some o) (Some p)

-- a mirrors c, where h is the hart, f t is the number of shared stores among the first t, and the store to byte x at place p stands at place g x p
-- among them
pub record Mirrors (owns : ℕ → ℕ → Bool) (h : ℕ) (f : ℕ → ℕ) (g : ℕ → ℕ → ℕ) (a c : RunState) : Type 0 where
  pub pc : a.pc ≡ c.pc
  pub registers : TellsAll c.registers a.registers
  pub small : length a.registers ≡ 32
  pub size : length c.registers ≡ 32
  pub kinds : KindsBelow f a.kinds c.kinds
  pub carried : CarriedBelow f a.carried c.carried
  pub touched : (x : ℕ) → a.touched x ≤ f (c.touched x)
  pub seen : (x : ℕ) → a.seen x ≤ g x (c.seen x)
  pub own : (x : ℕ) → OwnMirrors f (g x) (is_own owns h x) (a.own x) (c.own x)
  pub held : a.held ≡ c.held
  pub reserved : a.reserved ≤ f c.reserved
  pub sources : (x : ℕ) → is_held c.held x ≡ true → g x (c.sources x) ≤ a.sources x
  pub output : OutputTells c.output a.output

-- a move with another time, other numbers and other sources
abbrev pub as_apart : Move → ℕ → Option ℕ → Option ℕ → (ℕ → ℕ) → Move
as_apart v time result written source = record v { time = time; result = result; written = written; source = source }

-- what one more move leaves
module _ (owns : ℕ → ℕ → Bool) (h : ℕ) (f : ℕ → ℕ) (up : Rises f) (g : ℕ → ℕ → ℕ) (raises : (x : ℕ) → Rises (g x)) (a c : RunState) (mirrors : Mirrors owns h f g a c) where
  -- it leaves as much with these numbers and sources, and with this time behind it
  pub record Likewise (v : Move) (result written : Option ℕ) (source : ℕ → ℕ) (after next : ℕ) : Type 0 where
    pub tells : Tells v.result result
    pub puts : Tells v.written written
    pub behind : after ≡ f next
    pub reads : (x : ℕ) → loads v.access ≡ true → covers v.access x ≡ true → source x ≤ g x (v.source x)
    pub reserves : (x : ℕ) → is_lr v.access ≡ true → g x (v.source x) ≤ source x
    pub calls : v.instruction ≡ Ecall → (n : ℕ) × (view c.registers 17 ≡ Some n)

  raised : (e : ℕ → ℕ) → Rises e → (b : Bool) (u w n k : ℕ) → u ≤ e w → (b ≡ true → n ≤ e k) → (if b then max u n else u) ≤ e (if b then max w k else w)
  raised e rise true u w n k l m = let p = rise w (max w k) (omega arith) in let q = rise k (max w k) (omega arith) in let r = m refl in omega (arith, l, r, p, q)
  raised e rise false u w n k l m = l

  chosen : (b : Bool) (n k u w : ℕ) → n ≤ f k → u ≤ f w → (if b then n else u) ≤ f (if b then k else w)
  chosen true n k u w e l = e
  chosen false n k u w e l = l

  held_before : (y : Access) (s : Option Span) (x : ℕ) → is_lr y ≡ false → is_held (held_after_own y s) x ≡ true → is_held s x ≡ true
  held_before (Load w p z r) s x e k = k
  held_before (Store w p z v) s x e k = k
  held_before (LoadReserved w o p z r) s x e k = absurd (cc)
  held_before (StoreConditional w o p z v) s x e k = absurd (cc)
  held_before (Atomic w o p z r v) s x e k = k
  held_before (Fence before after mode p) s x e k = k

  -- with these own last stores
  pub moved_with : (v : Move) (time : ℕ) (result written : Option ℕ) (source : ℕ → ℕ) (after next : ℕ) (os ps : ℕ → Option OwnByte) → AreRegisters (registers_of v.instruction) →
      Likewise v result written source after next → ((x : ℕ) → OwnMirrors f (g x) (is_own owns h x) (os x) (ps x)) →
      Mirrors owns h f g (record (moved_at h after a (as_apart v time result written source)) { own = os }) (record (moved_at h next c v) { own = ps })
  moved_with v time result written source after next os ps fit l own = record {
    pc = refl;
    registers = set_tells c.registers a.registers (answers_to v.instruction) v.result result (mirrors.size ∙ sym mirrors.small) l.tells mirrors.registers;
    small = set_size a.registers (answers_to v.instruction) result ∙ mirrors.small;
    size = set_size c.registers (answers_to v.instruction) v.result ∙ mirrors.size;
    kinds = kinds_below_after f up a.kinds c.kinds v.access (operates v) after next below mirrors.kinds;
    carried = carried_below_after f up a.carried c.carried (registers_of v.instruction) (step_event h (Some v.access)) after next fit below mirrors.carried;
    touched = λ x. raised f up (operates v && covers v.access x) (a.touched x) (c.touched x) after next (mirrors.touched x) (λ e. below);
    seen = λ x. raised (g x) (raises x) (loads v.access && covers v.access x) (a.seen x) (c.seen x) (source x) (v.source x) (mirrors.seen x)
        (λ e. let p = and_parts (loads v.access) (covers v.access x) e in l.reads x p.0 p.1);
    own = own;
    held = ap (held_after_own v.access) mirrors.held;
    reserved = chosen (is_lr v.access) after next a.reserved c.reserved below mirrors.reserved;
    sources = λ x held. by_lr (is_lr v.access) refl x held;
    output = outputs_joined c.output a.output (puts_out c.registers v.instruction) (puts_out a.registers v.instruction) mirrors.output
        (puts_tell c.registers a.registers v.instruction mirrors.registers l.calls);
  }
    where
      below : after ≤ f next
      below = let e = l.behind in omega (arith, e)

      by_lr : (b : Bool) → is_lr v.access ≡ b → (x : ℕ) → is_held (held_after_own v.access c.held) x ≡ true → g x ((if b then v.source else c.sources) x) ≤ (if b then source else a.sources) x
      by_lr true e x held = l.reserves x e
      by_lr false e x held = mirrors.sources x (held_before v.access c.held x e held)

  own_after : (x : ℕ) (b : Bool) (o p : OwnByte) → (b ≡ true → o.place ≡ g x p.place) → o.atomic ≡ p.atomic → Tells p.byte o.byte → o.needs ≤ f p.needs →
      OwnMirrors f (g x) (is_own owns h x) (if b then Some o else a.own x) (if b then Some p else c.own x)
  own_after x true o p place atomic byte needs = mirrors-both o p (λ e. place refl) (λ e. atomic) byte needs
  own_after x false o p place atomic byte needs = mirrors.own x

  -- with those that it leaves, where its stores stand
  pub moved_mirrors : (v : Move) (time : ℕ) (result written : Option ℕ) (source : ℕ → ℕ) (after next : ℕ) → AreRegisters (registers_of v.instruction) →
      Likewise v result written source after next → ((x : ℕ) → writes v.access x ≡ true → after ≡ g x next) →
      Mirrors owns h f g (moved_at h after a (as_apart v time result written source)) (moved_at h next c v)
  moved_mirrors v time result written source after next fit l place =
      moved_with v time result written source after next (moved_at h after a (as_apart v time result written source)).own (moved_at h next c v).own fit l
      (λ x. own_after x (writes v.access x) _ _ (place x) refl (tells_map (λ n. byte_of n (x - address_of v.access)) v.written written l.puts)
      (operands_below f up a.carried c.carried (registers_of v.instruction) fit mirrors.carried))

-- ---- states that are ahead

outputs_on : (os ps us : List (Option ℕ)) → OutputTells os ps → OutputTells ps us → OutputTells os us
outputs_on _ _ us tells-nothing more = more
outputs_on _ _ us (tells-more o p os ps t rest) more = by_other (λ ws further. outputs_on os ps ws rest further) us more
  where
    on : (u : Option ℕ) → Tells p u → Tells o u
    on u f n is = f n (t n is)

    by_other : ((ws : List (Option ℕ)) → OutputTells ps ws → OutputTells os ws) → (us : List (Option ℕ)) → OutputTells (p ∷ ps) us → OutputTells (o ∷ os) us
    by_other behind _ (tells-more _ u _ us f more) = tells-more o u os us (on u f) (behind us more)

own_ahead : (f g : ℕ → ℕ) (private : Bool) (o p q : Option OwnByte) → OwnAhead o p → OwnMirrors f g private p q → OwnMirrors f g private o q
own_ahead f g private _ _ q ahead-none r = r
own_ahead f g private _ _ q (ahead-both o p place byte atomic needs) r = by_other q r
  where
    by_other : (q : Option OwnByte) → OwnMirrors f g private (Some p) q → OwnMirrors f g private (Some o) q
    by_other _ (mirrors-both _ u place2 atomic2 byte2 needs2) =
        mirrors-both o u (λ e. place ∙ place2 e) (λ e. atomic ∙ atomic2 e) (λ n is. byte n (byte2 n is)) (omega (arith, needs, needs2))

at_most : (u v w : ℕ) → u ≤ v → v ≤ w → u ≤ w
at_most u v w l m = omega (arith, l, m)

-- what is ahead mirrors as well
pub mirrors_ahead : (owns : ℕ → ℕ → Bool) (h : ℕ) (f : ℕ → ℕ) (g : ℕ → ℕ → ℕ) (a b c : RunState) → IsAhead a b → Mirrors owns h f g b c → Mirrors owns h f g a c
mirrors_ahead owns h f g a b c l m = record {
  pc = l.pc ∙ m.pc;
  registers = λ r n e. l.registers r n (m.registers r n e);
  small = l.size ∙ m.small;
  size = m.size;
  kinds = record {
    loads = at_most _ _ _ l.kinds.loads m.kinds.loads;
    stores = at_most _ _ _ l.kinds.stores m.kinds.stores;
    acquires = at_most _ _ _ l.kinds.acquires m.kinds.acquires;
    annotated = at_most _ _ _ l.kinds.annotated m.kinds.annotated;
    load_load = at_most _ _ _ l.kinds.load_load m.kinds.load_load;
    load_store = at_most _ _ _ l.kinds.load_store m.kinds.load_store;
    store_load = at_most _ _ _ l.kinds.store_load m.kinds.store_load;
    store_store = at_most _ _ _ l.kinds.store_store m.kinds.store_store;
  };
  carried = record {
    small = l.carried.small;
    size = m.carried.size;
    registers = λ r s. at_most _ _ _ (l.carried.registers r s) (m.carried.registers r s);
    steered = at_most _ _ _ l.carried.steered m.carried.steered;
    addressed = at_most _ _ _ l.carried.addressed m.carried.addressed;
  };
  touched = λ x. at_most _ _ _ (l.touched x) (m.touched x);
  seen = λ x. at_most _ _ _ (l.seen x) (m.seen x);
  own = λ x. own_ahead f (g x) (is_own owns h x) (a.own x) (b.own x) (c.own x) (l.own x) (m.own x);
  held = l.held ∙ m.held;
  reserved = at_most _ _ _ l.reserved m.reserved;
  sources = λ x e. at_most _ _ _ (m.sources x e) (l.sources x (ap (λ (s : Option Span). is_held s x) m.held ∙ e));
  output = outputs_on c.output b.output a.output m.output l.output;
}

own_on : (o p q : Option OwnByte) → OwnAhead o p → OwnAhead p q → OwnAhead o q
own_on _ _ q ahead-none r = r
own_on _ _ q (ahead-both o p place byte atomic needs) r = by_other q r
  where
    by_other : (q : Option OwnByte) → OwnAhead (Some p) q → OwnAhead (Some o) q
    by_other _ (ahead-both _ u place2 byte2 atomic2 needs2) = ahead-both o u (place ∙ place2) (λ n e. byte n (byte2 n e)) (atomic ∙ atomic2) (omega (arith, needs, needs2))

-- what is ahead of a state is ahead of all that the state is ahead of
pub ahead_on : (a b c : RunState) → IsAhead a b → IsAhead b c → IsAhead a c
ahead_on a b c l m = record {
  pc = l.pc ∙ m.pc;
  size = l.size ∙ m.size;
  registers = λ r n e. l.registers r n (m.registers r n e);
  kinds = record {
    loads = at_most _ _ _ l.kinds.loads m.kinds.loads;
    stores = at_most _ _ _ l.kinds.stores m.kinds.stores;
    acquires = at_most _ _ _ l.kinds.acquires m.kinds.acquires;
    annotated = at_most _ _ _ l.kinds.annotated m.kinds.annotated;
    load_load = at_most _ _ _ l.kinds.load_load m.kinds.load_load;
    load_store = at_most _ _ _ l.kinds.load_store m.kinds.load_store;
    store_load = at_most _ _ _ l.kinds.store_load m.kinds.store_load;
    store_store = at_most _ _ _ l.kinds.store_store m.kinds.store_store;
  };
  carried = record {
    small = l.carried.small;
    size = m.carried.size;
    registers = λ r s. at_most _ _ _ (l.carried.registers r s) (m.carried.registers r s);
    steered = at_most _ _ _ l.carried.steered m.carried.steered;
    addressed = at_most _ _ _ l.carried.addressed m.carried.addressed;
  };
  touched = λ x. at_most _ _ _ (l.touched x) (m.touched x);
  seen = λ x. at_most _ _ _ (l.seen x) (m.seen x);
  own = λ x. own_on (a.own x) (b.own x) (c.own x) (l.own x) (m.own x);
  held = l.held ∙ m.held;
  reserved = at_most _ _ _ l.reserved m.reserved;
  sources = λ x s. at_most _ _ _ (m.sources x s) (l.sources x (ap (λ (u : Option Span). is_held u x) m.held ∙ s));
  output = outputs_on c.output b.output a.output m.output l.output;
}

-- ---- lower states are ahead

own_of : (o p : Option OwnByte) → OwnAtMost o p → OwnAhead o p
own_of _ _ own-none = ahead-none
own_of _ _ (own-both o p place byte atomic needs) = ahead-both o p place (λ n is. byte ∙ is) atomic needs

pub outputs_same : (os : List (Option ℕ)) → OutputTells os os
outputs_same [] = tells-nothing
outputs_same (o ∷ os) = tells-more o o os os (λ n is. is) (outputs_same os)

pub lower_ahead : LowerStatesAreAhead
lower_ahead a b l = record {
  pc = l.pc;
  size = ap length l.registers;
  registers = λ r n e. ap (λ (y : List (Option ℕ)). view y r) l.registers ∙ e;
  kinds = l.kinds;
  carried = l.carried;
  touched = l.touched;
  seen = l.seen;
  own = λ x. own_of (a.own x) (b.own x) (l.own x);
  held = l.held;
  reserved = l.reserved;
  sources = l.sources;
  output = subst (λ (o : List (Option ℕ)). OutputTells b.output o) (sym l.output) (outputs_same b.output);
}
