-- What a move is where some bytes are the hart's own.
use Rattle.std.proofs.Common.{◌≡◌, ◌⊎◌, ℕ, ◌&&◌, ◌||◌, inl, inr, Bool, true, false, if◌then◌else◌, List, Some, None, option_map, refl, sym, ap, ◌∙◌, subst}
use Rattle.std.proofs.lemmas.Bool.{and_parts, cases_Bool}
use Rattle.pages.specs.declared.access.Width.{Width}
use Rattle.pages.specs.Memory.{Memory}
use Rattle.round_schedule.specs.declared.access.Access.{Access}
use Rattle.round_schedule.specs.declared.access.Access.TheVariants.{Load as LoadOf, Store as StoreOf}
use Rattle.round_schedule.specs.Accesses.{address_of, loads}
use Rattle.round_schedule.specs.Accesses.{stores as writing}
use Rattle.rv64_decode.specs.declared.instruction.Instr.{Instr}
use Rattle.rv64_decode.specs.declared.instruction.Instr.TheVariants.{Ecall}
use Rattle.hart_step.specs.DecodedCode.{decoded}
use Rattle.hart_step.specs.Effect.{Action, Call, Write, action}
use Rattle.hart_step.specs.Numbers.{plus}
use Rattle.hart_step.specs.Step.{cut}
use Rattle.memory_order.specs.Operations.{is_plain_store}
use Rattle.run_bounds.specs.declared.operation.Kind.{Kind}
use Rattle.run_bounds.specs.declared.operation.Kind.TheVariants.{Load, Store, LoadReserved, StoreConditional, Atomic}
use Rattle.run_bounds.specs.declared.operation.Operation.{Operation}
use Rattle.run_bounds.specs.Operations.{access_as, access_of, no_annotation, operation_in}
use Rattle.all_endings.specs.HartRuns.{Acts, IsPlaced, IsWritable, KnowsMost, Stands, acts, branches, calls, data_of, exchanges, exchanges-unknown, fails, jumps, orders, puts, puts-unknown, reads, reserves, succeeds}
use Rattle.all_endings.specs.HartRuns.{stores as stores_it}
use Rattle.all_endings.specs.Locality.{DestinationsAreWritten, filled, without_data, written_register}
use Rattle.all_endings.specs.RunStates.{Move, RunState, answers_to, moved, operates}
use Rattle.all_endings.specs.StoreLists.{Stored}
use Rattle.hart_states.proofs.Choices.{answers_elsewhere}
use Rattle.hart_states.specs.declared.following.Successor.{Successor}
use Rattle.hart_states.specs.Following.{place_done}
use Rattle.hart_states.specs.States.{state_of}
use Rattle.hart_moves.specs.Choosing.{FailsSo, IsAble, LoadsSo, StoresSo}
use Rattle.hart_moves.specs.declared.moving.Reached.{Reached}
use Rattle.hart_moves.specs.declared.moving.Reached.TheVariants.{AnyAnswer, Whole}
use Rattle.hart_moves.specs.Moves.{AreMovesBy, FollowsAhead}
use Rattle.hart_moves.proofs.Inverting.{does_so, same_operation}
use Rattle.private_bytes.specs.Ahead.{IsAhead}
use Rattle.private_bytes.specs.Owners.{is_own, is_private}
use Rattle.private_bytes.specs.PrivateMoves.{ActsApart, keeps, moved_privately, recalls, shares}
use Rattle.own_moves.specs.Moves.{AreMoves, FollowsApart, HasMoves}
use Rattle.own_moves.specs.Private.{DoesPrivately, FollowsPrivately, HasPrivateFollower, is_plain}

-- ---- plain stores

-- a move that is a plain store
record Storing (image : Memory) (a : RunState) (v : Move) : Type 0 where
  address : ℕ
  width : Width
  knows : KnowsMost a v
  is : without_data (acts a v) ≡ Write address width 0
  able : IsWritable image address width
  access : v.access ≡ StoreOf width 0 address 0
  written : v.written ≡ option_map (cut width) (data_of a v)
  next : v.next ≡ plus a.pc 4

module _ (image : Memory) (h : ℕ) (m : List Stored) (opening : ℕ → ℕ) (P : Move → Type 0) (a : RunState) (v : Move) (plain : is_plain_store v.access ≡ true) where
  no_store : (y : Access) → v.access ≡ y → is_plain_store y ≡ false → ⊥
  no_store y e dry = let q : is_plain_store v.access ≡ is_plain_store y = ap is_plain_store e in cc

  storing : Acts image h m opening P a v → Storing image a v
  storing (puts rd n k is e r x) = absurd (no_store _ e refl)
  storing (puts-unknown rd n k is e r x) = absurd (no_store _ e refl)
  storing (jumps rd target k is even e r x) = absurd (no_store _ e refl)
  storing (branches taken target k is even e x) = absurd (no_store _ e refl)
  storing (orders before after mode is e x) = absurd (no_store _ e refl)
  storing (reads rd address w signed number k is safe e g r x) = absurd (no_store _ e refl)
  storing (stores_it address w k is safe e d p x) = record { address = address; width = w; knows = k; is = is; able = safe; access = e; written = d; next = x }
  storing (reserves rd address w o number k is safe e g r x) = absurd (no_store _ e refl)
  storing (fails rd address w o k is safe e r x) = absurd (no_store _ e refl)
  storing (succeeds rd address w o k is safe e d held reserved p unbroken r x) = absurd (no_store _ e refl)
  storing (exchanges rd address w f o number k is safe e g r d p x) = absurd (no_store _ e refl)
  storing (exchanges-unknown rd address w o k none is safe e g r d x) = absurd (no_store _ e refl)
  storing (calls number answer ecall at nonzero answered e r x) = absurd (no_store _ e refl)

-- ---- operations on own bytes

-- a plain load or store of own bytes, by the operation of its instruction
pub record IsPrivateMove (owns : ℕ → ℕ → Bool) (image : Memory) (h : ℕ) (opening : ℕ → ℕ) (a : RunState) (v : Move) : Type 0 where
  pub operation : Operation
  pub is : operation_in (acts a v) ≡ Some operation
  pub plain : is_plain operation.kind ≡ true
  pub own : is_own owns h operation.address ≡ true
  pub able : IsAble image a v.instruction operation
  pub does : DoesPrivately opening a operation v

module _ (owns : ℕ → ℕ → Bool) (image : Memory) (h : ℕ) (m : List Stored) (opening : ℕ → ℕ) (a : RunState) (v : Move) (law : DestinationsAreWritten) where
  own_at : (y : Access) → v.access ≡ y → is_private owns h v.access ≡ true → is_own owns h (address_of y) ≡ true
  own_at y e private = ap (λ (z : Access). is_own owns h (address_of z)) (sym e) ∙ (and_parts (loads v.access || writing v.access) (is_own owns h (address_of v.access)) private).1

  written_none : (b : Action) (address : ℕ) (w : Width) → without_data b ≡ Write address w 0 → written_register b ≡ 0
  written_none (Write y u n) address w e = refl
  written_none _ address w e = absurd (cc)

  silent : (address : ℕ) (w : Width) → without_data (acts a v) ≡ Write address w 0 → answers_to v.instruction ≡ 0
  silent address w is =
      let other : v.instruction ≡ Ecall → ⊥ = λ e. let c : without_data (acts a v) ≡ Call = ap (λ (i : Instr). without_data (action i (filled a.registers) a.pc)) e in cc in
      answers_elsewhere v.instruction other ∙ sym (law v.instruction (filled a.registers) a.pc other) ∙ written_none (acts a v) address w is

  kept : is_private owns h v.access ≡ true → Storing image a v → IsPrivateMove owns image h opening a v
  kept private s = record {
    operation = record { kind = Store; address = s.address; width = s.width; ordering = no_annotation; signed = false };
    is = sym (same_operation (acts a v)) ∙ ap operation_in s.is;
    plain = refl;
    own = own_at (StoreOf s.width 0 s.address 0) s.access private;
    able = record { address = s.knows.address; readable = λ kind. absurd (cc); writable = λ kind. s.able };
    does = inr (record { kind = refl; access = s.access; written = s.written; silent = silent s.address s.width s.is; next = s.next });
  }

  -- what touches own bytes is a plain load or store of them
  pub private_move : is_private owns h v.access ≡ true → ActsApart owns image h m opening (IsPlaced h m) a v → IsPrivateMove owns image h opening a v
  private_move private (shares public doing) = absurd (cc)
  private_move private (keeps _ plain doing) = kept private (storing image h m opening (λ u. Unit {0}) a v plain doing)
  private_move private (recalls rd address w signed _ k is safe e needs r source x) = record {
    operation = record { kind = Load; address = address; width = w; ordering = no_annotation; signed = signed };
    is = ap operation_in is;
    plain = refl;
    own = own_at (LoadOf w 0 address 0) e private;
    able = record { address = k.but_data.address; readable = λ kind. safe; writable = λ kind. absurd (cc) };
    does = inl (record { kind = refl; access = e; needs = needs; result = r; source = source; next = x });
  }

  -- the rest acts as ever
  pub shared_move : is_private owns h v.access ≡ false → ActsApart owns image h m opening (IsPlaced h m) a v → Acts image h m opening (IsPlaced h m) a v
  shared_move public (shares _ doing) = doing
  shared_move public (keeps private plain doing) = absurd (cc)
  shared_move public (recalls rd address w signed private k is safe e needs r source x) = absurd (cc)

  -- a plain load or store of own bytes touches them
  touching : (k : Kind) (o : Operation) → is_plain k ≡ true → o.kind ≡ k → is_own owns h o.address ≡ true → v.access ≡ access_of o → is_private owns h v.access ≡ true
  touching k o plain kind own does =
      ap (is_private owns h) (does ∙ ap (λ (j : Kind). access_as j o.address o.width o.ordering) kind) ∙ by_kind k plain
    where
      by_kind : (k : Kind) → is_plain k ≡ true → is_private owns h (access_as k o.address o.width o.ordering) ≡ true
      by_kind Load plain = own
      by_kind Store plain = own
      by_kind LoadReserved plain = absurd (cc)
      by_kind StoreConditional plain = absurd (cc)
      by_kind Atomic plain = absurd (cc)

  pub plain_touches : (o : Operation) → operation_in (acts a v) ≡ Some o → is_plain o.kind ≡ true → is_own owns h o.address ≡ true →
      ActsApart owns image h m opening (IsPlaced h m) a v → is_private owns h v.access ≡ true
  plain_touches o is plain own (keeps private still doing) = private
  plain_touches o is plain own (recalls rd address w signed private k at safe e needs r source x) = private
  plain_touches o is plain own (shares public doing) = by_doing (does_so image h m opening (IsPlaced h m) a v law o is doing).does
    where
      by_doing : ((LoadsSo m opening a o v ⊎ StoresSo h m a o v) × (operates v ≡ true)) ⊎ FailsSo a o v → is_private owns h v.access ≡ true
      by_doing (inl (inl so, on)) = touching o.kind o plain refl own so.access
      by_doing (inl (inr so, on)) = touching o.kind o plain refl own so.access
      by_doing (inr so) = let e = ap is_plain so.kind in absurd (cc)

-- ---- what follows them

pub follows_privately : (owns : ℕ → ℕ → Bool) (h : ℕ) (m : List Stored) (a : RunState) (v : Move) (s : Successor) → is_private owns h v.access ≡ true →
    FollowsPrivately h m a v s → FollowsApart owns h m a v s
follows_privately owns h m a v s private f = record {
  state = subst (λ (b : Bool). IsAhead (state_of s.state) (if b then moved_privately h m a v else moved h m a v)) (sym private) f.state;
  done = f.done ∙ sym (ap (λ (b : Bool). if b then None else place_done v) private);
}

pub follows_shared : (owns : ℕ → ℕ → Bool) (h : ℕ) (m : List Stored) (a : RunState) (v : Move) (s : Successor) → is_private owns h v.access ≡ false →
    FollowsAhead h m a v s → FollowsApart owns h m a v s
follows_shared owns h m a v s public f = record {
  state = subst (λ (b : Bool). IsAhead (state_of s.state) (if b then moved_privately h m a v else moved h m a v)) (sym public) f.state;
  done = f.done ∙ sym (ap (λ (b : Bool). if b then None else place_done v) public);
}

-- ---- the moves of the instruction that is there

module _ (owns : ℕ → ℕ → Bool) (image : Memory) (h : ℕ) (m : List Stored) (opening : ℕ → ℕ) (a : RunState) (i : Instr) (law : DestinationsAreWritten) (there : decoded image a.pc ≡ Some i) where
  same_instruction : (v : Move) → decoded image a.pc ≡ Some v.instruction → v.instruction ≡ i
  same_instruction v at = cc

  same_action : (v : Move) → v.instruction ≡ i → acts a v ≡ action i (filled a.registers) a.pc
  same_action v same = ap (λ (j : Instr). action j (filled a.registers) a.pc) same

  -- where it isn't a plain load or store of own bytes, they are as ever
  pub shared_moves : ((o : Operation) → operation_in (action i (filled a.registers) a.pc) ≡ Some o → (is_plain o.kind && is_own owns h o.address) ≡ false) → (r : Reached) →
      AreMovesBy image h m opening a i r → AreMoves owns image h m opening a r
  shared_moves none (Whole ss) by = λ v at doing stands. elim (cases_Bool (is_private owns h v.access)) [
    | inl private ↦
        let p = private_move owns image h m opening a v law private doing in
        let e = none p.operation (ap operation_in (sym (same_action v (same_instruction v at))) ∙ p.is) in
        let f : (is_plain p.operation.kind && is_own owns h p.operation.address) ≡ true = ap (λ (b : Bool). b && is_own owns h p.operation.address) p.plain ∙ p.own in
        absurd (cc)
    | inr public ↦
        let f = by v (same_instruction v at) (shared_move owns image h m opening a v law public doing) stands in
        (f.0, f.1, follows_shared owns h m a v f.0 public f.2)
  ]
  shared_moves none AnyAnswer by = (i, there, by)

  -- where it is one, its move is one on own bytes
  pub private_moves : (o : Operation) → operation_in (action i (filled a.registers) a.pc) ≡ Some o → (is_plain o.kind && is_own owns h o.address) ≡ true → (ss : List Successor) →
      ((v : Move) → v.instruction ≡ i → IsAble image a i o → DoesPrivately opening a o v → Stands a v → HasPrivateFollower h m a v ss) → HasMoves owns image h m opening a ss
  private_moves o is both ss by = λ v at doing stands.
      let same = same_instruction v at in
      let split = and_parts (is_plain o.kind) (is_own owns h o.address) both in
      let does : operation_in (acts a v) ≡ Some o = ap operation_in (same_action v same) ∙ is in
      let private = plain_touches owns image h m opening a v law o does split.0 split.1 doing in
      let p = private_move owns image h m opening a v law private doing in
      let one : p.operation ≡ o = same_of p.operation o (sym p.is ∙ does) in
      let able = subst (λ (q : Operation). IsAble image a i q) one (subst (λ (j : Instr). IsAble image a j p.operation) same p.able) in
      let f = by v same able (subst (λ (q : Operation). DoesPrivately opening a q v) one p.does)
      (stands (and_parts (loads v.access || writing v.access) (is_own owns h (address_of v.access)) private).0) in
      (f.0, f.1, follows_privately owns h m a v f.0 private f.2)
    where
      same_of : (p o : Operation) → Some p ≡ Some o → p ≡ o
      same_of p o e = cc
