-- Each hart of an execution that RVWMO allows has a run.
use Rattle.std.proofs.Common.{◌≡◌, ◌≢◌, ℕ, zero, suc, ◌<◌, ◌≤◌, ◌==◌, ◌⊎◌, Bool, true, false, if◌then◌else◌, List, [], ◌∷◌, ◌++◌, length, map, get_or, slice_index_or, slice_set, length-set, Option, Some, None, is_some, unwrap_or, refl, sym, ap, ◌∙◌, subst, inl, inr, arith, Contains, drop, nat_lt, ◌%◌, ◌^◌, ◌+◌}
use Rattle.std.proofs.lemmas.Bool.Decides.{nat_tests}
use Rattle.all_endings.proofs.Times.{carried_below, timed_rises}
use Rattle.all_endings.specs.Times.{carried_before, kinds_before, timed, touched_before}
use Rattle.all_endings.specs.Halting.{Halts, KnowsRegisters}
use Rattle.execution.proofs.Answering.{stopped_console}
use Rattle.rule_checker.specs.declared.carried.Carried.{Carried}
use Rattle.memory_order.specs.Orders.{order_position}
use Rattle.hart_step.specs.Registers.{reg}
use Rattle.hart_step.specs.declared.hart.Stop.{Stop}
use Rattle.std.proofs.Math.Seq.{get_or-append_seam}
use Rattle.std.proofs.lemmas.Bool.{cases_lt, cases_eq, eq-eqb, ne_eqb, cond-true, cond-false}
use Rattle.std.proofs.lemmas.List.{append-nil, append_assoc, get_or-set_other, get_or-set_same, get_or_append_left, get_or_default, length-append, length-map, map-append}
use Rattle.pages.specs.Memory.{Memory}
use Rattle.rv64_decode.specs.declared.instruction.Instr.{Instr}
use Rattle.rv64_decode.specs.declared.instruction.Instr.TheVariants.{Ecall}
use Rattle.round_schedule.specs.declared.access.Access.{Access}
use Rattle.round_schedule.specs.declared.access.Stepped.TheVariants.{Done, Stopped}
use Rattle.round_schedule.specs.declared.event.Event.{Event}
use Rattle.round_schedule.specs.declared.span.Span.{Span}
use Rattle.round_schedule.specs.Accesses.{stores}
use Rattle.round_schedule.specs.Held.{held_after_own}
use Rattle.round_schedule.specs.Positions.{event, no_event}
use Rattle.hart_step.specs.declared.hart.Hart.{Hart}
use Rattle.hart_step.specs.DecodedCode.{decoded}
use Rattle.hart_step.specs.Console.{ConsoleState, output_room}
use Rattle.memory_order.specs.Operations.{is_store}
use Rattle.memory_order.specs.Dependencies.{registers_at}
use Rattle.rule_checker.specs.CarriedBounds.{AreRegisters}
use Rattle.execution.specs.Executions.{Executes, Goes, IsStep, Standing, Stops, begins, goes, no_access, own_held, stops}
use Rattle.execution.specs.Progressing.{at_start}
use Rattle.execution.proofs.Forming.{executes_even}
use Rattle.execution.proofs.Owning.{own_more}
use Rattle.execution_checker.specs.Allowed.{Allows}
use Rattle.all_endings.specs.Endings.{opening_bytes, own_output}
use Rattle.all_endings.specs.Factorizing.{AreMoves, Factor, Factorizes, IsOpenCall, IsUnknown, Lags, StoresLater, comes-to-call, comes-to-end, comes-to-unknown, moves-none, moves-other, moves-own, unknown-address, unknown-target, HasRoom, IsFresh}
use Rattle.all_endings.specs.HartRuns.{Acts, IsPlaced, Runs, Stands, runs-more, runs-none}
use Rattle.all_endings.specs.Locality.{Refines, view}
use Rattle.all_endings.specs.Offering.{Offers}
use Rattle.all_endings.specs.RunStates.{Move, RunState, bare, behind, moved, operates, run_start, put_byte, puts_out}
use Rattle.all_endings.specs.StoreLists.{Stored, later, stores_of, told}
use Rattle.all_endings.proofs.Bare.{stores_bare}
use Rattle.all_endings.proofs.Blocking.{address_later, target_later}
use Rattle.all_endings.proofs.DecodedRegisters.{all_registers_are}
use Rattle.all_endings.proofs.Effects.{Did, did-branch, did-call, did-exchange, did-fail, did-jump, did-order, did-put, did-read, did-reserve, did-succeed, did-write, step_did, put_at, put_in, step_puts}
use Rattle.all_endings.proofs.Following.{Follows, Setting, after, follows_other, list, not_it, time, carried_at_index}
use Rattle.all_endings.proofs.Halting.{stop_rests}
use Rattle.all_endings.proofs.LoadMoves.{read_moves, reserve_moves}
use Rattle.all_endings.proofs.Moves.{Blocked, MovesOrBlocks, blocked-address, blocked-call, blocked-target, registers_are}
use Rattle.all_endings.proofs.Offers.{step_offers}
use Rattle.all_endings.proofs.OwnSteps.{follows_own}
use Rattle.all_endings.proofs.Placing.{placed}
use Rattle.all_endings.proofs.PlainMoves.{branch_moves, call_moves, jump_moves, order_moves, put_moves}
use Rattle.all_endings.proofs.Starting.{runs_start}
use Rattle.all_endings.proofs.StepTimes.{waits}
use Rattle.all_endings.proofs.StoreMoves.{exchange_moves, fail_moves, succeed_moves, write_moves}

-- ---- a run so far

-- a run on which a store was offered
pub record Offered (s : Setting) (h : ℕ) (start : Hart) (moves : List Move) (state : RunState) (next : Stored) : Type 0 where
  pub before : List Move
  pub at : RunState
  pub leads : Runs s.image h (list s) (opening_bytes s.image) (run_start start) before at
  pub offers : Offers s.image h (list s) (opening_bytes s.image) at next
  pub does : Move
  pub decodes : decoded s.image at.pc ≡ Some does.instruction
  pub acts : Acts s.image h (list s) (opening_bytes s.image) (IsPlaced h (list s)) at does
  pub stands : operates does ≡ true → Stands at does
  pub stores_it : stores does.access ≡ true
  pub late : does.time ≡ later (list s)
  pub rest : List Move
  pub onward : Runs s.image h (list s) (opening_bytes s.image) (moved h (list s) at does) rest state
  pub joined : moves ≡ before ++ does ∷ rest

abbrev pub Paid : List Move → ℕ → Type 0
Paid moves k = (v : Move) × Contains moves v × (stores v.access ≡ true) × (v.time ≡ k)

-- of the stores that hart h did before an index the first ones are done, and the next one was offered
pub record SoFar (s : Setting) (h : ℕ) (start : Hart) (i : ℕ) (moves : List Move) (state : RunState) : Type 0 where
  pub paid : (w : ℕ) → w < i → (event s.t w).hart ≡ h → is_store (event s.t w) ≡ true → time s w < s.n → Paid moves (time s w)
  pub offered : (w : ℕ) → w < i → (event s.t w).hart ≡ h → is_store (event s.t w) ≡ true → time s w ≡ s.n → Offered s h start moves state (told (event s.t w))

-- the order has no more stores than are known
abbrev pub Total : Setting → Type 0
Total s = (p : ℕ) → timed s.n s.t s.g p ≤ s.n

pub record Going (s : Setting) (q : Standing) (h : ℕ) (start : Hart) (i : ℕ) (held : Option Span) (out : List ℕ) (k : Hart) : Type 0 where
  pub moves : List Move
  pub state : RunState
  pub runs : Runs s.image h (list s) (opening_bytes s.image) (run_start start) moves state
  pub are : AreMoves s.n h q s.g i moves
  pub follows : Follows s h i held state k
  pub so_far : SoFar s h start i moves state
  pub output : Total s → state.output ≡ map (λ n. Some n) out
  pub halting : (k.stop ≡ None) ⊎ ((stop : Stop) × (k.stop ≡ Some stop) × Halts s.image state stop)

pub record Stuck (s : Setting) (q : Standing) (h : ℕ) (start : Hart) : Type 0 where
  pub index : ℕ
  pub within : index ≤ length s.t
  pub moves : List Move
  pub state : RunState
  pub runs : Runs s.image h (list s) (opening_bytes s.image) (run_start start) moves state
  pub are : AreMoves s.n h q s.g index moves
  pub so_far : SoFar s h start index moves state
  pub known : Total s → KnowsRegisters state
  pub kinds : state.kinds ≡ kinds_before (after s) s.t h index
  pub carried : state.carried ≡ carried_at_index s h index
  pub touched : (x : ℕ) → state.touched x ≡ touched_before (after s) s.t h x index
  pub breaks : (IsUnknown s.image state × StoresLater s.n h q s.g index) ⊎ IsOpenCall s.image state

contains_more : (vs ws : List Move) (v : Move) → Contains vs v → Contains (vs ++ ws) v
contains_more vs ws v c = (c.0, (let l = c.1 in let m = length-append vs ws in omega (arith, l, m)), get_or_append_left vs ws v c.0 c.1 ∙ c.2)

contains_last : (vs : List Move) (v : Move) → Contains (vs ++ v ∷ []) v
contains_last vs v = (length vs, (let m = length-append vs (v ∷ []) in omega (arith, m)), get_or-append_seam vs v [] v)

paid_more : (vs ws : List Move) (k : ℕ) → Paid vs k → Paid (vs ++ ws) k
paid_more vs ws k p = (p.0, contains_more vs ws p.0 p.1, p.2, p.3)

-- a move more
abbrev More : Setting → ℕ → RunState → Move → Type 0
More s h a v =
    (b : RunState) (vs : List Move) → Runs s.image h (list s) (opening_bytes s.image) b vs a →
    Runs s.image h (list s) (opening_bytes s.image) b (vs ++ v ∷ []) (moved h (list s) a v)

offered_more : (s : Setting) (h : ℕ) (start : Hart) (vs : List Move) (a : RunState) (v : Move) (next : Stored) → More s h a v → Offered s h start vs a next →
    Offered s h start (vs ++ v ∷ []) (moved h (list s) a v) next
offered_more s h start vs a v next more o = record {
  before = o.before;
  at = o.at;
  leads = o.leads;
  offers = o.offers;
  does = o.does;
  decodes = o.decodes;
  acts = o.acts;
  stands = o.stands;
  stores_it = o.stores_it;
  late = o.late;
  rest = o.rest ++ v ∷ [];
  onward = more (moved h (list s) o.at o.does) o.rest o.onward;
  joined = ap (λ (us : List Move). us ++ v ∷ []) o.joined ∙ append_assoc o.before (o.does ∷ o.rest) (v ∷ []);
}

so_far_other : (s : Setting) (h : ℕ) (start : Hart) (i : ℕ) (vs : List Move) (a : RunState) → (event s.t i).hart ≢ h → SoFar s h start i vs a → SoFar s h start (suc i) vs a
so_far_other s h start i vs a other f = record {
  paid = λ w l here store early. f.paid w (not_it s h i w other l here) here store early;
  offered = λ w l here store now. f.offered w (not_it s h i w other l here) here store now;
}

so_far_own : (s : Setting) (h : ℕ) (start : Hart) (i : ℕ) (vs : List Move) (v : Move) (a : RunState) → v.access ≡ bare (event s.t i).access →
    (stores (event s.t i).access ≡ true → time s i < s.n → v.time ≡ time s i) →
    (is_store (event s.t i) ≡ true → time s i ≡ s.n → Offers s.image h (list s) (opening_bytes s.image) a (told (event s.t i))) →
    behind (list s) v ≡ after s i → decoded s.image a.pc ≡ Some v.instruction → Acts s.image h (list s) (opening_bytes s.image) (IsPlaced h (list s)) a v → (operates v ≡ true → Stands a v) →
    Runs s.image h (list s) (opening_bytes s.image) (run_start start) vs a → SoFar s h start i vs a → SoFar s h start (suc i) (vs ++ v ∷ []) (moved h (list s) a v)
so_far_own s h start i vs v a e listed offers passed at doing stand runs f = record {
  paid = λ w l here store early. elim (cases_lt w i) [
    | inl k ↦ paid_more vs (v ∷ []) (time s w) (f.paid w k here store early)
    | inr k ↦ let same : i ≡ w = omega (arith, k, l) in subst (λ (j : ℕ). Paid (vs ++ v ∷ []) (time s j)) same (new (ap (λ (j : ℕ). is_store (event s.t j)) same ∙ store) (subst (λ (j : ℕ). time s j < s.n) (sym same) early))
  ];
  offered = λ w l here store now. elim (cases_lt w i) [
    | inl k ↦ offered_more s h start vs a v (told (event s.t w)) more (f.offered w k here store now)
    | inr k ↦ let same : i ≡ w = omega (arith, k, l) in subst (λ (j : ℕ). Offered s h start (vs ++ v ∷ []) (moved h (list s) a v) (told (event s.t j))) same
        (offer (ap (λ (j : ℕ). is_store (event s.t j)) same ∙ store) (ap (λ (j : ℕ). time s j) same ∙ now))
  ];
}
  where
    more : More s h a v
    more b us r = runs-more b a us v r at doing stand

    wet : is_store (event s.t i) ≡ true → stores v.access ≡ true
    wet store = ap stores e ∙ stores_bare (event s.t i).access ∙ store

    new : is_store (event s.t i) ≡ true → time s i < s.n → Paid (vs ++ v ∷ []) (time s i)
    new store early = (v, contains_last vs v, wet store, listed store early)

    offer : is_store (event s.t i) ≡ true → time s i ≡ s.n → Offered s h start (vs ++ v ∷ []) (moved h (list s) a v) (told (event s.t i))
    offer store now = record {
      before = vs;
      at = a;
      leads = runs;
      offers = offers store now;
      does = v;
      decodes = at;
      acts = doing;
      stands = stand;
      stores_it = wet store;
      late = waits s h i v e store passed now (placed s.image h (list s) (opening_bytes s.image) a v doing (wet store));
      rest = [];
      onward = runs-none (moved h (list s) a v);
      joined = refl;
    }

known_start : (x : List ℕ) (r : ℕ) → r < length x → is_some (get_or (map (λ v. Some v) x) r None) ≡ true
known_start [] r l = absurd (omega (arith, l))
known_start (v ∷ x) zero l = refl
known_start (v ∷ x) (suc r) l = known_start x r (omega (arith, l))

pub follows_start : (s : Setting) (h : ℕ) (start : Hart) → length start.x ≡ 32 → Follows s h 0 None (run_start start) start
follows_start s h start size = record {
  lags = runs_start start;
  small = length-map start.x (λ (v : ℕ). Some v) ∙ size;
  size = size;
  known = λ r l low. by_test (r == 0) r l;
  kinds = refl;
  carried = refl;
  touched = λ x. refl;
  seen = λ b x u l here reads source. omega arith;
  own = λ x. λ v l here wet. omega (arith, l);
  holds = refl;
  reserving = λ span is. absurd (cc);
}
  where
    by_test : (b : Bool) (r : ℕ) → r < 32 → is_some (if b then Some 0 else get_or (map (λ v. Some v) start.x) r None) ≡ true
    by_test true r l = refl
    by_test false r l = known_start start.x r (omega (arith, l, size))

-- where all is known, no register hangs on what is LATER
pub knows_all : (s : Setting) (h i : ℕ) (held : Option Span) (a : RunState) (k : Hart) → Follows s h i held a k → Total s → KnowsRegisters a
knows_all s h i held a k f total r l = f.known r l
    (let b = (carried_below (timed s.n s.t s.g) (timed_rises s.n s.t s.g) s.is s.t (order_position s.g) s.fit h i).registers r l in
    let t = total (reg (carried_before (λ j. order_position s.g j + 1) s.is s.t h i).registers r) in
    let c : reg a.carried.registers r ≡ reg (carried_at_index s h i).registers r = ap (λ (x : Carried). reg x.registers r) f.carried in
    omega (arith, b, t, c))

-- what a run puts out where its registers are known is what its hart does
puts_same : (instr : Instr) (v : List (Option ℕ)) (x : List ℕ) → view v 17 ≡ Some (reg x 17) → view v 10 ≡ Some (reg x 10) → puts_out v instr ≡ map (λ n. Some n) (put_in instr x)
puts_same Ecall v x a b = ap (λ (o : Option ℕ). put_byte o (view v 10)) a ∙ ap (λ (o : Option ℕ). put_byte (Some (reg x 17)) o) b ∙ by_test (reg x 17 == 1)
  where
    by_test : (b : Bool) → (if b then Some (reg x 10 % 2 ^ 8) ∷ [] else []) ≡ map (λ n. Some n) (if b then reg x 10 % 2 ^ 8 ∷ [] else [])
    by_test true = refl
    by_test false = refl
puts_same _ v x a b = refl

view_is : (v : List (Option ℕ)) (x : List ℕ) (r : ℕ) → ((n : ℕ) → view v r ≡ Some n → reg x r ≡ n) → is_some (view v r) ≡ true → view v r ≡ Some (reg x r)
view_is v x r refines some = by_view (view v r) refl some
  where
    by_view : (o : Option ℕ) → view v r ≡ o → is_some o ≡ true → view v r ≡ Some (reg x r)
    by_view None e s = absurd (cc)
    by_view (Some n) e s = e ∙ ap (λ (m : ℕ). Some m) (sym (refines n e))

pub puts_of_run : (instr : Instr) (a : RunState) (k : Hart) → Refines a.registers k.x → KnowsRegisters a → puts_out a.registers instr ≡ map (λ n. Some n) (put_in instr k.x)
puts_of_run instr a k refines knows = puts_same instr a.registers k.x (view_is a.registers k.x 17 (refines 17) (knows 17 (omega arith))) (view_is a.registers k.x 10 (refines 10) (knows 10 (omega arith)))

did_runs : (image : Memory) (own : Option Span) (h g : Hart) (i : Instr) (access : Option Access) → h.stop ≡ None → Did image own h g i access → g.stop ≡ None
did_runs image own h g i access r (did-put rd v is e) = ap (λ (k : Hart). k.stop) e ∙ r
did_runs image own h g i access r (did-jump rd target is even e) = ap (λ (k : Hart). k.stop) e ∙ r
did_runs image own h g i access r (did-branch taken target is even e) = ap (λ (k : Hart). k.stop) e ∙ r
did_runs image own h g i access r (did-read rd x v w signed is safe fill e) = ap (λ (k : Hart). k.stop) e ∙ r
did_runs image own h g i access r (did-write x v w is safe e) = ap (λ (k : Hart). k.stop) e ∙ r
did_runs image own h g i access r (did-order before after mode is e) = ap (λ (k : Hart). k.stop) e ∙ r
did_runs image own h g i access r (did-reserve rd x v w o is safe fill e) = ap (λ (k : Hart). k.stop) e ∙ r
did_runs image own h g i access r (did-fail rd x v w o is safe e) = ap (λ (k : Hart). k.stop) e ∙ r
did_runs image own h g i access r (did-succeed rd x v w o is safe holds e) = ap (λ (k : Hart). k.stop) e ∙ r
did_runs image own h g i access r (did-exchange rd x old w m o is safe fill e) = ap (λ (k : Hart). k.stop) e ∙ r
did_runs image own h g i access r (did-call answer is nonzero answered e) = ap (λ (k : Hart). k.stop) e ∙ r

-- ---- a step of the hart itself

step_moves : (s : Setting) (h i : ℕ) (held : Option Span) (a : RunState) (k j : Hart) (instr : Instr) (access : Option Access) → Follows s h i held a k → (event s.t i).hart ≡ h →
    slice_index_or s.is i Ecall ≡ instr → Did s.image held k j instr access → (event s.t i).access ≡ unwrap_or access no_access → MovesOrBlocks s h i a k j instr
step_moves s h i held a k j instr access f here inst (did-put rd v is g) e = put_moves s h i held a k j instr f here inst rd v e is g
step_moves s h i held a k j instr access f here inst (did-jump rd target is even g) e = jump_moves s h i held a k j instr f here inst rd target e is even g
step_moves s h i held a k j instr access f here inst (did-branch taken target is even g) e = branch_moves s h i held a k j instr f here inst taken target e is even g
step_moves s h i held a k j instr access f here inst (did-read rd x v w signed is safe fill g) e = read_moves s h i held a k j instr f here inst rd x v w signed e is safe fill g
step_moves s h i held a k j instr access f here inst (did-write x v w is safe g) e = write_moves s h i held a k j instr f here inst x v w e is safe g
step_moves s h i held a k j instr access f here inst (did-order before after mode is g) e = order_moves s h i held a k j instr f here inst before after mode e is g
step_moves s h i held a k j instr access f here inst (did-reserve rd x v w o is safe fill g) e = reserve_moves s h i held a k j instr f here inst rd x v w o e is safe fill g
step_moves s h i held a k j instr access f here inst (did-fail rd x v w o is safe g) e = fail_moves s h i held a k j instr f here inst rd x v w o e is safe g
step_moves s h i held a k j instr access f here inst (did-succeed rd x v w o is safe holds g) e = succeed_moves s h i held a k j instr f here inst rd x v w o e is safe holds g
step_moves s h i held a k j instr access f here inst (did-exchange rd x old w m o is safe fill g) e = exchange_moves s h i held a k j instr f here inst rd x old w m o e is safe fill g
step_moves s h i held a k j instr access f here inst (did-call answer is nonzero answered g) e = call_moves s h i held a k j instr f here inst answer e is nonzero answered g

pub harts_stay : (image : Memory) (p q : Standing) → Executes image p q → length q.harts ≡ length p.harts
harts_stay image p q (begins _) = refl
harts_stay image p q (goes i _ u _ x z) = ap length z.harts ∙ length-set u.harts i z.after ∙ harts_stay image p u x
harts_stay image p q (stops i _ u _ x z) = ap length z.harts ∙ length-set u.harts i z.after ∙ harts_stay image p u x

below_test : (a b : ℕ) → a < b → nat_lt a b ≡ true
below_test a b l = grind (arith, nat_tests)

drop_length : (xs ys : List ℕ) → drop (length xs) (xs ++ ys) ≡ ys
drop_length [] ys = refl
drop_length (x ∷ xs) ys = drop_length xs ys

put_short : (c : ConsoleState) (i : Instr) (x : List ℕ) → length (put_at c i x) ≤ 1
put_short c i x = by_room (nat_lt (length c.output) output_room) i
  where
    by_one : (b : Bool) (m : ℕ) → length (if b then m ∷ [] else []) ≤ 1
    by_one true m = omega arith
    by_one false m = omega arith

    by_room : (b : Bool) (i : Instr) → length (if b then put_in i x else []) ≤ 1
    by_room true Ecall = by_one (reg x 17 == 1) (reg x 10 % 2 ^ 8)
    by_room true _ = omega arith
    by_room false i = omega arith

console_grows : (image : Memory) (p q : Standing) → Executes image p q → length q.console.output + length p.events ≤ length p.console.output + length q.events
console_grows image p q (begins _) = omega arith
console_grows image p q (goes i _ u _ x z) =
    let r = console_grows image p u x in
    let o = ap length (step_puts image q.round (own_held i u.events) u.console q.console z.before z.after z.access z.instruction z.step z.decodes)
    ∙ length-append u.console.output (put_at u.console z.instruction z.before.x) in
    let s = put_short u.console z.instruction z.before.x in
    let e = ap length z.events ∙ length-append u.events (z.event ∷ []) in
    omega (arith, r, o, s, e)
console_grows image p q (stops i _ u _ x z) =
    let r = console_grows image p u x in
    let o : length q.console.output ≡ length u.console.output =
    ap (λ (c : ConsoleState). length c.output) (z.step.console ∙ stopped_console q.round z.before z.step.seen u.console z.step.held z.code z.step.answers) in
    let e = ap length z.events in
    omega (arith, r, o, e)

-- an execution, an order, how many stores are known, a hart and what it began as
module _ (image : Memory) (q : Standing) (g : List ℕ) (n : ℕ) (fit : (i : ℕ) → AreRegisters (registers_at q.instructions i)) (meets : Allows (opening_bytes image) q g)
    (many : length (stores_of n q.events g) ≡ n) (h : ℕ) (first : Hart) (base : ℕ) (room : base + length q.events ≤ output_room) where
  abbrev pub the : Setting
  the = record { image = image; is = q.instructions; t = q.events; g = g; n = n; fit = fit; meets = meets; many = many }

  abbrev pub On : ℕ → Option Span → List ℕ → Hart → Type 0
  On i held out k = Stuck the q h first ⊎ Going the q h first i held out k

  own_step : (i : ℕ) (held : Option Span) (out : List ℕ) (k j : Hart) (instr : Instr) (w : Going the q h first i held out k) → j.stop ≡ None → i ≤ length q.events →
      (event q.events i).hart ≡ h → slice_index_or q.instructions i Ecall ≡ instr →
      decoded image k.pc ≡ Some instr → MovesOrBlocks the h i w.state k j instr →
      (is_store (event q.events i) ≡ true → time the i ≡ n → Offers image h (list the) (opening_bytes image) w.state (told (event q.events i))) →
      On (suc i) (held_after_own (event q.events i).access held) (out ++ put_in instr k.x) j
  own_step i held out k j instr w running small here inst decodes next offers = elim next [
    | inl m ↦ inr (record {
      moves = w.moves ++ m.move ∷ [];
      state = moved h (list the) w.state m.move;
      runs = runs-more (run_start first) w.state w.moves m.move w.runs (at ∙ ap (λ (x : Instr). Some x) (sym m.instruction)) m.acts m.stands;
      are = moves-own i w.moves m.move w.are here (record { instruction = m.instruction ∙ sym inst; access = m.matches.access; time = m.matches.passed });
      follows = follows_own the h i w.state k j m.move m.matches held w.follows;
      so_far = so_far_own the h first i w.moves m.move w.state m.matches.access m.matches.listed offers m.matches.passed
          (at ∙ ap (λ (x : Instr). Some x) (sym m.instruction)) m.acts m.stands w.runs w.so_far;
      output = λ total. ap (λ (o : List (Option ℕ)). o ++ puts_out w.state.registers m.move.instruction) (w.output total)
          ∙ ap (λ (y : Instr). map (λ n. Some n) out ++ puts_out w.state.registers y) m.instruction
          ∙ ap (λ (o : List (Option ℕ)). map (λ n. Some n) out ++ o) (puts_of_run instr w.state k w.follows.lags.registers (knows_all the h i held w.state k w.follows total))
          ∙ sym (map-append (λ n. Some n) out (put_in instr k.x));
      halting = inl running;
    })
    | inr b ↦ inl (record { index = i; within = small; moves = w.moves; state = w.state; runs = w.runs; are = w.are; so_far = w.so_far; known = knows_all the h i held w.state k w.follows; kinds = w.follows.kinds; carried = w.follows.carried; touched = w.follows.touched; breaks = blocked b })
  ]
    where
      at : decoded image w.state.pc ≡ Some instr
      at = ap (decoded image) w.follows.lags.pc ∙ decodes

      blocked : Blocked the i w.state instr → (IsUnknown image w.state × StoresLater n h q g i) ⊎ IsOpenCall image w.state
      blocked (blocked-target steers unknown late dry) =
          inl (unknown-target instr at steers unknown, target_later the h i held w.state k instr w.follows here (registers_are the i instr inst) steers late dry)
      blocked (blocked-address unknown late) =
          inl (unknown-address instr at unknown, address_later the h i held w.state k instr w.follows here (registers_are the i instr inst) late)
      blocked (blocked-call ecall unknown) = inr (at ∙ ap (λ (x : Instr). Some x) ecall, unknown)

  on_other : (i : ℕ) (held : Option Span) (out : List ℕ) (k : Hart) → (event q.events i).hart ≢ h → On i held out k → On (suc i) held out k
  on_other i held out k other on = elim on [
    | inl stuck ↦ inl stuck
    | inr w ↦ inr (record { moves = w.moves; state = w.state; runs = w.runs; are = moves-other i w.moves w.are other; follows = follows_other the h i held w.state k other w.follows; so_far = so_far_other the h first i w.moves w.state other w.so_far; output = w.output; halting = w.halting })
  ]

  on_own : (i : ℕ) (held : Option Span) (out : List ℕ) (k j : Hart) (instr : Instr) (access : Option Access) → i ≤ length q.events → (event q.events i).hart ≡ h →
      slice_index_or q.instructions i Ecall ≡ instr →
      decoded image k.pc ≡ Some instr → Did image held k j instr access → (event q.events i).access ≡ unwrap_or access no_access → k.stop ≡ None → On i held out k →
      On (suc i) (held_after_own (event q.events i).access held) (out ++ put_in instr k.x) j
  on_own i held out k j instr access small here inst decodes did e running on = elim on [
    | inl stuck ↦ inl stuck
    | inr w ↦ own_step i held out k j instr w (did_runs image held k j instr access running did) small here inst decodes (step_moves the h i held w.state k j instr access w.follows here inst did e)
        (λ store now. step_offers the h i held w.state k j instr w.follows here inst (ap (decoded image) w.follows.lags.pc ∙ decodes) now store access did e)
  ]

  on_stopped : (i : ℕ) (held : Option Span) (out : List ℕ) (k j : Hart) (round code : ℕ) (own : Option Span) (c d : ConsoleState) → IsStep image round own c d k j (Stopped code) →
      On i held out k → On i held out j
  on_stopped i held out k j round code own c d step on = elim on [
    | inl stuck ↦ inl stuck
    | inr w ↦ inr (record {
      moves = w.moves;
      state = w.state;
      runs = w.runs;
      are = w.are;
      follows = record {
        lags = record { pc = w.follows.lags.pc ∙ sym rests.1; registers = subst (Refines w.state.registers) (sym rests.0) w.follows.lags.registers };
        small = w.follows.small;
        size = ap length rests.0 ∙ w.follows.size;
        known = w.follows.known;
        kinds = w.follows.kinds;
        carried = w.follows.carried;
        touched = w.follows.touched;
        seen = w.follows.seen;
        own = w.follows.own;
        holds = w.follows.holds;
        reserving = w.follows.reserving;
      };
      so_far = w.so_far;
      output = w.output;
      halting = inr (by_stop j.stop refl rests.2 w.state w.follows.lags);
    })
  ]
    where
      rests : (j.x ≡ k.x) × (j.pc ≡ k.pc) × (is_some j.stop ≡ true)
      rests = stop_rests image round own c d k j code step

      by_stop : (o : Option Stop) → j.stop ≡ o → is_some o ≡ true → (a : RunState) → Lags a k → (stop : Stop) × (j.stop ≡ Some stop) × Halts image a stop
      by_stop None e some a lags = absurd (cc)
      by_stop (Some stop) e some a lags =
          (stop, e, record { hart = k; lags = lags; round = round; own = own; before = c; behind = d; after = j; code = code; step = step; stopped = e })

  -- ---- along the execution

  abbrev pub hart_of : Standing → Hart
  hart_of p = get_or p.harts h first

  abbrev pub After : Standing → List ℕ → Type 0
  After p out = On (length p.events) (own_held h p.events) out (hart_of p)

  same_place : (p u : Standing) (out : List ℕ) (j : Hart) → length p.events ≡ length u.events → own_held h p.events ≡ own_held h u.events → hart_of p ≡ j →
      On (length u.events) (own_held h u.events) out j → After p out
  same_place p u out j l o k on =
      subst (λ (i : ℕ). On i (own_held h p.events) out (hart_of p)) (sym l)
      (subst (λ (y : Option Span). On (length u.events) y out (hart_of p)) (sym o) (subst (λ (y : Hart). On (length u.events) (own_held h u.events) out y) (sym k) on))

  next_place : (p u : Standing) (e : Event) (held : Option Span) (out more : List ℕ) (j : Hart) → p.events ≡ u.events ++ e ∷ [] → own_held h p.events ≡ held →
      hart_of p ≡ j → out ≡ more →
      On (suc (length u.events)) held out j → After p more
  next_place p u e held out more j is o k same on =
      let l : length p.events ≡ suc (length u.events) = let a = ap length is ∙ length-append u.events (e ∷ []) in omega (arith, a) in
      subst (λ (i : ℕ). On i (own_held h p.events) more (hart_of p)) (sym l)
      (subst (λ (y : Option Span). On (suc (length u.events)) y more (hart_of p)) (sym o) (subst (λ (y : Hart). On (suc (length u.events)) held more y) (sym k)
      (subst (λ (y : List ℕ). On (suc (length u.events)) held y j) same on)))

  one_goes : (i : ℕ) (u p : Standing) (rest : List Event) (more : List Instr) (out : List ℕ) → q.events ≡ p.events ++ rest → q.instructions ≡ p.instructions ++ more →
      length u.instructions ≡ length u.events →
      h < length u.harts → length u.console.output ≤ base + length u.events → Goes image i u p → After u out →
      After p (out ++ (if i == h then drop (length u.console.output) p.console.output else []))
  one_goes i u p rest more out es is even small bound z on = elim (cases_eq i h) [
    | inr other ↦ next_place p u z.event (own_held h u.events) out (out ++ (if i == h then drop (length u.console.output) p.console.output else [])) (hart_of u) z.events
        (ap (own_held h) z.events ∙ own_more h None u.events z.event ∙ cond-false (z.event.hart == h) _ _ (ne_eqb z.event.hart h (λ e. other (sym z.event_of.hart ∙ e))))
        (ap (λ (hs : List Hart). get_or hs h first) z.harts ∙ get_or-set_other u.harts i h z.after first (λ e. other (sym e)))
        (sym (append-nil out) ∙ ap (λ (o : List ℕ). out ++ o) (sym (cond-false (i == h) (drop (length u.console.output) p.console.output) [] (ne_eqb i h other))))
        (on_other (length u.events) (own_held h u.events) out (hart_of u) (λ e. other (sym z.event_of.hart ∙ sym hart_is ∙ e)) on)
    | inl here ↦
        let before : z.before ≡ hart_of u = z.there ∙ get_or_default u.harts i z.before first z.within ∙ ap (λ (y : ℕ). get_or u.harts y first) here in
        let did : Did image (own_held h u.events) z.before z.after z.instruction z.access =
        step_did image p.round (own_held h u.events) u.console p.console z.before z.after z.access z.instruction
        (subst (λ (y : ℕ). IsStep image p.round (own_held y u.events) u.console p.console z.before z.after (Done z.access)) here z.step) z.decodes has_room in
        let puts = step_puts image p.round (own_held i u.events) u.console p.console z.before z.after z.access z.instruction z.step z.decodes
        ∙ ap (λ (o : List ℕ). u.console.output ++ o) (cond-true (nat_lt (length u.console.output) output_room) (put_in z.instruction z.before.x) [] has_room) in
        let added : put_in z.instruction (hart_of u).x ≡ (if i == h then drop (length u.console.output) p.console.output else []) =
        ap (λ (y : Hart). put_in z.instruction y.x) (sym before) ∙ sym (cond-true (i == h) (drop (length u.console.output) p.console.output) [] (eq-eqb i h here)
        ∙ ap (λ (o : List ℕ). drop (length u.console.output) o) puts ∙ drop_length u.console.output (put_in z.instruction z.before.x)) in
        next_place p u z.event (held_after_own (event q.events (length u.events)).access (own_held h u.events)) (out ++ put_in z.instruction (hart_of u).x)
        (out ++ (if i == h then drop (length u.console.output) p.console.output else [])) z.after z.events
        (ap (own_held h) z.events ∙ own_more h None u.events z.event ∙ cond-true (z.event.hart == h) _ _ (eq-eqb z.event.hart h (z.event_of.hart ∙ here))
        ∙ ap (λ (y : Event). held_after_own y.access (own_held h u.events)) (sym event_is))
        (ap (λ (hs : List Hart). get_or hs h first) z.harts ∙ ap (λ (y : ℕ). get_or (slice_set u.harts y z.after) h first) here ∙ get_or-set_same u.harts h z.after first small)
        (ap (λ (o : List ℕ). out ++ o) added)
        (on_own (length u.events) (own_held h u.events) out (hart_of u) z.after z.instruction z.access inside (hart_is ∙ z.event_of.hart ∙ here) inst_is
        (ap (λ (y : Hart). decoded image y.pc) (sym before) ∙ z.decodes)
        (subst (λ (y : Hart). Did image (own_held h u.events) y z.after z.instruction z.access) before did)
        (ap (λ (y : Event). y.access) event_is ∙ z.event_of.access) (ap (λ (y : Hart). y.stop) (sym before) ∙ z.step.runs) on)
  ]
    where
      below : length u.events < length q.events
      below =
          let a = ap length (es ∙ ap (λ (t : List Event). t ++ rest) z.events) in
          let b = length-append (u.events ++ z.event ∷ []) rest in
          let c = length-append u.events (z.event ∷ []) in
          omega (arith, a, b, c)

      inside : length u.events ≤ length q.events
      inside = let l = below in omega (arith, l)

      has_room : nat_lt (length u.console.output) output_room ≡ true
      has_room = let l = below in below_test (length u.console.output) output_room (omega (arith, l, bound, room))

      event_is : event q.events (length u.events) ≡ z.event
      event_is =
          ap (λ (t : List Event). event t (length u.events)) (es ∙ ap (λ (t : List Event). t ++ rest) z.events ∙ append_assoc u.events (z.event ∷ []) rest)
          ∙ get_or-append_seam u.events z.event rest no_event

      hart_is : (event q.events (length u.events)).hart ≡ z.event.hart
      hart_is = ap (λ (y : Event). y.hart) event_is

      inst_is : slice_index_or q.instructions (length u.events) Ecall ≡ z.instruction
      inst_is =
          ap (λ (y : ℕ). slice_index_or q.instructions y Ecall) (sym even)
          ∙ ap (λ (t : List Instr). slice_index_or t (length u.instructions) Ecall) (is ∙ ap (λ (t : List Instr). t ++ more) z.instructions ∙ append_assoc u.instructions (z.instruction ∷ []) more)
          ∙ get_or-append_seam u.instructions z.instruction more Ecall

  one_stops : (i : ℕ) (u p : Standing) (out : List ℕ) → h < length u.harts → Stops image i u p → After u out → After p out
  one_stops i u p out small z on = elim (cases_eq i h) [
    | inr other ↦ same_place p u out (hart_of u) (ap length z.events) (ap (own_held h) z.events)
        (ap (λ (hs : List Hart). get_or hs h first) z.harts ∙ get_or-set_other u.harts i h z.after first (λ e. other (sym e))) on
    | inl here ↦
        let before : z.before ≡ hart_of u = z.there ∙ get_or_default u.harts i z.before first z.within ∙ ap (λ (y : ℕ). get_or u.harts y first) here in
        same_place p u out z.after (ap length z.events) (ap (own_held h) z.events)
        (ap (λ (hs : List Hart). get_or hs h first) z.harts ∙ ap (λ (y : ℕ). get_or (slice_set u.harts y z.after) h first) here ∙ get_or-set_same u.harts h z.after first small)
        (on_stopped (length u.events) (own_held h u.events) out (hart_of u) z.after p.round z.code (own_held i u.events) u.console p.console
        (subst (λ (y : Hart). IsStep image p.round (own_held i u.events) u.console p.console y z.after (Stopped z.code)) before z.step) on)
  ]

  walk : (start p : Standing) (e : Executes image start p) → After start [] → length start.instructions ≡ length start.events → length start.events ≡ 0 →
      length start.console.output ≤ base → h < length start.harts →
      (rest : List Event) (more : List Instr) → q.events ≡ p.events ++ rest → q.instructions ≡ p.instructions ++ more → After p (own_output image start p h e)
  walk start p (begins _) on even none put small rest more es is = on
  walk start p (goes i _ u _ x z) on even none put small rest more es is =
      one_goes i u p rest more (own_output image start u h x) es is (executes_even image start u x even) (subst (λ (y : ℕ). h < y) (sym (harts_stay image start u x)) small)
      (let b = console_grows image start u x in omega (arith, b, none, put)) z
      (walk start u x on even none put small (z.event ∷ rest) (z.instruction ∷ more)
      (es ∙ ap (λ (t : List Event). t ++ rest) z.events ∙ append_assoc u.events (z.event ∷ []) rest)
      (is ∙ ap (λ (t : List Instr). t ++ more) z.instructions ∙ append_assoc u.instructions (z.instruction ∷ []) more))
  walk start p (stops i _ u _ x z) on even none put small rest more es is =
      one_stops i u p (own_output image start u h x) (subst (λ (y : ℕ). h < y) (sym (harts_stay image start u x)) small) z
      (walk start u x on even none put small rest more (es ∙ ap (λ (t : List Event). t ++ rest) z.events) (is ∙ ap (λ (t : List Instr). t ++ more) z.instructions))

  factor_of : (k : Hart) (out : List ℕ) → k ≡ get_or q.harts h k → h < length q.harts → After q out → Factor image n h q g first k
  factor_of k out at small on = elim on [
    | inl w ↦ record {
      index = w.index;
      moves = w.moves;
      state = w.state;
      runs = w.runs;
      are_moves = w.are;
      comes_to = elim w.breaks [ inl b ↦ comes-to-unknown b.0 b.1 | inr b ↦ comes-to-call b ];
    }
    | inr w ↦ record {
      index = length q.events;
      moves = w.moves;
      state = w.state;
      runs = w.runs;
      are_moves = w.are;
      comes_to = comes-to-end refl (subst (Lags w.state) (get_or_default q.harts h first k small ∙ sym at) w.follows.lags);
    }
  ]

-- along all of an execution
pub all_along : (image : Memory) (hs : List Hart) (c : ConsoleState) (q : Standing) (g : List ℕ) (e : Executes image (at_start hs c) q) (meets : Allows (opening_bytes image) q g) (room : HasRoom c q)
    (n h : ℕ) (first : Hart) (many : length (stores_of n q.events g) ≡ n) → h < length hs → first ≡ get_or hs h first → IsFresh first →
    After image q g n (all_registers_are image hs c q e) meets many h first (length c.output) room q (own_output image (at_start hs c) q h e)
all_along image hs c q g e meets room n h first many small at fresh =
    let fit = all_registers_are image hs c q e in
    let begun : Going (the image q g n fit meets many h first (length c.output) room) q h first 0 None [] first = record {
      moves = [];
      state = run_start first;
      runs = runs-none (run_start first);
      are = moves-none;
      follows = follows_start (the image q g n fit meets many h first (length c.output) room) h first fresh.registers;
      so_far = record { paid = λ w l wh store early. absurd (omega (arith, l)); offered = λ w l wh store now. absurd (omega (arith, l)) };
      output = λ total. refl;
      halting = inl fresh.runs;
    } in
    walk image q g n fit meets many h first (length c.output) room (at_start hs c) q e
    (inr (subst (λ (y : Hart). Going (the image q g n fit meets many h first (length c.output) room) q h first 0 None [] y) at begun)) refl refl (omega arith) small [] [] (sym (append-nil q.events)) (sym (append-nil q.instructions))

pub factorizes : Factorizes
factorizes image hs c q g e meets room n h first k many small at fresh here =
    let stay : length q.harts ≡ length hs = harts_stay image (at_start hs c) q e in
    factor_of image q g n (all_registers_are image hs c q e) meets many h first (length c.output) room k (own_output image (at_start hs c) q h e) here (omega (arith, small, stay))
    (all_along image hs c q g e meets room n h first many small at fresh)
