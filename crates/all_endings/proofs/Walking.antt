-- Places that are walked cover the runs.
use Rattle.std.proofs.Common.{◌≡◌, ℕ, ◌+◌, ◌<◌, ◌≤◌, ◌==◌, ◌&&◌, ◌⊎◌, zero, suc, true, List, [], ◌∷◌, ◌++◌, length, map, get_or, Contains, Option, Some, None, refl, sym, ap, ◌∙◌, subst, inl, inr, arith, is_some}
use Rattle.all_endings.proofs.Closing.{hart_in}
use Rattle.all_endings.proofs.Sources.{both}
use Rattle.std.proofs.Math.Seq.{get_or-append_seam}
use Rattle.std.proofs.lemmas.Bool.{cases_lt, eq-eqb}
use Rattle.std.proofs.lemmas.List.{append-nil, append_assoc, get_or_append_left, length-append}
use Rattle.pages.specs.declared.access.Range.{Range}
use Rattle.pages.specs.Memory.{Memory}
use Rattle.round_schedule.specs.declared.span.Span.{Span}
use Rattle.round_schedule.specs.Accesses.{stores as writing}
use Rattle.hart_step.specs.declared.hart.Hart.{Hart}
use Rattle.hart_step.specs.declared.hart.Stop.{Stop}
use Rattle.hart_step.specs.DecodedCode.{decoded}
use Rattle.memory_order.proofs.Facts.{or_left, or_right}
use Rattle.all_endings.specs.Endings.{Ending, opening_bytes}
use Rattle.all_endings.specs.Factorizing.{IsOpenCall}
use Rattle.all_endings.specs.Halting.{Halts, KnowsRegisters}
use Rattle.all_endings.specs.HartRuns.{IsPlaced, Runs, runs-more, runs-none, Acts, Stands}
use Rattle.all_endings.specs.Locality.{Refines, view}
use Rattle.all_endings.specs.Lowering.{IsLower, OwnAtMost, is_held, own-both, own-none}
use Rattle.all_endings.specs.Offering.{IsClosed, IsOffered, Pays}
use Rattle.all_endings.specs.RunStates.{Move, OwnByte, RunState, moved, run_start, operates}
use Rattle.all_endings.specs.StoreLists.{Stored}
use Rattle.all_endings.specs.Tables.{HartsEnd, HasEndings, IsSettled}
use Rattle.all_endings.specs.Walking.{AreEndsOf, EndsAt, HartEnding, IsLookedThrough, IsWalked, Place, WalkedTablesAreWhole, seen_after}
use Rattle.all_endings.proofs.DecodedRegisters.{decoded_fits}
use Rattle.all_endings.proofs.Factors.{Paid}
use Rattle.all_endings.proofs.Lowering.{acts_low, lower_do_as_much, moved_low, stands_low}
use Rattle.all_endings.proofs.Tables.{nodes_whole}
use Rattle.all_endings.proofs.Placing.{runs_behind}

-- ---- lower than lower

own_on : (o p q : Option OwnByte) → OwnAtMost o p → OwnAtMost p q → OwnAtMost o q
own_on _ _ q own-none r = r
own_on _ _ q (own-both o p place byte atomic needs) r = by_other q r
  where
    by_other : (q : Option OwnByte) → OwnAtMost (Some p) q → OwnAtMost (Some o) q
    by_other _ (own-both _ u place2 byte2 atomic2 needs2) = own-both o u (place ∙ place2) (byte ∙ byte2) (atomic ∙ atomic2) (omega (arith, needs, needs2))

at_most : (u v w : ℕ) → u ≤ v → v ≤ w → u ≤ w
at_most u v w l m = omega (arith, l, m)

pub lower_on : (a b c : RunState) → IsLower a b → IsLower b c → IsLower a c
lower_on a b c l m = record {
  pc = l.pc ∙ m.pc;
  registers = l.registers ∙ m.registers;
  kinds = record {
    loads = at_most _ _ _ l.kinds.loads m.kinds.loads;
    stores = at_most _ _ _ l.kinds.stores m.kinds.stores;
    acquires = at_most _ _ _ l.kinds.acquires m.kinds.acquires;
    annotated = at_most _ _ _ l.kinds.annotated m.kinds.annotated;
    load_load = at_most _ _ _ l.kinds.load_load m.kinds.load_load;
    load_store = at_most _ _ _ l.kinds.load_store m.kinds.load_store;
    store_load = at_most _ _ _ l.kinds.store_load m.kinds.store_load;
    store_store = at_most _ _ _ l.kinds.store_store m.kinds.store_store;
  };
  carried = record {
    small = l.carried.small;
    size = m.carried.size;
    registers = λ r s. at_most _ _ _ (l.carried.registers r s) (m.carried.registers r s);
    steered = at_most _ _ _ l.carried.steered m.carried.steered;
    addressed = at_most _ _ _ l.carried.addressed m.carried.addressed;
  };
  touched = λ x. at_most _ _ _ (l.touched x) (m.touched x);
  seen = λ x. at_most _ _ _ (l.seen x) (m.seen x);
  own = λ x. own_on (a.own x) (b.own x) (c.own x) (l.own x) (m.own x);
  held = l.held ∙ m.held;
  reserved = at_most _ _ _ l.reserved m.reserved;
  sources = λ x s. at_most _ _ _ (m.sources x s) (l.sources x (ap (λ (u : Option Span). is_held u x) m.held ∙ s));
  output = l.output ∙ m.output;
}

-- ---- a place that stands for a run

pub record ForRun (m : List Stored) (p : Place) (vs : List Move) (c : RunState) (chosen : Option Stored) : Type 0 where
  pub state : IsLower p.state c
  pub count : p.count ≤ length vs
  pub paid : (j : ℕ) → j < length m → Paid vs j → p.paid j ≡ true
  pub next : p.next ≡ chosen

paid_split : (vs : List Move) (v : Move) (j : ℕ) → Paid (vs ++ v ∷ []) j → Paid vs j ⊎ ((writing v.access ≡ true) × (v.time ≡ j))
paid_split vs v j p = elim (cases_lt p.1.0 (length vs)) [
  | inl l ↦ inl (p.0, (p.1.0, l, sym (get_or_append_left vs (v ∷ []) p.0 p.1.0 l) ∙ p.1.2), p.2, p.3)
  | inr l ↦
      let size = length-append vs (v ∷ []) in
      let k = p.1.1 in
      let at : p.1.0 ≡ length vs = omega (arith, l, k, size) in
      let same : v ≡ p.0 = sym (get_or-append_seam vs v [] p.0) ∙ ap (λ (i : ℕ). get_or (vs ++ v ∷ []) i p.0) (sym at) ∙ p.1.2 in
      inr (ap (λ (u : Move). writing u.access) same ∙ p.2, ap (λ (u : Move). u.time) same ∙ p.3)
]

module _ (k : ℕ) (image : Memory) (h : ℕ) (m : List Stored) (start : Hart) (offered : List Stored) (ended : List HartEnding) (ps : List Place)
    (walked : IsWalked k image h m start offered ended ps) where
  For : List Move → RunState → Option Stored → Type 0
  For vs c next = (p : Place) × Contains ps p × ForRun m p vs c next

  one_more : (vs : List Move) (c : RunState) (v : Move) (next : Option Stored) → length vs < k → decoded image c.pc ≡ Some v.instruction →
      Acts image h m (opening_bytes image) (IsPlaced h m) c v → (operates v ≡ true → Stands c v) → (p : Place) → Contains ps p → ForRun m p vs c next →
      (q : Place) × Contains ps q × ForRun m q (vs ++ v ∷ []) (moved h m c v) next
  one_more vs c v next l at doing stand p there f =
      let fit = decoded_fits image c.pc v.instruction at in
      let q = walked.moves p v there (let n = f.count in omega (arith, n, l)) (ap (decoded image) f.state.pc ∙ at) (acts_low image h m (opening_bytes image) p.state c v f.state (IsPlaced h m) doing)
      (λ op. stands_low image h m (opening_bytes image) p.state c v f.state fit (stand op)) in (
        q.0,
        q.1,
        record {
          state = lower_on q.0.state (moved h m p.state v) (moved h m c v) q.2.state (moved_low image h m (opening_bytes image) p.state c v f.state fit);
          count = (let a = q.2.count in let b = f.count in let size = length-append vs (v ∷ []) in omega (arith, a, b, size));
          paid = λ j small paid. elim (paid_split vs v j paid) [
            | inl old ↦ q.2.paid j small (or_left (p.paid j) (writing v.access && v.time == j) (f.paid j small old))
            | inr new ↦ q.2.paid j small (or_right (p.paid j) (writing v.access && v.time == j) (both (writing v.access) (v.time == j) new.0 (eq-eqb v.time j new.1)))
          ];
          next = q.2.next ∙ f.next;
        },
      )

  along : (a : RunState) (us : List Move) (next : Option Stored) → (p : Place) → Contains ps p → ForRun m p us a next → (vs : List Move) (c : RunState) →
      Runs image h m (opening_bytes image) a vs c →
      length us + length vs ≤ k → (q : Place) × Contains ps q × ForRun m q (us ++ vs) c next
  along a us next p there f _ _ (runs-none _) short = (p, there, subst (λ (ws : List Move). ForRun m p ws a next) (sym (append-nil us)) f)
  along a us next p there f _ _ (runs-more _ c vs v r at doing stand) short =
      let size = length-append vs (v ∷ []) in
      let joined = length-append us vs in
      let q = along a us next p there f vs c r (omega (arith, short, size)) in
      let w = one_more (us ++ vs) c v next (omega (arith, short, size, joined)) at doing stand q.0 q.1 q.2 in
      (w.0, w.1, subst (λ (ws : List Move). ForRun m w.0 ws (moved h m c v) next) (append_assoc us vs (v ∷ [])) w.2)

  first_for : (q : Place) × Contains ps q × ForRun m q [] (run_start start) None
  first_for =
      let b = walked.begins in
      (b.0, b.1, record { state = b.2.state; count = b.2.count; paid = λ j small p. absurd (let l = p.1.1 in omega (arith, l)); next = b.2.next })

  pub from_start : (vs : List Move) (c : RunState) → Runs image h m (opening_bytes image) (run_start start) vs c → length vs ≤ k → (q : Place) × Contains ps q × ForRun m q vs c None
  from_start vs c r short = let b = first_for in along (run_start start) [] None b.0 b.1 b.2 vs c r (omega (arith, short))

  pub offered_all : (s : Stored) → IsOffered k image h m (opening_bytes image) start s → Contains offered s
  offered_all s o =
      let joined = length-append o.before (o.next ∷ o.rest) in
      let short = o.short in
      let p = from_start o.before o.at o.leads (omega (arith, joined, short)) in
      let offers = (lower_do_as_much image h m (opening_bytes image) p.0.state o.at p.2.state).1 s o.offers in
      elim (walked.offers p.0 s p.1 p.2.next offers) [
        | inl here ↦ here
        | inr w ↦
            let chosen : ForRun m w.0 o.before o.at (Some s) = record {
              state = lower_on w.0.state p.0.state o.at w.2.state p.2.state;
              count = (let a = w.2.count in let b = p.2.count in omega (arith, a, b));
              paid = λ j small paid. w.2.paid j small (p.2.paid j small paid);
              next = w.2.next;
            } in
            let on = runs_behind image h m (opening_bytes image) o.at o.next o.decodes o.acts o.stands o.rest o.state o.runs in
            let q = along o.at o.before (Some s) w.0 w.1 chosen (o.next ∷ o.rest) o.state on (omega (arith, joined, short)) in
            walked.grows q.0 s q.1 q.2.next (λ j l here. q.2.paid j l (let t = o.pays j l here in (t.0, t.1, t.2, t.3)))
      ]

-- ---- together

knows_low : (a b : RunState) → IsLower a b → KnowsRegisters b → KnowsRegisters a
knows_low a b l k = λ r s. subst (λ (x : List (Option ℕ)). is_some (view x r) ≡ true) (sym l.registers) (k r s)

halts_low : (image : Memory) (a b : RunState) (stop : Stop) → IsLower a b → Halts image b stop → Halts image a stop
halts_low image a b stop l x = record {
  hart = x.hart;
  lags = record { pc = l.pc ∙ x.lags.pc; registers = subst (λ (y : List (Option ℕ)). Refines y x.hart.x) (sym l.registers) x.lags.registers };
  round = x.round;
  own = x.own;
  before = x.before;
  behind = x.behind;
  after = x.after;
  code = x.code;
  step = x.step;
  stopped = x.stopped;
}

open_low : (image : Memory) (a b : RunState) → IsLower a b → IsOpenCall image b → IsOpenCall image a
open_low image a b l o = (ap (decoded image) l.pc ∙ o.0, ap (λ (x : List (Option ℕ)). view x 17) l.registers ∙ o.1)

ends_low : (image : Memory) (h : ℕ) (m : List Stored) (p : Place) (vs : List Move) (a : RunState) (stop : Stop) (output : List ℕ) → ForRun m p vs a None → Pays h m vs →
    KnowsRegisters a → IsSettled m a → Halts image a stop → a.output ≡ map (λ (n : ℕ). Some n) output → EndsAt image h m p (record { stop = stop; output = output })
ends_low image h m p vs a stop output f pays knows settled halts puts = record {
  pays = λ j l here. f.paid j l (let t = pays j l here in (t.0, t.1, t.2, t.3));
  knows = knows_low p.state a f.state knows;
  settled = λ x. at_most _ _ _ (f.state.touched x) (settled x);
  halts = halts_low image p.state a stop f.state halts;
  puts = f.state.output ∙ puts;
}

abbrev ending_of_parts : List (Option Stop) → List (List ℕ) → List (List ℕ) → Ending
ending_of_parts ss os seen = record { stops = ss; outputs = os; seen = seen }

each_more : (w : List HartEnding) (ws : List (List HartEnding)) (e : HartEnding) (es : List HartEnding) → Contains w e → AreEndsOf ws es →
    (h : ℕ) (d : HartEnding) → h < length (w ∷ ws) → Contains (get_or (w ∷ ws) h []) (get_or (e ∷ es) h d)
each_more w ws e es here rest zero d l = here
each_more w ws e es here rest (suc h) d l = rest.each h d (omega (arith, l))

pub endings_equal : (ss ts : List (Option Stop)) (os ps seen : List (List ℕ)) → ss ≡ ts → os ≡ ps →
    ending_of_parts ss os seen ≡ ending_of_parts ts ps seen
endings_equal ss ts os ps seen e f = cc

-- ends that there are, one of each hart, as a list
pub choice : (n : ℕ) (ways : List (List HartEnding)) (stops : List (Option Stop)) (outputs : List (List ℕ)) → length ways ≡ n → length stops ≡ n → length outputs ≡ n →
    ((h : ℕ) → h < n → (e : HartEnding) × Contains (get_or ways h []) e × (get_or stops h None ≡ Some e.stop) × (get_or outputs h [] ≡ e.output)) →
    (es : List HartEnding) × AreEndsOf ways es × (map (λ (e : HartEnding). Some e.stop) es ≡ stops) × (map (λ (e : HartEnding). e.output) es ≡ outputs)
choice _ [] [] [] _ _ _ f = ([], record { as_many = refl; each = λ h d l. absurd (omega (arith, l)) }, refl, refl)
choice n [] (s ∷ ss) os e f g at = absurd (cc (e, f))
choice n [] [] (o ∷ os) e f g at = absurd (cc (e, g))
choice n (w ∷ ws) [] os e f g at = absurd (cc (e, f))
choice n (w ∷ ws) (s ∷ ss) [] e f g at = absurd (cc (e, g))
choice n (w ∷ ws) (s ∷ ss) (o ∷ os) e f g at =
    let first = at zero (let k : suc (length ws) ≡ n = e in omega (arith, k)) in
    let rest = choice (length ws) ws ss os refl (let k : suc (length ws) ≡ n = e in let l : suc (length ss) ≡ n = f in omega (arith, k, l))
    (let k : suc (length ws) ≡ n = e in let l : suc (length os) ≡ n = g in omega (arith, k, l))
    (λ h l. at (suc h) (let k : suc (length ws) ≡ n = e in omega (arith, k, l))) in (
      first.0 ∷ rest.0,
      record { as_many = ap (λ (i : ℕ). suc i) rest.1.as_many; each = each_more w ws first.0 rest.0 first.1 rest.1 },
      (let k = first.2 in let l = rest.2 in cc),
      (let k = first.3 in let l = rest.3 in cc),
    )

module _ (k : ℕ) (image : Memory) (hs : List Hart) (see : List Range) (nodes : List (List Stored)) (table : List Ending) (begins : Contains nodes [])
    (looked : (m : List Stored) → Contains nodes m → IsLookedThrough k image hs see nodes table m) where
  closed : IsClosed k image hs (Contains nodes)
  closed = record {
    begins = begins;
    grows = λ m h start s node small at o.
        let l = looked m node in
        let w = l.walks h start small at in
        l.grows h s small (offered_all k image h m start (l.offered h) (get_or l.ways h []) w.0 w.1 s o);
    calls = λ m h start node small at vs a short runs may call.
        let l = looked m node in
        let w = l.walks h start small at in
        let p = from_start k image h m start (l.offered h) (get_or l.ways h []) w.0 w.1 vs a runs short in
        w.1.calls p.0 p.1 (open_low image p.0.state a p.2.state call);
  }

  module _ (m : List Stored) (node : Contains nodes m) where
    end_at : (stops : List (Option Stop)) (outputs : List (List ℕ)) → HartsEnd k image hs m stops outputs → (h : ℕ) → h < length hs →
        (e : HartEnding) × Contains (get_or (looked m node).ways h []) e × (get_or stops h None ≡ Some e.stop) × (get_or outputs h [] ≡ e.output)
    end_at stops outputs ends h small =
        let l = looked m node in
        let start = hart_in hs h small in
        let e = ends.each h start.0 small start.1 in
        let w = l.walks h start.0 small start.1 in
        let p = from_start k image h m start.0 (l.offered h) (get_or l.ways h []) w.0 w.1 e.moves e.state e.runs e.short in (
          record { stop = e.reason; output = get_or outputs h [] },
          w.1.endings p.0 (record { stop = e.reason; output = get_or outputs h [] }) p.1
              (ends_low image h m p.0 e.moves e.state e.reason (get_or outputs h []) p.2 e.pays e.knows e.settled e.halts e.puts),
          e.stops,
          refl,
        )

    has_ending : (stops : List (Option Stop)) (outputs : List (List ℕ)) → HartsEnd k image hs m stops outputs →
        Contains table (record { stops = stops; outputs = outputs; seen = seen_after image see m })
    has_ending stops outputs ends =
        let l = looked m node in
        let c = choice (length hs) l.ways stops outputs l.as_many ends.as_many_stops ends.as_many_outputs (end_at stops outputs ends) in
        subst (λ (e : Ending). Contains table e) (endings_equal _ stops _ outputs (seen_after image see m) c.2 c.3) (l.has c.0 c.1)

  has_endings : HasEndings k image hs see (Contains nodes) table
  has_endings m stops outputs node ends = has_ending m node stops outputs ends

pub walked_whole : WalkedTablesAreWhole
walked_whole k image hs c see nodes table fresh enough begins looked =
    nodes_whole k image hs c see (Contains nodes) table fresh enough (closed k image hs see nodes table begins looked) (has_endings k image hs see nodes table begins looked)
