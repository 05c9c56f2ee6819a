-- Closed lists leave the ending of every execution in a table.
use Rattle.std.proofs.Common.{◌≡◌, ℕ, zero, suc, ◌+◌, ◌*◌, ◌<◌, ◌≤◌, ◌==◌, ◌&&◌, ◌⊎◌, max, Bool, true, false, if◌then◌else◌, List, [], ◌∷◌, length, map, get_or, Contains, Option, Some, None, is_some, refl, sym, ap, ◌∙◌, subst, inl, inr, arith}
use Rattle.std.proofs.lemmas.List.{length-map, length-take, take_all}
use Rattle.pages.specs.declared.access.Range.{Range}
use Rattle.pages.specs.Memory.{Memory}
use Rattle.round_schedule.specs.declared.event.Event.{Event}
use Rattle.round_schedule.specs.Positions.{event}
use Rattle.hart_step.specs.declared.hart.Hart.{Hart}
use Rattle.hart_step.specs.declared.hart.Stop.{Stop}
use Rattle.hart_step.specs.Console.{ConsoleState, output_room}
use Rattle.memory_order.specs.Operations.{covers, is_operation}
use Rattle.memory_order.specs.Orders.{order_position}
use Rattle.memory_order.specs.Registers.{registers_of}
use Rattle.memory_order.proofs.Facts.{store_is_operation, within}
use Rattle.execution.specs.Executions.{Executes, Standing}
use Rattle.execution.specs.Progressing.{at_start}
use Rattle.execution_checker.specs.Allowed.{Allows}
use Rattle.all_endings.specs.Endings.{AllEndingsWithin, Ending, IsEnded, bytes_from, memory_after, opening_bytes, own_output, own_outputs}
use Rattle.all_endings.specs.Factorizing.{IsUnknown, unknown-address, unknown-target, HasRoom}
use Rattle.all_endings.specs.Halting.{Halts, KnowsRegisters}
use Rattle.all_endings.specs.Locality.{view}
use Rattle.all_endings.specs.Offering.{AreFresh, AreShort, IsClosed}
use Rattle.all_endings.specs.RunStates.{RunState}
use Rattle.all_endings.specs.StoreLists.{Stored, all_stores, stores_of}
use Rattle.all_endings.specs.Tables.{ClosedTablesAreWhole, HartEnds, HartsEnd, HasEndings, memory_of}
use Rattle.all_endings.specs.Times.{stores_before, timed, touched_before}
use Rattle.all_endings.proofs.Closing.{has_room, may_pay, moves_few, nodes_all, pays_all, stores_counted}
use Rattle.all_endings.proofs.DecodedRegisters.{all_registers_are, decoded_fits}
use Rattle.all_endings.proofs.Factors.{Total, all_along, harts_stay, knows_all, the}
use Rattle.all_endings.proofs.Following.{Setting, after}
use Rattle.all_endings.proofs.Memories.{memories_same}

-- ---- no store is behind all

before_all : (t : List Event) (g : List ℕ) (p : ℕ) → stores_before t g p ≤ stores_before t g (length g)
before_all t [] p = omega arith
before_all t (a ∷ g) zero = omega arith
before_all t (a ∷ g) (suc p) = let r = before_all t g p in omega (arith, r)

none_later : (t : List Event) (g : List ℕ) (p : ℕ) → timed (length (all_stores t g)) t g p ≤ length (all_stores t g)
none_later t g p = let b = before_all t g p in let c = stores_counted t g in omega (arith, b, c)

touched_early : (s : Setting) (h x : ℕ) → Total s → (i : ℕ) → touched_before (after s) s.t h x i ≤ s.n
touched_early s h x total zero = omega arith
touched_early s h x total (suc i) =
    raised_early (h == (event s.t i).hart && (is_operation (event s.t i) && covers (event s.t i).access x)) (touched_early s h x total i) (total (order_position s.g i + 1))
  where
    raised_early : (c : Bool) → touched_before (after s) s.t h x i ≤ s.n → after s i ≤ s.n →
        (if c then max (touched_before (after s) s.t h x i) (after s i) else touched_before (after s) s.t h x i) ≤ s.n
    raised_early true l k = omega (arith, l, k)
    raised_early false l k = l

-- ---- what is known isn't unknown

known_knows : (image : Memory) (a : RunState) → KnowsRegisters a → IsUnknown image a → ⊥
known_knows image a knows (unknown-target i at steers not_all) =
    let fit = decoded_fits image a.pc i at in
    not_all (record {
      but_data = record { address = knows (registers_of i).address fit.address; first = knows (registers_of i).first fit.first; second = knows (registers_of i).second fit.second };
      value = knows (registers_of i).value fit.value;
    })
known_knows image a knows (unknown-address i at none) =
    let fit = decoded_fits image a.pc i at in
    let some = knows (registers_of i).address fit.address in
    let other : is_some (view a.registers (registers_of i).address) ≡ false = ap (λ (o : Option ℕ). is_some o) none in
    cc

-- ---- lists of the ending

stop_at : (hs : List Hart) (h : ℕ) (d : Hart) → h < length hs → get_or (map (λ (y : Hart). y.stop) hs) h None ≡ (get_or hs h d).stop
stop_at [] h d l = absurd (omega (arith, l))
stop_at (x ∷ hs) zero d l = refl
stop_at (x ∷ hs) (suc h) d l = stop_at hs h d (omega (arith, l))

outputs_counted : (image : Memory) (p q : Standing) (e : Executes image p q) (h n : ℕ) → length (own_outputs image p q e h n) ≡ n
outputs_counted image p q e h zero = refl
outputs_counted image p q e h (suc n) = let r = outputs_counted image p q e (h + 1) n in omega (arith, r)

output_at : (image : Memory) (p q : Standing) (e : Executes image p q) (h n j : ℕ) → j < n → get_or (own_outputs image p q e h n) j [] ≡ own_output image p q (h + j) e
output_at image p q e h zero j l = absurd (omega (arith, l))
output_at image p q e h (suc n) zero l = let s : h ≡ h + 0 = omega arith in ap (λ (k : ℕ). own_output image p q k e) s
output_at image p q e h (suc n) (suc j) l =
    let s : h + 1 + j ≡ h + suc j = omega arith in
    output_at image p q e (h + 1) n j (omega (arith, l)) ∙ ap (λ (k : ℕ). own_output image p q k e) s

bytes_same : (f g : ℕ → ℕ) → ((y : ℕ) → f y ≡ g y) → (a n : ℕ) → bytes_from f a n ≡ bytes_from g a n
bytes_same f g same a zero = refl
bytes_same f g same a (suc n) = ap (λ (y : ℕ). y ∷ bytes_from f (a + 1) n) (same a) ∙ ap (λ (bs : List ℕ). g a ∷ bs) (bytes_same f g same (a + 1) n)

ranges_same : (f g : ℕ → ℕ) → ((y : ℕ) → f y ≡ g y) → (see : List Range) →
    map (λ (r : Range). bytes_from f r.start r.len) see ≡ map (λ (r : Range). bytes_from g r.start r.len) see
ranges_same f g same [] = refl
ranges_same f g same (r ∷ see) =
    ap (λ (bs : List ℕ). bs ∷ map (λ (r : Range). bytes_from f r.start r.len) see) (bytes_same f g same r.start r.len)
    ∙ ap (λ (rs : List (List ℕ)). bytes_from g r.start r.len ∷ rs) (ranges_same f g same see)

-- ---- an execution that ended

module _ (k : ℕ) (image : Memory) (hs : List Hart) (c : ConsoleState) (IsNode : List Stored → Type 0) (fresh : AreFresh hs) (enough : length c.output + k * length hs ≤ output_room)
    (closed : IsClosed k image hs IsNode) (q : Standing) (g : List ℕ) (e : Executes image (at_start hs c) q) (meets : Allows (opening_bytes image) q g) (short : AreShort k q)
    (ended : IsEnded q) where
  abbrev n : ℕ
  n = length (all_stores q.events g)

  abbrev m : List Stored
  m = stores_of n q.events g

  many : length (stores_of n q.events g) ≡ n
  many = let t = length-take n (all_stores q.events g) in omega (arith, t)

  node : IsNode (stores_of n q.events g)
  node = nodes_all k image hs c IsNode fresh enough closed q g e meets short n (omega arith)

  room : HasRoom c q
  room = has_room k image hs c IsNode fresh enough closed q g e meets short

  stay : length q.harts ≡ length hs
  stay = harts_stay image (at_start hs c) q e

  module _ (h : ℕ) (start : Hart) (small : h < length hs) (at : start ≡ get_or hs h start) where
    abbrev s : Setting
    s = the image q g n (all_registers_are image hs c q e) meets many h start (length c.output) room

    total : Total s
    total p = none_later q.events g p

    stop_is : get_or (map (λ (y : Hart). y.stop) q.harts) h None ≡ (get_or q.harts h start).stop
    stop_is = stop_at q.harts h start (omega (arith, small, stay))

    output_is : own_output image (at_start hs c) q h e ≡ get_or (own_outputs image (at_start hs c) q e 0 (length q.harts)) h []
    output_is =
        let z : 0 + h ≡ h = omega arith in
        sym (output_at image (at_start hs c) q e 0 (length q.harts) h (omega (arith, small, stay)) ∙ ap (λ (j : ℕ). own_output image (at_start hs c) q j e) z)

    halts_so : (state : RunState) → ((get_or q.harts h start).stop ≡ None) ⊎ ((stop : Stop) × ((get_or q.harts h start).stop ≡ Some stop) × Halts image state stop) →
        (stop : Stop) × ((get_or q.harts h start).stop ≡ Some stop) × Halts image state stop
    halts_so state halting = elim halting [
      | inr stops ↦ stops
      | inl runs ↦
          let some : is_some (get_or q.harts h start).stop ≡ true = ended h start (omega (arith, small, stay)) in
          let none : is_some (get_or q.harts h start).stop ≡ false = ap (λ (o : Option Stop). is_some o) runs in
          absurd (cc)
    ]

    hart_ends : HartEnds k image h (stores_of n q.events g) (opening_bytes image) start (get_or (map (λ (y : Hart). y.stop) q.harts) h None)
        (get_or (own_outputs image (at_start hs c) q e 0 (length q.harts)) h [])
    hart_ends = elim (all_along image hs c q g e meets room n h start many small at (fresh h start small at)) [
      | inl stuck ↦ absurd (elim stuck.breaks [
        | inl unknown ↦ known_knows image stuck.state (stuck.known total) unknown.0
        | inr call ↦ closed.calls (stores_of n q.events g) h start node small at stuck.moves stuck.state (moves_few k n h q g stuck.index stuck.moves short stuck.within stuck.are) stuck.runs
            (may_pay s h stuck.index start stuck.moves stuck.state stuck.so_far stuck.kinds stuck.carried stuck.touched) call
      ])
      | inr w ↦
          let few = moves_few k n h q g (length q.events) w.moves short (omega arith) w.are in
          let stops = halts_so w.state w.halting in record {
            moves = w.moves;
            state = w.state;
            runs = w.runs;
            pays = pays_all s k h (length q.events) start w.moves w.state w.runs few w.so_far
                (λ b l wh wet. let p = within q.events b (store_is_operation (event q.events b) wet) in absurd (omega (arith, l, p)));
            short = few;
            knows = knows_all s h (length q.events) _ w.state _ w.follows total;
            settled = λ x. let t = w.follows.touched x in let l = touched_early s h x total (length q.events) in omega (arith, t, l, many);
            reason = stops.0;
            stops = stop_is ∙ stops.1;
            halts = stops.2;
            puts = w.output total ∙ ap (λ (o : List ℕ). map (λ j. Some j) o) output_is;
          }
    ]

  harts_end : HartsEnd k image hs (stores_of n q.events g) (map (λ (y : Hart). y.stop) q.harts) (own_outputs image (at_start hs c) q e 0 (length q.harts))
  harts_end = record {
    as_many_stops = length-map q.harts (λ (y : Hart). y.stop) ∙ stay;
    as_many_outputs = outputs_counted image (at_start hs c) q e 0 (length q.harts) ∙ stay;
    each = λ h start small at. hart_ends h start small at;
  }

pub nodes_whole : (k : ℕ) (image : Memory) (hs : List Hart) (c : ConsoleState) (see : List Range) (IsNode : List Stored → Type 0) (table : List Ending) → AreFresh hs → length c.output + k * length hs ≤ output_room →
    IsClosed k image hs IsNode → HasEndings k image hs see IsNode table → AllEndingsWithin k image hs c see table
nodes_whole k image hs c see IsNode table fresh enough closed has q g e meets ended short =
    subst (λ (bs : List (List ℕ)). Contains table (record { stops = map (λ (y : Hart). y.stop) q.harts; outputs = own_outputs image (at_start hs c) q e 0 (length q.harts); seen = bs }))
    (ranges_same (memory_of (stores_of (length (all_stores q.events g)) q.events g) (opening_bytes image)) (memory_after q.events g (opening_bytes image))
    (λ y. ap (λ (us : List Stored). memory_of us (opening_bytes image) y) (take_all (length (all_stores q.events g)) (all_stores q.events g) (omega arith)) ∙ sym (memories_same q.events g (opening_bytes image) y)) see)
    (has (stores_of (length (all_stores q.events g)) q.events g) (map (λ (y : Hart). y.stop) q.harts) (own_outputs image (at_start hs c) q e 0 (length q.harts))
    (node k image hs c IsNode fresh enough closed q g e meets short ended) (harts_end k image hs c IsNode fresh enough closed q g e meets short ended))

pub tables_whole : ClosedTablesAreWhole
tables_whole k image hs c see is_node table fresh enough closed has = nodes_whole k image hs c see (λ (m : List Stored). is_node m ≡ true) table fresh enough closed has
