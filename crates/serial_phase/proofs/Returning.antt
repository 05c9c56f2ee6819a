-- Two runs from states that are alike stay alike while no round's number is asked for, so a run that comes back goes round.
use Rattle.std.proofs.Common.{◌≡◌, ℕ, zero, suc, ◌+◌, ◌*◌, ◌||◌, ◌<◌, ◌≤◌, Bool, true, false, if◌then◌else◌, List, [], ◌∷◌, ◌++◌, map, length, Option, Some, None, option_to_list, refl, sym, ◌∙◌, ap, subst, ◌-◌, arith, append_assoc, append-nil, below_more}
use Rattle.std.proofs.lemmas.Bool.{false≢true}
use Rattle.std.proofs.lemmas.List.{map-append}
use Rattle.pages.specs.declared.access.Store.{Store}
use Rattle.pages.specs.Memory.{after}
use Rattle.round_schedule.specs.declared.access.Access.{Access}
use Rattle.round_schedule.specs.declared.access.Access.TheVariants.{Load, Store as StoreAccess, LoadReserved, StoreConditional, Atomic, Fence}
use Rattle.round_schedule.specs.declared.access.Stepped.{Stepped}
use Rattle.round_schedule.specs.declared.access.Stepped.TheVariants.{Done, Waits, Stopped}
use Rattle.round_schedule.specs.declared.event.Event.{Event}
use Rattle.round_schedule.specs.declared.event.Phase.{Phase}
use Rattle.round_schedule.specs.declared.event.Phase.TheVariants.{Parallel, Serial}
use Rattle.round_schedule.specs.declared.span.Span.{Span}
use Rattle.round_schedule.specs.Events.{event_of, events_of}
use Rattle.round_schedule.specs.Held.{held, held_after, held_from}
use Rattle.round_schedule.specs.Schedule.{HartRound, Progress, State, Turn, Words, all_stores, began, by_answer, committed, ended, events_from, first_or_zero, hart_round_of, hart_rounds, joined, next_of, rest_of, round_from, round_of, run_of, serial_from, serial_next, turn_from, turn_of, turned, turn_went, went}
use Rattle.round_schedule.proofs.Holding.{held-append}
use Rattle.serial_phase.specs.Asking.{asks_after, asks_in_phase, asks_in_round, asks_in_run, asks_in_turn}
use Rattle.serial_phase.specs.Forgetting.{Forgets, SameOutcome, SameSerial, placeless, placeless_answer}
use Rattle.serial_phase.proofs.Words.{both_no, choose, neither, pair, picked, picked_not}
use Rattle.serial_phase.specs.Returning.{Alike, ComesBack, LaterComesBack, RunsComeBack, RunsGoRound}

-- ---- answers that differ at most in places

by_both : (P : Stepped → Stepped → Type 0) (y z : Stepped) → placeless_answer y ≡ placeless_answer z →
    ((a b : Option Access) → map placeless (option_to_list a) ≡ map placeless (option_to_list b) → P (Done a) (Done b)) → P Waits Waits → ((c d : ℕ) → P (Stopped c) (Stopped d)) → P y z
by_both P (Done None) (Done None) e f g h = f None None refl
by_both P (Done (Some a)) (Done (Some b)) e f g h = f (Some a) (Some b) (ap (λ (x : Access). x ∷ []) cc)
by_both P (Done None) (Done (Some b)) e f g h = cc
by_both P (Done None) Waits e f g h = cc
by_both P (Done None) (Stopped d) e f g h = cc
by_both P (Done (Some a)) (Done None) e f g h = cc
by_both P (Done (Some a)) Waits e f g h = cc
by_both P (Done (Some a)) (Stopped d) e f g h = cc
by_both P Waits (Done None) e f g h = cc
by_both P Waits (Done (Some b)) e f g h = cc
by_both P Waits Waits e f g h = g
by_both P Waits (Stopped d) e f g h = cc
by_both P (Stopped c) (Done None) e f g h = cc
by_both P (Stopped c) (Done (Some b)) e f g h = cc
by_both P (Stopped c) Waits e f g h = cc
by_both P (Stopped c) (Stopped d) e f g h = h c d

-- ---- reservations look at no place and at no round's number

held_placeless : (h n i : ℕ) (s : Phase) (a : Access) (r : Option Span) → held_after h (event_of n i s a) r ≡ held_after h (event_of 0 i s (placeless a)) r
held_placeless h n i s (Load w p a v) r = refl
held_placeless h n i s (StoreAccess w p a v) r = refl
held_placeless h n i s (LoadReserved w o p a v) r = refl
held_placeless h n i s (StoreConditional w o p a v) r = refl
held_placeless h n i s (Atomic w o p a v u) r = refl
held_placeless h n i s (Fence b a m p) r = refl

held_from_placeless : (h n i : ℕ) (s : Phase) (as' : List Access) (r : Option Span) → held_from h r (events_of n i s as') ≡ held_from h r (events_of 0 i s (map placeless as'))
held_from_placeless h n i s [] r = refl
held_from_placeless h n i s (a ∷ as') r =
    ap (λ (x : Option Span). held_from h x (events_of n i s as')) (held_placeless h n i s a r)
    ∙ held_from_placeless h n i s as' (held_after h (event_of 0 i s (placeless a)) r)

held_same : (h n m i : ℕ) (s : Phase) (t u : List Event) (as' bs : List Access) → held h t ≡ held h u → map placeless as' ≡ map placeless bs →
    held h (t ++ events_of n i s as') ≡ held h (u ++ events_of m i s bs)
held_same h n m i s t u as' bs e d =
    held-append h t (events_of n i s as')
    ∙ ap (λ (x : Option Span). held_from h x (events_of n i s as')) e
    ∙ held_from_placeless h n i s as' (held h u)
    ∙ ap (λ (x : List Access). held_from h (held h u) (events_of 0 i s x)) d
    ∙ sym (held_from_placeless h m i s bs (held h u))
    ∙ sym (held-append h u (events_of m i s bs))

module _ {H K C : Type 0} (w : Words H C) (view : H → K) (asks : H → List ℕ → Bool) (forgets : Forgets w view asks) where
  -- ---- the parallel phase

  record SameProgress (p q : Progress H) : Type 0 where
    hart : view p.hart ≡ view q.hart
    stores : p.stores ≡ q.stores
    accesses : map placeless p.accesses ≡ map placeless q.accesses

  record SameRound (r v : HartRound H) : Type 0 where
    last : SameProgress r.last v.last
    waits : r.waits ≡ v.waits

  next_same : (bs : List ℕ) (p q : Progress H) → SameProgress p q → SameOutcome view (next_of w bs p) (next_of w bs q)
  next_same bs p q s =
      subst (λ (ss : List Store). SameOutcome view (next_of w bs p) (w.step q.hart (after bs ss))) s.stores (forgets.steps p.hart q.hart (after bs p.stores) s.hart)

  round_same : (bs : List ℕ) (k : ℕ) (p q : Progress H) → SameProgress p q → SameRound (round_from w bs k p) (round_from w bs k q)
  unfolding round_from
  round_same bs zero p q s = record { last = s; waits = refl }
  round_same bs (suc k) p q s =
      let o : SameOutcome view (next_of w bs p) (next_of w bs q) = next_same bs p q s in
      choose SameRound (w.stopped p.hart) (w.stopped q.hart) _ _ _ _ (forgets.stopped p.hart q.hart s.hart) (record { last = s; waits = refl })
      (λ e. by_both (λ (y z : Stepped). SameRound (by_answer y p (next_of w bs p) (round_from w bs k)) (by_answer z q (next_of w bs q) (round_from w bs k)))
      (next_of w bs p).answer (next_of w bs q).answer o.answer
      (λ a b e. round_same bs k (went p (next_of w bs p) a) (went q (next_of w bs q) b) (record {
        hart = o.hart;
        stores = pair (λ (x y : List Store). x ++ y) p.stores q.stores (next_of w bs p).stores (next_of w bs q).stores s.stores o.stores;
        accesses = map-append placeless p.accesses (option_to_list a)
            ∙ pair (λ (x y : List Access). x ++ y) (map placeless p.accesses) (map placeless q.accesses) (map placeless (option_to_list a)) (map placeless (option_to_list b)) s.accesses e
            ∙ sym (map-append placeless q.accesses (option_to_list b));
      }))
      (record { last = record { hart = o.hart; stores = s.stores; accesses = s.accesses }; waits = refl })
      (λ c d. record { last = record { hart = o.hart; stores = s.stores; accesses = s.accesses }; waits = refl }))

  abbrev SameRounds : List (HartRound H) → List (HartRound H) → Type 0
  SameRounds [] [] = Unit {0}
  SameRounds [] (v ∷ vs) = ⊥
  SameRounds (r ∷ rs) [] = ⊥
  SameRounds (r ∷ rs) (v ∷ vs) = SameRound r v × SameRounds rs vs

  same_round_refl : (r : HartRound H) → SameRound r r
  same_round_refl r = record { last = record { hart = refl; stores = refl; accesses = refl }; waits = refl }

  same_rounds_refl : (rs : List (HartRound H)) → SameRounds rs rs
  same_rounds_refl [] = tt
  same_rounds_refl (r ∷ rs) = (same_round_refl r, same_rounds_refl rs)

  head_is : {X : Type 0} (x y : X) (xs ys : List X) → x ∷ xs ≡ y ∷ ys → (x ≡ y) × (xs ≡ ys)
  head_is x y xs ys e = (cc, cc)

  rounds_same : (bs qs : List ℕ) (hs gs : List H) → map view hs ≡ map view gs → SameRounds (hart_rounds w bs qs hs) (hart_rounds w bs qs gs)
  rounds_same bs qs [] [] e = tt
  rounds_same bs qs [] (g ∷ gs) e = cc
  rounds_same bs qs (h ∷ hs) [] e = cc
  rounds_same bs qs (h ∷ hs) (g ∷ gs) e =
      let d : (view h ≡ view g) × (map view hs ≡ map view gs) = head_is (view h) (view g) (map view hs) (map view gs) e in
      (round_same bs (first_or_zero qs) (began h) (began g) (record { hart = d.0; stores = refl; accesses = refl }), rounds_same bs (rest_of qs) hs gs d.1)

  stores_same : (rs vs : List (HartRound H)) → SameRounds rs vs → all_stores rs ≡ all_stores vs
  stores_same [] [] s = refl
  stores_same [] (v ∷ vs) s = absurd s
  stores_same (r ∷ rs) [] s = absurd s
  stores_same (r ∷ rs) (v ∷ vs) s = pair (λ (x y : List Store). x ++ y) r.last.stores v.last.stores (all_stores rs) (all_stores vs) s.0.last.stores (stores_same rs vs s.1)

  events_same : (h n m i : ℕ) (rs vs : List (HartRound H)) (t u : List Event) → SameRounds rs vs → held h t ≡ held h u →
      held h (t ++ events_from n i rs) ≡ held h (u ++ events_from m i vs)
  events_same h n m i [] [] t u s e = held_same h n m i Parallel t u [] [] e refl
  events_same h n m i [] (v ∷ vs) t u s e = absurd s
  events_same h n m i (r ∷ rs) [] t u s e = absurd s
  events_same h n m i (r ∷ rs) (v ∷ vs) t u s e =
      ap (held h) (sym (append_assoc t (events_of n i Parallel r.last.accesses) (events_from n (suc i) rs)))
      ∙ events_same h n m (suc i) rs vs (t ++ events_of n i Parallel r.last.accesses) (u ++ events_of m i Parallel v.last.accesses) s.1
      (held_same h n m i Parallel t u r.last.accesses v.last.accesses e s.0.last.accesses)
      ∙ ap (held h) (append_assoc u (events_of m i Parallel v.last.accesses) (events_from m (suc i) vs))

  -- ---- a serial turn

  record SameTurn (b : ℕ) (p q : Turn H C) : Type 0 where
    hart : view p.hart ≡ view q.hart
    bytes : p.bytes ≡ q.bytes
    console : p.console ≡ q.console
    holds : (h : ℕ) → h < b → held h p.trace ≡ held h q.trace

  serial_same : (b n m i : ℕ) (p q : Turn H C) → i < b → SameTurn b p q → asks p.hart p.bytes ≡ false → SameSerial view (serial_next w n i p) (serial_next w m i q)
  serial_same b n m i p q l s u =
      subst (λ (x : Option Span). SameSerial view (serial_next w n i p) (w.serial_step m q.hart q.bytes q.console x)) (s.holds i l)
      (subst (λ (x : C). SameSerial view (serial_next w n i p) (w.serial_step m q.hart q.bytes x (held i p.trace))) s.console
      (subst (λ (x : List ℕ). SameSerial view (serial_next w n i p) (w.serial_step m q.hart x p.console (held i p.trace))) s.bytes
      (forgets.serial_steps n m p.hart q.hart p.bytes p.console (held i p.trace) s.hart u)))

  -- whether an instruction after this one asks, of the next k
  asks_later : (n i k : ℕ) (p : Turn H C) → Stepped → Bool
  asks_later n i k p y = asks_after y (λ a. asks_in_turn w asks n i k (turn_went n i p (serial_next w n i p) a))

  went_same : (b n m i : ℕ) (p q : Turn H C) (c d : Option Access) → SameTurn b p q → SameSerial view (serial_next w n i p) (serial_next w m i q) →
      map placeless (option_to_list c) ≡ map placeless (option_to_list d) → SameTurn b (turn_went n i p (serial_next w n i p) c) (turn_went m i q (serial_next w m i q) d)
  went_same b n m i p q c d s o e = record {
    hart = o.hart;
    bytes = pair after p.bytes q.bytes (serial_next w n i p).stores (serial_next w m i q).stores s.bytes o.stores;
    console = o.console;
    holds = λ h l. held_same h n m i Serial p.trace q.trace (option_to_list c) (option_to_list d) (s.holds h l) e;
  }

  turn_taken : (b n m i k : ℕ) (p q : Turn H C) → SameTurn b p q → SameSerial view (serial_next w n i p) (serial_next w m i q) →
      ((x y : Turn H C) → asks_in_turn w asks n i k x ≡ false → SameTurn b x y → SameTurn b (turn_from w n i k x) (turn_from w m i k y)) →
      asks_later n i k p (serial_next w n i p).answer ≡ false →
      SameTurn b (turned n i (serial_next w n i p).answer p (serial_next w n i p) (turn_from w n i k)) (turned m i (serial_next w m i q).answer q (serial_next w m i q) (turn_from w m i k))
  unfolding asks_later
  turn_taken b n m i k p q s o rest u =
      by_both (λ (y z : Stepped). asks_later n i k p y ≡ false →
      SameTurn b (turned n i y p (serial_next w n i p) (turn_from w n i k)) (turned m i z q (serial_next w m i q) (turn_from w m i k)))
      (serial_next w n i p).answer (serial_next w m i q).answer o.answer
      (λ c d e v. rest (turn_went n i p (serial_next w n i p) c) (turn_went m i q (serial_next w m i q) d) v (went_same b n m i p q c d s o e))
      (λ v. record { hart = o.hart; bytes = s.bytes; console = s.console; holds = s.holds })
      (λ c d v. record { hart = o.hart; bytes = s.bytes; console = s.console; holds = s.holds })
      u

  -- where a hart isn't stopped
  unasked_both : (n i k : ℕ) (p : Turn H C) → w.stopped p.hart ≡ false → asks_in_turn w asks n i (suc k) p ≡ false →
      (asks p.hart p.bytes ≡ false) × (asks_later n i k p (serial_next w n i p).answer ≡ false)
  unfolding asks_in_turn asks_later
  unasked_both n i k p e u = neither _ _ (sym (picked_not (w.stopped p.hart) false _ e) ∙ u)

  turn_kept : (b n m i k : ℕ) (p q : Turn H C) → i < b → asks_in_turn w asks n i k p ≡ false → SameTurn b p q → SameTurn b (turn_from w n i k p) (turn_from w m i k q)
  unfolding turn_from
  turn_kept b n m i zero p q l u s = s
  turn_kept b n m i (suc k) p q l u s =
      choose (SameTurn b) (w.stopped p.hart) (w.stopped q.hart) _ _ _ _ (forgets.stopped p.hart q.hart s.hart) s
      (λ e. let d : (asks p.hart p.bytes ≡ false) × (asks_later n i k p (serial_next w n i p).answer ≡ false) = unasked_both n i k p e u in
      turn_taken b n m i k p q s (serial_same b n m i p q l s d.0) (λ x y v t. turn_kept b n m i k x y l v t) d.1)

  turn_unasked : (b n m i k : ℕ) (p q : Turn H C) → i < b → SameTurn b p q → asks_in_turn w asks n i k p ≡ false → asks_in_turn w asks m i k q ≡ false
  unfolding asks_in_turn asks_later
  turn_unasked b n m i zero p q l s u = refl
  turn_unasked b n m i (suc k) p q l s u =
      choose (λ (x y : Bool). x ≡ false → y ≡ false) (w.stopped p.hart) (w.stopped q.hart) _ _ _ _ (forgets.stopped p.hart q.hart s.hart) (λ v. v)
      (λ e v.
      let d : (asks p.hart p.bytes ≡ false) × (asks_later n i k p (serial_next w n i p).answer ≡ false) = neither _ _ v in
      let o : SameSerial view (serial_next w n i p) (serial_next w m i q) = serial_same b n m i p q l s d.0 in
      both_no _ _ (sym (forgets.asking p.hart q.hart p.bytes s.hart ∙ ap (asks q.hart) s.bytes) ∙ d.0)
      (by_both (λ (y z : Stepped). asks_later n i k p y ≡ false → asks_later m i k q z ≡ false) (serial_next w n i p).answer (serial_next w m i q).answer o.answer
      (λ c f g x. turn_unasked b n m i k (turn_went n i p (serial_next w n i p) c) (turn_went m i q (serial_next w m i q) f) l (went_same b n m i p q c f s o g) x)
      (λ x. refl) (λ c f x. refl) d.1))
      u

  -- ---- the serial phase

  record AlikeTo (b : ℕ) (s t : State H C) : Type 0 where
    harts : map view s.harts ≡ map view t.harts
    bytes : s.bytes ≡ t.bytes
    console : s.console ≡ t.console
    holds : (h : ℕ) → h < b → held h s.trace ≡ held h t.trace

  joined_alike : (b : ℕ) (s t : State H C) (d f : Turn H C) → AlikeTo b s t → SameTurn b d f → AlikeTo b (joined s d) (joined t f)
  joined_alike b s t d f a k = record {
    harts = map-append view s.harts (d.hart ∷ [])
        ∙ pair (λ (x y : List K). x ++ y) (map view s.harts) (map view t.harts) (view d.hart ∷ []) (view f.hart ∷ []) a.harts (ap (λ (x : K). x ∷ []) k.hart)
        ∙ sym (map-append view t.harts (f.hart ∷ []));
    bytes = k.bytes;
    console = k.console;
    holds = k.holds;
  }

  abbrev begun : State H C → HartRound H → Turn H C
  begun s r = record { hart = r.last.hart; bytes = s.bytes; console = s.console; trace = s.trace }

  phase_kept : (b budget i : ℕ) (rs vs : List (HartRound H)) (s t : State H C) → i + length rs ≤ b → SameRounds rs vs → AlikeTo b s t →
      asks_in_phase w asks budget i rs s ≡ false → AlikeTo b (serial_from w budget i rs s) (serial_from w budget i vs t) × asks_in_phase w asks budget i vs t ≡ false
  phase_kept b budget i [] [] s t l same a u = (a, refl)
  phase_kept b budget i [] (v ∷ vs) s t l same a u = absurd same
  phase_kept b budget i (r ∷ rs) [] s t l same a u = absurd same
  phase_kept b budget i (r ∷ rs) (v ∷ vs) s t l same a u =
      let d : Turn H C = turn_of w budget s i r in
      let f : Turn H C = turn_of w budget t i v in
      let q : Turn H C = begun t v in
      let k : ℕ = if r.waits then budget else 0 in
      let e : (asks_in_turn w asks s.rounds i k (begun s r) ≡ false) × (asks_in_phase w asks budget (suc i) rs (joined s d) ≡ false) = neither _ _ u in
      let start : SameTurn b (begun s r) q = record { hart = same.0.last.hart; bytes = a.bytes; console = a.console; holds = a.holds } in
      let turn : SameTurn b d f =
      subst (λ (x : Bool). SameTurn b d (turn_from w t.rounds i (if x then budget else 0) q)) same.0.waits
      (turn_kept b s.rounds t.rounds i k (begun s r) q (omega (arith, l)) e.0 start) in
      let rest = phase_kept b budget (suc i) rs vs (joined s d) (joined t f) (omega (arith, l)) same.1 (joined_alike b s t d f a turn) e.1 in (
        rest.0,
        both_no _ _
            (subst (λ (x : Bool). asks_in_turn w asks t.rounds i (if x then budget else 0) q ≡ false) same.0.waits
            (turn_unasked b s.rounds t.rounds i k (begun s r) q (omega (arith, l)) start e.0))
            rest.1,
      )

  -- ---- rounds

  length-rounds : (bs qs : List ℕ) (hs : List H) → length (hart_rounds w bs qs hs) ≡ length hs
  length-rounds bs qs [] = refl
  length-rounds bs qs (h ∷ hs) = ap (λ (n : ℕ). suc n) (length-rounds bs (rest_of qs) hs)

  length_push : {X : Type 0} (xs : List X) (x : X) → length (xs ++ x ∷ []) ≡ suc (length xs)
  length_push [] x = refl
  length_push (y ∷ ys) x = ap (λ (j : ℕ). suc j) (length_push ys x)

  phase_harts : (budget i : ℕ) (rs : List (HartRound H)) (s : State H C) → length (serial_from w budget i rs s).harts ≡ length s.harts + length rs
  phase_harts budget i [] s = omega arith
  phase_harts budget i (r ∷ rs) s =
      omega (arith, phase_harts budget (suc i) rs (joined s (turn_of w budget s i r)), length_push s.harts (turn_of w budget s i r).hart)

  phase_rounds : (budget i : ℕ) (rs : List (HartRound H)) (s : State H C) → (serial_from w budget i rs s).rounds ≡ s.rounds
  phase_rounds budget i [] s = refl
  phase_rounds budget i (r ∷ rs) s = phase_rounds budget (suc i) rs (joined s (turn_of w budget s i r))

  module _ (budget : ℕ) (quotas : ℕ → List ℕ) where
    round_harts : (s : State H C) → length (round_of w budget quotas s).harts ≡ length s.harts
    unfolding round_of
    round_harts s =
        let rs : List (HartRound H) = hart_rounds w s.bytes (quotas s.rounds) s.harts in
        omega (arith, phase_harts budget 0 rs (committed s rs), length-rounds s.bytes (quotas s.rounds) s.harts)

    round_counted : (s : State H C) → (round_of w budget quotas s).rounds ≡ s.rounds + 1
    unfolding round_of
    round_counted s = let rs : List (HartRound H) = hart_rounds w s.bytes (quotas s.rounds) s.harts in phase_rounds budget 0 rs (committed s rs)

    round_kept : (b : ℕ) (s t : State H C) → length s.harts ≤ b → quotas s.rounds ≡ quotas t.rounds → AlikeTo b s t → asks_in_round w asks budget quotas s ≡ false →
        AlikeTo b (round_of w budget quotas s) (round_of w budget quotas t) × asks_in_round w asks budget quotas t ≡ false
    unfolding round_of asks_in_round
    round_kept b s t l e a u =
        let rs : List (HartRound H) = hart_rounds w s.bytes (quotas s.rounds) s.harts in
        let vs : List (HartRound H) = hart_rounds w t.bytes (quotas t.rounds) t.harts in
        let same : SameRounds rs vs =
        subst (λ (qs : List ℕ). SameRounds rs (hart_rounds w t.bytes qs t.harts)) e
        (subst (λ (bs : List ℕ). SameRounds rs (hart_rounds w bs (quotas s.rounds) t.harts)) a.bytes
        (rounds_same s.bytes (quotas s.rounds) s.harts t.harts a.harts)) in
        phase_kept b budget 0 rs vs (committed s rs) (committed t vs) (omega (arith, l, length-rounds s.bytes (quotas s.rounds) s.harts)) same (record {
          harts = refl;
          bytes = pair after s.bytes t.bytes (all_stores rs) (all_stores vs) a.bytes (stores_same rs vs same);
          console = a.console;
          holds = λ h k. events_same h (s.rounds + 1) (t.rounds + 1) 0 rs vs s.trace t.trace same (a.holds h k);
        }) u

    -- ---- runs

    from_none : (n : ℕ) → n ≡ 0 + n
    from_none n = omega arith

    pub run_harts : (n : ℕ) (s : State H C) → length (run_of w budget quotas n s).harts ≡ length s.harts
    unfolding run_of
    run_harts zero s = refl
    run_harts (suc n) s = run_harts n (round_of w budget quotas s) ∙ round_harts s

    pub run_counted : (n : ℕ) (s : State H C) → (run_of w budget quotas n s).rounds ≡ s.rounds + n
    unfolding run_of
    run_counted zero s = omega arith
    run_counted (suc n) s = omega (arith, run_counted n (round_of w budget quotas s), round_counted s)

    pub run_sum : (m n : ℕ) (s : State H C) → run_of w budget quotas (m + n) s ≡ run_of w budget quotas n (run_of w budget quotas m s)
    unfolding run_of
    run_sum zero n s = ap (λ (k : ℕ). run_of w budget quotas k s) (sym (from_none n))
    run_sum (suc m) n s = ap (λ (k : ℕ). run_of w budget quotas k s) (carry m n) ∙ run_sum m n (round_of w budget quotas s)
      where
        carry : (m n : ℕ) → suc m + n ≡ suc (m + n)
        carry m n = omega arith

    run_none : (s : State H C) → run_of w budget quotas 0 s ≡ s
    unfolding run_of
    run_none s = refl

    run_next : (n : ℕ) (s : State H C) → run_of w budget quotas (suc n) s ≡ round_of w budget quotas (run_of w budget quotas n s)
    unfolding run_of
    run_next zero s = refl
    run_next (suc n) s = run_next n (round_of w budget quotas s)

    -- the quotas of the rounds from the two on are the same
    abbrev Again : State H C → State H C → Type 0
    Again s t = (x : ℕ) → quotas (x + s.rounds) ≡ quotas (x + t.rounds)

    run_kept : (b n : ℕ) (s t : State H C) → length s.harts ≤ b → Again s t → AlikeTo b s t → asks_in_run w asks budget quotas n s ≡ false →
        AlikeTo b (run_of w budget quotas n s) (run_of w budget quotas n t) × asks_in_run w asks budget quotas n t ≡ false
    unfolding asks_in_run
    run_kept b zero s t l again a u = (subst (λ (x : State H C). AlikeTo b x (run_of w budget quotas 0 t)) (sym (run_none s)) (subst (AlikeTo b s) (sym (run_none t)) a), refl)
    run_kept b (suc n) s t l again a u =
        let x : State H C = run_of w budget quotas n s in
        let y : State H C = run_of w budget quotas n t in
        let d : (asks_in_run w asks budget quotas n s ≡ false) × (asks_in_round w asks budget quotas x ≡ false) = neither _ _ u in
        let before = run_kept b n s t l again a d.0 in
        let e : quotas x.rounds ≡ quotas y.rounds =
        ap quotas (omega (arith, run_counted n s)) ∙ again n ∙ ap quotas (omega (arith, run_counted n t)) in
        let last = round_kept b x y (omega (arith, l, run_harts n s)) e before.0 d.1 in (
          subst (λ (z : State H C). AlikeTo b z (run_of w budget quotas (suc n) t)) (sym (run_next n s)) (subst (AlikeTo b (round_of w budget quotas x)) (sym (run_next n t)) last.0),
          both_no _ _ before.1 last.1,
        )

    asks_sum : (m n : ℕ) (s : State H C) → asks_in_run w asks budget quotas m s ≡ false → asks_in_run w asks budget quotas n (run_of w budget quotas m s) ≡ false →
        asks_in_run w asks budget quotas (m + n) s ≡ false
    unfolding asks_in_run
    asks_sum m zero s e d = subst (λ (k : ℕ). asks_in_run w asks budget quotas k s ≡ false) (whole m) e
      where
        whole : (m : ℕ) → m ≡ m + zero
        whole m = omega arith
    asks_sum m (suc n) s e d =
        let f : (asks_in_run w asks budget quotas n (run_of w budget quotas m s) ≡ false) × (asks_in_round w asks budget quotas (run_of w budget quotas n (run_of w budget quotas m s)) ≡ false) = neither _ _ d in
        subst (λ (k : ℕ). asks_in_run w asks budget quotas k s ≡ false) (carry m n)
        (both_no _ _ (asks_sum m n s e f.0) (subst (λ (x : State H C). asks_in_round w asks budget quotas x ≡ false) (sym (run_sum m n s)) f.1))
      where
        carry : (m n : ℕ) → suc (m + n) ≡ m + suc n
        carry m n = omega arith

    asks_first : (m n : ℕ) (s : State H C) → asks_in_run w asks budget quotas (m + n) s ≡ false → asks_in_run w asks budget quotas m s ≡ false
    unfolding asks_in_run
    asks_first m zero s e = subst (λ (k : ℕ). asks_in_run w asks budget quotas k s ≡ false) (whole m) e
      where
        whole : (m : ℕ) → m + zero ≡ m
        whole m = omega arith
    asks_first m (suc n) s e = asks_first m n s (neither (asks_in_run w asks budget quotas (m + n) s) (asks_in_round w asks budget quotas (run_of w budget quotas (m + n) s)) (subst (λ (k : ℕ). asks_in_run w asks budget quotas k s ≡ false) (carry m n) e)).0
      where
        carry : (m n : ℕ) → m + suc n ≡ suc (m + n)
        carry m n = omega arith

    asks_last : (m n : ℕ) (s : State H C) → asks_in_run w asks budget quotas (m + n) s ≡ false → asks_in_run w asks budget quotas n (run_of w budget quotas m s) ≡ false
    unfolding asks_in_run
    asks_last m zero s e = refl
    asks_last m (suc n) s e =
        let f : (asks_in_run w asks budget quotas (m + n) s ≡ false) × (asks_in_round w asks budget quotas (run_of w budget quotas (m + n) s) ≡ false) =
        neither _ _ (subst (λ (k : ℕ). asks_in_run w asks budget quotas k s ≡ false) (carry m n) e) in
        both_no _ _ (asks_last m n s f.0) (subst (λ (x : State H C). asks_in_round w asks budget quotas x ≡ false) (run_sum m n s) f.1)
      where
        carry : (m n : ℕ) → m + suc n ≡ suc (m + n)
        carry m n = omega arith

    -- ---- round and round

    to_alike : (b : ℕ) (s t : State H C) → length s.harts ≤ b → AlikeTo b s t → Alike view s t
    to_alike b s t l a = record { harts = a.harts; bytes = a.bytes; console = a.console; holds = λ h k. a.holds h (omega (arith, k, l)) }

    from_alike : (s t : State H C) → Alike view s t → AlikeTo (length s.harts) s t
    from_alike s t a = record { harts = a.harts; bytes = a.bytes; console = a.console; holds = a.holds }

    -- from states that are alike, p rounds apart, so many rounds lead to states that are alike
    apart : (p n : ℕ) (s : State H C) → ComesBack w view asks budget quotas p s → asks_in_run w asks budget quotas n s ≡ false →
        Alike view (run_of w budget quotas n s) (run_of w budget quotas n (run_of w budget quotas p s))
        × asks_in_run w asks budget quotas n (run_of w budget quotas p s) ≡ false
    apart p n s c u =
        let x : State H C = run_of w budget quotas p s in
        let k = run_kept (length s.harts) n s x (omega arith) (λ y. sym (c.again (y + s.rounds)) ∙ ap quotas (omega (arith, run_counted p s))) (from_alike s x c.alike) u in
        (to_alike (length s.harts) (run_of w budget quotas n s) (run_of w budget quotas n x) (omega (arith, run_harts n s)) k.0, k.1)

    -- the state after p rounds comes back too
    comes_back_again : (p : ℕ) (s : State H C) → ComesBack w view asks budget quotas p s → ComesBack w view asks budget quotas p (run_of w budget quotas p s)
    comes_back_again p s c =
        let k = apart p p s c c.unasked in
        record { on = c.on; again = c.again; alike = k.0; unasked = k.1 }

    asks_none : (n : ℕ) (s : State H C) → n ≡ 0 → asks_in_run w asks budget quotas n s ≡ false
    unfolding asks_in_run
    asks_none zero s e = refl
    asks_none (suc n) s e = absurd (omega (arith, e))

    -- so no number is ever asked for
    never_in_times : (p k : ℕ) (s : State H C) → ComesBack w view asks budget quotas p s → asks_in_run w asks budget quotas (k * p) s ≡ false
    never_in_times p zero s c = asks_none (0 * p) s (omega arith)
    never_in_times p (suc k) s c =
        subst (λ (n : ℕ). asks_in_run w asks budget quotas n s ≡ false) (sums p k)
        (asks_sum p (k * p) s c.unasked (never_in_times p k (run_of w budget quotas p s) (comes_back_again p s c)))
      where
        sums : (p k : ℕ) → p + k * p ≡ suc k * p
        sums p k = omega arith

    whole : (n p q : ℕ) → p ≡ q + 1 → n + (n * p - n) ≡ n * p
    whole n p q e = let f : n * p ≡ n * q + n = ap (λ (x : ℕ). n * x) e ∙ omega arith in omega (arith, f)

    never_asks : (p n : ℕ) (s : State H C) → ComesBack w view asks budget quotas p s → asks_in_run w asks budget quotas n s ≡ false
    never_asks p n s c =
        asks_first n (n * p - n) s (subst (λ (k : ℕ). asks_in_run w asks budget quotas k s ≡ false) (sym (whole n p (p - 1) (omega (arith, c.on)))) (never_in_times p n s c))

    -- and each later state comes back
    pub comes_back_later : (p n : ℕ) (s : State H C) → ComesBack w view asks budget quotas p s → ComesBack w view asks budget quotas p (run_of w budget quotas n s)
    comes_back_later p n s c = record {
      on = c.on;
      again = c.again;
      alike = subst (Alike view (run_of w budget quotas n s)) (sym (run_sum p n s) ∙ ap (λ (k : ℕ). run_of w budget quotas k s) (swap p n) ∙ run_sum n p s) (apart p n s c (never_asks p n s c)).0;
      unasked = asks_last n p s (never_asks p (n + p) s c);
    }
      where
        swap : (p n : ℕ) → p + n ≡ n + p
        swap p n = omega arith

    alike_on : (s t u : State H C) → length s.harts ≡ length t.harts → Alike view s t → Alike view t u → Alike view s u
    alike_on s t u l a b = record {
      harts = a.harts ∙ b.harts;
      bytes = a.bytes ∙ b.bytes;
      console = a.console ∙ b.console;
      holds = λ h k. a.holds h k ∙ b.holds h (omega (arith, k, l));
    }

    -- after any number of times p rounds the state is like this one
    times_round : (p k : ℕ) (s : State H C) → ComesBack w view asks budget quotas p s → Alike view s (run_of w budget quotas (k * p) s)
    unfolding run_of
    times_round p zero s c = subst (λ (n : ℕ). Alike view s (run_of w budget quotas n s)) none (record { harts = refl; bytes = refl; console = refl; holds = λ h l. refl })
      where
        none : 0 ≡ 0 * p
        none = omega arith
    times_round p (suc k) s c =
        let x : State H C = run_of w budget quotas p s in
        subst (Alike view s) (sym (run_sum p (k * p) s) ∙ ap (λ (n : ℕ). run_of w budget quotas n s) (sums p k))
        (alike_on s x (run_of w budget quotas (k * p) x) (sym (run_harts p s)) c.alike (times_round p k x (comes_back_again p s c)))
      where
        sums : (p k : ℕ) → p + k * p ≡ suc k * p
        sums p k = omega arith

    -- so the state after k times p and r further rounds is like that after r
    turns_round : (p k r : ℕ) (s : State H C) → ComesBack w view asks budget quotas p s → Alike view (run_of w budget quotas r s) (run_of w budget quotas (k * p + r) s)
    turns_round p k r s c =
        subst (Alike view (run_of w budget quotas r s)) (sym (run_sum r (k * p) s) ∙ ap (λ (n : ℕ). run_of w budget quotas n s) (swap r (k * p)))
        (times_round p k (run_of w budget quotas r s) (comes_back_later p r s c))
      where
        swap : (r n : ℕ) → r + n ≡ n + r
        swap r n = omega arith

    -- ---- harts that have stopped stay so

    abbrev Stays : List H → List H → Type 0
    Stays [] [] = Unit {0}
    Stays [] (g ∷ gs) = ⊥
    Stays (h ∷ hs) [] = ⊥
    Stays (h ∷ hs) (g ∷ gs) = (w.stopped h ≡ true → w.stopped g ≡ true) × Stays hs gs

    stays_refl : (hs : List H) → Stays hs hs
    stays_refl [] = tt
    stays_refl (h ∷ hs) = (λ e. e, stays_refl hs)

    stays_on : (hs gs fs : List H) → Stays hs gs → Stays gs fs → Stays hs fs
    stays_on [] [] [] a b = tt
    stays_on [] [] (f ∷ fs) a b = absurd b
    stays_on [] (g ∷ gs) fs a b = absurd a
    stays_on (h ∷ hs) [] fs a b = absurd a
    stays_on (h ∷ hs) (g ∷ gs) [] a b = absurd b
    stays_on (h ∷ hs) (g ∷ gs) (f ∷ fs) a b = (λ e. b.0 (a.0 e), stays_on hs gs fs a.1 b.1)

    stays_push : (hs gs : List H) (h g : H) → Stays hs gs → (w.stopped h ≡ true → w.stopped g ≡ true) → Stays (hs ++ h ∷ []) (gs ++ g ∷ [])
    stays_push [] [] h g a f = (f, tt)
    stays_push [] (y ∷ gs) h g a f = absurd a
    stays_push (x ∷ hs) [] h g a f = absurd a
    stays_push (x ∷ hs) (y ∷ gs) h g a f = (a.0, stays_push hs gs h g a.1 f)

    round_stays : (bs : List ℕ) (n : ℕ) (h : H) → w.stopped h ≡ true → w.stopped (round_from w bs n (began h)).last.hart ≡ true
    unfolding round_from
    round_stays bs zero h e = e
    round_stays bs (suc n) h e =
        ap (λ (r : HartRound H). w.stopped r.last.hart) (picked (w.stopped h) (ended (began h) false) (by_answer (next_of w bs (began h)).answer (began h) (next_of w bs (began h)) (round_from w bs n)) e) ∙ e

    turn_stays : (n i k : ℕ) (p : Turn H C) → w.stopped p.hart ≡ true → w.stopped (turn_from w n i k p).hart ≡ true
    unfolding turn_from
    turn_stays n i zero p e = e
    turn_stays n i (suc k) p e =
        ap (λ (q : Turn H C). w.stopped q.hart) (picked (w.stopped p.hart) p (turned n i (serial_next w n i p).answer p (serial_next w n i p) (turn_from w n i k)) e) ∙ e

    phase_stays : (i : ℕ) (bs qs : List ℕ) (before hs : List H) (s : State H C) → Stays before s.harts →
        Stays (before ++ hs) (serial_from w budget i (hart_rounds w bs qs hs) s).harts
    phase_stays i bs qs before [] s a = subst (λ (x : List H). Stays x s.harts) (sym (append-nil before)) a
    phase_stays i bs qs before (h ∷ hs) s a =
        let r : HartRound H = hart_round_of w bs (first_or_zero qs) h in
        let d : Turn H C = turn_of w budget s i r in
        subst (λ (x : List H). Stays x (serial_from w budget (suc i) (hart_rounds w bs (rest_of qs) hs) (joined s d)).harts) (append_assoc before (h ∷ []) hs)
        (phase_stays (suc i) bs (rest_of qs) (before ++ h ∷ []) hs (joined s d) (stays_push before s.harts h d.hart a
        (λ e. turn_stays s.rounds i (if r.waits then budget else 0) (record { hart = r.last.hart; bytes = s.bytes; console = s.console; trace = s.trace }) (round_stays bs (first_or_zero qs) h e))))

    one_round_stays : (s : State H C) → Stays s.harts (round_of w budget quotas s).harts
    unfolding round_of
    one_round_stays s =
        let rs : List (HartRound H) = hart_rounds w s.bytes (quotas s.rounds) s.harts in
        phase_stays 0 s.bytes (quotas s.rounds) [] s.harts (committed s rs) tt

    run_stays : (n : ℕ) (s : State H C) → Stays s.harts (run_of w budget quotas n s).harts
    unfolding run_of
    run_stays zero s = stays_refl s.harts
    run_stays (suc n) s =
        stays_on s.harts (round_of w budget quotas s).harts (run_of w budget quotas n (round_of w budget quotas s)).harts (one_round_stays s) (run_stays n (round_of w budget quotas s))

    -- harts that stay stopped up to harts that are as they were
    both_ways : (a b : Bool) → (a ≡ true → b ≡ true) → (b ≡ true → a ≡ true) → b ≡ a
    both_ways true b f g = f refl
    both_ways false true f g = sym (g refl)
    both_ways false false f g = refl

    same_stops : (hs gs fs : List H) → Stays hs gs → Stays gs fs → map view hs ≡ map view fs → map w.stopped gs ≡ map w.stopped hs
    same_stops [] [] fs a b e = refl
    same_stops [] (g ∷ gs) fs a b e = absurd a
    same_stops (h ∷ hs) [] fs a b e = absurd a
    same_stops (h ∷ hs) (g ∷ gs) [] a b e = absurd b
    same_stops (h ∷ hs) (g ∷ gs) (f ∷ fs) a b e =
        let d : (view h ≡ view f) × (map view hs ≡ map view fs) = head_is (view h) (view f) (map view hs) (map view fs) e in
        pair (λ (x : Bool) (xs : List Bool). x ∷ xs) (w.stopped g) (w.stopped h) (map w.stopped gs) (map w.stopped hs)
        (both_ways (w.stopped h) (w.stopped g) a.0 (λ s. forgets.stopped h f d.0 ∙ b.0 s)) (same_stops hs gs fs a.1 b.1 d.1)

    goes_round : (p : ℕ) (s : State H C) → ComesBack w view asks budget quotas p s → (n : ℕ) → map w.stopped (run_of w budget quotas n s).harts ≡ map w.stopped s.harts
    goes_round p s c n =
        same_stops s.harts (run_of w budget quotas n s).harts (run_of w budget quotas (n * p) s).harts (run_stays n s)
        (subst (λ (x : State H C). Stays (run_of w budget quotas n s).harts x.harts) (sym (run_sum n (n * p - n) s) ∙ ap (λ (m : ℕ). run_of w budget quotas m s) (whole n p (p - 1) (omega (arith, c.on))))
        (run_stays (n * p - n) (run_of w budget quotas n s)))
        (times_round p n s c).harts

pub runs_come_back : (H K C : Type 0) → RunsComeBack H K C
runs_come_back H K C = λ w view asks forgets budget quotas p s c n. goes_round w view asks forgets budget quotas p s c n

pub later_comes_back : (H K C : Type 0) → LaterComesBack H K C
later_comes_back H K C = λ w view asks forgets budget quotas p s c n. comes_back_later w view asks forgets budget quotas p n s c

pub runs_go_round : (H K C : Type 0) → RunsGoRound H K C
runs_go_round H K C = λ w view asks forgets budget quotas p s c k r. turns_round w view asks forgets budget quotas p k r s c
