-- A round trace told event by event: what each event is after those before it.
use Rattle.std.proofs.Common.{◌≡◌, ℕ, zero, suc, ◌<◌, ◌≤◌, ◌==◌, ◌||◌, ◌&&◌, Bool, true, false, nat_lt, List, [], ◌∷◌, ◌++◌, length, take, All, count_by, Option, Some, None, refl, sym, ◌∙◌, ap, subst, inl, inr, ◌⊎◌, arith, add-one}
use Rattle.std.proofs.Math.Seq.{take-append_seam}
use Rattle.std.proofs.lemmas.Bool.{cases_lt, cases_eq}
use Rattle.std.proofs.lemmas.Bool.Decides.{nat_tests}
use Rattle.std.proofs.lemmas.List.{get_or-take, length-take-le, take-append-le, take_all}
use Rattle.std.proofs.lemmas.List.Sums.{count_by_more_no, count_by_more_yes}
use Rattle.pages.specs.Memory.{in_range, width_bytes}
use Rattle.round_schedule.specs.declared.access.Access.{Access}
use Rattle.round_schedule.specs.declared.access.Access.TheVariants.{Load, Store, LoadReserved, StoreConditional, Atomic, Fence}
use Rattle.round_schedule.specs.declared.event.Event.{Event}
use Rattle.round_schedule.specs.declared.span.Span.{Span}
use Rattle.round_schedule.specs.Accesses.{address_of, byte_read, byte_written, bytes_of, is_lr, is_sc, must_be_serial, reads, stores, writes}
use Rattle.round_schedule.specs.Events.{is_serial}
use Rattle.round_schedule.specs.Held.{held}
use Rattle.round_schedule.specs.HeldBy.{HeldBy}
use Rattle.round_schedule.specs.Positions.{IsLatest, event, no_event, reads_at, source_byte}
use Rattle.round_schedule.specs.RoundTrace.{Follows, IsRoundTrace, Reservation, SeenInParallel, SeenInSerial, in_turn}
use Rattle.round_schedule.specs.Spans.{span_of}
use Rattle.round_schedule.proofs.Folds.{LastWrite, Writer, byte_after, event_before, event_past, event_last, last_write, length_push, reader_within, same_latest, writer_within}
use Rattle.round_schedule.proofs.Holding.{held_is}

-- whether a parallel load of this round and hart may see an event's writes
abbrev pub seen : ℕ → ℕ → Event → Bool
seen n i e = nat_lt e.round n || (e.hart == i)

abbrev pub every : Event → Bool
every e = true

-- the event may come after the trace
pub record Right (opening : ℕ → ℕ) (budget : ℕ) (u : List Event) (e : Event) : Type 0 where
  pub follows : All (λ f. Follows f e) u
  pub word : must_be_serial e.access ≡ true → is_serial e.phase ≡ true
  pub few : is_serial e.phase ≡ true → count_by (in_turn e.hart e.round) u < budget
  pub parallel : is_serial e.phase ≡ false → (x : ℕ) → reads e.access x ≡ true → byte_read e.access x ≡ byte_after (seen e.round e.hart) (opening x) u x
  pub serial : is_serial e.phase ≡ true → (x : ℕ) → reads e.access x ≡ true → byte_read e.access x ≡ byte_after every (opening x) u x
  pub reserved : is_sc e.access ≡ true → stores e.access ≡ true → held e.hart u ≡ span_of e.access

pub record AllRight (opening : ℕ → ℕ) (budget : ℕ) (t : List Event) : Type 0 where
  pub each : (r : ℕ) → r < length t → Right opening budget (take r t) (event t r)

pub none_right : (opening : ℕ → ℕ) (budget : ℕ) → AllRight opening budget []
none_right opening budget = record { each = λ r l. absurd (omega (arith, l)) }

pub one_more : (opening : ℕ → ℕ) (budget : ℕ) (t : List Event) (e : Event) → AllRight opening budget t → Right opening budget t e → AllRight opening budget (t ++ e ∷ [])
one_more opening budget t e a h = record {
  each = λ r l. elim (cases_lt r (length t)) [
    | inl f ↦
        subst (λ (u : List Event). Right opening budget u (event (t ++ e ∷ []) r)) (sym (take-append-le r t (e ∷ []) (omega (arith, f))))
        (subst (Right opening budget (take r t)) (sym (event_before t (e ∷ []) r f)) (a.each r f))
    | inr f ↦
        let last : r ≡ length t = omega (arith, f, l, length_push t e) in
        subst (λ (k : ℕ). Right opening budget (take k (t ++ e ∷ [])) (event (t ++ e ∷ []) k)) (sym last)
        (subst (λ (u : List Event). Right opening budget u (event (t ++ e ∷ []) (length t))) (sym (take-append_seam t (e ∷ [])))
        (subst (Right opening budget t) (sym (event_last t e)) h))
  ];
}

-- ---- words on accesses

none_sc : is_sc no_event.access ≡ false
unfolding no_event
none_sc = refl

sc_span : (a : Access) → is_sc a ≡ true → (s : Span) × (span_of a ≡ Some s)
sc_span (Load w p a r) h = cc
sc_span (Store w p a v) h = cc
sc_span (LoadReserved w o p a r) h = cc
sc_span (StoreConditional w o p a v) h = (record { address = a; width = w }, refl)
sc_span (Atomic w o p a r v) h = cc
sc_span (Fence b a m p) h = cc

span_is : (b u : Span) → ◌≡◌ {A = Option Span} (Some b) (Some u) → b ≡ u
span_is b u e = cc

span_range : (a : Access) (s : Span) → span_of a ≡ Some s → (address_of a ≡ s.address) × (bytes_of a ≡ width_bytes s.width)
span_range (Load w p a r) s e = let d = span_is (record { address = a; width = w }) s e in (ap (λ (u : Span). u.address) d, ap (λ (u : Span). width_bytes u.width) d)
span_range (Store w p a v) s e = let d = span_is (record { address = a; width = w }) s e in (ap (λ (u : Span). u.address) d, ap (λ (u : Span). width_bytes u.width) d)
span_range (LoadReserved w o p a r) s e = let d = span_is (record { address = a; width = w }) s e in (ap (λ (u : Span). u.address) d, ap (λ (u : Span). width_bytes u.width) d)
span_range (StoreConditional w o p a v) s e = let d = span_is (record { address = a; width = w }) s e in (ap (λ (u : Span). u.address) d, ap (λ (u : Span). width_bytes u.width) d)
span_range (Atomic w o p a r v) s e = let d = span_is (record { address = a; width = w }) s e in (ap (λ (u : Span). u.address) d, ap (λ (u : Span). width_bytes u.width) d)
span_range (Fence b a m p) s e = cc

pub turn_parts : (s : Bool) (i h m n : ℕ) → (s && (i == h) && (m == n)) ≡ true → (s ≡ true) × (i ≡ h) × (m ≡ n)
turn_parts s i h m n e = (one s i h m n e, two s i h m n e, three s i h m n e)
  where
    one : (s : Bool) (i h m n : ℕ) → (s && (i == h) && (m == n)) ≡ true → s ≡ true
    one s i h m n e = grind (arith, nat_tests)

    two : (s : Bool) (i h m n : ℕ) → (s && (i == h) && (m == n)) ≡ true → i ≡ h
    two s i h m n e = grind (arith, nat_tests)

    three : (s : Bool) (i h m n : ℕ) → (s && (i == h) && (m == n)) ≡ true → m ≡ n
    three s i h m n e = grind (arith, nat_tests)

-- ---- from the events to the trace

module _ (t : List Event) (opening : ℕ → ℕ) (budget : ℕ) (a : AllRight opening budget t) where
  -- an event of a front is that of the trace
  front_event : (r i : ℕ) → i < r → event (take r t) i ≡ event t i
  front_event r i l = get_or-take r t i no_event l

  front_length : (r : ℕ) → r ≤ length t → length (take r t) ≡ r
  front_length r l = length-take-le r t l

  ordered : (i j : ℕ) → i < j → j < length t → Follows (event t i) (event t j)
  ordered i j l m =
      subst (λ (e : Event). Follows e (event t j)) (front_event j i l)
      ((a.each j m).follows i no_event (omega (arith, l, m, front_length j (omega (arith, m)))))

  -- ---- what a load sees

  seen_test : (m n h i : ℕ) → (nat_lt m n || (h == i)) ≡ true → (m < n) ⊎ (h ≡ i)
  seen_test m n h i e = elim (cases_lt m n) [ inl l ↦ inl l | inr l ↦ inr (second m n h i l e) ]
    where
      second : (m n h i : ℕ) → n ≤ m → (nat_lt m n || (h == i)) ≡ true → h ≡ i
      second m n h i l e = grind (arith, nat_tests)

  from_round : (m n h i : ℕ) → m < n → (nat_lt m n || (h == i)) ≡ true
  from_round m n h i l = grind (arith, nat_tests)

  from_hart : (m n h i : ℕ) → h ≡ i → (nat_lt m n || (h == i)) ≡ true
  from_hart m n h i e = grind (arith, nat_tests)

  front_source : (p : Event → Bool) (r x : ℕ) → r ≤ length t → (s : Option ℕ) → IsLatest (λ w. w) (Writer p (take r t) x) s →
      source_byte (take r t) opening x s ≡ source_byte t opening x s
  front_source p r x l None h = refl
  front_source p r x l (Some w) h = ap (λ (e : Event). byte_written e.access x) (front_event r w (omega (arith, h.0.within, front_length r l)))

  to_serial : (r x : ℕ) → r ≤ length t → (w : ℕ) → Writer every (take r t) x w → SeenInSerial t r x w
  to_serial r x l w h =
      let before : w < r = omega (arith, h.within, front_length r l) in
      (sym (ap (λ (e : Event). writes e.access x) (front_event r w before)) ∙ h.writes, before)

  from_serial : (r x : ℕ) → r ≤ length t → (w : ℕ) → SeenInSerial t r x w → Writer every (take r t) x w
  from_serial r x l w h = record {
    within = omega (arith, h.1, front_length r l);
    passes = refl;
    writes = ap (λ (e : Event). writes e.access x) (front_event r w h.1) ∙ h.0;
  }

  to_parallel : (r x : ℕ) → r ≤ length t → (w : ℕ) → Writer (seen (event t r).round (event t r).hart) (take r t) x w → SeenInParallel t r x w
  to_parallel r x l w h =
      let before : w < r = omega (arith, h.within, front_length r l) in
      let same : event (take r t) w ≡ event t w = front_event r w before in (
        sym (ap (λ (e : Event). writes e.access x) same) ∙ h.writes,
        elim (seen_test (event t w).round (event t r).round (event t w).hart (event t r).hart (sym (ap (seen (event t r).round (event t r).hart) same) ∙ h.passes)) [
          | inl m ↦ inl m
          | inr m ↦ inr (record { earlier = before; same_hart = m })
        ],
      )

  -- a write of an earlier round stands earlier
  earlier_round : (w r : ℕ) → w < length t → (event t w).round < (event t r).round → w < r
  earlier_round w r l m = elim (cases_lt w r) [
    | inl f ↦ f
    | inr f ↦ elim (cases_eq r w) [
      | inl same ↦ absurd (omega (arith, m, ap (λ (k : ℕ). (event t k).round) same))
      | inr other ↦
          let order : Follows (event t r) (event t w) = ordered r w (omega (arith, f, other)) l in
          absurd (omega (arith, m, order.rounds))
    ]
  ]

  from_parallel : (r x : ℕ) → r ≤ length t → (w : ℕ) → SeenInParallel t r x w → Writer (seen (event t r).round (event t r).hart) (take r t) x w
  from_parallel r x l w h = elim h.1 [
    | inl m ↦ made (earlier_round w r (writer_within t w x h.0) m) (from_round (event t w).round (event t r).round (event t w).hart (event t r).hart m)
    | inr p ↦ made p.earlier (from_hart (event t w).round (event t r).round (event t w).hart (event t r).hart p.same_hart)
  ]
    where
      made : w < r → seen (event t r).round (event t r).hart (event t w) ≡ true → Writer (seen (event t r).round (event t r).hart) (take r t) x w
      made before test = record {
        within = omega (arith, before, front_length r l);
        passes = ap (seen (event t r).round (event t r).hart) (front_event r w before) ∙ test;
        writes = ap (λ (e : Event). writes e.access x) (front_event r w before) ∙ h.0;
      }

  load_parallel : (r x : ℕ) → reads_at t r x ≡ true → is_serial (event t r).phase ≡ false →
      (s : Option ℕ) × IsLatest (λ w. w) (SeenInParallel t r x) s × (byte_read (event t r).access x ≡ source_byte t opening x s)
  unfolding LastWrite
  load_parallel r x h p =
      let l : r < length t = reader_within t r x h in
      let le : r ≤ length t = omega (arith, l) in
      let last : LastWrite (seen (event t r).round (event t r).hart) opening x (take r t) = last_write (seen (event t r).round (event t r).hart) opening x (take r t) in (
        last.0,
        same_latest (Writer (seen (event t r).round (event t r).hart) (take r t) x) (SeenInParallel t r x) (to_parallel r x le) (from_parallel r x le) last.0 last.1,
        (a.each r l).parallel p x h ∙ last.2 ∙ front_source (seen (event t r).round (event t r).hart) r x le last.0 last.1,
      )

  load_serial : (r x : ℕ) → reads_at t r x ≡ true → is_serial (event t r).phase ≡ true →
      (s : Option ℕ) × IsLatest (λ w. w) (SeenInSerial t r x) s × (byte_read (event t r).access x ≡ source_byte t opening x s)
  unfolding LastWrite
  load_serial r x h p =
      let l : r < length t = reader_within t r x h in
      let le : r ≤ length t = omega (arith, l) in
      let last : LastWrite every opening x (take r t) = last_write every opening x (take r t) in (
        last.0,
        same_latest (Writer every (take r t) x) (SeenInSerial t r x) (to_serial r x le) (from_serial r x le) last.0 last.1,
        (a.each r l).serial p x h ∙ last.2 ∙ front_source every r x le last.0 last.1,
      )

  -- ---- words, turns and reservations

  none_serial : must_be_serial no_event.access ≡ false
  unfolding no_event
  none_serial = refl

  word_serial : (i : ℕ) → must_be_serial (event t i).access ≡ true → is_serial (event t i).phase ≡ true
  word_serial i h = elim (cases_lt i (length t)) [
    | inl l ↦ (a.each i l).word h
    | inr l ↦ absurd (cc (sym h ∙ ap (λ (e : Event). must_be_serial e.access) (event_past t i l) ∙ none_serial))
  ]

  counted_by : (h n r : ℕ) (b : Bool) → r < length t → in_turn h n (event t r) ≡ b → count_by (in_turn h n) (take r t) ≤ budget → count_by (in_turn h n) (take (suc r) t) ≤ budget
  counted_by h n r true l e before =
      let parts : (is_serial (event t r).phase ≡ true) × ((event t r).hart ≡ h) × ((event t r).round ≡ n) =
      turn_parts (is_serial (event t r).phase) (event t r).hart h (event t r).round n e in
      let few : count_by (in_turn (event t r).hart (event t r).round) (take r t) < budget = (a.each r l).few parts.0 in
      let same : count_by (in_turn h n) (take r t) < budget =
      subst (λ (m : ℕ). count_by (in_turn h m) (take r t) < budget) parts.2 (subst (λ (i : ℕ). count_by (in_turn i (event t r).round) (take r t) < budget) parts.1 few) in
      subst (λ (k : ℕ). count_by (in_turn h n) (take k t) ≤ budget) (add-one r) (omega (arith, same, count_by_more_yes (in_turn h n) t r no_event l e))
  counted_by h n r false l e before =
      subst (λ (k : ℕ). count_by (in_turn h n) (take k t) ≤ budget) (add-one r) (omega (arith, before, count_by_more_no (in_turn h n) t r no_event l e))

  counted : (h n r : ℕ) → r ≤ length t → count_by (in_turn h n) (take r t) ≤ budget
  counted h n zero l = omega arith
  counted h n (suc r) l = counted_by h n r (in_turn h n (event t r)) (omega (arith, l)) refl (counted h n r (omega (arith, l)))

  sc_within : (c : ℕ) → is_sc (event t c).access ≡ true → c < length t
  sc_within c h = elim (cases_lt c (length t)) [
    | inl l ↦ l
    | inr l ↦ absurd (cc (sym h ∙ ap (λ (e : Event). is_sc e.access) (event_past t c l) ∙ none_sc))
  ]

  reserved_by : (c l : ℕ) (s : Span) → c ≤ length t → span_of (event t c).access ≡ Some s → HeldBy (take c t) (event t c).hart s l → Reservation t l c
  reserved_by c l s le is h =
      let before : l < c = omega (arith, h.within, front_length c le) in
      let here : event (take c t) l ≡ event t l = front_event c l before in
      let bytes : span_of (event t l).access ≡ Some s = sym (ap (λ (e : Event). span_of e.access) here) ∙ h.bytes in
      let range : (address_of (event t l).access ≡ s.address) × (bytes_of (event t l).access ≡ width_bytes s.width) = span_range (event t l).access s bytes in
      record {
        reserved = sym (ap (λ (e : Event). is_lr e.access) here) ∙ h.reserved;
        in_program = record { earlier = before; same_hart = sym (ap (λ (e : Event). e.hart) here) ∙ h.same_hart };
        same_bytes = bytes ∙ sym is;
        last = λ k m n o y.
            let there : event (take c t) k ≡ event t k = front_event c k n in
            h.last k m (omega (arith, n, front_length c le)) (ap (λ (e : Event). e.hart) there ∙ o) (ap (λ (e : Event). is_lr e.access || is_sc e.access) there ∙ y);
        unbroken = λ k x m n o i y.
            let there : event (take c t) k ≡ event t k = front_event c k n in
            h.unbroken k x m (omega (arith, n, front_length c le)) (λ d. o (sym (ap (λ (e : Event). e.hart) there) ∙ d))
            (subst (λ (j : ℕ). in_range s.address j x ≡ true) range.1 (subst (λ (j : ℕ). in_range j (bytes_of (event t l).access) x ≡ true) range.0 i))
            (ap (λ (e : Event). writes e.access x) there ∙ y);
      }

  reservation : (c : ℕ) → is_sc (event t c).access ≡ true → stores (event t c).access ≡ true → (l : ℕ) × Reservation t l c
  reservation c h s =
      let within : c < length t = sc_within c h in
      let span : (u : Span) × (span_of (event t c).access ≡ Some u) = sc_span (event t c).access h in
      let found : (l : ℕ) × HeldBy (take c t) (event t c).hart span.0 l = held_is (event t c).hart (take c t) span.0 ((a.each c within).reserved h s ∙ span.1) in
      (found.0, reserved_by c found.0 span.0 (omega (arith, within)) span.1 found.1)

pub round_trace_from : (t : List Event) (opening : ℕ → ℕ) (budget : ℕ) → AllRight opening budget t → IsRoundTrace t opening budget
round_trace_from t opening budget a = record {
  in_order = ordered t opening budget a;
  serial_words = word_serial t opening budget a;
  budgeted = λ h n. subst (λ (u : List Event). count_by (in_turn h n) u ≤ budget) (take_all (length t) t (omega arith)) (counted t opening budget a h n (length t) (omega arith));
  parallel_loads = load_parallel t opening budget a;
  serial_loads = load_serial t opening budget a;
  reservations = reservation t opening budget a;
}
