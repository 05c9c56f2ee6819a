-- The parallel phase of a round, and its serial phase, step by step as an execution.
use Rattle.std.proofs.Common.{◌≡◌, ◌≢◌, ℕ, zero, suc, ◌+◌, ◌≤◌, ◌==◌, ◌⊎◌, Bool, true, false, if◌then◌else◌, is_some, List, [], ◌∷◌, ◌++◌, length, map, option_to_list, Option, Some, None, refl, sym, ap, subst, ◌∙◌, inl, inr, arith, append_assoc, append-nil}
use Rattle.std.proofs.lemmas.List.{length-append}
use Rattle.std.proofs.lemmas.List.Elements.{All-append}
use Rattle.pages.specs.declared.access.Range.{Range}
use Rattle.pages.specs.declared.access.Store.{Store}
use Rattle.pages.specs.Memory.{IsBytes, Memory, TouchesNoCode, after, any_code, width_bytes}
use Rattle.pages.proofs.StoreLaws.{bytes_after}
use Rattle.round_schedule.specs.declared.access.Access.{Access}
use Rattle.round_schedule.specs.declared.access.Stepped.{Stepped}
use Rattle.round_schedule.specs.declared.access.Stepped.TheVariants.{Done, Stopped, Waits}
use Rattle.round_schedule.specs.declared.event.Event.{Event}
use Rattle.round_schedule.specs.declared.event.Phase.TheVariants.{Parallel, Serial}
use Rattle.round_schedule.specs.declared.span.Span.{Span}
use Rattle.round_schedule.specs.Events.{event_of, events_of}
use Rattle.round_schedule.specs.Held.{held}
use Rattle.round_schedule.specs.Schedule.{HartRound, StepOutcome, Progress, SerialOutcome, State, Turn, Words, all_stores, began, by_answer, committed, ended, events_from, first_or_zero, hart_round_of, hart_rounds, joined, rest_of, round_from, serial_from, turn_from, turn_of, turned, went}
use Rattle.round_schedule.proofs.Runs.{events_of-append}
use Rattle.hart_step.specs.declared.hart.Hart.{Hart}
use Rattle.hart_step.specs.Console.{ConsoleState}
use Rattle.hart_step.specs.SerialStep.{serial_stepped, with_console}
use Rattle.hart_step.specs.Step.{stepped}
use Rattle.hart_step.specs.Words.{words_of}
use Rattle.hart_step.proofs.Waits.{waits_unchanged}
use Rattle.serial_phase.proofs.ShownCode.{serial_clean}
use Rattle.execution.specs.Executions.{IsEventOf, IsLike, MayHold, Standing, no_access, own_held}
use Rattle.execution.specs.Telling.{telling, told, told_outcome, told_serially}
use Rattle.execution.proofs.Answering.{never_waits, stopped_console}
use Rattle.execution.proofs.HeldByOwn.{may_hold_held}
use Rattle.execution.proofs.Liking.{like_stored}
use Rattle.execution.proofs.Serially.{serially_alone}
use Rattle.execution.proofs.Standings.{Stands, stands_goes, stands_later, stands_stops}

none_touched : (code : List Range) → TouchesNoCode code []
none_touched code = λ k d l. absurd (omega (arith, l))

both_touch : (code : List Range) (ss ts : List Store) → TouchesNoCode code ss → TouchesNoCode code ts → TouchesNoCode code (ss ++ ts)
both_touch code ss ts p q = All-append (λ (s : Store). any_code code s.address (width_bytes s.width) ≡ false) ss ts p q

-- what an answer other than waiting says of the same instruction in the serial phase
not_done : (y : Stepped) (a : Option Access) → y ≡ Done a → y ≡ Waits → ⊥
not_done y a d w = cc

not_stopped : (y : Stepped) (code : ℕ) → y ≡ Stopped code → y ≡ Waits → ⊥
not_stopped y code d w = cc

module _ (image : Memory) (start : Standing) where
  abbrev pub w : Words Hart ConsoleState
  w = telling (words_of image.code)

  -- ---- the parallel phase: one hart's part

  -- the memory that a hart sees
  abbrev seen_by : List ℕ → Progress Hart → Memory
  seen_by bs p = record { bytes = after bs p.stores; code = image.code }

  -- as far as this, the hart between others stands so, and its stores touch no code
  abbrev Went : ℕ → List Hart → List Hart → ConsoleState → List Event → Progress Hart → Type 0
  Went n pre post c t p = Stands image start n (pre ++ p.hart ∷ post) c (t ++ events_of n (length pre) Parallel p.accesses) × TouchesNoCode image.code p.stores

  one_event : (n i : ℕ) (t : List Event) (xs : List Access) (x : Access) → (t ++ events_of n i Parallel xs) ++ event_of n i Parallel x ∷ [] ≡ t ++ events_of n i Parallel (xs ++ x ∷ [])
  one_event n i t xs x =
      append_assoc t (events_of n i Parallel xs) (event_of n i Parallel x ∷ []) ∙ ap (λ (u : List Event). t ++ u) (sym (events_of-append n i Parallel xs (x ∷ [])))

  stores_clean : (h : Hart) (m : Memory) → ((stepped h m).answer ≡ Waits → ⊥) → m.code ≡ image.code → TouchesNoCode image.code (stepped h m).stores
  stores_clean h m goes same =
      subst (λ (k : List Range). TouchesNoCode k (stepped h m).stores) same
      (subst (λ (o : SerialOutcome Hart ConsoleState). TouchesNoCode m.code o.stores) (serially_alone m 0 h _ None goes) (serial_clean m 0 h (record { input = []; place = 0; output = [] }) None))

  -- an instruction that is done, with the access x that is told of it
  went_on : (bs : List ℕ) (n : ℕ) (pre post : List Hart) (c : ConsoleState) (t : List Event) (p : Progress Hart) (a : Option Access) (x : Access) →
      IsBytes bs → IsLike image (record { bytes = bs; code = image.code }) → is_some p.hart.stop ≡ false →
      (stepped p.hart (seen_by bs p)).answer ≡ Done a → IsEventOf (length pre) a (event_of n (length pre) Parallel x) →
      Went n pre post c t p → Went n pre post c t (went p (told_outcome (stepped p.hart (seen_by bs p))) (Some x))
  went_on bs n pre post c t p a x small like runs done of s =
      let m : Memory = seen_by bs p in
      let o : SerialOutcome Hart ConsoleState = with_console c (stepped p.hart m) in
      let goes : (stepped p.hart m).answer ≡ Waits → ⊥ = not_done (stepped p.hart m).answer a done in (
        subst (Stands image start n (pre ++ (stepped p.hart m).hart ∷ post) c) (one_event n (length pre) t p.accesses x)
            (stands_goes image start n pre post p.hart c (t ++ events_of n (length pre) Parallel p.accesses) m None o a (event_of n (length pre) Parallel x)
            runs (like_stored image (record { bytes = bs; code = image.code }) p.stores s.1 like) (bytes_after bs p.stores small) (inl refl)
            (serially_alone m n p.hart c None goes) done of s.0),
        both_touch image.code p.stores (stepped p.hart m).stores s.1 (stores_clean p.hart m goes refl),
      )

  -- one that stops its hart
  went_stopped : (bs : List ℕ) (n : ℕ) (pre post : List Hart) (c : ConsoleState) (t : List Event) (p : Progress Hart) (code : ℕ) →
      IsBytes bs → IsLike image (record { bytes = bs; code = image.code }) → is_some p.hart.stop ≡ false → (stepped p.hart (seen_by bs p)).answer ≡ Stopped code →
      Went n pre post c t p → Went n pre post c t (record p { hart = (stepped p.hart (seen_by bs p)).hart })
  went_stopped bs n pre post c t p code small like runs stopped s =
      let m : Memory = seen_by bs p in (
        stands_stops image start n pre post p.hart c (t ++ events_of n (length pre) Parallel p.accesses) m None (with_console c (stepped p.hart m)) code
            runs (like_stored image (record { bytes = bs; code = image.code }) p.stores s.1 like) (bytes_after bs p.stores small) (inl refl)
            (serially_alone m n p.hart c None (not_stopped (stepped p.hart m).answer code stopped)) stopped s.0,
        s.1,
      )

  answered : (bs : List ℕ) (n : ℕ) (pre post : List Hart) (c : ConsoleState) (t : List Event) (p : Progress Hart) (f : Progress Hart → HartRound Hart) (y : Stepped) →
      IsBytes bs → IsLike image (record { bytes = bs; code = image.code }) → is_some p.hart.stop ≡ false → (stepped p.hart (seen_by bs p)).answer ≡ y →
      ((q : Progress Hart) → Went n pre post c t q → Went n pre post c t (f q).last) →
      Went n pre post c t p → Went n pre post c t (by_answer (told y) p (told_outcome (stepped p.hart (seen_by bs p))) f).last
  answered bs n pre post c t p f (Done None) small like runs is rest s =
      rest (went p (told_outcome (stepped p.hart (seen_by bs p))) (Some no_access)) (went_on bs n pre post c t p None no_access small like runs is (record { hart = refl; access = refl }) s)
  answered bs n pre post c t p f (Done (Some a)) small like runs is rest s =
      rest (went p (told_outcome (stepped p.hart (seen_by bs p))) (Some a)) (went_on bs n pre post c t p (Some a) a small like runs is (record { hart = refl; access = refl }) s)
  answered bs n pre post c t p f Waits small like runs is rest s =
      let still : (stepped p.hart (seen_by bs p)).hart ≡ p.hart = (waits_unchanged p.hart (seen_by bs p) is).0 in
      (subst (λ (h : Hart). Stands image start n (pre ++ h ∷ post) c (t ++ events_of n (length pre) Parallel p.accesses)) (sym still) s.0, s.1)
  answered bs n pre post c t p f (Stopped code) small like runs is rest s = went_stopped bs n pre post c t p code small like runs is s

  unless_stopped : (n : ℕ) (pre post : List Hart) (c : ConsoleState) (t : List Event) (p : Progress Hart) (q : HartRound Hart) (b : Bool) →
      Went n pre post c t p → (b ≡ false → Went n pre post c t q.last) → Went n pre post c t (if b then ended p false else q).last
  unless_stopped n pre post c t p q true s next = s
  unless_stopped n pre post c t p q false s next = next refl

  hart_goes : (bs : List ℕ) (n : ℕ) (pre post : List Hart) (c : ConsoleState) (t : List Event) (k : ℕ) (p : Progress Hart) → IsBytes bs → IsLike image (record { bytes = bs; code = image.code }) →
      Went n pre post c t p → Went n pre post c t (round_from w bs k p).last
  unfolding round_from
  hart_goes bs n pre post c t zero p small like s = s
  hart_goes bs n pre post c t (suc k) p small like s =
      unless_stopped n pre post c t p _ (is_some p.hart.stop) s
      (λ runs. answered bs n pre post c t p (round_from w bs k) (stepped p.hart (seen_by bs p)).answer small like runs refl (λ q g. hart_goes bs n pre post c t k q small like g) s)

  -- ---- the parallel phase: all harts

  abbrev pub last_harts : List (HartRound Hart) → List Hart
  last_harts rs = map (λ (r : HartRound Hart). r.last.hart) rs

  pub harts_go : (bs : List ℕ) (n i : ℕ) (pre : List Hart) (c : ConsoleState) (t : List Event) (qs : List ℕ) (hs : List Hart) → length pre ≡ i →
      IsBytes bs → IsLike image (record { bytes = bs; code = image.code }) → Stands image start n (pre ++ hs) c t →
      Stands image start n (pre ++ last_harts (hart_rounds w bs qs hs)) c (t ++ events_from n i (hart_rounds w bs qs hs)) × TouchesNoCode image.code (all_stores (hart_rounds w bs qs hs))
  harts_go bs n i pre c t qs [] size small like s = (subst (Stands image start n (pre ++ []) c) (sym (append-nil t)) s, none_touched image.code)
  harts_go bs n i pre c t qs (h ∷ hs) size small like s =
      let r : HartRound Hart = hart_round_of w bs (first_or_zero qs) h in
      let rs : List (HartRound Hart) = hart_rounds w bs (rest_of qs) hs in
      let one : Went n pre hs c t r.last =
      hart_goes bs n pre hs c t (first_or_zero qs) (began h) small like (subst (Stands image start n (pre ++ h ∷ hs) c) (sym (append-nil t)) s, none_touched image.code) in
      let there : Stands image start n ((pre ++ r.last.hart ∷ []) ++ hs) c (t ++ events_of n i Parallel r.last.accesses) =
      subst (λ (gs : List Hart). Stands image start n gs c (t ++ events_of n i Parallel r.last.accesses)) (sym (append_assoc pre (r.last.hart ∷ []) hs))
      (subst (λ (k : ℕ). Stands image start n (pre ++ r.last.hart ∷ hs) c (t ++ events_of n k Parallel r.last.accesses)) size one.0) in
      let longer : length (pre ++ r.last.hart ∷ []) ≡ suc i = simp length-append (omega (arith, size)) in
      let rest : Stands image start n ((pre ++ r.last.hart ∷ []) ++ last_harts rs) c ((t ++ events_of n i Parallel r.last.accesses) ++ events_from n (suc i) rs) × TouchesNoCode image.code (all_stores rs) =
      harts_go bs n (suc i) (pre ++ r.last.hart ∷ []) c (t ++ events_of n i Parallel r.last.accesses) (rest_of qs) hs longer small like there in (
        subst (λ (gs : List Hart). Stands image start n gs c (t ++ (events_of n i Parallel r.last.accesses ++ events_from n (suc i) rs))) (append_assoc pre (r.last.hart ∷ []) (last_harts rs))
            (subst (Stands image start n ((pre ++ r.last.hart ∷ []) ++ last_harts rs) c) (append_assoc t (events_of n i Parallel r.last.accesses) (events_from n (suc i) rs)) rest.0),
        both_touch image.code r.last.stores (all_stores rs) one.1 rest.1,
      )

  -- ---- the serial phase: one hart's turn

  -- as far as this, the hart between others stands so, over memory that is like the image
  record Served (n : ℕ) (pre post : List Hart) (p : Turn Hart ConsoleState) : Type 0 where
    stands : Stands image start n (pre ++ p.hart ∷ post) p.console p.trace
    bytes : IsBytes p.bytes
    like : IsLike image (record { bytes = p.bytes; code = image.code })

  abbrev memory_of : Turn Hart ConsoleState → Memory
  memory_of p = record { bytes = p.bytes; code = image.code }

  abbrev next_of_turn : ℕ → ℕ → Turn Hart ConsoleState → SerialOutcome Hart ConsoleState
  next_of_turn n i p = serial_stepped n p.hart (memory_of p) p.console (held i p.trace)

  turn_on : (n i : ℕ) (pre post : List Hart) (p : Turn Hart ConsoleState) (a : Option Access) (x : Access) → length pre ≡ i → is_some p.hart.stop ≡ false →
      (next_of_turn n i p).answer ≡ Done a → IsEventOf (length pre) a (event_of n i Serial x) → Served n pre post p →
      Served n pre post (record { hart = (next_of_turn n i p).hart; bytes = after p.bytes (next_of_turn n i p).stores; console = (next_of_turn n i p).console; trace = p.trace ++ event_of n i Serial x ∷ [] })
  turn_on n i pre post p a x size runs done of s = record {
    stands = stands_goes image start n pre post p.hart p.console p.trace (memory_of p) (held i p.trace) (next_of_turn n i p) a (event_of n i Serial x)
        runs s.like s.bytes (subst (λ (k : ℕ). MayHold (own_held k p.trace) (held i p.trace)) (sym size) (may_hold_held i p.trace)) refl done of s.stands;
    bytes = bytes_after p.bytes (next_of_turn n i p).stores s.bytes;
    like = like_stored image (memory_of p) (next_of_turn n i p).stores (serial_clean (memory_of p) n p.hart p.console (held i p.trace)) s.like;
  }

  turn_answered : (n i : ℕ) (pre post : List Hart) (p : Turn Hart ConsoleState) (f : Turn Hart ConsoleState → Turn Hart ConsoleState) (y : Stepped) → length pre ≡ i → is_some p.hart.stop ≡ false →
      (next_of_turn n i p).answer ≡ y → ((q : Turn Hart ConsoleState) → Served n pre post q → Served n pre post (f q)) →
      Served n pre post p → Served n pre post (turned n i (told y) p (told_serially (next_of_turn n i p)) f)
  turn_answered n i pre post p f (Done None) size runs is rest s =
      rest _ (turn_on n i pre post p None no_access size runs is (record { hart = sym size; access = refl }) s)
  turn_answered n i pre post p f (Done (Some a)) size runs is rest s =
      rest _ (turn_on n i pre post p (Some a) a size runs is (record { hart = sym size; access = refl }) s)
  turn_answered n i pre post p f Waits size runs is rest s = absurd (never_waits (memory_of p) n p.hart p.console (held i p.trace) is)
  turn_answered n i pre post p f (Stopped code) size runs is rest s = record {
    stands = subst (λ (c : ConsoleState). Stands image start n (pre ++ (next_of_turn n i p).hart ∷ post) c p.trace) (stopped_console n p.hart (memory_of p) p.console (held i p.trace) code is)
        (stands_stops image start n pre post p.hart p.console p.trace (memory_of p) (held i p.trace) (next_of_turn n i p) code
        runs s.like s.bytes (subst (λ (k : ℕ). MayHold (own_held k p.trace) (held i p.trace)) (sym size) (may_hold_held i p.trace)) refl is s.stands);
    bytes = s.bytes;
    like = s.like;
  }

  turn_unless : (n : ℕ) (pre post : List Hart) (p q : Turn Hart ConsoleState) (b : Bool) → Served n pre post p → (b ≡ false → Served n pre post q) → Served n pre post (if b then p else q)
  turn_unless n pre post p q true s next = s
  turn_unless n pre post p q false s next = next refl

  turn_goes : (n i k : ℕ) (pre post : List Hart) (p : Turn Hart ConsoleState) → length pre ≡ i → Served n pre post p → Served n pre post (turn_from w n i k p)
  unfolding turn_from
  turn_goes n i zero pre post p size s = s
  turn_goes n i (suc k) pre post p size s =
      turn_unless n pre post p _ (is_some p.hart.stop) s
      (λ runs. turn_answered n i pre post p (turn_from w n i k) (next_of_turn n i p).answer size runs refl (λ q g. turn_goes n i k pre post q size g) s)

  -- ---- the serial phase: all harts

  -- the state in the serial phase, before the turns of these rounds
  pub record Serving (rs : List (HartRound Hart)) (s : State Hart ConsoleState) : Type 0 where
    pub stands : Stands image start s.rounds (s.harts ++ last_harts rs) s.console s.trace
    pub bytes : IsBytes s.bytes
    pub like : IsLike image (record { bytes = s.bytes; code = image.code })

  pub turns_go : (budget i : ℕ) (rs : List (HartRound Hart)) (s : State Hart ConsoleState) → length s.harts ≡ i → Serving rs s →
      Serving [] (serial_from w budget i rs s) × ((serial_from w budget i rs s).rounds ≡ s.rounds)
  turns_go budget i [] s size g = (g, refl)
  turns_go budget i (r ∷ rs) s size g =
      let t : Turn Hart ConsoleState = turn_of w budget s i r in
      let done : Served s.rounds s.harts (last_harts rs) t =
      turn_goes s.rounds i (if r.waits then budget else 0) s.harts (last_harts rs) (record { hart = r.last.hart; bytes = s.bytes; console = s.console; trace = s.trace }) size
      (record { stands = g.stands; bytes = g.bytes; like = g.like }) in
      turns_go budget (suc i) rs (joined s t) (simp length-append (omega (arith, size))) (record {
        stands = subst (λ (hs : List Hart). Stands image start s.rounds hs t.console t.trace) (sym (append_assoc s.harts (t.hart ∷ []) (last_harts rs))) done.stands;
        bytes = done.bytes;
        like = done.like;
      })
