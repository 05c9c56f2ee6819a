-- What holds while a run goes on: between rounds, in the parallel phase, and in the serial phase.
use Rattle.std.proofs.Common.{◌≡◌, ℕ, suc, ◌+◌, ◌<◌, ◌≤◌, ◌==◌, ◌||◌, ◌&&◌, Bool, true, false, nat_lt, if◌then◌else◌, List, [], ◌∷◌, ◌++◌, length, get_or, All, count_by, Option, Some, None, option_to_list, refl, sym, ◌∙◌, ap, subst, arith, append_assoc, append-nil}
use Rattle.std.proofs.lemmas.Bool.Decides.{nat_tests}
use Rattle.std.proofs.lemmas.List.Elements.{All-head, All-push}
use Rattle.std.proofs.lemmas.List.Recursion.{is_count_by}
use Rattle.std.specs.List.{slice_index}
use Rattle.pages.specs.declared.access.Store.{Store}
use Rattle.pages.specs.Memory.{IsBytes, after, last_byte}
use Rattle.pages.proofs.StoreLaws.{byte_after as byte_stored, bytes_after, last_byte-append, length-after}
use Rattle.round_schedule.specs.declared.access.Access.{Access}
use Rattle.round_schedule.specs.declared.access.Access.TheVariants.{Load, Store as StoreAccess, LoadReserved, StoreConditional, Atomic, Fence}
use Rattle.round_schedule.specs.declared.event.Event.{Event}
use Rattle.round_schedule.specs.declared.span.Span.{Span}
use Rattle.round_schedule.specs.declared.event.Phase.{Phase}
use Rattle.round_schedule.specs.declared.event.Phase.TheVariants.{Parallel, Serial}
use Rattle.round_schedule.specs.Accesses.{byte_written, is_sc, must_be_serial, stores, writes}
use Rattle.round_schedule.specs.Events.{event_of, events_of, is_serial}
use Rattle.round_schedule.specs.Held.{held}
use Rattle.round_schedule.specs.RoundTrace.{Follows, in_turn, phase_number}
use Rattle.round_schedule.specs.Sound.{Agrees, HasReservation, Matches, IsParallel}
use Rattle.round_schedule.specs.Spans.{span_of}
use Rattle.round_schedule.proofs.Folds.{byte_after, byte_push}
use Rattle.round_schedule.proofs.Local.{AllRight, every, one_more, seen, turn_parts}

-- an event that precedes all of hart i's in this phase of round n
pub record Below (n : ℕ) (s : Phase) (i : ℕ) (f : Event) : Type 0 where
  pub rounds : f.round ≤ n
  pub phases : f.round ≡ n → phase_number f.phase ≤ phase_number s
  pub harts : f.round ≡ n → phase_number f.phase ≡ phase_number s → f.hart < i

-- between rounds, n of them done
pub record Between (opening : ℕ → ℕ) (budget n : ℕ) (t : List Event) (bs : List ℕ) : Type 0 where
  pub bytes : IsBytes bs
  pub grown : AllRight opening budget t
  pub below : All (λ (f : Event). f.round ≤ n) t
  pub memory : (x : ℕ) → x < length bs → byte_after every (opening x) t x ≡ slice_index bs x

-- in the parallel phase of round n, over the bytes of its start: hart i has not begun, and K are the stores of the harts before it
pub record Ready (opening : ℕ → ℕ) (budget : ℕ) (bs : List ℕ) (n i : ℕ) (t : List Event) (K : List Store) : Type 0 where
  pub bytes : IsBytes bs
  pub grown : AllRight opening budget t
  pub below : All (Below n Parallel i) t
  pub fresh : (j x : ℕ) → i ≤ j → x < length bs → byte_after (seen n j) (opening x) t x ≡ slice_index bs x
  pub memory : (x : ℕ) → x < length bs → byte_after every (opening x) t x ≡ last_byte (slice_index bs x) K x

-- hart i has made the stores S
pub record Busy (opening : ℕ → ℕ) (budget : ℕ) (bs : List ℕ) (n i : ℕ) (t : List Event) (K S : List Store) : Type 0 where
  pub bytes : IsBytes bs
  pub grown : AllRight opening budget t
  pub below : All (Below n Parallel (suc i)) t
  pub own : (x : ℕ) → x < length bs → byte_after (seen n i) (opening x) t x ≡ last_byte (slice_index bs x) S x
  pub fresh : (j x : ℕ) → i < j → x < length bs → byte_after (seen n j) (opening x) t x ≡ slice_index bs x
  pub memory : (x : ℕ) → x < length bs → byte_after every (opening x) t x ≡ last_byte (slice_index bs x) (K ++ S) x

-- in the serial phase of round n, over memory as it is: hart i's turn has not begun
pub record Waiting (opening : ℕ → ℕ) (budget : ℕ) (n i : ℕ) (t : List Event) (bs : List ℕ) : Type 0 where
  pub bytes : IsBytes bs
  pub grown : AllRight opening budget t
  pub below : All (Below n Serial i) t
  pub memory : (x : ℕ) → x < length bs → byte_after every (opening x) t x ≡ slice_index bs x

-- k instructions are left of hart i's turn
pub record Serving (opening : ℕ → ℕ) (budget : ℕ) (n i k : ℕ) (t : List Event) (bs : List ℕ) : Type 0 where
  pub bytes : IsBytes bs
  pub grown : AllRight opening budget t
  pub below : All (Below n Serial (suc i)) t
  pub few : count_by (in_turn i n) t + k ≤ budget
  pub memory : (x : ℕ) → x < length bs → byte_after every (opening x) t x ≡ slice_index bs x

-- ---- what holds of each event of a trace

pub All-tail : {X : Type 0} (P : X → Type 0) (x : X) (xs : List X) → All P (x ∷ xs) → All P xs
All-tail P x xs h = λ k d l. h (suc k) d (omega (arith, l))

pub All-weaker : {X : Type 0} (P Q : X → Type 0) → ((x : X) → P x → Q x) → (xs : List X) → All P xs → All Q xs
All-weaker P Q f xs h = λ k d l. f (get_or xs k d) (h k d l)

follows_below : (n : ℕ) (s : Phase) (i : ℕ) (a : Access) (f : Event) → Below n s (suc i) f → Follows f (event_of n i s a)
follows_below n s i a f b = record { rounds = b.rounds; phases = b.phases; harts = λ e p. omega (arith, b.harts e p) }

below_self : (n : ℕ) (s : Phase) (i : ℕ) (a : Access) → Below n s (suc i) (event_of n i s a)
below_self n s i a = record { rounds = omega arith; phases = λ e. omega arith; harts = λ e p. omega arith }

-- ---- bytes after one more event

byte_push_seen : (p : Event → Bool) (b : ℕ) (t : List Event) (e : Event) (x : ℕ) → p e ≡ true →
    byte_after p b (t ++ e ∷ []) x ≡ (if writes e.access x then byte_written e.access x else byte_after p b t x)
byte_push_seen p b t e x h = byte_push p b t e x ∙ ap (λ (c : Bool). if c && writes e.access x then byte_written e.access x else byte_after p b t x) h

byte_push_hidden : (p : Event → Bool) (b : ℕ) (t : List Event) (e : Event) (x : ℕ) → p e ≡ false → byte_after p b (t ++ e ∷ []) x ≡ byte_after p b t x
byte_push_hidden p b t e x h = byte_push p b t e x ∙ ap (λ (c : Bool). if c && writes e.access x then byte_written e.access x else byte_after p b t x) h

seen_own : (n i : ℕ) (s : Phase) (a : Access) → seen n i (event_of n i s a) ≡ true
seen_own n i s a = test n i
  where
    test : (n i : ℕ) → (nat_lt n n || (i == i)) ≡ true
    test n i = grind (arith, nat_tests)

hidden : (n i j : ℕ) (s : Phase) (a : Access) → i < j → seen n j (event_of n i s a) ≡ false
hidden n i j s a l = test n i j l
  where
    test : (n i j : ℕ) → i < j → (nat_lt n n || (i == j)) ≡ false
    test n i j l = grind (arith, nat_tests)

seen_old : (n i : ℕ) (f : Event) → f.round < n → seen n i f ≡ true
seen_old n i f l = test f.round n f.hart i l
  where
    test : (m n h i : ℕ) → m < n → (nat_lt m n || (h == i)) ≡ true
    test m n h i l = grind (arith, nat_tests)

-- an event that is seen lays its bytes over those before it
overlaid : (p : Event → Bool) (b c : ℕ) (t : List Event) (e : Event) (ss ts : List Store) (bs : List ℕ) (x : ℕ) → p e ≡ true → Matches bs e.access ts →
    byte_after p b t x ≡ last_byte c ss x → byte_after p b (t ++ e ∷ []) x ≡ last_byte c (ss ++ ts) x
overlaid p b c t e ss ts bs x h m g =
    byte_push_seen p b t e x h ∙ ap (λ (v : ℕ). if writes e.access x then byte_written e.access x else v) g ∙ sym (m.put_bytes x (last_byte c ss x)) ∙ sym (last_byte-append c ss ts x)

-- ---- the parallel phase

pub begin : (opening : ℕ → ℕ) (budget : ℕ) (bs : List ℕ) (n i : ℕ) (t : List Event) (K : List Store) → Ready opening budget bs n i t K → Busy opening budget bs n i t K []
begin opening budget bs n i t K r = record {
  bytes = r.bytes;
  grown = r.grown;
  below = All-weaker (Below n Parallel i) (Below n Parallel (suc i)) (λ f b. record { rounds = b.rounds; phases = b.phases; harts = λ e p. omega (arith, b.harts e p) }) t r.below;
  own = λ x l. r.fresh i x (omega arith) l;
  fresh = λ j x h l. r.fresh j x (omega (arith, h)) l;
  memory = λ x l. r.memory x l ∙ ap (λ (v : List Store). last_byte (slice_index bs x) v x) (sym (append-nil K));
}

pub finish : (opening : ℕ → ℕ) (budget : ℕ) (bs : List ℕ) (n i : ℕ) (t : List Event) (K S : List Store) → Busy opening budget bs n i t K S → Ready opening budget bs n (suc i) t (K ++ S)
finish opening budget bs n i t K S b = record {
  bytes = b.bytes;
  grown = b.grown;
  below = b.below;
  fresh = λ j x h l. b.fresh j x (omega (arith, h)) l;
  memory = b.memory;
}

not_sc : (a : Access) → must_be_serial a ≡ false → is_sc a ≡ true → ⊥
not_sc (Load w p a r) h k = cc
not_sc (StoreAccess w p a v) h k = cc
not_sc (LoadReserved w o p a r) h k = cc
not_sc (StoreConditional w o p a v) h k = cc
not_sc (Atomic w o p a r v) h k = cc
not_sc (Fence b a m p) h k = cc

pub step_parallel : (opening : ℕ → ℕ) (budget : ℕ) (bs : List ℕ) (n i : ℕ) (t : List Event) (K S : List Store) (a : Option Access) (ss : List Store) →
    Agrees (after bs S) ss a → IsParallel a → Busy opening budget bs n i t K S → Busy opening budget bs n i (t ++ events_of n i Parallel (option_to_list a)) K (S ++ ss)
step_parallel opening budget bs n i t K S None ss m q b =
    let stay : S ≡ S ++ ss = sym (append-nil S) ∙ ap (λ (v : List Store). S ++ v) (sym m) in
    subst (λ (v : List Store). Busy opening budget bs n i (t ++ []) K v) stay (subst (λ (v : List Event). Busy opening budget bs n i v K S) (sym (append-nil t)) b)
step_parallel opening budget bs n i t K S (Some a) ss m q b =
    let e : Event = event_of n i Parallel a in
    record {
      bytes = b.bytes;
      grown = one_more opening budget t e b.grown (record {
        follows = All-weaker (Below n Parallel (suc i)) (λ f. Follows f e) (follows_below n Parallel i a) t b.below;
        word = λ w. absurd (cc (sym w ∙ q));
        few = λ w. absurd (cc w);
        parallel = λ w x r.
            let within : x < length bs = omega (arith, m.read_within x r, length-after bs S) in
            m.read_bytes x r ∙ byte_stored bs x S within ∙ sym (b.own x within);
        serial = λ w x r. absurd (cc w);
        reserved = λ w z. absurd (not_sc a q w);
      });
      below = All-push (Below n Parallel (suc i)) t e b.below (below_self n Parallel i a);
      own = λ x l. overlaid (seen n i) (opening x) (slice_index bs x) t e S ss (after bs S) x (seen_own n i Parallel a) m (b.own x l);
      fresh = λ j x h l. byte_push_hidden (seen n j) (opening x) t e x (hidden n i j Parallel a h) ∙ b.fresh j x h l;
      memory = λ x l. overlaid every (opening x) (slice_index bs x) t e (K ++ S) ss (after bs S) x refl m (b.memory x l)
          ∙ ap (λ (v : List Store). last_byte (slice_index bs x) v x) (append_assoc K S ss);
    }

-- ---- the serial phase

-- an SC that writes has its bytes reserved
reserved_span : (r : Option Span) (a : Access) → HasReservation r (Some a) → is_sc a ≡ true → stores a ≡ true → r ≡ span_of a
reserved_span r (Load w p a v) h s y = cc
reserved_span r (StoreAccess w p a v) h s y = cc
reserved_span r (LoadReserved w o p a v) h s y = cc
reserved_span r (StoreConditional w o p a None) h s y = cc
reserved_span r (StoreConditional w o p a (Some v)) h s y = h
reserved_span r (Atomic w o p a v u) h s y = cc
reserved_span r (Fence b a m p) h s y = cc

counts : (Event → Bool) → List Event → ℕ
counts p [] = 0
counts p (e ∷ t) = if p e then 1 + counts p t else counts p t

is_counts : (p : Event → Bool) (t : List Event) → counts p t ≡ count_by p t
unfolding counts
is_counts p t = is_count_by (counts p) p refl (λ e u. refl) t

counts_none : (p : Event → Bool) (t : List Event) → All (λ f. p f ≡ false) t → counts p t ≡ 0
unfolding counts
counts_none p [] h = refl
counts_none p (e ∷ t) h =
    ap (λ (b : Bool). if b then 1 + counts p t else counts p t) (All-head (λ (f : Event). p f ≡ false) e t h) ∙ counts_none p t (All-tail (λ (f : Event). p f ≡ false) e t h)

one_counted : (b : Bool) → (if b then 1 + 0 else 0) ≤ 1
one_counted true = omega arith
one_counted false = omega arith

more_counted : (b : Bool) (m n : ℕ) → m ≤ n + 1 → (if b then 1 + m else m) ≤ (if b then 1 + n else n) + 1
more_counted true m n h = omega (arith, h)
more_counted false m n h = h

counts_push : (p : Event → Bool) (t : List Event) (e : Event) → counts p (t ++ e ∷ []) ≤ counts p t + 1
unfolding counts
counts_push p [] e = one_counted (p e)
counts_push p (f ∷ t) e = more_counted (p f) (counts p (t ++ e ∷ [])) (counts p t) (counts_push p t e)

count_none : (p : Event → Bool) (t : List Event) → All (λ f. p f ≡ false) t → count_by p t ≡ 0
count_none p t h = sym (is_counts p t) ∙ counts_none p t h

count_push : (p : Event → Bool) (t : List Event) (e : Event) → count_by p (t ++ e ∷ []) ≤ count_by p t + 1
count_push p t e = omega (arith, counts_push p t e, is_counts p (t ++ e ∷ []), is_counts p t)

not_in_turn : (n i : ℕ) (f : Event) → Below n Serial i f → in_turn i n f ≡ false
not_in_turn n i f b = by_test n i f b (in_turn i n f) refl
  where
    serial_number : (s : Phase) → is_serial s ≡ true → phase_number s ≡ 1
    serial_number Parallel e = cc
    serial_number Serial e = refl

    by_test : (n i : ℕ) (f : Event) → Below n Serial i f → (t : Bool) → in_turn i n f ≡ t → t ≡ false
    by_test n i f b true e =
        let parts : (is_serial f.phase ≡ true) × (f.hart ≡ i) × (f.round ≡ n) = turn_parts (is_serial f.phase) f.hart i f.round n e in
        absurd (omega (arith, parts.1, b.harts parts.2 (serial_number f.phase parts.0)))
    by_test n i f b false e = refl

pub begin_turn : (opening : ℕ → ℕ) (budget n i k : ℕ) (t : List Event) (bs : List ℕ) → k ≤ budget → Waiting opening budget n i t bs → Serving opening budget n i k t bs
begin_turn opening budget n i k t bs l w = record {
  bytes = w.bytes;
  grown = w.grown;
  below = All-weaker (Below n Serial i) (Below n Serial (suc i)) (λ f b. record { rounds = b.rounds; phases = b.phases; harts = λ e p. omega (arith, b.harts e p) }) t w.below;
  few = omega (arith, l, count_none (in_turn i n) t (All-weaker (Below n Serial i) (λ f. in_turn i n f ≡ false) (not_in_turn n i) t w.below));
  memory = w.memory;
}

pub finish_turn : (opening : ℕ → ℕ) (budget n i k : ℕ) (t : List Event) (bs : List ℕ) → Serving opening budget n i k t bs → Waiting opening budget n (suc i) t bs
finish_turn opening budget n i k t bs s = record { bytes = s.bytes; grown = s.grown; below = s.below; memory = s.memory }

pub step_serial : (opening : ℕ → ℕ) (budget n i k : ℕ) (t : List Event) (bs : List ℕ) (a : Option Access) (ss : List Store) →
    Agrees bs ss a → HasReservation (held i t) a → Serving opening budget n i (suc k) t bs → Serving opening budget n i k (t ++ events_of n i Serial (option_to_list a)) (after bs ss)
step_serial opening budget n i k t bs None ss m q b =
    let same : bs ≡ after bs ss = ap (after bs) (sym m) in
    let less : count_by (in_turn i n) (t ++ []) + k ≤ budget = subst (λ (v : List Event). count_by (in_turn i n) v + k ≤ budget) (sym (append-nil t)) (omega (arith, b.few)) in
    subst (λ (v : List ℕ). Serving opening budget n i k (t ++ []) v) same (record {
      bytes = b.bytes;
      grown = subst (AllRight opening budget) (sym (append-nil t)) b.grown;
      below = subst (All (Below n Serial (suc i))) (sym (append-nil t)) b.below;
      few = less;
      memory = λ x l. ap (λ (v : List Event). byte_after every (opening x) v x) (append-nil t) ∙ b.memory x l;
    })
step_serial opening budget n i k t bs (Some a) ss m q b =
    let e : Event = event_of n i Serial a in
    let more : count_by (in_turn i n) (t ++ e ∷ []) ≤ count_by (in_turn i n) t + 1 = count_push (in_turn i n) t e in
    record {
      bytes = bytes_after bs ss b.bytes;
      grown = one_more opening budget t e b.grown (record {
        follows = All-weaker (Below n Serial (suc i)) (λ f. Follows f e) (follows_below n Serial i a) t b.below;
        word = λ w. refl;
        few = λ w. omega (arith, b.few);
        parallel = λ w x r. absurd (cc w);
        serial = λ w x r. m.read_bytes x r ∙ sym (b.memory x (m.read_within x r));
        reserved = reserved_span (held i t) a q;
      });
      below = All-push (Below n Serial (suc i)) t e b.below (below_self n Serial i a);
      few = omega (arith, b.few, more);
      memory = λ x l.
          let within : x < length bs = omega (arith, l, length-after bs ss) in
          overlaid every (opening x) (slice_index bs x) t e [] ss bs x refl m (b.memory x within) ∙ sym (byte_stored bs x ss within);
    }

-- ---- from one phase to the next

all_seen : (p : Event → Bool) (b : ℕ) (t : List Event) (x : ℕ) → All (λ f. p f ≡ true) t → byte_after p b t x ≡ byte_after every b t x
unfolding byte_after
all_seen p b [] x h = refl
all_seen p b (e ∷ t) x h =
    let rest : All (λ f. p f ≡ true) t = All-tail (λ (f : Event). p f ≡ true) e t h in
    ap (λ (c : Bool). byte_after p (if c && writes e.access x then byte_written e.access x else b) t x) (All-head (λ (f : Event). p f ≡ true) e t h)
    ∙ all_seen p (if writes e.access x then byte_written e.access x else b) t x rest

pub open_round : (opening : ℕ → ℕ) (budget n : ℕ) (t : List Event) (bs : List ℕ) → Between opening budget n t bs → Ready opening budget bs (n + 1) 0 t []
open_round opening budget n t bs b = record {
  bytes = b.bytes;
  grown = b.grown;
  below = All-weaker (λ (f : Event). f.round ≤ n) (Below (n + 1) Parallel 0)
      (λ f l. record { rounds = omega (arith, l); phases = λ e. absurd (omega (arith, l, e)); harts = λ e p. absurd (omega (arith, l, e)) }) t b.below;
  fresh = λ j x h l. all_seen (seen (n + 1) j) (opening x) t x
      (All-weaker (λ (f : Event). f.round ≤ n) (λ f. seen (n + 1) j f ≡ true) (λ f m. seen_old (n + 1) j f (omega (arith, m))) t b.below) ∙ b.memory x l;
  memory = b.memory;
}

pub commit_round : (opening : ℕ → ℕ) (budget : ℕ) (bs : List ℕ) (n i : ℕ) (t : List Event) (K : List Store) → Ready opening budget bs n i t K → Waiting opening budget n 0 t (after bs K)
commit_round opening budget bs n i t K r = record {
  bytes = bytes_after bs K r.bytes;
  grown = r.grown;
  below = All-weaker (Below n Parallel i) (Below n Serial 0) (λ f b. record { rounds = b.rounds; phases = λ e. omega (arith, b.phases e); harts = λ e p. absurd (omega (arith, b.phases e, p)) }) t r.below;
  memory = λ x l.
      let within : x < length bs = omega (arith, l, length-after bs K) in
      r.memory x within ∙ sym (byte_stored bs x K within);
}

pub close_round : (opening : ℕ → ℕ) (budget n i : ℕ) (t : List Event) (bs : List ℕ) → Waiting opening budget n i t bs → Between opening budget n t bs
close_round opening budget n i t bs w = record {
  bytes = w.bytes;
  grown = w.grown;
  below = All-weaker (Below n Serial i) (λ (f : Event). f.round ≤ n) (λ f b. b.rounds) t w.below;
  memory = w.memory;
}
