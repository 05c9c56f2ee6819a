-- What the hart of a move sees is what the earlier moves wrote that it sees, over the bytes at the round's start.
use Rattle.std.proofs.Common.{◌≡◌, ℕ, zero, suc, ◌<◌, ◌==◌, ◌||◌, Bool, true, false, cond, if◌then◌else◌, subst, List, [], ◌∷◌, ◌++◌, length, slice_index, Option, Some, None, refl, sym, ◌∙◌, ap, arith, append_assoc, append-nil}
use Rattle.std.proofs.lemmas.Bool.Decides.{nat_tests}
use Rattle.pages.specs.declared.access.Store.{Store}
use Rattle.pages.specs.Memory.{IsBytes, after, last_byte}
use Rattle.pages.proofs.StoreLaws.{bytes_after, length-after, byte_after, last_byte-append}
use Rattle.round_schedule.specs.declared.access.Access.{Access}
use Rattle.round_schedule.specs.declared.access.Stepped.{Stepped}
use Rattle.round_schedule.specs.declared.access.Stepped.TheVariants.{Done, Waits, Stopped}
use Rattle.round_schedule.specs.Accesses.{byte_written, writes}
use Rattle.round_schedule.specs.Events.{is_serial}
use Rattle.round_schedule.specs.Held.{held}
use Rattle.round_schedule.specs.Schedule.{Words, HartRound, Progress, State, Turn, all_stores, began, committed, first_or_zero, hart_rounds, joined, next_of, rest_of, round_from, serial_next, turn_from, turn_of, turn_went, went}
use Rattle.round_schedule.specs.Sound.{Agrees, Sound}
use Rattle.moments.specs.Sights.{Sight, next_seen, seen_after, turn_start}
use Rattle.moments.specs.Moves.{Move, moves_of, moves_over, part_moves, parts_moves, stopped_at, took, turn_moves, turns_moves, went_by}
use Rattle.moments.specs.Laws.{Sees}
use Rattle.moments.proofs.Left.{sight_goes, sight_in}

-- ---- each of some moves

abbrev pub Each : {A : Type 0} → (A → Type 0) → List A → Type 0
Each P [] = Unit {0}
Each P (x ∷ xs) = P x × Each P xs

pub each_append : {A : Type 0} (P : A → Type 0) (xs ys : List A) → Each P xs → Each P ys → Each P (xs ++ ys)
each_append P [] ys a b = b
each_append P (x ∷ xs) ys a b = (a.0, each_append P xs ys a.1 b)

pub each_weaker : {A : Type 0} (P Q : A → Type 0) → ((x : A) → P x → Q x) → (xs : List A) → Each P xs → Each Q xs
each_weaker P Q f [] a = tt
each_weaker P Q f (x ∷ xs) a = (f x a.0, each_weaker P Q f xs a.1)

-- each of some moves after those before it
abbrev pub EachAfter : {A : Type 0} → (List A → A → Type 0) → List A → List A → Type 0
EachAfter P e [] = Unit {0}
EachAfter P e (x ∷ xs) = P e x × EachAfter P (e ++ x ∷ []) xs

pub after_append : {A : Type 0} (P : List A → A → Type 0) (e xs ys : List A) → EachAfter P e xs → EachAfter P (e ++ xs) ys → EachAfter P e (xs ++ ys)
after_append {A} P e [] ys a b = subst_nil P e ys b
  where
    subst_nil : (P : List A → A → Type 0) (e ys : List A) → EachAfter P (e ++ []) ys → EachAfter P e ys
    subst_nil P e ys b = rw (append-nil e) at b
after_append {A} P e (x ∷ xs) ys a b =
    let same : e ++ x ∷ xs ≡ (e ++ x ∷ []) ++ xs = sym (append_assoc e (x ∷ []) xs) in
    (a.0, after_append P (e ++ x ∷ []) xs ys a.1 (subst (λ (zs : List A). EachAfter P zs ys) same b))

-- ---- the byte at x after some moves, of which some are seen, where b was there

abbrev pub wrote : Option Access → ℕ → ℕ → ℕ
wrote None x b = b
wrote (Some a) x b = if writes a x then byte_written a x else b

abbrev pub over : {H : Type 0} → (Move H → Bool) → ℕ → ℕ → List (Move H) → ℕ
over p x b [] = b
over p x b (m ∷ ms) = over p x (if p m then wrote m.access x b else b) ms

pub over_append : {H : Type 0} (p : Move H → Bool) (x b : ℕ) (ms ns : List (Move H)) → over p x b (ms ++ ns) ≡ over p x (over p x b ms) ns
over_append p x b [] ns = refl
over_append p x b (m ∷ ms) ns = over_append p x (if p m then wrote m.access x b else b) ms ns

over_one : {H : Type 0} (p : Move H → Bool) (x b : ℕ) (ms : List (Move H)) (m : Move H) → p m ≡ true → over p x b (ms ++ m ∷ []) ≡ wrote m.access x (over p x b ms)
over_one p x b ms m h = over_append p x b ms (m ∷ []) ∙ ap (λ (t : Bool). if t then wrote m.access x (over p x b ms) else over p x b ms) h

over_none : {H : Type 0} (p : Move H → Bool) (x b : ℕ) (ms : List (Move H)) → Each (λ (m : Move H). p m ≡ false) ms → over p x b ms ≡ b
over_none p x b [] a = refl
over_none p x b (m ∷ ms) a = ap (λ (t : Bool). over p x (if t then wrote m.access x b else b) ms) a.0 ∙ over_none p x b ms a.1

-- what a move sees of those before it: in a turn all, and before it those of its hart
abbrev pub visible : {H : Type 0} → Move H → Move H → Bool
visible m k = is_serial m.phase || (k.hart == m.hart)

abbrev mine : {H : Type 0} → ℕ → Move H → Bool
mine i k = k.hart == i

abbrev each_one : {H : Type 0} → Move H → Bool
each_one k = true

-- a move after others, in a round that begins with these bytes
pub record SeenAfter {H : Type 0} (start : List ℕ) (e : List (Move H)) (m : Move H) : Type 0 where
  pub size : length m.before.bytes ≡ length start
  pub bytes : (x : ℕ) → x < length start → slice_index m.before.bytes x ≡ over (visible m) x (slice_index start x) e
  pub sees : Sees m.before.bytes m.after.bytes m.access

same_hart : (i : ℕ) → (i == i) ≡ true
same_hart i = grind (arith, nat_tests)

other_hart : (i j : ℕ) → i < j → (i == j) ≡ false
other_hart i j lt = grind (arith, nat_tests)

-- what stores leave is what their access wrote
put_is : (bs : List ℕ) (ss : List Store) (a : Option Access) (x b : ℕ) → Agrees bs ss a → last_byte b ss x ≡ wrote a x b
put_is bs ss None x b e = ap (λ (ts : List Store). last_byte b ts x) e
put_is bs ss (Some a) x b m = m.put_bytes x b

stored_is : (bs : List ℕ) (ss : List Store) (a : Option Access) (x : ℕ) → Agrees bs ss a → x < length bs → slice_index (after bs ss) x ≡ wrote a x (slice_index bs x)
stored_is bs ss a x m lt = byte_after bs x ss lt ∙ put_is bs ss a x (slice_index bs x) m

sees_of : (bs : List ℕ) (ss : List Store) (a : Option Access) → Agrees bs ss a → Sees bs (after bs ss) a
sees_of bs ss None e = ap (after bs) e
sees_of bs ss (Some a) m = record { size = length-after bs ss; within = m.read_within; read = m.read_bytes; written = λ x lt. stored_is bs ss (Some a) x m lt }

-- ---- a part

module _ {H C : Type 0} (w : Words H C) (sound : Sound w) (start : List ℕ) (i : ℕ) where
  record Stands (p : Move H → Bool) (e : List (Move H)) (bs : List ℕ) : Type 0 where
    pub fit : IsBytes bs
    pub size : length bs ≡ length start
    pub bytes : (x : ℕ) → x < length start → slice_index bs x ≡ over p x (slice_index start x) e

  stands_on : (p : Move H → Bool) (e : List (Move H)) (bs : List ℕ) (ss : List Store) (m : Move H) → p m ≡ true → Agrees bs ss m.access → Stands p e bs → Stands p (e ++ m ∷ []) (after bs ss)
  stands_on p e bs ss m h a s = record {
    fit = bytes_after bs ss s.fit;
    size = length-after bs ss ∙ s.size;
    bytes = λ x lt.
        let within : x < length bs = omega (arith, lt, s.size) in
        stored_is bs ss m.access x a within ∙ ap (wrote m.access x) (s.bytes x lt) ∙ sym (over_one p x (slice_index start x) e m h);
  }

  abbrev PartAfter : ℕ → List (Move H) → Sight H → Type 0
  PartAfter k e s = Stands (mine i) e s.bytes → EachAfter (SeenAfter start) e (part_moves w i k s)

  part_first : (k : ℕ) (e : List (Move H)) (s : Sight H) (stopped : Bool) (a : Stepped) → w.stopped s.hart ≡ stopped → (next_seen w s).answer ≡ a → ((f : List (Move H)) (q : Sight H) → PartAfter k f q) → PartAfter (suc k) e s
  unfolding part_moves
  part_first k e s true a hs ha ih = λ st. rw hs tt
  part_first k e s false Waits hs ha ih = λ st. rw (hs, ha) tt
  part_first k e s false (Stopped code) hs ha ih = λ st. rw (hs, ha) (record { size = st.size; bytes = st.bytes; sees = refl }, tt)
  part_first k e s false (Done a) hs ha ih = λ st.
      let o = next_seen w s in
      let m : Move H = went_by i s o a in
      let agrees = sound.step_agrees s.hart s.bytes a st.fit ha in
      rw (hs, ha) (
        record { size = st.size; bytes = st.bytes; sees = sees_of s.bytes o.stores a agrees },
        ih (e ++ m ∷ []) (seen_after s o) (stands_on (mine i) e s.bytes o.stores m (same_hart i) agrees st),
      )

  part_after : (k : ℕ) (e : List (Move H)) (s : Sight H) → PartAfter k e s
  unfolding part_moves
  part_after zero e s = λ st. tt
  part_after (suc k) e s = part_first k e s (w.stopped s.hart) (next_seen w s).answer refl refl (λ f q. part_after k f q)

  abbrev PartHarts : ℕ → Sight H → Type 0
  PartHarts k s = Each (λ (m : Move H). m.hart ≡ i) (part_moves w i k s)

  harts_first : (k : ℕ) (s : Sight H) (stopped : Bool) (a : Stepped) → w.stopped s.hart ≡ stopped → (next_seen w s).answer ≡ a → ((q : Sight H) → PartHarts k q) → PartHarts (suc k) s
  unfolding part_moves
  harts_first k s true a hs ha ih = rw hs tt
  harts_first k s false Waits hs ha ih = rw (hs, ha) tt
  harts_first k s false (Stopped code) hs ha ih = rw (hs, ha) (refl, tt)
  harts_first k s false (Done a) hs ha ih = rw (hs, ha) (refl, ih (seen_after s (next_seen w s)))

  part_harts : (k : ℕ) (s : Sight H) → PartHarts k s
  unfolding part_moves
  part_harts zero s = tt
  part_harts (suc k) s = harts_first k s (w.stopped s.hart) (next_seen w s).answer refl refl (λ q. part_harts k q)

  -- a part leaves the bytes of its stores
  abbrev PartOver : ℕ → Progress H → Type 0
  PartOver k p = (x b : ℕ) → IsBytes (after start p.stores) → over each_one x (last_byte b p.stores x) (part_moves w i k (sight_in start p)) ≡ last_byte b (round_from w start k p).last.stores x

  over_first : (k : ℕ) (p : Progress H) (stopped : Bool) (a : Stepped) → w.stopped p.hart ≡ stopped → (next_of w start p).answer ≡ a → ((q : Progress H) → PartOver k q) → PartOver (suc k) p
  unfolding part_moves round_from
  over_first k p true a hs ha ih = λ x b fit. rw hs refl
  over_first k p false Waits hs ha ih = λ x b fit. rw (hs, ha) refl
  over_first k p false (Stopped code) hs ha ih = λ x b fit. rw (hs, ha) refl
  over_first k p false (Done a) hs ha ih = λ x b fit.
      let o = next_of w start p in
      let q : Progress H = went p o a in
      let agrees = sound.step_agrees p.hart (after start p.stores) a fit ha in
      let more : last_byte b q.stores x ≡ wrote a x (last_byte b p.stores x) = last_byte-append b p.stores o.stores x ∙ put_is (after start p.stores) o.stores a x (last_byte b p.stores x) agrees in
      let fit_on : IsBytes (after start q.stores) = subst IsBytes (ap (λ (s : Sight H). s.bytes) (sight_goes start p o a)) (bytes_after (after start p.stores) o.stores fit) in
      rw (hs, ha)
      (ap (λ (s : Sight H). over each_one x (wrote a x (last_byte b p.stores x)) (part_moves w i k s)) (sight_goes start p o a)
      ∙ ap (λ (c : ℕ). over each_one x c (part_moves w i k (sight_in start q))) (sym more)
      ∙ ih q x b fit_on)

  part_over : (k : ℕ) (p : Progress H) → PartOver k p
  unfolding part_moves round_from
  part_over zero p = λ x b fit. refl
  part_over (suc k) p = over_first k p (w.stopped p.hart) (next_of w start p).answer refl refl (λ q. part_over k q)

-- ---- all parts

module _ {H C : Type 0} (w : Words H C) (sound : Sound w) (start : List ℕ) (fit : IsBytes start) where
  abbrev EarlierThan : ℕ → List (Move H) → Type 0
  EarlierThan i e = Each (λ (m : Move H). m.hart < i) e

  parts_after : (qs : List ℕ) (i : ℕ) (hs : List H) (e : List (Move H)) → EarlierThan i e → EachAfter (SeenAfter start) e (parts_moves w start qs i hs)
  parts_after qs i [] e b = tt
  parts_after qs i (h ∷ hs) e b =
      let s : Sight H = record { hart = h; bytes = start } in
      let ms = part_moves w i (first_or_zero qs) s in
      let none = each_weaker (λ (m : Move H). m.hart < i) (λ (m : Move H). mine i m ≡ false) (λ m lt. other_hart m.hart i lt) e b in
      let st : Stands w sound start i (mine i) e start = record { fit = fit; size = refl; bytes = λ x lt. sym (over_none (mine i) x (slice_index start x) e none) } in
      let later : EarlierThan (suc i) (e ++ ms) =
      each_append (λ (m : Move H). m.hart < suc i) e ms
      (each_weaker (λ (m : Move H). m.hart < i) (λ (m : Move H). m.hart < suc i) (λ m lt. omega (arith, lt)) e b)
      (each_weaker (λ (m : Move H). m.hart ≡ i) (λ (m : Move H). m.hart < suc i) (λ m is. omega (arith, is)) ms (part_harts w sound start i (first_or_zero qs) s)) in
      after_append (SeenAfter start) e ms (parts_moves w start (rest_of qs) (suc i) hs)
      (part_after w sound start i (first_or_zero qs) e s st)
      (parts_after (rest_of qs) (suc i) hs (e ++ ms) later)

  parts_over : (qs : List ℕ) (i : ℕ) (hs : List H) (x b : ℕ) → over each_one x b (parts_moves w start qs i hs) ≡ last_byte b (all_stores (hart_rounds w start qs hs)) x
  parts_over qs i [] x b = refl
  parts_over qs i (h ∷ hs) x b =
      let q = first_or_zero qs in
      let ms = part_moves w i q (sight_in start (began h)) in
      let r = round_from w start q (began h) in
      over_append each_one x b ms (parts_moves w start (rest_of qs) (suc i) hs)
      ∙ ap (λ (c : ℕ). over each_one x c (parts_moves w start (rest_of qs) (suc i) hs)) (part_over w sound start i q (began h) x b fit)
      ∙ parts_over (rest_of qs) (suc i) hs x (last_byte b r.last.stores x)
      ∙ sym (last_byte-append b r.last.stores (all_stores (hart_rounds w start (rest_of qs) hs)) x)

-- ---- turns

module _ {H C : Type 0} (w : Words H C) (sound : Sound w) (start : List ℕ) (n i : ℕ) where
  record TurnAfter (k : ℕ) (e : List (Move H)) (p : Turn H C) : Type 0 where
    pub moves : EachAfter (SeenAfter start) e (turn_moves w n i k p)
    pub left : Stands w sound start i each_one (e ++ turn_moves w n i k p) (turn_from w n i k p).bytes

  turn_first : (k : ℕ) (e : List (Move H)) (p : Turn H C) (stopped : Bool) (a : Stepped) → w.stopped p.hart ≡ stopped → (serial_next w n i p).answer ≡ a → Stands w sound start i each_one e p.bytes →
      ((f : List (Move H)) (q : Turn H C) → Stands w sound start i each_one f q.bytes → TurnAfter k f q) → TurnAfter (suc k) e p
  unfolding turn_moves turn_from
  turn_first k e p true a hs ha st ih = record { moves = rw hs tt; left = rw (hs, append-nil e) st }
  turn_first k e p false Waits hs ha st ih = record { moves = rw (hs, ha) tt; left = rw (hs, ha, append-nil e) st }
  turn_first k e p false (Stopped code) hs ha st ih =
      let m : Move H = stopped_at code i p (serial_next w n i p) in
      record {
        moves = rw (hs, ha) (record { size = st.size; bytes = st.bytes; sees = refl }, tt);
        left = rw (hs, ha) (record { fit = st.fit; size = st.size; bytes = λ x lt. st.bytes x lt ∙ sym (over_one each_one x (slice_index start x) e m refl) });
      }
  turn_first k e p false (Done a) hs ha st ih =
      let o = serial_next w n i p in
      let q : Turn H C = turn_went n i p o a in
      let m : Move H = took n i p o a in
      let agrees = sound.serial_agrees n p.hart p.bytes p.console (held i p.trace) a st.fit ha in
      let rest = ih (e ++ m ∷ []) q (stands_on w sound start i each_one e p.bytes o.stores m refl agrees st) in
      record {
        moves = rw (hs, ha) (record { size = st.size; bytes = st.bytes; sees = sees_of p.bytes o.stores a agrees }, rest.moves);
        left = rw (hs, ha) (subst (λ (zs : List (Move H)). Stands w sound start i each_one zs (turn_from w n i k q).bytes) (append_assoc e (m ∷ []) (turn_moves w n i k q)) rest.left);
      }

  turn_after : (k : ℕ) (e : List (Move H)) (p : Turn H C) → Stands w sound start i each_one e p.bytes → TurnAfter k e p
  unfolding turn_moves turn_from
  turn_after zero e p st = record { moves = tt; left = rw (append-nil e) st }
  turn_after (suc k) e p st = turn_first k e p (w.stopped p.hart) (serial_next w n i p).answer refl refl st (λ f q s. turn_after k f q s)

-- the same whoever's turn it is
moved_on : {H C : Type 0} (w : Words H C) (sound : Sound w) (start : List ℕ) (i j : ℕ) (p : Move H → Bool) (e : List (Move H)) (bs : List ℕ) → Stands w sound start i p e bs → Stands w sound start j p e bs
moved_on w sound start i j p e bs st = record { fit = st.fit; size = st.size; bytes = st.bytes }

turns_after : {H C : Type 0} (w : Words H C) (sound : Sound w) (start : List ℕ) (budget i : ℕ) (rs : List (HartRound H)) (s : State H C) (e : List (Move H)) → Stands w sound start i each_one e s.bytes →
    EachAfter (SeenAfter start) e (turns_moves w budget i rs s)
turns_after w sound start budget i [] s e st = tt
turns_after w sound start budget i (r ∷ rs) s e st =
    let k = cond r.waits budget 0 in
    let ms = turn_moves w s.rounds i k (turn_start s r) in
    let t = turn_after w sound start s.rounds i k e (turn_start s r) st in
    let next = joined s (turn_of w budget s i r) in
    after_append (SeenAfter start) e ms (turns_moves w budget (suc i) rs next) t.moves
    (turns_after w sound start budget (suc i) rs next (e ++ ms) (moved_on w sound start i (suc i) each_one (e ++ ms) next.bytes t.left))

-- ---- a round

whole : {H C : Type 0} (w : Words H C) (sound : Sound w) (budget : ℕ) (qs : List ℕ) (s : State H C) → IsBytes s.bytes → EachAfter (SeenAfter s.bytes) [] (moves_over w budget qs s (hart_rounds w s.bytes qs s.harts))
whole {H} {C} w sound budget qs s fit =
    let rs : List (HartRound H) = hart_rounds w s.bytes qs s.harts in
    let ps = parts_moves w s.bytes qs 0 s.harts in
    let st : Stands w sound s.bytes 0 each_one ps (committed s rs).bytes = record {
      fit = bytes_after s.bytes (all_stores rs) fit;
      size = length-after s.bytes (all_stores rs);
      bytes = λ x lt. byte_after s.bytes x (all_stores rs) lt ∙ sym (parts_over w sound s.bytes fit qs 0 s.harts x (slice_index s.bytes x));
    } in
    after_append (SeenAfter s.bytes) [] ps (turns_moves w budget 0 rs (committed s rs)) (parts_after w sound s.bytes fit qs 0 s.harts [] tt) (turns_after w sound s.bytes budget 0 rs (committed s rs) ps st)

pub moves_seen : {H C : Type 0} (w : Words H C) → Sound w → (budget : ℕ) (quotas : ℕ → List ℕ) (s : State H C) → IsBytes s.bytes → EachAfter (SeenAfter s.bytes) [] (moves_of w budget quotas s)
unfolding moves_of
moves_seen w sound budget quotas s fit = whole w sound budget (quotas s.rounds) s fit
