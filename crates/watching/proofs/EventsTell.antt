-- The hits of a round, found from those of its events that speak of a watched byte.
use Rattle.std.proofs.Common.{◌≡◌, ℕ, zero, suc, ◌+◌, ◌<◌, ◌≤◌, ◌==◌, ◌||◌, ◌&&◌, not, nat_lt, Bool, true, false, cond, if◌then◌else◌, List, [], ◌∷◌, ◌++◌, ◌-◌, length, take, drop, slice_get, slice_index, filter, Option, Some, None, inl, inr, refl, sym, ◌∙◌, ap, subst, arith, append-nil, append_assoc, add-one, get_or}
use Rattle.std.proofs.Math.Seq.{take-suc}
use Rattle.std.proofs.lemmas.List.{drop_more}
use Rattle.std.specs.Prelude.{◌⊎◌}
use Rattle.std.specs.List.{list_any, position, position_or_len}
use Rattle.std.proofs.lemmas.Bool.{cases_eq}
use Rattle.std.proofs.lemmas.Bool.Decides.{nat_tests}
use Rattle.std.proofs.lemmas.List.{get_or_past}
use Rattle.std.proofs.lemmas.Option.{get_or_from_slice_get, slice_get_within}
use Rattle.std.proofs.lemmas.List.Concat.{flat_map-append}
use Rattle.std.proofs.lemmas.List.Elements.{filter-append}
use Rattle.pages.specs.declared.access.Range.{Range}
use Rattle.pages.specs.Memory.{IsBytes, in_range}
use Rattle.round_schedule.specs.declared.access.Access.{Access}
use Rattle.round_schedule.specs.declared.event.Event.{Event}
use Rattle.round_schedule.specs.Accesses.{address_of, byte_written, bytes_of, loads, stores, writes}
use Rattle.round_schedule.specs.Events.{event_of, is_serial}
use Rattle.round_schedule.specs.Held.{any_byte}
use Rattle.moments.specs.Moves.{Move, events_left, left_by, moves_of}
use Rattle.moments.specs.Laws.{Sees}
use Rattle.watching.specs.declared.hits.Hit.{Hit}
use Rattle.watching.specs.declared.watchpoint.WatchKind.{WatchKind}
use Rattle.watching.specs.declared.watchpoint.WatchKind.TheVariants.{Changes, Reads, Accesses}
use Rattle.watching.specs.declared.watchpoint.Watchpoint.{Watchpoint}
use Rattle.watching.specs.declared.watchpoint.Way.{Way}
use Rattle.watching.specs.declared.watchpoint.Way.TheVariants.{On, Back}
use Rattle.watching.specs.Watches.{access_hits, beside, changes, hit_at, hits_after, hits_of, is_rival, is_told, on_access, speaks_of, tells_changes, told_by, writes_in_part}
use Rattle.watching.specs.Saved.{SavedBytes, bytes_from, saved_byte, saved_of}
use Rattle.watching.specs.Events.{event_hits, hits_from, touches_some, seen_by, sees, tells, tells_by}
use Rattle.watching.specs.Events as found
use Rattle.hart_step.specs.declared.hart.Hart.{Hart}
use Rattle.hart_step.specs.Console.{ConsoleState}
use Rattle.hart_step.specs.Words.{words_of}
use Rattle.hart_step.proofs.Soundness.{sound}
use Rattle.round_schedule.specs.Schedule.{State}
use Rattle.watching.proofs.Seeing.{EachAfter, SeenAfter, moves_seen, over, visible, wrote}

-- ---- tests of lists

abbrev pub In : {A : Type 0} → A → List A → Type 0
In x [] = ⊥
In x (y ∷ ys) = (x ≡ y) ⊎ In x ys

or_none : (b c : Bool) → (b || c) ≡ false → (b ≡ false) × (c ≡ false)
or_none true c e = absurd cc
or_none false c e = (refl, e)

any_none : {A : Type 0} (t : A → Bool) (x : A) (xs : List A) → In x xs → list_any t xs ≡ false → t x ≡ false
any_none t x [] i e = absurd i
any_none t x (y ∷ ys) (inl s) e = ap t s ∙ (or_none (t y) (list_any t ys) e).0
any_none t x (y ∷ ys) (inr i) e = any_none t x ys i (or_none (t y) (list_any t ys) e).1

place_same : {A : Type 0} (t u : A → Bool) (xs : List A) → ((x : A) → In x xs → t x ≡ u x) → position_or_len t xs ≡ position_or_len u xs
place_same t u [] f = refl
place_same t u (x ∷ xs) f =
    ap (λ (b : Bool). cond (not b) (1 + position_or_len t xs) 0) (f x (inl refl))
    ∙ ap (λ (n : ℕ). cond (not (u x)) (1 + n) 0) (place_same t u xs (λ y i. f y (inr i)))

position_same : {A : Type 0} (t u : A → Bool) (xs : List A) → ((x : A) → In x xs → t x ≡ u x) → position t xs ≡ position u xs
position_same t u xs f = ap (λ (n : ℕ). cond (nat_lt n (length xs)) (Some n) None) (place_same t u xs f)

place_none : {A : Type 0} (t : A → Bool) (xs : List A) → ((x : A) → In x xs → t x ≡ false) → position_or_len t xs ≡ length xs
place_none t [] f = refl
place_none t (x ∷ xs) f =
    ap (λ (b : Bool). cond (not b) (1 + position_or_len t xs) 0) (f x (inl refl))
    ∙ ap (λ (n : ℕ). 1 + n) (place_none t xs (λ y i. f y (inr i)))
    ∙ (let one : 1 + length xs ≡ suc (length xs) = omega arith in one)

not_less : (n : ℕ) → nat_lt n n ≡ false
not_less n = grind (arith, nat_tests)

position_none : {A : Type 0} (t : A → Bool) (xs : List A) → ((x : A) → In x xs → t x ≡ false) → position t xs ≡ None
position_none t xs f =
    ap (λ (n : ℕ). cond (nat_lt n (length xs)) (Some n) None) (place_none t xs f)
    ∙ ap (λ (b : Bool). cond b (Some (length xs)) None) (not_less (length xs))

-- ---- tests of bytes

any_same : (f g : ℕ → Bool) (a n : ℕ) → ((x : ℕ) → f x ≡ g x) → any_byte f a n ≡ any_byte g a n
any_same f g a zero h = refl
any_same f g a (suc n) h = ap (λ (b : Bool). b || any_byte f (a + 1) n) (h a) ∙ ap (λ (b : Bool). g a || b) (any_same f g (a + 1) n h)

any_here : (f : ℕ → Bool) (a n x : ℕ) → a ≤ x → x < a + n → f x ≡ true → any_byte f a n ≡ true
any_here f a zero x l m e = absurd (omega (arith, l, m))
any_here f a (suc n) x l m e = elim (cases_eq a x) [
  | inl s ↦ left (f a) (any_byte f (a + 1) n) (ap f s ∙ e)
  | inr d ↦ right (f a) (any_byte f (a + 1) n) (any_here f (a + 1) n x (omega (arith, l, d)) (omega (arith, m)) e)
]
  where
    left : (b c : Bool) → b ≡ true → (b || c) ≡ true
    left b c h = rw h refl

    right : (b c : Bool) → c ≡ true → (b || c) ≡ true
    right true c h = refl
    right false c h = h

and_first : (b c : Bool) → b ≡ false → (b && c) ≡ false
and_first b c e = rw e refl

and_last : (b c : Bool) → c ≡ false → (b && c) ≡ false
and_last true c e = e
and_last false c e = refl

any_fewer : (f g : ℕ → Bool) (a n : ℕ) → any_byte f a n ≡ false → any_byte (λ x. f x && g x) a n ≡ false
any_fewer f g a zero e = refl
any_fewer f g a (suc n) e =
    let parts = or_none (f a) (any_byte f (a + 1) n) e in
    ap (λ (b : Bool). b || any_byte (λ x. f x && g x) (a + 1) n) (and_first (f a) (g a) parts.0) ∙ any_fewer f g (a + 1) n parts.1

range_ends : (a n x : ℕ) → in_range a n x ≡ true → (a ≤ x) × (x < a + n)
range_ends a n x e = grind (arith, nat_tests)

-- what speaks of no byte of a range writes none of its bytes
writes_none : (r : Range) (a : Access) (x : ℕ) → in_range r.start r.len x ≡ true → speaks_of r a ≡ false → writes a x ≡ false
writes_none r a x i e = by (in_range (address_of a) (bytes_of a) x) refl
  where
    by : (t : Bool) → in_range (address_of a) (bytes_of a) x ≡ t → writes a x ≡ false
    by false h = ap (λ (b : Bool). stores a && b) h ∙ and_last (stores a) false refl
    by true h =
        let ends = range_ends (address_of a) (bytes_of a) x h in
        absurd (cc (sym e ∙ any_here (in_range r.start r.len) (address_of a) (bytes_of a) x ends.0 ends.1 i))

-- ---- bytes that are saved

slice_of : {A : Type 0} (xs : List A) (m n k j : ℕ) → k < n → j ≡ m + k → slice_get (take n (drop m xs)) k ≡ slice_get xs j
slice_of [] zero zero k j lt e = refl
slice_of [] zero (suc n) k j lt e = refl
slice_of [] (suc m) zero k j lt e = refl
slice_of [] (suc m) (suc n) k j lt e = refl
slice_of (x ∷ xs) zero zero k j lt e = absurd (omega (arith, lt))
slice_of (x ∷ xs) zero (suc n) zero zero lt e = refl
slice_of (x ∷ xs) zero (suc n) zero (suc j) lt e = absurd (omega (arith, e))
slice_of (x ∷ xs) zero (suc n) (suc k) zero lt e = absurd (omega (arith, e))
slice_of (x ∷ xs) zero (suc n) (suc k) (suc j) lt e = slice_of xs zero n k j (omega (arith, lt)) (omega (arith, e))
slice_of (x ∷ xs) (suc m) n k zero lt e = absurd (omega (arith, e))
slice_of (x ∷ xs) (suc m) n k (suc j) lt e = slice_of xs m n k j lt (omega (arith, e))

range_byte : (bs : List ℕ) (a n x : ℕ) → in_range a n x ≡ true → slice_get (bytes_from bs a n) (x - a) ≡ slice_get bs x
range_byte bs a n x i =
    let ends = range_ends a n x i in
    slice_of bs a n (x - a) x (omega (arith, ends.0, ends.1)) (omega (arith, ends.0))

saved_is : (ws : List Watchpoint) (w : Watchpoint) (x : ℕ) (bs : List ℕ) → In w ws → tells_changes w.kind ≡ true → in_range w.range.start w.range.len x ≡ true → saved_byte (saved_of ws bs) x ≡ slice_get bs x
saved_is [] w x bs i t r = absurd i
saved_is (v ∷ vs) w x bs i t r = by (tells_changes v.kind) (in_range v.range.start v.range.len x) refl refl i (λ j. saved_is vs w x bs j t r)
  where
    by : (u z : Bool) → tells_changes v.kind ≡ u → in_range v.range.start v.range.len x ≡ z → In w (v ∷ vs) → (In w vs → saved_byte (saved_of vs bs) x ≡ slice_get bs x) → saved_byte (saved_of (v ∷ vs) bs) x ≡ slice_get bs x
    by true true hu hz j ih = rw (hu, hz) (range_byte bs v.range.start v.range.len x hz)
    by true false hu hz (inl e) ih = absurd (cc (sym hz ∙ ap (λ (y : Watchpoint). in_range y.range.start y.range.len x) (sym e) ∙ r))
    by true false hu hz (inr j) ih = rw (hu, hz) (ih j)
    by false z hu hz (inl e) ih = absurd (cc (sym hu ∙ ap (λ (y : Watchpoint). tells_changes y.kind) (sym e) ∙ t))
    by false z hu hz (inr j) ih = rw hu (ih j)

got_none : (bs : List ℕ) (x : ℕ) → slice_get bs x ≡ None → length bs ≤ x
got_none [] x g = omega arith
got_none (b ∷ bs) zero g = absurd cc
got_none (b ∷ bs) (suc x) g = omega (arith, got_none bs x g)

got_some : (bs : List ℕ) (x b : ℕ) → slice_get bs x ≡ Some b → (x < length bs) × (slice_index bs x ≡ b)
got_some bs x b g = (slice_get_within bs x b g, get_or_from_slice_get bs x b 0 g)

-- ---- the events that are kept of some moves

module _ {H : Type 0} (n : ℕ) (ws : List Watchpoint) where
  abbrev touching : List (Move H) → List Event
  touching e = filter (touches_some ws) (events_left n e)

  abbrev event : Move H → Access → Event
  event m a = event_of n m.hart m.phase a

  touching_none : (m : Move H) (e : List (Move H)) → m.access ≡ None → touching (m ∷ e) ≡ touching e
  touching_none m e h = rw h refl

  touching_not : (m : Move H) (a : Access) (e : List (Move H)) → m.access ≡ Some a → touches_some ws (event m a) ≡ false → touching (m ∷ e) ≡ touching e
  touching_not m a e h k = rw (h, k) refl

  touching_some : (m : Move H) (a : Access) (e : List (Move H)) → m.access ≡ Some a → touches_some ws (event m a) ≡ true → touching (m ∷ e) ≡ event m a ∷ touching e
  touching_some m a e h k = rw (h, k) refl

  touching_append : (e f : List (Move H)) → touching (e ++ f) ≡ touching e ++ touching f
  touching_append e f = ap (filter (touches_some ws)) (flat_map-append (left_by n) e f) ∙ filter-append (touches_some ws) (events_left n e) (events_left n f)

  -- a test of moves that only those pass whose event is kept and passes a test of events
  abbrev AgreesOn : (Event → Bool) → (Move H → Bool) → Move H → Option Access → Type 0
  AgreesOn te tm m None = tm m ≡ false
  AgreesOn te tm m (Some a) = (te (event m a) ≡ tm m) × (touches_some ws (event m a) ≡ false → tm m ≡ false)

  any_touching_first : (te : Event → Bool) (tm : Move H → Bool) (m : Move H) (e : List (Move H)) (a : Option Access) → m.access ≡ a → AgreesOn te tm m a → list_any te (touching e) ≡ list_any tm e → list_any te (touching (m ∷ e)) ≡ list_any tm (m ∷ e)
  any_touching_first te tm m e None h g ih = ap (list_any te) (touching_none m e h) ∙ ih ∙ sym (ap (λ (b : Bool). b || list_any tm e) g)
  any_touching_first te tm m e (Some a) h g ih = by (touches_some ws (event m a)) refl
    where
      by : (t : Bool) → touches_some ws (event m a) ≡ t → list_any te (touching (m ∷ e)) ≡ list_any tm (m ∷ e)
      by false k = ap (list_any te) (touching_not m a e h k) ∙ ih ∙ sym (ap (λ (b : Bool). b || list_any tm e) (g.1 k))
      by true k = ap (list_any te) (touching_some m a e h k) ∙ ap (λ (b : Bool). b || list_any te (touching e)) g.0 ∙ ap (λ (b : Bool). tm m || b) ih

  any_touching : (te : Event → Bool) (tm : Move H → Bool) → ((m : Move H) → AgreesOn te tm m m.access) → (e : List (Move H)) → list_any te (touching e) ≡ list_any tm e
  any_touching te tm g [] = refl
  any_touching te tm g (m ∷ e) = any_touching_first te tm m e m.access refl (g m) (any_touching te tm g e)

  -- ---- rivals

  module _ (w : Watchpoint) (wi : In w ws) where
    not_spoken : (m : Move H) (a : Access) → touches_some ws (event m a) ≡ false → speaks_of w.range a ≡ false
    not_spoken m a k = any_none (λ (v : Watchpoint). speaks_of v.range a) w ws wi k

    part_agrees : (m : Move H) (a : Option Access) → m.access ≡ a → AgreesOn (found.writes_in_part w) (writes_in_part w) m a
    part_agrees m None h = rw h (and_last (tells_changes w.kind) (not (is_serial m.phase) && false) (and_last (not (is_serial m.phase)) false refl))
    part_agrees m (Some a) h =
        let none = λ (k : touches_some ws (event m a) ≡ false). and_last (tells_changes w.kind) (not (is_serial m.phase) && (stores a && speaks_of w.range a)) (and_last (not (is_serial m.phase)) (stores a && speaks_of w.range a) (and_last (stores a) (speaks_of w.range a) (not_spoken m a k))) in
        rw h (refl, none)

    own_agrees : (hart : ℕ) (m : Move H) (a : Option Access) → AgreesOn (found.writes_in_part w) (writes_in_part w) m a →
        AgreesOn (λ (f : Event). f.hart == hart && found.writes_in_part w f) (λ (k : Move H). k.hart == hart && writes_in_part w k) m a
    own_agrees hart m None g = and_last (m.hart == hart) (writes_in_part w m) g
    own_agrees hart m (Some a) g = (ap (λ (b : Bool). m.hart == hart && b) g.0, λ k. and_last (m.hart == hart) (writes_in_part w m) (g.1 k))

    rival_same : (e : List (Move H)) (m : Move H) (a : Access) → m.access ≡ Some a → found.is_rival (touching e) (event m a) w ≡ is_rival e m w
    rival_same e m a h =
        let agrees = λ (k : Move H). part_agrees k k.access refl in
        ap (λ (b : Bool). b && (not (list_any (λ (f : Event). f.hart == m.hart && found.writes_in_part w f) (touching e)) && list_any (found.writes_in_part w) (touching e))) (part_agrees m (Some a) h).0
        ∙ ap (λ (b : Bool). writes_in_part w m && (not b && list_any (found.writes_in_part w) (touching e)))
        (any_touching (λ (f : Event). f.hart == m.hart && found.writes_in_part w f) (λ (k : Move H). k.hart == m.hart && writes_in_part w k) (λ k. own_agrees m.hart k k.access (agrees k)) e)
        ∙ ap (λ (b : Bool). writes_in_part w m && (not (list_any (λ (k : Move H). k.hart == m.hart && writes_in_part w k) e) && b))
        (any_touching (found.writes_in_part w) (writes_in_part w) agrees e)

    -- ---- bytes

    module _ (m : Move H) (a : Access) (x : ℕ) (inside : in_range w.range.start w.range.len x ≡ true) where
      laid : (v : Bool) (b : ℕ) → (if v then b else b) ≡ b
      laid true b = refl
      laid false b = refl

      both : (v u : Bool) (c b : ℕ) → (if v && u then c else b) ≡ (if v then (if u then c else b) else b)
      both true u c b = refl
      both false u c b = refl

      abbrev SameBytes : ℕ → List (Move H) → Type 0
      SameBytes b e = seen_by (event m a) x b (touching e) ≡ over (visible m) x b e

      bytes_first : (b : ℕ) (k : Move H) (e : List (Move H)) (c : Option Access) → k.access ≡ c → ((d : ℕ) → SameBytes d e) → SameBytes b (k ∷ e)
      bytes_first b k e None h ih =
          ap (seen_by (event m a) x b) (touching_none k e h) ∙ ih b
          ∙ ap (λ (d : ℕ). over (visible m) x d e) (sym (laid (visible m k) b))
          ∙ ap (λ (c : Option Access). over (visible m) x (if visible m k then wrote c x b else b) e) (sym h)
      bytes_first b k e (Some c) h ih = by (touches_some ws (event k c)) refl
        where
          last : over (visible m) x (if visible m k then wrote (Some c) x b else b) e ≡ over (visible m) x b (k ∷ e)
          last = ap (λ (z : Option Access). over (visible m) x (if visible m k then wrote z x b else b) e) (sym h)

          by : (t : Bool) → touches_some ws (event k c) ≡ t → SameBytes b (k ∷ e)
          by true t =
              ap (seen_by (event m a) x b) (touching_some k c e h t) ∙ ih (if visible m k && writes c x then byte_written c x else b)
              ∙ ap (λ (d : ℕ). over (visible m) x d e) (both (visible m k) (writes c x) (byte_written c x) b)
              ∙ last
          by false t =
              let none : writes c x ≡ false = writes_none w.range c x inside (not_spoken k c t) in
              ap (seen_by (event m a) x b) (touching_not k c e h t) ∙ ih b
              ∙ ap (λ (d : ℕ). over (visible m) x d e) (sym (laid (visible m k) b))
              ∙ ap (λ (u : Bool). over (visible m) x (if visible m k then (if u then byte_written c x else b) else b) e) (sym none)
              ∙ last

      bytes_same : (b : ℕ) (e : List (Move H)) → SameBytes b e
      bytes_same b [] = refl
      bytes_same b (k ∷ e) = bytes_first b k e k.access refl (λ d. bytes_same d e)

    -- ---- changes

    module _ (start : List ℕ) (e : List (Move H)) (m : Move H) (a : Access) (h : m.access ≡ Some a) (seen : SeenAfter start e m) where
      abbrev saved : List SavedBytes
      saved = saved_of ws start

      sees_access : Sees m.before.bytes m.after.bytes (Some a)
      sees_access = subst (λ (c : Option Access). Sees m.before.bytes m.after.bytes c) h seen.sees

      same_number : (b : ℕ) → not (b == b) ≡ false
      same_number b = grind (arith, nat_tests)

      equal_not : (b c : ℕ) → b ≡ c → not (b == c) ≡ false
      equal_not b c s = ap (λ (d : ℕ). not (b == d)) (sym s) ∙ same_number b

      change_inside : (x : ℕ) (u : Bool) → in_range w.range.start w.range.len x ≡ true → x < length start → writes a x ≡ u → found.changes_from (slice_index start x) (touching e) (event m a) x ≡ changes m x
      change_inside x true i lt u =
          let after : slice_index m.after.bytes x ≡ byte_written a x = sees_access.written x (omega (arith, lt, seen.size)) ∙ ap (λ (b : Bool). if b then byte_written a x else slice_index m.before.bytes x) u in
          let before : seen_by (event m a) x (slice_index start x) (touching e) ≡ slice_index m.before.bytes x = bytes_same m a x i (slice_index start x) e ∙ sym (seen.bytes x lt) in
          ap (λ (b : Bool). b && not (seen_by (event m a) x (slice_index start x) (touching e) == byte_written a x)) u
          ∙ ap (λ (b : ℕ). not (b == byte_written a x)) before
          ∙ ap (λ (b : ℕ). not (slice_index m.before.bytes x == b)) (sym after)
      change_inside x false i lt u =
          let after : slice_index m.after.bytes x ≡ slice_index m.before.bytes x = sees_access.written x (omega (arith, lt, seen.size)) ∙ ap (λ (b : Bool). if b then byte_written a x else slice_index m.before.bytes x) u in
          ap (λ (b : Bool). b && not (seen_by (event m a) x (slice_index start x) (touching e) == byte_written a x)) u
          ∙ sym (equal_not (slice_index m.before.bytes x) (slice_index m.after.bytes x) (sym after))

      change_past : (x : ℕ) → length start ≤ x → false ≡ changes m x
      change_past x le =
          let before : slice_index m.before.bytes x ≡ 0 = get_or_past m.before.bytes x 0 (omega (arith, le, seen.size)) in
          let after : slice_index m.after.bytes x ≡ 0 = get_or_past m.after.bytes x 0 (omega (arith, le, seen.size, sees_access.size)) in
          sym (equal_not (slice_index m.before.bytes x) (slice_index m.after.bytes x) (before ∙ sym after))

      -- by the byte that is saved there
      change_there : (x : ℕ) (b : Option ℕ) → tells_changes w.kind ≡ true → in_range w.range.start w.range.len x ≡ true → slice_get start x ≡ b → found.changes saved (touching e) (event m a) x ≡ changes m x
      change_there x b tells i g =
          ap (λ (o : Option ℕ). found.changes_at o (touching e) (event m a) x) (saved_is ws w x start wi tells i ∙ g) ∙ by b g
        where
          by : (b : Option ℕ) → slice_get start x ≡ b → found.changes_at b (touching e) (event m a) x ≡ changes m x
          by None g = change_past x (got_none start x g)
          by (Some b) g =
              let there = got_some start x b g in
              ap (λ (c : ℕ). found.changes_from c (touching e) (event m a) x) (sym there.1) ∙ change_inside x (writes a x) i there.0 refl

      change_same : (x : ℕ) (t : Bool) → tells_changes w.kind ≡ true → in_range w.range.start w.range.len x ≡ t →
          (in_range w.range.start w.range.len x && found.changes saved (touching e) (event m a) x) ≡ (in_range w.range.start w.range.len x && changes m x)
      change_same x false tells i = and_first (in_range w.range.start w.range.len x) (found.changes saved (touching e) (event m a) x) i ∙ sym (and_first (in_range w.range.start w.range.len x) (changes m x) i)
      change_same x true tells i = ap (λ (b : Bool). in_range w.range.start w.range.len x && b) (change_there x (slice_get start x) tells i refl)

      told_same : (kind : WatchKind) → w.kind ≡ kind → tells_by kind w.range saved (touching e) (event m a) ≡ told_by kind w.range m a
      told_same Changes k =
          any_same (λ x. in_range w.range.start w.range.len x && found.changes saved (touching e) (event m a) x) (λ x. in_range w.range.start w.range.len x && changes m x) (address_of a) (bytes_of a)
          (λ x. change_same x (in_range w.range.start w.range.len x) (ap tells_changes k) refl)
      told_same Reads k = refl
      told_same Accesses k = refl

    told_none : (m : Move H) (a : Access) (kind : WatchKind) → speaks_of w.range a ≡ false → told_by kind w.range m a ≡ false
    told_none m a Changes s = any_fewer (in_range w.range.start w.range.len) (changes m) (address_of a) (bytes_of a) s
    told_none m a Reads s = and_last (loads a) (speaks_of w.range a) s
    told_none m a Accesses s = and_last (loads a || stores a) (speaks_of w.range a) s

    rival_none : (others : List (Move H)) (m : Move H) (a : Access) → m.access ≡ Some a → touches_some ws (event m a) ≡ false → is_rival others m w ≡ false
    rival_none others m a h k = and_first (writes_in_part w m) (not (list_any (λ (j : Move H). j.hart == m.hart && writes_in_part w j) others) && list_any (writes_in_part w) others) ((part_agrees m (Some a) h).1 k)

  -- ---- hits

  beside_touching : (way : Way) (e f : List (Move H)) → beside way (touching e) (touching f) ≡ touching (beside way e f)
  beside_touching On e f = refl
  beside_touching Back e f = refl

  access_same : (way : Way) (start : List ℕ) (e f : List (Move H)) (m : Move H) (a : Access) → m.access ≡ Some a → SeenAfter start e m → event_hits way (saved_of ws start) ws (touching e) (touching f) (event m a) ≡ access_hits ws (beside way e f) m (Some a)
  access_same way start e f m a h seen =
      ap (λ (o : List Event). hit_at m.phase m.hart a true (position (found.is_rival o (event m a)) ws) ++ hit_at m.phase m.hart a false (position (tells (saved_of ws start) (touching e) (event m a)) ws)) (beside_touching way e f)
      ∙ ap (λ (p : Option ℕ). hit_at m.phase m.hart a true p ++ hit_at m.phase m.hart a false (position (tells (saved_of ws start) (touching e) (event m a)) ws))
      (position_same (found.is_rival (touching (beside way e f)) (event m a)) (is_rival (beside way e f) m) ws (λ w i. rival_same w i (beside way e f) m a h))
      ∙ ap (λ (p : Option ℕ). hit_at m.phase m.hart a true (position (is_rival (beside way e f) m) ws) ++ hit_at m.phase m.hart a false p)
      (position_same (tells (saved_of ws start) (touching e) (event m a)) (is_told m) ws (λ w i. told_same w i start e m a h seen w.kind refl ∙ ap (λ (c : Option Access). on_access c (told_by w.kind w.range m)) (sym h)))

  access_none : (others : List (Move H)) (m : Move H) (a : Access) → m.access ≡ Some a → touches_some ws (event m a) ≡ false → access_hits ws others m (Some a) ≡ []
  access_none others m a h k =
      ap (λ (p : Option ℕ). hit_at m.phase m.hart a true p ++ hit_at m.phase m.hart a false (position (is_told m) ws)) (position_none (is_rival others m) ws (λ w i. rival_none w i others m a h k))
      ∙ ap (λ (p : Option ℕ). hit_at m.phase m.hart a false p)
      (position_none (is_told m) ws (λ w i. ap (λ (c : Option Access). on_access c (told_by w.kind w.range m)) h ∙ told_none w i m a w.kind (not_spoken w i m a k)))

  abbrev SameHits : Way → List ℕ → List (Move H) → List (Move H) → Type 0
  SameHits way start e ms = hits_from way (saved_of ws start) ws (touching e) (touching ms) ≡ hits_after way ws e ms

  touching_on_none : (e : List (Move H)) (m : Move H) → m.access ≡ None → touching (e ++ m ∷ []) ≡ touching e
  touching_on_none e m h = touching_append e (m ∷ []) ∙ ap (λ (es : List Event). touching e ++ es) (touching_none m [] h) ∙ append-nil (touching e)

  touching_on_not : (e : List (Move H)) (m : Move H) (a : Access) → m.access ≡ Some a → touches_some ws (event m a) ≡ false → touching (e ++ m ∷ []) ≡ touching e
  touching_on_not e m a h k = touching_append e (m ∷ []) ∙ ap (λ (es : List Event). touching e ++ es) (touching_not m a [] h k) ∙ append-nil (touching e)

  touching_on_some : (e : List (Move H)) (m : Move H) (a : Access) → m.access ≡ Some a → touches_some ws (event m a) ≡ true → touching (e ++ m ∷ []) ≡ touching e ++ event m a ∷ []
  touching_on_some e m a h k = touching_append e (m ∷ []) ∙ ap (λ (es : List Event). touching e ++ es) (touching_some m a [] h k)

  hits_first : (way : Way) (start : List ℕ) (e : List (Move H)) (m : Move H) (ms : List (Move H)) (c : Option Access) → m.access ≡ c → SeenAfter start e m → SameHits way start (e ++ m ∷ []) ms → SameHits way start e (m ∷ ms)
  hits_first way start e m ms None h seen ih =
      ap (hits_from way (saved_of ws start) ws (touching e)) (touching_none m ms h)
      ∙ ap (λ (es : List Event). hits_from way (saved_of ws start) ws es (touching ms)) (sym (touching_on_none e m h))
      ∙ ih
      ∙ ap (λ (c : Option Access). access_hits ws (beside way e ms) m c ++ hits_after way ws (e ++ m ∷ []) ms) (sym h)
  hits_first way start e m ms (Some a) h seen ih = by (touches_some ws (event m a)) refl
    where
      last : access_hits ws (beside way e ms) m (Some a) ++ hits_after way ws (e ++ m ∷ []) ms ≡ hits_after way ws e (m ∷ ms)
      last = ap (λ (c : Option Access). access_hits ws (beside way e ms) m c ++ hits_after way ws (e ++ m ∷ []) ms) (sym h)

      by : (t : Bool) → touches_some ws (event m a) ≡ t → SameHits way start e (m ∷ ms)
      by true t =
          ap (hits_from way (saved_of ws start) ws (touching e)) (touching_some m a ms h t)
          ∙ ap (λ (hs : List Hit). hs ++ hits_from way (saved_of ws start) ws (touching e ++ event m a ∷ []) (touching ms)) (access_same way start e ms m a h seen)
          ∙ ap (λ (es : List Event). access_hits ws (beside way e ms) m (Some a) ++ hits_from way (saved_of ws start) ws es (touching ms)) (sym (touching_on_some e m a h t))
          ∙ ap (λ (hs : List Hit). access_hits ws (beside way e ms) m (Some a) ++ hs) ih
          ∙ last
      by false t =
          ap (hits_from way (saved_of ws start) ws (touching e)) (touching_not m a ms h t)
          ∙ ap (λ (es : List Event). hits_from way (saved_of ws start) ws es (touching ms)) (sym (touching_on_not e m a h t))
          ∙ ih
          ∙ ap (λ (hs : List Hit). hs ++ hits_after way ws (e ++ m ∷ []) ms) (sym (access_none (beside way e ms) m a h t))
          ∙ last

  pub hits_same : (way : Way) (start : List ℕ) (e ms : List (Move H)) → EachAfter (SeenAfter start) e ms → SameHits way start e ms
  hits_same way start e [] s = refl
  hits_same way start e (m ∷ ms) s = hits_first way start e m ms m.access refl s.0 (hits_same way start (e ++ m ∷ []) ms s.1)

-- ---- a round

pub found_in_round : (code : List Range) (budget : ℕ) (quotas : ℕ → List ℕ) (s : State Hart ConsoleState) (way : Way) (ws : List Watchpoint) (saved : List SavedBytes) (es fs : List Event) →
    IsBytes s.bytes → saved ≡ saved_of ws s.bytes → es ≡ events_left (s.rounds + 1) (moves_of (words_of code) budget quotas s) → fs ≡ filter (touches_some ws) es →
    hits_from way saved ws [] fs ≡ hits_of way ws (moves_of (words_of code) budget quotas s)
found_in_round code budget quotas s way ws touching_bytes es fs fit e f g =
    ap (λ (b : List SavedBytes). hits_from way b ws [] fs) e
    ∙ ap (hits_from way (saved_of ws s.bytes) ws []) (g ∙ ap (filter (touches_some ws)) f)
    ∙ hits_same (s.rounds + 1) ws way s.bytes [] (moves_of (words_of code) budget quotas s) (moves_seen (words_of code) (sound code) budget quotas s fit)

-- at a step of a loop over all events
hits_step : (way : Way) (saves : List SavedBytes) (ws : List Watchpoint) (es : List Event) (i : ℕ) (d : Event) → i < length es →
    hits_from way saves ws (take i es) (drop i es) ≡ event_hits way saves ws (take i es) (drop (i + 1) es) (get_or es i d) ++ hits_from way saves ws (take (i + 1) es) (drop (i + 1) es)
hits_step way saves ws es i d lt =
    ap (hits_from way saves ws (take i es)) (drop_more es i d lt)
    ∙ ap (λ (fs : List Event). event_hits way saves ws (take i es) (drop (i + 1) es) (get_or es i d) ++ hits_from way saves ws fs (drop (i + 1) es))
    (sym (ap (λ (k : ℕ). take k es) (add-one i) ∙ take-suc es i d lt))

pub hits_more : (way : Way) (saves : List SavedBytes) (ws : List Watchpoint) (es : List Event) (i : ℕ) (old new : List Hit) (all : List Hit) (earlier later : List Event) (e d : Event) →
    new ≡ old ++ event_hits way saves ws earlier later e → old ++ hits_from way saves ws (take i es) (drop i es) ≡ all → i < length es → e ≡ get_or es i d → earlier ≡ take i es → later ≡ drop (i + 1) es →
    new ++ hits_from way saves ws (take (i + 1) es) (drop (i + 1) es) ≡ all
hits_more way saves ws es i old new all earlier later e d added so_far lt is before behind =
    let rest = hits_from way saves ws (take (i + 1) es) (drop (i + 1) es) in
    ap (λ (hs : List Hit). hs ++ rest) added
    ∙ ap (λ (fs : List Event). (old ++ event_hits way saves ws fs later e) ++ rest) before
    ∙ ap (λ (fs : List Event). (old ++ event_hits way saves ws (take i es) fs e) ++ rest) behind
    ∙ ap (λ (f : Event). (old ++ event_hits way saves ws (take i es) (drop (i + 1) es) f) ++ rest) is
    ∙ append_assoc old (event_hits way saves ws (take i es) (drop (i + 1) es) (get_or es i d)) rest
    ∙ ap (λ (hs : List Hit). old ++ hs) (sym (hits_step way saves ws es i d lt))
    ∙ so_far

-- what is added of one event
pub hits_added : (way : Way) (saves : List SavedBytes) (ws : List Watchpoint) (earlier later : List Event) (e : Event) (old one two : List Hit) (others : List Event) (rival told : Option ℕ) →
    others ≡ beside way earlier later → rival ≡ position (found.is_rival others e) ws → told ≡ position (tells saves earlier e) ws →
    one ≡ old ++ hit_at e.phase e.hart e.access true rival → two ≡ one ++ hit_at e.phase e.hart e.access false told → two ≡ old ++ event_hits way saves ws earlier later e
hits_added way saves ws earlier later e old one two others rival told eo er et e1 e2 =
    e2
    ∙ ap (λ (hs : List Hit). hs ++ hit_at e.phase e.hart e.access false told) e1
    ∙ append_assoc old (hit_at e.phase e.hart e.access true rival) (hit_at e.phase e.hart e.access false told)
    ∙ ap (λ (p : Option ℕ). old ++ (hit_at e.phase e.hart e.access true p ++ hit_at e.phase e.hart e.access false told)) (er ∙ ap (λ (fs : List Event). position (found.is_rival fs e) ws) eo)
    ∙ ap (λ (p : Option ℕ). old ++ (hit_at e.phase e.hart e.access true (position (found.is_rival (beside way earlier later) e) ws) ++ hit_at e.phase e.hart e.access false p)) et

-- ---- one event by itself

tells_none : (w : Watchpoint) (kind : WatchKind) (saves : List SavedBytes) (earlier : List Event) (e : Event) → speaks_of w.range e.access ≡ false → tells_by kind w.range saves earlier e ≡ false
tells_none w Changes saves earlier e s = any_fewer (in_range w.range.start w.range.len) (found.changes saves earlier e) (address_of e.access) (bytes_of e.access) s
tells_none w Reads saves earlier e s = and_last (loads e.access) (speaks_of w.range e.access) s
tells_none w Accesses saves earlier e s = and_last (loads e.access || stores e.access) (speaks_of w.range e.access) s

-- none tells of one that touches no watched byte
pub untouched_none : (ws : List Watchpoint) (saves : List SavedBytes) (earlier : List Event) (e : Event) → touches_some ws e ≡ false → position (tells saves earlier e) ws ≡ None
untouched_none ws saves earlier e s = position_none (tells saves earlier e) ws (λ w i. tells_none w w.kind saves earlier e (any_none (λ (v : Watchpoint). speaks_of v.range e.access) w ws i s))
