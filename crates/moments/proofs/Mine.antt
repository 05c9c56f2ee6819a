-- What a hart sees is what it sees before each of its moves.
use Rattle.std.proofs.Common.{◌≡◌, ℕ, zero, suc, ◌+◌, ◌<◌, Bool, true, false, cond, List, [], ◌∷◌, ◌++◌, take, slice_get, slice_index, Some, refl, sym, ◌∙◌, ap, subst, arith, append_assoc, append-nil, eq-eqb}
use Rattle.std.specs.Prelude.{◌==◌}
use Rattle.std.proofs.lemmas.Bool.{ne_eqb}
use Rattle.std.proofs.lemmas.List.Elements.{filter-append}
use Rattle.round_schedule.specs.declared.access.Stepped.{Stepped}
use Rattle.round_schedule.specs.declared.access.Stepped.TheVariants.{Done, Waits, Stopped}
use Rattle.round_schedule.specs.Past.{before_turn, goes_on_with}
use Rattle.round_schedule.specs.Schedule.{Words, HartRound, State, Turn, committed, first_or_zero, hart_round_of, hart_rounds, joined, rest_of, serial_from, serial_next, turn_of, turn_went}
use Rattle.round_schedule.proofs.PastEnds.{round_at}
use Rattle.moments.specs.Sights.{Sight, and_then, next_seen, part_sights, seen_after, seen_still, sight_at, sights_of, turn_sights, turn_start}
use Rattle.moments.specs.Moves.{Move, is_of, moves_by, moves_of, part_moves, parts_moves, sight_before, sights_before, turn_moves, turns_moves}
use Rattle.moments.specs.Laws.{EndsMoves, SightsAreBeforeMoves}
use Rattle.moments.proofs.Past.{sights_are}

-- ---- a part and a turn

module _ {H C : Type 0} (w : Words H C) (i : ℕ) where
  abbrev PartEnds : ℕ → Sight H → Type 0
  PartEnds k s = EndsMoves (part_moves w i k s) (part_sights w k s)

  part_first : (k : ℕ) (s : Sight H) (stopped : Bool) (a : Stepped) → w.stopped s.hart ≡ stopped → (next_seen w s).answer ≡ a → ((q : Sight H) → PartEnds k q) → PartEnds (suc k) s
  unfolding part_moves part_sights
  part_first k s true a hs ha ih = record { last = s; is = rw hs refl }
  part_first k s false Waits hs ha ih = record { last = seen_still s (next_seen w s); is = rw (hs, ha) refl }
  part_first k s false (Stopped code) hs ha ih = record { last = seen_still s (next_seen w s); is = rw (hs, ha) refl }
  part_first k s false (Done a) hs ha ih =
      let e = ih (seen_after s (next_seen w s)) in
      record { last = e.last; is = rw (hs, ha) (ap (λ (xs : List (Sight H)). s ∷ xs) e.is) }

  pub part_ends : (k : ℕ) (s : Sight H) → PartEnds k s
  unfolding part_moves part_sights
  part_ends zero s = record { last = s; is = refl }
  part_ends (suc k) s = part_first k s (w.stopped s.hart) (next_seen w s).answer refl refl (λ q. part_ends k q)

module _ {H C : Type 0} (w : Words H C) (n i : ℕ) where
  abbrev TurnEnds : ℕ → Turn H C → Type 0
  TurnEnds k p = EndsMoves (turn_moves w n i k p) (turn_sights w n i k p)

  turn_first : (k : ℕ) (p : Turn H C) (stopped : Bool) (a : Stepped) → w.stopped p.hart ≡ stopped → (serial_next w n i p).answer ≡ a → ((q : Turn H C) → TurnEnds k q) → TurnEnds (suc k) p
  unfolding turn_moves turn_sights
  turn_first k p true a hs ha ih = record { last = sight_at p; is = rw hs refl }
  turn_first k p false Waits hs ha ih = record { last = record { hart = (serial_next w n i p).hart; bytes = p.bytes }; is = rw (hs, ha) refl }
  turn_first k p false (Stopped code) hs ha ih = record { last = record { hart = (serial_next w n i p).hart; bytes = p.bytes }; is = rw (hs, ha) refl }
  turn_first k p false (Done a) hs ha ih =
      let e = ih (turn_went n i p (serial_next w n i p) a) in
      record { last = e.last; is = rw (hs, ha) (ap (λ (xs : List (Sight H)). sight_at p ∷ xs) e.is) }

  pub turn_ends : (k : ℕ) (p : Turn H C) → TurnEnds k p
  unfolding turn_moves turn_sights
  turn_ends zero p = record { last = sight_at p; is = refl }
  turn_ends (suc k) p = turn_first k p (w.stopped p.hart) (serial_next w n i p).answer refl refl (λ q. turn_ends k q)

-- ---- whose moves they are

abbrev AreBy : {H : Type 0} → ℕ → List (Move H) → Type 0
AreBy j [] = Unit {0}
AreBy j (m ∷ ms) = (m.hart ≡ j) × AreBy j ms

all_mine : {H : Type 0} (j : ℕ) (ms : List (Move H)) → AreBy j ms → moves_by j ms ≡ ms
all_mine j [] by = refl
all_mine {H} j (m ∷ ms) by =
    let mine : is_of j m ≡ true = eq-eqb m.hart j by.0 in
    ap (λ (t : Bool). cond t (m ∷ moves_by j ms) (moves_by j ms)) mine ∙ ap (λ (xs : List (Move H)). m ∷ xs) (all_mine j ms by.1)

none_mine : {H : Type 0} (i j : ℕ) (ms : List (Move H)) → AreBy j ms → (j == i) ≡ false → moves_by i ms ≡ []
none_mine i j [] by other = refl
none_mine i j (m ∷ ms) by other =
    let not_mine : is_of i m ≡ false = ap (λ (k : ℕ). k == i) by.0 ∙ other in
    ap (λ (t : Bool). cond t (m ∷ moves_by i ms) (moves_by i ms)) not_mine ∙ none_mine i j ms by.1 other

module _ {H C : Type 0} (w : Words H C) (i : ℕ) where
  by_part_first : (k : ℕ) (s : Sight H) (stopped : Bool) (a : Stepped) → w.stopped s.hart ≡ stopped → (next_seen w s).answer ≡ a → ((q : Sight H) → AreBy i (part_moves w i k q)) → AreBy i (part_moves w i (suc k) s)
  unfolding part_moves
  by_part_first k s true a hs ha ih = rw hs tt
  by_part_first k s false Waits hs ha ih = rw (hs, ha) tt
  by_part_first k s false (Stopped code) hs ha ih = rw (hs, ha) (refl, tt)
  by_part_first k s false (Done a) hs ha ih = rw (hs, ha) (refl, ih (seen_after s (next_seen w s)))

  by_part : (k : ℕ) (s : Sight H) → AreBy i (part_moves w i k s)
  unfolding part_moves
  by_part zero s = tt
  by_part (suc k) s = by_part_first k s (w.stopped s.hart) (next_seen w s).answer refl refl (λ q. by_part k q)

module _ {H C : Type 0} (w : Words H C) (n i : ℕ) where
  by_turn_first : (k : ℕ) (p : Turn H C) (stopped : Bool) (a : Stepped) → w.stopped p.hart ≡ stopped → (serial_next w n i p).answer ≡ a → ((q : Turn H C) → AreBy i (turn_moves w n i k q)) → AreBy i (turn_moves w n i (suc k) p)
  unfolding turn_moves
  by_turn_first k p true a hs ha ih = rw hs tt
  by_turn_first k p false Waits hs ha ih = rw (hs, ha) tt
  by_turn_first k p false (Stopped code) hs ha ih = rw (hs, ha) (refl, tt)
  by_turn_first k p false (Done a) hs ha ih = rw (hs, ha) (refl, ih (turn_went n i p (serial_next w n i p) a))

  by_turn : (k : ℕ) (p : Turn H C) → AreBy i (turn_moves w n i k p)
  unfolding turn_moves
  by_turn zero p = tt
  by_turn (suc k) p = by_turn_first k p (w.stopped p.hart) (serial_next w n i p).answer refl refl (λ q. by_turn k q)

-- ---- one hart's of all

some_is : {X : Type 0} (x y : X) → Some x ≡ Some y → x ≡ y
some_is x y e = cc

is_other : (i j : ℕ) → (i ≡ j → ⊥) → (i == j) ≡ false
is_other i j ne = ne_eqb i j ne

first_is : (qs : List ℕ) → first_or_zero qs ≡ slice_index qs 0
first_is [] = refl
first_is (q ∷ qs) = refl

rest_is : (qs : List ℕ) (k : ℕ) → slice_index (rest_of qs) k ≡ slice_index qs (suc k)
rest_is [] k = refl
rest_is (q ∷ qs) k = refl

module _ {H C : Type 0} (w : Words H C) (bs : List ℕ) (i : ℕ) where
  parts_none : (hs : List H) (qs : List ℕ) (j : ℕ) → i < j → moves_by i (parts_moves w bs qs j hs) ≡ []
  parts_none [] qs j lt = refl
  parts_none (h ∷ hs) qs j lt =
      let part = part_moves w j (first_or_zero qs) (record { hart = h; bytes = bs }) in
      let rest = parts_moves w bs (rest_of qs) (suc j) hs in
      filter-append (is_of i) part rest
      ∙ ap (λ (xs : List (Move H)). xs ++ moves_by i rest) (none_mine i j part (by_part w j (first_or_zero qs) _) (is_other j i (λ e. omega (arith, e, lt))))
      ∙ parts_none hs (rest_of qs) (suc j) (omega (arith, lt))

  parts_mine : (hs : List H) (qs : List ℕ) (j k : ℕ) (h : H) → slice_get hs k ≡ Some h → j + k ≡ i →
      moves_by i (parts_moves w bs qs j hs) ≡ part_moves w i (slice_index qs k) (record { hart = h; bytes = bs })
  parts_mine [] qs j k h e at = absurd cc
  parts_mine (g ∷ hs) qs j zero h e at =
      let here : j ≡ i = omega (arith, at) in
      let same : g ≡ h = some_is g h e in
      let part = part_moves w j (first_or_zero qs) (record { hart = g; bytes = bs }) in
      let rest = parts_moves w bs (rest_of qs) (suc j) hs in
      filter-append (is_of i) part rest
      ∙ ap (λ (xs : List (Move H)). moves_by i part ++ xs) (parts_none hs (rest_of qs) (suc j) (omega (arith, here)))
      ∙ append-nil (moves_by i part)
      ∙ ap (λ (x : ℕ). moves_by i (part_moves w x (first_or_zero qs) (record { hart = g; bytes = bs }))) here
      ∙ all_mine i (part_moves w i (first_or_zero qs) (record { hart = g; bytes = bs })) (by_part w i (first_or_zero qs) _)
      ∙ ap (λ (q : ℕ). part_moves w i q (record { hart = g; bytes = bs })) (first_is qs)
      ∙ ap (λ (x : H). part_moves w i (slice_index qs 0) (record { hart = x; bytes = bs })) same
  parts_mine (g ∷ hs) qs j (suc k) h e at =
      let part = part_moves w j (first_or_zero qs) (record { hart = g; bytes = bs }) in
      let rest = parts_moves w bs (rest_of qs) (suc j) hs in
      filter-append (is_of i) part rest
      ∙ ap (λ (xs : List (Move H)). xs ++ moves_by i rest) (none_mine i j part (by_part w j (first_or_zero qs) _) (is_other j i (λ same. omega (arith, same, at))))
      ∙ parts_mine hs (rest_of qs) (suc j) k h e (omega (arith, at))
      ∙ ap (λ (q : ℕ). part_moves w i q (record { hart = h; bytes = bs })) (rest_is qs k)

module _ {H C : Type 0} (w : Words H C) (budget i : ℕ) where
  abbrev one_turn : ℕ → State H C → HartRound H → List (Move H)
  one_turn j s r = turn_moves w s.rounds j (cond r.waits budget 0) (turn_start s r)

  turns_none : (rs : List (HartRound H)) (j : ℕ) (s : State H C) → i < j → moves_by i (turns_moves w budget j rs s) ≡ []
  turns_none [] j s lt = refl
  turns_none (r ∷ rs) j s lt =
      let next = joined s (turn_of w budget s j r) in
      let rest = turns_moves w budget (suc j) rs next in
      filter-append (is_of i) (one_turn j s r) rest
      ∙ ap (λ (xs : List (Move H)). xs ++ moves_by i rest) (none_mine i j (one_turn j s r) (by_turn w s.rounds j _ _) (is_other j i (λ e. omega (arith, e, lt))))
      ∙ turns_none rs (suc j) next (omega (arith, lt))

  turns_mine : (rs : List (HartRound H)) (j k : ℕ) (s : State H C) (r : HartRound H) → slice_get rs k ≡ Some r → j + k ≡ i →
      moves_by i (turns_moves w budget j rs s) ≡ one_turn i (serial_from w budget j (take k rs) s) r
  turns_mine [] j k s r e at = absurd cc
  turns_mine (g ∷ rs) j zero s r e at =
      let here : j ≡ i = omega (arith, at) in
      let same : g ≡ r = some_is g r e in
      let next = joined s (turn_of w budget s j g) in
      let rest = turns_moves w budget (suc j) rs next in
      filter-append (is_of i) (one_turn j s g) rest
      ∙ ap (λ (xs : List (Move H)). moves_by i (one_turn j s g) ++ xs) (turns_none rs (suc j) next (omega (arith, here)))
      ∙ append-nil (moves_by i (one_turn j s g))
      ∙ ap (λ (x : ℕ). moves_by i (one_turn x s g)) here
      ∙ all_mine i (one_turn i s g) (by_turn w s.rounds i _ _)
      ∙ ap (λ (x : HartRound H). one_turn i s x) same
  turns_mine (g ∷ rs) j (suc k) s r e at =
      let next = joined s (turn_of w budget s j g) in
      let rest = turns_moves w budget (suc j) rs next in
      filter-append (is_of i) (one_turn j s g) rest
      ∙ ap (λ (xs : List (Move H)). xs ++ moves_by i rest) (none_mine i j (one_turn j s g) (by_turn w s.rounds j _ _) (is_other j i (λ same. omega (arith, same, at))))
      ∙ turns_mine rs (suc j) k next r e (omega (arith, at))

-- ---- one list and then another

goes_last : {H : Type 0} (xs : List H) (x : H) (ys : List H) → goes_on_with (xs ++ x ∷ []) ys ≡ xs ++ ys
goes_last [] x ys = refl
goes_last (y ∷ []) x ys = refl
goes_last {H} (y ∷ z ∷ xs) x ys = ap (λ (hs : List H). y ∷ hs) (goes_last (z ∷ xs) x ys)

before_both : {H : Type 0} (ms ns : List (Move H)) → sights_before (ms ++ ns) ≡ sights_before ms ++ sights_before ns
before_both [] ns = refl
before_both {H} (m ∷ ms) ns =
    ap (λ (xs : List (Sight H)). sight_before m m.stop ++ xs) (before_both ms ns)
    ∙ sym (append_assoc (sight_before m m.stop) (sights_before ms) (sights_before ns))

both_end : {H : Type 0} (ms ns : List (Move H)) (xs ys : List (Sight H)) → EndsMoves ms xs → EndsMoves ns ys → EndsMoves (ms ++ ns) (goes_on_with xs ys)
both_end {H} ms ns xs ys first then = record {
  last = then.last;
  is =
      ap (λ (zs : List (Sight H)). goes_on_with zs ys) first.is
      ∙ goes_last (sights_before ms) first.last ys
      ∙ ap (λ (zs : List (Sight H)). sights_before ms ++ zs) then.is
      ∙ sym (append_assoc (sights_before ms) (sights_before ns) (then.last ∷ []))
      ∙ ap (λ (zs : List (Sight H)). zs ++ then.last ∷ []) (sym (before_both ms ns));
}

-- ---- a round

module _ {H C : Type 0} (w : Words H C) (budget : ℕ) (quotas : ℕ → List ℕ) (s : State H C) (i : ℕ) (h : H) (e : slice_get s.harts i ≡ Some h) where
  abbrev rs : List (HartRound H)
  rs = hart_rounds w s.bytes (quotas s.rounds) s.harts

  abbrev quota : ℕ
  quota = slice_index (quotas s.rounds) i

  abbrev begun : State H C
  begun = before_turn w budget s rs i

  abbrev mine : HartRound H
  mine = hart_round_of w s.bytes quota h

  abbrev from_start : Sight H
  from_start = record { hart = h; bytes = s.bytes }

  moves_are : moves_by i (moves_of w budget quotas s) ≡ part_moves w i quota from_start ++ turn_moves w begun.rounds i (cond mine.waits budget 0) (turn_start begun mine)
  unfolding moves_of
  moves_are =
      let parts = parts_moves w s.bytes (quotas s.rounds) 0 s.harts in
      let turns = turns_moves w budget 0 rs (committed s rs) in
      let place : 0 + i ≡ i = omega arith in
      filter-append (is_of i) parts turns
      ∙ ap (λ (xs : List (Move H)). xs ++ moves_by i turns) (parts_mine w s.bytes i s.harts (quotas s.rounds) 0 i h e place)
      ∙ ap (λ (xs : List (Move H)). part_moves w i quota from_start ++ xs)
      (turns_mine w budget i rs 0 i (committed s rs) mine (round_at w s.bytes (quotas s.rounds) s.harts i h e) place)

  by_waiting : (waits : Bool) →
      EndsMoves (part_moves w i quota from_start ++ turn_moves w begun.rounds i (cond waits budget 0) (turn_start begun mine))
      (and_then waits (part_sights w quota from_start) (turn_sights w begun.rounds i budget (turn_start begun mine)))
  unfolding turn_moves
  by_waiting true = both_end _ _ _ _ (part_ends w i quota from_start) (turn_ends w begun.rounds i budget (turn_start begun mine))
  by_waiting false =
      let P : List (Move H) → Type 0 = λ ms. EndsMoves ms (part_sights w quota from_start) in
      subst P (sym (append-nil (part_moves w i quota from_start))) (part_ends w i quota from_start)

  pub mine_end : EndsMoves (moves_by i (moves_of w budget quotas s)) (sights_of w budget quotas s i)
  mine_end =
      let ends = by_waiting mine.waits in
      record {
        last = ends.last;
        is = sights_are w budget quotas s i h e ∙ ends.is ∙ ap (λ (ms : List (Move H)). sights_before ms ++ ends.last ∷ []) (sym moves_are);
      }

pub sights_moves : (H C : Type 0) → SightsAreBeforeMoves H C
sights_moves H C = λ w budget quotas s i h e. mine_end w budget quotas s i h e
