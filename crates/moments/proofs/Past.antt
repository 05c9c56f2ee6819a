-- What a hart is after each number of its instructions is what it was by the past.
use Rattle.std.proofs.Common.{◌≡◌, ℕ, zero, suc, Bool, true, false, cond, List, [], ◌∷◌, ◌++◌, map, slice_get, slice_index, Option, Some, None, refl, sym, ◌∙◌, ap}
use Rattle.round_schedule.specs.declared.access.Stepped.{Stepped}
use Rattle.round_schedule.specs.declared.access.Stepped.TheVariants.{Done, Waits, Stopped}
use Rattle.round_schedule.specs.Past.{before_turn, goes_on_with, parts_from, past_of, turns_from}
use Rattle.round_schedule.specs.Schedule.{Words, HartRound, Progress, State, Turn, began, hart_round_of, hart_rounds, next_of, round_from, serial_next, turn_went, went}
use Rattle.round_schedule.proofs.PastEnds.{no_past, past_is, round_at}
use Rattle.moments.specs.Sights.{Sight, and_then, of_hart, part_sights, sights_of, turn_sights, turn_start}
use Rattle.moments.specs.Laws.{SightsAreThePast}
use Rattle.moments.proofs.Left.{sight_goes, sight_in}

abbrev pub harts_in : {H : Type 0} → List (Sight H) → List H
harts_in {H} xs = map (λ (x : Sight H). x.hart) xs

-- ---- a part

module _ {H C : Type 0} (w : Words H C) (bs : List ℕ) where
  abbrev PartIs : ℕ → Progress H → Type 0
  PartIs k p = harts_in (part_sights w k (sight_in bs p)) ≡ parts_from w bs k p

  part_first : (k : ℕ) (p : Progress H) (stopped : Bool) (a : Stepped) → w.stopped p.hart ≡ stopped → (next_of w bs p).answer ≡ a → ((q : Progress H) → PartIs k q) → PartIs (suc k) p
  unfolding parts_from part_sights
  part_first k p true a hs ha ih = rw hs refl
  part_first k p false Waits hs ha ih = rw (hs, ha) refl
  part_first k p false (Stopped code) hs ha ih = rw (hs, ha) refl
  part_first k p false (Done a) hs ha ih =
      let q : Progress H = went p (next_of w bs p) a in
      rw (hs, ha) (ap (λ (xs : List H). p.hart ∷ xs) (ap (λ (s : Sight H). harts_in (part_sights w k s)) (sight_goes bs p (next_of w bs p) a) ∙ ih q))

  pub part_is : (k : ℕ) (p : Progress H) → PartIs k p
  unfolding parts_from part_sights
  part_is zero p = refl
  part_is (suc k) p = part_first k p (w.stopped p.hart) (next_of w bs p).answer refl refl (λ q. part_is k q)

  -- its last is the hart at the end of the part
  pub record PartEnds (k : ℕ) (p : Progress H) : Type 0 where
    pub front : List H
    pub is : parts_from w bs k p ≡ front ++ (round_from w bs k p).last.hart ∷ []

  ends_first : (k : ℕ) (p : Progress H) (stopped : Bool) (a : Stepped) → w.stopped p.hart ≡ stopped → (next_of w bs p).answer ≡ a → ((q : Progress H) → PartEnds k q) → PartEnds (suc k) p
  unfolding parts_from round_from
  ends_first k p true a hs ha ih = record { front = []; is = rw hs refl }
  ends_first k p false Waits hs ha ih = record { front = []; is = rw (hs, ha) refl }
  ends_first k p false (Stopped code) hs ha ih = record { front = []; is = rw (hs, ha) refl }
  ends_first k p false (Done a) hs ha ih =
      let e = ih (went p (next_of w bs p) a) in
      record { front = p.hart ∷ e.front; is = rw (hs, ha) (ap (λ (xs : List H). p.hart ∷ xs) e.is) }

  pub part_ends : (k : ℕ) (p : Progress H) → PartEnds k p
  unfolding parts_from round_from
  part_ends zero p = record { front = []; is = refl }
  part_ends (suc k) p = ends_first k p (w.stopped p.hart) (next_of w bs p).answer refl refl (λ q. part_ends k q)

-- ---- a turn

module _ {H C : Type 0} (w : Words H C) (n i : ℕ) where
  abbrev TurnIs : ℕ → Turn H C → Type 0
  TurnIs k p = harts_in (turn_sights w n i k p) ≡ turns_from w n i k p

  turn_first : (k : ℕ) (p : Turn H C) (stopped : Bool) (a : Stepped) → w.stopped p.hart ≡ stopped → (serial_next w n i p).answer ≡ a → ((q : Turn H C) → TurnIs k q) → TurnIs (suc k) p
  unfolding turns_from turn_sights
  turn_first k p true a hs ha ih = rw hs refl
  turn_first k p false Waits hs ha ih = rw (hs, ha) refl
  turn_first k p false (Stopped code) hs ha ih = rw (hs, ha) refl
  turn_first k p false (Done a) hs ha ih = rw (hs, ha) (ap (λ (xs : List H). p.hart ∷ xs) (ih (turn_went n i p (serial_next w n i p) a)))

  pub turn_is : (k : ℕ) (p : Turn H C) → TurnIs k p
  unfolding turns_from turn_sights
  turn_is zero p = refl
  turn_is (suc k) p = turn_first k p (w.stopped p.hart) (serial_next w n i p).answer refl refl (λ q. turn_is k q)

-- ---- one list and then another

harts_go : {H : Type 0} (xs ys : List (Sight H)) → harts_in (goes_on_with xs ys) ≡ goes_on_with (harts_in xs) (harts_in ys)
harts_go [] ys = refl
harts_go (x ∷ []) ys = refl
harts_go {H} (x ∷ y ∷ xs) ys = ap (λ (hs : List H). x.hart ∷ hs) (harts_go (y ∷ xs) ys)

goes_end : {H : Type 0} (xs : List H) (x : H) → goes_on_with (xs ++ x ∷ []) (x ∷ []) ≡ xs ++ x ∷ []
goes_end [] x = refl
goes_end (y ∷ []) x = refl
goes_end {H} (y ∷ z ∷ xs) x = ap (λ (hs : List H). y ∷ hs) (goes_end (z ∷ xs) x)

-- ---- a round

module _ {H C : Type 0} (w : Words H C) (budget : ℕ) (quotas : ℕ → List ℕ) (s : State H C) (i : ℕ) where
  abbrev rs : List (HartRound H)
  rs = hart_rounds w s.bytes (quotas s.rounds) s.harts

  abbrev quota : ℕ
  quota = slice_index (quotas s.rounds) i

  abbrev begun : State H C
  begun = before_turn w budget s rs i

  -- the sights of a hart that there is
  pub sights_are : (h : H) → slice_get s.harts i ≡ Some h →
      sights_of w budget quotas s i ≡ of_hart w budget quota s rs i (Some h) (Some (hart_round_of w s.bytes quota h))
  unfolding sights_of
  sights_are h e =
      ap (λ (g : Option H). of_hart w budget quota s rs i g (slice_get rs i)) e
      ∙ ap (λ (r : Option (HartRound H)). of_hart w budget quota s rs i (Some h) r) (round_at w s.bytes (quotas s.rounds) s.harts i h e)

  by_waiting : (h : H) (waits : Bool) →
      harts_in (and_then waits (part_sights w quota (record { hart = h; bytes = s.bytes })) (turn_sights w begun.rounds i budget (turn_start begun (hart_round_of w s.bytes quota h))))
      ≡ goes_on_with (parts_from w s.bytes quota (began h)) (turns_from w begun.rounds i (cond waits budget 0) (turn_start begun (hart_round_of w s.bytes quota h)))
  unfolding turns_from
  by_waiting h true =
      let start = turn_start begun (hart_round_of w s.bytes quota h) in
      harts_go (part_sights w quota (record { hart = h; bytes = s.bytes })) (turn_sights w begun.rounds i budget start)
      ∙ ap (λ (xs : List H). goes_on_with xs (harts_in (turn_sights w begun.rounds i budget start))) (part_is w s.bytes quota (began h))
      ∙ ap (goes_on_with (parts_from w s.bytes quota (began h))) (turn_is w begun.rounds i budget start)
  by_waiting h false =
      let last : H = (hart_round_of w s.bytes quota h).last.hart in
      let ends = part_ends w s.bytes quota (began h) in
      part_is w s.bytes quota (began h)
      ∙ ends.is
      ∙ sym (goes_end ends.front last)
      ∙ ap (λ (xs : List H). goes_on_with xs (last ∷ [])) (sym ends.is)

  by_hart : (g : Option H) → slice_get s.harts i ≡ g → harts_in (sights_of w budget quotas s i) ≡ past_of w budget quotas s i
  unfolding sights_of
  by_hart None e = ap (λ (g : Option H). harts_in (of_hart w budget quota s rs i g (slice_get rs i))) e ∙ sym (no_past w budget quotas s i e)
  by_hart (Some h) e =
      ap harts_in (sights_are h e) ∙ by_waiting h (hart_round_of w s.bytes quota h).waits ∙ sym (past_is w budget quotas s i h e)

pub sights_past : (H C : Type 0) → SightsAreThePast H C
sights_past H C = λ w budget quotas s i. by_hart w budget quotas s i (slice_get s.harts i) refl
