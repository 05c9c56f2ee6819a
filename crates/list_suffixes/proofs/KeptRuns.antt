-- Runs against the stores of a list that stay.
use Rattle.std.proofs.Common.{◌≡◌, ℕ, ◌+◌, ◌≤◌, ◌==◌, ◌&&◌, ◌||◌, ◌⊎◌, not, Bool, true, false, if◌then◌else◌, List, [], ◌∷◌, length, Some, refl, sym, ap, ◌∙◌, subst, inl, inr, arith}
use Rattle.std.proofs.lemmas.Bool.{and_parts, eq-eqb, eqb-true}
use Rattle.pages.specs.Memory.{Memory}
use Rattle.rv64_decode.specs.declared.instruction.Instr.{Instr}
use Rattle.round_schedule.specs.declared.access.Access.{Access}
use Rattle.round_schedule.specs.Accesses.{loads, stores}
use Rattle.hart_step.specs.DecodedCode.{decoded}
use Rattle.memory_order.proofs.Facts.{or_cases, or_left, or_right}
use Rattle.memory_order.specs.Registers.{registers_of}
use Rattle.all_endings.specs.RunStates.{Move, RunState, answers_to, moved, operates}
use Rattle.all_endings.specs.StoreLists.{Stored}
use Rattle.all_endings.specs.Tables.{memory_of}
use Rattle.all_endings.specs.Walking.{Place, place_after}
use Rattle.all_endings.proofs.Sources.{both}
use Rattle.private_bytes.specs.Ahead.{IsAhead}
use Rattle.private_bytes.specs.Owners.{is_private}
use Rattle.private_bytes.specs.PrivateMoves.{moved_privately}
use Rattle.private_bytes.specs.PrivateWalks.{Spot, StandsForApart, constant_after, looks_at_none, place_apart, spot_after}
use Rattle.private_bytes.proofs.Mirroring.{set_size}
use Rattle.list_suffixes.specs.ApartRuns.{AreMovesKept, AreOfThoseKept, RunsApart, RunsAreKept, StandsForAlways, spots_after}
use Rattle.list_suffixes.specs.KeptMoves.{IsMoveKept, state_after}
use Rattle.list_suffixes.specs.Staying.{AreShared, MayBeLaid, kept, kept_before, laid, place_before, spot_kept, state_kept}
use Rattle.list_suffixes.proofs.KeptMoves.{moves_kept}
use Rattle.list_suffixes.proofs.Staying.{before_kept}

-- ---- what a move leaves of a place

module _ (owns : ℕ → ℕ → Bool) (h : ℕ) (m : List Stored) (p : Place) (v : Move) where
  abbrev privately : Place
  privately = record p { state = moved_privately h m p.state v; count = p.count + 1 }

  pub after_state : (place_apart owns h m p v).state ≡ state_after owns h m p.state v
  after_state = by_test (is_private owns h v.access)
    where
      by_test : (c : Bool) → (if c then privately else place_after h m p v).state ≡ (if c then moved_privately h m p.state v else moved h m p.state v)
      by_test true = refl
      by_test false = refl

  pub after_count : (place_apart owns h m p v).count ≡ p.count + 1
  after_count = by_test (is_private owns h v.access)
    where
      by_test : (c : Bool) → (if c then privately else place_after h m p v).count ≡ p.count + 1
      by_test true = refl
      by_test false = refl

  pub after_next : (place_apart owns h m p v).next ≡ p.next
  after_next = by_test (is_private owns h v.access)
    where
      by_test : (c : Bool) → (if c then privately else place_after h m p v).next ≡ p.next
      by_test true = refl
      by_test false = refl

  pub after_size : length (place_apart owns h m p v).state.registers ≡ length p.state.registers
  after_size = by_test (is_private owns h v.access)
    where
      by_test : (c : Bool) → length (if c then privately else place_after h m p v).state.registers ≡ length p.state.registers
      by_test true = set_size p.state.registers (answers_to v.instruction) v.result
      by_test false = set_size p.state.registers (answers_to v.instruction) v.result

  pub paid_old : (j : ℕ) → p.paid j ≡ true → (place_apart owns h m p v).paid j ≡ true
  paid_old j e = by_test (is_private owns h v.access)
    where
      by_test : (c : Bool) → (if c then privately else place_after h m p v).paid j ≡ true
      by_test true = e
      by_test false = or_left (p.paid j) (stores v.access && v.time == j) e

  pub paid_new : (j : ℕ) → is_private owns h v.access ≡ false → stores v.access ≡ true → v.time ≡ j → (place_apart owns h m p v).paid j ≡ true
  paid_new j public store time = by_test (is_private owns h v.access) public
    where
      by_test : (c : Bool) → c ≡ false → (if c then privately else place_after h m p v).paid j ≡ true
      by_test true e = absurd (cc)
      by_test false e = or_right (p.paid j) (stores v.access && v.time == j) (both (stores v.access) (v.time == j) store (eq-eqb v.time j time))

  pub paid_from : (j : ℕ) → (place_apart owns h m p v).paid j ≡ true → (p.paid j ≡ true) ⊎ ((is_private owns h v.access ≡ false) × (stores v.access ≡ true) × (v.time ≡ j))
  paid_from j e = by_test (is_private owns h v.access) refl e
    where
      by_test : (c : Bool) → is_private owns h v.access ≡ c → (if c then privately else place_after h m p v).paid j ≡ true →
          (p.paid j ≡ true) ⊎ ((is_private owns h v.access ≡ false) × (stores v.access ≡ true) × (v.time ≡ j))
      by_test true is e = inl e
      by_test false is e = elim (or_cases (p.paid j) (stores v.access && v.time == j) e) [
        | inl old ↦ inl old
        | inr new ↦ let q = and_parts (stores v.access) (v.time == j) new in inr (is, q.0, eqb-true v.time j q.1)
      ]

-- ---- a move and the spots that stand for where it begins

pub constant_same : (c d : Bool) (v u : Move) → u.instruction ≡ v.instruction → u.access ≡ v.access → (c ≡ true → d ≡ true) → constant_after c u ≡ true → constant_after d v ≡ true
constant_same c d v u same access l e = by_register (answers_to v.instruction == 17) to
  where
    to : (if answers_to v.instruction == 17 then looks_at_none (registers_of v.instruction) && not (operates v) else c) ≡ true
    to = ap (λ (i : Instr). if answers_to i == 17 then looks_at_none (registers_of i) && not (operates v) else c) (sym same)
        ∙ ap (λ (b : Bool). if answers_to u.instruction == 17 then looks_at_none (registers_of u.instruction) && not b else c) (sym (ap (λ (y : Access). loads y || stores y) access)) ∙ e

    by_register : (b : Bool) → (if b then looks_at_none (registers_of v.instruction) && not (operates v) else c) ≡ true → (if b then looks_at_none (registers_of v.instruction) && not (operates v) else d) ≡ true
    by_register true e = e
    by_register false e = l e

module _ (owns : ℕ → ℕ → Bool) (h : ℕ) (stays : List Bool) (m n : List Stored) where
  pub stands_after : (a p : Spot) (v u : Move) → IsMoveKept stays m v u → IsAhead (state_after owns h n p.place.state u) (state_kept stays m (state_after owns h m a.place.state v)) →
      (k : List Stored) → StandsForApart k p (spot_kept stays m a) → StandsForApart k (spot_after owns h n p u) (spot_kept stays m (spot_after owns h m a v))
  stands_after a p v u is ahead k stands = record {
    state = subst (λ (s : RunState). IsAhead s (state_kept stays m (place_apart owns h m a.place v).state)) (sym (after_state owns h n p.place u))
        (subst (λ (s : RunState). IsAhead (state_after owns h n p.place.state u) (state_kept stays m s)) (sym (after_state owns h m a.place v)) ahead);
    count = (let c = stands.count in let d = after_count owns h n p.place u in let e = after_count owns h m a.place v in omega (arith, c, d, e));
    paid = λ j l paid. elim (paid_from owns h m a.place v (place_before stays j) paid) [
      | inl old ↦ paid_old owns h n p.place u j (stands.paid j l old)
      | inr new ↦
          paid_new owns h n p.place u j (ap (is_private owns h) is.access ∙ new.0) (ap stores is.access ∙ new.1) (is.time ∙ ap (kept_before stays) new.2 ∙ before_kept stays j)
    ];
    next = after_next owns h n p.place u ∙ stands.next ∙ sym (after_next owns h m a.place v);
    constant = constant_same p.constant a.constant v u is.instruction is.access stands.constant;
  }

  -- a run from a, and one from p, spot by spot
  abbrev pub Together : Spot → Spot → List Move → List Move → Type 0
  Together p a [] [] = StandsForAlways p (spot_kept stays m a)
  Together p a (u ∷ us) (v ∷ vs) = StandsForAlways p (spot_kept stays m a) × IsMoveKept stays m v u × Together (spot_after owns h n p u) (spot_after owns h m a v) us vs
  Together p a _ _ = ⊥

  pub together_ends : (us vs : List Move) (p a : Spot) → Together p a us vs → StandsForAlways (spots_after owns h n p us) (spot_kept stays m (spots_after owns h m a vs))
  together_ends [] [] p a t = t
  together_ends (u ∷ us) (v ∷ vs) p a t = together_ends us vs (spot_after owns h n p u) (spot_after owns h m a v) t.2
  together_ends [] (v ∷ vs) p a t = absurd t
  together_ends (u ∷ us) [] p a t = absurd t

  pub together_begins : (us vs : List Move) (p a : Spot) → Together p a us vs → StandsForAlways p (spot_kept stays m a)
  together_begins [] [] p a t = t
  together_begins (u ∷ us) (v ∷ vs) p a t = t.0
  together_begins [] (v ∷ vs) p a t = absurd t
  together_begins (u ∷ us) [] p a t = absurd t

  pub together_moves : (us vs : List Move) (p a : Spot) → Together p a us vs → AreMovesKept stays m vs us
  together_moves [] [] p a t = tt
  together_moves (u ∷ us) (v ∷ vs) p a t = (t.1, together_moves us vs (spot_after owns h n p u) (spot_after owns h m a v) t.2)
  together_moves [] (v ∷ vs) p a t = absurd t
  together_moves (u ∷ us) [] p a t = absurd t

-- ---- runs

module _ (owns : ℕ → ℕ → Bool) (image : Memory) (h : ℕ) (stays : List Bool) (m : List Stored) (opening : ℕ → ℕ) (within : length stays ≤ length m) (separate : MayBeLaid stays m)
    (shared : AreShared owns h m) where
  pub run_kept : (vs : List Move) (a p : Spot) → length a.place.state.registers ≡ 32 → StandsForAlways p (spot_kept stays m a) → RunsApart owns image h m opening a vs → AreOfThoseKept owns h stays m a vs →
      (us : List Move) × RunsApart owns image h (kept stays m) (memory_of (laid stays m) opening) p us × Together owns h stays m (kept stays m) p a us vs
  run_kept [] a p size stands run of_kept = ([], tt, stands)
  run_kept (v ∷ vs) a p size stands run of_kept =
      let does = run.0 in
      let s = moves_kept owns image h stays m opening a.place.state p.place.state v within separate shared size (stands []).state does.decodes of_kept.0 does.acts does.stands in
      let more = run_kept vs (spot_after owns h m a v) (spot_after owns h (kept stays m) p s.0) (after_size owns h m a.place v ∙ size)
      (λ k. stands_after owns h stays m (kept stays m) a p v s.0 s.1 s.4 k (stands k)) run.1 of_kept.1 in (
        s.0 ∷ more.0,
        (record { decodes = ap (decoded image) (stands []).state.pc ∙ does.decodes ∙ ap (λ (i : Instr). Some i) (sym s.1.instruction); acts = s.2; stands = s.3 }, more.1),
        (stands, s.1, more.2),
      )

pub runs_kept : RunsAreKept
runs_kept owns image h stays m opening a p vs within separate shared size stands run of_kept =
    let r = run_kept owns image h stays m opening within separate shared vs a p size stands run of_kept in (
      r.0,
      together_moves owns h stays m (kept stays m) r.0 vs p a r.2,
      r.1,
      together_ends owns h stays m (kept stays m) r.0 vs p a r.2,
    )
