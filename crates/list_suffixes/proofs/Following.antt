-- The spots of a walk from a node cover the runs against the stores of a list that stay.
use Rattle.std.proofs.Common.{◌≡◌, ℕ, ◌+◌, ◌<◌, ◌≤◌, Bool, true, false, if◌then◌else◌, List, [], ◌∷◌, length, Contains, Some, refl, sym, ap, ◌∙◌, subst, inl, inr, arith}
use Rattle.pages.specs.Memory.{Memory}
use Rattle.rv64_decode.specs.declared.instruction.Instr.{Instr}
use Rattle.hart_step.specs.DecodedCode.{decoded}
use Rattle.all_endings.specs.RunStates.{Move, operates}
use Rattle.all_endings.specs.StoreLists.{Stored}
use Rattle.all_endings.specs.Tables.{memory_of}
use Rattle.all_endings.specs.Walking.{HartEnding, Place, place_after, place_with}
use Rattle.private_bytes.specs.Owners.{is_private}
use Rattle.private_bytes.specs.PrivateMoves.{moved_privately}
use Rattle.private_bytes.specs.PrivateWalks.{IsLost, LeadsOn, Spot, StandsForApart, constant_after, spot_after, spot_with}
use Rattle.list_suffixes.specs.ApartRuns.{AreOfThoseKept, MovesApart, NoneLost, RunsApart, spots_after}
use Rattle.list_suffixes.specs.KeptMoves.{IsMoveKept, IsOfThoseKept}
use Rattle.list_suffixes.specs.NodeWalks.{IsWalkedFrom}
use Rattle.list_suffixes.specs.Serving.{Node}
use Rattle.list_suffixes.specs.Staying.{AreShared, MayBeLaid, kept, laid, spot_kept}
use Rattle.list_suffixes.proofs.KeptMoves.{moves_kept}
use Rattle.list_suffixes.proofs.KeptRuns.{after_count, after_size, stands_after}
use Rattle.list_suffixes.proofs.Past.{lost_kept, stands_on}
use Rattle.list_suffixes.proofs.Serving.{first_kept}

-- ---- the store that comes next

module _ (owns : ℕ → ℕ → Bool) (h : ℕ) (m : List Stored) (s : Stored) where
  after_with : (p : Spot) (v : Move) → spot_after owns h m (spot_with p s) v ≡ spot_with (spot_after owns h m p v) s
  after_with p v = ap (λ (z : Place). record { place = z; constant = constant_after p.constant v }) (by_test (is_private owns h v.access))
    where
      by_test : (c : Bool) →
          (if c then record (place_with p.place s) { state = moved_privately h m p.place.state v; count = p.place.count + 1 } else place_after h m (place_with p.place s) v)
          ≡ place_with (if c then record p.place { state = moved_privately h m p.place.state v; count = p.place.count + 1 } else place_after h m p.place v) s
      by_test true = refl
      by_test false = refl

  pub spots_with : (vs : List Move) (p : Spot) → spots_after owns h m (spot_with p s) vs ≡ spot_with (spots_after owns h m p vs) s
  spots_with [] p = refl
  spots_with (v ∷ vs) p = ap (λ (q : Spot). spots_after owns h m q vs) (after_with p v) ∙ spots_with vs (spot_after owns h m p v)

  pub run_with : (image : Memory) (opening : ℕ → ℕ) (vs : List Move) (p : Spot) → RunsApart owns image h m opening p vs → RunsApart owns image h m opening (spot_with p s) vs
  run_with image opening [] p r = tt
  run_with image opening (v ∷ vs) p r = (
    record { decodes = r.0.decodes; acts = r.0.acts; stands = r.0.stands },
    subst (λ (q : Spot). RunsApart owns image h m opening q vs) (sym (after_with p v)) (run_with image opening vs (spot_after owns h m p v) r.1),
  )

  pub of_kept_with : (stays : List Bool) (vs : List Move) (p : Spot) → AreOfThoseKept owns h stays m p vs → AreOfThoseKept owns h stays m (spot_with p s) vs
  of_kept_with stays [] p r = tt
  of_kept_with stays (v ∷ vs) p r = (r.0, subst (λ (q : Spot). AreOfThoseKept owns h stays m q vs) (sym (after_with p v)) (of_kept_with stays vs (spot_after owns h m p v) r.1))

  unlost_with : (p : Spot) → (IsLost h m p.place → ⊥) → IsLost h m (place_with p.place s) → ⊥
  unlost_with p unlost l = unlost (record { store = l.store; within = l.within; hart = l.hart; owed = l.owed; byte = l.byte; has = l.has; behind = l.behind })

  pub none_with : (vs : List Move) (p : Spot) → NoneLost owns h m p vs → NoneLost owns h m (spot_with p s) vs
  none_with [] p none = unlost_with p none
  none_with (v ∷ vs) p none = (unlost_with p none.0, subst (λ (q : Spot). NoneLost owns h m q vs) (sym (after_with p v)) (none_with vs (spot_after owns h m p v) none.1))

-- ---- a run from a spot

module _ (owns : ℕ → ℕ → Bool) (k : ℕ) (image : Memory) (harts h : ℕ) (stays : List Bool) (m : List Stored) (opening : ℕ → ℕ) (within : length stays ≤ length m) (separate : MayBeLaid stays m)
    (shared : AreShared owns h m) (spots : ℕ → List Spot) where
  -- the node
  abbrev pub node : Node
  node = record { memory = memory_of (laid stays m) opening; stores = kept stays m; spots = spots }

  module _ (offered : List Stored) (ends : List HartEnding) (ps : List Spot) (walked : IsWalkedFrom owns k image harts h node offered ends ps) where
    -- one of the spots stands for it
    abbrev pub For : Spot → Type 0
    For a = (w : Spot) × Contains ps w × StandsForApart (kept stays m) w (spot_kept stays m a)

    pub cover_one : (a w : Spot) (v : Move) → length a.place.state.registers ≡ 32 → a.place.count < k → StandsForApart (kept stays m) w (spot_kept stays m a) → MovesApart owns image h m opening a v →
        (operates v ≡ true → is_private owns h v.access ≡ false → IsOfThoseKept stays m a.place.state v) → (IsLost h m (spot_after owns h m a v).place → ⊥) →
        ((u : Move) → IsMoveKept stays m v u → w.place.count < k → MovesApart owns image h (kept stays m) (memory_of (laid stays m) opening) w u → LeadsOn owns h (kept stays m) ps w u) → For (spot_after owns h m a v)
    cover_one a w v size few stands does may unlost goes =
        let s = moves_kept owns image h stays m opening a.place.state w.place.state v within separate shared size stands.state does.decodes may does.acts does.stands in
        let after = stands_after owns h stays m (kept stays m) a w v s.0 s.1 s.4 (kept stays m) stands in
        let decodes : decoded image w.place.state.pc ≡ Some s.0.instruction = ap (decoded image) stands.state.pc ∙ does.decodes ∙ ap (λ (i : Instr). Some i) (sym s.1.instruction) in
        elim (goes s.0 s.1 (let c = stands.count in omega (arith, c, few)) (record { decodes = decodes; acts = s.2; stands = s.3 })) [
          | inl q ↦ (q.0, q.1, stands_on q.0 (spot_after owns h (kept stays m) w s.0) (spot_kept stays m (spot_after owns h m a v)) (kept stays m) q.2 after)
          | inr lost ↦ absurd (unlost (lost_kept h stays m (spot_after owns h (kept stays m) w s.0) (spot_after owns h m a v) within after lost))
        ]

    pub cover : (vs : List Move) (a w : Spot) → length a.place.state.registers ≡ 32 → Contains ps w → StandsForApart (kept stays m) w (spot_kept stays m a) → a.place.count + length vs ≤ k →
        RunsApart owns image h m opening a vs → AreOfThoseKept owns h stays m a vs → NoneLost owns h m a vs → For (spots_after owns h m a vs)
    cover [] a w size there stands short run behind none = (w, there, stands)
    cover (v ∷ vs) a w size there stands short run behind none =
        let q = cover_one a w v size (omega (arith, short)) stands run.0 behind.0 (first_kept owns h m vs (spot_after owns h m a v) none.1) (λ u is few does. walked.moves w u there few does) in
        cover vs (spot_after owns h m a v) q.0 (after_size owns h m a.place v ∙ size) q.1 q.2 (let c = after_count owns h m a.place v in omega (arith, short, c)) run.1 behind.1 none.1

    -- from one of the node's spots
    pub cover_from : (vs : List Move) (a p : Spot) → length a.place.state.registers ≡ 32 → Contains (spots h) p → StandsForApart (kept stays m) p (spot_kept stays m a) → a.place.count + length vs ≤ k →
        RunsApart owns image h m opening a vs → AreOfThoseKept owns h stays m a vs → NoneLost owns h m a vs → For (spots_after owns h m a vs)
    cover_from vs a p size there stands short run behind none =
        let w = walked.begins p there in
        cover vs a w.0 size w.1 (stands_on w.0 p (spot_kept stays m a) (kept stays m) w.2 stands) short run behind none
