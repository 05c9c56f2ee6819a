-- Nodes that are looked through leave the ending of every execution in a table.
use Rattle.std.proofs.Common.{◌≡◌, ℕ, suc, ◌+◌, ◌<◌, ◌≤◌, ◌⊎◌, not, Bool, true, false, List, [], ◌∷◌, ◌++◌, length, drop, get_or, Contains, Option, Some, None, refl, sym, ap, ◌∙◌, subst, inl, inr, arith}
use Rattle.std.proofs.Math.Path.{fun_ext}
use Rattle.std.proofs.lemmas.List.{append-nil, append_assoc, length-append, length-map}
use Rattle.std.proofs.lemmas.List.Elements.{Contains-append_right}
use Rattle.pages.specs.declared.access.Range.{Range}
use Rattle.pages.specs.Memory.{Memory}
use Rattle.round_schedule.specs.Accesses.{stores as writing}
use Rattle.hart_step.specs.declared.hart.Hart.{Hart}
use Rattle.hart_step.specs.declared.hart.Stop.{Stop}
use Rattle.hart_step.specs.DecodedCode.{decoded}
use Rattle.all_endings.specs.Endings.{Ending, opening_bytes}
use Rattle.all_endings.specs.Factorizing.{IsOpenCall}
use Rattle.all_endings.specs.HartRuns.{Acts, IsPlaced, Runs, Stands, runs-more, runs-none}
use Rattle.all_endings.specs.Offering.{AreFresh, IsClosed, IsOffered}
use Rattle.all_endings.specs.RunStates.{Move, RunState, moved, operates, run_start}
use Rattle.all_endings.specs.StoreLists.{Stored, has_byte, no_store}
use Rattle.all_endings.specs.Tables.{HartEnds, HartsEnd, memory_of}
use Rattle.all_endings.specs.Walking.{EndsAt, HartEnding, IsPaid, seen_after}
use Rattle.all_endings.proofs.Closing.{hart_in}
use Rattle.all_endings.proofs.Tables.{nodes_whole}
use Rattle.all_endings.proofs.Walking.{choice, endings_equal}
use Rattle.private_bytes.specs.Owners.{KeepsToItself, is_own, is_private}
use Rattle.private_bytes.specs.PrivateWalks.{AreNobodys, LeadsOn, Spot, StandsForApart, first_spot, spot_after, spot_with}
use Rattle.private_bytes.proofs.Covering.{AllFit, ForRun, end_apart, first_for, fit_before, fit_behind, fit_on, next_apart, no_open_call, offered_keeps, offers_apart, one_step, outputs_known, paid_apart, runs_joined}
use Rattle.private_bytes.proofs.KeptLists.{Keeps, are_kept, is_kept_by, is_shared, kept_at, kept_with, one_doubleword}
use Rattle.private_bytes.proofs.OwnStores.{fits_before, fits_may, fits_paid}
use Rattle.private_bytes.proofs.SharedLists.{found, passed, passed_all, passing, those}
use Rattle.private_bytes.proofs.Together.{ranges_alike, seen_same, those_next}
use Rattle.list_suffixes.specs.ApartRuns.{AreOfThoseKept, MovesApart, NoneLost, RunsApart, spots_after}
use Rattle.list_suffixes.specs.NodeWalks.{IsLookedThroughFrom, IsWalkedFrom, NodeTablesAreWhole, seen_from}
use Rattle.list_suffixes.specs.Serving.{GoesPast, IsOnItsWay, IsServed, Node}
use Rattle.list_suffixes.specs.Staying.{AreShared, kept, kept_before, laid, place_before, spot_kept, state_kept}
use Rattle.list_suffixes.proofs.Following.{cover, cover_from, cover_one, node, none_with, of_kept_with, run_with, spots_with}
use Rattle.list_suffixes.proofs.Joining.{at_before, before_within}
use Rattle.list_suffixes.proofs.KeptMoves.{offers_kept}
use Rattle.list_suffixes.proofs.KeptRuns.{after_count, after_size}
use Rattle.list_suffixes.proofs.Past.{halts_kept, keeps_back, knows_back}
use Rattle.list_suffixes.proofs.Serving.{count_after, first_kept, kept_behind, kept_until, none_behind, none_more, run_behind, run_more, size_after, spots_joined}
use Rattle.list_suffixes.proofs.Staying.{kept_later, kept_length, kept_rises, memory_kept}

-- the shared stores of a list that is kept are to nobody's own bytes
shared_those : (owns : ℕ → ℕ → Bool) (harts : ℕ) (m : List Stored) → are_kept owns harts m ≡ true → (h : ℕ) → h < harts → AreShared owns h (those (is_shared owns) m)
shared_those owns harts m keep h small k x l wet =
    let all = passed_all (is_shared owns) m 0 in
    let e : length m ≡ length m + 0 = omega arith in
    let end : passed (is_shared owns) m (length m) ≡ length (those (is_shared owns) m) = ap (passed (is_shared owns) m) e ∙ omega (arith, all) in
    let w = found (is_shared owns) m (length m) k (omega arith) (omega (arith, l, end)) in
    let same : get_or (those (is_shared owns) m) k no_store ≡ get_or m w.0 no_store = ap (λ (i : ℕ). get_or (those (is_shared owns) m) i no_store) (sym w.3) ∙ (passing (is_shared owns) m w.0 w.1 w.2).1 in
    by_test (get_or m w.0 no_store) (kept_at owns harts m w.0 keep w.1) w.2 (ap (λ (s : Stored). has_byte s x) (sym same) ∙ wet) (is_own owns h x) refl
  where
    by_test : (s : Stored) → Keeps owns harts s → is_shared owns s ≡ true → has_byte s x ≡ true → (b : Bool) → is_own owns h x ≡ b → b ≡ false
    by_test s keeps shared has false own = refl
    by_test s keeps shared has true own =
        let one = one_doubleword s.address s.bytes x keeps.one has in
        let mine : is_own owns h s.address ≡ true = ap (owns h) (sym one) ∙ own in
        let his : is_own owns s.hart s.address ≡ true = ap (λ (j : ℕ). is_own owns j s.address) (sym (keeps.owner h small mine)) ∙ mine in
        absurd (let q = ap not his in cc)

-- a list in two parts, the first of which lacks an element of it
parted : (before rest us xs : List Move) (u : Move) → us ++ u ∷ xs ≡ before ++ rest → (Contains before u → ⊥) → (mid : List Move) × (us ≡ before ++ mid) × (rest ≡ mid ++ u ∷ xs)
parted [] rest us xs u e none = (us, refl, sym e)
parted (x ∷ before) rest [] xs u e none = absurd (none (0, omega arith, sym (ap (λ (l : List Move). get_or l 0 u) e)))
parted (x ∷ before) rest (y ∷ us) xs u e none =
    let first : y ≡ x = ap (λ (l : List Move). get_or l 0 y) e in
    let r = parted before rest us xs u (ap (drop 1) e) (λ c. none (suc c.0, (let l = c.1 in omega (arith, l)), c.2)) in
    (r.0, ap (λ (z : Move). z ∷ us) first ∙ ap (λ (l : List Move). x ∷ l) r.1, r.2)

abbrev node_of : (ℕ → ℕ) → List Stored → (ℕ → List Spot) → Node
node_of f us spots = record { memory = f; stores = us; spots = spots }

-- ---- one hart, against one list that a node serves

module _ (owns : ℕ → ℕ → Bool) (k : ℕ) (image : Memory) (hs : List Hart) (n : Node) (m : List Stored) (keep : are_kept owns (length hs) m ≡ true)
    (served : IsServed owns k image hs n (those (is_shared owns) m)) (h : ℕ) (small : h < length hs) (start : Hart) (at : start ≡ get_or hs h start) (sized : length start.x ≡ 32)
    (offered : List Stored) (ends : List HartEnding) (ps : List Spot) (walked : IsWalkedFrom owns k image (length hs) h n offered ends ps) where
  abbrev short : List Stored
  short = those (is_shared owns) m

  abbrev stays : List Bool
  stays = served.stays

  abbrev opening : ℕ → ℕ
  opening = opening_bytes image

  shared : AreShared owns h (those (is_shared owns) m)
  shared = shared_those owns (length hs) m keep h small

  abbrev end_of : List Move → Spot
  end_of us = spots_after owns h short (first_spot start) us

  walked_from : IsWalkedFrom owns k image (length hs) h (node owns k image (length hs) h stays short opening served.within served.free shared n.spots) offered ends ps
  walked_from = subst (λ (z : Node). IsWalkedFrom owns k image (length hs) h z offered ends ps)
      (ap (λ (f : ℕ → ℕ). node_of f n.stores n.spots) (fun_ext served.memory) ∙ ap (λ (us : List Stored). node_of (memory_of (laid stays short) opening) us n.spots) served.stores) walked

  -- one of the spots stands for it
  abbrev For : Spot → Type 0
  For a = (w : Spot) × Contains ps w × StandsForApart (kept stays short) w (spot_kept stays short a)

  come : (us : List Move) → length us ≤ k → RunsApart owns image h short opening (first_spot start) us → NoneLost owns h short (first_spot start) us →
      IsOnItsWay owns image (length hs) h (length short) us (end_of us) ⊎ GoesPast owns h stays (length short) short (first_spot start) us (n.spots h)
  come us few run none =
      subst (λ (l : List Stored). AreShared owns h l → 0 + length us ≤ k → RunsApart owns image h l opening (first_spot start) us → NoneLost owns h l (first_spot start) us →
      IsOnItsWay owns image (length hs) h (length short) us (spots_after owns h l (first_spot start) us) ⊎ GoesPast owns h stays (length short) l (first_spot start) us (n.spots h)) (append-nil short)
      (λ shared few run none. served.runs h start small at [] us shared few run none) shared (omega (arith, few)) run none

  size_of : (us : List Move) → length (end_of us).place.state.registers ≡ 32
  size_of us = size_after owns h short us (first_spot start) ∙ length-map start.x (λ v. Some v) ∙ sized

  past_for : (us : List Move) → length us ≤ k → RunsApart owns image h short opening (first_spot start) us → NoneLost owns h short (first_spot start) us →
      GoesPast owns h stays (length short) short (first_spot start) us (n.spots h) → For (end_of us)
  past_for us few run none g =
      let a = end_of g.before in
      let joined : end_of us ≡ spots_after owns h short a g.rest = ap end_of g.joined ∙ spots_joined owns h short g.before g.rest (first_spot start) in
      let counted = count_after owns h short g.before (first_spot start) in
      let parts = ap length g.joined ∙ length-append g.before g.rest in
      subst For (sym joined)
      (cover_from owns k image (length hs) h stays short opening served.within served.free shared n.spots offered ends ps walked_from g.rest a g.spot (size_of g.before) g.there (g.stands (kept stays short))
      (omega (arith, counted, parts, few)) (run_behind owns h short image opening g.before g.rest (first_spot start) (subst (RunsApart owns image h short opening (first_spot start)) g.joined run)) g.behind
      (none_behind owns h short g.before g.rest (first_spot start) (subst (NoneLost owns h short (first_spot start)) g.joined none)))

  keeps_at : (us : List Move) → length us ≤ k → RunsApart owns image h short opening (first_spot start) us → NoneLost owns h short (first_spot start) us →
      KeepsToItself owns image (length hs) h (end_of us).place.state
  keeps_at us few run none = elim (come us few run none) [
    | inl way ↦ way.apart
    | inr g ↦
        let w = past_for us few run none g in
        keeps_back owns image (length hs) h (state_kept stays short (end_of us).place.state) w.0.place.state w.2.state (walked_from.apart w.0 w.1)
  ]

  -- ---- a run against all stores, and the run apart that it is

  record Exact (us vs : List Move) (c : RunState) : Type 0 where
    run : RunsApart owns image h short opening (first_spot start) us
    stands : ForRun owns k image (length hs) h m keep small start sized (end_of us) vs c None
    none : NoneLost owns h short (first_spot start) us
    many : length us ≡ length vs

  abbrev Fit : List Move → RunState → Type 0
  Fit vs c = AllFit owns k image (length hs) h m keep small start sized vs c

  exact_step : (us vs : List Move) (c : RunState) (v : Move) → length vs < k → Runs image h m opening (run_start start) vs c → decoded image c.pc ≡ Some v.instruction →
      Acts image h m opening (IsPlaced h m) c v → (operates v ≡ true → Stands c v) → Fit (vs ++ v ∷ []) (moved h m c v) → Exact us vs c →
      (u : Move) × (u.access ≡ v.access) × (u.time ≡ passed (is_shared owns) m v.time) × Exact (us ++ u ∷ []) (vs ++ v ∷ []) (moved h m c v)
  exact_step us vs c v few runs does doing stand fits e =
      let many = e.many in
      let s = one_step owns k image (length hs) h m keep small start sized vs c v None runs does doing stand fits (end_of us) (keeps_at us (omega (arith, many, few)) e.run e.none) e.stands in
      let l = length-append us (s.move ∷ []) in
      let r = length-append vs (v ∷ []) in (
        s.move,
        s.access,
        s.time,
        record {
          run = run_more owns h short image opening us s.move (first_spot start) e.run (record { decodes = s.decodes; acts = s.acts; stands = s.stands });
          stands = subst (λ (q : Spot). ForRun owns k image (length hs) h m keep small start sized q (vs ++ v ∷ []) (moved h m c v) None) (sym (spots_joined owns h short us (s.move ∷ []) (first_spot start))) s.leads;
          none = none_more owns h short us s.move (first_spot start) e.none s.not_lost;
          many = omega (arith, many, l, r);
        },
      )

  exact_along : (us ws : List Move) (a : RunState) → Runs image h m opening (run_start start) ws a → Exact us ws a → (vs : List Move) (c : RunState) → Runs image h m opening a vs c →
      Fit (ws ++ vs) c → length ws + length vs ≤ k → (xs : List Move) × Exact (us ++ xs) (ws ++ vs) c
  exact_along us ws a before e _ _ (runs-none _) fits few = ([], subst (λ (l : List Move). Exact l (ws ++ []) a) (sym (append-nil us)) (subst (λ (l : List Move). Exact us l a) (sym (append-nil ws)) e))
  exact_along us ws a before e _ _ (runs-more _ c vs v runs does doing stand) fits few =
      let size = length-append vs (v ∷ []) in
      let joined = length-append ws vs in
      let here : Fit ((ws ++ vs) ++ v ∷ []) (moved h m c v) = subst (λ (l : List Move). Fit l (moved h m c v)) (sym (append_assoc ws vs (v ∷ []))) fits in
      let q = exact_along us ws a before e vs c runs (λ x. fits_before image h m opening x (ws ++ vs) c v stand (here x)) (omega (arith, few, size)) in
      let w = exact_step (us ++ q.0) (ws ++ vs) c v (omega (arith, few, size, joined)) (runs_joined image h m opening (run_start start) ws a vs c before runs) does doing stand here q.1 in
      (q.0 ++ w.0 ∷ [], subst (λ (l : List Move). Exact l (ws ++ (vs ++ v ∷ [])) (moved h m c v)) (append_assoc us q.0 (w.0 ∷ [])) (subst (λ (l : List Move). Exact ((us ++ q.0) ++ w.0 ∷ []) l (moved h m c v)) (append_assoc ws vs (v ∷ [])) w.3))

  exact_first : Exact [] [] (run_start start)
  exact_first = record {
    run = tt;
    stands = first_for owns k image (length hs) h m keep small start sized;
    none = λ lost. let l = lost.behind in omega (arith, l);
    many = refl;
  }

  exact_all : (vs : List Move) (c : RunState) → Runs image h m opening (run_start start) vs c → Fit vs c → length vs ≤ k → (us : List Move) × Exact us vs c
  exact_all vs c runs fits few = exact_along [] [] (run_start start) (runs-none (run_start start)) exact_first vs c runs fits (omega (arith, few))

  -- ---- calls

  pub no_call : (vs : List Move) (c : RunState) → Runs image h m opening (run_start start) vs c → Fit vs c → length vs ≤ k → IsOpenCall image c → ⊥
  no_call vs c runs fits few call =
      let e = exact_all vs c runs fits few in
      let many = e.1.many in
      elim (come e.0 (omega (arith, many, few)) e.1.run e.1.none) [
        | inl way ↦ no_open_call owns k image (length hs) h m keep small start sized (end_of e.0) vs c None e.1.stands way.calls call
        | inr g ↦
            let w = past_for e.0 (omega (arith, many, few)) e.1.run e.1.none g in
            no_open_call owns k image (length hs) h m keep small start sized (end_of e.0) vs c None e.1.stands
            (λ ecall. w.2.constant (walked_from.calls w.0 w.1 (ap (decoded image) w.2.state.pc ∙ ecall))) call
      ]

  -- ---- ends

  paid_kept : (q w : Spot) → StandsForApart (kept stays short) w (spot_kept stays short q) → IsPaid h short q.place → IsPaid h (kept stays short) w.place
  paid_kept q w stands pays j l here =
      stands.paid j l (pays (place_before stays j) (before_within stays short j served.within l) (ap (λ (s : Stored). s.hart) (sym (at_before stays short j)) ∙ here))

  end_kept : (e : HartEnding) (q w : Spot) → length q.place.state.registers ≡ 32 → StandsForApart (kept stays short) w (spot_kept stays short q) → EndsAt image h short q.place e → EndsAt image h (kept stays short) w.place e
  end_kept e q w size stands x = record {
    pays = paid_kept q w stands x.pays;
    knows = knows_back (state_kept stays short q.place.state) w.place.state stands.state x.knows;
    settled = λ y.
        let i = kept_rises stays (q.place.state.touched y) (length short) (x.settled y) in
        let j = stands.state.touched y in
        let many = kept_length stays short served.within in
        omega (arith, i, j, many);
    halts = halts_kept image e.stop stays short q.place.state w.place.state size stands.state x.knows x.halts;
    puts = outputs_known q.place.state.output w.place.state.output stands.state.output e.output x.puts;
  }

  pub ends_so : (stop : Option Stop) (output : List ℕ) → HartEnds k image h m opening start stop output → (e : HartEnding) × Contains ends e × (stop ≡ Some e.stop) × (output ≡ e.output)
  ends_so stop output e =
      let x = exact_all e.moves e.state e.runs (λ y. fits_paid image h m opening y (run_start start) e.moves e.state e.runs e.pays) e.short in
      let many = x.1.many in
      let few = e.short in
      let to : HartEnding = record { stop = e.reason; output = output } in
      let end = end_apart owns k image (length hs) h m keep small start sized stop output e (end_of x.0) x.1.stands in
      elim (come x.0 (omega (arith, many, few)) x.1.run x.1.none) [
        | inl way ↦ absurd (way.goes_on e.reason end.knows end.halts)
        | inr g ↦
            let w = past_for x.0 (omega (arith, many, few)) x.1.run x.1.none g in
            (to, walked_from.endings w.0 to w.1 (end_kept to (end_of x.0) w.0 (size_of x.0) w.2 end), e.stops, refl)
      ]

  -- ---- a store that is offered

  module _ (s : Stored) (o : IsOffered k image h m opening start s) where
    few_before : length o.before < k
    few_before = let joined = length-append o.before (o.next ∷ o.rest) in let few = o.short in omega (arith, joined, few)

    at_it : (us : List Move) × Exact us o.before o.at
    at_it = exact_all o.before o.at o.leads (fit_before owns k image (length hs) h m keep small start sized s o) (let l = few_before in omega (arith, l))

    abbrev us : List Move
    us = at_it.0

    few_us : length us < k
    few_us = let l = few_before in let e = at_it.1.many in omega (arith, l, e)

    apart : KeepsToItself owns image (length hs) h (end_of us).place.state
    apart = keeps_at us (let l = few_us in omega (arith, l)) at_it.1.run at_it.1.none

    pub keeps_so : Keeps owns (length hs) s
    keeps_so = offered_keeps owns k image (length hs) h m keep small start sized s o (end_of us) apart at_it.1.stands

    next_it : (u : Move) × (u.access ≡ o.next.access) × (u.time ≡ passed (is_shared owns) m o.next.time) × Exact (us ++ u ∷ []) (o.before ++ o.next ∷ []) (moved h m o.at o.next)
    next_it = exact_step us o.before o.at o.next few_before o.leads o.decodes o.acts o.stands (fit_behind owns k image (length hs) h m keep small start sized s o) at_it.1

    abbrev u : Move
    u = next_it.0

    rest_it : (xs : List Move) × Exact ((us ++ u ∷ []) ++ xs) ((o.before ++ o.next ∷ []) ++ o.rest) o.state
    rest_it =
        let joined = length-append o.before (o.next ∷ o.rest) in
        let parts = length-append o.before (o.next ∷ []) in
        let few = o.short in
        exact_along (us ++ u ∷ []) (o.before ++ o.next ∷ []) (moved h m o.at o.next) (runs-more (run_start start) o.at o.before o.next o.leads o.decodes o.acts o.stands) next_it.3
        o.rest o.state o.runs (fit_on owns k image (length hs) h m keep small start sized s o) (omega (arith, joined, parts, few))

    abbrev xs : List Move
    xs = rest_it.0

    whole : Exact (us ++ u ∷ xs) (o.before ++ o.next ∷ o.rest) o.state
    whole = subst (λ (l : List Move). Exact l (o.before ++ o.next ∷ o.rest) o.state) (append_assoc us (u ∷ []) xs)
        (subst (λ (l : List Move). Exact ((us ++ u ∷ []) ++ xs) l o.state) (append_assoc o.before (o.next ∷ []) o.rest) rest_it.1)

    few_whole : length (us ++ u ∷ xs) ≤ k
    few_whole = let e = whole.many in let few = o.short in omega (arith, e, few)

    module _ (public : is_own owns h s.address ≡ false) where
      u_public : is_private owns h u.access ≡ false
      u_public = ap (is_private owns h) next_it.1 ∙ next_apart owns k image (length hs) h m keep small start sized s o (end_of us) apart at_it.1.stands public

      u_stores : writing u.access ≡ true
      u_stores = ap writing next_it.1 ∙ o.stores

      u_late : u.time ≡ length short + 1
      u_late = next_it.2 ∙ ap (passed (is_shared owns) m) o.late ∙ passed_all (is_shared owns) m 1

      u_there : Contains (us ++ u ∷ xs) u
      u_there = Contains-append_right us (u ∷ xs) u (0, omega arith, refl)

      offers : (w : Spot) → StandsForApart (kept stays short) w (spot_kept stays short (end_of us)) → Contains ps w →
          Contains offered s ⊎
          ((v : Move) → w.place.count < k → MovesApart owns image h (kept stays short) (memory_of (laid stays short) opening) (spot_with w s) v → is_private owns h v.access ≡ false → writing v.access ≡ true →
          v.time ≡ length (kept stays short) + 1 → LeadsOn owns h (kept stays short) ps (spot_with w s) v)
      offers w stands there =
          walked_from.offers w s there (stands.next ∙ at_it.1.stands.next) public
          (offers_kept image h stays short opening served.within served.free (end_of us).place.state w.place.state (size_of us) stands.state s
          (offers_apart owns k image (length hs) h m keep small start sized s o (end_of us) apart at_it.1.stands public))

      from_past : GoesPast owns h stays (length short) short (first_spot start) (us ++ u ∷ xs) (n.spots h) → Contains offered s
      from_past g =
          let p = parted g.before g.rest us xs u g.joined (λ c. let l = g.stores u c u_stores u_public in let e = u_late in omega (arith, l, e)) in
          let mid = p.0 in
          let a = end_of g.before in
          let here : end_of us ≡ spots_after owns h short a mid = ap end_of p.1 ∙ spots_joined owns h short g.before mid (first_spot start) in
          let run_at = subst (RunsApart owns image h short opening (first_spot start)) p.1 at_it.1.run in
          let none_at = subst (NoneLost owns h short (first_spot start)) p.1 at_it.1.none in
          let behind = subst (AreOfThoseKept owns h stays short a) p.2 g.behind in
          let counted = count_after owns h short g.before (first_spot start) in
          let parts = ap length p.1 ∙ length-append g.before mid in
          let few = few_us in
          let w = subst For (sym here)
          (cover_from owns k image (length hs) h stays short opening served.within served.free shared n.spots offered ends ps walked_from mid a g.spot (size_of g.before) g.there (g.stands (kept stays short))
          (omega (arith, counted, parts, few)) (run_behind owns h short image opening g.before mid (first_spot start) run_at) (kept_until owns h short stays mid (u ∷ xs) a behind)
          (none_behind owns h short g.before mid (first_spot start) none_at)) in
          elim (offers w.0 w.2 w.1) [
            | inl there ↦ there
            | inr later_on ↦
                let q = end_of us in
                let run = run_with owns h short s image opening (u ∷ xs) q (run_behind owns h short image opening us (u ∷ xs) (first_spot start) whole.run) in
                let none = none_with owns h short s (u ∷ xs) q (none_behind owns h short us (u ∷ xs) (first_spot start) whole.none) in
                let on = of_kept_with owns h short s stays (u ∷ xs) q (subst (λ (z : Spot). AreOfThoseKept owns h stays short z (u ∷ xs)) (sym here) (kept_behind owns h short stays mid (u ∷ xs) a behind)) in
                let stands : StandsForApart (kept stays short) (spot_with w.0 s) (spot_kept stays short (spot_with q s)) = record { state = w.2.state; count = w.2.count; paid = w.2.paid; next = refl; constant = w.2.constant } in
                let count = count_after owns h short us (first_spot start) in
                let all = few_whole in
                let size = length-append us (u ∷ xs) in
                let first = cover_one owns k image (length hs) h stays short opening served.within served.free shared n.spots offered ends ps walked_from (spot_with q s) (spot_with w.0 s) u (size_of us)
                (omega (arith, count, few)) stands run.0 on.0 (first_kept owns h short xs (spot_after owns h short (spot_with q s) u) none.1)
                (λ v is small does. later_on v small does (ap (is_private owns h) is.access ∙ u_public) (ap writing is.access ∙ u_stores)
                (is.time ∙ ap (kept_before stays) u_late ∙ kept_later stays short served.within)) in
                let one = after_count owns h short (spot_with q s).place u in
                let last = cover owns k image (length hs) h stays short opening served.within served.free shared n.spots offered ends ps walked_from xs (spot_after owns h short (spot_with q s) u) first.0
                (after_size owns h short (spot_with q s).place u ∙ size_of us) first.1 first.2 (omega (arith, one, count, all, size)) run.1 on.1 none.1 in
                let to : spots_after owns h short (spot_with q s) (u ∷ xs) ≡ spot_with (end_of (us ++ u ∷ xs)) s =
                spots_with owns h short s (u ∷ xs) q ∙ ap (λ (z : Spot). spot_with z s) (sym (spots_joined owns h short us (u ∷ xs) (first_spot start))) in
                let ended : StandsForApart (kept stays short) last.0 (spot_kept stays short (spot_with (end_of (us ++ u ∷ xs)) s)) = subst (λ (z : Spot). StandsForApart (kept stays short) last.0 (spot_kept stays short z)) to last.2 in
                walked_from.grows last.0 s last.1 ended.next
                (paid_kept (spot_with (end_of (us ++ u ∷ xs)) s) last.0 ended
                (paid_apart owns k image (length hs) h m keep small start sized (end_of (us ++ u ∷ xs)) (o.before ++ o.next ∷ o.rest) o.state None whole.stands o.pays))
          ]

      pub offered_so : Contains offered s
      offered_so = elim (come (us ++ u ∷ xs) few_whole whole.run whole.none) [
        | inl way ↦ absurd (let l = way.stores u u_there u_stores u_public in let e = u_late in omega (arith, l, e))
        | inr g ↦ from_past g
      ]

-- ---- together

-- a node's memory behind its stores is that of each list that it serves
memory_served : (owns : ℕ → ℕ → Bool) (k : ℕ) (image : Memory) (hs : List Hart) (n : Node) (m : List Stored) → IsServed owns k image hs n m → (x : ℕ) →
    memory_of n.stores n.memory x ≡ memory_of m (opening_bytes image) x
memory_served owns k image hs n m served x =
    ap (λ (us : List Stored). memory_of us n.memory x) served.stores
    ∙ ap (λ (f : ℕ → ℕ). memory_of (kept served.stays m) f x) (fun_ext served.memory)
    ∙ memory_kept served.stays m (opening_bytes image) x served.within served.free

module _ (owns : ℕ → ℕ → Bool) (k : ℕ) (image : Memory) (hs : List Hart) (see : List Range) (nodes : List Node) (table : List Ending) (first : Node) (fresh : AreFresh hs) (nobodys : AreNobodys owns (length hs) see)
    (begins : Contains nodes first) (serves : IsServed owns k image hs first []) (looked : (n : Node) → Contains nodes n → IsLookedThroughFrom owns k image hs see nodes table n) where
  -- a list of all stores counts where a node serves its shared stores, and each of its stores keeps to its hart's bytes
  record IsWhole (m : List Stored) : Type 0 where
    node : Node
    there : Contains nodes node
    served : IsServed owns k image hs node (those (is_shared owns) m)
    kept : are_kept owns (length hs) m ≡ true

  grows : (m : List Stored) (h : ℕ) (start : Hart) (s : Stored) → IsWhole m → h < length hs → start ≡ get_or hs h start → IsOffered k image h m (opening_bytes image) start s → IsWhole (m ++ s ∷ [])
  grows m h start s whole small at o =
      let sized = (fresh h start small at).registers in
      let l = looked whole.node whole.there in
      let w = l.walks h small in
      let keeps = keeps_so owns k image hs whole.node m whole.kept whole.served h small start at sized (l.offered h) (get_or l.ways h []) w.0 w.1 s o in
      by_owner (kept_with owns (length hs) m s whole.kept (is_kept_by owns (length hs) s keeps))
      (λ public. l.grows h s small (offered_so owns k image hs whole.node m whole.kept whole.served h small start at sized (l.offered h) (get_or l.ways h []) w.0 w.1 s o public)) (is_own owns h s.address) refl
    where
      by_owner : are_kept owns (length hs) (m ++ s ∷ []) ≡ true →
          (is_own owns h s.address ≡ false → (t : Node) × Contains nodes t × ((l : List Stored) → IsServed owns k image hs whole.node l → IsServed owns k image hs t (l ++ s ∷ []))) →
          (b : Bool) → is_own owns h s.address ≡ b → IsWhole (m ++ s ∷ [])
      by_owner keep next true e = record {
        node = whole.node;
        there = whole.there;
        served = subst (IsServed owns k image hs whole.node) (sym (those_next owns m h s o.offers.hart true e ∙ append-nil (those (is_shared owns) m))) whole.served;
        kept = keep;
      }
      by_owner keep next false e =
          let t = next e in record {
            node = t.0;
            there = t.1;
            served = subst (IsServed owns k image hs t.0) (sym (those_next owns m h s o.offers.hart false e)) (t.2 (those (is_shared owns) m) whole.served);
            kept = keep;
          }

  closed : IsClosed k image hs IsWhole
  closed = record {
    begins = record { node = first; there = begins; served = serves; kept = refl };
    grows = grows;
    calls = λ m h start whole small at vs a short runs may call.
        let l = looked whole.node whole.there in
        let w = l.walks h small in
        no_call owns k image hs whole.node m whole.kept whole.served h small start at (fresh h start small at).registers (l.offered h) (get_or l.ways h []) w.0 w.1 vs a runs
        (λ x. fits_may image h m (opening_bytes image) x (run_start start) vs a runs may) short call;
  }

  module _ (m : List Stored) (stops : List (Option Stop)) (outputs : List (List ℕ)) (whole : IsWhole m) (harts_end : HartsEnd k image hs m stops outputs) where
    end_at : (h : ℕ) → h < length hs → (e : HartEnding) × Contains (get_or (looked whole.node whole.there).ways h []) e × (get_or stops h None ≡ Some e.stop) × (get_or outputs h [] ≡ e.output)
    end_at h small =
        let l = looked whole.node whole.there in
        let start = hart_in hs h small in
        let w = l.walks h small in
        ends_so owns k image hs whole.node m whole.kept whole.served h small start.0 start.1 (fresh h start.0 small start.1).registers (l.offered h) (get_or l.ways h []) w.0 w.1 (get_or stops h None) (get_or outputs h [])
        (harts_end.each h start.0 small start.1)

    seen_is : seen_from see whole.node ≡ seen_after image see m
    seen_is =
        ranges_alike (memory_of whole.node.stores whole.node.memory) (memory_of (those (is_shared owns) m) (opening_bytes image)) see
        (λ r x there e. memory_served owns k image hs whole.node (those (is_shared owns) m) whole.served x) ∙ seen_same owns image (length hs) see nobodys m whole.kept

    has_ending : Contains table (record { stops = stops; outputs = outputs; seen = seen_after image see m })
    has_ending =
        let l = looked whole.node whole.there in
        let c = choice (length hs) l.ways stops outputs l.as_many harts_end.as_many_stops harts_end.as_many_outputs end_at in
        subst (λ (bs : List (List ℕ)). Contains table (record { stops = stops; outputs = outputs; seen = bs })) seen_is
        (subst (λ (e : Ending). Contains table e) (endings_equal _ stops _ outputs (seen_from see whole.node) c.2 c.3) (l.has c.0 c.1))

pub node_whole : NodeTablesAreWhole
node_whole owns k image hs c see nodes table first fresh enough nobodys begins serves looked =
    nodes_whole k image hs c see (IsWhole owns k image hs see nodes table first fresh nobodys begins serves looked) table fresh enough (closed owns k image hs see nodes table first fresh nobodys begins serves looked)
    (λ m stops outputs whole ends. has_ending owns k image hs see nodes table first fresh nobodys begins serves looked m stops outputs whole ends)
