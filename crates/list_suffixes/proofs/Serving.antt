-- Lists that nodes serve.
use Rattle.std.proofs.Common.{◌≡◌, ℕ, zero, suc, ◌+◌, ◌<◌, ◌≤◌, ◌⊎◌, ◌||◌, Bool, true, List, [], ◌∷◌, ◌++◌, length, map, get_or, Contains, Some, refl, sym, ap, ◌∙◌, subst, inl, inr, arith}
use Rattle.std.proofs.Math.Path.{fun_ext}
use Rattle.std.proofs.lemmas.Bool.{cases_lt}
use Rattle.std.proofs.lemmas.List.{append_assoc, get_or_append_left, length-append, length-map}
use Rattle.std.proofs.lemmas.List.Elements.{Contains-append_cases}
use Rattle.pages.specs.Memory.{Memory}
use Rattle.round_schedule.specs.declared.access.Access.{Access}
use Rattle.round_schedule.specs.Accesses.{loads, stores}
use Rattle.hart_step.specs.declared.hart.Hart.{Hart}
use Rattle.hart_step.specs.DecodedCode.{decoded}
use Rattle.memory_order.specs.Operations.{covers}
use Rattle.all_endings.specs.Endings.{opening_bytes}
use Rattle.all_endings.specs.Offering.{AreFresh}
use Rattle.all_endings.specs.RunStates.{Move, RunState, run_start}
use Rattle.all_endings.specs.StoreLists.{Stored, has_byte, no_store}
use Rattle.all_endings.specs.Tables.{memory_of}
use Rattle.private_bytes.specs.Owners.{is_private}
use Rattle.private_bytes.specs.PrivateWalks.{IsLost, Spot, first_spot, spot_after}
use Rattle.list_suffixes.specs.ApartRuns.{AreOfThoseKept, MovesApart, NoneLost, RunsApart, StandsForAlways, spots_after}
use Rattle.list_suffixes.specs.CurrentRuns.{OwnStoresAreListed}
use Rattle.list_suffixes.specs.KeptMoves.{IsCurrent, IsMoveKept, IsOfThoseKept}
use Rattle.list_suffixes.specs.Serving.{FirstNodeServes, GoesPast, IsOnItsWay, IsRaised, IsServed, LongerListsAreServed, Node, RaisedNodesServe, StandingNodesServe, StoreWithin}
use Rattle.list_suffixes.specs.Staying.{AreShared, MayBeLaid, kept, kept_before, laid, spot_kept, state_kept, stays_at}
use Rattle.list_suffixes.proofs.Current.{current_kept}
use Rattle.list_suffixes.proofs.Joining.{at_before, before_within, both_stay, joined, kept_joined, length_joined, may_joined, memory_joined, one_out}
use Rattle.list_suffixes.proofs.KeptRuns.{Together, after_count, after_size, run_kept, together_begins, together_ends}
use Rattle.list_suffixes.proofs.Past.{halts_kept, keeps_back, knows_back, lost_kept, stands_kept_both, stands_on}
use Rattle.list_suffixes.proofs.Placed.{ArePlaced, placed_along}
use Rattle.list_suffixes.proofs.Shorter.{spot_none, stands_itself}
use Rattle.list_suffixes.proofs.Staying.{kept_append, kept_at, kept_length, kept_rises, laid_append, laid_within, place_below}

-- ---- runs in two parts

module _ (owns : ℕ → ℕ → Bool) (h : ℕ) (m : List Stored) where
  pub spots_joined : (us vs : List Move) (p : Spot) → spots_after owns h m p (us ++ vs) ≡ spots_after owns h m (spots_after owns h m p us) vs
  spots_joined [] vs p = refl
  spots_joined (u ∷ us) vs p = spots_joined us vs (spot_after owns h m p u)

  pub count_after : (vs : List Move) (p : Spot) → (spots_after owns h m p vs).place.count ≡ p.place.count + length vs
  count_after [] p = omega arith
  count_after (v ∷ vs) p = let r = count_after vs (spot_after owns h m p v) in let e = after_count owns h m p.place v in omega (arith, r, e)

  pub size_after : (vs : List Move) (p : Spot) → length (spots_after owns h m p vs).place.state.registers ≡ length p.place.state.registers
  size_after [] p = refl
  size_after (v ∷ vs) p = size_after vs (spot_after owns h m p v) ∙ after_size owns h m p.place v

  pub run_behind : (image : Memory) (opening : ℕ → ℕ) (us vs : List Move) (p : Spot) → RunsApart owns image h m opening p (us ++ vs) → RunsApart owns image h m opening (spots_after owns h m p us) vs
  run_behind image opening [] vs p r = r
  run_behind image opening (u ∷ us) vs p r = run_behind image opening us vs (spot_after owns h m p u) r.1

  pub kept_behind : (stays : List Bool) (us vs : List Move) (p : Spot) → AreOfThoseKept owns h stays m p (us ++ vs) → AreOfThoseKept owns h stays m (spots_after owns h m p us) vs
  kept_behind stays [] vs p r = r
  kept_behind stays (u ∷ us) vs p r = kept_behind stays us vs (spot_after owns h m p u) r.1

  pub run_before : (image : Memory) (opening : ℕ → ℕ) (us vs : List Move) (p : Spot) → RunsApart owns image h m opening p (us ++ vs) → RunsApart owns image h m opening p us
  run_before image opening [] vs p r = tt
  run_before image opening (u ∷ us) vs p r = (r.0, run_before image opening us vs (spot_after owns h m p u) r.1)

  pub run_more : (image : Memory) (opening : ℕ → ℕ) (us : List Move) (v : Move) (p : Spot) → RunsApart owns image h m opening p us → MovesApart owns image h m opening (spots_after owns h m p us) v →
      RunsApart owns image h m opening p (us ++ v ∷ [])
  run_more image opening [] v p r does = (does, tt)
  run_more image opening (u ∷ us) v p r does = (r.0, run_more image opening us v (spot_after owns h m p u) r.1 does)

  pub kept_until : (stays : List Bool) (us vs : List Move) (p : Spot) → AreOfThoseKept owns h stays m p (us ++ vs) → AreOfThoseKept owns h stays m p us
  kept_until stays [] vs p r = tt
  kept_until stays (u ∷ us) vs p r = (r.0, kept_until stays us vs (spot_after owns h m p u) r.1)

  pub first_kept : (vs : List Move) (p : Spot) → NoneLost owns h m p vs → IsLost h m p.place → ⊥
  first_kept [] p none = none
  first_kept (v ∷ vs) p none = none.0

  pub none_behind : (us vs : List Move) (p : Spot) → NoneLost owns h m p (us ++ vs) → NoneLost owns h m (spots_after owns h m p us) vs
  none_behind [] vs p none = none
  none_behind (u ∷ us) vs p none = none_behind us vs (spot_after owns h m p u) none.1

  pub none_more : (us : List Move) (v : Move) (p : Spot) → NoneLost owns h m p us → (IsLost h m (spot_after owns h m (spots_after owns h m p us) v).place → ⊥) → NoneLost owns h m p (us ++ v ∷ [])
  none_more [] v p none last = (none, last)
  none_more (u ∷ us) v p none last = (none.0, none_more us v (spot_after owns h m p u) none.1 last)

-- ---- a move of those that are kept by both, since it is of those kept by the first, and its image by the second

module _ (bs cs : List Bool) (m : List Stored) (within : length bs ≤ length m) (small : length cs ≤ length (kept bs m)) where
  may_on : (a p : RunState) (v u : Move) → OwnStoresAreListed m a → IsMoveKept bs m v u → IsOfThoseKept cs (kept bs m) p u → IsOfThoseKept bs m a v → IsOfThoseKept (joined bs cs) m a v
  may_on a p v u listed is second first = record {
    stores = λ store. both_stay bs cs v.time (first.stores store) (ap (stays_at cs) (sym is.time) ∙ second.stores (ap stores is.access ∙ store));
    current = current_on;
    own = λ load o x wet own late inside. let many = length_joined bs cs m within small in listed x o own (omega (arith, late)) (omega (arith, inside, many));
  }
    where
      current_on : loads v.access ≡ true → v.time ≤ length m → IsCurrent (joined bs cs) m v
      current_on load known k x out wet has = elim (one_out bs cs k out) [
        | inl o ↦ first.current load known k x o wet has
        | inr o ↦
            let time = is.time in
            let rise = kept_rises bs v.time (length m) known in
            let many = kept_length bs m within in
            let q = second.current (ap loads is.access ∙ load) (omega (arith, time, rise, many)) (kept_before bs k) x o.1 (ap (λ (y : Access). covers y x) is.access ∙ wet)
            (ap (λ (s : Stored). has_byte s x) (kept_at bs m k o.0) ∙ has) in
            let s = is.source x in
            let b = place_below bs m x (v.source x) in
            elim (cases_lt k (v.source x)) [
              | inl l ↦ l
              | inr l ↦ absurd (let r = kept_rises bs (v.source x) k l in omega (arith, q, s, b, r))
            ]
      ]

-- ---- two runs, one of them against the stores that stay

module _ (owns : ℕ → ℕ → Bool) (h : ℕ) (stays : List Bool) (m : List Stored) where
  pub together_split : (us ws vs : List Move) (p a : Spot) → Together owns h stays m (kept stays m) p a (us ++ ws) vs →
      (xs : List Move) × (ys : List Move) × (vs ≡ xs ++ ys) × Together owns h stays m (kept stays m) p a us xs ×
      Together owns h stays m (kept stays m) (spots_after owns h (kept stays m) p us) (spots_after owns h m a xs) ws ys
  together_split [] ws vs p a t = ([], vs, refl, together_begins owns h stays m (kept stays m) ws vs p a t, t)
  together_split (u ∷ us) ws [] p a t = absurd t
  together_split (u ∷ us) ws (v ∷ vs) p a t =
      let r = together_split us ws vs (spot_after owns h (kept stays m) p u) (spot_after owns h m a v) t.2 in
      (v ∷ r.0, r.1, ap (λ (zs : List Move). v ∷ zs) r.2, (t.0, t.1, r.3), r.4)

  pub together_has : (us vs : List Move) (p a : Spot) → Together owns h stays m (kept stays m) p a us vs → (w : Move) (k : ℕ) → k < length vs → get_or vs k w ≡ w →
      (u : Move) × Contains us u × IsMoveKept stays m w u
  together_has [] [] p a t w k l e = absurd (omega (arith, l))
  together_has [] (v ∷ vs) p a t w k l e = absurd t
  together_has (u ∷ us) [] p a t w k l e = absurd t
  together_has (u ∷ us) (v ∷ vs) p a t w zero l e = (u, (0, omega arith, refl), subst (λ (y : Move). IsMoveKept stays m y u) e t.1)
  together_has (u ∷ us) (v ∷ vs) p a t w (suc k) l e =
      let r = together_has us vs (spot_after owns h (kept stays m) p u) (spot_after owns h m a v) t.2 w k (omega (arith, l)) e in
      (r.0, (suc r.1.0, (let i = r.1.1 in omega (arith, i)), r.1.2), r.2)

  pub together_many : (us vs : List Move) (p a : Spot) → Together owns h stays m (kept stays m) p a us vs → length us ≡ length vs
  together_many [] [] p a t = refl
  together_many [] (v ∷ vs) p a t = absurd t
  together_many (u ∷ us) [] p a t = absurd t
  together_many (u ∷ us) (v ∷ vs) p a t = let r = together_many us vs (spot_after owns h (kept stays m) p u) (spot_after owns h m a v) t.2 in omega (arith, r)

  none_together : length stays ≤ length m → (us vs : List Move) (p a : Spot) → Together owns h stays m (kept stays m) p a us vs → NoneLost owns h m a vs → NoneLost owns h (kept stays m) p us
  none_together within [] [] p a t none = λ lost. none (lost_kept h stays m p a within (t (kept stays m)) lost)
  none_together within [] (v ∷ vs) p a t none = absurd t
  none_together within (u ∷ us) [] p a t none = absurd t
  none_together within (u ∷ us) (v ∷ vs) p a t none = (
    λ lost. none.0 (lost_kept h stays m p a within (t.0 (kept stays m)) lost),
    none_together within us vs (spot_after owns h (kept stays m) p u) (spot_after owns h m a v) t.2 none.1,
  )

  -- what is done of the first that stay is done of the first
  stores_back : (n : ℕ) (us vs : List Move) (p a : Spot) → Together owns h stays m (kept stays m) p a us vs → StoreWithin owns h (kept_before stays n) us → StoreWithin owns h n vs
  stores_back n us vs p a t within w c store public =
      let r = together_has us vs p a t w c.0 c.1 c.2 in
      let l = within r.0 r.1 (ap stores r.2.access ∙ store) (ap (is_private owns h) r.2.access ∙ public) in
      let e = r.2.time in
      elim (cases_lt w.time n) [
        | inl i ↦ i
        | inr i ↦ absurd (let s = kept_rises stays n w.time i in omega (arith, l, e, s))
      ]

  kept_on : (image : Memory) (opening : ℕ → ℕ) (cs : List Bool) → length stays ≤ length m → length cs ≤ length (kept stays m) → (us vs : List Move) (p a : Spot) → ArePlaced m a.place.state →
      RunsApart owns image h m opening a vs → Together owns h stays m (kept stays m) p a us vs → AreOfThoseKept owns h cs (kept stays m) p us → AreOfThoseKept owns h stays m a vs →
      AreOfThoseKept owns h (joined stays cs) m a vs
  kept_on image opening cs within small [] [] p a placed run t x y = tt
  kept_on image opening cs within small [] (v ∷ vs) p a placed run t x y = absurd t
  kept_on image opening cs within small (u ∷ us) [] p a placed run t x y = absurd t
  kept_on image opening cs within small (u ∷ us) (v ∷ vs) p a placed run t x y = (
    λ op public. may_on stays cs m within small a.place.state p.place.state v u placed.own t.1 (x.0 (ap (λ (z : Access). loads z || stores z) t.1.access ∙ op) (ap (is_private owns h) t.1.access ∙ public)) (y.0 op public),
    kept_on image opening cs within small us vs (spot_after owns h (kept stays m) p u) (spot_after owns h m a v) (placed_along owns image h m opening (v ∷ []) a (run.0, tt) placed) run.1 t.2 x.1 y.1,
  )

-- ---- the first node

first_there : (hs : List Hart) (h : ℕ) (start : Hart) → h < length hs → start ≡ get_or hs h start → Contains (get_or (map (λ (s : Hart). first_spot s ∷ []) hs) h []) (first_spot start)
first_there [] h start l e = absurd (omega (arith, l))
first_there (s ∷ hs) zero start l e = (0, omega arith, ap first_spot (sym e))
first_there (s ∷ hs) (suc h) start l e = first_there hs h start (omega (arith, l)) e

pub first_serves : FirstNodeServes
first_serves owns k image hs fresh = record {
  stays = [];
  within = omega arith;
  free = λ j n x l stay out. absurd (cc);
  stores = refl;
  memory = λ x. refl;
  runs = λ h start small at e vs shared short run none. inr (record {
    before = [];
    rest = vs;
    joined = refl;
    spot = first_spot start;
    there = first_there hs h start small at;
    stands = subst (StandsForAlways (first_spot start)) (sym (spot_none e (first_spot start))) (stands_itself (first_spot start) refl);
    stores = λ v c. absurd (let l = c.1 in omega (arith, l));
    behind = current_kept owns image h [] e (opening_bytes image) (first_spot start) vs (omega arith) (λ j n x l stay out. absurd (cc)) run (λ x o own. absurd (cc)) (λ v c store public. refl)
        (λ v c load plain public known n x out. absurd (cc));
  });
}

-- ---- one store more

store_weaker : (owns : ℕ → ℕ → Bool) (h n k : ℕ) (vs : List Move) → n ≤ k → StoreWithin owns h n vs → StoreWithin owns h k vs
store_weaker owns h n k vs l within v c store public = let i = within v c store public in omega (arith, i, l)

way_weaker : (owns : ℕ → ℕ → Bool) (image : Memory) (harts h n k : ℕ) (vs : List Move) (q : Spot) → n ≤ k → IsOnItsWay owns image harts h n vs q → IsOnItsWay owns image harts h k vs q
way_weaker owns image harts h n k vs q l w = record { stores = store_weaker owns h n k vs l w.stores; apart = w.apart; calls = w.calls; goes_on = w.goes_on }

past_weaker : (owns : ℕ → ℕ → Bool) (h : ℕ) (stays : List Bool) (n k : ℕ) (m : List Stored) (start : Spot) (vs : List Move) (spots : List Spot) → n ≤ k → GoesPast owns h stays n m start vs spots →
    GoesPast owns h stays k m start vs spots
past_weaker owns h stays n k m start vs spots l g = record {
  before = g.before;
  rest = g.rest;
  joined = g.joined;
  spot = g.spot;
  there = g.there;
  stands = g.stands;
  stores = store_weaker owns h n k g.before l g.stores;
  behind = g.behind;
}

-- whatever stands behind what is told
pub may_longer : (stays : List Bool) (m e : List Stored) → length stays ≤ length m → MayBeLaid stays m → MayBeLaid stays (m ++ e)
may_longer stays m e within may j k x l stay out has wet =
    let inside = laid_within stays k out in
    may j k x l stay out (ap (λ (s : Stored). has_byte s x) (sym (get_or_append_left m e no_store j (omega (arith, l, inside, within)))) ∙ has)
    (ap (λ (s : Stored). has_byte s x) (sym (get_or_append_left m e no_store k (omega (arith, inside, within)))) ∙ wet)

pub longer_served : LongerListsAreServed
longer_served owns k image hs n m s served = record {
  stays = served.stays;
  within = (let w = served.within in omega (arith, w, more));
  free = may_longer served.stays m (s ∷ []) served.within served.free;
  stores = ap (λ (l : List Stored). l ++ s ∷ []) served.stores ∙ sym (kept_append served.stays m (s ∷ []) served.within);
  memory = λ x. served.memory x ∙ ap (λ (l : List Stored). memory_of l (opening_bytes image) x) (sym (laid_append served.stays m (s ∷ []) served.within));
  runs = λ h start small at e vs.
      subst (λ (l : List Stored). AreShared owns h l → 0 + length vs ≤ k → RunsApart owns image h l (opening_bytes image) (first_spot start) vs → NoneLost owns h l (first_spot start) vs →
      IsOnItsWay owns image (length hs) h (length (m ++ s ∷ [])) vs (spots_after owns h l (first_spot start) vs) ⊎ GoesPast owns h served.stays (length (m ++ s ∷ [])) l (first_spot start) vs (n.spots h))
      (sym (append_assoc m (s ∷ []) e))
      (λ shared short run kept. elim (served.runs h start small at (s ∷ e) vs shared short run kept) [
        | inl way ↦ inl (way_weaker owns image (length hs) h (length m) (length (m ++ s ∷ [])) vs _ (omega (arith, more)) way)
        | inr past ↦ inr (past_weaker owns h served.stays (length m) (length (m ++ s ∷ [])) _ (first_spot start) vs (n.spots h) (omega (arith, more)) past)
      ]);
}
  where
    more : length (m ++ s ∷ []) ≡ length m + 1
    more = let l = length-append m (s ∷ []) in omega (arith, l)

-- ---- a node that stands for another one

pub standing_serve : StandingNodesServe
standing_serve owns k image hs t n m stands served = record {
  stays = served.stays;
  within = served.within;
  free = served.free;
  stores = stands.stores ∙ served.stores;
  memory = λ x. stands.memory x ∙ served.memory x;
  runs = λ h start small at e vs shared short run kept. elim (served.runs h start small at e vs shared short run kept) [
    | inl way ↦ inl way
    | inr past ↦
        let q = stands.spots h past.spot small past.there in
        inr (record {
          before = past.before;
          rest = past.rest;
          joined = past.joined;
          spot = q.0;
          there = q.1;
          stands = λ l. stands_on q.0 past.spot (spot_kept served.stays (m ++ e) (spots_after owns h (m ++ e) (first_spot start) past.before)) l (q.2 l) (past.stands l);
          stores = past.stores;
          behind = past.behind;
        })
  ];
}

-- ---- a node that is raised

-- what a run from a spot of the node comes to, the run that the spot stands for comes to
module _ (owns : ℕ → ℕ → Bool) (image : Memory) (harts h : ℕ) (bs cs : List Bool) (n : ℕ) (m : List Stored) (opening : ℕ → ℕ) (within : length bs ≤ length m) (separate : MayBeLaid bs m) (shared : AreShared owns h m)
    (vs : List Move) (a p : Spot) (size : length a.place.state.registers ≡ 32) (run : RunsApart owns image h m opening a vs) (behind : AreOfThoseKept owns h bs m a vs)
    (stands : StandsForAlways p (spot_kept bs m a)) where
  -- the run from the spot
  abbrev more : (us : List Move) × RunsApart owns image h (kept bs m) (memory_of (laid bs m) opening) p us × Together owns h bs m (kept bs m) p a us vs
  more = run_kept owns image h bs m opening within separate shared vs a p size stands run behind

  abbrev end_of : Spot
  end_of = spots_after owns h (kept bs m) p more.0

  ends : StandsForAlways end_of (spot_kept bs m (spots_after owns h m a vs))
  ends = together_ends owns h bs m (kept bs m) more.0 vs p a more.2

  -- it is on its way, too
  way_back : IsOnItsWay owns image harts h (kept_before bs n) more.0 end_of → IsOnItsWay owns image harts h n vs (spots_after owns h m a vs)
  way_back w =
      let q = spots_after owns h m a vs in
      let l = (ends []).state in
      record {
        stores = stores_back owns h bs m n more.0 vs p a more.2 w.stores;
        apart = keeps_back owns image harts h (state_kept bs m q.place.state) end_of.place.state l w.apart;
        calls = λ call. (ends []).constant (w.calls (ap (decoded image) l.pc ∙ call));
        goes_on = λ stop knows halts. w.goes_on stop (knows_back (state_kept bs m q.place.state) end_of.place.state l knows)
            (halts_kept image stop bs m q.place.state end_of.place.state (size_after owns h m vs a ∙ size) l knows halts);
      }

  past_back : length cs ≤ length (kept bs m) → ArePlaced m a.place.state → (spots : List Spot) → GoesPast owns h cs (kept_before bs n) (kept bs m) p more.0 spots → GoesPast owns h (joined bs cs) n m a vs spots
  past_back small placed spots g =
      let t = together_split owns h bs m g.before g.rest vs p a (subst (λ (us : List Move). Together owns h bs m (kept bs m) p a us vs) g.joined more.2) in
      let parts = subst (RunsApart owns image h m opening a) t.2 run in
      let there = placed_along owns image h m opening t.0 a (run_before owns h m image opening t.0 t.1 a parts) placed in
      record {
        before = t.0;
        rest = t.1;
        joined = t.2;
        spot = g.spot;
        there = g.there;
        stands = stands_kept_both bs cs m within small g.spot (spots_after owns h (kept bs m) p g.before) (spots_after owns h m a t.0) there g.stands (together_ends owns h bs m (kept bs m) g.before t.0 p a t.3);
        stores = stores_back owns h bs m n g.before t.0 p a t.3 g.stores;
        behind = kept_on owns h bs m image opening cs within small g.rest t.1 (spots_after owns h (kept bs m) p g.before) (spots_after owns h m a t.0) there
            (run_behind owns h m image opening t.0 t.1 a parts) t.4 g.behind (kept_behind owns h m bs t.0 t.1 a (subst (AreOfThoseKept owns h bs m a) t.2 behind));
      }

  -- nor is any of its spots lost
  none_kept : NoneLost owns h m a vs → NoneLost owns h (kept bs m) p more.0
  none_kept none = none_together owns h bs m within more.0 vs p a more.2 none

shared_kept : (owns : ℕ → ℕ → Bool) (h : ℕ) (stays : List Bool) (m : List Stored) → length stays ≤ length m → AreShared owns h m → AreShared owns h (kept stays m)
shared_kept owns h stays m within shared k x l wet = shared _ x (before_within stays m k within l) (ap (λ (s : Stored). has_byte s x) (sym (at_before stays m k)) ∙ wet)

-- what a hart has kept where it begins
start_placed : (m : List Stored) (start : Hart) → ArePlaced m (run_start start)
start_placed m start = record { own = λ x o own. absurd (cc); sources = λ x held. absurd (cc) }

module _ (owns : ℕ → ℕ → Bool) (k : ℕ) (image : Memory) (hs : List Hart) (cs : List Bool) (n t : Node) (m : List Stored) (fresh : AreFresh hs) (raised : IsRaised owns k image (length hs) cs n t)
    (served : IsServed owns k image hs n m) where
  abbrev bs : List Bool
  bs = served.stays

  abbrev opening : ℕ → ℕ
  opening = opening_bytes image

  many : length n.stores ≡ kept_before bs (length m)
  many = ap length served.stores ∙ kept_length served.stays m served.within

  small_here : length cs ≤ length (kept bs m)
  small_here = subst (λ (l : List Stored). length cs ≤ length l) served.stores raised.within

  module _ (h : ℕ) (start : Hart) (small : h < length hs) (at : start ≡ get_or hs h start) (e : List Stored) (vs : List Move) (shared : AreShared owns h (m ++ e)) (short : 0 + length vs ≤ k)
      (run : RunsApart owns image h (m ++ e) (opening_bytes image) (first_spot start) vs) (none : NoneLost owns h (m ++ e) (first_spot start) vs) where
    within : length bs ≤ length (m ++ e)
    within = let w = served.within in let l = length-append m e in omega (arith, w, l)

    separate : MayBeLaid bs (m ++ e)
    separate = may_longer served.stays m e served.within served.free

    abbrev Comes : List Stored → (ℕ → ℕ) → Spot → List Move → Type 0
    Comes l f p us =
        AreShared owns h l → p.place.count + length us ≤ k → RunsApart owns image h l f p us → NoneLost owns h l p us →
        IsOnItsWay owns image (length hs) h (length n.stores) us (spots_after owns h l p us) ⊎ GoesPast owns h cs (length n.stores) l p us (t.spots h)

    stores_are : n.stores ++ e ≡ kept bs (m ++ e)
    stores_are = ap (λ (l : List Stored). l ++ e) served.stores ∙ sym (kept_append served.stays m e served.within)

    memory_is : n.memory ≡ memory_of (laid bs (m ++ e)) opening
    memory_is = fun_ext (λ x. served.memory x ∙ ap (λ (l : List Stored). memory_of l opening x) (sym (laid_append served.stays m e served.within)))

    small_whole : length cs ≤ length (kept bs (m ++ e))
    small_whole = subst (λ (l : List Stored). length cs ≤ length l) stores_are (let w = raised.within in let l = length-append n.stores e in omega (arith, w, l))

    comes : (p : Spot) → Contains (n.spots h) p → (us : List Move) → Comes (kept bs (m ++ e)) (memory_of (laid bs (m ++ e)) opening) p us
    comes p there us =
        subst (λ (f : ℕ → ℕ). Comes (kept bs (m ++ e)) f p us) memory_is
        (subst (λ (l : List Stored). Comes l n.memory p us) stores_are (λ shared short run none. raised.runs h p small there e us shared short run none))

    goes_on : GoesPast owns h bs (length m) (m ++ e) (first_spot start) vs (n.spots h) →
        IsOnItsWay owns image (length hs) h (length m) vs (spots_after owns h (m ++ e) (first_spot start) vs) ⊎ GoesPast owns h (joined bs cs) (length m) (m ++ e) (first_spot start) vs (t.spots h)
    goes_on past =
        let a = spots_after owns h (m ++ e) (first_spot start) past.before in
        let size : length a.place.state.registers ≡ 32 = size_after owns h (m ++ e) past.before (first_spot start) ∙ length-map start.x (λ v. Some v) ∙ (fresh h start small at).registers in
        let parts_run = subst (RunsApart owns image h (m ++ e) opening (first_spot start)) past.joined run in
        let rest = run_behind owns h (m ++ e) image opening past.before past.rest (first_spot start) parts_run in
        let placed = placed_along owns image h (m ++ e) opening past.before (first_spot start) (run_before owns h (m ++ e) image opening past.before past.rest (first_spot start) parts_run) (start_placed (m ++ e) start) in
        let joined_to : spots_after owns h (m ++ e) (first_spot start) vs ≡ spots_after owns h (m ++ e) a past.rest =
        ap (spots_after owns h (m ++ e) (first_spot start)) past.joined ∙ spots_joined owns h (m ++ e) past.before past.rest (first_spot start) in
        let it = more owns image (length hs) h bs cs (length m) (m ++ e) opening within separate shared past.rest a past.spot size rest past.behind past.stands in
        let as_many = together_many owns h bs (m ++ e) it.0 past.rest past.spot a it.2 in
        let counted = count_after owns h (m ++ e) past.before (first_spot start) in
        let parts = ap length past.joined ∙ length-append past.before past.rest in
        let few = (past.stands []).count in
        elim (comes past.spot past.there it.0 (shared_kept owns h bs (m ++ e) within shared) (omega (arith, as_many, counted, parts, few, short)) it.1
        (none_kept owns image (length hs) h bs cs (length m) (m ++ e) opening within separate shared past.rest a past.spot size rest past.behind past.stands
        (none_behind owns h (m ++ e) past.before past.rest (first_spot start) (subst (NoneLost owns h (m ++ e) (first_spot start)) past.joined none)))) [
          | inl way ↦
              let w = way_back owns image (length hs) h bs cs (length m) (m ++ e) opening within separate shared past.rest a past.spot size rest past.behind past.stands
              (subst (λ (i : ℕ). IsOnItsWay owns image (length hs) h i it.0 (spots_after owns h (kept bs (m ++ e)) past.spot it.0)) many way) in
              inl (subst (λ (q : Spot). IsOnItsWay owns image (length hs) h (length m) vs q) (sym joined_to) (record {
                stores = subst (StoreWithin owns h (length m)) (sym past.joined) (within_both past.before past.rest past.stores w.stores);
                apart = w.apart;
                calls = w.calls;
                goes_on = w.goes_on;
              }))
          | inr on ↦
              let g = past_back owns image (length hs) h bs cs (length m) (m ++ e) opening within separate shared past.rest a past.spot size rest past.behind past.stands small_whole placed (t.spots h)
              (subst (λ (i : ℕ). GoesPast owns h cs i (kept bs (m ++ e)) past.spot it.0 (t.spots h)) many on) in
              let back : spots_after owns h (m ++ e) (first_spot start) (past.before ++ g.before) ≡ spots_after owns h (m ++ e) a g.before = spots_joined owns h (m ++ e) past.before g.before (first_spot start) in
              inr (record {
                before = past.before ++ g.before;
                rest = g.rest;
                joined = past.joined ∙ ap (λ (l : List Move). past.before ++ l) g.joined ∙ sym (append_assoc past.before g.before g.rest);
                spot = g.spot;
                there = g.there;
                stands = subst (λ (q : Spot). StandsForAlways g.spot (spot_kept (joined bs cs) (m ++ e) q)) (sym back) g.stands;
                stores = within_both past.before g.before past.stores g.stores;
                behind = subst (λ (q : Spot). AreOfThoseKept owns h (joined bs cs) (m ++ e) q g.rest) (sym back) g.behind;
              })
        ]
      where
        within_both : (us ws : List Move) → StoreWithin owns h (length m) us → StoreWithin owns h (length m) ws → StoreWithin owns h (length m) (us ++ ws)
        within_both us ws x y v there store public = elim (Contains-append_cases us ws v there) [
          | inl here ↦ x v here store public
          | inr here ↦ y v here store public
        ]

    raised_comes : IsOnItsWay owns image (length hs) h (length m) vs (spots_after owns h (m ++ e) (first_spot start) vs) ⊎ GoesPast owns h (joined bs cs) (length m) (m ++ e) (first_spot start) vs (t.spots h)
    raised_comes = elim (served.runs h start small at e vs shared short run none) [
      | inl way ↦ inl way
      | inr past ↦ goes_on past
    ]

pub raised_serve : RaisedNodesServe
raised_serve owns k image hs cs n t m fresh raised served = record {
  stays = joined served.stays cs;
  within = length_joined served.stays cs m served.within (small_here owns k image hs cs n t m fresh raised served);
  free = may_joined served.stays cs m served.free (subst (MayBeLaid cs) served.stores raised.free);
  stores = raised.stores ∙ ap (kept cs) served.stores ∙ sym (kept_joined served.stays cs m);
  memory = λ x.
      let is : n.memory ≡ memory_of (laid served.stays m) (opening_bytes image) = fun_ext served.memory in
      raised.memory x
      ∙ ap (λ (f : ℕ → ℕ). memory_of (laid cs n.stores) f x) is
      ∙ ap (λ (l : List Stored). memory_of (laid cs l) (memory_of (laid served.stays m) (opening_bytes image)) x) served.stores
      ∙ sym (memory_joined served.stays cs m x (opening_bytes image) served.within (small_here owns k image hs cs n t m fresh raised served) served.free);
  runs = λ h start small at e vs shared short run none. raised_comes owns k image hs cs n t m fresh raised served h start small at e vs shared short run none;
}
