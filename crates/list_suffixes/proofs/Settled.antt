-- Runs from a node's spots come past those that walks by what is known alone lead to.
use Rattle.std.proofs.Common.{◌≡◌, ℕ, zero, suc, ◌+◌, ◌<◌, ◌≤◌, ◌||◌, ◌⊎◌, Bool, true, false, List, [], ◌∷◌, ◌++◌, length, get_or, Contains, Some, refl, sym, ap, ◌∙◌, subst, inl, inr, arith}
use Rattle.std.proofs.lemmas.Bool.{cases_lt}
use Rattle.std.proofs.lemmas.List.{get_or_append_left, length-append}
use Rattle.pages.specs.Memory.{Memory}
use Rattle.rv64_decode.specs.declared.instruction.Instr.{Instr}
use Rattle.round_schedule.specs.declared.access.Access.{Access}
use Rattle.round_schedule.specs.Accesses.{loads, stores}
use Rattle.hart_step.specs.DecodedCode.{decoded}
use Rattle.all_endings.specs.RunStates.{Move, RunState, operates}
use Rattle.all_endings.specs.StoreLists.{Stored, has_byte, no_store}
use Rattle.private_bytes.specs.Ahead.{IsAhead}
use Rattle.private_bytes.specs.Owners.{is_private}
use Rattle.private_bytes.specs.PrivateWalks.{IsLost, Spot, spot_after}
use Rattle.list_suffixes.specs.ApartRuns.{AreOfThoseKept, NoneLost, RunsApart, StandsForAlways, spots_after}
use Rattle.list_suffixes.specs.KeptMoves.{IsMoveKept, state_after}
use Rattle.list_suffixes.specs.Serving.{GoesPast, IsOnItsWay, Node, StoreWithin}
use Rattle.list_suffixes.specs.SettledWalks.{AreAhead, IsKnown, IsSettledWalk, SettledWalksComePast}
use Rattle.list_suffixes.specs.Staying.{AreShared, spot_kept}
use Rattle.list_suffixes.proofs.KeptRuns.{after_count, after_next, after_state, constant_same, paid_from, paid_new, paid_old}
use Rattle.list_suffixes.proofs.Past.{halts_back, keeps_back, knows_back, spot_longer, stands_kept, stands_on}
use Rattle.list_suffixes.proofs.Serving.{first_kept}
use Rattle.list_suffixes.proofs.Shorter.{moves_shorter}

-- whether a move is known
known_or_not : (owns : ℕ → ℕ → Bool) (h : ℕ) (m : List Stored) (v : Move) → IsKnown owns h m v ⊎ (IsKnown owns h m v → ⊥)
known_or_not owns h m v = by_tests (operates v) refl (is_private owns h v.access) refl (stores v.access) refl
  where
    by_tests : (o : Bool) → operates v ≡ o → (p : Bool) → is_private owns h v.access ≡ p → (s : Bool) → stores v.access ≡ s → IsKnown owns h m v ⊎ (IsKnown owns h m v → ⊥)
    by_tests false o p q s r = inl (λ op public. absurd (cc))
    by_tests true o true q s r = inl (λ op public. absurd (cc))
    by_tests true o false q true r = elim (cases_lt v.time (length m)) [
      | inl l ↦ inl (λ op public. (omega (arith, l), λ store. l))
      | inr l ↦ inr (λ known. let i = (known o q).1 r in omega (arith, i, l))
    ]
    by_tests true o false q false r = elim (cases_lt (length m) v.time) [
      | inr l ↦ inl (λ op public. (l, λ store. absurd (cc)))
      | inl l ↦ inr (λ known. let i = (known o q).0 in omega (arith, i, l))
    ]

module _ (owns : ℕ → ℕ → Bool) (k : ℕ) (image : Memory) (harts h : ℕ) (stays : List Bool) (n : Node) (ps new : List Spot) (within : length stays ≤ length n.stores) (walk : IsSettledWalk owns k image harts h stays n ps new)
    (e : List Stored) (shared : AreShared owns h (n.stores ++ e)) where
  abbrev whole : List Stored
  whole = n.stores ++ e

  shared_left : AreShared owns h n.stores
  shared_left i x l wet =
      let s = length-append n.stores e in
      shared i x (omega (arith, l, s)) (ap (λ (z : Stored). has_byte z x) (get_or_append_left n.stores e no_store i l) ∙ wet)

  lost_longer : (p q : Spot) → StandsForAlways p q → IsLost h n.stores p.place → IsLost h whole q.place
  lost_longer p q stands lost =
      let l = lost.within in
      let s = length-append n.stores e in
      let there = get_or_append_left n.stores e no_store lost.store l in
      record {
        store = lost.store;
        within = omega (arith, l, s);
        hart = ap (λ (y : Stored). y.hart) there ∙ lost.hart;
        owed = by_test (q.place.paid lost.store) refl;
        byte = lost.byte;
        has = ap (λ (y : Stored). has_byte y lost.byte) there ∙ lost.has;
        behind =
            (let i = lost.behind in
            let s = (stands n.stores).state in
            let j = s.touched lost.byte in
            let k0 = s.kinds.acquires in
            let k1 = s.kinds.load_store in
            let k2 = s.kinds.store_store in
            let c0 = s.carried.steered in
            let c1 = s.carried.addressed in
            omega (arith, i, j, k0, k1, k2, c0, c1));
      }
    where
      by_test : (b : Bool) → q.place.paid lost.store ≡ b → b ≡ false
      by_test false d = refl
      by_test true d = absurd (let i = (stands n.stores).paid lost.store lost.within d in let j = lost.owed in cc)

  -- what a known move leads to
  stands_known : (p q : Spot) (v u : Move) → IsMoveKept [] n.stores v u → IsAhead (state_after owns h n.stores p.place.state u) (state_after owns h whole q.place.state v) → StandsForAlways p q →
      StandsForAlways (spot_after owns h n.stores p u) (spot_after owns h whole q v)
  stands_known p q v u is ahead stands l = record {
    state = subst (λ (s : RunState). IsAhead s (spot_after owns h whole q v).place.state) (sym (after_state owns h n.stores p.place u))
        (subst (λ (s : RunState). IsAhead (state_after owns h n.stores p.place.state u) s) (sym (after_state owns h whole q.place v)) ahead);
    count = (let i = (stands l).count in let d = after_count owns h n.stores p.place u in let f = after_count owns h whole q.place v in omega (arith, i, d, f));
    paid = λ j s paid. elim (paid_from owns h whole q.place v j paid) [
      | inl old ↦ paid_old owns h n.stores p.place u j ((stands l).paid j s old)
      | inr fresh ↦
          let t = is.time in
          let z = fresh.2 in
          paid_new owns h n.stores p.place u j (ap (is_private owns h) is.access ∙ fresh.0) (ap stores is.access ∙ fresh.1) (omega (arith, t, z))
    ];
    next = after_next owns h n.stores p.place u ∙ (stands l).next ∙ sym (after_next owns h whole q.place v);
    constant = constant_same p.constant q.constant v u is.instruction is.access (stands l).constant;
  }

  abbrev Comes : List Move → Spot → Type 0
  Comes vs q = IsOnItsWay owns image harts h (length n.stores) vs (spots_after owns h whole q vs) ⊎ GoesPast owns h stays (length n.stores) whole q vs new

  -- a spot at which the run comes past
  past_here : (vs : List Move) (w q : Spot) → StandsForAlways w q → AreAhead new (spot_kept stays n.stores w) → AreOfThoseKept owns h stays whole q vs → GoesPast owns h stays (length n.stores) whole q vs new
  past_here vs w q stands t behind = record {
    before = [];
    rest = vs;
    joined = refl;
    spot = t.0;
    there = t.1;
    stands = subst (StandsForAlways t.0) (sym (spot_longer stays n.stores e within q))
        (λ l. stands_on t.0 (spot_kept stays n.stores w) (spot_kept stays n.stores q) l (t.2 l) (stands_kept stays n.stores w q stands l));
    stores = λ v there. absurd (let l = there.1 in omega (arith, l));
    behind = behind;
  }

  within_more : (v : Move) (vs : List Move) → IsKnown owns h n.stores v → StoreWithin owns h (length n.stores) vs → StoreWithin owns h (length n.stores) (v ∷ vs)
  within_more v vs known within w there store public = by_place there.0 there.1 there.2
    where
      operates_it : (d f : Bool) → f ≡ true → (d || f) ≡ true
      operates_it true f s = refl
      operates_it false f s = s

      by_place : (i : ℕ) → i < length (v ∷ vs) → get_or (v ∷ vs) i w ≡ w → w.time < length n.stores
      by_place zero l is =
          let s : stores v.access ≡ true = ap (λ (y : Move). stores y.access) is ∙ store in
          let p : is_private owns h v.access ≡ false = ap (λ (y : Move). is_private owns h y.access) is ∙ public in
          let i = (known (operates_it (loads v.access) (stores v.access) s) p).1 s in
          let t = ap (λ (y : Move). y.time) is in
          omega (arith, i, t)
      by_place (suc i) l is = within w (i, omega (arith, l), is) store public

  on_after : (v : Move) (vs : List Move) (q : Spot) → IsKnown owns h n.stores v → Comes vs (spot_after owns h whole q v) → Comes (v ∷ vs) q
  on_after v vs q known (inl way) = inl (record { stores = within_more v vs known way.stores; apart = way.apart; calls = way.calls; goes_on = way.goes_on })
  on_after v vs q known (inr g) = inr (record {
    before = v ∷ g.before;
    rest = g.rest;
    joined = ap (λ (l : List Move). v ∷ l) g.joined;
    spot = g.spot;
    there = g.there;
    stands = g.stands;
    stores = within_more v g.before known g.stores;
    behind = g.behind;
  })

  pub comes : (vs : List Move) (q w : Spot) → Contains ps w → StandsForAlways w q → q.place.count + length vs ≤ k → RunsApart owns image h whole n.memory q vs → NoneLost owns h whole q vs → Comes vs q
  comes [] q w there stands few run none = elim (walk.ends w there) [
    | inl t ↦ inr (past_here [] w q stands t tt)
    | inr goes ↦
        let l = (stands []).state in
        inl (record {
          stores = λ v inside. absurd (let i = inside.1 in omega (arith, i));
          apart = keeps_back owns image harts h q.place.state w.place.state l (walk.apart w there);
          calls = λ call. (stands []).constant (walk.calls w there (ap (decoded image) l.pc ∙ call));
          goes_on = λ stop knows halts. goes stop (knows_back q.place.state w.place.state l knows) (halts_back image stop q.place.state w.place.state l.pc (walk.sized w there) l.registers knows halts);
        })
  ]
  comes (v ∷ vs) q w there stands few run none = elim (known_or_not owns h n.stores v) [
    | inr late ↦ elim (walk.late w q e v vs there stands shared run none late) [
      | inl on ↦ inr (past_here (v ∷ vs) w q stands on.0 on.1)
      | inr way ↦ inl way
    ]
    | inl known ↦
        let does = run.0 in
        let l = (stands []).state in
        let s = moves_shorter owns image h n.stores e n.memory q.place.state w.place.state v shared_left (sym l.size ∙ walk.sized w there) l does.decodes known does.acts does.stands in
        let on = stands_known w q v s.0 s.1 s.4 stands in
        let time = s.1.time in
        let known_too : IsKnown owns h n.stores s.0 = λ op public.
        let i = known (ap (λ (z : Access). loads z || stores z) (sym s.1.access) ∙ op) (ap (is_private owns h) (sym s.1.access) ∙ public) in
        (let j = i.0 in omega (arith, j, time), λ store. let j = i.1 (ap stores (sym s.1.access) ∙ store) in omega (arith, j, time)) in
        elim (walk.moves w s.0 there (let j = (stands []).count in omega (arith, j, few))
        (record { decodes = ap (decoded image) l.pc ∙ does.decodes ∙ ap (λ (i : Instr). Some i) (sym s.1.instruction); acts = s.2; stands = s.3 }) known_too) [
          | inr lost ↦ absurd (first_kept owns h whole vs (spot_after owns h whole q v) none.1 (lost_longer (spot_after owns h n.stores w s.0) (spot_after owns h whole q v) on lost))
          | inl t ↦
              on_after v vs q known (comes vs (spot_after owns h whole q v) t.0 t.1 (λ i. stands_on t.0 (spot_after owns h n.stores w s.0) (spot_after owns h whole q v) i (t.2 i) (on i))
              (let j = after_count owns h whole q.place v in omega (arith, j, few)) run.1 none.1)
        ]
  ]

pub settled_come : SettledWalksComePast
settled_come owns k image harts h stays n ps new within walk p there e vs shared few run none =
    let w = walk.begins p there in
    comes owns k image harts h stays n ps new within walk e shared vs p w.0 w.1 w.2 few run none
