-- The round in which a hart does the instruction of a place, sought round after round.
use Rattle.std.proofs.Common.{◌≡◌, ℕ, zero, suc, ◌+◌, ◌-◌, ◌<◌, ◌≤◌, inl, inr, slice_get, Option, Some, None, is_some as has, true, false, refl, sym, ap, subst, ◌∙◌, arith}
use Rattle.std.specs.Prelude.{◌⊎◌, ◌^◌}
use Rattle.std.proofs.lemmas.Bool.{cases_lt}
use Rattle.hart_step.specs.declared.hart.Hart.{Hart}
use Rattle.machine.specs.Machine.{Running, after_rounds}
use Rattle.machine.specs.Untraced.{IsUntraced, Untraced}
use Rattle.machine.specs.Walks.{HasDone}
use Rattle.machine.proofs.Repeated.{more_rounds, no_rounds}
use Rattle.machine.proofs.Walked.{none_done}
use Rattle.round_schedule.specs.Past.{hart_after}
use Rattle.round_planner.specs.Quotas.{quotas_of}
use Rattle.hart_step.specs.Words.{words_of}
use Rattle.run_events.specs.Pcs.{hart_at}
use Rattle.replayer.specs.Past.{Begins, IsBefore, IsRoundOf, IsStateBefore}
use Rattle.replayer.specs.Visits.{HasSought, IsBehind, IsSoFar}
use Rattle.run_events.proofs.RoundsAt.{after_last, from_before}
use Rattle.replayer.proofs.RoundCount.{OneRound, hart_in, none_before, one_round, reads_after}

abbrev there : Hart → Option Hart
there h = Some h

some_is : (g h : Hart) → there g ≡ there h → g ≡ h
some_is g h e = cc

is_some : (g : Hart) → there g ≡ None → ⊥
is_some g e = absurd cc

pub at_first : (rounds : ℕ) (m : Running) (hart place : ℕ) → Begins m hart → IsSoFar rounds m hart place 0 0
at_first rounds m hart place b = record {
  here = λ h at. sym (b.fresh h (ap (λ (r : Running). slice_get r.state.harts hart) (no_rounds m) ∙ at));
  none_yet = first;
}
  where
    first : (round count : ℕ) (h : Hart) → round ≤ 0 → IsBefore rounds m hart place round count h → ⊥
    first zero count h le b = is_some h (sym b.here)
    first (suc n) count h le b = absurd (omega (arith, le))

-- what the round after these says of the past
at_round : (rounds : ℕ) (m : Running) (done hart count : ℕ) → done < rounds → hart_in m done hart count ≡ hart_at rounds m (done + 1) hart count
at_round rounds m done hart count lt =
    let less : done ≡ done + 1 - 1 = omega arith in
    from_before rounds m (after_rounds done m) (done + 1) hart count (omega arith) (omega (arith, lt)) (ap (λ (n : ℕ). after_rounds n m) less)

not_in_round : (rounds : ℕ) (m : Running) (hart place done count : ℕ) (h : Hart) (o : OneRound m done hart) → done < rounds → o.after.done ≤ place → IsBefore rounds m hart place (done + 1) count h → ⊥
not_in_round rounds m hart place done count h o lt passed b = elim (cases_lt o.count (count + 1)) [
  | inl over ↦ is_some b.goes_on.0 (sym b.goes_on.1 ∙ sym (at_round rounds m done hart (count + 1) lt) ∙ o.beyond (count + 1) over)
  | inr le ↦
      let g = o.each count (omega (arith, le)) in
      let same : h ≡ g.0 = some_is h g.0 (sym b.here ∙ sym (at_round rounds m done hart count lt) ∙ g.1) in
      absurd (omega (arith, le, o.sum, passed, g.2, b.done, ap (λ (x : Hart). x.done) same))
]

pub at_next : (rounds : ℕ) (m : Running) (hart place done before after : ℕ) (o : OneRound m done hart) → done < rounds → after ≡ o.after.done → after ≤ place → IsSoFar rounds m hart place done before → IsSoFar rounds m hart place (done + 1) after
at_next rounds m hart place done before after o lt e passed so_far = record {
  here = λ h at. e ∙ ap (λ (x : Hart). x.done) (some_is o.after h (sym o.at_after ∙ at));
  none_yet = λ round count h le b. elim (cases_lt done round) [
    | inl over ↦
        let last : round ≡ done + 1 = omega (arith, over, le) in
        not_in_round rounds m hart place done count h o lt (omega (arith, e, passed)) (subst (λ (n : ℕ). IsBefore rounds m hart place n count h) last b)
    | inr low ↦ so_far.none_yet round count h low b
  ];
}

pub is_there : (rounds : ℕ) (m : Running) (hart place done before after : ℕ) (o : OneRound m done hart) → done < rounds → after ≡ o.after.done → before ≤ place → place < after → IsSoFar rounds m hart place done before →
    IsRoundOf rounds m hart place (Some (done + 1, place - before))
is_there rounds m hart place done before after o lt e le over so_far =
    let began : before ≡ o.before.done = so_far.here o.before o.at_before in
    let k : ℕ = place - before in
    let g = o.each k (omega (arith, e, o.sum, began, le, over)) in
    let next = o.each (k + 1) (omega (arith, e, o.sum, began, le, over)) in (
      g.0,
      record {
        here = sym (at_round rounds m done hart k lt) ∙ g.1;
        done = g.2 ∙ omega (arith, began, le);
        goes_on = (next.0, sym (at_round rounds m done hart (k + 1) lt) ∙ next.1);
      },
    )

pub is_nowhere : (rounds : ℕ) (m : Running) (hart place done before : ℕ) → rounds ≤ done → IsSoFar rounds m hart place done before → IsRoundOf rounds m hart place None
is_nowhere rounds m hart place done before all so_far = λ round count h b. elim (cases_lt rounds round) [
  | inl over ↦ none_before rounds m hart place round count h (sym (after_last rounds m round hart count over)) b
  | inr low ↦ so_far.none_yet round count h (omega (arith, low, all)) b
]

-- ---- the answer

pub nowhere : (rounds n : ℕ) (m : Running) (hart place : ℕ) (x : Option (ℕ × ℕ)) → n ≡ rounds → x ≡ None → IsRoundOf n m hart place x → IsStateBefore rounds m hart place None
nowhere rounds n m hart place x same e b =
    subst (λ (k : ℕ). IsRoundOf k m hart place None) same (subst (λ (y : Option (ℕ × ℕ)). IsRoundOf n m hart place y) e b)

pub somewhere : (rounds n : ℕ) (m : Running) (hart place round count : ℕ) (x : Option (ℕ × ℕ)) → n ≡ rounds → x ≡ Some (round, count) → IsRoundOf n m hart place x → (h : Hart) × IsBefore rounds m hart place round count h
somewhere rounds n m hart place round count x same e b =
    subst (λ (k : ℕ). IsRoundOf k m hart place (Some (round, count))) same (subst (λ (y : Option (ℕ × ℕ)). IsRoundOf n m hart place y) e b)

-- what the hart was there
pub is_found : (rounds : ℕ) (m : Running) (hart place round count : ℕ) (found : Option Hart) (b : (h : Hart) × IsBefore rounds m hart place round count h) → found ≡ hart_at rounds m round hart count →
    (h : Hart) → found ≡ Some h → IsBefore rounds m hart place round count h
is_found rounds m hart place round count found b e h at = subst (IsBefore rounds m hart place round count) (some_is b.0 h (sym b.1.here ∙ sym e ∙ at)) b.1

pub is_not_lost : (rounds : ℕ) (m : Running) (hart place round count : ℕ) (found : Option Hart) (b : (h : Hart) × IsBefore rounds m hart place round count h) → found ≡ hart_at rounds m round hart count → found ≡ None → ⊥
is_not_lost rounds m hart place round count found b e lost = is_some b.0 (sym b.1.here ∙ sym e ∙ lost)

-- ---- round after round

pub none_sought : (hart place : ℕ) (last start : Untraced) (rounds : ℕ) → start.rounds ≡ 0 → rounds < 2 ^ 32 → last ≡ start → HasSought hart place 0 None last start rounds 0
none_sought hart place last start rounds e few same = record {
  opened = e;
  fit = few;
  low = omega arith;
  there = (start, none_done start);
  behind =
      let first : 0 ≡ start.rounds = sym e in
      subst (λ (u : Untraced). IsBehind start u 0 None) (sym same) (subst (λ (k : ℕ). HasDone k start start) first (none_done start), omega (arith, e));
  sought = λ m i b. at_first rounds m hart place b;
}

-- once it was found
pub still_found : (hart place before : ℕ) (found : Option (ℕ × ℕ)) (last start now : Untraced) (rounds done : ℕ) → has found ≡ true → HasDone (done + 1) start now → HasSought hart place before found last start rounds done →
    HasSought hart place before found last start rounds (done + 1)
still_found hart place before None last start now rounds done some d h = absurd cc
still_found hart place before (Some x) last start now rounds done some d h = record {
  opened = h.opened;
  fit = h.fit;
  low = h.low;
  there = (now, d);
  behind = (h.behind.0, h.behind.1, omega (arith, h.behind.2));
  sought = h.sought;
}

-- it is found in this round
pub found_here : (hart place before after n k : ℕ) (found : Option (ℕ × ℕ)) (last start now : Untraced) (rounds done : ℕ) → has found ≡ false → done < rounds → place < after → n ≡ now.rounds → k ≡ place - before →
    ((h : Hart) → slice_get now.harts hart ≡ Some h → after ≡ h.done) → HasDone (done + 1) start now → HasSought hart place before found last start rounds done →
    HasSought hart place before (Some (n, k)) last start rounds (done + 1)
found_here hart place before after n k (Some x) last start now rounds done none few over en ek reads d h = absurd cc
found_here hart place before after n k None last start now rounds done none few over en ek reads d h =
    let number : done + 1 ≡ n = omega (arith, d.rounds, h.opened, en) in
    record {
      opened = h.opened;
      fit = h.fit;
      low = h.low;
      there = (now, d);
      behind = (h.behind.0, omega (arith, h.behind.1, number), omega (arith, number));
      sought = λ m i b.
          let o = one_round m done hart h.there.0 b (h.there.1.run m i) (omega (arith, few, h.fit)) in
          subst (λ (j : ℕ). IsRoundOf rounds m hart place (Some (n, j))) (sym ek)
          (subst (λ (j : ℕ). IsRoundOf rounds m hart place (Some (j, place - before))) number
          (is_there rounds m hart place done before after o few (reads_after m done hart now o after (d.run m i) reads) h.low over (h.sought m i b)));
    }

-- it isn't found in this round; the machine is kept, or the one that was kept stays
pub not_here : (hart place before after : ℕ) (found : Option (ℕ × ℕ)) (last next start now : Untraced) (rounds done : ℕ) → has found ≡ false → done < rounds → after ≤ place →
    ((h : Hart) → slice_get now.harts hart ≡ Some h → after ≡ h.done) → (next ≡ last) ⊎ (next ≡ now) → HasDone (done + 1) start now → HasSought hart place before found last start rounds done →
    HasSought hart place after found next start rounds (done + 1)
not_here hart place before after (Some x) last next start now rounds done none few passed reads kept d h = absurd cc
not_here hart place before after None last next start now rounds done none few passed reads kept d h =
    let number : done + 1 ≡ now.rounds = omega (arith, d.rounds, h.opened) in
    record {
      opened = h.opened;
      fit = h.fit;
      low = passed;
      there = (now, d);
      behind = elim kept [
        | inl same ↦ subst (λ (u : Untraced). IsBehind start u (done + 1) None) (sym same) (h.behind.0, omega (arith, h.behind.1))
        | inr same ↦ subst (λ (u : Untraced). IsBehind start u (done + 1) None) (sym same) (subst (λ (k : ℕ). HasDone k start now) number d, omega (arith, number))
      ];
      sought = λ m i b.
          let o = one_round m done hart h.there.0 b (h.there.1.run m i) (omega (arith, few, h.fit)) in
          at_next rounds m hart place done before after o few (reads_after m done hart now o after (d.run m i) reads) passed (h.sought m i b);
    }

-- all rounds, or the one that was sought
pub sought_all : (hart place before : ℕ) (found : Option (ℕ × ℕ)) (last start : Untraced) (rounds done : ℕ) (m : Running) → HasSought hart place before found last start rounds done → (done ≡ rounds) ⊎ (found ≡ None → ⊥) →
    IsUntraced m start → Begins m hart → IsRoundOf rounds m hart place found
sought_all hart place before (Some x) last start rounds done m h ended i b = h.sought m i b
sought_all hart place before None last start rounds done m h (inl e) i b = is_nowhere rounds m hart place done before (omega (arith, e)) (h.sought m i b)
sought_all hart place before None last start rounds done m h (inr some) i b = absurd (some refl)

pub behind_all : (start last : Untraced) (rounds done : ℕ) (found : Option (ℕ × ℕ)) → done ≤ rounds → IsBehind start last done found → IsBehind start last rounds found
behind_all start last rounds done None few h = (h.0, omega (arith, h.1, few))
behind_all start last rounds done (Some x) few h = (h.0, h.1, omega (arith, h.2, few))

pub behind_found : (start last : Untraced) (rounds : ℕ) (found : Option (ℕ × ℕ)) (x : ℕ × ℕ) → found ≡ Some x → IsBehind start last rounds found → HasDone last.rounds start last × (last.rounds < x.0) × (x.0 ≤ rounds)
behind_found start last rounds found x e h = subst (IsBehind start last rounds) e h

-- what is asked of the machine that was kept is asked of the run
pub asked_there : (rounds between : ℕ) (m : Running) (last : Untraced) (round hart count : ℕ) (found : Option Hart) → 1 ≤ round → round ≤ rounds → last.rounds + between ≡ round - 1 →
    found ≡ hart_in (after_rounds last.rounds m) between hart count → found ≡ hart_at rounds m round hart count
asked_there rounds between m last round hart count found some few all e =
    e ∙ ap (λ (r : Running). hart_after (words_of r.code) r.plan.budget (quotas_of r.plan) r.state hart count) (more_rounds last.rounds between m ∙ ap (λ (k : ℕ). after_rounds k m) all)
    ∙ from_before rounds m (after_rounds (round - 1) m) round hart count some few refl
