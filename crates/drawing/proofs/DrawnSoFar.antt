-- What is kept of a run for its picture, round after round.
use Rattle.std.proofs.Common.{◌≡◌, ◌⊎◌, ℕ, zero, suc, ◌+◌, ◌-◌, ◌<◌, ◌≤◌, List, Option, Some, None, MatchOption, refl, sym, ap, ◌∙◌, subst, arith, inl, inr, ⊎_elim}
use Rattle.std.specs.Global.{Vec}
use Rattle.round_planner.specs.Quotas.{Planned}
use Rattle.hart_step.specs.declared.hart.Hart.{Hart}
use Rattle.machine.specs.Machine.{Running, after_rounds}
use Rattle.machine.specs.Untraced.{IsUntraced, Untraced}
use Rattle.machine.specs.Walks.{HasDone, HasStopped, StopsWithin}
use Rattle.machine.proofs.Repeated.{more_rounds, no_rounds}
use Rattle.machine.proofs.UntracedRounds.{rounds_pass}
use Rattle.drawing.specs.DrawnRounds.{AreEnds, HasDrawn, HasDrawnAll, HoldsDrawn}
use Rattle.drawing.specs.declared.drawn_rounds.DrawnRounds.{DrawnRounds}

-- ---- before the first round

first_or_later : (before k : ℕ) → k ≡ 0 → (k ≡ before) ⊎ (0 < before)
first_or_later zero k none = inl none
first_or_later (suc before) k none = inr (omega arith)

pub none_drawn : (m : Running) (before last : ℕ) (start : Untraced) (ends : Option (Vec Hart)) → start.rounds ≡ 0 → IsUntraced m start → AreEnds m last 0 ends → HasDrawn m before last start ends 0
none_drawn m before last start ends opened i are_ends = record {
  low = omega (arith, opened);
  is_start = subst (λ (k : ℕ). IsUntraced (after_rounds k m) start) (sym opened) (subst (λ (x : Running). IsUntraced x start) (no_rounds m) i);
  there = first_or_later before start.rounds opened;
  are_ends = are_ends;
}

-- the harts of whoever draws no round
pub ends_at_once : (m : Running) (last : ℕ) (v : Vec Hart) (harts : List Hart) → last ≡ 0 → v.items ≡ harts → m.state.harts ≡ harts → AreEnds m last 0 (Some v)
ends_at_once m last v harts none is same =
    is ∙ sym same ∙ ap (λ (x : Running). x.state.harts) (no_rounds m) ∙ ap (λ (k : ℕ). (after_rounds k m).state.harts) (sym none)

pub none_held : (d : DrawnRounds) (u : Untraced) → u.rounds ≡ 0 → ((m : Running) → IsUntraced m d.start → HasDrawn m d.before d.last d.start d.ends 0) → HoldsDrawn d d u 0
none_held d u opened drawn = record { before = refl; last = refl; opened = opened; drawn = λ m i _. drawn m i }

-- ---- one more round

next_or_later : (a b : ℕ) → a < b → (a + 1 ≡ b) ⊎ (a + 1 < b)
next_or_later zero zero low = absurd (omega (arith, low))
next_or_later zero (suc zero) low = inl (omega arith)
next_or_later zero (suc (suc b)) low = inr (omega arith)
next_or_later (suc a) zero low = absurd (omega (arith, low))
next_or_later (suc a) (suc b) low = ⊎_elim (λ e. inl (omega (arith, e))) (λ more. inr (omega (arith, more))) (next_or_later a b (omega (arith, low)))

-- a round that isn't the one is before it still
still_before : (done at rounds : ℕ) → rounds ≡ done + 1 → (rounds ≡ at → ⊥) → done < at → done + 1 < at
still_before done at rounds is other low = ⊎_elim (λ e. absurd (other (is ∙ e))) (λ more. more) (next_or_later done at low)

abbrev IsStart : Running → ℕ → ℕ → Untraced → Type 0
IsStart m before done start = (start.rounds ≤ before) × IsUntraced (after_rounds start.rounds m) start × ((start.rounds ≡ before) ⊎ (done < before))

start_next : (m : Running) (before done : ℕ) (old new now : Untraced) → now.rounds ≡ done + 1 → IsUntraced (after_rounds (done + 1) m) now →
    ((now.rounds ≡ before) × (new ≡ now)) ⊎ ((now.rounds ≡ before → ⊥) × (new ≡ old)) → IsStart m before done old → IsStart m before (done + 1) new
start_next m before done old new now at i (inl x) h =
    subst (IsStart m before (done + 1)) (sym x.1) (omega (arith, x.0), subst (λ (k : ℕ). IsUntraced (after_rounds k m) now) (sym at) i, inl x.0)
start_next m before done old new now at i (inr y) h =
    subst (IsStart m before (done + 1)) (sym y.1) (h.0, h.1, ⊎_elim (λ e. inl e) (λ low. inr (still_before done before now.rounds at y.0 low)) h.2)

ends_stay : (m : Running) (last done rounds : ℕ) (ends : Option (Vec Hart)) → rounds ≡ done + 1 → (rounds ≡ last → ⊥) → AreEnds m last done ends → AreEnds m last (done + 1) ends
ends_stay m last done rounds None at other low = still_before done last rounds at other low
ends_stay m last done rounds (Some v) at other is = is

ends_now : (m : Running) (last done : ℕ) (now : Untraced) (ends : Option (Vec Hart)) → done + 1 ≡ last → IsUntraced (after_rounds (done + 1) m) now → MatchOption ends ⊥ (λ v. v.items ≡ now.harts) →
    AreEnds m last (done + 1) ends
ends_now m last done now None at i none = absurd none
ends_now m last done now (Some v) at i is = is ∙ i.harts ∙ ap (λ (k : ℕ). (after_rounds k m).state.harts) at

ends_next : (m : Running) (last done : ℕ) (now : Untraced) (olds news : Option (Vec Hart)) → now.rounds ≡ done + 1 → IsUntraced (after_rounds (done + 1) m) now →
    ((now.rounds ≡ last) × MatchOption news ⊥ (λ v. v.items ≡ now.harts)) ⊎ ((now.rounds ≡ last → ⊥) × (news ≡ olds)) → AreEnds m last done olds → AreEnds m last (done + 1) news
ends_next m last done now olds news at i (inl x) h = ends_now m last done now news (sym at ∙ x.0) i x.1
ends_next m last done now olds news at i (inr y) h = subst (AreEnds m last (done + 1)) (sym y.1) (ends_stay m last done now.rounds olds at y.0 h)

pub drawn_next : (m : Running) (before last done : ℕ) (old new now : Untraced) (olds news : Option (Vec Hart)) → now.rounds ≡ done + 1 → IsUntraced (after_rounds (done + 1) m) now →
    ((now.rounds ≡ before) × (new ≡ now)) ⊎ ((now.rounds ≡ before → ⊥) × (new ≡ old)) →
    ((now.rounds ≡ last) × MatchOption news ⊥ (λ v. v.items ≡ now.harts)) ⊎ ((now.rounds ≡ last → ⊥) × (news ≡ olds)) →
    HasDrawn m before last old olds done → HasDrawn m before last new news (done + 1)
drawn_next m before last done old new now olds news at i start ends h =
    let s = start_next m before done old new now at i start (h.low, h.is_start, h.there) in
    record { low = s.0; is_start = s.1; there = s.2; are_ends = ends_next m last done now olds news at i ends h.are_ends }

-- what is kept of the machine after one more round, first as the start and then as the harts at the end
pub noted : (m : Running) (done : ℕ) (a b d : DrawnRounds) (now : Untraced) → b.last ≡ a.last → b.ends ≡ a.ends → d.start ≡ b.start →
    ((now.rounds ≡ a.before) × (b.start ≡ now)) ⊎ ((now.rounds ≡ a.before → ⊥) × (b.start ≡ a.start)) →
    ((now.rounds ≡ b.last) × MatchOption d.ends ⊥ (λ v. v.items ≡ now.harts)) ⊎ ((now.rounds ≡ b.last → ⊥) × (d.ends ≡ b.ends)) →
    now.rounds ≡ done + 1 → IsUntraced (after_rounds (done + 1) m) now → HasDrawn m a.before a.last a.start a.ends done → HasDrawn m a.before a.last d.start d.ends (done + 1)
noted m done a b d now last ends start starts ended at i h =
    let of_last = subst (λ (n : ℕ). ((now.rounds ≡ n) × MatchOption d.ends ⊥ (λ v. v.items ≡ now.harts)) ⊎ ((now.rounds ≡ n → ⊥) × (d.ends ≡ b.ends))) last ended in
    let of_both = subst (λ (x : Option (Vec Hart)). ((now.rounds ≡ a.last) × MatchOption d.ends ⊥ (λ v. v.items ≡ now.harts)) ⊎ ((now.rounds ≡ a.last → ⊥) × (d.ends ≡ x))) ends of_last in
    subst (λ (u : Untraced). HasDrawn m a.before a.last u d.ends (done + 1)) (sym start) (drawn_next m a.before a.last done a.start b.start now a.ends d.ends at i starts of_both h)

-- what was kept of a run of which one more round is done
pub held_next : (first old new : DrawnRounds) (u now : Untraced) (done : ℕ) → HasDone (done + 1) u now → new.before ≡ old.before → new.last ≡ old.last →
    ((m : Running) (k : ℕ) → now.rounds ≡ k + 1 → IsUntraced (after_rounds (k + 1) m) now → HasDrawn m old.before old.last old.start old.ends k → HasDrawn m old.before old.last new.start new.ends (k + 1)) →
    HoldsDrawn first old u done → HoldsDrawn first new u (done + 1)
held_next first old new u now done d before last next h = record {
  before = before ∙ h.before;
  last = last ∙ h.last;
  opened = h.opened;
  drawn = λ m i j.
      let at : now.rounds ≡ done + 1 = d.rounds ∙ ap (λ (n : ℕ). n + (done + 1)) h.opened ∙ omega arith in
      subst (λ (n : ℕ). HasDrawn m n first.last new.start new.ends (done + 1)) h.before
      (subst (λ (n : ℕ). HasDrawn m old.before n new.start new.ends (done + 1)) h.last
      (next m done at (d.run m j)
      (subst (λ (n : ℕ). HasDrawn m n old.last old.start old.ends done) (sym h.before) (subst (λ (n : ℕ). HasDrawn m first.before n old.start old.ends done) (sym h.last) (h.drawn m i j)))));
}

-- ---- after all rounds

-- what was kept of the rounds that were shown
pub all_drawn : (rounds before last : ℕ) (m x : Running) (first d : DrawnRounds) (u : Untraced) (shown : ℕ) → first.before ≡ before → first.last ≡ last →
    IsUntraced m first.start → IsUntraced m u → x ≡ after_rounds rounds m → HoldsDrawn first d u shown → shown ≤ rounds → (shown ≡ rounds) ⊎ StopsWithin shown u → HasDrawnAll rounds before last m x d
all_drawn rounds before last m x first d u shown same_before same_last i j done h most all = record {
  same = h.before ∙ same_before;
  done = done;
  shown = shown;
  most = most;
  drawn = subst (λ (n : ℕ). HasDrawn m n last d.start d.ends shown) same_before (subst (λ (n : ℕ). HasDrawn m first.before n d.start d.ends shown) same_last (h.drawn m i j));
  all = ⊎_elim (λ e. inl e) (λ stops. inr (stops.0, stops.1.run m j, stops.2)) all;
}

-- the same by another name
pub drawn_by : (rounds before last : ℕ) (m x : Running) (a b : DrawnRounds) → HasDrawnAll rounds before last m x a → a ≡ b → HasDrawnAll rounds before last m x b
drawn_by rounds before last m x a b h same = subst (HasDrawnAll rounds before last m x) same h

-- machines of one run have the same harts
pub plan_of : (m x : Running) (u : Untraced) (rounds : ℕ) → IsUntraced (after_rounds u.rounds m) u → x ≡ after_rounds rounds m → u.plan.harts ≡ x.plan.harts
plan_of m x u rounds i done = ap (λ (p : Planned). p.harts) i.plan ∙ sym (ap (λ (y : Running). y.plan.harts) done)

-- the harts of a run stay as they are once none of them runs
stopped_harts : (m : Running) (shown j : ℕ) (u : Untraced) → IsUntraced (after_rounds shown m) u → HasStopped u → shown ≤ j → (after_rounds j m).state.harts ≡ u.harts
stopped_harts m shown j u i stopped few =
    let all : shown + (j - shown) ≡ j = omega (arith, few) in
    let passed = (rounds_pass (j - shown) u (after_rounds shown m) stopped i).0 in
    sym (passed.harts ∙ ap (λ (x : Running). x.state.harts) (more_rounds shown (j - shown) m) ∙ ap (λ (k : ℕ). (after_rounds k m).state.harts) all)

-- after k rounds the harts are those after n, if the ones from the shown ones on do nothing
pub last_harts : (m : Running) (shown k n : ℕ) → shown < k → k ≤ n → (shown ≡ n) ⊎ ((u : Untraced) × IsUntraced (after_rounds shown m) u × HasStopped u) →
    (after_rounds n m).state.harts ≡ (after_rounds k m).state.harts
last_harts m shown k n later few (inl all) = absurd (omega (arith, later, few, all))
last_harts m shown k n later few (inr x) =
    stopped_harts m shown n x.0 x.1 x.2 (omega (arith, later, few)) ∙ sym (stopped_harts m shown k x.0 x.1 x.2 (omega (arith, later)))

pub harts_before : (m : Running) (shown before n at : ℕ) (start : Untraced) (harts ends : List Hart) → at ≡ before → before ≤ n → (start.rounds ≡ before) ⊎ (shown < before) →
    IsUntraced (after_rounds start.rounds m) start → (shown ≡ n) ⊎ ((u : Untraced) × IsUntraced (after_rounds shown m) u × HasStopped u) → ends ≡ (after_rounds n m).state.harts →
    ((start.rounds ≡ at) × (harts ≡ start.harts)) ⊎ ((start.rounds ≡ at → ⊥) × (harts ≡ ends)) → harts ≡ (after_rounds before m).state.harts
harts_before m shown before n at start harts ends same few there i all done (inl x) = x.1 ∙ i.harts ∙ ap (λ (k : ℕ). (after_rounds k m).state.harts) (x.0 ∙ same)
harts_before m shown before n at start harts ends same few (inl here) i all done (inr y) = absurd (y.0 (here ∙ sym same))
harts_before m shown before n at start harts ends same few (inr later) i all done (inr y) = y.1 ∙ done ∙ last_harts m shown before n later few all

pub harts_after : (m : Running) (shown last n : ℕ) (noted : Option (Vec Hart)) (harts ends : List Hart) → last ≤ n → AreEnds m last shown noted →
    (shown ≡ n) ⊎ ((u : Untraced) × IsUntraced (after_rounds shown m) u × HasStopped u) → ends ≡ (after_rounds n m).state.harts →
    MatchOption noted (harts ≡ ends) (λ v. harts ≡ v.items) → harts ≡ (after_rounds last m).state.harts
harts_after m shown last n None harts ends few later all done is = is ∙ done ∙ last_harts m shown last n later few all
harts_after m shown last n (Some v) harts ends few are all done is = is ∙ are
