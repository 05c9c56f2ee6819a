-- What a hart saw before an instruction of its run, by how many it had done when the round began.
use Rattle.std.proofs.Common.{◌≡◌, ◌∙◌, ◌+◌, ◌-◌, ◌*◌, ◌%◌, ◌^◌, ◌<◌, ◌≤◌, [], ◌∷◌, ℕ, All, Bool, List, None, Ok, Option, Some, ap, arith, inl, inr, false, if◌then◌else◌, length, map, nat_lt, option_map, refl, slice_get, slice_index, suc, subst, sym, true, zero}
use Rattle.std.proofs.lemmas.Bool.{cases_lt}
use Rattle.std.proofs.lemmas.List.Elements.{All-cons}
use Rattle.elf_loader.specs.Image.{Loaded}
use Rattle.run_events.proofs.RoundsAt.{after_last, from_before}
use Rattle.run_events.specs.Pcs.{hart_at}
use Rattle.hart_step.proofs.Soundness.{counts_done}
use Rattle.hart_step.specs.Console.{ConsoleState}
use Rattle.hart_step.specs.Words.{words_of}
use Rattle.hart_step.specs.declared.hart.Hart.{Hart}
use Rattle.machine.proofs.Repeated.{next_round, no_rounds}
use Rattle.guest_rounds.proofs.TraceHolds.{placed_first, placed_more}
use Rattle.machine.specs.Machine.{Running, after_rounds, opening}
use Rattle.round_planner.specs.Settings.{image_of}
use Rattle.moments.proofs.Past.{harts_in, sights_past}
use Rattle.moments.specs.Sights.{Sight, sight_after, sights_of}
use Rattle.past_commands.specs.Answers.{IsSightBefore}
use Rattle.past_commands.proofs.Refusals.{are_workers}
use Rattle.recording.specs.Recorded.{Recorded}
use Rattle.replayer.proofs.Begun.{begins, harts_of, one_plan}
use Rattle.replayer.proofs.Counted.{harts_after}
use Rattle.replayer.proofs.PastDone.{Past, past_rises}
use Rattle.replayer.proofs.RoundCount.{at_place, no_hart}
use Rattle.replayer.specs.Past.{Begins, IsBefore, IsStateBefore, sight_at}
use Rattle.replayer.specs.Refusals.{RefusedInOrder}
use Rattle.replayer.specs.Replayed.{IsPlanFor, format_of, start_of}
use Rattle.round_planner.specs.Quotas.{Planned, quotas_of}
use Rattle.round_schedule.proofs.Rising.{places_low}
use Rattle.round_schedule.specs.Past.{hart_after, past_of}
use Rattle.round_schedule.specs.Places.{Placed}

-- ---- a hart's sight is the hart

hart_there : (xs : List (Sight Hart)) (count : ℕ) → slice_get (harts_in xs) count ≡ option_map (λ (s : Sight Hart). s.hart) (slice_get xs count)
hart_there [] count = refl
hart_there (x ∷ xs) zero = refl
hart_there (x ∷ xs) (suc count) = hart_there xs count

pub hart_of_sight : (rounds : ℕ) (m : Running) (round hart count : ℕ) → hart_at rounds m round hart count ≡ option_map (λ (s : Sight Hart). s.hart) (sight_at rounds m round hart count)
hart_of_sight rounds m zero hart count = refl
hart_of_sight rounds m (suc n) hart count = by_test (nat_lt n rounds)
  where
    here : hart_after (words_of m.code) m.plan.budget (quotas_of m.plan) (after_rounds n m).state hart count
        ≡ option_map (λ (s : Sight Hart). s.hart) (sight_after (words_of m.code) m.plan.budget (quotas_of m.plan) (after_rounds n m).state hart count)
    here =
        ap (λ (hs : List Hart). slice_get hs count) (sym (sights_past Hart ConsoleState (words_of m.code) m.plan.budget (quotas_of m.plan) (after_rounds n m).state hart))
        ∙ hart_there (sights_of (words_of m.code) m.plan.budget (quotas_of m.plan) (after_rounds n m).state hart) count

    by_test : (b : Bool) → (if b then hart_after (words_of m.code) m.plan.budget (quotas_of m.plan) (after_rounds n m).state hart count else None)
        ≡ option_map (λ (s : Sight Hart). s.hart) (if b then sight_after (words_of m.code) m.plan.budget (quotas_of m.plan) (after_rounds n m).state hart count else None)
    by_test true = here
    by_test false = refl

some_is : {X : Type 0} (x y : X) → Some x ≡ Some y → x ≡ y
some_is x y e = cc

not_none : {X : Type 0} (x : X) → None ≡ Some x → ⊥
not_none x e = absurd cc

-- ---- counts of instructions don't wrap

low_all : (xs : List ℕ) → ((i : ℕ) → slice_index xs i ≤ 1000000) → All (λ q. q ≤ 1000000) xs
low_all [] h = λ k d lt. absurd (omega (arith, lt))
low_all (x ∷ xs) h = All-cons (λ q. q ≤ 1000000) x xs (h 0) (low_all xs (λ i. h (suc i)))

low_at : (most : ℕ) (hs : List Hart) (k : ℕ) (h : Hart) → All (λ (g : Hart). g.done ≤ most) hs → slice_get hs k ≡ Some h → h.done ≤ most
low_at most [] k h all e = absurd cc
low_at most (g ∷ hs) zero h all e = subst (λ (x : Hart). x.done ≤ most) (some_is g h e) (all 0 g (omega arith))
low_at most (g ∷ hs) (suc k) h all e = low_at most hs k h (λ j d lt. all (suc j) d (omega (arith, lt))) e

placed_after : (image : Loaded) (input : List ℕ) (plan : Planned) → ((n i : ℕ) → slice_index (quotas_of plan n) i ≤ 1000000) → plan.budget ≤ 1000 → (n : ℕ) → n < 2 ^ 32 →
    Placed (λ (h : Hart). h.done) (1001000 * n) (after_rounds n (opening image input plan)).state.harts (after_rounds n (opening image input plan)).state.trace
placed_after image input plan low few zero lt =
    subst (λ (r : Running). Placed (λ (h : Hart). h.done) 0 r.state.harts r.state.trace) (no_rounds (opening image input plan)) (placed_first image.entry plan.harts 0 plan.harts)
placed_after image input plan low few (suc n) lt =
    let m : Running = opening image input plan in
    let last : ℕ = 1001000 * n in
    let ih = placed_after image input plan low few n (omega (arith, lt)) in
    let next = places_low (words_of m.code) (λ (h : Hart). h.done) (counts_done m.code) last 1000000 plan.budget (quotas_of plan) (after_rounds n m).state
    (λ k. low_all (quotas_of plan k) (low k)) (omega (arith, few, lt)) ih in
    let more : n + 1 ≡ suc n = omega arith in
    subst (λ (r : Running). Placed (λ (h : Hart). h.done) (1001000 * suc n) r.state.harts r.state.trace) (next_round n m ∙ ap (λ (k : ℕ). after_rounds k m) more)
    (placed_more (last + 1000000 + plan.budget) (1001000 * suc n) _ _ (omega (arith, few)) next)

-- ---- a round

-- a hart before a round that comes after n others, and what it was after each number of instructions in it
record HasPast (m : Running) (n hart : ℕ) : Type 0 where
  began : Hart
  low : began.done ≤ 1001000 * n
  most : ℕ
  few : most ≤ 1001000
  past : Past (λ (h : Hart). h.done) began.done most (past_of (words_of m.code) m.plan.budget (quotas_of m.plan) (after_rounds n m).state hart)

has_past : (image : Loaded) (input : List ℕ) (plan : Planned) (n hart : ℕ) → Begins (opening image input plan) hart → n < 2 ^ 32 → HasPast (opening image input plan) n hart
has_past image input plan n hart b lt =
    let m : Running = opening image input plan in
    let there = at_place (after_rounds n m).state.harts hart (subst (λ (k : ℕ). hart < k) (sym (harts_after n m)) b.there) in
    let low = low_at (1001000 * n) (after_rounds n m).state.harts hart there.0 (placed_after image input plan b.quotas b.budget n lt).counts there.1 in
    record {
      began = there.0;
      low = low;
      most = slice_index (quotas_of m.plan (after_rounds n m).state.rounds) hart + m.plan.budget;
      few = omega (arith, b.quotas (after_rounds n m).state.rounds hart, b.budget);
      past = past_rises (words_of m.code) (λ (h : Hart). h.done) (counts_done m.code) m.plan.budget (quotas_of m.plan) (after_rounds n m).state hart there.0 there.1 (omega (arith, low, lt));
    }

-- how many instructions a hart had done when the round began, and how many more after so many of the round
counts_on : (image : Loaded) (input : List ℕ) (plan : Planned) (n hart count : ℕ) (first h : Hart) → Begins (opening image input plan) hart → n < 2 ^ 32 →
    slice_get (past_of (words_of image.code) plan.budget (quotas_of plan) (after_rounds n (opening image input plan)).state hart) 0 ≡ Some first →
    slice_get (past_of (words_of image.code) plan.budget (quotas_of plan) (after_rounds n (opening image input plan)).state hart) count ≡ Some h → h.done ≡ first.done + count
counts_on image input plan n hart count first h b lt at_first at_count =
    let p = has_past image input plan n hart b lt in
    let xs : List Hart = past_of (words_of image.code) plan.budget (quotas_of plan) (after_rounds n (opening image input plan)).state hart in
    let within : count < length xs = within_of xs count h at_count in
    let le : count ≤ p.past.count = omega (arith, within, p.past.size) in
    let zeroth = p.past.each 0 (omega arith) in
    let here = p.past.each count le in
    let a : first.done ≡ zeroth.0.done = ap (λ (g : Hart). g.done) (some_is first zeroth.0 (sym at_first ∙ zeroth.1)) in
    let c : h.done ≡ here.0.done = ap (λ (g : Hart). g.done) (some_is h here.0 (sym at_count ∙ here.1)) in
    added p.began.done count n first.done h.done zeroth.0.done here.0.done p.low (omega (arith, le, p.past.few, p.few)) lt a c zeroth.2 here.2
  where
    within_of : (xs : List Hart) (k : ℕ) (g : Hart) → slice_get xs k ≡ Some g → k < length xs
    within_of [] k g e = absurd cc
    within_of (x ∷ xs) zero g e = omega arith
    within_of (x ∷ xs) (suc k) g e = omega (arith, within_of xs k g e)

    added : (began k n first here zeroth kth : ℕ) → began ≤ 1001000 * n → k ≤ 1001000 → n < 2 ^ 32 → first ≡ zeroth → here ≡ kth → zeroth ≡ (began + 0) % 2 ^ 64 → kth ≡ (began + k) % 2 ^ 64 → here ≡ first + k
    added began k n first here zeroth kth low few lt a c z e = omega (arith, low, few, lt, a, c, z, e)

-- ---- the answer

module _ (r : Recorded) (plan : Planned) (hart place n count : ℕ) (h : Hart) (b : Begins (start_of r plan) hart) (few : r.rounds < 2 ^ 32) (is : IsBefore r.rounds (start_of r plan) hart place (suc n) count h) where
  abbrev m : Running
  m = start_of r plan

  abbrev image : Loaded
  image = image_of (format_of r.format) r.image r.pages

  there : n < r.rounds
  there = elim (cases_lt n r.rounds) [
    | inl lt ↦ lt
    | inr le ↦ absurd (not_none h (after_last r.rounds m (suc n) hart count (omega (arith, le)) ∙ is.here))
  ]

  low : n < 2 ^ 32
  low = omega (arith, there, few)

  past_is : (k : ℕ) → hart_after (words_of image.code) plan.budget (quotas_of plan) (after_rounds n m).state hart k ≡ hart_at r.rounds m (suc n) hart k
  past_is k = let less : n ≡ suc n - 1 = omega arith in from_before r.rounds m (after_rounds n m) (suc n) hart k (omega arith) (omega (arith, there)) (ap (λ (j : ℕ). after_rounds j m) less)

  -- the hart saw something when the round began
  has_start : sight_at r.rounds m (suc n) hart 0 ≡ None → ⊥
  has_start none =
      let p = has_past image r.input plan n hart b low in
      let zeroth = p.past.each 0 (omega arith) in
      not_none zeroth.0 (sym (ap (option_map (λ (s : Sight Hart). s.hart)) none) ∙ sym (hart_of_sight r.rounds m (suc n) hart 0) ∙ sym (past_is 0) ∙ zeroth.1)

  count_is : (start : Sight Hart) → sight_at r.rounds m (suc n) hart 0 ≡ Some start → place - start.hart.done ≡ count
  count_is start first =
      let e = counts_on image r.input plan n hart count start.hart h b low
      (past_is 0 ∙ hart_of_sight r.rounds m (suc n) hart 0 ∙ ap (option_map (λ (s : Sight Hart). s.hart)) first) (past_is count ∙ is.here) in
      omega (arith, e, is.done)

  -- what was found at that count
  found_is : (found : Option (Sight Hart)) → found ≡ sight_at r.rounds m (suc n) hart count → option_map (λ (s : Sight Hart). s.hart) found ≡ Some h
  found_is found e = ap (option_map (λ (s : Sight Hart). s.hart)) e ∙ sym (hart_of_sight r.rounds m (suc n) hart count) ∙ is.here

  is_there : (s : Sight Hart) → Some s ≡ sight_at r.rounds m (suc n) hart count → IsSightBefore r.rounds m hart place (Some (suc n, s))
  is_there s e =
      let same : s.hart ≡ h = some_is s.hart h (found_is (Some s) e) in
      (count, sym e, ap (λ (g : Hart). g.done) same ∙ is.done, is.goes_on)

  is_lost : None ≡ sight_at r.rounds m (suc n) hart count → ⊥
  is_lost e = not_none h (found_is None e)

-- the machine of an accepted recording begins with this hart, if it has it in a round
pub begun : {X : Type 0} (v : X) (workers : ℕ) (r : Recorded) (plan : Planned) (hart round count : ℕ) (h : Hart) → IsPlanFor r plan → r.budget ≤ 1000 →
    hart_at r.rounds (start_of r plan) round hart count ≡ Some h → RefusedInOrder {X = X} workers r (Ok v) → Begins (start_of r plan) hart
begun v workers r plan hart round count h is few at o =
    let good = are_workers workers r v o in
    begins v r plan hart is (elim (cases_lt hart r.harts) [
      | inl lt ↦ lt
      | inr le ↦ absurd (not_none h (sym (no_hart r.rounds (start_of r plan) round hart count (omega (arith, le, harts_of r plan is))) ∙ at))
    ]) few (λ cause least. o.image cause good least) (λ cause has least. o.plan cause good has least)

-- the first hart of a round by another reading of the plan
same_sight : (r : Recorded) (plan other : Planned) (round hart count : ℕ) (found : Option (Sight Hart)) → IsPlanFor r plan → IsPlanFor r other →
    found ≡ sight_at r.rounds (start_of r other) round hart count → found ≡ sight_at r.rounds (start_of r plan) round hart count
same_sight r plan other round hart count found is also e = e ∙ ap (λ (p : Planned). sight_at r.rounds (start_of r p) round hart count) (one_plan r other plan also is)

-- what the three questions found
pub record Asked (workers : ℕ) (r : Recorded) (plan : Planned) (hart place round : ℕ) (h : Hart) : Type 0 where
  pub planned : IsPlanFor r plan
  pub before : IsStateBefore r.rounds (start_of r plan) hart place (Some (round, h))
  pub begins : Begins (start_of r plan) hart
  pub few : r.rounds < 2 ^ 32

pub no_start : (workers : ℕ) (r : Recorded) (plan other : Planned) (hart place round : ℕ) (h : Hart) → Asked workers r plan hart place round h → IsPlanFor r other →
    None ≡ sight_at r.rounds (start_of r other) round hart 0 → ⊥
no_start workers r plan other hart place zero h a also e = not_none h a.before.1.here
no_start workers r plan other hart place (suc n) h a also e =
    has_start r plan hart place n a.before.0 h a.begins a.few a.before.1 (sym (same_sight r plan other (suc n) hart 0 None a.planned also e))

pub sight_found : (workers : ℕ) (r : Recorded) (plan other third : Planned) (hart place round count : ℕ) (h : Hart) (start s : Sight Hart) → Asked workers r plan hart place round h → IsPlanFor r other → IsPlanFor r third →
    Some start ≡ sight_at r.rounds (start_of r other) round hart 0 → count ≡ place - start.hart.done → Some s ≡ sight_at r.rounds (start_of r third) round hart count →
    IsSightBefore r.rounds (start_of r plan) hart place (Some (round, s))
sight_found workers r plan other third hart place zero count h start s a also too first c e = absurd (not_none h a.before.1.here)
sight_found workers r plan other third hart place (suc n) count h start s a also too first c e =
    let same = c ∙ count_is r plan hart place n a.before.0 h a.begins a.few a.before.1 start (sym (same_sight r plan other (suc n) hart 0 (Some start) a.planned also first)) in
    is_there r plan hart place n a.before.0 h a.begins a.few a.before.1 s
    (subst (λ (k : ℕ). Some s ≡ sight_at r.rounds (start_of r plan) (suc n) hart k) same (same_sight r plan third (suc n) hart count (Some s) a.planned too e))

pub no_sight : (workers : ℕ) (r : Recorded) (plan other third : Planned) (hart place round count : ℕ) (h : Hart) (start : Sight Hart) → Asked workers r plan hart place round h → IsPlanFor r other → IsPlanFor r third →
    Some start ≡ sight_at r.rounds (start_of r other) round hart 0 → count ≡ place - start.hart.done → None ≡ sight_at r.rounds (start_of r third) round hart count → ⊥
no_sight workers r plan other third hart place zero count h start a also too first c e = not_none h a.before.1.here
no_sight workers r plan other third hart place (suc n) count h start a also too first c e =
    let same = c ∙ count_is r plan hart place n a.before.0 h a.begins a.few a.before.1 start (sym (same_sight r plan other (suc n) hart 0 (Some start) a.planned also first)) in
    is_lost r plan hart place n a.before.0 h a.begins a.few a.before.1
    (subst (λ (k : ℕ). None ≡ sight_at r.rounds (start_of r plan) (suc n) hart k) same (same_sight r plan third (suc n) hart count None a.planned too e))
