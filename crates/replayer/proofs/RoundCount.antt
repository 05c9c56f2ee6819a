-- What a hart does in one round of a run.
use Rattle.std.proofs.Common.{◌≡◌, ℕ, zero, suc, ◌+◌, ◌-◌, ◌*◌, ◌%◌, ◌^◌, ◌<◌, ◌≤◌, Bool, true, false, nat_lt, if◌then◌else◌, List, [], ◌∷◌, length, slice_get, slice_index, Option, Some, None, All, inl, inr, refl, sym, ap, subst, ◌∙◌, arith}
use Rattle.std.specs.Prelude.{◌⊎◌}
use Rattle.hart_step.specs.declared.hart.Hart.{Hart}
use Rattle.hart_step.specs.Console.{ConsoleState}
use Rattle.hart_step.specs.Words.{words_of}
use Rattle.hart_step.proofs.Soundness.{counts_done}
use Rattle.round_planner.specs.Quotas.{quotas_of}
use Rattle.round_schedule.specs.Past.{hart_after, last_of, past_of}
use Rattle.round_schedule.proofs.PastEnds.{no_past, past_ends}
use Rattle.machine.specs.Machine.{Running, after_rounds}
use Rattle.machine.specs.Untraced.{IsUntraced, Untraced}
use Rattle.machine.specs.Walks.{HasDone}
use Rattle.machine.proofs.Repeated.{next_round}
use Rattle.machine.proofs.Walked.{none_done}
use Rattle.run_events.specs.Pcs.{hart_at}
use Rattle.replayer.specs.Past.{Begins, IsBefore, IsCountAt}
use Rattle.replayer.specs.Visits.{HasCounted, IsRead}
use Rattle.replayer.proofs.Counted.{harts_after, rounds_after}
use Rattle.run_events.proofs.RoundsAt.{from_before}
use Rattle.replayer.proofs.PastDone.{Past, past_rises}

-- ---- places of a list

abbrev there : Hart → Option Hart
there h = Some h

some_is : (g h : Hart) → there g ≡ there h → g ≡ h
some_is g h e = cc

is_some : (g : Hart) → None ≡ there g → ⊥
is_some g e = absurd cc

pub at_place : (hs : List Hart) (k : ℕ) → k < length hs → (h : Hart) × (slice_get hs k ≡ Some h)
at_place [] k lt = absurd (omega (arith, lt))
at_place (h ∷ hs) zero lt = (h, refl)
at_place (h ∷ hs) (suc k) lt = at_place hs k (omega (arith, lt))

past_all : {A : Type 0} (xs : List A) (k : ℕ) → length xs ≤ k → slice_get xs k ≡ None
past_all [] k le = refl
past_all (x ∷ xs) zero le = absurd (omega (arith, le))
past_all (x ∷ xs) (suc k) le = past_all xs k (omega (arith, le))

last_at : {A : Type 0} (xs : List A) (k : ℕ) → length xs ≡ suc k → last_of xs ≡ slice_get xs k
last_at [] k e = absurd (omega (arith, e))
last_at (x ∷ []) zero e = refl
last_at (x ∷ []) (suc k) e = absurd (omega (arith, e))
last_at (x ∷ y ∷ xs) zero e = absurd (omega (arith, e))
last_at (x ∷ y ∷ xs) (suc k) e = last_at (y ∷ xs) k (omega (arith, e))

low_at : (most : ℕ) (hs : List Hart) (k : ℕ) (h : Hart) → All (λ (g : Hart). g.done ≤ most) hs → slice_get hs k ≡ Some h → h.done ≤ most
low_at most [] k h all e = absurd cc
low_at most (g ∷ hs) zero h all e = subst (λ (x : Hart). x.done ≤ most) (some_is g h e) (all 0 g (omega arith))
low_at most (g ∷ hs) (suc k) h all e = low_at most hs k h (λ j d lt. all (suc j) d (omega (arith, lt))) e

-- ---- a round

-- a hart in the round after n
abbrev pub hart_in : Running → ℕ → ℕ → ℕ → Option Hart
hart_in m n hart count = hart_after (words_of m.code) m.plan.budget (quotas_of m.plan) (after_rounds n m).state hart count

-- the hart before the round and after it, how many instructions it did in it, and what it was after each number of them
pub record OneRound (m : Running) (n hart : ℕ) : Type 0 where
  pub before : Hart
  pub after : Hart
  pub count : ℕ
  pub at_before : slice_get (after_rounds n m).state.harts hart ≡ Some before
  pub at_after : slice_get (after_rounds (n + 1) m).state.harts hart ≡ Some after
  pub sum : after.done ≡ before.done + count
  pub each : (k : ℕ) → k ≤ count → (g : Hart) × (hart_in m n hart k ≡ Some g) × (g.done ≡ before.done + k)
  pub beyond : (k : ℕ) → count < k → hart_in m n hart k ≡ None

abbrev past_in : Running → ℕ → ℕ → List Hart
past_in m n hart = past_of (words_of m.code) m.plan.budget (quotas_of m.plan) (after_rounds n m).state hart

-- so few instructions that no count wraps
no_wrap : (done k n : ℕ) → done ≤ 1001000 * n → n < 2 ^ 32 → k ≤ 1001000 → (done + k) % 2 ^ 64 ≡ done + k
no_wrap done k n low few le = omega (arith, low, few, le)

low_done : (done n : ℕ) → done ≤ 1001000 * n → n < 2 ^ 32 → done < 2 ^ 64
low_done done n low few = omega (arith, low, few)

low_count : (k most quota budget : ℕ) → most ≡ quota + budget → quota ≤ 1000000 → budget ≤ 1000 → k ≤ most → k ≤ 1001000
low_count k most quota budget e q b le = omega (arith, e, q, b, le)

by_past : (m : Running) (n hart most : ℕ) (h : Hart) → slice_get (after_rounds n m).state.harts hart ≡ Some h → h.done ≤ 1001000 * n → n < 2 ^ 32 → ((k : ℕ) → k ≤ most → k ≤ 1001000) →
    Past (λ (g : Hart). g.done) h.done most (past_in m n hart) → OneRound m n hart
by_past m n hart most h at low few most_low p = record {
  before = h;
  after = (p.each p.count (omega arith)).0;
  count = p.count;
  at_before = at;
  at_after = ap (λ (r : Running). slice_get r.state.harts hart) (sym (next_round n m)) ∙ sym (past_ends Hart ConsoleState (words_of m.code) m.plan.budget (quotas_of m.plan) (after_rounds n m).state hart) ∙ last_at (past_in m n hart) p.count p.size ∙ (p.each p.count (omega arith)).1;
  sum = (p.each p.count (omega arith)).2 ∙ no_wrap h.done p.count n low few (most_low p.count p.few);
  each = λ k le. ((p.each k le).0, (p.each k le).1, (p.each k le).2 ∙ no_wrap h.done k n low few (most_low k (omega (arith, le, p.few))));
  beyond = λ k lt. past_all (past_in m n hart) k (omega (arith, p.size, lt));
}

by_hart : (m : Running) (n hart : ℕ) (h : Hart) → Begins m hart → slice_get (after_rounds n m).state.harts hart ≡ Some h → h.done ≤ 1001000 * n → n < 2 ^ 32 → OneRound m n hart
by_hart m n hart h b at low few =
    by_past m n hart (slice_index (quotas_of m.plan (after_rounds n m).state.rounds) hart + m.plan.budget) h at low few
    (λ k le. low_count k (slice_index (quotas_of m.plan (after_rounds n m).state.rounds) hart + m.plan.budget) (slice_index (quotas_of m.plan (after_rounds n m).state.rounds) hart) m.plan.budget refl (b.quotas (after_rounds n m).state.rounds hart) b.budget le)
    (past_rises (words_of m.code) (λ (g : Hart). g.done) (counts_done m.code) m.plan.budget (quotas_of m.plan) (after_rounds n m).state hart h at (low_done h.done n low few))

by_count : (m : Running) (n hart rounds : ℕ) (hs : List Hart) → Begins m hart → hs ≡ (after_rounds n m).state.harts → All (λ (g : Hart). g.done ≤ 1001000 * rounds) hs → rounds ≡ n → n < 2 ^ 32 → hart < length hs → OneRound m n hart
by_count m n hart rounds hs b same counts e few lt =
    let h = at_place hs hart lt in
    by_hart m n hart h.0 b (ap (λ (gs : List Hart). slice_get gs hart) (sym same) ∙ h.1) (subst (λ (k : ℕ). h.0.done ≤ 1001000 * k) e (low_at (1001000 * rounds) hs hart h.0 counts h.1)) few

pub one_round : (m : Running) (n hart : ℕ) (u : Untraced) → Begins m hart → IsUntraced (after_rounds n m) u → n < 2 ^ 32 → OneRound m n hart
one_round m n hart u b i few =
    by_count m n hart (after_rounds n m).state.rounds (after_rounds n m).state.harts b refl i.placed.counts (omega (arith, rounds_after n m, b.rounds)) few (subst (λ (k : ℕ). hart < k) (sym (harts_after n m)) b.there)

-- ---- what is answered of it

pub counted_at : (rounds : ℕ) (m : Running) (round hart n : ℕ) (o : OneRound m (round - 1) hart) → 1 ≤ round → round ≤ rounds → n ≡ o.count → IsCountAt rounds m round hart (Some n)
counted_at rounds m round hart n o some le e =
    let at = λ (k : ℕ). from_before rounds m (after_rounds (round - 1) m) round hart k some le refl in
    let g = o.each n (omega (arith, e)) in
    ((g.0, sym (at n) ∙ g.1), λ k lt. sym (at k) ∙ o.beyond k (omega (arith, e, lt)))

-- no round has a hart of a number that there is not
pub no_hart : (rounds : ℕ) (m : Running) (round hart count : ℕ) → length m.state.harts ≤ hart → hart_at rounds m round hart count ≡ None
no_hart rounds m zero hart count le = refl
no_hart rounds m (suc n) hart count le = by_test (nat_lt n rounds)
  where
    none : hart_in m n hart count ≡ None
    none = ap (λ (xs : List Hart). slice_get xs count) (no_past (words_of m.code) m.plan.budget (quotas_of m.plan) (after_rounds n m).state hart (past_all (after_rounds n m).state.harts hart (omega (arith, le, harts_after n m))))

    by_test : (b : Bool) → (if b then hart_in m n hart count else None) ≡ None
    by_test true = none
    by_test false = refl

pub none_before : (rounds : ℕ) (m : Running) (hart place round count : ℕ) (h : Hart) → hart_at rounds m round hart count ≡ None → IsBefore rounds m hart place round count h → ⊥
none_before rounds m hart place round count h e b = is_some h (sym e ∙ b.here)

-- ---- what two readings of the hart's count say

pub count_is : (rounds : ℕ) (m : Running) (round hart before after : ℕ) (o : OneRound m (round - 1) hart) → 1 ≤ round → round ≤ rounds → before ≡ o.before.done → after ≡ o.after.done → IsCountAt rounds m round hart (Some (after - before))
count_is rounds m round hart before after o some le e f = counted_at rounds m round hart (after - before) o some le (omega (arith, e, f, o.sum))

pub never_less : (m : Running) (n hart before after : ℕ) (o : OneRound m n hart) → before ≡ o.before.done → after ≡ o.after.done → before ≤ after
never_less m n hart before after o e f = omega (arith, e, f, o.sum)

-- a machine after a round reads so many
pub reads_before : (m : Running) (n hart : ℕ) (u : Untraced) (o : OneRound m n hart) (read : ℕ) → IsUntraced (after_rounds n m) u → ((h : Hart) → slice_get u.harts hart ≡ Some h → read ≡ h.done) → read ≡ o.before.done
reads_before m n hart u o read i reads = reads o.before (ap (λ (hs : List Hart). slice_get hs hart) i.harts ∙ o.at_before)

pub reads_after : (m : Running) (n hart : ℕ) (u : Untraced) (o : OneRound m n hart) (read : ℕ) → IsUntraced (after_rounds (n + 1) m) u → ((h : Hart) → slice_get u.harts hart ≡ Some h → read ≡ h.done) → read ≡ o.after.done
reads_after m n hart u o read i reads = reads o.after (ap (λ (hs : List Hart). slice_get hs hart) i.harts ∙ o.at_after)

-- ---- read round after round

pub none_counted : (hart before after : ℕ) (start : Untraced) → ((h : Hart) → slice_get start.harts hart ≡ Some h → after ≡ h.done) → HasCounted hart before after start 0
none_counted hart before after start reads = ((start, none_done start, reads), λ some. absurd (omega (arith, some)))

pub counted_next : (hart before after next : ℕ) (start now : Untraced) (done : ℕ) → HasCounted hart before after start done → HasDone (done + 1) start now →
    ((h : Hart) → slice_get now.harts hart ≡ Some h → next ≡ h.done) → HasCounted hart after next start (done + 1)
counted_next hart before after next start now done x d reads =
    let less : done ≡ done + 1 - 1 = omega arith in
    ((now, d, reads), λ some. subst (IsRead hart after start) less x.0)

-- what was read before a round and after it
pub record Readings (m : Running) (round hart before after : ℕ) : Type 0 where
  pub one : OneRound m (round - 1) hart
  pub first : before ≡ one.before.done
  pub last : after ≡ one.after.done

pub readings : (m : Running) (round hart before after : ℕ) (start : Untraced) → Begins m hart → IsUntraced m start → 1 ≤ round → round < 2 ^ 32 → HasCounted hart before after start round → Readings m round hart before after
readings m round hart before after start b i some few x =
    let y = x.1 some in
    let o = one_round m (round - 1) hart y.0 b (y.1.run m i) (omega (arith, few)) in
    let all : round ≡ round - 1 + 1 = omega (arith, some) in
    record {
      one = o;
      first = reads_before m (round - 1) hart y.0 o before (y.1.run m i) y.2;
      last = reads_after m (round - 1) hart x.0.0 o after (subst (λ (k : ℕ). IsUntraced (after_rounds k m) x.0.0) all (x.0.1.run m i)) x.0.2;
    }

pub all_read : (m : Running) (round hart done : ℕ) (start : Untraced) (before after : ℕ) → Begins m hart → IsUntraced m start → 1 ≤ round → round < 2 ^ 32 → (done ≡ round) ⊎ ⊥ → HasCounted hart before after start done →
    Readings m round hart before after
all_read m round hart done start before after b i some few (inl e) x = readings m round hart before after start b i some few (subst (HasCounted hart before after start) e x)
all_read m round hart done start before after b i some few (inr no_end) x = absurd no_end
