-- The pcs of events of a round, from a machine before it.
use Rattle.std.proofs.Common.{◌≡◌, ℕ, ◌+◌, ◌-◌, ◌<◌, ◌≤◌, ◌==◌, ◌⊎◌, true, List, All, length, length-drop, drop, take, get_or, map, OnOk, Result, Ok, Err, None, option_map, inl, inr, sym, ap, subst, ◌∙◌, arith}
use Rattle.std.specs.List.{prefix_len}
use Rattle.std.proofs.lemmas.Bool.Decides.{nat_tests}
use Rattle.std.proofs.lemmas.List.Elements.{All-drop, All-get_or, All-weaker}
use Rattle.round_schedule.specs.declared.event.Event.{Event}
use Rattle.round_schedule.specs.Accesses.{place_of}
use Rattle.hart_step.specs.declared.hart.Hart.{Hart}
use Rattle.machine.specs.Machine.{Running, after_rounds}
use Rattle.machine.specs.Untraced.{IsAfter, IsUntraced, Untraced}
use Rattle.machine.proofs.Repeated.{more_rounds}
use Rattle.run_events.specs.Pcs.{IsAfterRounds, done_before, done_by, hart_at, pc_before, pc_in_next}
use Rattle.run_events.proofs.RoundsAt.{after_last, first_is_1, from_before}
use Rattle.run_events.proofs.StretchByStretch.{front_passes, same_on}

-- ---- a machine of a run

pub at_same : (m : Running) (u v : Untraced) → v ≡ u → IsUntraced (after_rounds u.rounds m) u → IsUntraced (after_rounds v.rounds m) v
at_same m u v same i = subst (λ (x : Untraced). IsUntraced (after_rounds x.rounds m) x) (sym same) i

pub later_at : (u v : Untraced) (es : List Event) (i : ℕ) (d : Event) → u ≡ v → i < length es → All (IsAfterRounds v.rounds) es → u.rounds ≤ (get_or es i d).round - 1
later_at u v es i d same lt later =
    let after : IsAfterRounds v.rounds (get_or es i d) = All-get_or (IsAfterRounds v.rounds) es i d lt later in
    subst (λ (n : ℕ). n ≤ (get_or es i d).round - 1) (sym (ap (λ (x : Untraced). x.rounds) same)) after

pub after_more : (n k : ℕ) (m : Running) (u v : Untraced) → IsUntraced (after_rounds n m) u → IsAfter k u v → IsUntraced (after_rounds (n + k) m) v
after_more n k m u v i a = subst (λ (x : Running). IsUntraced x v) (more_rounds n k m) (a (after_rounds n m) i)

pub on_the_way : (n k : ℕ) (m : Running) (u v w : Untraced) → IsUntraced (after_rounds n m) u → IsAfter k u v → v.rounds ≡ n + k → w ≡ v → IsUntraced (after_rounds w.rounds m) w
on_the_way n k m u v w i a e same =
    let there : IsUntraced (after_rounds v.rounds m) v = subst (λ (j : ℕ). IsUntraced (after_rounds j m) v) (sym e) (after_more n k m u v i a) in
    subst (λ (x : Untraced). IsUntraced (after_rounds x.rounds m) x) (sym same) there

-- ---- the pc

no_round : (rounds : ℕ) (m : Running) (e : Event) → e.round ≡ 0 → None ≡ pc_before rounds m e
no_round rounds m e none = ap (option_map (λ (h : Hart). h.pc)) (first_is_1 rounds m e.round e.hart (place_of e.access - done_before m e.round e.hart) none)

past_the_last : (rounds : ℕ) (m : Running) (e : Event) → rounds < e.round → None ≡ pc_before rounds m e
past_the_last rounds m e l = ap (option_map (λ (h : Hart). h.pc)) (after_last rounds m e.round e.hart (place_of e.access - done_before m e.round e.hart) l)

-- of an event of a round that there is, from the machine before it
next_is : (rounds : ℕ) (m x : Running) (e : Event) → 1 ≤ e.round → e.round ≤ rounds → x ≡ after_rounds (e.round - 1) m → pc_in_next x e ≡ pc_before rounds m e
next_is rounds m x e some le is =
    ap (option_map (λ (h : Hart). h.pc))
    (from_before rounds m x e.round e.hart (place_of e.access - done_by x.state.harts e.hart) some le is
    ∙ ap (λ (y : Running). hart_at rounds m e.round e.hart (place_of e.access - done_by y.state.harts e.hart)) is)

abbrev pub IsOfRound : ℕ → Event → Type 0
IsOfRound round e = (e.round == round) ≡ true

pub all_next : (rounds round : ℕ) (m x : Running) (es : List Event) → 1 ≤ round → round ≤ rounds → x ≡ after_rounds (round - 1) m → All (IsOfRound round) es → map (pc_in_next x) es ≡ map (pc_before rounds m) es
all_next rounds round m x es some le is all =
    same_on (pc_in_next x) (pc_before rounds m) es
    (All-weaker (IsOfRound round) (λ e. pc_in_next x e ≡ pc_before rounds m e)
    (λ e t. let same : e.round ≡ round = grind (arith, nat_tests, t) in
    next_is rounds m x e (omega (arith, some, same)) (omega (arith, le, same)) (is ∙ ap (λ (n : ℕ). after_rounds (n - 1) m) (sym same))) es all)

pub all_none : (rounds round : ℕ) (m : Running) (es : List Event) → (round ≡ 0) ⊎ (rounds < round) → All (IsOfRound round) es → map (λ _. None) es ≡ map (pc_before rounds m) es
all_none rounds round m es (inl none) all =
    same_on (λ _. None) (pc_before rounds m) es
    (All-weaker (IsOfRound round) (λ e. None ≡ pc_before rounds m e) (λ e t. let same : e.round ≡ round = grind (arith, nat_tests, t) in no_round rounds m e (same ∙ none)) es all)
all_none rounds round m es (inr past) all =
    same_on (λ _. None) (pc_before rounds m) es
    (All-weaker (IsOfRound round) (λ e. None ≡ pc_before rounds m e) (λ e t. let same : e.round ≡ round = grind (arith, nat_tests, t) in past_the_last rounds m e (omega (arith, past, same))) es all)

pub front_of_round : (round n : ℕ) (es : List Event) → n ≡ prefix_len (λ e. e.round == round) es → All (IsOfRound round) (take n es)
front_of_round round n es e = subst (λ (k : ℕ). All (IsOfRound round) (take k es)) (sym e) (front_passes (λ x. x.round == round) es)

-- ---- what is left of the events

pub later_in : (u v : Untraced) (es left : List Event) (k : ℕ) (d : Event) → u ≡ v → left ≡ drop k es → k < length es → All (IsAfterRounds v.rounds) es → u.rounds ≤ (get_or left 0 d).round - 1
later_in u v es left k d same e lt later =
    let rest : All (IsAfterRounds v.rounds) left = subst (All (IsAfterRounds v.rounds)) (sym e) (All-drop (IsAfterRounds v.rounds) k es later) in
    later_at u v left 0 d same (omega (arith, lt, ap length e, length-drop k es)) rest

-- ---- of a call that succeeds

pub on_ok_any : {A E : Type 0} (r : Result A E) (P : Type 0) → P → OnOk r P
on_ok_any (Ok x) P p = p
on_ok_any (Err e) P p = tt

pub on_ok_more : {A E : Type 0} (r : Result A E) (P Q : Type 0) → (P → Q) → OnOk r P → OnOk r Q
on_ok_more (Ok x) P Q f p = f p
on_ok_more (Err e) P Q f p = tt
