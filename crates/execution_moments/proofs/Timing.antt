-- Times that are noted, event by event.
use Rattle.std.proofs.Common.{◌≡◌, ℕ, suc, ◌+◌, ◌-◌, ◌<◌, ◌≤◌, max, List, [], ◌∷◌, ◌++◌, length, replicate, slice_index, slice_set, inl, inr, refl, ap, arith, sym, ◌∙◌, add-one}
use Rattle.std.proofs.lemmas.Bool.{cases_eq, cases_lt}
use Rattle.std.proofs.lemmas.List.{get_or-replicate, get_or-set_other, get_or-set_same, get_or_append_left, length-append, length-replicate, length-set}
use Rattle.std.proofs.Math.Seq.{get_or-append_seam}
use Rattle.round_schedule.specs.declared.event.Event.{Event}
use Rattle.round_schedule.specs.Positions.{event}
use Rattle.execution_moments.specs.Times.{AreLatest, AreTimesBy, later_of, latest_load, sooner_of, soonest_operation, time_of}

-- ---- of the first k events where the latest loads stand

pub record LatestSoFar (t : List Event) (pos : ℕ → ℕ) (k : ℕ) (latest found : List ℕ) : Type 0 where
  pub size : length latest ≡ 256
  pub each : (h : ℕ) → h < 256 → slice_index latest h ≡ latest_load t pos h k
  pub count : length found ≡ k
  pub noted : (j : ℕ) → j < k → slice_index found j ≡ latest_load t pos (event t j).hart (suc j)

pub latest_none : (t : List Event) (pos : ℕ → ℕ) → LatestSoFar t pos 0 (replicate 256 0) []
latest_none t pos = record {
  size = length-replicate {A = ℕ} 256 0;
  each = λ h l. get_or-replicate {A = ℕ} 256 h 0 0 l;
  count = refl;
  noted = λ j l. absurd (omega arith);
}

pub latest_next : (t : List Event) (pos : ℕ → ℕ) (k here : ℕ) (latest new found all : List ℕ) → LatestSoFar t pos k latest found → length new ≡ 256 →
    ((h : ℕ) → h < 256 → slice_index new h ≡ later_of h (event t k) (slice_index latest h) (pos k)) → (event t k).hart < 256 → here ≡ slice_index new (event t k).hart →
    all ≡ found ++ here ∷ [] → LatestSoFar t pos (k + 1) new all
latest_next t pos k here latest new found all so_far size each few is more =
    let now : (h : ℕ) → h < 256 → slice_index new h ≡ latest_load t pos h (suc k) = λ h l. each h l ∙ ap (λ (x : ℕ). later_of h (event t k) x (pos k)) (so_far.each h l) in
    record {
      size = size;
      each = λ h l. now h l ∙ ap (λ (j : ℕ). latest_load t pos h j) (sym (add-one k));
      count = ap length more ∙ length-append found (here ∷ []) ∙ ap (λ (n : ℕ). n + 1) so_far.count;
      noted = λ j l. elim (cases_lt j k) [
        | inl m ↦ ap (λ (xs : List ℕ). slice_index xs j) more ∙ get_or_append_left found (here ∷ []) 0 j (omega (arith, m, so_far.count)) ∙ so_far.noted j m
        | inr m ↦
            let at : length found ≡ j = omega (arith, l, m, so_far.count) in
            let same : k ≡ j = omega (arith, l, m) in
            ap (λ (xs : List ℕ). slice_index xs j) more ∙ ap (λ (i : ℕ). slice_index (found ++ here ∷ []) i) (sym at) ∙ get_or-append_seam found here [] 0
            ∙ is ∙ now (event t k).hart few ∙ ap (λ (i : ℕ). latest_load t pos (event t i).hart (suc i)) same
      ];
    }

pub latest_all : (t : List Event) (pos : ℕ → ℕ) (k : ℕ) (latest found : List ℕ) → k ≡ length t → LatestSoFar t pos k latest found → AreLatest t pos found
latest_all t pos k latest found end so_far = record { count = so_far.count ∙ end; each = λ j l. so_far.noted j (omega (arith, l, end)) }

-- ---- of the events from k on where the soonest operations stand; their times are noted

pub record Delayed (t : List Event) (pos : ℕ → ℕ) (end k : ℕ) (soonest times : List ℕ) : Type 0 where
  pub within : k ≤ length t
  pub size : length soonest ≡ 256
  pub each : (h : ℕ) → h < 256 → slice_index soonest h ≡ soonest_operation t pos end h k (length t - k)
  pub count : length times ≡ length t
  pub done : (j : ℕ) → k ≤ j → j < length t → slice_index times j ≡ time_of t pos end j
  pub rest : (j : ℕ) → j < k → slice_index times j ≡ latest_load t pos (event t j).hart (suc j)

pub delayed_none : (t : List Event) (pos : ℕ → ℕ) (end : ℕ) (times : List ℕ) → AreLatest t pos times → Delayed t pos end (length t) (replicate 256 end) times
delayed_none t pos end times latest = record {
  within = omega arith;
  size = length-replicate {A = ℕ} 256 end;
  each = λ h l. get_or-replicate {A = ℕ} 256 h end 0 l ∙ ap (λ (n : ℕ). soonest_operation t pos end h (length t) n) none;
  count = latest.count;
  done = λ j l m. absurd (omega (arith, l, m));
  rest = λ j l. latest.each j l;
}
  where
    none : 0 ≡ length t - length t
    none = omega arith

pub delayed_next : (t : List Event) (pos : ℕ → ℕ) (end k j here : ℕ) (soonest new times now : List ℕ) → k ≡ j + 1 → Delayed t pos end k soonest times → length new ≡ 256 →
    ((h : ℕ) → h < 256 → slice_index new h ≡ sooner_of h (event t j) (slice_index soonest h) (pos j)) → (event t j).hart < 256 → here ≡ slice_index new (event t j).hart →
    now ≡ slice_set times j (max (slice_index times j) here) → Delayed t pos end j new now
delayed_next t pos end k j here soonest new times now next so_far size each few is set =
    let l : j < length t = omega (arith, next, so_far.within) in
    let more : length t - j ≡ suc (length t - (j + 1)) = omega (arith, l) in
    let noted : (h : ℕ) → h < 256 → slice_index new h ≡ soonest_operation t pos end h j (length t - j) = λ h m.
    each h m
    ∙ ap (λ (x : ℕ). sooner_of h (event t j) x (pos j)) (so_far.each h m ∙ ap (λ (i : ℕ). soonest_operation t pos end h i (length t - i)) next)
    ∙ ap (λ (n : ℕ). soonest_operation t pos end h j n) (sym more) in
    record {
      within = omega (arith, l);
      size = size;
      each = noted;
      count = ap length set ∙ length-set times j (max (slice_index times j) here) ∙ so_far.count;
      done = λ i m n. elim (cases_eq i j) [
        | inl same ↦
            ap (λ (xs : List ℕ). slice_index xs i) set ∙ ap (λ (x : ℕ). slice_index (slice_set times j (max (slice_index times j) here)) x) same
            ∙ get_or-set_same times j (max (slice_index times j) here) 0 (omega (arith, l, so_far.count))
            ∙ ap (λ (x : ℕ). max x here) (so_far.rest j (omega (arith, next)))
            ∙ ap (λ (x : ℕ). max (latest_load t pos (event t j).hart (suc j)) x) (is ∙ noted (event t j).hart few)
            ∙ ap (λ (x : ℕ). time_of t pos end x) (sym same)
        | inr other ↦
            ap (λ (xs : List ℕ). slice_index xs i) set ∙ get_or-set_other times j i (max (slice_index times j) here) 0 other ∙ so_far.done i (omega (arith, m, other, next)) n
      ];
      rest = λ i m.
          ap (λ (xs : List ℕ). slice_index xs i) set ∙ get_or-set_other times j i (max (slice_index times j) here) 0 (λ e. omega (arith, e, m))
          ∙ so_far.rest i (omega (arith, m, next));
    }

pub delayed_all : (t : List Event) (pos : ℕ → ℕ) (end k : ℕ) (soonest times : List ℕ) → k ≡ 0 → Delayed t pos end k soonest times → AreTimesBy t pos end times
delayed_all t pos end k soonest times none so_far = record { count = so_far.count; each = λ j l. so_far.done j (omega (arith, none)) l }
