-- The rows of a list of indexes, and how many of them are the same load.
use Rattle.std.proofs.Common.{◌≡◌, ℕ, suc, ◌+◌, ◌<◌, Bool, true, false, if◌then◌else◌, List, [], ◌∷◌, ◌++◌, length, drop, get_or, ap, ◌∙◌, arith}
use Rattle.std.proofs.Math.Seq.{drop-cons}
use Rattle.round_schedule.specs.declared.event.Event.{Event}
use Rattle.byte_sources.specs.Repeats.{repeats}
use Rattle.picture.specs.declared.rows.Row.{Row}
use Rattle.picture.specs.Rows.{index_before, rows_after, times}

-- ---- the rows

-- the rows of the indexes from number k on
abbrev pub rows_at : List Event → List ℕ → ℕ → List Row
rows_at t is k = rows_after t (index_before is k) (drop k is)

-- ---- how many are the same load

pub one_more : (t : List Event) (last : ℕ) (js : List ℕ) (k : ℕ) → k < length js → repeats t last (get_or js k 0) ≡ true →
    times t last (drop k js) ≡ 1 + times t (get_or js k 0) (drop (k + 1) js)
one_more t last js k l h =
    let e : k + 1 ≡ suc k = omega arith in
    let d : drop k js ≡ get_or js k 0 ∷ drop (suc k) js = drop-cons js k 0 l in
    rw (d, e) (ap (λ (b : Bool). if b then 1 + times t (get_or js k 0) (drop (suc k) js) else 1) h)

pub no_more : (t : List Event) (last : ℕ) (js : List ℕ) (k : ℕ) → k < length js → repeats t last (get_or js k 0) ≡ false → times t last (drop k js) ≡ 1
no_more t last js k l h =
    let d : drop k js ≡ get_or js k 0 ∷ drop (suc k) js = drop-cons js k 0 l in
    rw d (ap (λ (b : Bool). if b then 1 + times t (get_or js k 0) (drop (suc k) js) else 1) h)
