-- How a search stands after one more number, and what is told of one that is over.
use Rattle.std.proofs.Common.{◌≡◌, ℕ, ◌+◌, ◌<◌, Bool, false, length, Result, Ok, Err, IfOk, sym, ap, ◌∙◌, arith}
use Rattle.plan_hunt.specs.Endings.{Ended}
use Rattle.plan_hunt.specs.declared.extent.Extent.{Extent}
use Rattle.fence_search.specs.Counting.{IsAnswer, count_all, tried_by, with_trial}
use Rattle.fence_search.specs.Gathered.{plans_of}
use Rattle.fence_search.specs.Searching.{AreSearchedBy, IsSearchBy, StandsSo}
use Rattle.fence_search.specs.declared.searching.Search.{Search}
use Rattle.fence_search.specs.declared.trials.Trials.{Trials}
use Rattle.fence_search.proofs.Counts.{going, one_more, over_so, stands_next}
use Rattle.fence_trials.specs.Well.{AreOrdinaryRuns}
use Rattle.fence_trials.specs.declared.departing.Departing.{Departing}
use Rattle.fence_trials.specs.declared.ordinary.Ordinary.{Ordinary}
use Rattle.fence_trials.specs.declared.trying.Trial.{Trial}

pub stands_after : (comes_to : Departing → ℕ → Ended → Type 0) (answers : Trial → Bool → Type 0) (o : Ordinary) (x : Extent) (was now : Trials) (t : Trial) (b : Bool) → was.done < x.most → was.is_over ≡ false →
    StandsSo comes_to answers o x was → tried_by comes_to o (x.first + was.done) t → IsAnswer answers x.until t b →
    now.counted ≡ with_trial t (x.first + was.done) was.counted → now.done ≡ was.done + 1 → length now.founds.items ≡ now.counted.failing → now.is_over ≡ b → StandsSo comes_to answers o x now
stands_after comes_to answers o x was now t b more on h made answer c d f v = record {
  few = omega (arith, d, more);
  all = ap count_all c ∙ one_more t (x.first + was.done) was.counted ∙ omega (arith, d, h.all);
  found = f;
  stands = rw (v, d) (stands_next b (tried_by comes_to o) answers x was.done was.counted now.counted t answer (going was.is_over (tried_by comes_to o) answers x was.done was.counted on h.stands) made c);
}

pub searched_so : {E : Type 0} (comes_to : Departing → ℕ → Ended → Type 0) (answers : Trial → Bool → Type 0) (o : Ordinary) (x : Extent) (t : Trials) (r : Result Search E) →
    AreOrdinaryRuns comes_to 12 o → AreSearchedBy comes_to answers o x t →
    IfOk r (λ s. plans_of s.weaknesses.items + s.unnamed.plans ≡ t.counted.unnamed.plans + t.counted.failing) → IfOk r (λ s. s.counted ≡ t.counted) → IfOk r (λ s. s.done ≡ t.done) → IfOk r (λ s. s.runs ≡ o) →
    IfOk r (IsSearchBy comes_to answers x)
searched_so comes_to answers o x t (Ok s) runs all lost c d is = record {
  runs = rw is runs;
  numbers = rw (is, c, d) (over_so t.is_over (tried_by comes_to o) answers x t.done t.counted all.so_far.few all.whole all.so_far.stands);
  all = ap count_all c ∙ all.so_far.all ∙ sym d;
  none_lost = rw c lost;
}
searched_so comes_to answers o x t (Err e) runs all lost c d is = tt
