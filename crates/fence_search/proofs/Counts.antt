-- Numbers that are counted one after the other.
use Rattle.std.proofs.Common.{◌≡◌, ℕ, suc, ◌+◌, ◌≤◌, inl, inr, Bool, true, false, refl, subst, arith}
use Rattle.plan_hunt.specs.declared.extent.Extent.{Extent}
use Rattle.fence_search.specs.Counting.{AreCounted, AreGoneThrough, AreSearched, GoesOn, IsAnswer, Stands, count_all, with_trial}
use Rattle.fence_search.specs.declared.counting.Counted.{Counted}
use Rattle.fence_trials.specs.declared.trying.Trial.{Trial}
use Rattle.fence_trials.specs.declared.trying.Trial.TheVariants.{Well, Ordinary, Running, Unnamed, Fails, Unconfirmed}

-- each number is counted once
pub one_more : (t : Trial) (n : ℕ) (c : Counted) → count_all (with_trial t n c) ≡ count_all c + 1
one_more Well n c = omega arith
one_more Ordinary n c = omega arith
one_more Unnamed n c = omega arith
one_more Running n c = omega arith
one_more (Fails found) n c = omega arith
one_more Unconfirmed n c = omega arith

next_counted : (P : ℕ → Trial → Type 0) (first n : ℕ) (c d : Counted) (t : Trial) → AreCounted P first n c → P (first + n) t → d ≡ with_trial t (first + n) c → AreCounted P first (n + 1) d
next_counted P first n c d t gone p is = subst (λ (m : ℕ). AreCounted P first m d) same (c, t, gone, p, is)
  where
    same : suc n ≡ n + 1
    same = omega arith

-- ---- a search after one more number

pub stands_next : (b : Bool) (tried : ℕ → Trial → Type 0) (answers : Trial → Bool → Type 0) (x : Extent) (n : ℕ) (c d : Counted) (t : Trial) → IsAnswer answers x.until t b →
    AreGoneThrough tried answers x n c → tried (x.first + n) t → d ≡ with_trial t (x.first + n) c → Stands b tried answers x (n + 1) d
stands_next true tried answers x n c d t answer gone made is =
    inl (record { before = n; count = refl; was = c; gone = gone; last = t; made = made; found = answer; now = is })
stands_next false tried answers x n c d t answer gone made is = next_counted (λ i u. tried i u × GoesOn answers x.until u) x.first n c d t gone (made, answer) is

pub going : (b : Bool) (tried : ℕ → Trial → Type 0) (answers : Trial → Bool → Type 0) (x : Extent) (n : ℕ) (c : Counted) → b ≡ false → Stands b tried answers x n c →
    AreGoneThrough tried answers x n c
going false tried answers x n c e h = h
going true tried answers x n c e h = absurd cc

-- ---- its end

pub out_of_time : (tried : ℕ → Trial → Type 0) (answers : Trial → Bool → Type 0) (x : Extent) (n : ℕ) (c : Counted) → (x.is_timed ≡ true) × (1 ≤ n) →
    AreGoneThrough tried answers x n c → Stands true tried answers x n c
out_of_time tried answers x n c h gone = inr (record { timed = h.0; some = h.1; gone = gone })

pub over_so : (b : Bool) (tried : ℕ → Trial → Type 0) (answers : Trial → Bool → Type 0) (x : Extent) (n : ℕ) (c : Counted) → n ≤ x.most → (b ≡ false → n ≡ x.most) →
    Stands b tried answers x n c → AreSearched tried answers x n c
over_so true tried answers x n c few all (inl h) = record { few = few; over = inl h }
over_so true tried answers x n c few all (inr h) = record { few = few; over = inr (inl h) }
over_so false tried answers x n c few all h = record { few = few; over = inr (inr (all refl, h)) }
