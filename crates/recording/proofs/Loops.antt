-- Reading fields one after the other, as a loop does.
use Rattle.std.proofs.Common.{◌≡◌, ℕ, suc, ◌-◌, ◌+◌, ◌≤◌, ◌<◌, List, [], ◌∷◌, ◌++◌, map, Result, Ok, Err, refl, sym, ap, ◌∙◌, append_assoc, arith}
use Rattle.std.proofs.lemmas.List.{append-nil, map-append}
use Rattle.recording.specs.declared.cause.Cause.{Cause}
use Rattle.recording.specs.declared.cause.ReadError.{ReadError}
use Rattle.recording.specs.declared.cause.ReadError.TheVariants as errors
use Rattle.recording.specs.Fields.{Field, ◌>>=◌, taken_each}
use Rattle.recording.specs.Views.{Fails}

-- what was read before, and what is still read
abbrev pub with_front : {A : Type 0} → List A → Result (List A × List ℕ) Cause → Result (List A × List ℕ) Cause
with_front front read = read >>= λ x. Ok (front ++ x.0, x.1)

regroup : {A : Type 0} (front : List A) (a : A) (read : Result (List A × List ℕ) Cause) → with_front front (read >>= λ x. Ok (a ∷ x.0, x.1)) ≡ with_front (front ++ a ∷ []) read
regroup {A} front a (Ok x) = ap (λ (ns : List A). Ok (ns, x.1)) (simp append_assoc)
regroup front a (Err f) = refl

goes : {A : Type 0} (f : ℕ → Field A) (front : List A) (count k i : ℕ) (bs : List ℕ) (a : A) (after : List ℕ) (total : Result (List A × List ℕ) Cause) → k < count → (f i).taken bs ≡ Ok (a, after)
    → with_front front (taken_each (count - k) i f bs) ≡ total → with_front (front ++ a ∷ []) (taken_each (count - (k + 1)) (suc i) f after) ≡ total
unfolding taken_each
goes f front count k i bs a after total lt h so_far =
    let e : count - k ≡ suc (count - (k + 1)) = omega arith in
    let one : with_front front (taken_each (count - k) i f bs) ≡ with_front (front ++ a ∷ []) (taken_each (count - (k + 1)) (suc i) f after) = rw (e, h) (regroup front a (taken_each (count - (k + 1)) (suc i) f after)) in
    sym one ∙ so_far

-- over what is seen of the items
pub goes_on : {X A : Type 0} (f : ℕ → Field A) (contents : X → A) (items : List X) (count k i j : ℕ) (bs : List ℕ) (x : X) (after : List ℕ) (total : Result (List A × List ℕ) Cause) → k < count → j ≡ i + 1 → (f i).taken bs ≡ Ok (contents x, after)
    → with_front (map contents items) (taken_each (count - k) i f bs) ≡ total → with_front (map contents (items ++ x ∷ [])) (taken_each (count - (k + 1)) j f after) ≡ total
goes_on f contents items count k i j bs x after total lt next h so_far = let e : j ≡ suc i = omega (arith, next) in rw (map-append contents items (x ∷ []), e) (goes f (map contents items) count k i bs (contents x) after total lt h so_far)

pub ends : {A : Type 0} (f : ℕ → Field A) (e : ReadError) (front : List A) (count k i : ℕ) (bs : List ℕ) (total : Result (List A × List ℕ) Cause) → k < count → Fails e ((f i).taken bs)
    → with_front front (taken_each (count - k) i f bs) ≡ total → Fails e total
unfolding taken_each
ends f errors.OutOfMemory front count k i bs total lt h so_far = tt
ends f (errors.Refused c) front count k i bs total lt h so_far =
    let e : count - k ≡ suc (count - (k + 1)) = omega arith in
    let one : with_front front (taken_each (count - k) i f bs) ≡ Err c = rw (e, h) refl in
    sym so_far ∙ one

pub is_done : {A : Type 0} (f : ℕ → Field A) (front : List A) (count k i : ℕ) (bs : List ℕ) (total : Result (List A × List ℕ) Cause) → count ≤ k → with_front front (taken_each (count - k) i f bs) ≡ total → total ≡ Ok (front, bs)
unfolding taken_each
is_done {A} f front count k i bs total le so_far =
    let e : count - k ≡ 0 = omega arith in
    let one : with_front front (taken_each (count - k) i f bs) ≡ Ok (front, bs) = rw e (ap (λ (ns : List A). Ok (ns, bs)) (append-nil front)) in
    sym so_far ∙ one

same : {A : Type 0} (r : Result (List A × List ℕ) Cause) → with_front [] r ≡ r
same (Ok x) = refl
same (Err e) = refl

pub starts : {A : Type 0} (f : ℕ → Field A) (count i : ℕ) (bs : List ℕ) → with_front [] (taken_each (count - 0) i f bs) ≡ taken_each count i f bs
starts {A} f count i bs = let e : count - 0 ≡ count = omega arith in rw e (same (taken_each count i f bs))
