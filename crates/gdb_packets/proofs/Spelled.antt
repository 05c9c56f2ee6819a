-- A number that is spelled: one digit more.
use Rattle.std.proofs.Common.{◌≡◌, ℕ, ◌+◌, ◌*◌, ◌-◌, ◌^◌, ◌<◌, ◌≤◌, Bool, true, List, [], ◌∷◌, length, drop, take, Option, Some, None, refl, sym, ap, subst, ◌∙◌, arith}
use Rattle.std.specs.Prelude.{nat_lt, if◌then◌else◌, slice_index}
use Rattle.std.proofs.Math.Seq.{take-length}
use Rattle.gdb_packets.specs.Fields.{by_spelled, spelled_digit, spelled_from}

abbrev rest : List ℕ → List ℕ
rest t = take (length t - 1) (drop 1 t)

rest_is : (h : ℕ) (xs : List ℕ) → rest (h ∷ xs) ≡ xs
rest_is h xs = (let e : length (h ∷ xs) - 1 ≡ length xs = omega arith in ap (λ (n : ℕ). take n xs) e) ∙ take-length xs

one_more : (n h l v : ℕ) (bs : List ℕ) → Some v ≡ spelled_digit h l → nat_lt n (2 ^ 60) ≡ true → spelled_from (n * 10 + v) bs ≡ spelled_from n (h ∷ l ∷ bs)
unfolding spelled_from
one_more n h l v bs e lt =
    ap (λ (b : Bool). if b then spelled_from (n * 10 + v) bs else None) (sym lt)
    ∙ ap (λ (o : Option ℕ). by_spelled o n (h ∷ l ∷ bs) (λ k. spelled_from k bs)) e

pub further : (n : ℕ) (t : List ℕ) (v : ℕ) → 1 ≤ length t → 1 ≤ length (rest t) → Some v ≡ spelled_digit (slice_index t 0) (slice_index (rest t) 0) →
    nat_lt n (2 ^ 60) ≡ true → spelled_from (n * 10 + v) (rest (rest t)) ≡ spelled_from n t
further n [] v some more e lt = absurd (omega (arith, some))
further n (h ∷ []) v some more e lt = absurd (omega (arith, more))
further n (h ∷ l ∷ bs) v some more e lt =
    let one = rest_is h (l ∷ bs) in
    ap (λ (xs : List ℕ). spelled_from (n * 10 + v) (rest xs)) one ∙ ap (λ (xs : List ℕ). spelled_from (n * 10 + v) xs) (rest_is l bs)
    ∙ one_more n h l v bs (subst (λ (xs : List ℕ). Some v ≡ spelled_digit h (slice_index xs 0)) one e) lt
