-- At one time a load reads one number.
use Rattle.std.proofs.Common.{◌≡◌, ℕ, ◌+◌, ◌^◌, ◌<◌, ◌≤◌, List, Option, Some, None, refl, sym, ap, ◌∙◌, subst, arith}
use Rattle.pages.specs.declared.access.Width.{Width}
use Rattle.pages.specs.declared.access.Width.TheVariants.{W1, W2, W4, W8}
use Rattle.pages.specs.Memory.{byte_of, width_bytes}
use Rattle.hart_step.specs.Step.{width_bits}
use Rattle.all_endings.specs.Determined.{LoadsAreDetermined}
use Rattle.all_endings.specs.HartRuns.{Gets, IsPast, IsRead, forwarded, gets, gets-later, remembered}
use Rattle.all_endings.specs.RunStates.{OwnByte, RunState}
use Rattle.all_endings.specs.StoreLists.{Stored, byte_at, last_place}

-- the bytes of a number make it
same_number : (w : Width) (n k : ℕ) → n < 2 ^ width_bits w → k < 2 ^ width_bits w → ((j : ℕ) → j < width_bytes w → byte_of n j ≡ byte_of k j) → n ≡ k
same_number W1 n k a b e = let e0 = e 0 (omega arith) in omega (arith, e0, a, b)
same_number W2 n k a b e = let e0 = e 0 (omega arith) in let e1 = e 1 (omega arith) in omega (arith, e0, e1, a, b)
same_number W4 n k a b e =
    let e0 = e 0 (omega arith) in let e1 = e 1 (omega arith) in let e2 = e 2 (omega arith) in let e3 = e 3 (omega arith) in omega (arith, e0, e1, e2, e3, a, b)
same_number W8 n k a b e =
    let e0 = e 0 (omega arith) in let e1 = e 1 (omega arith) in let e2 = e 2 (omega arith) in let e3 = e 3 (omega arith) in
    let e4 = e 4 (omega arith) in let e5 = e 5 (omega arith) in let e6 = e 6 (omega arith) in let e7 = e 7 (omega arith) in
    omega (arith, e0, e1, e2, e3, e4, e5, e6, e7, a, b)

some_own : (o p : OwnByte) (q : Option OwnByte) → q ≡ Some o → q ≡ Some p → o ≡ p
some_own o p q e d = cc

past_of : (o : OwnByte) (q : Option OwnByte) (time : ℕ) → q ≡ Some o → IsPast q time → o.place ≤ time
past_of o q time e past = subst (λ (y : Option OwnByte). IsPast y time) e past

-- of a byte: the same place and the same byte
one_read : (m : List Stored) (opening : ℕ → ℕ) (a : RunState) (time x p q b c : ℕ) → IsRead m opening a time x p b → IsRead m opening a time x q c → (p ≡ q) × (b ≡ c)
one_read m opening a time x _ q b c (forwarded o _ own late plain needs seen known) r = by_other q c r
  where
    by_other : (q c : ℕ) → IsRead m opening a time x q c → (o.place ≡ q) × (b ≡ c)
    by_other _ c (forwarded u _ own2 late2 plain2 needs2 seen2 known2) =
        let s : o ≡ u = some_own o u (a.own x) own own2 in
        let d : Some b ≡ Some c = sym known ∙ ap (λ (y : OwnByte). y.byte) s ∙ known2 in
        (ap (λ (y : OwnByte). y.place) s, cc)
    by_other _ _ (remembered past seen2) = absurd (let l = past_of o (a.own x) time own past in omega (arith, l, late))
one_read m opening a time x _ q _ c (remembered past seen) r = by_other q c r
  where
    by_other : (q c : ℕ) → IsRead m opening a time x q c → (last_place m x time ≡ q) × (byte_at m opening x (last_place m x time) ≡ c)
    by_other _ c (forwarded u _ own2 late2 plain2 needs2 seen2 known2) = absurd (let l = past_of u (a.own x) time own2 past in omega (arith, l, late2))
    by_other _ _ (remembered past2 seen2) = (refl, refl)

pub loads_determined : LoadsAreDetermined
loads_determined m opening a v u address w _ p same (gets n early fits bytes) g = by_other p g
  where
    by_other : (p : Option ℕ) → Gets m opening a u address w p → (Some n ≡ p) × ((k : ℕ) → k < width_bytes w → v.source (address + k) ≡ u.source (address + k))
    by_other _ (gets k early2 fits2 bytes2) = (
      ap (λ (y : ℕ). Some y) (same_number w n k fits fits2 (λ j l. (both j l).1)),
      λ j l. (both j l).0,
    )
      where
        both : (j : ℕ) → j < width_bytes w → (v.source (address + j) ≡ u.source (address + j)) × (byte_of n j ≡ byte_of k j)
        both j l = one_read m opening a v.time (address + j) _ _ _ _ (bytes j l)
            (subst (λ (t : ℕ). IsRead m opening a t (address + j) (u.source (address + j)) (byte_of k j)) (sym same) (bytes2 j l))
    by_other _ (gets-later late none) = absurd (omega (arith, early, late, same))
loads_determined m opening a v u address w _ p same (gets-later late none) g = by_other p g
  where
    by_other : (p : Option ℕ) → Gets m opening a u address w p → (None ≡ p) × ((k : ℕ) → k < width_bytes w → v.source (address + k) ≡ u.source (address + k))
    by_other _ (gets k early2 fits2 bytes2) = absurd (omega (arith, early2, late, same))
    by_other _ (gets-later late2 none2) = (refl, λ k l. none (address + k) ∙ sym (none2 (address + k)))
