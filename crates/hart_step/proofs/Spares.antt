-- What one store on guest memory leaves of ready and spare pages.
use Rattle.std.proofs.Common.{◌≡◌, ℕ, suc, zero, ◌+◌, ◌/◌, ◌*◌, ◌<◌, ◌≤◌, inl, inr, List, [], ◌∷◌, length, set, get_or, min, refl, sym, ap, ◌∙◌, subst, arith, Bool, true, false, cond, true≢false, not, None}
use Rattle.std.proofs.lemmas.Bool.Decides.{nat_tests}
use Rattle.std.proofs.lemmas.List.{length-set}
use Rattle.std.proofs.lemmas.List.Sums.{sum_by-cons}
use Rattle.pages.specs.declared.access.Store.{Store}
use Rattle.pages.specs.declared.access.Width.{Width}
use Rattle.pages.specs.declared.access.Width.TheVariants.{W1, W2, W4, W8}
use Rattle.pages.specs.Memory.{Memory, store_fault, stored, width_bytes}
use Rattle.pages.specs.Paged.{Paged, applied, is_page_ready, count_unready, spare_after}
use Rattle.hart_step.specs.Room.{CanTakeOn, HasSpares, TakesDirectly, IsRoomier}

stays_ready : (rs : List Bool) (i p : ℕ) → get_or rs p false ≡ true → get_or (set rs i true) p false ≡ true
stays_ready [] i p h = h
stays_ready (r ∷ rs) zero zero h = refl
stays_ready (r ∷ rs) zero (suc p) h = h
stays_ready (r ∷ rs) (suc i) zero h = h
stays_ready (r ∷ rs) (suc i) (suc p) h = stays_ready rs i p h

counted : (r : Bool) (rs : List Bool) → count_unready (r ∷ rs) ≡ cond r 0 1 + count_unready rs
counted true rs = sum_by-cons (λ b. cond (not b) 1 0) true rs
counted false rs = sum_by-cons (λ b. cond (not b) 1 0) false rs

same_count : (rs : List Bool) (i : ℕ) → get_or rs i false ≡ true → count_unready (set rs i true) ≡ count_unready rs
same_count [] i h = refl
same_count (true ∷ rs) zero h = refl
same_count (false ∷ rs) zero h = absurd (true≢false (sym h))
same_count (r ∷ rs) (suc i) h = counted r (set rs i true) ∙ ap (λ (n : ℕ). cond r 0 1 + n) (same_count rs i h) ∙ sym (counted r rs)

one_less : (rs : List Bool) (i : ℕ) → i < length rs → get_or rs i false ≡ false → suc (count_unready (set rs i true)) ≡ count_unready rs
one_less [] i low h = absurd (omega arith)
one_less (true ∷ rs) zero low h = absurd (true≢false h)
one_less (false ∷ rs) zero low h = omega (arith, counted true rs, counted false rs)
one_less (r ∷ rs) (suc i) low h = omega (arith, counted r (set rs i true), counted r rs, one_less rs i (omega arith) h)

pub some_unready : (rs : List Bool) (i : ℕ) → i < length rs → get_or rs i false ≡ false → 0 < count_unready rs
some_unready rs i low h = omega (arith, one_less rs i low h)

left : (n u v spare : ℕ) (b : Bool) → (b ≡ true → v ≡ u) → (b ≡ false → suc v ≡ u) → min (n + 1) u ≤ spare → min n v ≤ spare_after b spare
left n u v spare true same less h = let e : v ≡ u = same refl in omega arith
left n u v spare false same less h = let e : suc v ≡ u = less refl in omega arith

positive : (w : Width) → 0 < width_bytes w
positive W1 = omega arith
positive W2 = omega arith
positive W4 = omega arith
positive W8 = omega arith

within : (m : Memory) (a : ℕ) (w : Width) → store_fault m a w ≡ None → a + width_bytes w ≤ length m.bytes
unfolding store_fault
within m a w ok = grind (arith, nat_tests)

pub took_one : (p : Paged) (s : Store) → s.address / 4096 < length p.ready → TakesDirectly p (s ∷ []) (applied p s)
unfolding applied
took_one p s low = record {
  memory = refl;
  count = length-set p.ready (s.address / 4096) true;
  stays = λ page h. stays_ready p.ready (s.address / 4096) page h;
  spares = λ n h. left n (count_unready p.ready) (count_unready (set p.ready (s.address / 4096) true)) p.spare (is_page_ready p (s.address / 4096))
      (same_count p.ready (s.address / 4096)) (one_less p.ready (s.address / 4096) low) h;
}

can_take_by : (p : Paged) (page : ℕ) (b : Bool) → is_page_ready p page ≡ b → page < length p.ready → HasSpares 1 p → CanTakeOn p page
can_take_by p page true e low h = inl e
can_take_by p page false e low h = let some : 0 < count_unready p.ready = some_unready p.ready page low e in inr (omega arith)

pub can_take : (p : Paged) (page : ℕ) → page < length p.ready → HasSpares 1 p → CanTakeOn p page
can_take p page low h = can_take_by p page (is_page_ready p page) refl low h

-- a store that has no fault lies in one of the pages
pub within_pages : (p : Paged) (s : Store) (pages : ℕ) → store_fault p.memory s.address s.width ≡ None → pages ≡ length p.ready → 4096 * pages ≡ length p.memory.bytes → s.address / 4096 < length p.ready
within_pages p s pages ok count bytes = let inside : s.address + width_bytes s.width ≤ length p.memory.bytes = within p.memory s.address s.width ok in let some : 0 < width_bytes s.width = positive s.width in omega arith

-- a store after room was made for it
pub took_after : (p q : Paged) (s : Store) → s.address / 4096 < length p.ready → IsRoomier (s.address / 4096) p q → TakesDirectly p (s ∷ []) (applied q s)
took_after p q s low r =
    let one = took_one q s (omega (arith, r.count)) in
    record {
      memory = one.memory ∙ ap (λ (m : Memory). stored m (s ∷ [])) r.memory;
      count = one.count ∙ r.count;
      stays = λ page h. one.stays page (r.stays page h);
      spares = λ n h.
          let some : HasSpares 1 p = omega arith in
          let same : q ≡ p = r.idle (can_take p (s.address / 4096) low some) in
          one.spares n (subst (λ (x : Paged). HasSpares (n + 1) x) (sym same) h);
    }
