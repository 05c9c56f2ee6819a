-- Stores stand in the list of stores at their times.
use Rattle.std.proofs.Common.{◌≡◌, ℕ, zero, suc, ◌+◌, ◌<◌, Bool, true, false, cond, if◌then◌else◌, List, [], ◌∷◌, length, map, filter, get_or, get_or-take, refl, ap, ◌∙◌, inl, inr, arith}
use Rattle.std.proofs.lemmas.Bool.{cases_lt}
use Rattle.round_schedule.specs.declared.event.Event.{Event}
use Rattle.round_schedule.specs.Positions.{event}
use Rattle.memory_order.specs.Operations.{is_store}
use Rattle.memory_order.specs.Orders.{order_position}
use Rattle.memory_order.proofs.Facts.{store_is_operation}
use Rattle.memory_order.proofs.Placing.{position_of_contained}
use Rattle.all_endings.specs.StoreLists.{Stored, StoresStandAtTimes, no_store, stores_of, told}
use Rattle.all_endings.specs.Times.{stores_before, time_of}
use Rattle.all_endings.proofs.Times.{stores_rise}

none_before : (t : List Event) (g : List ℕ) → stores_before t g 0 ≡ 0
none_before t [] = refl
none_before t (a ∷ g) = refl

as_one : (b : Bool) (n : ℕ) → b ≡ true → (if b then 1 else 0) + n ≡ suc n
as_one true n e = omega arith
as_one false n e = absurd (cc)

as_none : (b : Bool) (n : ℕ) → b ≡ false → (if b then 1 else 0) + n ≡ n
as_none true n e = absurd (cc)
as_none false n e = omega arith

pub store_counts : (t : List Event) (g : List ℕ) (p : ℕ) → p < length g → is_store (event t (get_or g p 0)) ≡ true → stores_before t g (suc p) ≡ stores_before t g p + 1
store_counts t [] p l s = absurd (omega (arith, l))
store_counts t (a ∷ g) zero l s = let o = as_one (is_store (event t a)) (stores_before t g 0) s in omega (arith, o, none_before t g)
store_counts t (a ∷ g) (suc p) l s = let r = store_counts t g p (omega (arith, l)) s in omega (arith, r)

abbrev listed : List Event → List ℕ → List Stored
listed t g = map (λ i. told (event t i)) (filter (λ i. is_store (event t i)) g)

abbrev listed_by : List Event → ℕ → List ℕ → Bool → List Stored
listed_by t a g b = map (λ i. told (event t i)) (cond b (a ∷ filter (λ i. is_store (event t i)) g) (filter (λ i. is_store (event t i)) g))

-- where it stands among the stores
stands_more : (t : List Event) (a : ℕ) (g : List ℕ) (b : Bool) (p : ℕ) → is_store (event t a) ≡ b →
    get_or (listed t g) (stores_before t g p) no_store ≡ told (event t (get_or g p 0)) →
    get_or (listed_by t a g b) ((if b then 1 else 0) + stores_before t g p) no_store ≡ told (event t (get_or g p 0))
stands_more t a g true p e r = ap (λ k. get_or (listed_by t a g true) k no_store) (as_one true (stores_before t g p) refl) ∙ r
stands_more t a g false p e r = ap (λ k. get_or (listed_by t a g false) k no_store) (as_none false (stores_before t g p) refl) ∙ r

stands_here : (t : List Event) (a : ℕ) (g : List ℕ) (b : Bool) → b ≡ true → get_or (listed_by t a g b) 0 no_store ≡ told (event t a)
stands_here t a g true e = refl
stands_here t a g false e = absurd (cc)

pub stands_at : (t : List Event) (g : List ℕ) (p : ℕ) → p < length g → is_store (event t (get_or g p 0)) ≡ true →
    get_or (listed t g) (stores_before t g p) no_store ≡ told (event t (get_or g p 0))
stands_at t [] p l s = absurd (omega (arith, l))
stands_at t (a ∷ g) zero l s = stands_here t a g (is_store (event t a)) s
stands_at t (a ∷ g) (suc p) l s = stands_more t a g (is_store (event t a)) p refl (stands_at t g p (omega (arith, l)) s)

pub stores_stand : StoresStandAtTimes
stores_stand t g lists n w s = (
  λ l.
      let k : time_of n t g w ≡ stores_before t g pw = omega (arith, l) in
      ap (λ i. get_or (stores_of n t g) i no_store) k
      ∙ get_or-take n stores (stores_before t g pw) no_store (omega (arith, k, l))
      ∙ stands_at t g pw found.0 storing ∙ ap (λ (i : ℕ). told (event t i)) found.1,
  λ b l. (
    λ before. let r = stores_rise t g (pw + 1) (order_position g b) (omega (arith, before)) in omega (arith, r),
    λ after. elim (cases_lt pw (order_position g b)) [
      | inl k ↦ k
      | inr k ↦
          let r = stores_rise t g (order_position g b) pw k in
          let c = counts in
          absurd (omega (arith, after, l, r, c))
    ],
  ),
)
  where
    pw : ℕ
    pw = order_position g w

    stores : List Stored
    stores = map (λ i. told (event t i)) (filter (λ i. is_store (event t i)) g)

    found : (order_position g w < length g) × (get_or g (order_position g w) 0 ≡ w)
    found = position_of_contained g w (lists.each w (store_is_operation (event t w) s))

    storing : is_store (event t (get_or g pw 0)) ≡ true
    storing = ap (λ i. is_store (event t i)) found.1 ∙ s

    counts : stores_before t g (pw + 1) ≡ stores_before t g pw + 1
    counts = let e : pw + 1 ≡ suc pw = omega arith in ap (stores_before t g) e ∙ store_counts t g pw found.0 storing
