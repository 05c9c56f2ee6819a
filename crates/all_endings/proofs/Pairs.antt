-- An LR and its SC, in times: rule 8, and the value of atomicity.
use Rattle.std.proofs.Common.{◌≡◌, ◌≢◌, ℕ, ◌+◌, ◌<◌, ◌≤◌, ◌⊎◌, true, get_or, get_or-take, map, filter, Option, Some, None, refl, sym, ap, ◌∙◌, inl, inr, arith}
use Rattle.std.proofs.lemmas.Bool.{and_parts, cases_lt}
use Rattle.pages.specs.Memory.{in_range, width_bytes}
use Rattle.round_schedule.specs.declared.access.Access.{Access}
use Rattle.round_schedule.specs.declared.access.Access.TheVariants.{Load, Store, LoadReserved, StoreConditional, Atomic, Fence}
use Rattle.round_schedule.specs.declared.span.Span.{Span}
use Rattle.round_schedule.specs.Accesses.{address_of, bytes_of, is_lr, is_sc, loads, stores}
use Rattle.round_schedule.specs.Positions.{event, reads_at, writes_at}
use Rattle.memory_order.specs.Operations.{covers, is_store}
use Rattle.memory_order.specs.Orders.{order_position}
use Rattle.memory_order.specs.Rvwmo.{IsPaired, IsUndisturbed, paired}
use Rattle.memory_order.proofs.Facts.{load_is_operation, store_is_operation}
use Rattle.memory_order.proofs.Placing.{position_of_contained}
use Rattle.all_endings.specs.Endings.{opening_bytes}
use Rattle.all_endings.specs.HartRuns.{IsUnbroken}
use Rattle.all_endings.specs.RunStates.{Move, RunState, bare}
use Rattle.all_endings.specs.StoreLists.{Stored, has_byte, no_store, told}
use Rattle.all_endings.specs.Times.{stores_before}
use Rattle.all_endings.proofs.Bare.{covers_bare}
use Rattle.all_endings.proofs.Following.{Reserving, Setting, after_store, list, place, time}
use Rattle.all_endings.proofs.Sources.{once_at, place_of_time, preserved_in_time, both}
use Rattle.all_endings.proofs.StoreLists.{stands_at}
use Rattle.all_endings.proofs.Times.{timed_rises}

lr_loads : (y : Access) → is_lr y ≡ true → loads y ≡ true
lr_loads (Load w p x r) e = cc
lr_loads (Store w p x v) e = cc
lr_loads (LoadReserved w o p x r) e = refl
lr_loads (StoreConditional w o p x v) e = cc
lr_loads (Atomic w o p x r v) e = cc
lr_loads (Fence b c m p) e = cc

module _ (s : Setting) (h i : ℕ) (a : RunState) (span : Span) (pair : Reserving s h i a span) (here : (event s.t i).hart ≡ h) (sc : is_sc (event s.t i).access ≡ true) (store : is_store (event s.t i) ≡ true) where
  are_paired : IsPaired s.t pair.index i
  are_paired = record {
    reserved = pair.reserves;
    conditional = sc;
    in_program = record { earlier = pair.earlier; same_hart = pair.hart ∙ sym here };
    none_between = λ k l m same paired. pair.none_between k l m (same ∙ here) paired;
  }

  -- rule 8
  pub reserved_in_time : a.reserved ≤ time s i
  reserved_in_time =
      let r = preserved_in_time s.is s.t (opening_bytes s.image) s.g s.meets s.n pair.index i
      (load_is_operation (event s.t pair.index) (lr_loads (event s.t pair.index).access pair.reserves)) (store_is_operation (event s.t i) store)
      (record { earlier = pair.earlier; same_hart = pair.hart ∙ sym here }) (paired are_paired) in
      let p = pair.reserved in
      omega (arith, r, p)

  -- a store of the list before the SC is no later than the LR's source
  unbroken_by : (x w : ℕ) (u : Option ℕ) → IsUndisturbed s.t (order_position s.g) i x u → writes_at s.t w x ≡ true → (event s.t w).hart ≢ (event s.t i).hart →
      order_position s.g w < order_position s.g i → time s w < s.n → time s w < place s u
  unbroken_by x w None none wet other before known = absurd (none w wet other before)
  unbroken_by x w (Some q) none wet other before known =
      let low : order_position s.g w ≤ order_position s.g q = elim (cases_lt (order_position s.g q) (order_position s.g w)) [
        | inl l ↦ absurd (none.1 w wet other l before)
        | inr l ↦ l
      ] in
      let r = timed_rises s.n s.t s.g (order_position s.g w + 1) (order_position s.g q + 1) (omega (arith, low)) in
      let c = after_store s w (and_parts (stores (event s.t w).access) (covers (event s.t w).access x) wet).0 in
      omega (arith, r, c, known)

  covers_both : address_of (event s.t i).access ≡ span.address → bytes_of (event s.t i).access ≡ width_bytes span.width → (x : ℕ) →
      covers (event s.t i).access x ≡ true → reads_at s.t pair.index x ≡ true
  covers_both address bytes x c =
      let e : covers (event s.t pair.index).access x ≡ covers (event s.t i).access x =
      ap (λ (y : ℕ). in_range y (bytes_of (event s.t pair.index).access) x) (pair.address ∙ sym address) ∙ ap (λ (y : ℕ). in_range (address_of (event s.t i).access) y x) (pair.bytes ∙ sym bytes) in
      both (loads (event s.t pair.index).access) (covers (event s.t pair.index).access x) (lr_loads (event s.t pair.index).access pair.reserves) (e ∙ c)

  pub unbroken : (v : Move) → address_of (event s.t i).access ≡ span.address → bytes_of (event s.t i).access ≡ width_bytes span.width → v.access ≡ bare (event s.t i).access →
      (v.time ≡ time s i) ⊎ (v.time ≡ s.n + 1) → IsUnbroken h (list s) a v
  unbroken v address bytes e t p x within low c wet other = elim t [
    | inr late ↦ let m = s.many in absurd (omega (arith, late, m, within))
    | inl at ↦
        let m = s.many in
        let f = place_of_time s.t s.g (order_position s.g i) p (omega (arith, low, at)) in
        let i_in = (position_of_contained s.g i (s.meets.lists.each i (store_is_operation (event s.t i) store))).0 in
        let w : ℕ = get_or s.g f.0 0 in
        let w_at : order_position s.g (get_or s.g f.0 0) ≡ f.0 = once_at s.g f.0 f.2 s.meets.lists.once in
        let before : order_position s.g (get_or s.g f.0 0) < order_position s.g i = let l = f.1 in omega (arith, w_at, l) in
        let is : get_or (list s) p no_store ≡ told (event s.t (get_or s.g f.0 0)) =
        get_or-take s.n (map (λ (j : ℕ). told (event s.t j)) (filter (λ (j : ℕ). is_store (event s.t j)) s.g)) p no_store (omega (arith, m, within, low))
        ∙ ap (λ (j : ℕ). get_or (map (λ (j : ℕ). told (event s.t j)) (filter (λ (j : ℕ). is_store (event s.t j)) s.g)) j no_store) (sym f.4) ∙ stands_at s.t s.g f.0 f.2 f.3 in
        let w_wet : writes_at s.t (get_or s.g f.0 0) x ≡ true = both (is_store (event s.t (get_or s.g f.0 0))) (has_byte (told (event s.t (get_or s.g f.0 0))) x) f.3 (ap (λ (y : Stored). has_byte y x) (sym is) ∙ wet) in
        let w_other : (event s.t (get_or s.g f.0 0)).hart ≢ (event s.t i).hart = λ q. other (ap (λ (y : Stored). y.hart) is ∙ q ∙ here) in
        let w_time : time s (get_or s.g f.0 0) ≡ p =
        let k : stores_before s.t s.g (order_position s.g (get_or s.g f.0 0)) ≡ p = ap (stores_before s.t s.g) w_at ∙ f.4 in
        omega (arith, k, within, low, m) in
        let r : reads_at s.t pair.index x ≡ true = covers_both address bytes x (sym (ap (λ (y : Access). covers y x) e ∙ covers_bare (event s.t i).access x) ∙ c) in
        let value = s.meets.load_value pair.index x r in
        let undisturbed = s.meets.atomicity pair.index i x value.0 are_paired store r value.1 in
        let l = unbroken_by x (get_or s.g f.0 0) value.0 undisturbed w_wet w_other before (omega (arith, w_time, within, low, m)) in
        let reserved = reserved_in_time in
        let p1 = pair.reserved in
        let q = pair.sources x value.0 r (omega (arith, reserved, p1, at, within, m)) value.1 in
        omega (arith, l, q, w_time)
  ]
