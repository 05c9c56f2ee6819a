-- What is late behind an instruction, by the access over constants.
use Rattle.std.proofs.Common.{◌≡◌, ℕ, ◌&&◌, ◌||◌, not, Bool, true, false, if◌then◌else◌, inl, inr, refl, sym, ap, ◌∙◌, subst}
use Rattle.std.proofs.lemmas.Bool.{and_parts}
use Rattle.round_schedule.specs.declared.access.Access.{Access}
use Rattle.round_schedule.specs.Accesses.{address_of, is_sc, loads}
use Rattle.round_schedule.specs.Accesses.{stores as writing}
use Rattle.private_bytes.specs.Owners.{is_own, is_private}
use Rattle.early_reads.specs.declared.early_point.LateKinds.{LateKinds}
use Rattle.early_reads.specs.Flows.{IsOver, unplaced}
use Rattle.early_reads.specs.Windows.{late_with}
use Rattle.early_reads.proofs.Accesses.{loads_same, writing_same}

module _ (owns : ℕ → ℕ → Bool) (h : ℕ) (l : LateKinds) (y z : Access) (known : Bool) (P : LateKinds → Type 0) where
  abbrev wet : Bool
  wet = writing z && not (is_private owns h z)

  abbrev With : Access → Type 0
  With u = P (record { loads = l.loads || loads u; stores = true; owes = l.owes })

  by_test : (c : Bool) (j : LateKinds) → (c ≡ true → P j) → (c ≡ false → P l) → P (if c then j else l)
  by_test true j yes_it no_it = yes_it refl
  by_test false j yes_it no_it = no_it refl

  by_store : (writing z ≡ true → With z) → ((not l.owes && wet) ≡ false → P l) → P (late_with owns h l z)
  by_store stored dry =
      by_test (not l.owes && wet) _ (λ e. stored (and_parts (writing z) (not (is_private owns h z)) (and_parts (not l.owes) wet e).1).0) dry

  stored_by : unplaced z ≡ unplaced y → With y → With z
  stored_by e p = subst (λ (b : Bool). P (record { loads = l.loads || b; stores = true; owes = l.owes })) (sym (loads_same z y e)) p

  neither : (c d : Bool) → c ≡ true → (not c && d) ≡ false
  neither true d e = refl
  neither false d e = absurd (cc)

  -- of a hart that owes stores
  pub late_owing : l.owes ≡ true → P l → P (late_with owns h l z)
  late_owing owes p = by_test (not l.owes && wet) _ (λ e. (let n = neither l.owes wet owes in absurd (cc))) (λ e. p)

  -- behind an access that doesn't store
  pub late_dry : IsOver known y z → writing y ≡ false → P l → P (late_with owns h l z)
  late_dry over dry p = by_store (stores_not over) (λ e. p)
    where
      stores_not : IsOver known y z → writing z ≡ true → With z
      stores_not (inl same) wet = let e = writing_same z y same.0 in absurd (cc)
      stores_not (inr failing) wet = let e = failing.store in absurd (cc)

  -- behind one that may store, or not, as far as is known
  pub late_either : IsOver known y z → With y → P l → P (late_with owns h l z)
  late_either over stored p = by_store (stores_too over) (λ e. p)
    where
      stores_too : IsOver known y z → writing z ≡ true → With z
      stores_too (inl same) wet = stored_by same.0 stored
      stores_too (inr failing) wet = let e = failing.dry in absurd (cc)

  all_false : (a b c : Bool) → a ≡ false → b ≡ true → c ≡ false → (not a && (b && not c)) ≡ false → ⊥
  all_false false true false e f g r = cc
  all_false false true true e f g r = cc
  all_false false false c e f g r = cc
  all_false true b c e f g r = cc

  private_not : (a b : Bool) → b ≡ false → (a && b) ≡ false
  private_not true b e = e
  private_not false b e = refl

  -- behind one that stores to bytes that aren't the hart's own, of a hart that owes no stores
  pub late_wet : IsOver known y z → l.owes ≡ false → known ≡ true → writing y ≡ true → is_sc y ≡ false → is_own owns h (address_of y) ≡ false → With y → P (late_with owns h l z)
  late_wet over pays there store plain other stored = by_store (λ e. stores_it over) (λ e. absurd (no_other over e))
    where
      stores_it : IsOver known y z → With z
      stores_it (inl same) = stored_by same.0 stored
      stores_it (inr failing) = let e = failing.sc in absurd (cc)

      no_other : IsOver known y z → (not l.owes && wet) ≡ false → ⊥
      no_other (inr failing) e = let s = failing.sc in cc
      no_other (inl same) e =
          let at = same.1 there in
          let address : is_own owns h (address_of z) ≡ false = ap (λ (u : Access). is_own owns h (address_of u)) at ∙ other in
          all_false l.owes (writing z) (is_private owns h z) pays (ap writing at ∙ store) (private_not (loads z || writing z) (is_own owns h (address_of z)) address) e
