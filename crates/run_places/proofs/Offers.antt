-- The store that is offered.
use Rattle.std.proofs.Common.{◌≡◌, ◌∙◌, ◌⊎◌, ℕ, Bool, true, false, List, Contains, Option, None, Some, option_map, refl, sym, ap, subst, inl, inr, arith}
use Rattle.pages.specs.Memory.{Memory}
use Rattle.all_endings.specs.StoreLists.{Stored}
use Rattle.hart_moves.specs.Offers.{IsOffer}
use Rattle.hart_states.specs.declared.listed_store.ListedStore.{ListedStore}
use Rattle.hart_states.specs.States.{stored_of}
use Rattle.private_bytes.specs.PrivateWalks.{Spot, spot_with}
use Rattle.run_places.specs.Following.{CoverLater}
use Rattle.run_places.specs.Found.{offer_told}

-- what is offered is this store
pub offer_is : (o : Option ListedStore) (store : ListedStore) (s : Stored) → o ≡ Some store → IsOffer o s → stored_of store ≡ s
offer_is o store s e f = ap stored_of (same_store store f.0 (sym e ∙ f.1)) ∙ f.2
  where
    same_store : (s t : ListedStore) → Some s ≡ Some t → s ≡ t
    same_store s t e = cc

pub no_offer : (o : Option ListedStore) (s : Stored) → o ≡ None → IsOffer o s → ⊥
no_offer o s none f = clash f.0 (sym none ∙ f.1)
  where
    clash : (t : ListedStore) → None ≡ Some t → ⊥
    clash t e = cc

-- what a spot is offered may come next where the hart owes nothing, and else the hart does it LATER
pub offers_by : (owns : ℕ → ℕ → Bool) (k : ℕ) (image : Memory) (h : ℕ) (m : List Stored) (opening : ℕ → ℕ) (p : Spot) (ps : List Spot) (pays : Bool) (offer chosen told : Option ListedStore) (s : Stored) →
    IsOffer offer s → (pays ≡ true → told ≡ offer) → (pays ≡ false → chosen ≡ offer) →
    ((t : ListedStore) → chosen ≡ Some t → CoverLater owns k image h m opening (spot_with p (stored_of t)) ps) →
    Contains (offer_told told) s ⊎ CoverLater owns k image h m opening (spot_with p s) ps
offers_by owns k image h m opening p ps true offer chosen told s o telling choosing later =
    inl (subst (λ (x : Option ListedStore). Contains (offer_told x) s) (sym (telling refl ∙ o.1)) (0, omega arith, o.2))
offers_by owns k image h m opening p ps false offer chosen told s o telling choosing later =
    inr (subst (λ (x : Stored). CoverLater owns k image h m opening (spot_with p x) ps) o.2 (later o.0 (choosing refl ∙ o.1)))

pub no_next : (next : Option ListedStore) → option_map stored_of next ≡ None → next ≡ None
no_next None e = refl
no_next (Some t) e = absurd (cc)

-- the store that was chosen comes next where it is told
pub next_by : (next told : Option ListedStore) (s : Stored) → option_map stored_of next ≡ Some s → ((t : ListedStore) → next ≡ Some t → told ≡ Some t) → Contains (offer_told told) s
next_by None told s e f = absurd (cc)
next_by (Some t) told s e f = subst (λ (x : Option ListedStore). Contains (offer_told x) s) (sym (f t refl)) (0, omega arith, same (stored_of t) s e)
  where
    same : (a b : Stored) → Some a ≡ Some b → a ≡ b
    same a b e = cc
