use Rattle.std.proofs.Common.{◌≡◌, ◌∙◌, ℕ, Bool, true, false, Option, Some, sym, ap}
use Rattle.all_endings.specs.StoreLists.{Stored}
use Rattle.hart_moves.specs.Offers.{IsOffer}
use Rattle.hart_states.specs.declared.listed_store.ListedStore.{ListedStore}
use Rattle.own_moves.specs.Owned.{owns_of}
use Rattle.private_bytes.specs.Owners.{is_own}
use Rattle.run_places.proofs.Offers.{no_offer, offer_is}
use Rattle.run_places.proofs.following.shared_offer.Goals as goal

true_or_false : true ≡ false → ⊥
true_or_false e = cc

own_offer : (owns : ℕ → ℕ → Bool) (h : ℕ) (o : Option ListedStore) (store : ListedStore) (s : Stored) (b : Bool) → o ≡ Some store → IsOffer o s →
    b ≡ is_own owns h store.address → b ≡ true → is_own owns h s.address ≡ false → ⊥
own_offer owns h o store s b e f is owned none =
    true_or_false (sym owned ∙ (is ∙ (ap (λ (t : Stored). is_own owns h t.address) (offer_is o store s e f) ∙ none)))

pub returns-in-None : goal.returns-in-None
returns-in-None c = λ s shared offer. absurd (no_offer _ s c.in-None.is (c.offers-offer.ensures s offer))

pub returns-then-is_own : goal.returns-then-is_own
returns-then-is_own c = λ s shared offer.
    absurd (own_offer (owns_of c.args.against.now.owned.now) c.args.against.now.hart _ c.in-Some.store s c.is_own.result c.in-Some.is (c.offers-offer.ensures s offer) c.is_own.ensures
    c.if-is_own.true shared)
