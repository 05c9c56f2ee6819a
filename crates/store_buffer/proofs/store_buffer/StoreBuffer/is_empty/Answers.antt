use Rattle.std.proofs.Common.{◌≡◌, ◌∙◌, ◌∷◌, [], ℕ, List, Bool, true, false, not, Option, Some, None, is_some, ap, sym, refl}
use Rattle.std.specs.Iterator.{YieldsFirst}
use Rattle.pages.specs.declared.access.Store.{Store}
use Rattle.store_buffer.specs.Covered.{stores_of}
use Rattle.store_buffer.proofs.store_buffer.StoreBuffer.is_empty.Goals as goal

no_store : (es : List (ℕ × ℕ)) → stores_of es ≡ [] → es ≡ []
no_store [] h = refl
no_store (e ∷ es) h = cc

none_empty : (r : Option Store) (b : Bool) (es fs : List (ℕ × ℕ)) → is_some r ≡ not b → YieldsFirst stores_of es r fs → (b ≡ true → es ≡ []) × (es ≡ [] → b ≡ true)
none_empty None true es fs h y = (λ _. no_store es y.0, λ _. refl)
none_empty None false es fs h y = cc
none_empty (Some s) true es fs h y = cc
none_empty (Some s) false es fs h y = (λ e. cc, λ e. let none = sym (ap stores_of e) ∙ y in cc)

pub returns : goal.returns
returns c =
    let t = none_empty c.next.result c.is_none.result c.stores.result c.next.new.self c.is_none.ensures c.next.ensures.steps in
    (λ h. sym c.stores.ensures ∙ t.0 h, λ e. t.1 (c.stores.ensures ∙ e))
