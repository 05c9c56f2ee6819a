-- Lines in the chains of their slots.
use Rattle.std.proofs.Common.{◌≡◌, ◌≢◌, ℕ, ◌+◌, ◌<◌, ◌≤◌, List, [], ◌∷◌, ◌++◌, length, length-append, refl, sym, ap, subst, ◌∙◌, arith, ⊎_elim, Option, Some, None, get_or}
use Rattle.std.proofs.Math.ListN.{get_or-append, set}
use Rattle.std.proofs.Math.Seq.{get_or-append_seam}
use Rattle.std.proofs.lemmas.Bool.{cases_eq}
use Rattle.std.proofs.lemmas.List.{get_or-set_other, get_or-set_same, length-set}
use Rattle.store_buffer.specs.declared.slots.Numbered.{Numbered}
use Rattle.store_buffer.specs.Slots.{AreChained, AreSameLines, before_in, blank, line_in, number_in, slot, up_to}

no_some : (h : ℕ) (o : Option ℕ) → o ≡ None → Some h ≡ o → ⊥
no_some h o n e = let w : Some h ≡ None = e ∙ n in cc w

pub some_is : {X : Type 0} (x y : X) → Some x ≡ Some y → x ≡ y
some_is x y e = cc e

-- no line is in empty slots
pub none_chained : (ls : List Numbered) (latest : List (Option ℕ)) → ((i : ℕ) → get_or latest i None ≡ None) → AreChained 0 ls latest
none_chained ls latest empty = record {
  room = omega arith;
  last = λ p low. absurd (omega arith);
  next = λ p q low. absurd (omega arith);
  heads = λ i h e. absurd (no_some h (get_or latest i None) (empty i) e);
  links = λ p q low. absurd (omega arith);
}

-- chains stand by the numbers and the links alone
pub chained_alike : (k : ℕ) (ls ms : List Numbered) (latest : List (Option ℕ)) → ((p : ℕ) → p < k → number_in ms p ≡ number_in ls p) → ((p : ℕ) → p < k → before_in ms p ≡ before_in ls p) → AreChained k ls latest → AreChained k ms latest
chained_alike k ls ms latest numbers links a =
    let n = length latest in
    let same : (p : ℕ) → p < k → slot n (number_in ms p) ≡ slot n (number_in ls p) = λ p low. ap (slot n) (numbers p low) in
    record {
      room = a.room;
      last = λ p low. subst (λ s. p < up_to (get_or latest s None)) (sym (same p low)) (a.last p low);
      next = λ p q low below e.
          let small : q < k = omega arith in
          subst (λ o. q < up_to o) (sym (links p low)) (a.next p q low below (sym (same q small) ∙ e ∙ same p low));
      heads = λ i h e. let old = a.heads i h e in (old.0, same h old.0 ∙ old.1);
      links = λ p q low e.
          let old = a.links p q low (e ∙ links p low) in
          let below = old.0 in
          let small : q < k = omega arith in
          (old.0, same q small ∙ old.1 ∙ sym (same p low));
    }

module _ (k : ℕ) (ls : List Numbered) (latest : List (Option ℕ)) (a : AreChained k ls latest) (more : k < length latest) (low : slot (length latest) (number_in ls k) < length latest) (link : before_in ls k ≡ get_or latest (slot (length latest) (number_in ls k)) None) where
  abbrev pub n : ℕ
  n = length latest

  abbrev pub s : ℕ
  s = slot n (number_in ls k)

  abbrev pub heads : List (Option ℕ)
  heads = set latest s (Some k)

  size : length heads ≡ n
  size = length-set latest s (Some k)

  at_slot : get_or heads s None ≡ Some k
  at_slot = get_or-set_same latest s (Some k) None low

  elsewhere : (i : ℕ) → i ≢ s → get_or heads i None ≡ get_or latest i None
  elsewhere i other = get_or-set_other latest s i (Some k) None other

  last : (p : ℕ) → p < k + 1 → p < up_to (get_or heads (slot n (number_in ls p)) None)
  last p h = ⊎_elim
      (λ (same : slot n (number_in ls p) ≡ s). subst (λ o. p < up_to o) (sym (ap (λ i. get_or heads i None) same ∙ at_slot)) h)
      (λ (other : slot n (number_in ls p) ≡ s → ⊥).
      let small : p < k = ⊎_elim (λ (e : p ≡ k). absurd (other (ap (λ q. slot n (number_in ls q)) e))) (λ (d : p ≡ k → ⊥). omega arith) (cases_eq p k) in
      subst (λ o. p < up_to o) (sym (elsewhere (slot n (number_in ls p)) other)) (a.last p small))
      (cases_eq (slot n (number_in ls p)) s)

  next : (p q : ℕ) → p < k + 1 → q < p → slot n (number_in ls q) ≡ slot n (number_in ls p) → q < up_to (before_in ls p)
  next p q h below e = ⊎_elim
      (λ (same : p ≡ k).
      let small : q < k = omega arith in
      let there : slot n (number_in ls q) ≡ s = e ∙ ap (λ r. slot n (number_in ls r)) same in
      subst (λ o. q < up_to o) (ap (λ i. get_or latest i None) there ∙ sym link ∙ ap (before_in ls) (sym same)) (a.last q small))
      (λ (other : p ≡ k → ⊥). a.next p q (omega arith) below e)
      (cases_eq p k)

  first : (i h : ℕ) → Some h ≡ get_or heads i None → (h < k + 1) × (slot n (number_in ls h) ≡ i)
  first i h e = ⊎_elim
      (λ (same : i ≡ s).
      let here : h ≡ k = some_is h k (e ∙ ap (λ j. get_or heads j None) same ∙ at_slot) in
      (omega arith, ap (λ q. slot n (number_in ls q)) here ∙ sym same))
      (λ (other : i ≡ s → ⊥). let old = a.heads i h (e ∙ elsewhere i other) in let below = old.0 in (omega arith, old.1))
      (cases_eq i s)

  links : (p q : ℕ) → p < k + 1 → Some q ≡ before_in ls p → (q < p) × (slot n (number_in ls q) ≡ slot n (number_in ls p))
  links p q h e = ⊎_elim
      (λ (same : p ≡ k).
      let old = a.heads s q (e ∙ ap (before_in ls) same ∙ link) in
      let below = old.0 in
      (omega arith, old.1 ∙ ap (λ r. slot n (number_in ls r)) (sym same)))
      (λ (other : p ≡ k → ⊥). a.links p q (omega arith) e)
      (cases_eq p k)

  -- one line more in its slot
  pub chained_on : AreChained (k + 1) ls (set latest (slot (length latest) (number_in ls k)) (Some k))
  chained_on = record {
    room = omega (arith, size);
    last = subst (λ m. (p : ℕ) → p < k + 1 → p < up_to (get_or heads (slot m (number_in ls p)) None)) (sym size) last;
    next = subst (λ m. (p q : ℕ) → p < k + 1 → q < p → slot m (number_in ls q) ≡ slot m (number_in ls p) → q < up_to (before_in ls p)) (sym size) next;
    heads = subst (λ m. (i h : ℕ) → Some h ≡ get_or heads i None → (h < k + 1) × (slot m (number_in ls h) ≡ i)) (sym size) first;
    links = subst (λ m. (p q : ℕ) → p < k + 1 → Some q ≡ before_in ls p → (q < p) × (slot m (number_in ls q) ≡ slot m (number_in ls p))) (sym size) links;
  }

-- what a search keeps true: the next line is of the slot, and the line of the number, if there is one, isn't passed yet
pub record IsNext (ls : List Numbered) (count number : ℕ) (next : Option ℕ) : Type 0 where
  pub inside : (h : ℕ) → Some h ≡ next → (h < length ls) × (slot count (number_in ls h) ≡ slot count number)
  pub ahead : (p : ℕ) → p < length ls → number_in ls p ≡ number → p < up_to next

pub first_next : (ls : List Numbered) (latest : List (Option ℕ)) (number : ℕ) → AreChained (length ls) ls latest → IsNext ls (length latest) number (get_or latest (slot (length latest) number) None)
first_next ls latest number a = record {
  inside = λ h e. a.heads (slot (length latest) number) h e;
  ahead = λ p low e. subst (λ k. p < up_to (get_or latest (slot (length latest) k) None)) e (a.last p low);
}

pub next_next : (ls : List Numbered) (latest : List (Option ℕ)) (number h : ℕ) → AreChained (length ls) ls latest → IsNext ls (length latest) number (Some h) → number_in ls h ≢ number → IsNext ls (length latest) number (before_in ls h)
next_next ls latest number h a i other =
    let n = length latest in
    let here = i.inside h refl in
    let low = here.0 in
    record {
      inside = λ q e. let old = a.links h q here.0 e in let below = old.0 in (omega arith, old.1 ∙ here.1);
      ahead = λ p l e.
          let most : p < h + 1 = i.ahead p l e in
          let apart : p ≡ h → ⊥ = λ at. other (ap (number_in ls) (sym at) ∙ e) in
          let below : p < h = omega arith in
          a.next h p here.0 below (ap (slot n) e ∙ sym here.1);
    }

-- the line before stands at a lower index
pub link_lower : (ls : List Numbered) (latest : List (Option ℕ)) (h : ℕ) → AreChained (length ls) ls latest → h < length ls → up_to (before_in ls h) < up_to (Some h)
link_lower ls latest h a low = lower (before_in ls h) refl
  where
    lower : (o : Option ℕ) → o ≡ before_in ls h → up_to o < h + 1
    lower None e = omega arith
    lower (Some q) e = let below = (a.links h q low e).0 in omega arith

-- what the making of chains keeps true: the first k lines are chained
pub record IsChaining (k : ℕ) (ls ms : List Numbered) (empty latest : List (Option ℕ)) : Type 0 where
  pub chained : AreChained k ms latest
  pub slots : length latest ≡ length empty
  pub same : AreSameLines ls ms

-- a line is put into its slot, and no other changes
pub chaining_on : (k : ℕ) (ls ms : List Numbered) (empty latest : List (Option ℕ)) → IsChaining k ls ms empty latest → length ls ≤ length empty → k < length ls → (s : ℕ) → s ≡ slot (length latest) (number_in ms k) → s < length latest → (x : Numbered) → x.number ≡ number_in ms k → x.line ≡ line_in ms k → x.before ≡ get_or latest s None → IsChaining (k + 1) ls (set ms k x) empty (set latest s (Some k))
chaining_on k ls ms empty latest i room low s at inside x number line before =
    let count = i.same.count in
    let here : k < length ms = omega arith in
    let new : get_or (set ms k x) k blank ≡ x = get_or-set_same ms k x blank here in
    let old : (p : ℕ) → p ≢ k → get_or (set ms k x) p blank ≡ get_or ms p blank = λ p other. get_or-set_other ms k p x blank other in
    let numbers : (p : ℕ) → number_in (set ms k x) p ≡ number_in ms p = λ p.
    ⊎_elim (λ (same : p ≡ k). ap (number_in (set ms k x)) same ∙ ap (λ (y : Numbered). y.number) new ∙ number ∙ ap (number_in ms) (sym same)) (λ (other : p ≡ k → ⊥). ap (λ (y : Numbered). y.number) (old p other)) (cases_eq p k) in
    let lines : (p : ℕ) → line_in (set ms k x) p ≡ line_in ms p = λ p.
    ⊎_elim (λ (same : p ≡ k). ap (line_in (set ms k x)) same ∙ ap (λ (y : Numbered). y.line) new ∙ line ∙ ap (line_in ms) (sym same)) (λ (other : p ≡ k → ⊥). ap (λ (y : Numbered). y.line) (old p other)) (cases_eq p k) in
    let apart : (p : ℕ) → p < k → p ≢ k = λ p below e. omega arith in
    let still = chained_alike k ms (set ms k x) latest (λ p below. numbers p) (λ p below. ap (λ (y : Numbered). y.before) (old p (apart p below))) i.chained in
    let slot_here : s ≡ slot (length latest) (number_in (set ms k x) k) = at ∙ ap (slot (length latest)) (sym (numbers k)) in
    let size = i.slots in
    let more : k < length latest = omega arith in
    record {
      chained = subst (λ t. AreChained (k + 1) (set ms k x) (set latest t (Some k))) (sym slot_here)
          (chained_on k (set ms k x) latest still more (subst (λ t. t < length latest) slot_here inside) (ap (λ (y : Numbered). y.before) new ∙ before ∙ ap (λ t. get_or latest t None) slot_here));
      slots = length-set latest s (Some k) ∙ i.slots;
      same = record {
        count = length-set ms k x ∙ count;
        numbers = λ p. numbers p ∙ i.same.numbers p;
        lines = λ p. lines p ∙ i.same.lines p;
      };
    }

-- a line that comes behind the others is put into its slot
pub appended_chained : (ls : List Numbered) (latest : List (Option ℕ)) (s : ℕ) (x : Numbered) → AreChained (length ls) ls latest → length ls < length latest → s ≡ slot (length latest) x.number → s < length latest → x.before ≡ get_or latest s None → AreChained (length (ls ++ x ∷ [])) (ls ++ x ∷ []) (set latest s (Some (length ls)))
appended_chained ls latest s x a more at inside link =
    let ms = ls ++ x ∷ [] in
    let k = length ls in
    let here : get_or ms k blank ≡ x = get_or-append_seam ls x [] blank in
    let old : (p : ℕ) → p < k → get_or ms p blank ≡ get_or ls p blank = λ p low. get_or-append ls (x ∷ []) blank p low in
    let still = chained_alike k ls ms latest (λ p low. ap (λ (y : Numbered). y.number) (old p low)) (λ p low. ap (λ (y : Numbered). y.before) (old p low)) a in
    let slot_here : s ≡ slot (length latest) (number_in ms k) = at ∙ ap (slot (length latest)) (sym (ap (λ (y : Numbered). y.number) here)) in
    let size : length ms ≡ k + 1 = length-append ls (x ∷ []) in
    subst (λ n. AreChained n ms (set latest s (Some k))) (sym size)
    (subst (λ t. AreChained (k + 1) ms (set latest t (Some k))) (sym slot_here)
    (chained_on k ms latest still more (subst (λ t. t < length latest) slot_here inside) (ap (λ (y : Numbered). y.before) here ∙ link ∙ ap (λ t. get_or latest t None) slot_here)))
