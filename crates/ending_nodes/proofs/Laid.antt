-- Of a list the stores that stay, and those that are laid into memory, one by one.
use Rattle.std.proofs.Common.{◌≡◌, ℕ, ◌+◌, ◌<◌, ◌≤◌, Bool, true, false, List, [], ◌∷◌, ◌++◌, length, get_or, take, length-take, refl, sym, ap, ◌∙◌, inl, inr, arith}
use Rattle.std.proofs.lemmas.Bool.{cases_lt}
use Rattle.std.proofs.Math.Seq.{get_or-append_seam}
use Rattle.std.proofs.lemmas.List.{get_or_append_left, get_or_past, length-map, take_more}
use Rattle.all_endings.specs.StoreLists.{Stored, has_byte, no_store}
use Rattle.hart_ends.proofs.Told.{pushed}
use Rattle.hart_states.specs.declared.listed_store.ListedStore.{ListedStore}
use Rattle.hart_states.specs.States.{listed, stored_of}
use Rattle.list_suffixes.specs.Staying.{MayBeLaid, kept, laid, stays_at}
use Rattle.ending_nodes.specs.Raising.{MeetsNone}

-- ---- one store more

kept_nil : (stays : List Bool) → kept stays [] ≡ []
kept_nil [] = refl
kept_nil (b ∷ stays) = refl

laid_nil : (stays : List Bool) → laid stays [] ≡ []
laid_nil [] = refl
laid_nil (b ∷ stays) = refl

pub kept_empty : (stays : List Bool) (l : List ListedStore) → l ≡ [] → listed l ≡ kept stays []
kept_empty stays l e = ap listed e ∙ sym (kept_nil stays)

pub laid_empty : (stays : List Bool) (l : List ListedStore) → l ≡ [] → listed l ≡ laid stays []
laid_empty stays l e = ap listed e ∙ sym (laid_nil stays)

kept_one : (stays : List Bool) (m : List Stored) (s : Stored) → stays_at stays (length m) ≡ true → kept stays (m ++ s ∷ []) ≡ kept stays m ++ s ∷ []
kept_one [] m s e = refl
kept_one (true ∷ stays) [] s e = ap (λ (q : List Stored). s ∷ q) (kept_nil stays)
kept_one (false ∷ stays) [] s e = absurd (cc)
kept_one (true ∷ stays) (t ∷ m) s e = ap (λ (q : List Stored). t ∷ q) (kept_one stays m s e)
kept_one (false ∷ stays) (t ∷ m) s e = kept_one stays m s e

kept_none : (stays : List Bool) (m : List Stored) (s : Stored) → stays_at stays (length m) ≡ false → kept stays (m ++ s ∷ []) ≡ kept stays m
kept_none [] m s e = absurd (cc)
kept_none (true ∷ stays) [] s e = absurd (cc)
kept_none (false ∷ stays) [] s e = kept_nil stays
kept_none (true ∷ stays) (t ∷ m) s e = ap (λ (q : List Stored). t ∷ q) (kept_none stays m s e)
kept_none (false ∷ stays) (t ∷ m) s e = kept_none stays m s e

laid_one : (stays : List Bool) (m : List Stored) (s : Stored) → stays_at stays (length m) ≡ false → laid stays (m ++ s ∷ []) ≡ laid stays m ++ s ∷ []
laid_one [] m s e = absurd (cc)
laid_one (true ∷ stays) [] s e = absurd (cc)
laid_one (false ∷ stays) [] s e = ap (λ (q : List Stored). s ∷ q) (laid_nil stays)
laid_one (true ∷ stays) (t ∷ m) s e = laid_one stays m s e
laid_one (false ∷ stays) (t ∷ m) s e = ap (λ (q : List Stored). t ∷ q) (laid_one stays m s e)

laid_none : (stays : List Bool) (m : List Stored) (s : Stored) → stays_at stays (length m) ≡ true → laid stays (m ++ s ∷ []) ≡ laid stays m
laid_none [] m s e = refl
laid_none (true ∷ stays) [] s e = laid_nil stays
laid_none (false ∷ stays) [] s e = absurd (cc)
laid_none (true ∷ stays) (t ∷ m) s e = laid_none stays m s e
laid_none (false ∷ stays) (t ∷ m) s e = ap (λ (q : List Stored). t ∷ q) (laid_none stays m s e)

-- ---- the same of lists as they are kept

module _ (stays : List Bool) (list : List ListedStore) (i : ℕ) (s d : ListedStore) (old new : List ListedStore) (within : i < length list) (at : s ≡ get_or list i d) where
  abbrev before : List Stored
  before = listed (take i list)

  next : listed (take (i + 1) list) ≡ before ++ stored_of s ∷ []
  next = pushed stored_of (take i list) (take (i + 1) list) s (take_more list i d within ∙ ap (λ (z : ListedStore). take i list ++ z ∷ []) (sym at))

  so_many : length before ≡ i
  so_many = let l = length-map (take i list) stored_of in let t = length-take i list in omega (arith, l, t, within)

  stays_there : (b : Bool) → stays_at stays i ≡ b → stays_at stays (length before) ≡ b
  stays_there b e = ap (stays_at stays) so_many ∙ e

  grown : (m : List Stored) → listed old ≡ m → new ≡ old ++ s ∷ [] → listed new ≡ m ++ stored_of s ∷ []
  grown m so e = pushed stored_of old new s e ∙ ap (λ (l : List Stored). l ++ stored_of s ∷ []) so

  kept_by : (b : Bool) → stays_at stays i ≡ b → (b ≡ true → new ≡ old ++ s ∷ []) → (b ≡ false → new ≡ old) → listed old ≡ kept stays before → listed new ≡ kept stays (listed (take (i + 1) list))
  kept_by true e more same so = grown (kept stays before) so (more refl) ∙ sym (ap (kept stays) next ∙ kept_one stays before (stored_of s) (stays_there true e))
  kept_by false e more same so = ap listed (same refl) ∙ (so ∙ sym (ap (kept stays) next ∙ kept_none stays before (stored_of s) (stays_there false e)))

  pub kept_more : (stays_at stays i ≡ true → new ≡ old ++ s ∷ []) → (stays_at stays i ≡ false → new ≡ old) → listed old ≡ kept stays before → listed new ≡ kept stays (listed (take (i + 1) list))
  kept_more more same so = kept_by (stays_at stays i) refl more same so

  laid_by : (b : Bool) → stays_at stays i ≡ b → (b ≡ false → new ≡ old ++ s ∷ []) → (b ≡ true → new ≡ old) → listed old ≡ laid stays before → listed new ≡ laid stays (listed (take (i + 1) list))
  laid_by false e more same so = grown (laid stays before) so (more refl) ∙ sym (ap (laid stays) next ∙ laid_one stays before (stored_of s) (stays_there false e))
  laid_by true e more same so = ap listed (same refl) ∙ (so ∙ sym (ap (laid stays) next ∙ laid_none stays before (stored_of s) (stays_there true e)))

  pub laid_more : (stays_at stays i ≡ false → new ≡ old ++ s ∷ []) → (stays_at stays i ≡ true → new ≡ old) → listed old ≡ laid stays before → listed new ≡ laid stays (listed (take (i + 1) list))
  laid_more more same so = laid_by (stays_at stays i) refl more same so

-- ---- stores that meet

-- of the first i stores none that is laid into memory meets one that stays
abbrev pub AreFree : ℕ → List Bool → List Stored → Type 0
AreFree i stays m =
    (j k x : ℕ) → k < i → j < k → stays_at stays j ≡ true → stays_at stays k ≡ false → has_byte (get_or m j no_store) x ≡ true → has_byte (get_or m k no_store) x ≡ true → ⊥

-- one more
module _ (i : ℕ) (old new : List Bool) (m : List Stored) (b : Bool) (many : length old ≡ i) (grown : new ≡ old ++ b ∷ []) where
  left : (q : ℕ) → q < i → stays_at old q ≡ stays_at new q
  left q l = sym (ap (λ (s : List Bool). stays_at s q) grown ∙ get_or_append_left old (b ∷ []) true q (omega (arith, l, many)))

  last : stays_at new i ≡ b
  last = ap (λ (s : List Bool). stays_at s i) grown ∙ (ap (λ (q : ℕ). get_or (old ++ b ∷ []) q true) (sym many) ∙ get_or-append_seam old b [] true)

  pub free_more : (b ≡ false → MeetsNone old m i) → AreFree i old m → AreFree (i + 1) new m
  free_more meets before j k x l less stay gone has met = elim (cases_lt k i) [
    | inl small ↦ before j k x small less (left j (omega (arith, less, small)) ∙ stay) (left k small ∙ gone) has met
    | inr large ↦
        let here : k ≡ i = omega (arith, l, large) in
        meets (sym last ∙ (ap (stays_at new) (sym here) ∙ gone)) j x (omega (arith, less, here)) (left j (omega (arith, less, here)) ∙ stay) has
        (ap (λ (n : ℕ). has_byte (get_or m n no_store) x) (sym here) ∙ met)
  ]

-- what isn't told stays
stays_past : (stays : List Bool) (k : ℕ) → length stays ≤ k → stays_at stays k ≡ true
stays_past stays k l = get_or_past stays k true l

pub free_all : (i : ℕ) (stays : List Bool) (m : List Stored) → length stays ≤ i → AreFree i stays m → MayBeLaid stays m
free_all i stays m over free j k x less stay gone has met = elim (cases_lt k i) [
  | inl l ↦ free j k x l less stay gone has met
  | inr l ↦ let e = stays_past stays k (omega (arith, l, over)) in cc
]
