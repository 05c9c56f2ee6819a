-- What is kept of bytes, with their times counted by the stores that stay.
use Rattle.std.proofs.Common.{◌≡◌, ℕ, zero, suc, ◌+◌, ◌<◌, ◌≤◌, ◌==◌, Bool, true, false, if◌then◌else◌, List, [], ◌∷◌, length, get_or, None, refl, sym, ap, ◌∙◌, subst, inl, inr, arith}
use Rattle.std.proofs.lemmas.Bool.{cases_Bool, cases_lt, eq-eqb, eqb-true}
use Rattle.run_bounds.specs.declared.touched.TouchedByte.{TouchedByte}
use Rattle.run_bounds.specs.Touched.{known_at, untouched}
use Rattle.all_endings.specs.StoreLists.{Stored}
use Rattle.list_suffixes.specs.Staying.{place_kept}
use Rattle.settled_walks.proofs.Times.{kept_zero, place_zero}
use Rattle.settled_walks.specs.Kept.{AreBytesKept, IsKeptIn, byte_kept}

-- what is kept of a byte is in the records, or nothing is
data IsThere (bs : List TouchedByte) (x : ℕ) : Type 0 where
  none-there : known_at bs x ≡ untouched x → IsThere bs x
  one-there : (k : ℕ) → k < length bs → ((d : TouchedByte) → (get_or bs k d).address ≡ x) → IsThere bs x

there_behind : (b : TouchedByte) (bs : List TouchedByte) (x : ℕ) → (b.address == x) ≡ false → IsThere bs x → IsThere (b ∷ bs) x
there_behind b bs x other (none-there none) = none-there (ap (λ (c : Bool). if c then b else known_at bs x) other ∙ none)
there_behind b bs x other (one-there k l at) = one-there (suc k) (omega (arith, l)) (λ d. at d)

is_there : (bs : List TouchedByte) (x : ℕ) → IsThere bs x
is_there [] x = none-there refl
is_there (b ∷ bs) x = elim (cases_Bool (b.address == x)) [
  | inl here ↦ one-there zero (omega arith) (λ d. eqb-true b.address x here)
  | inr other ↦ there_behind b bs x other (is_there bs x)
]

chosen_address : (b k : TouchedByte) (x : ℕ) (c : Bool) → (b.address == x) ≡ c → k.address ≡ x → (if c then b else k).address ≡ x
chosen_address b k x true e is = eqb-true b.address x e
chosen_address b k x false e is = is

pub known_address : (bs : List TouchedByte) (x : ℕ) → (known_at bs x).address ≡ x
known_address [] x = refl
known_address (b ∷ bs) x = chosen_address b (known_at bs x) x (b.address == x) refl (known_address bs x)

module _ (stays : List Bool) (m : List Stored) where
  -- of a byte of which nothing is known nothing is kept
  untouched_kept : (x : ℕ) → byte_kept stays m (untouched x) ≡ untouched x
  untouched_kept x =
      ap (λ (t : ℕ). record { address = x; touched = t; seen = place_kept stays m x 0; own = None }) (kept_zero stays)
      ∙ ap (λ (p : ℕ). record { address = x; touched = 0; seen = p; own = None }) (place_zero stays m x)

  -- a byte is kept, or isn't yet: none of the first i records is of it
  pub data KeptTo (i : ℕ) (bs kept : List TouchedByte) (x : ℕ) : Type 0 where
    kept-it : known_at kept x ≡ byte_kept stays m (known_at bs x) → KeptTo i bs kept x
    not-yet : known_at kept x ≡ untouched x → ((k : ℕ) (d : TouchedByte) → k < i → (get_or bs k d).address ≡ x → ⊥) → KeptTo i bs kept x

  pub none_kept : (bs kept : List TouchedByte) (x : ℕ) → kept ≡ [] → KeptTo 0 bs kept x
  none_kept bs kept x e = not-yet (ap (λ (s : List TouchedByte). known_at s x) e) (λ k d l. absurd (omega (arith, l)))

  -- ---- one record more, of the byte at an address

  module _ (i : ℕ) (bs old new : List TouchedByte) (a x : ℕ) (b : TouchedByte) (at : (d : TouchedByte) → (get_or bs i d).address ≡ a) (is : b ≡ byte_kept stays m (known_at bs a))
      (adds : IsKeptIn b old new) where
    of_it : b.address ≡ a
    of_it = ap (λ (y : TouchedByte). y.address) is ∙ known_address bs a

    chosen : (c : Bool) → (b.address == x) ≡ c → c ≡ true → (if b.address == x then b else known_at old x) ≡ b
    chosen c e t = ap (λ (d : Bool). if d then b else known_at old x) (e ∙ t)

    passed : (c : Bool) → (b.address == x) ≡ c → c ≡ false → (if b.address == x then b else known_at old x) ≡ known_at old x
    passed c e t = ap (λ (d : Bool). if d then b else known_at old x) (e ∙ t)

    is_of : a ≡ x → b ≡ byte_kept stays m (known_at bs x)
    is_of here = is ∙ ap (λ (y : ℕ). byte_kept stays m (known_at bs y)) here

    here_same : a ≡ x → new ≡ old → b ≡ untouched b.address → KeptTo i bs old x → KeptTo (i + 1) bs new x
    here_same here same none (kept-it e) = kept-it (ap (λ (l : List TouchedByte). known_at l x) same ∙ e)
    here_same here same none (not-yet e before) =
        kept-it (ap (λ (l : List TouchedByte). known_at l x) same ∙ (e ∙ (sym (none ∙ ap untouched (of_it ∙ here)) ∙ is_of here)))

    none_more : (a ≡ x → ⊥) → ((k : ℕ) (d : TouchedByte) → k < i → (get_or bs k d).address ≡ x → ⊥) → (k : ℕ) (d : TouchedByte) → k < i + 1 → (get_or bs k d).address ≡ x → ⊥
    none_more other before k d l e = elim (cases_lt k i) [
      | inl small ↦ before k d small e
      | inr large ↦ let same : k ≡ i = omega (arith, l, large) in other (sym (at d) ∙ (ap (λ (j : ℕ). (get_or bs j d).address) (sym same) ∙ e))
    ]

    other_same : (a ≡ x → ⊥) → known_at new x ≡ known_at old x → KeptTo i bs old x → KeptTo (i + 1) bs new x
    other_same other same (kept-it e) = kept-it (same ∙ e)
    other_same other same (not-yet e before) = not-yet (same ∙ e) (none_more other before)

    not_here : (b.address == x) ≡ false → a ≡ x → ⊥
    not_here e here = let t = eq-eqb b.address x (of_it ∙ here) in cc

    by_test : (c : Bool) → (b.address == x) ≡ c → KeptTo i bs old x → KeptTo (i + 1) bs new x
    by_test true e before = elim adds [
      | inl sets ↦ kept-it (sets x ∙ (chosen true e refl ∙ is_of (sym of_it ∙ eqb-true b.address x e)))
      | inr none ↦ here_same (sym of_it ∙ eqb-true b.address x e) none.0 none.1 before
    ]
    by_test false e before = elim adds [
      | inl sets ↦ other_same (not_here e) (sets x ∙ passed false e refl) before
      | inr none ↦ other_same (not_here e) (ap (λ (l : List TouchedByte). known_at l x) none.0) before
    ]

    pub more_kept : KeptTo i bs old x → KeptTo (i + 1) bs new x
    more_kept before = by_test (b.address == x) refl before

  -- ---- all of them

  all_by : (i : ℕ) (bs kept : List TouchedByte) (x : ℕ) → length bs ≤ i → IsThere bs x → KeptTo i bs kept x → known_at kept x ≡ byte_kept stays m (known_at bs x)
  all_by i bs kept x over there (kept-it e) = e
  all_by i bs kept x over (none-there none) (not-yet e before) = e ∙ (sym (untouched_kept x) ∙ ap (byte_kept stays m) (sym none))
  all_by i bs kept x over (one-there k l at) (not-yet e before) = absurd (before k (untouched x) (omega (arith, l, over)) (at (untouched x)))

  pub all_kept : (i : ℕ) (bs kept : List TouchedByte) → length bs ≤ i → ((x : ℕ) → KeptTo i bs kept x) → AreBytesKept stays m bs kept
  all_kept i bs kept over each x = all_by i bs kept x over (is_there bs x) (each x)

pub each_known : (P : TouchedByte → Type 0) (bs : List TouchedByte) → ((x : ℕ) → P (untouched x)) → ((k : ℕ) (d : TouchedByte) → k < length bs → P (known_at bs (get_or bs k d).address)) →
    (x : ℕ) → P (known_at bs x)
each_known P bs empty each x = by_there (is_there bs x)
  where
    by_there : IsThere bs x → P (known_at bs x)
    by_there (none-there none) = subst P (sym none) (empty x)
    by_there (one-there k l at) = subst (λ (y : ℕ). P (known_at bs y)) (at (untouched x)) (each k (untouched x) l)
