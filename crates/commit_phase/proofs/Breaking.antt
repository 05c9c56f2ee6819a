-- Reservations that are broken byte by byte.
use Rattle.std.proofs.Common.{◌≡◌, ℕ, zero, suc, ◌+◌, ◌<◌, ◌==◌, ◌||◌, Bool, true, false, cond, List, [], ◌∷◌, length, Option, Some, None, refl, sym, ap, ◌∙◌, arith}
use Rattle.pages.specs.declared.access.Store.{Store}
use Rattle.pages.specs.Memory.{covered, covers, width_bytes}
use Rattle.round_schedule.specs.declared.span.Span.{Span}
use Rattle.round_schedule.specs.Held.{any_byte, unless}
use Rattle.round_schedule.specs.Reservations.{entry, Breaks}

no_byte : (f : ℕ → Bool) (a n : ℕ) → ((x : ℕ) → f x ≡ false) → any_byte f a n ≡ false
no_byte f a zero h = refl
no_byte f a (suc n) h = ap (λ (b : Bool). b || any_byte f (a + 1) n) (h a) ∙ no_byte f (a + 1) n h

same_bytes : (f g : ℕ → Bool) (a n : ℕ) → ((x : ℕ) → f x ≡ g x) → any_byte f a n ≡ any_byte g a n
same_bytes f g a zero h = refl
same_bytes f g a (suc n) h = ap (λ (b : Bool). b || any_byte f (a + 1) n) (h a) ∙ ap (λ (b : Bool). g a || b) (same_bytes f g (a + 1) n h)

-- tests that say the same break the same
pub unless_same : (f g : ℕ → Bool) (r : Option Span) → ((x : ℕ) → f x ≡ g x) → unless f r ≡ unless g r
unless_same f g None h = refl
unless_same f g (Some s) h = ap (λ (b : Bool). cond b None (Some s)) (same_bytes f g s.address (width_bytes s.width) h)

regroup : (p q r s : Bool) → ((p || q) || (r || s)) ≡ ((p || r) || (q || s))
regroup true q r s = refl
regroup false true true s = refl
regroup false true false s = refl
regroup false false r s = refl

either_byte : (f g : ℕ → Bool) (a n : ℕ) → any_byte (λ x. f x || g x) a n ≡ (any_byte f a n || any_byte g a n)
either_byte f g a zero = refl
either_byte f g a (suc n) =
    ap (λ (b : Bool). (f a || g a) || b) (either_byte f g (a + 1) n) ∙ regroup (f a) (g a) (any_byte f (a + 1) n) (any_byte g (a + 1) n)

in_turn : (b : Bool) (g : ℕ → Bool) (s : Span) → unless g (cond b None (Some s)) ≡ cond (b || any_byte g s.address (width_bytes s.width)) None (Some s)
in_turn true g s = refl
in_turn false g s = refl

-- two tests in turn break what either breaks
pub unless_unless : (f g : ℕ → Bool) (r : Option Span) → unless g (unless f r) ≡ unless (λ x. f x || g x) r
unless_unless f g None = refl
unless_unless f g (Some s) =
    in_turn (any_byte f s.address (width_bytes s.width)) g s
    ∙ ap (λ (b : Bool). cond b None (Some s)) (sym (either_byte f g s.address (width_bytes s.width)))

-- what stores of hart i leave of the reservation of hart h
abbrev pub left_of : ℕ → List Store → ℕ → Option Span → Option Span
left_of i ss h r = cond (i == h) r (unless (covered ss) r)

-- what the rest of the stores will leave of the list now is what all of them leave of the old one
pub record Breaking (i : ℕ) (ss rest : List Store) (old now : List (Option Span)) : Type 0 where
  pub size : length now ≡ length old
  pub each : (h : ℕ) → h < length old → left_of i rest h (entry now h) ≡ left_of i ss h (entry old h)

one_store : (t : Bool) (s : Store) (rest : List Store) (r : Option Span) → cond t (cond t r (unless (covers s) r)) (unless (covered rest) (cond t r (unless (covers s) r))) ≡ cond t r (unless (covered (s ∷ rest)) r)
one_store true s rest r = refl
one_store false s rest r = unless_unless (covers s) (covered rest) r

pub breaking_next : (i : ℕ) (ss rest : List Store) (s : Store) (old now new : List (Option Span)) → Breaks i (record { address = s.address; width = s.width }) now new → Breaking i ss (s ∷ rest) old now → Breaking i ss rest old new
breaking_next i ss rest s old now new b k = record {
  size = b.size ∙ k.size;
  each = λ h low.
      let there : h < length now = omega (arith, k.size) in
      ap (left_of i rest h) (b.each h there) ∙ one_store (i == h) s rest (entry now h) ∙ k.each h low;
}

-- what a buffer breaks, and then those after it
pub one_buffer : (t : Bool) (f g : ℕ → Bool) (r : Option Span) → unless g (cond t r (unless f r)) ≡ unless (λ x. cond t false (f x) || g x) r
one_buffer true f g r = refl
one_buffer false f g r = unless_unless f g r
