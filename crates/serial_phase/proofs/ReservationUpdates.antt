-- The list of reservations after the calls that each access makes.
use Rattle.std.proofs.Common.{◌≡◌, ℕ, zero, suc, ◌+◌, ◌<◌, ◌==◌, ◌||◌, Bool, true, false, cond, List, [], ◌∷◌, length, Option, Some, None, refl, sym, ap, ◌∙◌, arith}
use Rattle.std.proofs.lemmas.List.{ext_get_or}
use Rattle.pages.specs.declared.access.Width.{Width}
use Rattle.pages.specs.Memory.{width_bytes, in_range}
use Rattle.rv64_decode.specs.declared.ordering.AcquireRelease.{AcquireRelease}
use Rattle.round_schedule.specs.declared.access.Access.{Access}
use Rattle.round_schedule.specs.declared.access.Access.TheVariants.{Store, LoadReserved, StoreConditional, Atomic}
use Rattle.round_schedule.specs.declared.span.Span.{Span}
use Rattle.round_schedule.specs.Accesses.{writes}
use Rattle.round_schedule.specs.ReservingTurn.{updated}
use Rattle.round_schedule.specs.Held.{any_byte, unless, held_after_own}
use Rattle.round_schedule.specs.Reservations.{entry, Sets, Drops, Breaks}

pub length-updated : (i j : ℕ) (a : Access) (reservations : List (Option Span)) → length (updated i j a reservations) ≡ length reservations
length-updated i j a [] = refl
length-updated i j a (r ∷ rs) = ap suc (length-updated i (suc j) a rs)

entry-updated : (i j : ℕ) (a : Access) (reservations : List (Option Span)) (h : ℕ) → h < length reservations →
    entry (updated i j a reservations) h ≡ cond (i == j + h) (held_after_own a (entry reservations h)) (unless (writes a) (entry reservations h))
entry-updated i j a [] h low = absurd (omega arith)
entry-updated i j a (r ∷ rs) zero low = ap (λ (k : ℕ). cond (i == k) (held_after_own a r) (unless (writes a) r)) (omega arith)
entry-updated i j a (r ∷ rs) (suc h) low =
    entry-updated i (suc j) a rs h (omega arith)
    ∙ ap (λ (k : ℕ). cond (i == k) (held_after_own a (entry rs h)) (unless (writes a) (entry rs h))) (omega arith)

-- a reservations whose entries are those after an access
pub updated_is : (i : ℕ) (a : Access) (old new : List (Option Span)) → length new ≡ length old →
    ((h : ℕ) → h < length old → entry new h ≡ cond (i == h) (held_after_own a (entry old h)) (unless (writes a) (entry old h))) → new ≡ updated i 0 a old
updated_is i a old new size each =
    ext_get_or None new (updated i 0 a old) (size ∙ sym (length-updated i 0 a old)) (λ h low.
    each h (omega (arith, size))
    ∙ ap (λ (k : ℕ). cond (i == k) (held_after_own a (entry old h)) (unless (writes a) (entry old h))) (omega arith)
    ∙ sym (entry-updated i 0 a old h (omega (arith, size))))

none_passes : (f : ℕ → Bool) (a n : ℕ) → ((x : ℕ) → f x ≡ false) → any_byte f a n ≡ false
none_passes f a zero h = refl
none_passes f a (suc n) h = ap (λ (b : Bool). b || any_byte f (a + 1) n) (h a) ∙ none_passes f (a + 1) n h

-- nothing is written, and nothing is broken
pub quiet : (f : ℕ → Bool) (r : Option Span) → ((x : ℕ) → f x ≡ false) → unless f r ≡ r
quiet f None h = refl
quiet f (Some s) h = ap (λ (b : Bool). cond b None (Some s)) (none_passes f s.address (width_bytes s.width) h)

either : {A : Type 0} (b : Bool) (x y z : A) → (y ≡ z) → cond b x y ≡ cond b x z
either b x y z e = ap (cond b x) e

same_either : {A : Type 0} (b : Bool) (x : A) → cond b x x ≡ x
same_either true x = refl
same_either false x = refl

-- an access that writes nothing and is no LR or SC leaves the reservations
pub reservations_stay : (i : ℕ) (a : Access) (reservations : List (Option Span)) → ((x : ℕ) → writes a x ≡ false) → ((r : Option Span) → held_after_own a r ≡ r) → reservations ≡ updated i 0 a reservations
reservations_stay i a reservations none own = updated_is i a reservations reservations refl (λ h low.
    sym (ap (λ (r : Option Span). cond (i == h) r (unless (writes a) (entry reservations h))) (own (entry reservations h))
    ∙ either (i == h) (entry reservations h) (unless (writes a) (entry reservations h)) (entry reservations h) (quiet (writes a) (entry reservations h) none)
    ∙ same_either (i == h) (entry reservations h)))

pub reservations_reserved : (i : ℕ) (w : Width) (o : AcquireRelease) (p x v : ℕ) (old new : List (Option Span)) → Sets i (record { address = x; width = w }) old new → new ≡ updated i 0 (LoadReserved w o p x v) old
reservations_reserved i w o p x v old new s = updated_is i (LoadReserved w o p x v) old new s.size (λ h low.
    s.each h low ∙ either (i == h) (Some (record { address = x; width = w })) (entry old h) (unless (writes (LoadReserved w o p x v)) (entry old h)) (sym (quiet (writes (LoadReserved w o p x v)) (entry old h) (λ y. refl))))

pub reservations_failed : (i : ℕ) (w : Width) (o : AcquireRelease) (p x : ℕ) (old new : List (Option Span)) → Drops i old new → new ≡ updated i 0 (StoreConditional w o p x None) old
reservations_failed i w o p x old new d = updated_is i (StoreConditional w o p x None) old new d.size (λ h low.
    d.each h low ∙ either (i == h) None (entry old h) (unless (writes (StoreConditional w o p x None)) (entry old h)) (sym (quiet (writes (StoreConditional w o p x None)) (entry old h) (λ y. refl))))

pub reservations_stored : (i : ℕ) (w : Width) (p x v : ℕ) (old new : List (Option Span)) → Breaks i (record { address = x; width = w }) old new → new ≡ updated i 0 (Store w p x v) old
reservations_stored i w p x v old new b = updated_is i (Store w p x v) old new b.size b.each

pub reservations_exchanged : (i : ℕ) (w : Width) (o : AcquireRelease) (p x r v : ℕ) (old new : List (Option Span)) → Breaks i (record { address = x; width = w }) old new → new ≡ updated i 0 (Atomic w o p x r v) old
reservations_exchanged i w o p x r v old new b = updated_is i (Atomic w o p x r v) old new b.size b.each

by_owner : (b : Bool) (f : ℕ → Bool) (x y z : Option Span) → y ≡ cond b None x → z ≡ cond b y (unless f y) → z ≡ cond b None (unless f x)
by_owner true f x y z e g = g ∙ e
by_owner false f x y z e g = g ∙ ap (unless f) e

pub reservations_succeeded : (i : ℕ) (w : Width) (o : AcquireRelease) (p x v : ℕ) (old mid new : List (Option Span)) → Drops i old mid → Breaks i (record { address = x; width = w }) mid new → new ≡ updated i 0 (StoreConditional w o p x (Some v)) old
reservations_succeeded i w o p x v old mid new d b = updated_is i (StoreConditional w o p x (Some v)) old new (b.size ∙ d.size) (λ h low.
    by_owner (i == h) (in_range x (width_bytes w)) (entry old h) (entry mid h) (entry new h) (d.each h low) (b.each h (omega (arith, d.size))))
