-- Words on tests and pairs of equations.
use Rattle.std.proofs.Common.{◌≡◌, ◌||◌, Bool, true, false, if◌then◌else◌, refl, sym, ◌∙◌, ap}
use Rattle.std.proofs.lemmas.Bool.{false≢true}

pub pair : {X Y Z : Type 0} (f : X → Y → Z) (x u : X) (y v : Y) → x ≡ u → y ≡ v → f x y ≡ f u v
pair f x u y v e d = ap (λ (z : _). f z y) e ∙ ap (f u) d

pub choose : {X Y : Type 0} (R : X → Y → Type 0) (a b : Bool) (x u : X) (y v : Y) → a ≡ b → R x y → (a ≡ false → R u v) → R (if a then x else u) (if b then y else v)
choose R true true x u y v e f g = f
choose R false false x u y v e f g = g refl
choose R true false x u y v e f g = absurd (false≢true (sym e))
choose R false true x u y v e f g = absurd (false≢true e)

pub picked : {A : Type 0} (b : Bool) (x y : A) → b ≡ true → (if b then x else y) ≡ x
picked true x y e = refl
picked false x y e = absurd (false≢true e)

pub picked_not : {A : Type 0} (b : Bool) (x y : A) → b ≡ false → (if b then x else y) ≡ y
picked_not true x y e = absurd (false≢true (sym e))
picked_not false x y e = refl

pub neither : (a b : Bool) → (a || b) ≡ false → (a ≡ false) × (b ≡ false)
neither true b e = absurd (false≢true (sym e))
neither false b e = (refl, e)

pub both_no : (a b : Bool) → a ≡ false → b ≡ false → (a || b) ≡ false
both_no true b e f = e
both_no false b e f = f
