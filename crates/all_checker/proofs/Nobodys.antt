-- The bytes that are looked at are nobody's own, where each own doubleword is unseen.
use Rattle.std.proofs.Common.{◌≡◌, ◌≢◌, ℕ, ◌==◌, ◌&&◌, ◌||◌, ◌/◌, Bool, true, false, List, [], ◌∷◌, All, get_or, refl, sym}
use Rattle.std.proofs.lemmas.Bool.{ne_eqb}
use Rattle.std.proofs.lemmas.List.Elements.{All-contains, All-head, All-tail}
use Rattle.pages.specs.declared.access.Range.{Range}
use Rattle.own_moves.specs.Owned.{owns_of}
use Rattle.own_moves.specs.declared.owned.OwnDoubleword.{OwnDoubleword}
use Rattle.private_bytes.specs.PrivateWalks.{AreNobodys}
use Rattle.all_checker.specs.Owning.{IsUnseen, Misses}

both_no : (a b c : Bool) → b ≡ false → c ≡ false → ((a && b) || c) ≡ false
both_no true b c e f = let g : b ≡ false = e in cc
both_no false b c e f = f

unowned : (os : List OwnDoubleword) (h d : ℕ) → All (λ (o : OwnDoubleword). d ≢ o.number) os → owns_of os h d ≡ false
unowned [] h d none = refl
unowned (o ∷ os) h d none =
    both_no (o.hart == h) (o.number == d) (owns_of os h d) (ne_eqb o.number d (λ e. All-head (λ (p : OwnDoubleword). d ≢ p.number) o os none (sym e)))
    (unowned os h d (All-tail (λ (p : OwnDoubleword). d ≢ p.number) o os none))

pub nobodys : (os : List OwnDoubleword) (see : List Range) → All (λ (o : OwnDoubleword). IsUnseen o.number see) os → (harts : ℕ) → AreNobodys (owns_of os) harts see
nobodys os see unseen harts r x h there within small =
    unowned os h (x / 8) (λ k d l. All-contains (Misses (get_or os k d).number) see r (unseen k d l) there x within)
