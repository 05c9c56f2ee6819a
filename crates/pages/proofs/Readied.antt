-- A spare page in the place of one that is not ready.
use Rattle.std.proofs.Common.{◌≡◌, ℕ, suc, zero, ◌+◌, ◌<◌, List, [], ◌∷◌, ◌++◌, length, map, replicate, take, get_or, set, refl, sym, ap, ◌∙◌, arith, Bool, true, false, cond, not, Option, None, Some, IfSome}
use Rattle.std.proofs.lemmas.List.{map-set, get_or-map, length-map, set-get_or, replicate_more, take_more, take_more_set}
use Rattle.std.proofs.lemmas.List.Sums.{sum_by-set}
use Rattle.pages.specs.Flat.{Page, absent, full, flat, is_ready}
use Rattle.pages.specs.PagesHold.{IsCounted}
use Rattle.pages.specs.Paged.{all_ready, count_unready}
use Rattle.pages.proofs.FlatPages.{flat-set_same}

pub flat-readied : (ps : List Page) (i : ℕ) (p q : Page) → i < length ps → p ≡ get_or ps i absent → full q ≡ full p → flat (set ps i q) ≡ flat ps
flat-readied ps i p q l is e = flat-set_same ps i q l (e ∙ ap full is)

pub ready-readied : (ps : List Page) (i : ℕ) (q : Page) (b : Bool) → is_ready q ≡ b → map is_ready (set ps i q) ≡ set (map is_ready ps) i b
ready-readied ps i q b e = map-set is_ready ps i q ∙ ap (set (map is_ready ps) i) e

-- a page that is ready is made ready by doing nothing
pub already_ready : (ps : List Page) (i : ℕ) → i < length ps → is_ready (get_or ps i absent) ≡ true → map is_ready ps ≡ set (map is_ready ps) i true
already_ready ps i l h = sym (set-get_or (map is_ready ps) i false) ∙ ap (set (map is_ready ps) i) (get_or-map is_ready ps i absent false l ∙ h)

-- making a page ready takes no page's readiness away
pub stays_ready : (rs : List Bool) (i p : ℕ) → get_or rs p false ≡ true → get_or (set rs i true) p false ≡ true
stays_ready [] i p h = h
stays_ready (r ∷ rs) zero zero h = refl
stays_ready (r ∷ rs) zero (suc p) h = h
stays_ready (r ∷ rs) (suc i) zero h = h
stays_ready (r ∷ rs) (suc i) (suc p) h = stays_ready rs i p h

pub ready_more : (rs : List Bool) (ns : List ℕ) (n : ℕ) → all_ready rs (ns ++ n ∷ []) ≡ set (all_ready rs ns) n true
ready_more rs [] n = refl
ready_more rs (m ∷ ns) n = ready_more (set rs m true) ns n

pub ready_next : (rs : List Bool) (ns : List ℕ) (i : ℕ) → i < length ns → all_ready rs (take (i + 1) ns) ≡ set (all_ready rs (take i ns)) (get_or ns i 0) true
ready_next rs ns i l = ap (all_ready rs) (take_more ns i 0 l) ∙ ready_more rs (take i ns) (get_or ns i 0)

-- one more page that is not ready
pub unready_more : (rs qs : List Bool) (i : ℕ) → i < length rs → take i rs ≡ replicate i false → qs ≡ set rs i false → take (i + 1) qs ≡ replicate (i + 1) false
unready_more rs qs i l e is = ap (take (i + 1)) is ∙ take_more_set rs i false l ∙ ap (λ r. r ++ false ∷ []) e ∙ replicate_more i false

-- one page less is not ready
one_less : (rs : List Bool) (i : ℕ) → i < length rs → get_or rs i false ≡ false → count_unready rs ≡ count_unready (set rs i true) + 1
one_less rs i l e =
    let f : Bool → ℕ = λ (b : Bool). cond (not b) 1 0 in
    omega (arith, sum_by-set f rs i true false l, ap f e)

-- the same, of the number that is noted
pub some_left : (n : Option ℕ) (ps : List Page) (i : ℕ) → i < length ps → is_ready (get_or ps i absent) ≡ false → IsCounted n (map is_ready ps) → IfSome n (λ k. 0 < k)
some_left None ps i l e c = c
some_left (Some k) ps i l e c =
    omega (arith, c, one_less (map is_ready ps) i (omega (arith, length-map ps is_ready)) (get_or-map is_ready ps i absent false l ∙ e))

pub count_left : (n : Option ℕ) (ps : List Page) (i : ℕ) (q : Page) → i < length ps → is_ready (get_or ps i absent) ≡ false → is_ready q ≡ true → IsCounted n (map is_ready ps) → IfSome n (λ k. k ≡ count_unready (map is_ready (set ps i q)) + 1)
count_left None ps i q l e r c = c
count_left (Some k) ps i q l e r c =
    c ∙ one_less (map is_ready ps) i (omega (arith, length-map ps is_ready)) (get_or-map is_ready ps i absent false l ∙ e)
    ∙ ap (λ rs. count_unready rs + 1) (sym (ready-readied ps i q true r))
