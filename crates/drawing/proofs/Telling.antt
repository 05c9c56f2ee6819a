-- What is told of one event more.
use Rattle.std.proofs.Common.{◌≡◌, ℕ, zero, suc, ◌+◌, ◌<◌, List, [], ◌∷◌, ◌++◌, length, get_or, map, take, Option, option_map, refl, ap, ◌∙◌, arith}
use Rattle.std.proofs.lemmas.List.{get_or-map, map-append}
use Rattle.round_schedule.specs.declared.event.Event.{Event}
use Rattle.round_planner.specs.declared.settings.Format.{Format}
use Rattle.elf_loader.specs.Offsets.{NamedOffset, as_offset}
use Rattle.picture.specs.Titles.{Told, told}
use Rattle.picture.specs.declared.site.Site.{Site}
use Rattle.drawing.specs.Drawn.{object_touched, told_by}

-- one more of a list is told
snoc : {X A : Type 0} (f : X → A) (xs : List X) (i : ℕ) (d : X) → i < length xs → map f (take i xs) ++ f (get_or xs i d) ∷ [] ≡ map f (take (i + 1) xs)
snoc f [] i d lt = absurd (omega (arith, lt))
snoc f (z ∷ zs) zero d lt = refl
snoc f (z ∷ zs) (suc i) d lt = let n : suc i + 1 ≡ suc (i + 1) = omega arith in rw n (ap (λ ys. f z ∷ ys) (snoc f zs i d (omega (arith, lt))))

one_more : {X A : Type 0} (f : X → A) (xs : List X) (i : ℕ) (d : X) (a : A) (old new : List A) → i < length xs → old ≡ map f (take i xs) → new ≡ old ++ a ∷ [] → a ≡ f (get_or xs i d) → new ≡ map f (take (i + 1) xs)
one_more f xs i d a old new lt o n e = n ∙ ap (λ z. z ++ a ∷ []) o ∙ ap (λ z. map f (take i xs) ++ z ∷ []) e ∙ snoc f xs i d lt

-- what a site tells
pub told_is : (s : Site) (format : Format) (file : List ℕ) (e : Event) (pc : Option ℕ) → s.pc ≡ pc → option_map as_offset s.object ≡ object_touched format file e → told s ≡ told_by format file e pc
told_is s format file e pc p o = ap (λ (q : Option ℕ). pair q (option_map as_offset s.object)) p ∙ ap (pair pc) o
  where
    pair : Option ℕ → Option NamedOffset → Told
    pair q x = record { pc = q; object = x }

pub told_more : (format : Format) (file : List ℕ) (events : List Event) (pcs : List (Option ℕ)) (f : Event → Option ℕ) (i : ℕ) (d : Event) (p : Option ℕ) (sites new : List Site) (s : Site) →
    i < length events → pcs ≡ map f events → new ≡ sites ++ s ∷ [] → told s ≡ told_by format file (get_or events i d) (get_or pcs i p) →
    map told sites ≡ map (λ e. told_by format file e (f e)) (take i events) → map told new ≡ map (λ e. told_by format file e (f e)) (take (i + 1) events)
told_more format file events pcs f i d p sites new s lt same push is old =
    one_more (λ e. told_by format file e (f e)) events i d (told s) (map told sites) (map told new) lt old (ap (map told) push ∙ map-append told sites (s ∷ []))
    (is ∙ ap (told_by format file (get_or events i d)) (ap (λ (ps : List (Option ℕ)). get_or ps i p) same ∙ get_or-map f events i d p lt))
