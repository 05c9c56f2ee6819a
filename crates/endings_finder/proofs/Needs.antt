-- Of a fence that a guest needs or doesn't need: what a table of all its endings shows.
use Rattle.std.proofs.Common.{◌≡◌, ◌∙◌, ℕ, ◌<◌, zero, suc, List, [], ◌∷◌, length, map, get_or, Contains, sym, ap, subst, arith}
use Rattle.elf_loader.specs.Image.{Loaded}
use Rattle.all_endings.specs.Endings.{Ending}
use Rattle.ending_judge.specs.JudgedEndings.{ending_in}
use Rattle.endings_finder.specs.AllEndings.{AreAllowed, CanEnd, HasAll, guest_from}
use Rattle.endings_finder.specs.Checked.{AreNews, HasNews}
use Rattle.endings_finder.specs.Fences.{IsEndingOf, EndsWithin, HasFence, IsNeedOf, IsNeeded, IsToldFence, IsUnneeded, without}
use Rattle.endings_table.specs.declared.fence_need.Need.{Need}
use Rattle.endings_table.specs.declared.fence_need.Need.TheVariants.{Needed, Unknown, Unneeded, Waits}
use Rattle.endings_table.specs.declared.found_ending.FoundEnding.{FoundEnding}
use Rattle.execution_makers.specs.declared.scripted.ScriptedGuest.{ScriptedGuest}
use Rattle.guest_rounds.specs.Guests.{Guest}
use Rattle.hart_ends.proofs.Told.{told_by}
use Rattle.hunt_table.specs.declared.seen_range.SeenRange.{SeenRange}

-- an ending within the bound is one of all
among : (g : Guest) (ranges : List SeenRange) (k : ℕ) (es : List FoundEnding) (e : Ending) → HasAll g ranges k es → EndsWithin k g ranges e → Contains (map ending_in es) e
among g ranges k es e all h = subst (λ (x : Ending). Contains (map ending_in es) x) (sym h.so.ending) (all h.so.end h.so.order h.so.execution h.so.allowed h.ended h.short)

-- one of these endings is allowed
allowed_among : (g : Guest) (ranges : List SeenRange) (es : List FoundEnding) (e : Ending) → AreAllowed g ranges es → Contains (map ending_in es) e → IsEndingOf g ranges e
allowed_among g ranges es e allowed there =
    let x = told_by ending_in es e there in
    let f : IsEndingOf g ranges (ending_in x.0) = subst (λ (y : FoundEnding). CanEnd g ranges y) x.1.2 (allowed x.1.0 x.0 x.1.1) in
    subst (λ (y : Ending). IsEndingOf g ranges y) x.2 f

-- a fence is unneeded where all endings without it are among those with it
pub unneeded_so : (k : ℕ) (with_it without_it : Guest) (ranges : List SeenRange) (es : List FoundEnding) → AreAllowed with_it ranges es → HasAll without_it ranges k es →
    IsUnneeded k with_it without_it ranges
unneeded_so k with_it without_it ranges es allowed all = λ e h. allowed_among with_it ranges es e allowed (among without_it ranges k es e all h)

-- it is needed where one without it is none of all with it
needed_so : (k : ℕ) (with_it without_it : Guest) (ranges : List SeenRange) (es fs : List FoundEnding) → HasAll with_it ranges k es → AreAllowed without_it ranges fs → HasNews fs es →
    IsNeeded k with_it without_it ranges
needed_so k with_it without_it ranges es fs all allowed news = record {
  ending = ending_in news.ending;
  stopped = news.stopped;
  has = subst (λ (y : FoundEnding). CanEnd without_it ranges y) news.there.2 (allowed news.there.0 news.ending news.there.1);
  is_new = λ h. news.is_new (among with_it ranges k es (ending_in news.ending) all h);
}

-- what endings without it show that are none of all with it
pub news_so : (k : ℕ) (with_it without_it : Guest) (ranges : List SeenRange) (es fs : List FoundEnding) (need : Need) → HasAll with_it ranges k es → AreAllowed without_it ranges fs →
    AreNews fs es need → IsNeedOf k with_it without_it ranges need
news_so k with_it without_it ranges es fs Needed all allowed news = needed_so k with_it without_it ranges es fs all allowed news
news_so k with_it without_it ranges es fs Waits all allowed news = tt
news_so k with_it without_it ranges es fs Unneeded all allowed news = absurd news
news_so k with_it without_it ranges es fs (Unknown why) all allowed news = absurd news

-- what is found of a program is told of the fence that it is without
pub told_so : (k : ℕ) (image loaded program : Loaded) (g : ScriptedGuest) (ranges : List SeenRange) (pc : ℕ) (need : Need) → HasFence image pc → image ≡ loaded → program ≡ without loaded pc →
    IsNeedOf k (guest_from image g) (guest_from program g) ranges need → IsToldFence k image g.input.now g.harts ranges (record { pc = pc; need = need })
told_so k image loaded program g ranges pc need there same is so = record {
  there = there;
  need = subst (λ (p : Loaded). IsNeedOf k (guest_from image g) (guest_from p g) ranges need) (is ∙ ap (λ (i : Loaded). without i pc) (sym same)) so;
}

same_first : {Y : Type 0} (u v : Y) (us vs : List Y) → u ∷ us ≡ v ∷ vs → u ≡ v
same_first u v us vs e = cc

same_rest : {Y : Type 0} (u v : Y) (us vs : List Y) → u ∷ us ≡ v ∷ vs → us ≡ vs
same_rest u v us vs e = cc

-- lists that are told alike are so at each place
pub alike_at : {X Y : Type 0} (f : X → Y) (a b : List X) (i : ℕ) (x y : X) → i < length a → i < length b → map f a ≡ map f b → f (get_or a i x) ≡ f (get_or b i y)
alike_at f [] b i x y l m same = absurd (omega (arith, l))
alike_at f (u ∷ a) [] i x y l m same = absurd (omega (arith, m))
alike_at f (u ∷ a) (v ∷ b) zero x y l m same = same_first (f u) (f v) (map f a) (map f b) same
alike_at f (u ∷ a) (v ∷ b) (suc i) x y l m same = alike_at f a b i x y (omega (arith, l)) (omega (arith, m)) (same_rest (f u) (f v) (map f a) (map f b) same)
