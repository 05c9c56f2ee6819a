-- Facts of what the rounds left, hart by hart.
use Rattle.std.proofs.Common.{◌≡◌, Bool, ℕ, zero, suc, ◌+◌, ◌/◌, ◌<◌, List, [], ◌∷◌, ◌++◌, length, take, get_or, refl, sym, ap, ◌∙◌, subst, arith, below_more}
use Rattle.std.proofs.lemmas.List.{take_more, get_or_default}
use Rattle.pages.specs.Memory.{Memory}
use Rattle.pages.specs.Paged.{Paged}
use Rattle.round_schedule.specs.Schedule.{HartRound}
use Rattle.hart_step.specs.declared.hart.Hart.{Hart}
use Rattle.hart_rounds.specs.declared.hart_end.HartEnd.{HartEnd}
use Rattle.guest_rounds.specs.HartEnds.{AllFit, AllOnReady, AreFit, AreReady, AreEndsOf, KeepsPages, harts_of}

pub fit_at : (m : Memory) (os : List HartEnd) (i : ℕ) (d : HartEnd) → i < length os → AreFit m os → AllFit m (get_or os i d).buffer
fit_at m [] i d low f = absurd (omega arith)
fit_at m (o ∷ os) zero d low f = f.0
fit_at m (o ∷ os) (suc i) d low f = fit_at m os i d (omega arith) f.1

pub same_length : (logs : Bool) (m : Memory) (rs : List (HartRound Hart)) (os : List HartEnd) → AreEndsOf logs m rs os → length rs ≡ length os
same_length logs m [] [] a = refl
same_length logs m (r ∷ rs) [] a = absurd a
same_length logs m [] (o ∷ os) a = absurd a
same_length logs m (r ∷ rs) (o ∷ os) a = ap suc (same_length logs m rs os a.1)

-- ---- pages that are made ready

pub record KeepsAll (p q : Paged) (os : List HartEnd) (i : ℕ) : Type 0 where
  pub keeps : KeepsPages p q
  pub ready : (k : ℕ) (d : HartEnd) → k < i → AllOnReady q (get_or os k d).buffer

pub keeps_first : (p : Paged) → KeepsPages p p
keeps_first p = record { memory = refl; count = refl; stays = λ page h. h }

pub keeps_more : (p q r : Paged) → KeepsPages p q → KeepsPages q r → KeepsPages p r
keeps_more p q r a b = record { memory = b.memory ∙ a.memory; count = b.count ∙ a.count; stays = λ page h. b.stays page (a.stays page h) }

still_on : (p q : Paged) (es : List (ℕ × ℕ)) → KeepsPages p q → AllOnReady p es → AllOnReady q es
still_on p q es k f = λ j d low. k.stays ((get_or es j d).0 / 4096) (f j d low)

pub all_ready : (q : Paged) (os : List HartEnd) → ((k : ℕ) (d : HartEnd) → k < length os → AllOnReady q (get_or os k d).buffer) → AreReady q os
all_ready q [] f = tt
all_ready q (o ∷ os) f = (f 0 o (omega arith), all_ready q os (λ k d low. f (suc k) d (omega arith)))

below_or_at : (P : ℕ → Type 0) (i : ℕ) → ((k : ℕ) → k < i → P k) → P i → (k : ℕ) → k < i + 1 → P k
below_or_at P i f g k low = below_more P i f g k low

pub keeps_all_more : (p q r : Paged) (os : List HartEnd) (i : ℕ) (e : HartEnd) → i < length os → KeepsPages q r → AllOnReady r (get_or os i e).buffer → KeepsAll p q os i → KeepsAll p r os (i + 1)
keeps_all_more p q r os i e low k f a = record {
  keeps = keeps_more p q r a.keeps k;
  ready = λ j d less. below_or_at (λ n. AllOnReady r (get_or os n d).buffer) i (λ n h. still_on q r (get_or os n d).buffer k (a.ready n d h))
      (subst (λ (o : HartEnd). AllOnReady r o.buffer) (get_or_default os i e d low) f) j less;
}

pub harts-push : (os : List HartEnd) (o : HartEnd) → harts_of (os ++ o ∷ []) ≡ harts_of os ++ o.hart ∷ []
harts-push [] o = refl
harts-push (x ∷ os) o = ap (λ (hs : List Hart). x.hart ∷ hs) (harts-push os o)

pub harts_more : (os : List HartEnd) (i : ℕ) (o : HartEnd) (hs new : List Hart) → i < length os → o ≡ get_or os i o → new ≡ hs ++ o.hart ∷ [] → hs ≡ harts_of (take i os) → new ≡ harts_of (take (i + 1) os)
harts_more os i o hs new low here more e =
    more ∙ ap (λ (x : List Hart). x ++ o.hart ∷ []) e ∙ sym (harts-push (take i os) o) ∙ ap harts_of (sym (take_more os i o low ∙ ap (λ (x : HartEnd). take i os ++ x ∷ []) (sym here)))

pub ready_stay : (p q : Paged) (os : List HartEnd) → KeepsPages p q → AreReady p os → AreReady q os
ready_stay p q [] k f = tt
ready_stay p q (o ∷ os) k f = (still_on p q o.buffer k f.0, ready_stay p q os k f.1)

pub are_fit : (logs : Bool) (m : Memory) (rs : List (HartRound Hart)) (os : List HartEnd) → AreEndsOf logs m rs os → AreFit m os
are_fit logs m [] [] a = tt
are_fit logs m (r ∷ rs) [] a = absurd a
are_fit logs m [] (o ∷ os) a = absurd a
are_fit logs m (r ∷ rs) (o ∷ os) a = (a.0.fits, are_fit logs m rs os a.1)
