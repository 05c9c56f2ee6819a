-- The reservation that a fold over the trace tells is that of the last LR, unbroken.
use Rattle.std.proofs.Common.{◌≡◌, ◌≢◌, ℕ, zero, suc, ◌+◌, ◌<◌, ◌≤◌, ◌==◌, ◌||◌, Bool, true, false, if◌then◌else◌, List, [], ◌∷◌, ◌++◌, length, Option, Some, None, refl, sym, ◌∙◌, ap, subst, inl, inr, ◌⊎◌, arith}
use Rattle.std.proofs.lemmas.Bool.{cases_lt, cases_eq}
use Rattle.std.proofs.lemmas.Bool.Decides.{nat_tests}
use Rattle.pages.specs.Memory.{in_range, width_bytes}
use Rattle.round_schedule.specs.declared.access.Access.{Access}
use Rattle.round_schedule.specs.declared.access.Access.TheVariants.{Load, Store, LoadReserved, StoreConditional, Atomic, Fence}
use Rattle.round_schedule.specs.declared.event.Event.{Event}
use Rattle.round_schedule.specs.declared.span.Span.{Span}
use Rattle.round_schedule.specs.Accesses.{is_lr, is_sc, writes}
use Rattle.round_schedule.specs.Held.{any_byte, held, held_after, held_from, held_after_own, unless}
use Rattle.round_schedule.specs.HeldBy.{HeldBy, HeldIsByLastReserve}
use Rattle.round_schedule.specs.Positions.{event}
use Rattle.round_schedule.specs.Spans.{span_of}
use Rattle.round_schedule.proofs.Folds.{by_pushes, event_before, event_last, length_push}

pub held_from-append : (h : ℕ) (s : Option Span) (t u : List Event) → held_from h s (t ++ u) ≡ held_from h (held_from h s t) u
held_from-append h s [] u = refl
held_from-append h s (e ∷ t) u = held_from-append h (held_after h e s) t u

pub held-append : (h : ℕ) (t u : List Event) → held h (t ++ u) ≡ held_from h (held h t) u
unfolding held
held-append h t u = held_from-append h None t u

pub held_start : (h : ℕ) → held h [] ≡ None
unfolding held
held_start h = refl

held_push : (h : ℕ) (t : List Event) (e : Event) → held h (t ++ e ∷ []) ≡ held_after h e (held h t)
held_push h t e = held-append h t (e ∷ [])

-- what an own access does: it is an LR, an SC, or neither
own_cases : (a : Access) (r : Option Span) →
    ((is_lr a ≡ true) × (held_after_own a r ≡ span_of a)) ⊎ (((is_sc a ≡ true) × (held_after_own a r ≡ None)) ⊎ ((is_lr a || is_sc a) ≡ false) × (held_after_own a r ≡ r))
own_cases (Load w p a v) r = inr (inr (refl, refl))
own_cases (Store w p a v) r = inr (inr (refl, refl))
own_cases (LoadReserved w o p a v) r = inl (refl, refl)
own_cases (StoreConditional w o p a v) r = inr (inl (refl, refl))
own_cases (Atomic w o p a v u) r = inr (inr (refl, refl))
own_cases (Fence b a m p) r = inr (inr (refl, refl))

-- ---- bytes that pass a test

any_here : (f : ℕ → Bool) (a n x : ℕ) → a ≤ x → x < a + n → f x ≡ true → any_byte f a n ≡ true
any_here f a zero x l m e = absurd (omega (arith, l, m))
any_here f a (suc n) x l m e = elim (cases_eq a x) [
  | inl s ↦ left (f a) (any_byte f (a + 1) n) (ap f s ∙ e)
  | inr d ↦ right (f a) (any_byte f (a + 1) n) (any_here f (a + 1) n x (omega (arith, l, d)) (omega (arith, m)) e)
]
  where
    left : (b c : Bool) → b ≡ true → (b || c) ≡ true
    left b c h = rw h refl

    right : (b c : Bool) → c ≡ true → (b || c) ≡ true
    right true c h = refl
    right false c h = h

found_first : (f : ℕ → Bool) (a n : ℕ) (b : Bool) → f a ≡ b → (any_byte f (a + 1) n ≡ true → (x : ℕ) × (a + 1 ≤ x) × (x < a + 1 + n) × (f x ≡ true)) →
    (b || any_byte f (a + 1) n) ≡ true → (x : ℕ) × (a ≤ x) × (x < a + suc n) × (f x ≡ true)
found_first f a n true e rest h = (a, omega arith, omega arith, e)
found_first f a n false e rest h =
    let r : (x : ℕ) × (a + 1 ≤ x) × (x < a + 1 + n) × (f x ≡ true) = rest h in
    (r.0, omega (arith, r.1), omega (arith, r.2), r.3)

any_found : (f : ℕ → Bool) (a n : ℕ) → any_byte f a n ≡ true → (x : ℕ) × (a ≤ x) × (x < a + n) × (f x ≡ true)
any_found f a zero h = cc
any_found f a (suc n) h = found_first f a n (f a) refl (any_found f (a + 1) n) h

range_ends : (a n x : ℕ) → in_range a n x ≡ true → (a ≤ x) × (x < a + n)
range_ends a n x h = (low a n x h, high a n x h)
  where
    low : (a n x : ℕ) → in_range a n x ≡ true → a ≤ x
    low a n x h = grind (arith, nat_tests)

    high : (a n x : ℕ) → in_range a n x ≡ true → x < a + n
    high a n x h = grind (arith, nat_tests)

from_ends : (a n x : ℕ) → a ≤ x → x < a + n → in_range a n x ≡ true
from_ends a n x l m = grind (arith, nat_tests)

-- ---- places of a longer trace

last_or_before : (t : List Event) (e : Event) (k : ℕ) → k < length (t ++ e ∷ []) → (k < length t) ⊎ (k ≡ length t)
last_or_before t e k h = elim (cases_lt k (length t)) [ inl l ↦ inl l | inr l ↦ inr (omega (arith, l, h, length_push t e)) ]

fresh : (h : ℕ) (t : List Event) (e : Event) (s : Span) → e.hart ≡ h → is_lr e.access ≡ true → span_of e.access ≡ Some s → HeldBy (t ++ e ∷ []) h s (length t)
fresh h t e s own lr bytes =
    let here : event (t ++ e ∷ []) (length t) ≡ e = event_last t e in
    record {
      within = omega (arith, length_push t e);
      same_hart = ap (λ (f : Event). f.hart) here ∙ own;
      reserved = ap (λ (f : Event). is_lr f.access) here ∙ lr;
      bytes = ap (λ (f : Event). span_of f.access) here ∙ bytes;
      last = λ k l m. absurd (omega (arith, l, m, length_push t e));
      unbroken = λ k x l m. absurd (omega (arith, l, m, length_push t e));
    }

stays : (h : ℕ) (t : List Event) (e : Event) (s : Span) (l : ℕ) → HeldBy t h s l →
    (e.hart ≡ h → (is_lr e.access || is_sc e.access) ≡ true → ⊥) →
    ((x : ℕ) → e.hart ≢ h → in_range s.address (width_bytes s.width) x ≡ true → writes e.access x ≡ true → ⊥) →
    HeldBy (t ++ e ∷ []) h s l
stays h t e s l b own other =
    let here : event (t ++ e ∷ []) l ≡ event t l = event_before t (e ∷ []) l b.within in
    record {
      within = omega (arith, b.within, length_push t e);
      same_hart = ap (λ (f : Event). f.hart) here ∙ b.same_hart;
      reserved = ap (λ (f : Event). is_lr f.access) here ∙ b.reserved;
      bytes = ap (λ (f : Event). span_of f.access) here ∙ b.bytes;
      last = λ k m n. elim (last_or_before t e k n) [
        | inl f ↦ subst (λ (d : Event). d.hart ≡ h → (is_lr d.access || is_sc d.access) ≡ true → ⊥) (sym (event_before t (e ∷ []) k f)) (b.last k m f)
        | inr f ↦ subst (λ (d : Event). d.hart ≡ h → (is_lr d.access || is_sc d.access) ≡ true → ⊥) (sym (ap (event (t ++ e ∷ [])) f ∙ event_last t e)) own
      ];
      unbroken = λ k x m n. elim (last_or_before t e k n) [
        | inl f ↦ subst (λ (d : Event). d.hart ≢ h → in_range s.address (width_bytes s.width) x ≡ true → writes d.access x ≡ true → ⊥) (sym (event_before t (e ∷ []) k f)) (b.unbroken k x m f)
        | inr f ↦ subst (λ (d : Event). d.hart ≢ h → in_range s.address (width_bytes s.width) x ≡ true → writes d.access x ≡ true → ⊥) (sym (ap (event (t ++ e ∷ [])) f ∙ event_last t e)) (other x)
      ];
    }

older : (h : ℕ) (t : List Event) (e : Event) (l : ℕ) (s : Span) → l < length t → HeldBy (t ++ e ∷ []) h s l → HeldBy t h s l
older h t e l s f b =
    let here : event (t ++ e ∷ []) l ≡ event t l = event_before t (e ∷ []) l f in
    record {
      within = f;
      same_hart = sym (ap (λ (d : Event). d.hart) here) ∙ b.same_hart;
      reserved = sym (ap (λ (d : Event). is_lr d.access) here) ∙ b.reserved;
      bytes = sym (ap (λ (d : Event). span_of d.access) here) ∙ b.bytes;
      last = λ k m n. subst (λ (d : Event). d.hart ≡ h → (is_lr d.access || is_sc d.access) ≡ true → ⊥) (event_before t (e ∷ []) k n) (b.last k m (omega (arith, n, length_push t e)));
      unbroken = λ k x m n. subst (λ (d : Event). d.hart ≢ h → in_range s.address (width_bytes s.width) x ≡ true → writes d.access x ≡ true → ⊥) (event_before t (e ∷ []) k n)
          (b.unbroken k x m (omega (arith, n, length_push t e)));
    }

-- ---- whether the last event is the hart's own

own_test : (m h : ℕ) (b : Bool) → (m == h) ≡ b → (m ≡ h) ⊎ (m ≢ h)
own_test m h true e = inl (grind (arith, nat_tests))
own_test m h false e = inr (λ d. absurd (grind (arith, nat_tests)))

pub test_own : (m h : ℕ) → m ≡ h → (m == h) ≡ true
test_own m h e = grind (arith, nat_tests)

pub test_other : (m h : ℕ) → m ≢ h → (m == h) ≡ false
test_other m h d = grind (arith, nat_tests)

after_own : (h : ℕ) (e : Event) (r : Option Span) → e.hart ≡ h → held_after h e r ≡ held_after_own e.access r
after_own h e r o = rw (test_own e.hart h o) refl

after_other : (h : ℕ) (e : Event) (r : Option Span) → e.hart ≢ h → held_after h e r ≡ unless (writes e.access) r
after_other h e r o = rw (test_other e.hart h o) refl

-- ---- from the fold to the relation

HeldIs : ℕ → List Event → Type 0
HeldIs h t = (s : Span) → held h t ≡ Some s → (l : ℕ) × HeldBy t h s l

by_own : (h : ℕ) (t : List Event) (e : Event) (s : Span) → e.hart ≡ h → HeldIs h t → held_after_own e.access (held h t) ≡ Some s → (l : ℕ) × HeldBy (t ++ e ∷ []) h s l
unfolding HeldIs
by_own h t e s own before is = elim (own_cases e.access (held h t)) [
  | inl lr ↦ (length t, fresh h t e s own lr.0 (sym lr.1 ∙ is))
  | inr other ↦ elim other [
    | inl sc ↦ absurd (cc (sym sc.1 ∙ is))
    | inr neither ↦
        let was : (l : ℕ) × HeldBy t h s l = before s (sym neither.1 ∙ is) in
        (was.0, stays h t e s was.0 was.1 (λ o y. absurd (cc (sym neither.0 ∙ y))) (λ x d. absurd (d own)))
  ]
]

held_unless : (f : ℕ → Bool) (u s : Span) (b : Bool) → any_byte f u.address (width_bytes u.width) ≡ b → (if b then None else Some u) ≡ Some s → (b ≡ false) × (u ≡ s)
held_unless f u s true e is = cc
held_unless f u s false e is = (refl, cc)

by_other : (h : ℕ) (t : List Event) (e : Event) (s : Span) (r : Option Span) → e.hart ≢ h → held h t ≡ r → HeldIs h t → unless (writes e.access) r ≡ Some s →
    (l : ℕ) × HeldBy (t ++ e ∷ []) h s l
unfolding HeldIs
by_other h t e s None other was before is = cc
by_other h t e s (Some u) other was before is =
    let kept : (any_byte (writes e.access) u.address (width_bytes u.width) ≡ false) × (u ≡ s) =
    held_unless (writes e.access) u s (any_byte (writes e.access) u.address (width_bytes u.width)) refl is in
    let none : any_byte (writes e.access) s.address (width_bytes s.width) ≡ false = sym (ap (λ (v : Span). any_byte (writes e.access) v.address (width_bytes v.width)) kept.1) ∙ kept.0 in
    let found : (l : ℕ) × HeldBy t h s l = before s (was ∙ ap (λ (v : Span). Some v) kept.1) in (
      found.0,
      stays h t e s found.0 found.1 (λ o. absurd (other o))
          (λ x d i y.
          let ends : (s.address ≤ x) × (x < s.address + width_bytes s.width) = range_ends s.address (width_bytes s.width) x i in
          absurd (cc (sym none ∙ any_here (writes e.access) s.address (width_bytes s.width) x ends.0 ends.1 y))),
    )

is_pushed : (h : ℕ) (t : List Event) (e : Event) → HeldIs h t → HeldIs h (t ++ e ∷ [])
unfolding HeldIs
is_pushed h t e before s is = elim (own_test e.hart h (e.hart == h) refl) [
  | inl own ↦ by_own h t e s own before (sym (after_own h e (held h t) own) ∙ sym (held_push h t e) ∙ is)
  | inr other ↦ by_other h t e s (held h t) other refl before (sym (after_other h e (held h t) other) ∙ sym (held_push h t e) ∙ is)
]

pub held_is : (h : ℕ) (t : List Event) (s : Span) → held h t ≡ Some s → (l : ℕ) × HeldBy t h s l
unfolding HeldIs
held_is h t = by_pushes (HeldIs h) (λ s is. absurd (cc (sym (held_start h) ∙ is))) (λ u e before. is_pushed h u e before) t

-- ---- from the relation to the fold

HeldBack : ℕ → List Event → Type 0
HeldBack h t = (l : ℕ) (s : Span) → HeldBy t h s l → held h t ≡ Some s

back_last : (h : ℕ) (t : List Event) (e : Event) (s : Span) → HeldBy (t ++ e ∷ []) h s (length t) → held h (t ++ e ∷ []) ≡ Some s
back_last h t e s b =
    let here : event (t ++ e ∷ []) (length t) ≡ e = event_last t e in
    let own : e.hart ≡ h = sym (ap (λ (f : Event). f.hart) here) ∙ b.same_hart in
    let lr : is_lr e.access ≡ true = sym (ap (λ (f : Event). is_lr f.access) here) ∙ b.reserved in
    held_push h t e ∙ after_own h e (held h t) own ∙ set_by e.access (held h t) lr ∙ sym (ap (λ (f : Event). span_of f.access) here) ∙ b.bytes
  where
    set_by : (a : Access) (r : Option Span) → is_lr a ≡ true → held_after_own a r ≡ span_of a
    set_by (Load w p a v) r h = cc
    set_by (Store w p a v) r h = cc
    set_by (LoadReserved w o p a v) r h = refl
    set_by (StoreConditional w o p a v) r h = cc
    set_by (Atomic w o p a v u) r h = cc
    set_by (Fence b a m p) r h = cc

either : (a b : Bool) → a ≡ true → (a || b) ≡ true
either a b h = rw h refl

or_else : (a b : Bool) → b ≡ true → (a || b) ≡ true
or_else true b h = refl
or_else false b h = h

back_own : (h : ℕ) (t : List Event) (e : Event) (s : Span) → ((is_lr e.access || is_sc e.access) ≡ true → ⊥) → held h t ≡ Some s → held_after_own e.access (held h t) ≡ Some s
back_own h t e s neither was = elim (own_cases e.access (held h t)) [
  | inl lr ↦ absurd (neither (either (is_lr e.access) (is_sc e.access) lr.0))
  | inr other ↦ elim other [
    | inl sc ↦ absurd (neither (or_else (is_lr e.access) (is_sc e.access) sc.0))
    | inr kept ↦ kept.1 ∙ was
  ]
]

still_held : (f : ℕ → Bool) (s : Span) (b : Bool) → any_byte f s.address (width_bytes s.width) ≡ b →
    ((x : ℕ) → in_range s.address (width_bytes s.width) x ≡ true → f x ≡ true → ⊥) → (if b then None else Some s) ≡ Some s
still_held f s true e none =
    let found : (x : ℕ) × (s.address ≤ x) × (x < s.address + width_bytes s.width) × (f x ≡ true) = any_found f s.address (width_bytes s.width) e in
    absurd (none found.0 (from_ends s.address (width_bytes s.width) found.0 found.1 found.2) found.3)
still_held f s false e none = refl

back_pushed : (h : ℕ) (t : List Event) (e : Event) → HeldBack h t → HeldBack h (t ++ e ∷ [])
unfolding HeldBack
back_pushed h t e before l s b = elim (last_or_before t e l b.within) [
  | inr last ↦ back_last h t e s (subst (HeldBy (t ++ e ∷ []) h s) last b)
  | inl f ↦
      let was : held h t ≡ Some s = before l s (older h t e l s f b) in
      let here : event (t ++ e ∷ []) (length t) ≡ e = event_last t e in
      held_push h t e ∙ elim (own_test e.hart h (e.hart == h) refl) [
        | inl own ↦ after_own h e (held h t) own ∙ back_own h t e s
            (λ y. b.last (length t) f (omega (arith, length_push t e)) (ap (λ (d : Event). d.hart) here ∙ own) (ap (λ (d : Event). is_lr d.access || is_sc d.access) here ∙ y)) was
        | inr other ↦ after_other h e (held h t) other ∙ ap (unless (writes e.access)) was
            ∙ still_held (writes e.access) s (any_byte (writes e.access) s.address (width_bytes s.width)) refl
            (λ x i y. b.unbroken (length t) x f (omega (arith, length_push t e)) (λ d. other (sym (ap (λ (d : Event). d.hart) here) ∙ d)) i (ap (λ (d : Event). writes d.access x) here ∙ y))
      ]
]

pub held_back : (h : ℕ) (t : List Event) (l : ℕ) (s : Span) → HeldBy t h s l → held h t ≡ Some s
unfolding HeldBack
held_back h t = by_pushes (HeldBack h) (λ l s b. absurd (omega (arith, b.within))) (λ u e before. back_pushed h u e before) t

pub held_by_last : HeldIsByLastReserve
held_by_last = λ t h s. (held_is h t s, (λ l b. held_back h t l s b))
