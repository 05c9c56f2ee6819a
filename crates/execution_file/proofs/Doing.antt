-- What harts did, hart by hart and event by event.
use Rattle.std.proofs.Common.{◌≡◌, ℕ, zero, suc, ◌+◌, ◌<◌, ◌≤◌, ◌==◌, Bool, true, false, List, [], ◌∷◌, ◌++◌, length, get_or, slice_set, map, take, Option, Some, None, refl, sym, ap, ◌∙◌, arith}
use Rattle.std.proofs.lemmas.Bool.{eq-eqb, ne_eqb}
use Rattle.std.proofs.lemmas.List.{append-nil, get_or-map, length-map, length-take-le, map-append, map-set, take_more, take_more_same}
use Rattle.round_schedule.specs.declared.event.Event.{Event}
use Rattle.hart_step.specs.declared.hart.Hart.{Hart}
use Rattle.execution_file.specs.Recorded.{HartDeeds}
use Rattle.execution_file.specs.declared.file.HartDeeds.{HartDeeds as HartHeld}
use Rattle.execution_file.specs.Views.{hart_view}
use Rattle.execution_file.specs.Deeds.{number_shown, numbers_of, one_more, part_of, parts_from, with_event}

one_more_joined : (b : Bool) (o : Option ℕ) (xs ys : List ℕ) → one_more b o (xs ++ ys) ≡ one_more b o xs ++ ys
one_more_joined true (Some n) xs ys = refl
one_more_joined true None xs ys = refl
one_more_joined false o xs ys = refl

pub numbers_more : (h : ℕ) (t : List Event) (e : Event) → numbers_of h (t ++ e ∷ []) ≡ numbers_of h t ++ numbers_of h (e ∷ [])
numbers_more h [] e = refl
numbers_more h (f ∷ t) e =
    ap (one_more (f.hart == h) (number_shown f.access)) (numbers_more h t e)
    ∙ one_more_joined (f.hart == h) (number_shown f.access) (numbers_of h t) (numbers_of h (e ∷ []))

pub parts_more : (h : ℕ) (gs : List Hart) (g : Hart) (t : List Event) → parts_from h (gs ++ g ∷ []) t ≡ parts_from h gs t ++ part_of (h + length gs) g t ∷ []
parts_more h [] g t = ap (λ n. part_of n g t ∷ []) (let e : h ≡ h + 0 = omega arith in e)
parts_more h (f ∷ gs) g t =
    ap (λ ps. part_of h f t ∷ ps) (parts_more (h + 1) gs g t)
    ∙ ap (λ n. part_of h f t ∷ (parts_from (h + 1) gs t ++ part_of n g t ∷ [])) (let e : h + 1 + length gs ≡ h + suc (length gs) = omega arith in e)

-- one more event, of which each hart has its number
parts_with : (h : ℕ) (gs : List Hart) (t : List Event) (e : Event) → parts_from h gs (t ++ e ∷ []) ≡ with_event h (parts_from h gs t) e
parts_with h [] t e = refl
parts_with h (g ∷ gs) t e =
    ap (λ (ns : List ℕ). record (part_of h g t) { reads = ns } ∷ parts_from (h + 1) gs (t ++ e ∷ [])) (numbers_more h t e)
    ∙ ap (λ (ps : List HartDeeds). record (part_of h g t) { reads = numbers_of h t ++ numbers_of h (e ∷ []) } ∷ ps) (parts_with (h + 1) gs t e)

-- an event that shows hart h no number leaves its part as it is
part_stays : (h : ℕ) (e : Event) (p : HartDeeds) → numbers_of h (e ∷ []) ≡ [] → record p { reads = p.reads ++ numbers_of h (e ∷ []) } ≡ p
part_stays h e p none = ap (λ (ns : List ℕ). record p { reads = ns }) (ap (λ (ns : List ℕ). p.reads ++ ns) none ∙ append-nil p.reads)

shows_none : (h : ℕ) (e : Event) → number_shown e.access ≡ None → numbers_of h (e ∷ []) ≡ []
shows_none h e none = ap (λ (o : Option ℕ). one_more (e.hart == h) o []) none ∙ of_none (e.hart == h)
  where
    of_none : (b : Bool) → one_more b None [] ≡ []
    of_none true = refl
    of_none false = refl

shows_another : (h : ℕ) (e : Event) → (e.hart ≡ h → ⊥) → numbers_of h (e ∷ []) ≡ []
shows_another h e other = ap (λ (b : Bool). one_more b (number_shown e.access) []) (ne_eqb e.hart h other)

shows_one : (h : ℕ) (e : Event) (n : ℕ) → number_shown e.access ≡ Some n → e.hart ≡ h → numbers_of h (e ∷ []) ≡ n ∷ []
shows_one h e n shown same =
    ap (λ (b : Bool). one_more b (number_shown e.access) []) (eq-eqb e.hart h same)
    ∙ ap (λ (o : Option ℕ). one_more true o []) shown

-- none of them has a number
pub with_none : (h : ℕ) (ps : List HartDeeds) (e : Event) → number_shown e.access ≡ None → with_event h ps e ≡ ps
with_none h [] e none = refl
with_none h (p ∷ ps) e none =
    ap (λ (q : HartDeeds). q ∷ with_event (h + 1) ps e) (part_stays h e p (shows_none h e none))
    ∙ ap (λ (qs : List HartDeeds). p ∷ qs) (with_none (h + 1) ps e none)

with_earlier : (h : ℕ) (ps : List HartDeeds) (e : Event) → e.hart < h → with_event h ps e ≡ ps
with_earlier h [] e l = refl
with_earlier h (p ∷ ps) e l =
    ap (λ (q : HartDeeds). q ∷ with_event (h + 1) ps e) (part_stays h e p (shows_another h e (λ same. omega (arith, same, l))))
    ∙ ap (λ (qs : List HartDeeds). p ∷ qs) (with_earlier (h + 1) ps e (omega (arith, l)))

pub with_later : (h : ℕ) (ps : List HartDeeds) (e : Event) → h + length ps ≤ e.hart → with_event h ps e ≡ ps
with_later h [] e l = refl
with_later h (p ∷ ps) e l =
    ap (λ (q : HartDeeds). q ∷ with_event (h + 1) ps e) (part_stays h e p (shows_another h e (λ same. omega (arith, same, l))))
    ∙ ap (λ (qs : List HartDeeds). p ∷ qs) (with_later (h + 1) ps e (omega (arith, l)))

-- one of them has it
with_one : (h : ℕ) (ps : List HartDeeds) (e : Event) (j n : ℕ) (p : HartDeeds) → number_shown e.access ≡ Some n → e.hart ≡ h + j → j < length ps → p ≡ get_or ps j p →
    with_event h ps e ≡ slice_set ps j (record p { reads = p.reads ++ n ∷ [] })
with_one h [] e j n p shown hart l at = absurd (omega (arith, l))
with_one h (q ∷ ps) e zero n p shown hart l at =
    ap (λ (qs : List HartDeeds). record q { reads = q.reads ++ numbers_of h (e ∷ []) } ∷ qs) (with_earlier (h + 1) ps e (omega (arith, hart)))
    ∙ ap (λ (ns : List ℕ). record q { reads = q.reads ++ ns } ∷ ps) (shows_one h e n shown (omega (arith, hart)))
    ∙ ap (λ (r : HartDeeds). record r { reads = r.reads ++ n ∷ [] } ∷ ps) (sym at)
with_one h (q ∷ ps) e (suc j) n p shown hart l at =
    ap (λ (r : HartDeeds). r ∷ with_event (h + 1) ps e) (part_stays h e q (shows_another h e (λ same. omega (arith, same, hart))))
    ∙ ap (λ (qs : List HartDeeds). q ∷ qs) (with_one (h + 1) ps e j n p shown (omega (arith, hart)) (omega (arith, l)) at)

pub number_added : (ps : List HartHeld) (e : Event) (j n : ℕ) (p q : HartHeld) → number_shown e.access ≡ Some n → e.hart ≡ j → j < length ps → p ≡ get_or ps j p →
    hart_view q ≡ record (hart_view p) { reads = p.reads.items ++ n ∷ [] } → map hart_view (slice_set ps j q) ≡ with_event 0 (map hart_view ps) e
number_added ps e j n p q shown hart l at view =
    map-set hart_view ps j q
    ∙ ap (λ (x : HartDeeds). slice_set (map hart_view ps) j x) view
    ∙ sym (with_one 0 (map hart_view ps) e j n (hart_view p) shown (omega (arith, hart)) (omega (arith, l, length-map ps hart_view))
    (sym (get_or-map hart_view ps j p (hart_view p) l ∙ ap hart_view (sym at))))

pub parts_more_done : (gs : List Hart) (i : ℕ) (t : List Event) (d : Event) (old new : List HartHeld) → i < length t →
    map hart_view new ≡ with_event 0 (map hart_view old) (get_or t i d) → map hart_view old ≡ parts_from 0 gs (take i t) → map hart_view new ≡ parts_from 0 gs (take (i + 1) t)
parts_more_done gs i t d old new l more was =
    more ∙ ap (λ (ps : List HartDeeds). with_event 0 ps (get_or t i d)) was ∙ sym (parts_with 0 gs (take i t) (get_or t i d)) ∙ ap (parts_from 0 gs) (sym (take_more t i d l))

pub parts_next : (k : ℕ) (gs : List Hart) (t : List Event) (d : Hart) (old new : List HartHeld) (p : HartHeld) → k < length gs → new ≡ old ++ p ∷ [] →
    hart_view p ≡ part_of k (get_or gs k d) t → map hart_view old ≡ parts_from 0 (take k gs) t → map hart_view new ≡ parts_from 0 (take (k + 1) gs) t
parts_next k gs t d old new p l more view was =
    ap (map hart_view) more ∙ map-append hart_view old (p ∷ [])
    ∙ ap (λ (ps : List HartDeeds). ps ++ hart_view p ∷ []) was ∙ ap (λ (q : HartDeeds). parts_from 0 (take k gs) t ++ q ∷ []) view
    ∙ ap (λ (n : ℕ). parts_from 0 (take k gs) t ++ part_of n (get_or gs k d) t ∷ []) (let e : k ≡ 0 + length (take k gs) = omega (arith, length-take-le k gs (omega (arith, l))) in e)
    ∙ sym (parts_more 0 (take k gs) (get_or gs k d) t) ∙ ap (λ (hs : List Hart). parts_from 0 hs t) (sym (take_more gs k d l))

pub said_next : (ps qs : List HartHeld) (i : ℕ) (p q : HartHeld) → i < length ps → length ps ≡ length qs → p ≡ get_or ps i p → q ≡ get_or qs i q → hart_view p ≡ hart_view q →
    take i (map hart_view ps) ≡ take i (map hart_view qs) → take (i + 1) (map hart_view ps) ≡ take (i + 1) (map hart_view qs)
said_next ps qs i p q l same at_p at_q e was =
    let lv : i < length (map hart_view ps) = omega (arith, l, length-map ps hart_view) in
    let lw : i < length qs = omega (arith, l, same) in
    let lq : i < length (map hart_view qs) = omega (arith, lw, length-map qs hart_view) in
    take_more_same (map hart_view ps) (map hart_view qs) i (hart_view q) lv lq was
    (get_or-map hart_view ps i p (hart_view q) l ∙ ap hart_view (sym at_p) ∙ e ∙ sym (get_or-map hart_view qs i q (hart_view q) lw ∙ ap hart_view (sym at_q)))

pub said_there : (ps qs : List HartHeld) (i : ℕ) (p q : HartHeld) → i < length ps → length ps ≡ length qs → p ≡ get_or ps i p → q ≡ get_or qs i q →
    map hart_view ps ≡ map hart_view qs → hart_view p ≡ hart_view q
said_there ps qs i p q l same at_p at_q e =
    ap hart_view at_p ∙ sym (get_or-map hart_view ps i p (hart_view q) l) ∙ ap (λ (vs : List HartDeeds). get_or vs i (hart_view q)) e
    ∙ get_or-map hart_view qs i q (hart_view q) (omega (arith, l, same)) ∙ ap hart_view (sym at_q)
