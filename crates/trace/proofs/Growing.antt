-- Traces that grow event by event.
use Rattle.std.proofs.Common.{◌≡◌, ◌<◌, List, ◌∷◌, ◌++◌, length, sym, ap, ◌∙◌, subst, arith, length-append}
use Rattle.std.proofs.Math.Seq.{get_or-append_seam}
use Rattle.std.proofs.lemmas.List.{get_or_append_left}
use Rattle.round_schedule.specs.declared.event.Event.{Event}
use Rattle.round_schedule.specs.Accesses.{place_of}
use Rattle.round_schedule.specs.Positions.{event, no_event}
use Rattle.round_schedule.proofs.Folds.{event_before}
use Rattle.trace.specs.Traced.{HasForm, IsTrace, StandsAbove}

-- the beginning of a trace is one
pub beginning : (t u : List Event) → IsTrace (t ++ u) → IsTrace t
beginning t u h = record {
  formed = λ k d l. subst HasForm (get_or_append_left t u d k l) (h.formed k d (omega (arith, l, length-append t u)));
  rising = λ i j l m e.
      let ei = event_before t u i (omega arith) in
      let ej = event_before t u j m in
      let r = h.rising i j l (omega (arith, m, length-append t u)) (ap (λ (f : Event). f.hart) ei ∙ e ∙ sym (ap (λ (f : Event). f.hart) ej)) in
      omega (arith, r, ap (λ (f : Event). place_of f.access) ei, ap (λ (f : Event). place_of f.access) ej);
}

-- each event of a trace may be pushed after those before it
pub may_push : (t : List Event) (e : Event) (u : List Event) → IsTrace (t ++ e ∷ u) → HasForm e × StandsAbove t e
may_push t e u h = (formed, above)
  where
    within : length t < length (t ++ e ∷ u)
    within = omega (arith, length-append t (e ∷ u))

    formed : HasForm e
    formed = subst HasForm (get_or-append_seam t e u no_event) (h.formed (length t) no_event within)

    above : StandsAbove t e
    above k l same =
        let ek = event_before t (e ∷ u) k l in
        let ee : event (t ++ e ∷ u) (length t) ≡ e = get_or-append_seam t e u no_event in
        let r = h.rising k (length t) l within (ap (λ (f : Event). f.hart) ek ∙ same ∙ sym (ap (λ (f : Event). f.hart) ee)) in
        omega (arith, r, ap (λ (f : Event). place_of f.access) ek, ap (λ (f : Event). place_of f.access) ee)
