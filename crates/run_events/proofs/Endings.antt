-- The last events of a trace.
use Rattle.std.proofs.Common.{◌+◌, List, ◌++◌, length, sym, ap, ◌∙◌, subst, arith, length-append}
use Rattle.std.proofs.lemmas.List.{get_or-append-add}
use Rattle.round_schedule.specs.declared.event.Event.{Event}
use Rattle.round_schedule.specs.Accesses.{place_of}
use Rattle.round_schedule.specs.Positions.{no_event}
use Rattle.trace.specs.Traced.{HasForm, IsTrace}

-- the end of a trace is one
pub ending : (t u : List Event) → IsTrace (t ++ u) → IsTrace u
ending t u h = record {
  formed = λ k d l. subst HasForm (get_or-append-add t u k d) (h.formed (length t + k) d (omega (arith, l, length-append t u)));
  rising = λ i j l m e.
      let ei = get_or-append-add t u i no_event in
      let ej = get_or-append-add t u j no_event in
      let r = h.rising (length t + i) (length t + j) (omega (arith, l)) (omega (arith, m, length-append t u)) (ap (λ (f : Event). f.hart) ei ∙ e ∙ sym (ap (λ (f : Event). f.hart) ej)) in
      omega (arith, r, ap (λ (f : Event). place_of f.access) ei, ap (λ (f : Event). place_of f.access) ej);
}
