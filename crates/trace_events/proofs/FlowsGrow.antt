-- One more flow.
use Rattle.std.proofs.Common.{◌≡◌, ℕ, ◌+◌, ◌<◌, List, [], ◌∷◌, ◌++◌, length, take, get_or, Option, sym, ap, ◌∙◌, append_assoc, append-nil}
use Rattle.std.proofs.lemmas.List.{take_more}
use Rattle.round_schedule.specs.declared.event.Event.{Event}
use Rattle.trace_events.specs.Flows.{flow_to, flows_from}

flows_push : (t : List Event) (r : ℕ) (earlier ss : List (Option ℕ)) (s : Option ℕ) → flows_from t r earlier (ss ++ s ∷ []) ≡ flows_from t r earlier ss ++ flow_to t r (earlier ++ ss) s
flows_push t r earlier [] s = append-nil (flow_to t r earlier s) ∙ ap (λ (e : List (Option ℕ)). flow_to t r e s) (sym (append-nil earlier))
flows_push t r earlier (x ∷ ss) s =
    ap (λ (z : List ℕ). flow_to t r earlier x ++ z)
    (flows_push t r (earlier ++ x ∷ []) ss s ∙ ap (λ (e : List (Option ℕ)). flows_from t r (earlier ++ x ∷ []) ss ++ flow_to t r e s) (append_assoc earlier (x ∷ []) ss))
    ∙ sym (append_assoc (flow_to t r earlier x) (flows_from t r (earlier ++ x ∷ []) ss) (flow_to t r (earlier ++ x ∷ ss) s))

-- the flow to one more byte, after those before it
pub flows_more : (t : List Event) (r : ℕ) (ss before : List (Option ℕ)) (i : ℕ) (d : Option ℕ) (old mid new : List ℕ) →
    new ≡ mid ++ flow_to t r before (get_or ss i d) → mid ≡ old ++ flows_from t r [] (take i ss) → i < length ss → before ≡ take i ss →
    new ≡ old ++ flows_from t r [] (take (i + 1) ss)
flows_more t r ss before i d old mid new n m l e =
    n ∙ ap (λ (z : List ℕ). z ++ flow_to t r before (get_or ss i d)) m ∙ append_assoc old (flows_from t r [] (take i ss)) (flow_to t r before (get_or ss i d))
    ∙ ap (λ (z : List ℕ). old ++ z) (sym (ap (flows_from t r []) (take_more ss i d l) ∙ flows_push t r [] (take i ss) (get_or ss i d)
    ∙ ap (λ (p : List (Option ℕ)). flows_from t r [] (take i ss) ++ flow_to t r p (get_or ss i d)) (sym e)))
