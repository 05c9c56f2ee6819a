-- The text of events, one after another.
use Rattle.std.proofs.Common.{◌≡◌, ℕ, suc, ◌+◌, ◌<◌, ◌≤◌, List, ◌∷◌, ◌++◌, length, drop, drop-cons, sym, ap, ◌∙◌, arith, append_assoc, append-nil}
use Rattle.std.proofs.lemmas.List.{drop_all}
use Rattle.round_schedule.specs.declared.event.Event.{Event}
use Rattle.round_schedule.specs.Positions.{event, no_event}
use Rattle.trace_events.specs.TraceEvents.{before_index, entries_text, entry_text}

-- what is left of the text at an index
abbrev pub entries_at : List Event → ℕ → List ℕ
entries_at t i = entries_text t i (before_index t i) (drop i t)

-- what stands of the event at an index
abbrev pub entry_at : List Event → ℕ → List ℕ
entry_at t i = entry_text t i (before_index t i) (event t i) (drop (i + 1) t)

next_entry : (t : List Event) (i : ℕ) → i < length t → entries_at t i ≡ entry_at t i ++ entries_at t (i + 1)
next_entry t i lt =
    let e : drop i t ≡ event t i ∷ drop (suc i) t = drop-cons t i no_event lt in
    let next : suc i ≡ i + 1 = omega arith in
    ap (entries_text t i (before_index t i)) e
    ∙ ap (λ (k : ℕ). entry_text t i (before_index t i) (event t i) (drop k t) ++ entries_text t (i + 1) (before_index t k) (drop k t)) next

pub goes_on : (t : List Event) (i : ℕ) (text whole : List ℕ) → i < length t → text ++ entries_at t i ≡ whole → (text ++ entry_at t i) ++ entries_at t (i + 1) ≡ whole
goes_on t i text whole lt e = append_assoc text (entry_at t i) (entries_at t (i + 1)) ∙ ap (λ (u : List ℕ). text ++ u) (sym (next_entry t i lt)) ∙ e

pub ends : (t : List Event) (i : ℕ) (text whole : List ℕ) → length t ≤ i → text ++ entries_at t i ≡ whole → text ≡ whole
ends t i text whole le e = sym (append-nil text) ∙ ap (λ (es : List Event). text ++ entries_text t i (before_index t i) es) (sym (drop_all i t le)) ∙ e
