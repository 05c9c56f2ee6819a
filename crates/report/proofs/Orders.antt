-- The lines of the events at indexes of a trace, one after another.
use Rattle.std.proofs.Common.{◌≡◌, ℕ, ◌+◌, ◌<◌, All, OnOk, OnErr, Result, Ok, Err, List, [], ◌∷◌, ◌++◌, length, get_or, take, drop, map, sym, ap, ◌∙◌, append-nil}
use Rattle.std.proofs.lemmas.List.{map-append, take-append-drop, take_more}
use Rattle.round_schedule.specs.declared.event.Event.{Event}
use Rattle.round_schedule.specs.Positions.{event}
use Rattle.host_io.specs.declared.error.RunError.{RunError}
use Rattle.memory_order.specs.Orders.{ListsOperations}
use Rattle.memory_order.proofs.Facts.{within}
use Rattle.report.specs.Order.{indexed_text}
use Rattle.report.specs.Report.{events_text}
use Rattle.report_lines.specs.Text.{event_text}
use Rattle.report.proofs.Parts.{events-append}

abbrev Answer : Type 0
Answer = Result (Unit {0}) RunError

indexed-append : (t : List Event) (g h : List ℕ) → indexed_text t (g ++ h) ≡ indexed_text t g ++ indexed_text t h
indexed-append t g h = ap events_text (map-append (event t) g h) ∙ events-append (map (event t) g) (map (event t) h)

-- one line more
pub places_more : (t : List Event) (g : List ℕ) (i d : ℕ) (e : Event) → i < length g → e ≡ event t (get_or g i d) → indexed_text t (take (i + 1) g) ≡ indexed_text t (take i g) ++ event_text e
places_more t g i d e l at =
    ap (indexed_text t) (take_more g i d l) ∙ indexed-append t (take i g) (get_or g i d ∷ [])
    ∙ ap (λ (z : List ℕ). indexed_text t (take i g) ++ z) (append-nil (event_text (event t (get_or g i d))))
    ∙ ap (λ (z : Event). indexed_text t (take i g) ++ event_text z) (sym at)

-- one line, with those before it and those after it
pub places_left : (t : List Event) (g : List ℕ) (i d : ℕ) (e : Event) → i < length g → e ≡ event t (get_or g i d) → indexed_text t g ≡ (indexed_text t (take i g) ++ event_text e) ++ indexed_text t (drop (i + 1) g)
places_left t g i d e l at =
    ap (indexed_text t) (sym (take-append-drop (i + 1) g)) ∙ indexed-append t (take (i + 1) g) (drop (i + 1) g)
    ∙ ap (λ (z : List ℕ). z ++ indexed_text t (drop (i + 1) g)) (places_more t g i d e l at)

-- the indexes that an order lists lie in the trace
pub listed_within : (t : List Event) (g : List ℕ) → ListsOperations t g → All (λ p. p < length t) g
listed_within t g l = λ k d b. within t (get_or g k d) (l.only k d b)

pub on_ok : (r : Answer) (P Q : Type 0) → (P → Q) → OnOk r P → OnOk r Q
on_ok (Ok v) P Q f h = f h
on_ok (Err e) P Q f h = tt

pub on_err : (r : Answer) (P Q : Type 0) → (P → Q) → OnErr r P → OnErr r Q
on_err (Ok v) P Q f h = tt
on_err (Err e) P Q f h = f h
