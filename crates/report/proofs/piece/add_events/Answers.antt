use Rattle.std.proofs.Common.{◌≡◌, ◌∙◌, ◌∷◌, ◌++◌, ◌<◌, List, [], ap, append_assoc, append-nil, arith, refl, suc, sym, take, zero, ℕ}
use Rattle.std.specs.declared.iter.Take.{Take}
use Rattle.round_schedule.specs.declared.event.Event.{Event}
use Rattle.report.specs.Report.{events_text}
use Rattle.report_lines.specs.Text.{event_text}
use Rattle.report.proofs.Parts.{events-append}
use Rattle.report.proofs.piece.add_events.Goals as goal

-- no event is left where the iterator ends
none_left : (n : ℕ) (es : List Event) → (0 < n → es ≡ []) → take n es ≡ []
none_left zero es h = refl
none_left (suc n) es h = ap (take (suc n)) (h (omega arith))

pub loop-event-init : goal.loop-event-init
loop-event-init c = record {
  line = c.requires;
  left =
      ap (λ (t : Take (List Event)). take t.n t.iter) c.into_iter-event-iterator.ensures.into_iter_gives
      ∙ ap (λ (n : ℕ). take n c.take-event-items.result.iter) c.take-event-items.ensures.count
      ∙ ap (take 1024) (c.take-event-items.ensures.source ∙ c.events_from.ensures);
}

pub loop-event-preserved : goal.loop-event-preserved
loop-event-preserved c =
    let before = c.loop-event.yielded in
    let this = c.in-Some.event in
    let now = c.loop-event.event-iterator in
    let after = c.next.new.self in
    let count : now.n ≡ suc after.n = omega (arith, c.in-Some.ensures.steps.1) in
    let first : this ∷ take after.n after.iter ≡ take now.n now.iter = sym (ap (λ (n : ℕ). take n now.iter) count ∙ ap (take (suc after.n)) c.in-Some.ensures.steps.0) in record {
      line = c.in_ok-event_line.ensures ∙ ap (λ (t : List ℕ). t ++ event_text this) c.loop-event.invariant.line ∙ ap (λ (t : List ℕ). events_text before ++ t) (sym (append-nil (event_text this))) ∙ sym (events-append before (this ∷ []));
      left = append_assoc before (this ∷ []) (take after.n after.iter) ∙ ap (λ (u : List Event). before ++ u) first ∙ c.loop-event.invariant.left;
    }

pub returns : goal.returns
returns c =
    let done = c.loop-event.yielded in
    let now = c.loop-event.event-iterator in
    let none : take now.n now.iter ≡ [] = none_left now.n now.iter (λ some. (c.in-None.ensures.steps some).0) in
    c.loop-event.invariant.line ∙ ap events_text (sym (append-nil done) ∙ ap (λ (u : List Event). done ++ u) (sym none) ∙ c.loop-event.invariant.left)
