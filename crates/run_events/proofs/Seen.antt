-- What a watcher has seen, as it goes on.
use Rattle.std.proofs.Common.{◌≡◌, List, [], ◌++◌, Option, sym, ap, subst, ◌∙◌, append_assoc, append-nil}
use Rattle.pages.specs.declared.access.Range.{Range}
use Rattle.round_schedule.specs.declared.event.Event.{Event}
use Rattle.trace.specs.Traced.{IsTrace}
use Rattle.run_events.specs.declared.rounds.Rounds.{Rounds}
use Rattle.run_events.specs.declared.sought.Sought.{Sought}
use Rattle.run_events.specs.Hits.{sought_in}
use Rattle.run_events.specs.Watched.{HasWatched}
use Rattle.run_events.proofs.Endings.{ending}
use Rattle.run_events.proofs.Joined.{both, none_of_none}

-- no event yet
pub none_seen : (ranges : List Range) (within : Option Rounds) (sought : Sought) (found last : List Event) → sought.ranges.now ≡ ranges → sought.within ≡ within →
    found ≡ [] → last ≡ [] → HasWatched ranges within sought found last []
none_seen ranges within sought found last r w f l = record {
  same_ranges = r;
  same_within = w;
  before = [];
  whole = sym l;
  hits = f ∙ none_of_none within ranges;
}

-- more events
pub more_seen : (ranges : List Range) (within : Option Rounds) (sought : Sought) (found last next more es : List Event) → next ≡ last ++ more →
    HasWatched ranges within sought found last es → HasWatched ranges within sought found next (es ++ more)
more_seen ranges within sought found last next more es e h = record {
  same_ranges = h.same_ranges;
  same_within = h.same_within;
  before = h.before;
  whole = ap (λ (xs : List Event). xs ++ more) h.whole ∙ append_assoc h.before last more ∙ ap (λ (xs : List Event). h.before ++ xs) (sym e);
  hits = h.hits;
}

-- the last events were looked through
pub looked_through : (ranges : List Range) (within : Option Rounds) (sought : Sought) (found last hits next none es : List Event) →
    hits ≡ sought_in sought.within sought.ranges.now last → next ≡ found ++ hits → none ≡ [] →
    HasWatched ranges within sought found last es → HasWatched ranges within sought next none es
looked_through ranges within sought found last hits next none es e f n h =
    let those : hits ≡ sought_in within ranges last = e ∙ ap (λ (w : Option Rounds). sought_in w sought.ranges.now last) h.same_within ∙ ap (λ (rs : List Range). sought_in within rs last) h.same_ranges in
    record {
      same_ranges = h.same_ranges;
      same_within = h.same_within;
      before = h.before ++ last;
      whole = h.whole ∙ sym (append-nil (h.before ++ last)) ∙ ap (λ (xs : List Event). h.before ++ last ++ xs) (sym n);
      hits = f ∙ ap (λ (xs : List Event). xs ++ hits) h.hits ∙ ap (λ (xs : List Event). sought_in within ranges h.before ++ xs) those ∙ sym (both within ranges h.before last);
    }

-- the same events, as they are now
pub seen_still : (ranges : List Range) (within : Option Rounds) (sought : Sought) (found last next es : List Event) → next ≡ last →
    HasWatched ranges within sought found last es → HasWatched ranges within sought found next es
seen_still ranges within sought found last next es e h = subst (λ (xs : List Event). HasWatched ranges within sought found xs es) (sym e) h

-- all of them were looked through
pub all_found : (ranges : List Range) (within : Option Rounds) (sought : Sought) (found last es : List Event) → last ≡ [] →
    HasWatched ranges within sought found last es → found ≡ sought_in within ranges es
all_found ranges within sought found last es n h =
    let whole : es ≡ h.before = h.whole ∙ ap (λ (xs : List Event). h.before ++ xs) n ∙ append-nil h.before in
    h.hits ∙ ap (sought_in within ranges) (sym whole)

-- where all events with some more are a trace, the last ones with those are one
pub still_trace : (ranges : List Range) (within : Option Rounds) (sought : Sought) (found last more es : List Event) →
    HasWatched ranges within sought found last es → IsTrace (es ++ more) → IsTrace (last ++ more)
still_trace ranges within sought found last more es h t =
    let whole : es ++ more ≡ h.before ++ (last ++ more) = ap (λ (xs : List Event). xs ++ more) h.whole ∙ append_assoc h.before last more in
    ending h.before (last ++ more) (subst IsTrace whole t)
