-- One more box.
use Rattle.std.proofs.Common.{◌≡◌, ℕ, ◌+◌, ◌<◌, List, [], ◌∷◌, ◌++◌, length, take, get_or, refl, sym, ap, ◌∙◌, append_assoc, append-nil}
use Rattle.std.proofs.lemmas.List.{take_more}
use Rattle.round_schedule.specs.declared.event.Event.{Event}
use Rattle.round_schedule.specs.Positions.{event}
use Rattle.picture.specs.declared.event_box.EventBox.{EventBox}
use Rattle.picture.specs.declared.rows.Row.{Row}
use Rattle.picture.specs.Layout.{box_under, boxes_after, boxes_of, each_with_earlier, top_under}

abbrev pub box_at : Row → Event → ℕ → EventBox
box_at r e top = record { index = r.index; event = e; times = r.times; top = top }

boxes_push : (t : List Event) (bs : List EventBox) (rs : List Row) (r : Row) → boxes_after t bs (rs ++ r ∷ []) ≡ boxes_after t bs rs ++ box_under t (boxes_after t bs rs) r ∷ []
boxes_push t bs [] r = refl
boxes_push t bs (s ∷ rs) r = boxes_push t (bs ++ box_under t bs s ∷ []) rs r

same_box : (t : List Event) (bs : List EventBox) (r : Row) (e : Event) (top : ℕ) → e ≡ event t r.index → top ≡ top_under bs e → box_at r e top ≡ box_under t bs r
same_box t bs r e top f h = ap (λ (z : Event). box_at r z top) f ∙ ap (box_at r (event t r.index)) (h ∙ ap (top_under bs) f)

-- one more box, of one more row
pub boxes_more : (t : List Event) (rs : List Row) (i : ℕ) (d : Row) (bs new : List EventBox) (e : Event) (top : ℕ) → new ≡ bs ++ box_at (get_or rs i d) e top ∷ [] →
    e ≡ event t (get_or rs i d).index → top ≡ top_under bs e → bs ≡ boxes_of t (take i rs) → i < length rs → new ≡ boxes_of t (take (i + 1) rs)
boxes_more t rs i d bs new e top n f h k l =
    n ∙ ap (λ (b : EventBox). bs ++ b ∷ []) (same_box t bs (get_or rs i d) e top f h)
    ∙ ap (λ (z : List EventBox). z ++ box_under t z (get_or rs i d) ∷ []) k
    ∙ sym (ap (boxes_of t) (take_more rs i d l) ∙ boxes_push t [] (take i rs) (get_or rs i d))

each_push : (f : List EventBox → EventBox → List ℕ) (earlier bs : List EventBox) (b : EventBox) →
    each_with_earlier f earlier (bs ++ b ∷ []) ≡ each_with_earlier f earlier bs ++ f (earlier ++ bs) b
each_push f earlier [] b = append-nil (f earlier b) ∙ ap (λ (e : List EventBox). f e b) (sym (append-nil earlier))
each_push f earlier (c ∷ bs) b =
    ap (λ (z : List ℕ). f earlier c ++ z) (each_push f (earlier ++ c ∷ []) bs b ∙ ap (λ (e : List EventBox). each_with_earlier f (earlier ++ c ∷ []) bs ++ f e b) (append_assoc earlier (c ∷ []) bs))
    ∙ sym (append_assoc (f earlier c) (each_with_earlier f (earlier ++ c ∷ []) bs) (f (earlier ++ c ∷ bs) b))

-- the text of one more box, after those before it
pub each_more : (f : List EventBox → EventBox → List ℕ) (bs before : List EventBox) (i : ℕ) (d : EventBox) (old mid new : List ℕ) →
    new ≡ mid ++ f before (get_or bs i d) → mid ≡ old ++ each_with_earlier f [] (take i bs) → i < length bs → before ≡ take i bs →
    new ≡ old ++ each_with_earlier f [] (take (i + 1) bs)
each_more f bs before i d old mid new n m l e =
    n ∙ ap (λ (z : List ℕ). z ++ f before (get_or bs i d)) m ∙ append_assoc old (each_with_earlier f [] (take i bs)) (f before (get_or bs i d))
    ∙ ap (λ (z : List ℕ). old ++ z) (sym (ap (each_with_earlier f []) (take_more bs i d l) ∙ each_push f [] (take i bs) (get_or bs i d)
    ∙ ap (λ (p : List EventBox). each_with_earlier f [] (take i bs) ++ f p (get_or bs i d)) (sym e)))
