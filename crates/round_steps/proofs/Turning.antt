-- What is noted of turns, hart by hart, and of all of them.
use Rattle.std.proofs.Common.{◌≡◌, ℕ, suc, ◌+◌, Bool, true, false, cond, ◌&&◌, List, [], ◌∷◌, ◌++◌, length, get_or, is_some, slice_get, Option, None, Some, refl, sym, ◌∙◌, ap, subst, append_assoc, append-nil, arith}
use Rattle.std.proofs.lemmas.List.{map-append}
use Rattle.round_schedule.specs.declared.event.Phase.TheVariants.{Serial}
use Rattle.hart_step.specs.declared.hart.Hart.{Hart}
use Rattle.machine.specs.Machine.{Running}
use Rattle.moments.specs.Hits.{hits_from, is_moment, tells}
use Rattle.moments.specs.declared.asked.Asked.{Asked}
use Rattle.past_harts.specs.declared.place.Place.{Place}
use Rattle.past_harts.specs.Moments.{place_in}
use Rattle.round_steps.specs.Places.{past_at, places, serial_places, turn_of, turn_places}
use Rattle.round_steps.specs.TurnsNoted.{begun_in, counts_told, noted, noted_at, noted_in_turn, noted_in_turns, noted_so_far}

-- ---- the counts in one turn

count_more : (f : Hart → Bool) (c : ℕ) (along : List Hart) (h : Hart) → counts_told f c (along ++ h ∷ []) ≡ counts_told f c along ++ cond (f h) ((c + length along) ∷ []) []
count_more f c [] h = let here : c + 0 ≡ c = omega arith in rw here (append-nil (cond (f h) (c ∷ []) []))
count_more f c (g ∷ along) h =
    let number : suc c + length along ≡ c + suc (length along) = omega arith in
    ap (λ (cs : List ℕ). cond (f g) (c ∷ []) [] ++ cs) (count_more f (suc c) along h ∙ ap (λ (n : ℕ). counts_told f (suc c) along ++ cond (f h) (n ∷ []) []) number)
    ∙ sym (append_assoc (cond (f g) (c ∷ []) []) (counts_told f (suc c) along) (cond (f h) ((c + suc (length along)) ∷ []) []))

goes_on : (g : Hart) (along : List Hart) (h : Hart) → is_moment g (along ++ h ∷ []) ≡ true
goes_on g [] h = refl
goes_on g (x ∷ along) h = refl

hits_are : (f : Hart → Bool) (c : ℕ) (along : List Hart) (h : Hart) → hits_from f c (along ++ h ∷ []) ≡ counts_told f c along ++ cond (is_some h.stop && f h) ((c + length along) ∷ []) []
hits_are f c [] h = let here : c + 0 ≡ c = omega arith in rw here (append-nil (cond (is_some h.stop && f h) (c ∷ []) []))
hits_are f c (g ∷ along) h =
    let number : suc c + length along ≡ c + suc (length along) = omega arith in
    ap (λ (b : Bool). cond (b && f g) (c ∷ []) [] ++ hits_from f (suc c) (along ++ h ∷ [])) (goes_on g along h)
    ∙ ap (λ (cs : List ℕ). cond (f g) (c ∷ []) [] ++ cs) (hits_are f (suc c) along h ∙ ap (λ (n : ℕ). counts_told f (suc c) along ++ cond (is_some h.stop && f h) (n ∷ []) []) number)
    ∙ sym (append_assoc (cond (f g) (c ∷ []) []) (counts_told f (suc c) along) (cond (is_some h.stop && f h) ((c + suc (length along)) ∷ []) []))

-- ---- the places

place_there : (told : Bool) (i n : ℕ) → places Serial i (cond told (n ∷ []) []) ≡ cond told (place_in Serial i n ∷ []) []
place_there true i n = refl
place_there false i n = refl

so_far_more : (a : Asked) (i : ℕ) (begun : Option ℕ) (along : List Hart) (h : Hart) → noted_so_far a i begun (along ++ h ∷ []) ≡ noted_so_far a i begun along ++ noted_at (tells a i h) i (length along) begun
so_far_more a i None along h = refl
so_far_more a i (Some n) along h =
    ap (places Serial i) (count_more (tells a i) n along h)
    ∙ map-append (place_in Serial i) (counts_told (tells a i) n along) (cond (tells a i h) ((n + length along) ∷ []) [])
    ∙ ap (λ (ps : List Place). places Serial i (counts_told (tells a i) n along) ++ ps) (place_there (tells a i h) i (n + length along))

turn_is : (a : Asked) (i : ℕ) (begun : Option ℕ) (along : List Hart) (h : Hart) →
    noted_in_turn a i begun (along ++ h ∷ []) ≡ noted_so_far a i begun along ++ noted_at (is_some h.stop && tells a i h) i (length along) begun
turn_is a i None along h = refl
turn_is a i (Some n) along h =
    ap (places Serial i) (hits_are (tells a i) n along h)
    ∙ map-append (place_in Serial i) (counts_told (tells a i) n along) (cond (is_some h.stop && tells a i h) ((n + length along) ∷ []) [])
    ∙ ap (λ (ps : List Place). places Serial i (counts_told (tells a i) n along) ++ ps) (place_there (is_some h.stop && tells a i h) i (n + length along))

turns_more : (a : Asked) (begun : List (Option ℕ)) (i : ℕ) (turns : List (List Hart)) (along : List Hart) →
    noted_in_turns a begun i (turns ++ along ∷ []) ≡ noted_in_turns a begun i turns ++ noted_in_turn a (i + length turns) (begun_in begun (i + length turns)) along
turns_more a begun i [] along = let here : i + 0 ≡ i = omega arith in rw here (append-nil (noted_in_turn a i (begun_in begun i) along))
turns_more a begun i (hs ∷ turns) along =
    let number : suc i + length turns ≡ i + suc (length turns) = omega arith in
    ap (λ (ps : List Place). noted_in_turn a i (begun_in begun i) hs ++ ps)
    (turns_more a begun (suc i) turns along ∙ ap (λ (n : ℕ). noted_in_turns a begun (suc i) turns ++ noted_in_turn a n (begun_in begun n) along) number)
    ∙ sym (append_assoc (noted_in_turn a i (begun_in begun i) hs) (noted_in_turns a begun (suc i) turns) (noted_in_turn a (i + suc (length turns)) (begun_in begun (i + suc (length turns))) along))

none_so_far : (a : Asked) (i : ℕ) (begun : Option ℕ) → noted_so_far a i begun [] ≡ []
none_so_far a i None = refl
none_so_far a i (Some n) = refl

-- ---- a hart that is shown

-- before an instruction
pub shown_before : (a a1 : Asked) (ts ts1 : List (Option ℕ)) (front old new : List Place) (turns : List (List Hart)) (along : List Hart) (h : Hart) (told : Bool) (begun : Option ℕ) (number count : ℕ) →
    length turns ≡ number → length along ≡ count → a1 ≡ a → ts1 ≡ ts → old ≡ front ++ noted a ts turns along → told ≡ tells a1 number h → begun ≡ get_or ts1 number None →
    new ≡ old ++ noted_at told number count begun → new ≡ front ++ noted a ts turns (along ++ h ∷ [])
shown_before a a1 ts ts1 front old new turns along h told begun number count en ec ea et eo is at added =
    let i : ℕ = length turns in
    let t : Option ℕ = begun_in ts i in
    let now : noted_at told number count begun ≡ noted_at (tells a i h) i (length along) t = cc (en, ec, ea, et, is, at) in
    added
    ∙ ap (λ (ps : List Place). old ++ ps) now
    ∙ ap (λ (ps : List Place). ps ++ noted_at (tells a i h) i (length along) t) eo
    ∙ append_assoc front (noted a ts turns along) (noted_at (tells a i h) i (length along) t)
    ∙ ap (λ (ps : List Place). front ++ ps)
    (append_assoc (noted_in_turns a ts 0 turns) (noted_so_far a i t along) (noted_at (tells a i h) i (length along) t)
    ∙ ap (λ (ps : List Place). noted_in_turns a ts 0 turns ++ ps) (sym (so_far_more a i t along h)))

-- after the turn
pub shown_after : (a a1 : Asked) (ts ts1 : List (Option ℕ)) (front old new : List Place) (turns : List (List Hart)) (along : List Hart) (h : Hart) (told : Bool) (begun : Option ℕ) (number count : ℕ) →
    length turns ≡ number → length along ≡ count → a1 ≡ a → ts1 ≡ ts → old ≡ front ++ noted a ts turns along → told ≡ (is_some h.stop && tells a1 number h) → begun ≡ get_or ts1 number None →
    new ≡ old ++ noted_at told number count begun → new ≡ front ++ noted a ts (turns ++ (along ++ h ∷ []) ∷ []) []
shown_after a a1 ts ts1 front old new turns along h told begun number count en ec ea et eo is at added =
    let i : ℕ = length turns in
    let t : Option ℕ = begun_in ts i in
    let end : List Place = noted_at (is_some h.stop && tells a i h) i (length along) t in
    let all : List (List Hart) = turns ++ (along ++ h ∷ []) ∷ [] in
    let now : noted_at told number count begun ≡ end = cc (en, ec, ea, et, is, at) in
    let number_is : 0 + i ≡ i = omega arith in
    added
    ∙ ap (λ (ps : List Place). old ++ ps) now
    ∙ ap (λ (ps : List Place). ps ++ end) eo
    ∙ append_assoc front (noted a ts turns along) end
    ∙ ap (λ (ps : List Place). front ++ ps)
    (append_assoc (noted_in_turns a ts 0 turns) (noted_so_far a i t along) end
    ∙ ap (λ (ps : List Place). noted_in_turns a ts 0 turns ++ ps) (sym (turn_is a i t along h))
    ∙ ap (λ (n : ℕ). noted_in_turns a ts 0 turns ++ noted_in_turn a n (begun_in ts n) (along ++ h ∷ [])) (sym number_is)
    ∙ sym (turns_more a ts 0 turns (along ++ h ∷ []))
    ∙ sym (append-nil (noted_in_turns a ts 0 all))
    ∙ ap (λ (ps : List Place). noted_in_turns a ts 0 all ++ ps) (sym (none_so_far a (length all) (begun_in ts (length all)))))

-- ---- all turns

pub none_noted : (a : Asked) (ts : List (Option ℕ)) (front : List Place) → front ≡ front ++ noted a ts [] []
none_noted a ts front = sym (ap (λ (ps : List Place). front ++ ps) (none_so_far a 0 (begun_in ts 0)) ∙ append-nil front)

-- those from hart i on, where what is noted of each is what is told of it
turns_told : (a : Asked) (m : Running) (ts : List (Option ℕ)) (i : ℕ) (turns : List (List Hart)) →
    ((k : ℕ) (along : List Hart) → slice_get turns k ≡ Some along → noted_in_turn a (i + k) (begun_in ts (i + k)) along ≡ turn_places a (i + k) (past_at m (i + k)) (turn_of m (i + k))) →
    serial_places a m i ++ noted_in_turns a ts i turns ≡ serial_places a m (i + length turns)
unfolding serial_places
turns_told a m ts i [] each = let here : i + 0 ≡ i = omega arith in append-nil (serial_places a m i) ∙ ap (serial_places a m) (sym here)
turns_told a m ts i (along ∷ turns) each =
    let number : suc i + length turns ≡ i + suc (length turns) = omega arith in
    let here : i + 0 ≡ i = omega arith in
    let first : noted_in_turn a i (begun_in ts i) along ≡ turn_places a i (past_at m i) (turn_of m i) =
    subst (λ (n : ℕ). noted_in_turn a n (begun_in ts n) along ≡ turn_places a n (past_at m n) (turn_of m n)) here (each 0 along refl) in
    sym (append_assoc (serial_places a m i) (noted_in_turn a i (begun_in ts i) along) (noted_in_turns a ts (suc i) turns))
    ∙ ap (λ (ps : List Place). (serial_places a m i ++ ps) ++ noted_in_turns a ts (suc i) turns) first
    ∙ turns_told a m ts (suc i) turns (λ k hs at. next k hs at)
    ∙ ap (serial_places a m) number
  where
    next : (k : ℕ) (hs : List Hart) → slice_get turns k ≡ Some hs → noted_in_turn a (suc i + k) (begun_in ts (suc i + k)) hs ≡ turn_places a (suc i + k) (past_at m (suc i + k)) (turn_of m (suc i + k))
    next k hs at =
        let number : i + suc k ≡ suc i + k = omega arith in
        subst (λ (n : ℕ). noted_in_turn a n (begun_in ts n) hs ≡ turn_places a n (past_at m n) (turn_of m n)) number (each (suc k) hs at)

pub all_noted : (a : Asked) (m : Running) (ts : List (Option ℕ)) (turns : List (List Hart)) (front new : List Place) (n : ℕ) → length turns ≡ n →
    ((k : ℕ) (along : List Hart) → slice_get turns k ≡ Some along → noted_in_turn a k (begun_in ts k) along ≡ turn_places a k (past_at m k) (turn_of m k)) →
    new ≡ front ++ noted a ts turns [] → new ≡ front ++ serial_places a m n
unfolding serial_places
all_noted a m ts turns front new n size each is =
    let many : 0 + length turns ≡ n = omega (arith, size) in
    is
    ∙ ap (λ (ps : List Place). front ++ ps)
    (ap (λ (ps : List Place). noted_in_turns a ts 0 turns ++ ps) (none_so_far a (length turns) (begun_in ts (length turns)))
    ∙ append-nil (noted_in_turns a ts 0 turns)
    ∙ turns_told a m ts 0 turns (λ k along at. from_none k along at)
    ∙ ap (serial_places a m) many)
  where
    from_none : (k : ℕ) (along : List Hart) → slice_get turns k ≡ Some along → noted_in_turn a (0 + k) (begun_in ts (0 + k)) along ≡ turn_places a (0 + k) (past_at m (0 + k)) (turn_of m (0 + k))
    from_none k along at =
        let number : k ≡ 0 + k = omega arith in
        subst (λ (j : ℕ). noted_in_turn a j (begun_in ts j) along ≡ turn_places a j (past_at m j) (turn_of m j)) number (each k along at)
