-- Lists of events in chunks.
use Rattle.std.proofs.Common.{◌≡◌, ℕ, ◌+◌, ◌-◌, ◌<◌, ◌≤◌, List, [], ◌∷◌, ◌++◌, Bool, true, false, length, get_or, take, drop, sym, ap, subst, ◌∙◌, arith, inl, inr, leb, length-append}
use Rattle.std.specs.List.Sorted.{IsNonDecreasingBy, IsPartitionPoint, IsPartitionedBy}
use Rattle.std.specs.Fn.{Called, ComputesKey}
use denote.Param.Members.{Mut}
use denote.Ref.{Bor}
use Rattle.std.proofs.lemmas.List.Sorted.{IsPartitionPoint-from_clause, IsPartitionedBy-leb}
use Rattle.std.proofs.lemmas.Bool.{cases_lt, leb-false, leb-true}
use Rattle.std.proofs.lemmas.List.{append-nil, drop-append-le, drop_more, take-append-drop, take-take, take_all, take_more}
use Rattle.std.proofs.Math.Seq.{drop-append-add}
use Rattle.std.proofs.lemmas.List.Concat.{flat_map-append, get_or-flat_map}
use Rattle.round_schedule.specs.declared.event.Event.{Event}
use Rattle.round_schedule.specs.Positions.{event, no_event}
use Rattle.trace.specs.declared.chunk.Chunk.{Chunk}
use Rattle.trace.specs.Chunks.{AreChunks, events_in, joined}

-- the events of one chunk more
joined_push : (chunks : List Chunk) (p : Chunk) → joined (chunks ++ p ∷ []) ≡ joined chunks ++ events_in p
joined_push chunks p = flat_map-append events_in chunks (p ∷ []) ∙ ap (λ (u : List Event). joined chunks ++ u) (append-nil (events_in p))

-- the events up to one chunk more
joined_more : (chunks : List Chunk) (k : ℕ) (d : Chunk) → k < length chunks → joined (take (k + 1) chunks) ≡ joined (take k chunks) ++ events_in (get_or chunks k d)
joined_more chunks k d l = ap joined (take_more chunks k d l) ∙ joined_push (take k chunks) (get_or chunks k d)

-- more chunks have more events
joined_up_to : (chunks : List Chunk) (i j : ℕ) → i ≤ j → length (joined (take i chunks)) ≤ length (joined (take j chunks))
joined_up_to chunks i j l =
    let front = take j chunks in
    let split : joined (take i front) ++ joined (drop i front) ≡ joined front = sym (flat_map-append events_in (take i front) (drop i front)) ∙ ap joined (take-append-drop i front) in
    let same : length (joined (take i front)) ≡ length (joined (take i chunks)) = ap (λ (ps : List Chunk). length (joined ps)) (take-take i j chunks l) in
    omega (arith, same, ap length split, length-append (joined (take i front)) (joined (drop i front)))

-- the chunks stand in the order of their starts
starts_rise : (chunks : List Chunk) → AreChunks chunks → IsNonDecreasingBy (λ p. p.start) chunks
starts_rise chunks h i j d l m = omega (arith, h.starts i d (omega (arith, l, m)), h.starts j d m, joined_up_to chunks i j l)

-- so many chunks start at an index or before it
abbrev pub AreBegun : List Chunk → ℕ → ℕ → Type 0
AreBegun chunks i n = IsPartitionPoint (λ p. leb p.start i ≡ true) (λ p. leb p.start i ≡ false) chunks n

-- what `partition_point` says, where each call compares a chunk's start
pub begun : {F : Type 0} {g : Mut F (Bor Chunk × Unit {0}) Bool} {f : F} (chunks : List Chunk) (i n : ℕ) → AreChunks chunks →
    ((q : Chunk → Bool) → ComputesKey g q f → IsPartitionedBy q chunks → IsPartitionPoint (λ y. q y ≡ true) (λ y. q y ≡ false) chunks n) →
    ((a : Bor Chunk × Unit {0}) (r : Bool) (f' : F) → Called g f a r f' → (r ≡ leb a.0.now.start i) × (f' ≡ f)) → AreBegun chunks i n
begun chunks i n h clause calls = IsPartitionPoint-from_clause (λ p. leb p.start i) chunks n clause (IsPartitionedBy-leb (λ p. p.start) chunks i (starts_rise chunks h)) calls

-- an index in the chunks is not before the first of them
pub some_begun : (chunks : List Chunk) (i n : ℕ) → AreChunks chunks → i < length (joined chunks) → AreBegun chunks i n → 0 < n
some_begun [] i n h l b = omega (arith, l)
some_begun (p ∷ ps) i n h l b = elim (cases_lt 0 n) [ inl k ↦ k | inr k ↦ omega (arith, leb-false p.start i (b.1 0 p k (omega arith)), h.starts 0 p (omega arith)) ]

-- p is the last of the first n chunks, and has the event at index i
pub record IsWith (chunks : List Chunk) (i n : ℕ) (p : Chunk) : Type 0 where
  pub start : p.start ≤ i
  pub within : i - p.start < length (events_in p)
  pub same : event (events_in p) (i - p.start) ≡ event (joined chunks) i
  pub rest : drop (i - p.start) (events_in p) ++ joined (drop n chunks) ≡ drop i (joined chunks)

pub last_begun : (chunks : List Chunk) (i n : ℕ) (e : Chunk) → AreChunks chunks → i < length (joined chunks) → n ≤ length chunks → AreBegun chunks i n → IsWith chunks i n (get_or chunks (n - 1) e)
last_begun chunks i n e h l m b = record { start = start; within = within; same = same; rest = rest }
  where
    above : i < length (joined (take n chunks))
    above = elim (cases_lt n (length chunks)) [
      | inl k ↦ omega (arith, leb-false (get_or chunks n e).start i (b.1 n e (omega arith) k), h.starts n e k)
      | inr k ↦ omega (arith, l, ap (λ (ps : List Chunk). length (joined ps)) (take_all n chunks k))
    ]

    some : 0 < n
    some = some_begun chunks i n h l b

    p : Chunk
    p = get_or chunks (n - 1) e

    start : p.start ≤ i
    start = leb-true p.start i (b.0 (n - 1) e (omega arith) (omega (arith, some)))

    first : p.start ≡ length (joined (take (n - 1) chunks))
    first = h.starts (n - 1) e (omega (arith, some))

    within : i - p.start < length (events_in p)
    within =
        let next : n - 1 + 1 ≡ n = omega (arith, some) in
        let more = joined_more chunks (n - 1) e (omega (arith, some)) in
        let size = ap length more ∙ length-append (joined (take (n - 1) chunks)) (events_in p) in
        omega (arith, above, first, start, size, ap (λ (j : ℕ). length (joined (take j chunks))) next)

    same : event (events_in p) (i - p.start) ≡ event (joined chunks) i
    same =
        let index : length (joined (take (n - 1) chunks)) + (i - p.start) ≡ i = omega (arith, first, start) in
        sym (get_or-flat_map events_in chunks (n - 1) (i - p.start) e no_event (omega (arith, some)) within) ∙ ap (event (joined chunks)) index

    rest : drop (i - p.start) (events_in p) ++ joined (drop n chunks) ≡ drop i (joined chunks)
    rest =
        let before = joined (take (n - 1) chunks) in
        let next : n - 1 + 1 ≡ n = omega (arith, some) in
        let index : length before + (i - p.start) ≡ i = omega (arith, first, start) in
        let cut : drop (n - 1) chunks ≡ p ∷ drop n chunks = drop_more chunks (n - 1) e (omega (arith, some)) ∙ ap (λ (j : ℕ). p ∷ drop j chunks) next in
        let split : joined chunks ≡ before ++ (events_in p ++ joined (drop n chunks)) =
        ap joined (sym (take-append-drop (n - 1) chunks)) ∙ flat_map-append events_in (take (n - 1) chunks) (drop (n - 1) chunks) ∙ ap (λ (ps : List Chunk). before ++ joined ps) cut in
        sym (ap (λ (j : ℕ). drop j (joined chunks)) (sym index) ∙ ap (drop (length before + (i - p.start))) split
        ∙ drop-append-add before (events_in p ++ joined (drop n chunks)) (i - p.start)
        ∙ drop-append-le (i - p.start) (events_in p) (joined (drop n chunks)) (omega (arith, within)))

-- the chunk before that point, which `partition_point` found
pub found : {F : Type 0} {g : Mut F (Bor Chunk × Unit {0}) Bool} {f : F} (chunks : List Chunk) (i n : ℕ) (p : Chunk) → AreChunks chunks → i < length (joined chunks) → n ≤ length chunks →
    ((q : Chunk → Bool) → ComputesKey g q f → IsPartitionedBy q chunks → IsPartitionPoint (λ y. q y ≡ true) (λ y. q y ≡ false) chunks n) →
    ((a : Bor Chunk × Unit {0}) (r : Bool) (f' : F) → Called g f a r f' → (r ≡ leb a.0.now.start i) × (f' ≡ f)) → p ≡ get_or chunks (n - 1) p → IsWith chunks i n p
found chunks i n p h l m clause calls is = subst (IsWith chunks i n) (sym is) (last_begun chunks i n p h l m (begun chunks i n h clause calls))
