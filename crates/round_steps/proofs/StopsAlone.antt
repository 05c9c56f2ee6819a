-- Rounds in which no hart stops, where nothing is told of one that runs.
use Rattle.std.proofs.Common.{◌≡◌, ℕ, zero, suc, ◌+◌, ◌-◌, ◌<◌, ◌≤◌, Bool, true, false, cond, ◌&&◌, List, [], ◌∷◌, ◌++◌, length, drop, filter, map, slice_get, slice_index, is_some, Option, Some, None, refl, sym, ◌∙◌, ap, subst, arith}
use Rattle.round_schedule.specs.Past.{last_of, parts_from}
use Rattle.round_schedule.specs.Schedule.{HartRound, Words, began, hart_round_of}
use Rattle.round_planner.specs.Quotas.{quotas_of}
use Rattle.hart_step.specs.declared.hart.Hart.{Hart}
use Rattle.hart_step.specs.Console.{ConsoleState}
use Rattle.hart_step.specs.Words.{words_of}
use Rattle.machine.specs.Machine.{Running, after_round, after_rounds}
use Rattle.machine.specs.Untraced.{IsUntraced, Untraced}
use Rattle.machine.proofs.Repeated.{more_rounds, next_round}
use Rattle.round_schedule.proofs.PastEnds.{past_ends}
use Rattle.moments.proofs.Past.{part_is}
use Rattle.moments.specs.declared.asked.Asked.{Asked}
use Rattle.moments.specs.Hits.{hits_from, is_moment, tells}
use Rattle.moments.specs.Moves.{moves_of}
use Rattle.watching.specs.declared.hits.Hit.{Hit}
use Rattle.watching.specs.declared.watchpoint.Watchpoint.{Watchpoint}
use Rattle.watching.specs.declared.watchpoint.Way.{Way}
use Rattle.watching.specs.declared.watchpoint.Way.TheVariants.{On, Back}
use Rattle.watching.specs.Watches.{hits_of}
use Rattle.round_schedule.specs.declared.event.Phase.TheVariants.{Parallel, Serial}
use Rattle.past_harts.specs.declared.place.Place.{Place}
use Rattle.past_harts.specs.declared.point.Point.{Point}
use Rattle.round_steps.specs.declared.told.Told.{Told}
use Rattle.past_harts.specs.Begun.{begun_of}
use Rattle.round_steps.specs.Places.{parallel_places, part_counts, part_of, part_places, past_at, places, round_places, serial_places, turn_at, turn_comes, turn_of, turn_places}
use Rattle.round_steps.specs.Points.{break_point, earliest, first_in, hit_point, last_in, latest, next_point_of, or_else, points_of, previous_point_of}
use Rattle.past_harts.specs.Points.{point_before}
use Rattle.round_steps.specs.Searching.{FindsFirst, FindsLast, FindsNearest}
use Rattle.round_steps.specs.Stopping.{NoNewStop, tells_anew}
use Rattle.round_steps.proofs.GoingOn.{GoOn, last_of_part, none_comes_long, part_goes, part_is_left, past_goes, stays_long}
use Rattle.round_steps.proofs.Silent.{IsSilent, no_places}

abbrev pub AsksOfStops : Asked → Type 0
AsksOfStops a = (i : ℕ) (h : Hart) → is_some h.stop ≡ false → tells a i h ≡ false

abbrev there : Hart → Option Hart
there h = Some h

some_is : (x y : Hart) → there x ≡ there y → x ≡ y
some_is x y e = cc

untold : (b c : Bool) (n : ℕ) (ns : List ℕ) → c ≡ false → ns ≡ [] → (cond (b && c) (n ∷ []) []) ++ ns ≡ []
untold true c n ns e f = rw (e, f) refl
untold false c n ns e f = f

-- ---- harts of which all but the last run

module _ (m : Running) (f : Hart → Bool) (only : (h : Hart) → is_some h.stop ≡ false → f h ≡ false) where
  abbrev W : Words Hart ConsoleState
  W = words_of m.code

  no_hits : (c : ℕ) (hs : List Hart) → GoOn W hs → ((g : Hart) → last_of hs ≡ Some g → f g ≡ false) → hits_from f c hs ≡ []
  no_hits c [] go last = refl
  no_hits c (h ∷ []) go last = untold (is_moment h []) (f h) c [] (last h refl) refl
  no_hits c (h ∷ g ∷ hs) go last = untold (is_moment h (g ∷ hs)) (f h) c (hits_from f (suc c) (g ∷ hs)) (only h go.0) (no_hits (suc c) (g ∷ hs) go.1 last)

  no_hits_behind : (c n : ℕ) (hs : List Hart) → GoOn W hs → ((g : Hart) → last_of hs ≡ Some g → f g ≡ false) → hits_from f c (drop n hs) ≡ []
  no_hits_behind c zero hs go last = no_hits c hs go last
  no_hits_behind c (suc n) [] go last = refl
  no_hits_behind c (suc n) (h ∷ []) go last = no_hits_behind c n [] tt (λ g e. absurd cc)
  no_hits_behind c (suc n) (h ∷ g ∷ hs) go last = no_hits_behind c n (g ∷ hs) go.1 last

  -- ---- hart i in a round that begins with it as h, and it runs

  module _ (i : ℕ) (h : Hart) (at : slice_get m.state.harts i ≡ Some h) (quiet : (g : Hart) → slice_get (after_round m).state.harts i ≡ Some g → f g ≡ false) where
    abbrev quota : ℕ
    quota = slice_index (quotas_of m.plan m.state.rounds) i

    abbrev part : HartRound Hart
    part = hart_round_of W m.state.bytes quota h

    end_untold : (b : Bool) → is_some part.last.hart.stop ≡ b → f part.last.hart ≡ false
    end_untold false e = only part.last.hart e
    end_untold true e = quiet part.last.hart (part_is_left W m.plan.budget (quotas_of m.plan) m.state i h at e)

    no_hits_in_part : hits_from f 0 (part_of (begun_of m) i h) ≡ []
    no_hits_in_part =
        ap (hits_from f 0) (part_is W m.state.bytes quota (began h))
        ∙ no_hits 0 (parts_from W m.state.bytes quota (began h)) (part_goes W m.state.bytes quota (began h))
        (λ g e. subst (λ (x : Hart). f x ≡ false) (some_is _ g (sym (last_of_part W m.state.bytes quota (began h)) ∙ e)) (end_untold (is_some part.last.hart.stop) refl))

    no_hits_in_turn : (n : ℕ) → hits_from f n (drop n (past_at m i)) ≡ []
    no_hits_in_turn n = no_hits_behind n n (past_at m i) (past_goes W m.plan.budget (quotas_of m.plan) m.state i h at) (λ g e. quiet g (sym (past_ends Hart ConsoleState W m.plan.budget (quotas_of m.plan) m.state i) ∙ e))

-- ---- the round

module _ (a : Asked) (asks : AsksOfStops a) (m : Running) (none : NoNewStop a m.state.harts (after_round m).state.harts) where
  told_anew : (i : ℕ) (h g : Hart) (b : Bool) → slice_get m.state.harts i ≡ Some h → slice_get (after_round m).state.harts i ≡ Some g → is_some h.stop ≡ false → tells a i g ≡ b → tells a i g ≡ false
  told_anew i h g false eh eg runs et = et
  told_anew i h g true eh eg runs et =
      absurd (let anew = none i in let told : tells_anew a i (slice_get m.state.harts i) (slice_get (after_round m).state.harts i) ≡ true = rw (eh, eg, runs, et) refl in cc)

  quiet_part : (i : ℕ) (h : Hart) (b : Bool) → slice_get m.state.harts i ≡ Some h → is_some h.stop ≡ b → part_counts (tells a i) h (part_of (begun_of m) i h) ≡ []
  quiet_part i h true at e = rw e refl
  quiet_part i h false at e = rw e (no_hits_in_part m (tells a i) (asks i) i h at (λ g eg. told_anew i h g (tells a i g) at eg e refl))

  quiet_parts : (i : ℕ) (o : Option Hart) → slice_get m.state.harts i ≡ o → part_places a (begun_of m) i o ≡ []
  quiet_parts i None e = refl
  quiet_parts i (Some h) e = ap (places Parallel i) (quiet_part i h (is_some h.stop) e refl)

  none_of_stopped : (n quota : ℕ) (h : Hart) (part : List Hart) → is_some h.stop ≡ true → turn_comes quota h part ≡ Some n → ⊥
  none_of_stopped n quota h part e comes = let none_is : turn_comes quota h part ≡ None = rw e refl in cc

  quiet_turn_of : (i n : ℕ) (h : Hart) (b : Bool) → slice_get m.state.harts i ≡ Some h → is_some h.stop ≡ b → turn_at (begun_of m) i (Some h) ≡ Some n → hits_from (tells a i) n (drop n (past_at m i)) ≡ []
  quiet_turn_of i n h true at e comes = absurd (none_of_stopped n (slice_index (begun_of m).quotas i) h (part_of (begun_of m) i h) e comes)
  quiet_turn_of i n h false at e comes = no_hits_in_turn m (tells a i) (asks i) i h at (λ g eg. told_anew i h g (tells a i g) at eg e refl) n

  quiet_turn_by : (i n : ℕ) (o : Option Hart) → slice_get m.state.harts i ≡ o → turn_at (begun_of m) i o ≡ Some n → hits_from (tells a i) n (drop n (past_at m i)) ≡ []
  quiet_turn_by i n None at comes = absurd cc
  quiet_turn_by i n (Some h) at comes = quiet_turn_of i n h (is_some h.stop) at refl comes

  quiet_turn : (i : ℕ) (t : Option ℕ) → turn_of m i ≡ t → turn_places a i (past_at m i) t ≡ []
  quiet_turn i None e = refl
  quiet_turn i (Some n) e = ap (places Serial i) (quiet_turn_by i n (slice_get m.state.harts i) refl e)

  parts_quiet : (n : ℕ) → parallel_places a (begun_of m) n ≡ []
  unfolding parallel_places
  parts_quiet zero = refl
  parts_quiet (suc i) = ap (λ (xs : List Place). xs ++ part_places a (begun_of m) i (slice_get m.state.harts i)) (parts_quiet i) ∙ quiet_parts i (slice_get m.state.harts i) refl

  turns_quiet : (n : ℕ) → serial_places a m n ≡ []
  unfolding serial_places
  turns_quiet zero = refl
  turns_quiet (suc i) = ap (λ (xs : List Place). xs ++ turn_places a i (past_at m i) (turn_of m i)) (turns_quiet i) ∙ quiet_turn i (turn_of m i) refl

  pub no_places_told : round_places a m ≡ []
  no_places_told = ap (λ (ps : List Place). ps ++ serial_places a m (length m.state.harts)) (parts_quiet (length m.state.harts)) ∙ turns_quiet (length m.state.harts)

-- ---- rounds

module _ (a : Asked) (asks : AsksOfStops a) (m : Running) where
  abbrev harts_after : ℕ → List Hart
  harts_after k = (after_rounds k m).state.harts

  -- what a hart is after j rounds, where it has stopped, it is after k
  stays_stopped : (j k i : ℕ) (h : Hart) → j ≤ k → slice_get (harts_after j) i ≡ Some h → is_some h.stop ≡ true → slice_get (harts_after k) i ≡ Some h
  stays_stopped j k i h le e stops =
      let sum : j + (k - j) ≡ k = omega (arith, le) in
      subst (λ (n : ℕ). slice_get (harts_after n) i ≡ Some h) sum
      (subst (λ (r : Running). slice_get r.state.harts i ≡ Some h) (more_rounds j (k - j) m)
      (stays_long (words_of m.code) m.plan.budget (quotas_of m.plan) (k - j) (after_rounds j m).state i h e stops))

  ran_before : (j i : ℕ) (h : Hart) (o : Option Hart) → slice_get (harts_after j) i ≡ Some h → is_some h.stop ≡ false → slice_get m.state.harts i ≡ o → (x : Hart) × (slice_get m.state.harts i ≡ Some x) × (is_some x.stop ≡ false)
  ran_before j i h None e runs o = absurd (let none = none_comes_long (words_of m.code) m.plan.budget (quotas_of m.plan) j m.state i o in cc)
  ran_before j i h (Some x) e runs o = (x, o, running_then (is_some x.stop) refl)
    where
      running_then : (b : Bool) → is_some x.stop ≡ b → is_some x.stop ≡ false
      running_then false eb = eb
      running_then true eb =
          absurd (let same = some_is x h (sym (stays_long (words_of m.code) m.plan.budget (quotas_of m.plan) j m.state i x o eb) ∙ e) in let stopped : is_some h.stop ≡ true = subst (λ (y : Hart). is_some y.stop ≡ true) same eb in cc)

  told_then : (i : ℕ) (x g : Hart) (xs ys : List Hart) → NoNewStop a xs ys → slice_get xs i ≡ Some x → slice_get ys i ≡ Some g → is_some x.stop ≡ false → tells a i g ≡ true → ⊥
  told_then i x g xs ys none ex eg runs et = let anew = none i in let told : tells_anew a i (slice_get xs i) (slice_get ys i) ≡ true = rw (ex, eg, runs, et) refl in cc

  quiet_then : (j k i : ℕ) (h g : Hart) (b s : Bool) → j < k → NoNewStop a m.state.harts (harts_after k) → slice_get (harts_after j) i ≡ Some h → slice_get (harts_after (j + 1)) i ≡ Some g → is_some h.stop ≡ false → tells a i g ≡ b → is_some g.stop ≡ s → tells a i g ≡ false
  quiet_then j k i h g false s lt none eh eg runs et es = et
  quiet_then j k i h g true false lt none eh eg runs et es = asks i g es
  quiet_then j k i h g true true lt none eh eg runs et es =
      let before = ran_before j i h (slice_get m.state.harts i) eh runs refl in
      absurd (told_then i before.0 g m.state.harts (harts_after k) none before.1 (stays_stopped (j + 1) k i g (omega (arith, lt)) eg es) before.2 et)

  anew_in_round : (j k i : ℕ) (o p : Option Hart) → j < k → NoNewStop a m.state.harts (harts_after k) → slice_get (harts_after j) i ≡ o → slice_get (harts_after (j + 1)) i ≡ p → tells_anew a i o p ≡ false
  anew_in_round j k i None None lt none eo ep = refl
  anew_in_round j k i None (Some g) lt none eo ep = refl
  anew_in_round j k i (Some h) None lt none eo ep = refl
  anew_in_round j k i (Some h) (Some g) lt none eo ep = by_stop (is_some h.stop) refl
    where
      by_stop : (b : Bool) → is_some h.stop ≡ b → tells_anew a i (Some h) (Some g) ≡ false
      by_stop true e = rw e refl
      by_stop false e = let t = quiet_then j k i h g (tells a i g) (is_some g.stop) lt none eo ep e refl refl in rw (e, t) refl

  quiet_rounds : (j k : ℕ) → j < k → NoNewStop a m.state.harts (harts_after k) → round_places a (after_rounds j m) ≡ []
  quiet_rounds j k lt none =
      no_places_told a asks (after_rounds j m)
      (subst (λ (r : Running). NoNewStop a (harts_after j) r.state.harts) (sym (next_round j m))
      (λ i. anew_in_round j k i (slice_get (harts_after j) i) (slice_get (harts_after (j + 1)) i) lt none refl refl))

  -- ---- what is told in them is what watchpoints tell

  module _ (b : Asked) (silent : IsSilent b) (ws : List Watchpoint) where
    abbrev hits_in : Way → Running → List Hit
    hits_in way r = hits_of way ws (moves_of (words_of r.code) r.plan.budget (quotas_of r.plan) r.state)

    same_points : (way : Way) (r : Running) → round_places a r ≡ [] → points_of way b ws r ≡ points_of way a ws r
    same_points way r e =
        let f : [] ≡ round_places b r = no_places b silent r [] refl in
        ap (λ (ps : List Place). map (break_point r.state.rounds) ps ++ map (hit_point way r.state.rounds r.state.harts) (hits_in way r)) (sym f ∙ sym e)

    first_is : (r : Running) (here : Point) → round_places a r ≡ [] → first_in b ws r here ≡ first_in a ws r here
    first_is r here e = ap (λ (ts : List Told). earliest None (filter (λ (t : Told). point_before here t.point) ts)) (same_points On r e)

    last_is : (r : Running) (here : Point) → round_places a r ≡ [] → last_in b ws r here ≡ last_in a ws r here
    last_is r here e = ap (λ (ts : List Told). latest None (filter (λ (t : Told). point_before t.point here) ts)) (same_points Back r e)

    pub same_next : (k n : ℕ) (here : Point) → k ≤ n → NoNewStop a m.state.harts (harts_after n) → next_point_of b ws m k here ≡ next_point_of a ws m k here
    unfolding next_point_of
    same_next zero n here le none = refl
    same_next (suc k) n here le none =
        ap (λ (x : Option Told). or_else x (first_in b ws (after_rounds k m) here)) (same_next k n here (omega (arith, le)) none)
        ∙ ap (or_else (next_point_of a ws m k here)) (first_is (after_rounds k m) here (quiet_rounds k n (omega (arith, le)) none))

    pub same_previous : (k n : ℕ) (here : Point) → k ≤ n → NoNewStop a m.state.harts (harts_after n) → previous_point_of b ws m k here ≡ previous_point_of a ws m k here
    unfolding previous_point_of
    same_previous zero n here le none = refl
    same_previous (suc k) n here le none =
        ap (or_else (last_in b ws (after_rounds k m) here)) (same_previous k n here (omega (arith, le)) none)
        ∙ ap (λ (x : Option Told). or_else x (previous_point_of a ws m k here)) (last_is (after_rounds k m) here (quiet_rounds k n (omega (arith, le)) none))

-- ---- a search in which nothing was asked for, where no hart has stopped

first_stays : (a b : Asked) (asks : AsksOfStops a) (m : Running) (silent : IsSilent b) (ws : List Watchpoint) (n : ℕ) (here : Point) (u v : Untraced) (before after : List Hart) (x : Option Told) → IsUntraced m u → before ≡ u.harts → after ≡ v.harts → NoNewStop a before after →
    FindsFirst b ws m n here u v x → FindsFirst a ws m n here u v x
first_stays a b asks m silent ws n here u v before after x is eb ea none f =
    let same : NoNewStop a m.state.harts (after_rounds f.done m).state.harts =
    subst (λ (hs : List Hart). NoNewStop a hs (after_rounds f.done m).state.harts) (eb ∙ is.harts) (subst (λ (hs : List Hart). NoNewStop a before hs) (ea ∙ f.run.harts) none) in
    let le : f.done ≤ f.done = omega arith in
    record { done = f.done; most = f.most; all = f.all; run = f.run; rounds = f.rounds; told = f.told ∙ same_next a asks m b silent ws f.done f.done here le same }

last_stays : (a b : Asked) (asks : AsksOfStops a) (m : Running) (silent : IsSilent b) (ws : List Watchpoint) (n : ℕ) (here : Point) (u v : Untraced) (before after : List Hart) (x : Option Told) → IsUntraced m u → before ≡ u.harts → after ≡ v.harts → NoNewStop a before after →
    FindsLast b ws m n here u v x → FindsLast a ws m n here u v x
last_stays a b asks m silent ws n here u v before after x is eb ea none f =
    let same : NoNewStop a m.state.harts (after_rounds n m).state.harts =
    subst (λ (hs : List Hart). NoNewStop a hs (after_rounds n m).state.harts) (eb ∙ is.harts) (subst (λ (hs : List Hart). NoNewStop a before hs) (ea ∙ f.run.harts) none) in
    let le : n ≤ n = omega arith in
    record { run = f.run; rounds = f.rounds; told = f.told ∙ same_previous a asks m b silent ws n n here le same }

pub nearest_stays : (way : Way) (a b : Asked) (asks : AsksOfStops a) (m : Running) (silent : IsSilent b) (ws : List Watchpoint) (n : ℕ) (here : Point) (u v : Untraced) (before after : List Hart) (x : Option Told) → IsUntraced m u → before ≡ u.harts → after ≡ v.harts → NoNewStop a before after →
    FindsNearest way b ws m n here u v x → FindsNearest way a ws m n here u v x
nearest_stays On = first_stays
nearest_stays Back = last_stays
