-- What a hart is and sees within the next round, from a shorter round of it or from two short turns.
use Rattle.std.proofs.Common.{◌<◌, ◌≤◌, ◌%◌, ◌^◌, length, ◌-◌, get_or, slice_get, slice_index, All, arith, ◌≡◌, ℕ, zero, suc, ◌+◌, Bool, true, false, cond, nat_lt, nat_eq, List, [], ◌∷◌, Option, Some, None, option_map, refl, sym, ap, subst, ◌∙◌, true≢false}
use Rattle.std.proofs.lemmas.Bool.Decides.{nat_tests}
use Rattle.pages.specs.Memory.{IsBytes, Memory, after}
use Rattle.pages.specs.Paged.{Paged}
use Rattle.pages.specs.declared.access.Range.{Range}
use Rattle.round_schedule.specs.declared.access.Stepped.{Stepped}
use Rattle.round_schedule.specs.declared.access.Stepped.TheVariants.{Done, Waits, Stopped}
use Rattle.round_schedule.specs.declared.event.Event.{Event}
use Rattle.round_schedule.specs.declared.span.Span.{Span}
use Rattle.round_schedule.specs.ReservingTurn.{ReservingTurn, reserving_turn_from, reserving_turn_next, reserving_turn_taken}
use Rattle.round_schedule.specs.Past.{before_turn, hart_after, last_of, turn_of_waiting}
use Rattle.round_schedule.specs.Schedule.{HartRound, SerialOutcome, State, Words, began, hart_round_of, hart_rounds, turn_from}
use Rattle.round_schedule.specs.Sound.{counted}
use Rattle.round_schedule.specs.Reservations.{Tied, entry}
use Rattle.round_schedule.proofs.PastAnswers.{HartAsked, TurnAsked, asked_there, reserving_turn_there, hart_asked}
use Rattle.round_schedule.proofs.PastAsking.{counts_steps}
use Rattle.round_schedule.proofs.PastEnds.{no_past, round_at}
use Rattle.round_schedule.proofs.PastParts.{parts_are, steps_from}
use Rattle.round_planner.specs.Quotas.{IsQuota, Planned, quotas_of}
use Rattle.hart_step.specs.declared.hart.Hart.{Hart}
use Rattle.hart_step.specs.Console.{ConsoleState}
use Rattle.hart_step.specs.Numbers.{minus}
use Rattle.hart_step.specs.Words.{words_of}
use Rattle.hart_rounds.proofs.HartRounds.{indexed}
use Rattle.hart_step.proofs.Soundness.{counts_done, sound}
use Rattle.hart_rounds.specs.declared.hart_end.HartEnd.{HartEnd}
use Rattle.guest_turns.specs.declared.asked_turn.TurnPlace.{TurnPlace}
use Rattle.guest_turns.specs.Asked.{found_by, found_in, seen_at}
use Rattle.moments.specs.Sights.{Sight, part_sights, sight_after, sights_of, turn_start}
use Rattle.moments.proofs.AskedPast.{no_sight, seen_in_part, seen_in_turn, shorter_end, turn_bytes}
use Rattle.moments.proofs.Past.{harts_in, sights_past}
use Rattle.guest_rounds.specs.Guests.{Shared}
use Rattle.guest_rounds.specs.HartEnds.{AreEndsOf, IsEndOf}
use Rattle.guest_rounds.proofs.EndParts.{hart_is, waits_is}
use Rattle.guest_rounds.proofs.Listed.{same_length}
use Rattle.guest_rounds.proofs.RoundDone.{length-rounds}

-- ---- a hart's count stays a count

small_answered : (code : List Range) (n i k : ℕ) (d : ReservingTurn Hart ConsoleState) (y : Stepped) → (reserving_turn_next (words_of code) n i d).answer ≡ y → ((z : ReservingTurn Hart ConsoleState) → z.hart.done < 2 ^ 64 → (reserving_turn_from (words_of code) n i k z).hart.done < 2 ^ 64) →
    d.hart.done < 2 ^ 64 → (reserving_turn_taken i y d (reserving_turn_next (words_of code) n i d) (reserving_turn_from (words_of code) n i k)).hart.done < 2 ^ 64
small_answered code n i k d (Done a) e rest low =
    let o : SerialOutcome Hart ConsoleState = reserving_turn_next (words_of code) n i d in
    let c : o.hart.done ≡ counted (Done a) d.hart.done = subst (λ (y : Stepped). o.hart.done ≡ counted y d.hart.done) e ((counts_done code).serial_counts n d.hart d.bytes d.console (entry d.reservations i)) in
    rest _ (omega (arith, c))
small_answered code n i k d Waits e rest low =
    let o : SerialOutcome Hart ConsoleState = reserving_turn_next (words_of code) n i d in
    let c : o.hart.done ≡ counted Waits d.hart.done = subst (λ (y : Stepped). o.hart.done ≡ counted y d.hart.done) e ((counts_done code).serial_counts n d.hart d.bytes d.console (entry d.reservations i)) in
    omega (arith, c, low)
small_answered code n i k d (Stopped z) e rest low =
    let o : SerialOutcome Hart ConsoleState = reserving_turn_next (words_of code) n i d in
    let c : o.hart.done ≡ counted (Stopped z) d.hart.done = subst (λ (y : Stepped). o.hart.done ≡ counted y d.hart.done) e ((counts_done code).serial_counts n d.hart d.bytes d.console (entry d.reservations i)) in
    omega (arith, c, low)

either_small : (b : Bool) (d e : ReservingTurn Hart ConsoleState) → d.hart.done < 2 ^ 64 → e.hart.done < 2 ^ 64 → (cond b d e).hart.done < 2 ^ 64
either_small true d e x y = x
either_small false d e x y = y

reserving_turn_small : (code : List Range) (n i k : ℕ) (d : ReservingTurn Hart ConsoleState) → d.hart.done < 2 ^ 64 → (reserving_turn_from (words_of code) n i k d).hart.done < 2 ^ 64
unfolding reserving_turn_from
reserving_turn_small code n i zero d low = low
reserving_turn_small code n i (suc k) d low =
    either_small ((words_of code).stopped d.hart) d _ low (small_answered code n i k d (reserving_turn_next (words_of code) n i d).answer refl (reserving_turn_small code n i k) low)

-- ---- two short turns

-- a sight that there is where the past has a hart, on the bytes of d
record SeesPast (x : Option (Sight Hart)) (at : Option Hart) (d : ReservingTurn Hart ConsoleState) : Type 0 where
  none : at ≡ None → x ≡ None
  some : (g : Hart) → at ≡ Some g → x ≡ Some (record { hart = g; bytes = d.bytes })

by_tests : (budget count k : ℕ) (x : Option (Sight Hart)) (xs : List Hart) (d e : ReservingTurn Hart ConsoleState) (a b c : Bool) → TurnAsked (λ (h : Hart). h.done) budget count k xs d e → SeesPast x (slice_get xs count) d → count ≤ budget → nat_lt k count ≡ a → nat_eq count budget ≡ b → nat_eq e.hart.done d.hart.done ≡ c →
    x ≡ cond a None (cond b (Some (seen_at d)) (cond c (Some (record { hart = e.hart; bytes = d.bytes })) (Some (seen_at d))))
by_tests budget count k x xs d e true b c t p few y z u = let lt : k < count = grind (arith, nat_tests) in p.none (t.fewer lt)
by_tests budget count k x xs d e false true c t p few y z u = let le : count ≤ k = grind (arith, nat_tests) in let all : count ≡ budget = grind (arith, nat_tests) in p.some d.hart (t.all le all)
by_tests budget count k x xs d e false false true t p few y z u =
    let le : count ≤ k = grind (arith, nat_tests) in
    let less : count < budget = grind (arith, nat_tests) in
    let same : e.hart.done ≡ d.hart.done = grind (arith, nat_tests) in
    p.some e.hart (t.ends le less same)
by_tests budget count k x xs d e false false false t p few y z u =
    let le : count ≤ k = grind (arith, nat_tests) in
    let less : count < budget = grind (arith, nat_tests) in
    p.some d.hart (t.goes le less (λ same. let w : nat_eq e.hart.done d.hart.done ≡ true = grind (arith, nat_tests) in cc))

found_is : (budget count : ℕ) (h : Hart) (x : Option (Sight Hart)) (xs : List Hart) (d e : ReservingTurn Hart ConsoleState) → TurnAsked (λ (g : Hart). g.done) budget count (minus d.hart.done h.done) xs d e → SeesPast x (slice_get xs count) d → count ≤ budget → x ≡ found_by budget count h d e
found_is budget count h x xs d e t p few = by_tests budget count (minus d.hart.done h.done) x xs d e _ _ _ t p few refl refl refl

-- ---- within a round

wrapped : (a b : ℕ) → a < 2 ^ 64 → b < 2 ^ 64 → b ≡ (a + minus b a) % 2 ^ 64
wrapped a b x y = omega arith

-- what the harts share in a state, and a place in a turn of its next round
abbrev pub shared_by : List Range → State Hart ConsoleState → List (Option Span) → Shared
shared_by code s reservations = record { memory = record { bytes = s.bytes; code = code }; reservations = reservations; console = s.console }

abbrev pub place_by : ℕ → State Hart ConsoleState → ℕ → ℕ → TurnPlace
place_by budget s i count = record { hart = i; round = s.rounds + 1; budget = budget; count = count }

-- what is found of a hart that begins the round as h: its part of the parallel phase ended as g, after so many instructions
pub record AskedAt (code : List Range) (budget : ℕ) (quotas : ℕ → List ℕ) (s : State Hart ConsoleState) (reservations : List (Option Span)) (i count done : ℕ) (h g : Hart) (waits : Bool) : Type 0 where
  pub few : done ≤ 1000000
  pub early : count < done → sight_after (words_of code) budget quotas s i count ≡ last_of (part_sights (words_of code) count (record { hart = h; bytes = s.bytes }))
  pub at_end : waits ≡ false → count ≡ done → (x : Sight Hart) → last_of (part_sights (words_of code) count (record { hart = h; bytes = s.bytes })) ≡ Some x →
      sight_after (words_of code) budget quotas s i count ≡ Some (record x { hart = g })
  pub beyond : waits ≡ false → done < count → sight_after (words_of code) budget quotas s i count ≡ None
  pub over : done + budget < count → sight_after (words_of code) budget quotas s i count ≡ None
  pub in_turn : waits ≡ true → done ≤ count → count - done ≤ budget →
      sight_after (words_of code) budget quotas s i count ≡ found_in (shared_by code s reservations) (place_by budget s i (count - done)) g (hart_rounds (words_of code) s.bytes (quotas s.rounds) s.harts)

abbrev pub there_is : Sight Hart → Option (Sight Hart)
there_is x = Some x

same_sight : (x y : Sight Hart) → there_is x ≡ there_is y → x ≡ y
same_sight x y e = cc

module _ (code : List Range) (budget : ℕ) (quotas : ℕ → List ℕ) (s : State Hart ConsoleState) (reservations : List (Option Span)) (i count : ℕ) (h : Hart)
    (tied : Tied reservations s.trace) (size : length reservations ≡ length s.harts) (bytes : IsBytes s.bytes) (there : slice_get s.harts i ≡ Some h) (low_i : i < length s.harts)
    (quota_low : slice_index (quotas s.rounds) i ≤ 1000000) (small : budget ≤ 1000) (low : h.done < 2 ^ 64) where
  abbrev W : Words Hart ConsoleState
  W = words_of code

  abbrev quota : ℕ
  quota = slice_index (quotas s.rounds) i

  abbrev part : HartRound Hart
  part = hart_round_of W s.bytes quota h

  abbrev k : ℕ
  k = minus part.last.hart.done h.done

  steps : part.last.hart.done ≡ (h.done + steps_from W s.bytes quota (began h)) % 2 ^ 64
  steps = counts_steps W (λ (g : Hart). g.done) (counts_done code) s.bytes quota (began h) low

  part_low : part.last.hart.done < 2 ^ 64
  part_low = omega (arith, steps)

  k_low : k < 2 ^ 64
  k_low = omega arith

  k_few : k ≤ 1000000
  k_few = omega (arith, steps, low, (parts_are W s.bytes quota (began h)).within, quota_low)

  by_round : HartAsked W budget quotas s i count k h part
  by_round = hart_asked W (λ (g : Hart). g.done) (counts_done code) budget quotas s i count k h there (omega (arith, quota_low)) low k_low (wrapped h.done part.last.hart.done low part_low)

  abbrev taken : ℕ
  taken = steps_from W s.bytes quota (began h)

  did_k : k ≡ taken
  did_k = omega (arith, steps, low, (parts_are W s.bytes quota (began h)).within, quota_low)

  abbrev begun : Sight Hart
  begun = record { hart = h; bytes = s.bytes }

  by_early : count < k → sight_after W budget quotas s i count ≡ last_of (part_sights W count begun)
  by_early lt =
      seen_in_part W budget quotas s i count h there (hart_round_of W s.bytes count h).last.hart (λ w. omega (arith, lt, did_k)) (by_round.early lt)
      ∙ sym (shorter_end W budget quotas s i count h there)

  by_end : part.waits ≡ false → count ≡ k → (x : Sight Hart) → last_of (part_sights W count begun) ≡ Some x → sight_after W budget quotas s i count ≡ Some (record x { hart = part.last.hart })
  by_end e same x f =
      let y : Sight Hart = record { hart = (hart_round_of W s.bytes count h).last.hart; bytes = after s.bytes (hart_round_of W s.bytes count h).last.stores } in
      seen_in_part W budget quotas s i count h there part.last.hart (λ w. absurd (true≢false (sym w ∙ e))) (by_round.at_end e same)
      ∙ ap (λ (z : Sight Hart). there_is (record z { hart = part.last.hart })) (same_sight y x (sym (shorter_end W budget quotas s i count h there) ∙ f))

  -- the state over the reservations after so many instructions of its turn
  abbrev d : ReservingTurn Hart ConsoleState
  d = reserving_turn_there W budget s (hart_rounds W s.bytes (quotas s.rounds) s.harts) reservations i part.last.hart (count - k)

  by_past : part.waits ≡ true → k ≤ count → (g : Hart) → hart_after W budget quotas s i count ≡ Some g → sight_after W budget quotas s i count ≡ Some (record { hart = g; bytes = d.bytes })
  by_past w le g e =
      let state = before_turn W budget s (hart_rounds W s.bytes (quotas s.rounds) s.harts) i in
      let turn_left : ℕ → List ℕ = λ c. (turn_from W state.rounds i c (turn_start state part)).bytes in
      seen_in_turn W budget quotas s i count h there g w (omega (arith, le, did_k)) e
      ∙ ap (λ (c : ℕ). there_is (record { hart = g; bytes = turn_left c })) (omega (arith, did_k))
      ∙ ap (λ (bs : List ℕ). there_is (record { hart = g; bytes = bs })) (turn_bytes W (sound code) budget i (count - k) s (quotas s.rounds) reservations part tied size bytes low_i)

  by_turn : part.waits ≡ true → k ≤ count → count - k ≤ budget →
      sight_after W budget quotas s i count ≡ found_in (shared_by code s reservations) (place_by budget s i (count - k)) part.last.hart (hart_rounds W s.bytes (quotas s.rounds) s.harts)
  by_turn w le few =
      let done_there : ℕ = minus d.hart.done part.last.hart.done in
      let d_low : d.hart.done < 2 ^ 64 = reserving_turn_small code (s.rounds + 1) i (count - k) _ part_low in
      let asked = asked_there W (sound code) (λ (g : Hart). g.done) (counts_done code) budget i (count - k) done_there s (quotas s.rounds) reservations part tied size bytes low_i w few (omega (arith, small)) part_low (omega arith)
      (wrapped part.last.hart.done d.hart.done part_low d_low) in
      let past : SeesPast (sight_after W budget quotas s i count) (slice_get (turn_of_waiting W budget (before_turn W budget s (hart_rounds W s.bytes (quotas s.rounds) s.harts) i) i part) (count - k)) d =
      record { none = λ e. no_sight W budget quotas s i count (by_round.in_turn le ∙ e); some = λ g e. by_past w le g (by_round.in_turn le ∙ e) } in
      found_is budget (count - k) part.last.hart _ _ d _ asked past few

  pub asked_at : (g : Hart) (waits : Bool) → g ≡ part.last.hart → waits ≡ part.waits → AskedAt code budget quotas s reservations i count (minus g.done h.done) h g waits
  asked_at g waits e f =
      subst (λ (b : Bool). AskedAt code budget quotas s reservations i count (minus g.done h.done) h g b) (sym f)
      (subst (λ (z : Hart). AskedAt code budget quotas s reservations i count (minus z.done h.done) h z part.waits) (sym e)
      (record {
        few = k_few;
        early = by_early;
        at_end = by_end;
        beyond = λ w lt. no_sight W budget quotas s i count (by_round.beyond w lt);
        over = λ lt. no_sight W budget quotas s i count (by_round.over lt);
        in_turn = by_turn;
      }))

-- ---- from what the harts left

end_there : (logs : Bool) (m : Memory) (rs : List (HartRound Hart)) (os : List HartEnd) (i : ℕ) (r : HartRound Hart) (o : HartEnd) → AreEndsOf logs m rs os → slice_get rs i ≡ Some r → slice_get os i ≡ Some o → IsEndOf logs m r o
end_there logs m [] os i r o a e f = absurd cc
end_there logs m (x ∷ rs) [] i r o a e f = absurd a
end_there logs m (x ∷ rs) (y ∷ os) zero r o a e f =
    let p : x ≡ r = cc in
    let q : y ≡ o = cc in
    subst (λ (z : HartRound Hart). IsEndOf logs m z o) p (subst (λ (z : HartEnd). IsEndOf logs m x z) q a.0)
end_there logs m (x ∷ rs) (y ∷ os) (suc i) r o a e f = end_there logs m rs os i r o a.1 e f

at_index : {A : Type 0} (xs : List A) (i : ℕ) (x : A) → i < length xs → x ≡ get_or xs i x → slice_get xs i ≡ Some x
at_index xs i x low is = indexed xs i x low ∙ ap (λ z. Some z) (sym is)

pub asked_of : (logs : Bool) (plan : Planned) (n : ℕ) (hs : List Hart) (p : Paged) (t : List (Option Span)) (c : ConsoleState) (es : List Event) (os : List HartEnd) (i count done : ℕ) (h : Hart) (o : HartEnd) →
    AreEndsOf logs p.memory (hart_rounds (words_of p.memory.code) p.memory.bytes (quotas_of plan n) hs) os → i < length hs → h ≡ get_or hs i h → o ≡ get_or os i o → done ≡ minus o.hart.done h.done →
    IsBytes p.memory.bytes → Tied t es → length t ≡ length hs → length hs ≡ plan.harts → All IsQuota (quotas_of plan n) → length (quotas_of plan n) ≡ plan.harts → plan.budget ≤ 1000 → h.done < 2 ^ 64 →
    AskedAt p.memory.code plan.budget (quotas_of plan) (record { harts = hs; bytes = p.memory.bytes; console = c; trace = es; rounds = n }) t i count done h o.hart o.waits
asked_of logs plan n hs p t c es os i count done h o there low_i at_h at_o by_done bytes tied size harts quotas sized small low =
    let m : Memory = p.memory in
    let rs : List (HartRound Hart) = hart_rounds (words_of m.code) m.bytes (quotas_of plan n) hs in
    let s : State Hart ConsoleState = record { harts = hs; bytes = m.bytes; console = c; trace = es; rounds = n } in
    let low_o : i < length os = omega (arith, low_i, same_length logs m rs os there, length-rounds (words_of m.code) m.bytes (quotas_of plan n) hs) in
    let is = end_there logs m rs os i _ o there (round_at (words_of m.code) m.bytes (quotas_of plan n) hs i h (at_index hs i h low_i at_h)) (at_index os i o low_o at_o) in
    let quota : slice_index (quotas_of plan n) i ≤ 1000000 = omega (arith, (quotas i 0 (omega (arith, low_i, harts, sized))).1) in
    subst (λ (k : ℕ). AskedAt m.code plan.budget (quotas_of plan) s t i count k h o.hart o.waits) (sym by_done)
    (asked_at m.code plan.budget (quotas_of plan) s t i count h tied size bytes (at_index hs i h low_i at_h) low_i quota small low o.hart o.waits (hart_is is) (waits_is is))

-- ---- no such hart

past_end : {A : Type 0} (xs : List A) (i : ℕ) → length xs ≤ i → slice_get xs i ≡ None
past_end [] i le = refl
past_end (x ∷ xs) zero le = absurd (omega (arith, le))
past_end (x ∷ xs) (suc i) le = past_end xs i (omega (arith, le))

pub no_hart : (code : List Range) (budget : ℕ) (quotas : ℕ → List ℕ) (s : State Hart ConsoleState) (i count : ℕ) → length s.harts ≤ i → sight_after (words_of code) budget quotas s i count ≡ None
no_hart code budget quotas s i count le =
    no_sight (words_of code) budget quotas s i count (ap (λ (xs : List Hart). slice_get xs count) (no_past (words_of code) budget quotas s i (past_end s.harts i le)))

-- ---- the hart alone

got : {H : Type 0} (xs : List (Sight H)) (c : ℕ) → slice_get (harts_in xs) c ≡ option_map (λ (x : Sight H). x.hart) (slice_get xs c)
got [] c = refl
got (x ∷ xs) zero = refl
got (x ∷ xs) (suc c) = got xs c

pub hart_of_sight : (code : List Range) (budget : ℕ) (quotas : ℕ → List ℕ) (s : State Hart ConsoleState) (i count : ℕ) (x : Option (Sight Hart)) → x ≡ sight_after (words_of code) budget quotas s i count →
    option_map (λ (y : Sight Hart). y.hart) x ≡ hart_after (words_of code) budget quotas s i count
hart_of_sight code budget quotas s i count x e =
    ap (option_map (λ (y : Sight Hart). y.hart)) e
    ∙ sym (got (sights_of (words_of code) budget quotas s i) count)
    ∙ ap (λ (hs : List Hart). slice_get hs count) (sights_past _ _ (words_of code) budget quotas s i)

pub hart_in_some : (code : List Range) (budget : ℕ) (quotas : ℕ → List ℕ) (s : State Hart ConsoleState) (i count : ℕ) (x : Option (Sight Hart)) (y : Sight Hart) (h : Hart) → x ≡ sight_after (words_of code) budget quotas s i count → x ≡ Some y → h ≡ y.hart →
    Some h ≡ hart_after (words_of code) budget quotas s i count
hart_in_some code budget quotas s i count x y h e is same =
    ap (λ (g : Hart). Some g) same ∙ sym (ap (option_map (λ (z : Sight Hart). z.hart)) is) ∙ hart_of_sight code budget quotas s i count x e

pub hart_in_none : (code : List Range) (budget : ℕ) (quotas : ℕ → List ℕ) (s : State Hart ConsoleState) (i count : ℕ) (x : Option (Sight Hart)) → x ≡ sight_after (words_of code) budget quotas s i count → x ≡ None →
    None ≡ hart_after (words_of code) budget quotas s i count
hart_in_none code budget quotas s i count x e is = sym (ap (option_map (λ (z : Sight Hart). z.hart)) is) ∙ hart_of_sight code budget quotas s i count x e
