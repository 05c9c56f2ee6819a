-- The turns of a round are what the harts' pasts end with.
use Rattle.std.proofs.Common.{◌≡◌, ℕ, zero, suc, ◌-◌, ◌==◌, ◌||◌, Bool, true, false, cond, List, [], ◌∷◌, ◌++◌, ◌<◌, length, drop, get_or, slice_get, slice_index, is_some, Option, Some, None, refl, sym, ◌∙◌, ap, append-nil, arith}
use Rattle.std.specs.List.{list_any}
use Rattle.std.proofs.lemmas.List.Folds.{list_any-append}
use Rattle.round_schedule.specs.declared.event.Phase.TheVariants.{Serial}
use Rattle.round_schedule.specs.Past.{last_of}
use Rattle.round_schedule.specs.Schedule.{began}
use Rattle.round_planner.specs.Quotas.{quotas_of}
use Rattle.hart_step.specs.declared.hart.Hart.{Hart}
use Rattle.hart_step.specs.Console.{ConsoleState}
use Rattle.hart_step.specs.Words.{words_of}
use Rattle.moments.proofs.Past.{part_is}
use Rattle.machine.specs.Machine.{Running}
use Rattle.guest_turns.specs.TurnHarts.{turns_in_round}
use Rattle.guest_turns.proofs.TurnHartsAsked.{turns_end, turns_size}
use Rattle.moments.specs.Hits.{hits_from, tells}
use Rattle.moments.specs.declared.asked.Asked.{Asked}
use Rattle.past_harts.specs.declared.place.Place.{Place}
use Rattle.past_harts.specs.Begun.{begun_of}
use Rattle.past_harts.proofs.Begun.{got}
use Rattle.round_steps.specs.TurnsNoted.{begun_in, noted, noted_in_turn}
use Rattle.round_steps.proofs.RoundParts.{turns_at}
use Rattle.round_steps.proofs.Turning.{all_noted}
use Rattle.round_steps.specs.Places.{ends_stopped, part_of, past_at, places, serial_places, turn_at, turn_comes, turn_of, turn_places, turns_of}

abbrev there : {X : Type 0} → X → Option X
there x = Some x

some_is : {X : Type 0} (x y : X) → there x ≡ there y → x ≡ y
some_is x y e = cc

-- the harts along the turns of the next round
abbrev pub turns_along : Running → List (List Hart)
turns_along m = turns_in_round (words_of m.code) m.plan.budget (quotas_of m.plan) m.state

-- after how many instructions a turn that comes does
picked_some : (b : Bool) (k n : ℕ) → cond b None (Some k) ≡ Some n → k ≡ n
picked_some true k n e = absurd cc
picked_some false k n e = some_is k n e

begins_at : (quota n : ℕ) (h : Hart) (part : List Hart) → turn_comes quota h part ≡ Some n → length part - 1 ≡ n
begins_at quota n h part e = picked_some (is_some h.stop || ends_stopped (last_of part) || (length part - 1 == quota)) (length part - 1) n e

along_is : (m : Running) (i n : ℕ) (h : Hart) (xs : List Hart) → slice_get m.state.harts i ≡ Some h → slice_get (turns_along m) i ≡ Some xs → turn_of m i ≡ Some n → drop n (past_at m i) ≡ xs
along_is m i n h xs at_h at_i comes =
    let w = words_of m.code in
    let quota = slice_index (quotas_of m.plan m.state.rounds) i in
    let part = part_of (begun_of m) i h in
    let size : length part - 1 ≡ n = begins_at quota n h part (sym (ap (turn_at (begun_of m) i) at_h) ∙ comes) in
    ap (λ (k : ℕ). drop k (past_at m i)) (sym size)
    ∙ ap (λ (hs : List Hart). drop (length hs - 1) (past_at m i)) (part_is w m.state.bytes quota (began h))
    ∙ some_is _ xs (sym (turns_end Hart ConsoleState w m.plan.budget (quotas_of m.plan) m.state i h at_h) ∙ at_i)

-- what is told of a turn
told_there : (a : Asked) (i : ℕ) (past xs : List Hart) (t : Option ℕ) → ((n : ℕ) → t ≡ Some n → drop n past ≡ xs) → noted_in_turn a i t xs ≡ turn_places a i past t
told_there a i past xs None e = refl
told_there a i past xs (Some n) e = ap (λ (hs : List Hart). places Serial i (hits_from (tells a i) n hs)) (sym (e n refl))

pub turn_told : (a : Asked) (m : Running) (i : ℕ) (h : Hart) (xs : List Hart) (t : Option ℕ) → slice_get m.state.harts i ≡ Some h → slice_get (turns_along m) i ≡ Some xs → t ≡ turn_of m i →
    noted_in_turn a i t xs ≡ turn_places a i (past_at m i) t
turn_told a m i h xs t at_h at_i e = told_there a i (past_at m i) xs t (λ n is. along_is m i n h xs at_h at_i (sym e ∙ is))

-- all of them
got_within : {A : Type 0} (xs : List A) (i : ℕ) (x : A) → slice_get xs i ≡ Some x → i < length xs
got_within [] i x e = absurd cc
got_within (y ∷ ys) zero x e = omega arith
got_within (y ∷ ys) (suc i) x e = let less = got_within ys i x e in omega (arith, less)

pub all_told : (a : Asked) (m : Running) (ts : List (Option ℕ)) (front new : List Place) → ts ≡ turns_of (begun_of m) (length m.state.harts) →
    new ≡ front ++ noted a ts (turns_along m) [] → new ≡ front ++ serial_places a m (length m.state.harts)
all_told a m ts front new e is =
    let size : length (turns_along m) ≡ length m.state.harts = turns_size (words_of m.code) m.plan.budget (quotas_of m.plan) m.state in
    all_noted a m ts (turns_along m) front new (length m.state.harts) size (λ i xs at. each size i xs at) is
  where
    d : Hart
    d = record { x = []; pc = 0; stop = None; done = 0 }

    each : length (turns_along m) ≡ length m.state.harts → (i : ℕ) (xs : List Hart) → slice_get (turns_along m) i ≡ Some xs → noted_in_turn a i (begun_in ts i) xs ≡ turn_places a i (past_at m i) (turn_of m i)
    each size i xs at =
        let within : i < length m.state.harts = omega (arith, size, got_within (turns_along m) i xs at) in
        let h : Hart = get_or m.state.harts i d in
        let comes : begun_in ts i ≡ turn_of m i = ap (λ (bs : List (Option ℕ)). begun_in bs i) e ∙ turns_at (begun_of m) (length m.state.harts) i None within in
        turn_told a m i h xs (begun_in ts i) (got m.state.harts i h d within refl) at comes
        ∙ ap (λ (t : Option ℕ). turn_places a i (past_at m i) t) comes

-- ---- a round in which no turn comes

neither : (a b : Bool) → (a || b) ≡ false → (a ≡ false) × (b ≡ false)
neither true b e = absurd cc
neither false b e = (refl, e)

no_turn : (a : Asked) (i : ℕ) (past : List Hart) (t : Option ℕ) → is_some t ≡ false → turn_places a i past t ≡ []
no_turn a i past None e = refl
no_turn a i past (Some n) e = absurd cc

none_told : (a : Asked) (m : Running) (n : ℕ) → list_any is_some (turns_of (begun_of m) n) ≡ false → serial_places a m n ≡ []
unfolding serial_places turns_of
none_told a m zero e = refl
none_told a m (suc i) e =
    let both = neither (list_any is_some (turns_of (begun_of m) i)) (is_some (turn_of m i) || false) (sym (list_any-append is_some (turns_of (begun_of m) i) (turn_of m i ∷ [])) ∙ e) in
    let last = neither (is_some (turn_of m i)) false both.1 in
    ap (λ (ps : List Place). ps ++ turn_places a i (past_at m i) (turn_of m i)) (none_told a m i both.0) ∙ no_turn a i (past_at m i) (turn_of m i) last.0

pub none_comes : (a : Asked) (m : Running) (n : ℕ) (ts : List (Option ℕ)) (found : List Place) → list_any is_some ts ≡ false → ts ≡ turns_of (begun_of m) n → found ≡ found ++ serial_places a m n
none_comes a m n ts found none e =
    sym (ap (λ (ps : List Place). found ++ ps) (none_told a m n (ap (list_any is_some) (sym e) ∙ none)) ∙ append-nil found)
