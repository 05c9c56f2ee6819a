-- The round of one hart among the rounds of all.
use Rattle.std.proofs.Common.{◌≡◌, ℕ, zero, suc, Bool, true, false, List, [], ◌∷◌, Option, Some, None, option_map, slice_get, get_or, length, ◌<◌, refl, sym, ap, ap₂, ◌∙◌, arith}
use Rattle.round_schedule.specs.declared.access.Access.{Access}
use Rattle.round_schedule.specs.Schedule.{Words, hart_round_of, hart_rounds, round_from}
use Rattle.hart_step.specs.declared.hart.Hart.{Hart}
use Rattle.hart_step.specs.Console.{ConsoleState}
use Rattle.hart_step.specs.Words.{words_of}
use Rattle.hart_rounds.specs.declared.hart_end.HartEnd.{HartEnd}
use Rattle.hart_rounds.specs.Starts.{Start}
use Rattle.hart_rounds.specs.Ends.{end_at_rest, end_of, logged, round_at}

rounds_get : (w : Words Hart ConsoleState) (bs qs : List ℕ) (hs : List Hart) (i q : ℕ) (h : Hart) → slice_get hs i ≡ Some h → slice_get qs i ≡ Some q
    → slice_get (hart_rounds w bs qs hs) i ≡ Some (hart_round_of w bs q h)
rounds_get w bs qs [] i q h at quota = absurd (cc)
rounds_get w bs [] (x ∷ hs) i q h at quota = absurd (cc)
rounds_get w bs (p ∷ qs) (x ∷ hs) zero q h at quota = let e : x ≡ h = cc in let f : p ≡ q = cc in ap₂ (λ (m : ℕ) (g : Hart). Some (hart_round_of w bs m g)) f e
rounds_get w bs (p ∷ qs) (x ∷ hs) (suc i) q h at quota = rounds_get w bs qs hs i q h at quota

pub round_at_is : (s : Start) (n q : ℕ) (h : Hart) → slice_get s.harts n ≡ Some h → slice_get s.quotas n ≡ Some q
    → round_at s n ≡ Some (end_of s.logs (hart_round_of (words_of s.memory.code) s.memory.bytes q h))
unfolding round_at
round_at_is s n q h at quota = ap (option_map (end_of s.logs)) (rounds_get (words_of s.memory.code) s.memory.bytes s.quotas s.harts n q h at quota)

pub nothing_logged : (logs : Bool) → logged logs [] ≡ []
nothing_logged true = refl
nothing_logged false = refl

-- a hart with no quota stays as it is
pub idle_at : (s : Start) (n : ℕ) (h : Hart) → slice_get s.harts n ≡ Some h → slice_get s.quotas n ≡ Some 0 → round_at s n ≡ Some (end_at_rest h)
unfolding round_from
idle_at s n h at none = round_at_is s n 0 h at none ∙ ap (λ (log : List Access). Some (record (end_at_rest h) { log = log })) (nothing_logged s.logs)

pub got : {A : Type 0} (xs : List A) (n : ℕ) (x : A) → n < length xs → x ≡ get_or xs n x → slice_get xs n ≡ Some x
got [] n x lt e = absurd (omega arith)
got (y ∷ ys) zero x lt e = ap Some (sym e)
got (y ∷ ys) (suc n) x lt e = got ys n x (omega arith) e

abbrev end_or : HartEnd → Option HartEnd → HartEnd
end_or e None = e
end_or e (Some f) = f

-- the rounds of one hart from one start leave one thing
pub one_end : (s : Start) (h i : ℕ) (e f : HartEnd) → round_at s h ≡ Some e → round_at s i ≡ Some f → h ≡ i → e ≡ f
one_end s h i e f a b same = ap (end_or e) (sym a ∙ (ap (round_at s) same ∙ b))
