-- The machine after so many rounds.
use Rattle.std.proofs.Common.{◌≡◌, ℕ, ◌+◌, ◌++◌, List, [], ◌∷◌, All, Bool, true, false, cond, Option, refl, sym, subst}
use Rattle.std.proofs.lemmas.List.Elements.{All-nil, All-push, All-same}
use Rattle.machine.specs.Machine.{Running, after_rounds}
use Rattle.machine.specs.Untraced.{IsAfter, IsUntraced, Untraced}
use Rattle.machine.proofs.Repeated.{more_rounds}
use Rattle.round_steps.specs.Searching.{FindsNearest}
use Rattle.timelines.specs.Timelines.{IsThere}
use Rattle.round_steps.proofs.Searching.{begins_there}
use Rattle.moments.specs.declared.asked.Asked.{Asked}
use Rattle.watching.specs.declared.watchpoint.Watchpoint.{Watchpoint}
use Rattle.watching.specs.declared.watchpoint.Way.{Way}
use Rattle.watching.specs.declared.watchpoint.Way.TheVariants.{On, Back}
use Rattle.past_harts.specs.declared.point.Point.{Point}
use Rattle.round_steps.specs.declared.told.Told.{Told}

pub from_start : (m : Running) (start u : Untraced) → IsUntraced m start → start.rounds ≡ 0 → u ≡ start → IsUntraced (after_rounds u.rounds m) u
from_start m start u is none same =
    subst (λ (v : Untraced). IsUntraced (after_rounds v.rounds m) v) (sym same)
    (subst (λ (n : ℕ). IsUntraced (after_rounds n m) start) (sym none) (begins_there m start is))

pub arrives : (m : Running) (k more n : ℕ) (u v : Untraced) → IsUntraced (after_rounds k m) u → IsAfter more u v → k + more ≡ n → IsUntraced (after_rounds n m) v
arrives m k more n u v is after e = subst (λ (j : ℕ). IsUntraced (after_rounds j m) v) e (subst (λ (x : Running). IsUntraced x v) (more_rounds k more m) (after (after_rounds k m) is))

pub is_there : (m : Running) (n : ℕ) (u v : Untraced) → IsUntraced (after_rounds n m) u → u.rounds ≡ n → v ≡ u → IsUntraced (after_rounds v.rounds m) v
is_there m n u v is e same =
    subst (λ (w : Untraced). IsUntraced (after_rounds w.rounds m) w) (sym same) (subst (λ (j : ℕ). IsUntraced (after_rounds j m) u) (sym e) is)

pub start_there : (start : Untraced) → start.rounds ≡ 0 → IsThere start start
start_there start none = λ m is. from_start m start start is none refl

pub none_there : (start : Untraced) (us : List Untraced) → us ≡ [] → All (IsThere start) us
none_there start us e = All-same (IsThere start) us [] e (All-nil (IsThere start))

pub one_more_there : (start u v : Untraced) (us vs : List Untraced) (b : Bool) → All (IsThere start) us → IsThere start u → v ≡ u → vs ≡ cond b (us ++ v ∷ []) us → All (IsThere start) vs
one_more_there start u v us vs true all is same e = All-same (IsThere start) vs (us ++ v ∷ []) e (All-push (IsThere start) us v all (subst (IsThere start) (sym same) is))
one_more_there start u v us vs false all is same e = All-same (IsThere start) vs us e all

-- a machine some rounds after one that is there
pub goes_there : (m : Running) (b d : ℕ) (v : Untraced) → IsUntraced (after_rounds d (after_rounds b m)) v → v.rounds ≡ b + d → IsUntraced (after_rounds v.rounds m) v
goes_there m b d v is e = subst (λ (n : ℕ). IsUntraced (after_rounds n m) v) (sym e) (subst (λ (r : Running). IsUntraced r v) (more_rounds b d m) is)

-- the machine behind a search
pub searched_there : (way : Way) (a : Asked) (ws : List Watchpoint) (m : Running) (n : ℕ) (here : Point) (u v : Untraced) (x : Option Told) → FindsNearest way a ws (after_rounds u.rounds m) n here u v x → IsUntraced (after_rounds v.rounds m) v
searched_there On a ws m n here u v x f = goes_there m u.rounds f.done v f.run f.rounds
searched_there Back a ws m n here u v x f = goes_there m u.rounds n v f.run f.rounds
