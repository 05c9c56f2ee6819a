-- The run of a guest under a plan ends as the definitions say.
use Rattle.std.proofs.Common.{◌≡◌, ℕ, ◌&&◌, ◌||◌, not, is_some, Bool, true, false, List, [], ◌∷◌, map, Option, Some, None, Result, IfOk, refl, sym, ◌∙◌, ap, subst}
use Rattle.std.proofs.lemmas.Bool.{false≢true}
use Rattle.pages.specs.declared.out_of_memory.OutOfMemory.{OutOfMemory}
use Rattle.elf_loader.specs.Image.{Loaded}
use Rattle.hart_step.specs.declared.hart.Hart.{Hart}
use Rattle.hart_step.specs.declared.hart.Stop.{Stop}
use Rattle.hart_step.specs.Console.{ConsoleState}
use Rattle.serial_phase.specs.Forgetting.{uncounted}
use Rattle.hunt_table.specs.declared.seen_range.SeenRange.{SeenRange}
use Rattle.hunter.specs.Finding.{IsLike, is_round, loops_in, some_run}
use Rattle.machine.specs.Machine.{Running, after_rounds, opening}
use Rattle.round_planner.specs.Settings.{image_of}
use Rattle.machine.specs.Untraced.{IsUntraced, Untraced}
use Rattle.round_planner.specs.Quotas.{Planned}
use Rattle.round_planner.specs.Families.{family_plan}
use Rattle.plan_hunt.specs.Endings.{Ended, ended}
use Rattle.plan_hunt.specs.declared.hart_ending.HartEnding.{HartEnding}
use Rattle.plan_hunt.specs.declared.hart_ending.HartEnding.TheVariants.{Stopped}
use Rattle.plan_hunt.specs.Extents.{IsTableOf}
use Rattle.plan_hunt.specs.declared.row.Row.{Row}
use Rattle.plan_hunt.specs.Steps.{IsShrunk}
use Rattle.hunter.specs.Hunts.{IsHunted, ended_of, ending_by, ends_after, ends_from, ends_under, extent_of, family_of, run_endings, seen_of}
use Rattle.hunter.specs.declared.settings.HuntSettings.{HuntSettings}

head_is : {X : Type 0} (x y : X) (xs ys : List X) → x ∷ xs ≡ y ∷ ys → (x ≡ y) × (xs ≡ ys)
head_is x y xs ys e = (cc, cc)

-- what harts have done makes no difference to their words
same_harts : (f : Option Stop → HartEnding) (hs gs : List Hart) → map uncounted hs ≡ map uncounted gs → map (λ (h : Hart). f h.stop) hs ≡ map (λ (h : Hart). f h.stop) gs
same_harts f [] [] e = refl
same_harts f [] (g ∷ gs) e = cc
same_harts f (h ∷ hs) [] e = cc
same_harts f (h ∷ hs) (g ∷ gs) e =
    let d = head_is (uncounted h) (uncounted g) (map uncounted hs) (map uncounted gs) e in
    ap (λ (x : Hart). f x.stop ∷ map (λ (h : Hart). f h.stop) hs) d.0 ∙ ap (λ (ws : List HartEnding). f g.stop ∷ ws) (same_harts f hs gs d.1)

-- and where none runs, nor does whether the run goes round
none_run : (a b : Bool) (hs : List Hart) → some_run hs ≡ false → map (λ (h : Hart). ending_by a h.stop) hs ≡ map (λ (h : Hart). ending_by b h.stop) hs
none_run a b [] e = refl
none_run a b (h ∷ hs) e = by_stop h.stop e (λ f. none_run a b hs f)
  where
    by_stop : (s : Option Stop) → (not (is_some s) || some_run hs) ≡ false →
        (some_run hs ≡ false → map (λ (h : Hart). ending_by a h.stop) hs ≡ map (λ (h : Hart). ending_by b h.stop) hs) →
        ending_by a s ∷ map (λ (h : Hart). ending_by a h.stop) hs ≡ ending_by b s ∷ map (λ (h : Hart). ending_by b h.stop) hs
    by_stop None f rest = absurd (false≢true (sym f))
    by_stop (Some s) f rest = ap (λ (ws : List HartEnding). Stopped s ∷ ws) (rest f)

same_words : (round : Bool) (hs : List Hart) (b : Bool) → some_run hs ≡ b →
    map (λ (h : Hart). ending_by (b && round) h.stop) hs ≡ map (λ (h : Hart). ending_by round h.stop) hs
same_words round hs true e = refl
same_words round hs false e = none_run false round hs e

-- the harts of a machine that was run, or cut short, ended as those of the run
pub endings_so : (n : ℕ) (m : Running) (v : Untraced) (l : Bool) (like : IsLike (after_rounds n m) v) → l ≡ loops_in n m →
    map (λ (g : Hart). ending_by l g.stop) like.there.state.harts ≡ run_endings n m
endings_so n m v l like loops =
    let last : Running = after_rounds n m in
    let round : Bool = is_round n m in
    ap (λ (b : Bool). map (λ (g : Hart). ending_by b g.stop) like.there.state.harts) loops
    ∙ same_harts (ending_by (some_run last.state.harts && round)) like.there.state.harts last.state.harts like.alike.harts
    ∙ same_words round last.state.harts (some_run last.state.harts) refl

-- the same, as they are told
pub told_so : (n : ℕ) (m : Running) (v : Untraced) (l : Bool) (words : List HartEnding) → l ≡ loops_in n m → IsLike (after_rounds n m) v →
    words ≡ map (λ (g : Hart). ending_by l g.stop) v.harts → words ≡ run_endings n m
told_so n m v l words loops like told =
    told ∙ ap (λ (hs : List Hart). map (λ (g : Hart). ending_by l g.stop) hs) like.is.harts ∙ endings_so n m v l like loops

-- the machine is run from its opening, or cut short, and is looked at
pub ends_so : (s : HuntSettings) (image : Loaded) (input : List ℕ) (p : Planned) (u v : Untraced) (ranges : List SeenRange) (l : Bool) (r : Result Ended OutOfMemory) →
    IsUntraced (opening image input p) u → l ≡ loops_in s.rounds (opening image input p) → IsLike (after_rounds s.rounds (opening image input p)) v → ranges ≡ s.header.ranges.items →
    ((m : Running) → IsUntraced m v → IfOk r (λ e. e ≡ ended_of ranges l m)) → IfOk r (λ e. e ≡ ends_from s image input p)
unfolding ends_from ended_of
ends_so s image input p u v ranges l r is loops like same h =
    let m : Running = opening image input p in
    let last : Running = after_rounds s.rounds m in
    let there : Running = like.there in
    let words : List HartEnding = run_endings s.rounds m in
    let stops : map (λ (g : Hart). ending_by l g.stop) there.state.harts ≡ words = endings_so s.rounds m v l like loops in
    let is_so : ended_of ranges l there ≡ ends_from s image input p =
    ap (λ (ws : List HartEnding). ended ws there.state.console.output (seen_of ranges there.state.bytes)) stops
    ∙ ap (λ (c : ConsoleState). ended words c.output (seen_of ranges there.state.bytes)) like.alike.console
    ∙ ap (λ (bs : List ℕ). ended words last.state.console.output (seen_of ranges bs)) like.alike.bytes
    ∙ ap (λ (rs : List SeenRange). ended words last.state.console.output (seen_of rs last.state.bytes)) same in
    subst (λ (x : Ended). IfOk r (λ e. e ≡ x)) is_so (h there like.is)

-- the table of the runs of a guest that was loaded from a file is the table of the file's hunt
pub hunted_so : (s t : HuntSettings) (file input u : List ℕ) (image : Loaded) (k : ℕ) (rows : List Row) → t ≡ s → u ≡ input → image ≡ image_of s.format file s.pages →
    IsTableOf (λ n. ends_from t image u (family_plan (family_of t) n)) (extent_of s) k rows → IsHunted s file input k rows
unfolding ends_after ends_under
hunted_so s t file input u image k rows asked fed loaded h =
    subst (λ (i : Loaded). IsTableOf (λ n. ends_from s i input (family_plan (family_of s) n)) (extent_of s) k rows) loaded
    (subst (λ (x : List ℕ). IsTableOf (λ n. ends_from s image x (family_plan (family_of s) n)) (extent_of s) k rows) fed
    (subst (λ (r : HuntSettings). IsTableOf (λ n. ends_from r image u (family_plan (family_of r) n)) (extent_of s) k rows) asked h))

-- and a plan that its runs are shrunk to is one that the file's runs are shrunk to
pub shrunk_so : (s t : HuntSettings) (file input u : List ℕ) (image : Loaded) (n : ℕ) (p : Planned) → t ≡ s → u ≡ input → image ≡ image_of s.format file s.pages →
    IsShrunk (ends_from t image u) (family_plan (family_of t) n) p → IsShrunk (ends_under s file input) (family_plan (family_of s) n) p
unfolding ends_under
shrunk_so s t file input u image n p asked fed loaded h =
    subst (λ (i : Loaded). IsShrunk (ends_from s i input) (family_plan (family_of s) n) p) loaded
    (subst (λ (x : List ℕ). IsShrunk (ends_from s image x) (family_plan (family_of s) n) p) fed
    (subst (λ (r : HuntSettings). IsShrunk (ends_from r image u) (family_plan (family_of r) n) p) asked h))
