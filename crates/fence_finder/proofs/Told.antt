-- What the table of a search tells.
use Rattle.std.proofs.Common.{◌≡◌, ◌⊎◌, ◌≤◌, ℕ, ◌+◌, List, [], ap, arith, subst, sym, ◌∙◌}
use Rattle.elf_loader.specs.Image.{Loaded}
use Rattle.fence_finder.specs.Finds.{IsEnough}
use Rattle.fence_finder.specs.MissingFences.{AreMissing, AreShown, IsGuestOf, IsSearched, IsSearchedBy, IsToldBy, IsUsual, ShowsOf, missing_plans}
use Rattle.fence_finder.specs.Telling.{IsTableFrom, told_plans}
use Rattle.fence_finder.specs.declared.finding.Searched.{Searched}
use Rattle.fence_finder.specs.declared.settings.FenceSettings.{FenceSettings}
use Rattle.fence_search.specs.Counting.{AreSearched, tried_by}
use Rattle.fence_search.specs.Gathered.{plans_of}
use Rattle.fence_search.specs.Searching.{IsSearchBy}
use Rattle.fence_search.specs.declared.searching.Search.{Search}
use Rattle.fence_table.specs.Accepting.{Words}
use Rattle.fence_table.specs.declared.fence_table.FenceTable.{FenceTable}
use Rattle.fence_table.specs.declared.missing.Missing.{Missing}
use Rattle.fence_table.specs.declared.tally.Tally.{Tally}
use Rattle.fence_trials.specs.declared.departing.Departing.{Departing}
use Rattle.fence_trials.specs.declared.guest.FenceGuest.{FenceGuest}
use Rattle.guest_rounds.specs.Opening.{opening_harts}
use Rattle.hart_step.specs.declared.hart.Hart.{Hart}
use Rattle.hunter.specs.Hunts.{extent_of}
use Rattle.hunter.specs.declared.settings.HuntSettings.{HuntSettings}
use Rattle.plan_hunt.specs.Endings.{Ended}
use Rattle.plan_hunt.specs.declared.extent.Extent.{Extent}
use Rattle.round_planner.specs.Settings.{image_of}
use Rattle.weak_executions.specs.declared.opening.Opening.{Opening}

-- each number is counted once in the table
counts : (f : Searched) (s : FenceSettings) (t : FenceTable) → IsTableFrom f s t →
    f.search.counted.well + f.search.counted.ordinary.plans + f.search.counted.unnamed.plans + f.search.counted.running.plans + f.search.counted.failing + f.search.counted.unconfirmed.plans
    ≡ f.search.done → f.search.counted.unconfirmed.plans ≡ 0 →
    plans_of f.search.weaknesses.items + f.search.unnamed.plans ≡ f.search.counted.unnamed.plans + f.search.counted.failing →
    told_plans f.findings ≡ plans_of f.search.weaknesses.items + f.search.unnamed.plans →
    f.search.counted.well + t.ordinary.plans + t.unnamed.plans + t.running.plans + t.accepted.plans + missing_plans t.missing.items ≡ t.count
counts f s t is all confirmed gathered told =
    omega (
      arith,
      all,
      confirmed,
      gathered,
      told,
      is.count,
      ap (λ (x : Tally). x.plans) is.ordinary,
      ap (λ (x : Tally). x.plans) is.unnamed,
      ap (λ (x : Tally). x.plans) is.running,
      ap (λ (x : Tally). x.plans) is.accepted,
      ap missing_plans (ap (λ v. v.items) is.missing),
    )

pub search_so : (comes_to : Departing → ℕ → Ended → Type 0) (a b : List Words) (x : Extent) (s : Search) → a ≡ b → IsSearchBy comes_to (IsEnough a) x s → IsSearchBy comes_to (IsEnough b) x s
search_so comes_to a b x s e h = subst (λ (c : List Words). IsSearchBy comes_to (IsEnough c) x s) e h

pub told_so : (comes_to : FenceGuest → Departing → ℕ → Ended → Type 0) (o : Opening) (s : FenceSettings) (f : Searched) (g : FenceGuest) (x : Extent) (t : FenceTable) → IsGuestOf o s g →
    x ≡ extent_of s.hunt → IsSearchBy (comes_to g) (IsEnough s.accepted) x f.search → f.search.counted.unconfirmed.plans ≡ 0 →
    told_plans f.findings ≡ plans_of f.search.weaknesses.items + f.search.unnamed.plans →
    AreMissing comes_to g f.search.runs x.first f.search.done f.findings.missing.items →
    (f.findings.missing.items ≡ []) ⊎ IsUsual o.image.now o.input.now o.harts.now f.search.runs →
    IsTableFrom f s t → IsToldBy comes_to o s t
told_so comes_to o s f g x t of extent search confirmed plans missing usual is =
    let tried = subst (λ (y : Extent). AreMissing comes_to g f.search.runs y.first f.search.done f.findings.missing.items) extent missing in
    let items : t.missing.items ≡ f.findings.missing.items = ap (λ v. v.items) is.missing in
    record {
      guest = g;
      of = of;
      runs = f.search.runs;
      are_runs = search.runs;
      counted = f.search.counted;
      numbers = subst (λ (n : ℕ). AreSearched (tried_by (comes_to g) f.search.runs) (IsEnough s.accepted) (extent_of s.hunt) n f.search.counted) (sym is.count)
          (subst (λ (y : Extent). AreSearched (tried_by (comes_to g) f.search.runs) (IsEnough s.accepted) y f.search.done f.search.counted) extent search.numbers);
      is_ordinary = is.ordinary;
      is_running = is.running;
      confirmed = confirmed;
      none_lost = counts f s t is search.all confirmed search.none_lost plans;
      missing = subst (λ (n : ℕ). AreMissing comes_to g f.search.runs s.hunt.header.first n t.missing.items) (sym is.count)
          (subst (λ (ms : List Missing). AreMissing comes_to g f.search.runs s.hunt.header.first f.search.done ms) (sym items) tried);
      usual = subst (λ (ms : List Missing). (ms ≡ []) ⊎ IsUsual o.image.now o.input.now o.harts.now f.search.runs) (sym items) usual;
    }

pub searched_so : (s : FenceSettings) (file input : List ℕ) (f : Searched) (t : FenceTable) → IsTableFrom f s t → f.search.done ≤ s.hunt.header.count →
    ShowsOf s.hunt file input f.findings.missing.items → IsSearched s.hunt file input t
searched_so s file input f t is few shown = record {
  seed = is.seed;
  first = is.first;
  few = subst (λ (n : ℕ). n ≤ s.hunt.header.count) (sym is.count) few;
  ranges = is.ranges;
  shown = subst (λ (ms : List Missing). ShowsOf s.hunt file input ms) (sym (ap (λ v. v.items) is.missing)) shown;
}

-- ---- the same of the file

pub shown_of : (s : HuntSettings) (file input : List ℕ) (image : Loaded) (entry : ℕ) (harts : List Hart) (ms : List Missing) → image ≡ image_of s.format file s.pages → entry ≡ image.entry →
    harts ≡ opening_harts entry s.harts 0 s.harts → AreShown image input harts ms → ShowsOf s file input ms
shown_of s file input image entry harts ms of is are h =
    subst (λ (i : Loaded). AreShown i input (opening_harts i.entry s.harts 0 s.harts) ms) of
    (subst (λ (hs : List Hart). AreShown image input hs ms) (are ∙ ap (λ (e : ℕ). opening_harts e s.harts 0 s.harts) is) h)

pub searched_by : (comes_to : FenceGuest → Departing → ℕ → Ended → Type 0) (o : Opening) (s : FenceSettings) (file input : List ℕ) (t : FenceTable) (entry : ℕ) → IsToldBy comes_to o s t →
    o.image.now ≡ image_of s.hunt.format file s.hunt.pages → o.input.now ≡ input → entry ≡ o.image.now.entry → o.harts.now ≡ opening_harts entry s.hunt.harts 0 s.hunt.harts →
    IsSearchedBy comes_to s file input t
searched_by comes_to o s file input t entry told of given is are = record {
  opening = o;
  is_image = of;
  is_input = given;
  are_harts = are ∙ ap (λ (e : ℕ). opening_harts e s.hunt.harts 0 s.hunt.harts) is;
  told = told;
}
