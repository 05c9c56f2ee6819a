-- One more missing fence that is told.
use Rattle.std.proofs.Common.{◌≡◌, ℕ, ◌+◌, List, [], ◌∷◌, ◌++◌, ap, refl, subst, sym, ◌∙◌}
use Rattle.std.proofs.lemmas.List.Elements.{All-push}
use Rattle.elf_loader.specs.Image.{Loaded}
use Rattle.fence_kinds.specs.Kinds.{IsWeakest}
use Rattle.fence_kinds.specs.declared.mending.Place.{Place}
use Rattle.fence_search.specs.Places.{pc_of}
use Rattle.fence_table.specs.declared.fence_kind.FenceKind.{FenceKind}
use Rattle.fence_table.specs.declared.fence_kind.TriedFence.{TriedFence}
use Rattle.fence_table.specs.declared.missing.Missing.{Missing}
use Rattle.fence_trials.specs.declared.departing.Departing.{Departing}
use Rattle.fence_trials.specs.declared.guest.FenceGuest.{FenceGuest}
use Rattle.fence_trials.specs.declared.ordinary.Ordinary.{Ordinary}
use Rattle.hart_step.specs.declared.hart.Hart.{Hart}
use Rattle.fence_finder.specs.MissingFences.{AreMissing, AreShown, IsFault, IsShown, IsTriedFence}
use Rattle.plan_hunt.specs.Endings.{Ended}

pub one_more : (image : Loaded) (input : List ℕ) (harts : List Hart) (shown all : List Missing) (m : Missing) → all ≡ shown ++ m ∷ [] →
    AreShown image input harts shown → IsShown image input harts m.failure → AreShown image input harts all
one_more image input harts shown all m e h p =
    subst (AreShown image input harts) (sym e) (All-push (λ (x : Missing). IsShown image input harts x.failure) shown m h p)

pub one_told : (comes_to : FenceGuest → Departing → ℕ → Ended → Type 0) (g : FenceGuest) (o : Ordinary) (first count : ℕ) (told all : List Missing) (m : Missing) → all ≡ told ++ m ∷ [] →
    AreMissing comes_to g o first count told → IsFault o m.failure → IsTriedFence comes_to g o first count m.fence → AreMissing comes_to g o first count all
one_told comes_to g o first count told all m e h fails tried =
    subst (AreMissing comes_to g o first count) (sym e)
    (All-push (λ (x : Missing). IsFault o x.failure × IsTriedFence comes_to g o first count x.fence) told m h (fails, tried))

pub tried_so : (comes_to : FenceGuest → Departing → ℕ → Ended → Type 0) (p : Place) (k : FenceKind) (pc : ℕ) (f : TriedFence) → IsWeakest comes_to p k → pc ≡ pc_of p.weakness.now →
    f ≡ record { kind = k; pc = pc; executions = p.count } → IsTriedFence comes_to p.guest.now p.runs.now p.first p.count f
tried_so comes_to p k pc f weakest is e = record {
  place = p;
  guest = refl;
  runs = refl;
  is_first = refl;
  is_count = refl;
  pc = ap (λ (x : TriedFence). x.pc) e ∙ is;
  executions = ap (λ (x : TriedFence). x.executions) e;
  weakest = subst (λ (x : FenceKind). IsWeakest comes_to p x) (sym (ap (λ (x : TriedFence). x.kind) e)) weakest;
}
