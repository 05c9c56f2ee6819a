use Rattle.std.proofs.Common.{◌≡◌, ℕ, List, [], ◌∷◌, ◌++◌, Contains, refl, ap, ◌∙◌, subst, inl, inr}
use Rattle.std.proofs.lemmas.List.Elements.{Contains-push_cases}
use Rattle.std.specs.Global.{Vec}
use Rattle.all_endings.specs.Walking.{HartEnding, ending_with}
use Rattle.hart_ends.specs.declared.ends.HartEnd.{HartEnd}
use Rattle.hart_ends.specs.declared.ends.TableEnding.{TableEnding}
use Rattle.hart_ends.specs.Told.{bytes_told, ending_told, ends_told, ways_told}
use Rattle.hart_ends.proofs.Told.{kept, new, pushed}
use Rattle.hart_ends.proofs.table.add_endings.Goals as goal

abbrev items_told : Vec HartEnd → List HartEnding
items_told w = ends_told w.items

pub loop-harts-preserved-in_ok-push : goal.loop-harts-preserved-in_ok-push
loop-harts-preserved-in_ok-push c =
    let i = c.loop-harts.invariant in
    let table = c.loop-harts.table.items in
    let grown = c.push.new.self.items in
    let harts = c.in-Some.harts in
    let seen = bytes_told c.args.seen.now in
    let ending : TableEnding = record { harts = harts; seen = c.in_ok-copied.field-0 } in
    let more : grown ≡ table ++ ending ∷ [] = c.in_ok-push.ensures.items in
    let same : ending_told ending ≡ ending_with (items_told harts) seen = ap (λ (bs : List (List ℕ)). ending_with (items_told harts) bs) c.in_ok-copied.ensures in
    record {
      kept = λ e there. kept ending_told table grown ending e more (i.kept e there);
      added = λ es there.
          let ways = ways_told c.loop-harts.yielded in
          let both = subst (λ (ws : List (List HartEnding)). Contains ws es) (pushed items_told c.loop-harts.yielded (c.loop-harts.yielded ++ harts ∷ []) harts refl) there in
          elim (Contains-push_cases ways (items_told harts) es both) [
            | inl old ↦ kept ending_told table grown ending (ending_with es seen) more (i.added es old)
            | inr now ↦ new ending_told table grown ending (ending_with es seen) more (same ∙ ap (λ (fs : List HartEnding). ending_with fs seen) now)
          ];
    }
