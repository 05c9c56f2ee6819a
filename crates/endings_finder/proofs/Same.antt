-- Endings that are told alike.
use Rattle.std.proofs.Common.{◌≡◌, ℕ, List, [], ◌∷◌, map, Option, Some, refl, ap, ◌∙◌}
use Rattle.hart_step.specs.declared.hart.Stop.{Stop}
use Rattle.all_endings.specs.Endings.{Ending}
use Rattle.all_endings.specs.Walking.{HartEnding}
use Rattle.hart_ends.specs.declared.ends.HartEnd.{HartEnd}
use Rattle.hart_ends.specs.Told.{ends_told}
use Rattle.endings_finder.specs.Checked.{output_told, stop_told}

stops_of_ends : (es : List HartEnd) → map stop_told es ≡ map (λ (e : HartEnding). Some e.stop) (ends_told es)
stops_of_ends [] = refl
stops_of_ends (e ∷ es) = ap (λ (ss : List (Option Stop)). Some e.stop ∷ ss) (stops_of_ends es)

outputs_of_ends : (es : List HartEnd) → map output_told es ≡ map (λ (e : HartEnding). e.output) (ends_told es)
outputs_of_ends [] = refl
outputs_of_ends (e ∷ es) = ap (λ (os : List (List ℕ)). e.output.items ∷ os) (outputs_of_ends es)

abbrev ending_of_parts : List (Option Stop) → List (List ℕ) → List (List ℕ) → Ending
ending_of_parts ss os seen = record { stops = ss; outputs = os; seen = seen }

parts_equal : (ss ts : List (Option Stop)) (os ps bs cs : List (List ℕ)) → ss ≡ ts → os ≡ ps → bs ≡ cs → ending_of_parts ss os bs ≡ ending_of_parts ts ps cs
parts_equal ss ts os ps bs cs e f g = cc

-- an ending of these parts is the checker's
pub same_ending : (ss : List (Option Stop)) (os bs cs : List (List ℕ)) (es : List HartEnd) → ss ≡ map stop_told es → os ≡ map output_told es → bs ≡ cs →
    ending_of_parts ss os bs ≡ ending_of_parts (map (λ (e : HartEnding). Some e.stop) (ends_told es)) (map (λ (e : HartEnding). e.output) (ends_told es)) cs
same_ending ss os bs cs es e f g =
    parts_equal ss (map (λ (x : HartEnding). Some x.stop) (ends_told es)) os (map (λ (x : HartEnding). x.output) (ends_told es)) bs cs (e ∙ stops_of_ends es) (f ∙ outputs_of_ends es) g
