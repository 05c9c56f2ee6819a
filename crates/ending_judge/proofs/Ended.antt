-- The ending of an execution that was followed.
use Rattle.std.proofs.Common.{◌≡◌, ◌∙◌, ℕ, List, [], ◌∷◌, map, Option, ap, ap₂, refl, subst}
use Rattle.std.specs.Global.{Vec}
use Rattle.pages.specs.Memory.{Memory}
use Rattle.pages.specs.declared.access.Range.{Range}
use Rattle.hart_step.specs.declared.hart.Hart.{Hart}
use Rattle.hart_step.specs.declared.hart.Stop.{Stop}
use Rattle.hunt_table.specs.declared.seen_range.SeenRange.{SeenRange}
use Rattle.execution.specs.Executions.{Standing}
use Rattle.execution_checker.specs.Allowed.{Allows}
use Rattle.all_endings.specs.Endings.{Ending, bytes_from, memory_after, opening_bytes}
use Rattle.endings_table.specs.declared.found_ending.FoundEnding.{FoundEnding}
use Rattle.ending_judge.specs.JudgedEndings.{AreOutputs, IsAllowedFrom, ending_in, ranges_of, stop_of}
use Rattle.ending_judge.proofs.Outputs.{outputs_are}

ranges_so : (f : ℕ → ℕ → List ℕ) (rs : List SeenRange) → map (λ (r : SeenRange). f r.address r.length) rs ≡ map (λ (r : Range). f r.start r.len) (ranges_of rs)
ranges_so f [] = refl
ranges_so f (r ∷ rs) = ap (λ (xs : List (List ℕ)). f r.address r.length ∷ xs) (ranges_so f rs)

three : (a b : List (Option Stop)) (c d e f : List (List ℕ)) → a ≡ b → c ≡ d → e ≡ f →
    ◌≡◌ {A = Ending} (record { stops = a; outputs = c; seen = e }) (record { stops = b; outputs = d; seen = f })
three a b c d e f p q r =
    let ending : List (Option Stop) → List (List ℕ) → Ending = λ x y. record { stops = x; outputs = y; seen = e } in
    let last : List (List ℕ) → Ending = λ z. record { stops = b; outputs = d; seen = z } in
    ap₂ ending p q ∙ ap last r

pub ends_so : (image : Memory) (start end : Standing) (opening : ℕ → ℕ) (order : List ℕ) (ranges : List SeenRange) (e : FoundEnding) →
    ((x : ℕ) → opening x ≡ opening_bytes image x) → Allows opening end order → AreOutputs image start end e.outputs.items →
    map stop_of e.ends.items ≡ map (λ (h : Hart). h.stop) end.harts →
    map (λ (bs : Vec ℕ). bs.items) e.seen.items ≡ map (λ (r : SeenRange). bytes_from (memory_after end.events order opening) r.address r.length) ranges →
    IsAllowedFrom image start (ranges_of ranges) (ending_in e)
ends_so image start end opening order ranges e opens allowed outputs stops seen = record {
  end = end;
  order = order;
  execution = outputs.leads;
  allowed = subst (λ (f : ℕ → ℕ). Allows f end order) same allowed;
  ending =
      three _ _ _ _ _ _ stops (outputs_are image start end e.outputs.items outputs)
      (seen ∙ ap (λ (f : ℕ → ℕ). map (λ (r : SeenRange). bytes_from (memory_after end.events order f) r.address r.length) ranges) same
      ∙ ranges_so (bytes_from (memory_after end.events order (opening_bytes image))) ranges);
}
  where
    same : opening ≡ opening_bytes image
    same = λ i. λ x. opens x i
