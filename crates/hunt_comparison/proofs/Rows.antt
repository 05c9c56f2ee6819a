-- One more row is compared.
use Rattle.std.proofs.Common.{◌≡◌, ◌∙◌, ◌+◌, ◌<◌, ◌++◌, ◌∷◌, [], List, ap, get_or, length, sym, take, ℕ}
use Rattle.std.proofs.lemmas.List.{map-append, take_more}
use Rattle.std.proofs.lemmas.List.Elements.{All-push}
use Rattle.plan_hunt.specs.declared.row.Row.{Row}
use Rattle.hunt_comparison.specs.Twins.{AreCompared, HasTwin, row_of}
use Rattle.hunt_comparison.specs.declared.twins.Compared.{Compared}

pub compare_more : (rows others : List Row) (i : ℕ) (d : Row) (compared : List Compared) (c : Compared) →
    i < length rows → c.row.now ≡ get_or rows i d → HasTwin others c → AreCompared (take i rows) others compared →
    AreCompared (take (i + 1) rows) others (compared ++ c ∷ [])
compare_more rows others i d compared c lt at twin h = record {
  of_rows = map-append row_of compared (c ∷ []) ∙ ap (λ (rs : List Row). rs ++ c.row.now ∷ []) h.of_rows
      ∙ ap (λ (r : Row). take i rows ++ r ∷ []) at ∙ sym (take_more rows i d lt);
  twins = All-push (HasTwin others) compared c h.twins twin;
}
