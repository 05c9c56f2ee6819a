use Rattle.std.proofs.Common.{◌<◌, ◌≡◌, None, Option, Some, ap, length, map, option_map, refl, rules, sym, ◌∙◌}
use Rattle.std.proofs.lemmas.Option.{slice_get-get_or, slice_get-map}
use Rattle.execution_file.specs.Recorded.{Turn}
use Rattle.execution_file.specs.Views.{turn_view}
use Rattle.execution_scripts.proofs.said.unnamed.Goals as goal

abbrev no_turn : Turn
no_turn = record { hart = 0; number = None }

some_none : (u : Turn) → ◌≡◌ {A = Option Turn} (Some u) None → ⊥
some_none u e = cc

pub returns-in-Some : goal.returns-in-Some
returns-in-Some c = λ t none. record {
  misfit = refl;
  index = c.args.index;
  none = none;
  turn = turn_view c.in-Some.turn;
  is_turn = slice_get-map turn_view c.args.file.now.order.items c.args.index ∙ ap (option_map turn_view) (sym c.turn_at.ensures ∙ c.in-Some.is);
  hart = refl;
  step = search rules;
}

pub returns-in-None : goal.returns-in-None
returns-in-None c = λ t none.
    let us = c.args.file.now.order.items in
    absurd (some_none _ (sym (slice_get-get_or (map turn_view us) c.args.index no_turn none.within) ∙ slice_get-map turn_view us c.args.index ∙ ap (option_map turn_view) (sym c.turn_at.ensures ∙ c.in-None.is)))
