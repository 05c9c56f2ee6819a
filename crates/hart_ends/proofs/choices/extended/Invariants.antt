use Rattle.std.proofs.Common.{ℕ, ◌<◌, ◌++◌, ◌∷◌, [], get_or, Contains}
use Rattle.all_endings.specs.Walking.{HartEnding}
use Rattle.hart_ends.specs.Told.{ends_told, end_told, ways_told}
use Rattle.hart_ends.specs.declared.ends.HartEnd.{HartEnd}
use Rattle.std.specs.Global.{Vec}
use Rattle.hart_ends.proofs.choices.extended.Given as goal

abbrev pub invariant-loop-before : goal.invariant-loop-before
invariant-loop-before l = (k : ℕ) (d : Vec HartEnd) (e : HartEnding) → k < l.before-index → Contains (ends_told l.way) e →
    Contains (ways_told l.longer.items) (ends_told (get_or l.chosen k d).items ++ e ∷ [])

abbrev pub invariant-loop-end : goal.invariant-loop-end
invariant-loop-end l = record {
  earlier : (k : ℕ) (d : Vec HartEnd) (e : HartEnding) → k < l.before-index → Contains (ends_told l.way) e →
      Contains (ways_told l.longer.items) (ends_told (get_or l.chosen k d).items ++ e ∷ []);
  here : (j : ℕ) (d : HartEnd) → j < l.end-index → Contains (ways_told l.longer.items) (ends_told l.before.items ++ end_told (get_or l.way j d) ∷ []);
}
