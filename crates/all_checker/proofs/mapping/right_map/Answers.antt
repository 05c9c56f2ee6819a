use Rattle.std.proofs.Common.{List, refl, sym, subst, inl}
use Rattle.early_reads.specs.declared.early_point.EarlyPoint.{EarlyPoint}
use Rattle.early_reads.specs.Checking.{map_of}
use Rattle.early_reads.specs.EarlyMaps.{IsRight}
use Rattle.own_moves.specs.Owned.{owns_of}
use Rattle.all_checker.proofs.mapping.right_map.Goals as goal

pub returns-then-is_right : goal.returns-then-is_right
returns-then-is_right c =
    subst (λ (ps : List EarlyPoint). IsRight (map_of ps) (owns_of c.args.owned.now) c.args.pages.now.memory c.args.hart) c.deref.ensures.value (c.is_right.ensures c.if-is_right.true)

pub returns : goal.returns
returns c =
    subst (λ (ps : List EarlyPoint). IsRight (map_of ps) (owns_of c.args.owned.now) c.args.pages.now.memory c.args.hart) (sym c.new.ensures.items) (λ l m opening a v decodes acts agrees. inl (λ x. refl))
