use Rattle.std.proofs.Common.{ℕ, refl, subst, arith, rules}
use Rattle.plan_hunt.specs.Tables.{IsTable}
use Rattle.hunt_table.specs.Merging.{Adjoins}
use Rattle.hunt_table.proofs.merging.appending.append.Goals as goal

pub returns-clause-ok : goal.returns-clause-ok
returns-clause-ok c =
    let w = c.args.whole.now in
    let t = c.args.table in
    let next : Adjoins c.args.harts w t = search rules in (
      next,
      record {
        program = refl;
        is_weak = refl;
        seed = refl;
        ranges = refl;
        first = refl;
        count = refl;
        tells = λ ends h k.
            c.in_ok-join.ensures ends w.header.first w.header.count t.header.count h
            (subst (λ (f : ℕ). IsTable ends f t.header.count t.rows.items) next.next k) (omega (arith, next.few_plans));
      },
    )
