use Rattle.std.proofs.Common.{◌≡◌, None, Option, inr, subst}
use Rattle.program_files.proofs.Begun.{on_err}
use Rattle.hunt_comparison.specs.Unlikes.{IsUnlikeness}
use Rattle.program_files.specs.declared.reasons.Unlike.{Unlike}
use Rattle.hunt_comparison.proofs.comparing.put_compared.Goals as goal

pub returns-in_err-write_comparison-clause-begun : goal.returns-in_err-write_comparison-clause-begun
returns-in_err-write_comparison-clause-begun g c =
    let old = c.args.old_table.now in
    let new = c.args.new_table.now in
    let is : c.unlikeness.result ≡ None = cc in
    on_err c.from_residual-in_err-write_comparison.result _ (inr (
      record {
        olds = c.in_ok-olds.olds.items;
        news = c.in_ok-news.news.items;
        like = subst (λ (o : Option Unlike). IsUnlikeness old new o) is c.unlikeness.ensures;
        of_old = rw (c.deref.ensures.value, c.deref-2.ensures.value) at c.in_ok-olds.ensures;
        of_new = rw (c.deref-3.ensures.value, c.deref-4.ensures.value) at c.in_ok-news.ensures;
      },
      rw (c.deref-5.ensures.value, c.deref-6.ensures.value) at c.in_err-write_comparison.ensures.writes.begun,
    ))

pub returns-clause-compares : goal.returns-clause-compares
returns-clause-compares g c =
    let old = c.args.old_table.now in
    let new = c.args.new_table.now in
    let is : c.unlikeness.result ≡ None = cc in (
      record {
        olds = c.in_ok-olds.olds.items;
        news = c.in_ok-news.news.items;
        like = subst (λ (o : Option Unlike). IsUnlikeness old new o) is c.unlikeness.ensures;
        of_old = rw (c.deref.ensures.value, c.deref-2.ensures.value) at c.in_ok-olds.ensures;
        of_new = rw (c.deref-3.ensures.value, c.deref-4.ensures.value) at c.in_ok-news.ensures;
      },
      rw (c.deref-5.ensures.value, c.deref-6.ensures.value) at c.in_ok-write_comparison.ensures.writes.ok,
      rw (c.deref-7.ensures.value, c.deref-8.ensures.value) at c.compare_status.ensures,
    )
