use Rattle.std.proofs.Common.{◌≡◌, ◌*◌, ◌/◌, ◌++◌, ℕ, Err, ap, arith, codes, length, rules}
use Rattle.std.specs.Fmt.{decimal}
use Rattle.report.specs.Blocks.{start_text}
use Rattle.report.specs.Pending.{way}
use Rattle.report.proofs.Writing.{passed_on, same_text, wrote_part, wrote_then}
use Rattle.report.proofs.state.put_start.Goals as goal

count_of : (n m : ℕ) → 4096 * n ≡ m → n ≡ m / 4096
count_of n m e = omega arith

pub returns-in_err-put_count : goal.returns-in_err-put_count
unfolding start_text
returns-in_err-put_count g c =
    let r : c.from_residual.result ≡ Err c.in_err-put_count.field-0.0 = search rules in
    passed_on _ (way (g.S.Sink.took c.args.out.now) (g.S.Sink.failures c.args.out.now) c.args.line.now) _ _ _ r (wrote_part _ _ (way (g.S.Sink.took c.args.out.now) (g.S.Sink.failures c.args.out.now) c.args.line.now) _ _ (wrote_part _ _ (way (g.S.Sink.took c.args.out.now) (g.S.Sink.failures c.args.out.now) c.args.line.now) _ _ c.in_err-put_count.ensures))

pub returns-in_err-put_harts : goal.returns-in_err-put_harts
unfolding start_text
returns-in_err-put_harts g c =
    let r : c.from_residual-in_err-put_harts.result ≡ Err c.in_err-put_harts.field-0.0 = search rules in
    passed_on _ (way (g.S.Sink.took c.args.out.now) (g.S.Sink.failures c.args.out.now) c.args.line.now) _ _ _ r (wrote_part _ _ (way (g.S.Sink.took c.args.out.now) (g.S.Sink.failures c.args.out.now) c.args.line.now) _ _ (wrote_then _ _ (way (g.S.Sink.took c.args.out.now) (g.S.Sink.failures c.args.out.now) c.args.line.now) _ _ _ c.in_ok-put_count.ensures c.in_err-put_harts.ensures))

pub returns : goal.returns
unfolding start_text
returns g c =
    wrote_then _ _ (way (g.S.Sink.took c.args.out.now) (g.S.Sink.failures c.args.out.now) c.args.line.now) _ _ _
    (wrote_then _ _ (way (g.S.Sink.took c.args.out.now) (g.S.Sink.failures c.args.out.now) c.args.line.now) _ _ _ c.in_ok-put_count.ensures c.in_ok-put_harts.ensures)
    (same_text _ _ _ _ _ (ap (λ (n : ℕ). codes "memory " ++ decimal n ++ codes "\n") (count_of c.count.result (length c.args.state.now.pages.now.memory.bytes) c.count.ensures.bytes)) c.put_count-2.ensures)
