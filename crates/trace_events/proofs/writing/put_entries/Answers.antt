use Rattle.std.proofs.Common.{◌≡◌, ◌++◌, ◌+◌, [], Err, None, arith, refl, rules, sym}
use Rattle.host_io.specs.declared.error.RunError.TheVariants.{OutOfMemory}
use Rattle.report.specs.Pending.{way}
use Rattle.report.proofs.Writing.{loop_stop, passed_on, same_text, wrote_none, wrote_refused, wrote_then}
use Rattle.byte_sources.proofs.Addresses.{low_address}
use Rattle.trace_events.specs.TraceEvents.{entries_text}
use Rattle.trace_events.proofs.Entries.{ends, entries_at, entry_at, goes_on}
use Rattle.trace_events.proofs.writing.put_entries.Goals as goal

pub loop-index-init : goal.loop-index-init
loop-index-init g c = ([], refl, wrote_none (way (g.S.Sink.took c.args.out.now) (g.S.Sink.failures c.args.out.now) c.args.line.now), c.requires.none)

pub put_entry-requires-clause-low : goal.put_entry-requires-clause-low
put_entry-requires-clause-low g c = low_address c.args.events.now c.loop-index.index (omega (arith, c.loop-index-test.true)) c.requires.sound

pub returns-in_err-put_entry : goal.returns-in_err-put_entry
returns-in_err-put_entry g c =
    let r : c.from_residual.result ≡ Err c.in_err-put_entry.field-0.0 = search rules in
    let t = c.args.events.now in
    let i = c.loop-index.index in
    let text = c.loop-index.invariant.0 in
    loop_stop text (entry_at t i) (entries_at t (i + 1)) _ (way (g.S.Sink.took c.args.out.now) (g.S.Sink.failures c.args.out.now) c.args.line.now) _ _ _ _ c.loop-index.invariant.2 c.in_err-put_entry.ensures r
    (sym (goes_on t i text (entries_text t 0 None t) (omega (arith, c.loop-index-test.true)) c.loop-index.invariant.1))

pub returns-in_err-add : goal.returns-in_err-add
returns-in_err-add g c =
    let r : c.from_residual-in_err-add.result ≡ Err OutOfMemory = search rules in
    let t = c.args.events.now in
    let i = c.loop-index.index in
    let text = c.loop-index.invariant.0 in
    let s = way (g.S.Sink.took c.args.out.now) (g.S.Sink.failures c.args.out.now) c.args.line.now in
    same_text ((text ++ entry_at t i) ++ entries_at t (i + 1)) (entries_text t 0 None t) s _ _
    (goes_on t i text (entries_text t 0 None t) (omega (arith, c.loop-index-test.true)) c.loop-index.invariant.1)
    (passed_on _ s _ OutOfMemory _ r (wrote_refused (text ++ entry_at t i) (entries_at t (i + 1)) _ s _ (wrote_then text (entry_at t i) s _ _ _ c.loop-index.invariant.2 c.in_ok-put_entry.ensures)))

pub loop-index-preserved : goal.loop-index-preserved
loop-index-preserved g c =
    let t = c.args.events.now in
    let i = c.loop-index.index in
    let text = c.loop-index.invariant.0 in (
      text ++ entry_at t i,
      goes_on t i text (entries_text t 0 None t) (omega (arith, c.loop-index-test.true)) c.loop-index.invariant.1,
      wrote_then text (entry_at t i) (way (g.S.Sink.took c.args.out.now) (g.S.Sink.failures c.args.out.now) c.args.line.now) _ _ _ c.loop-index.invariant.2 c.in_ok-put_entry.ensures,
      c.in_ok-add.ensures,
    )

pub returns : goal.returns
returns g c =
    let t = c.args.events.now in
    same_text _ _ (way (g.S.Sink.took c.args.out.now) (g.S.Sink.failures c.args.out.now) c.args.line.now) _ _
    (ends t c.loop-index.index c.loop-index.invariant.0 (entries_text t 0 None t) (omega (arith, c.loop-index-test.false)) c.loop-index.invariant.1) c.loop-index.invariant.2
