use Rattle.std.proofs.Common.{◌≡◌, ◌∷◌, ◌∙◌, ◌%◌, ◌^◌, ◌<◌, ℕ, List, All, ap, sym, subst}
use Rattle.std.proofs.lemmas.List.Elements.{All-head, All-tail}
use Rattle.store_buffer.specs.declared.line.Line.{Line}
use Rattle.store_buffer.specs.Lines.{lent_bytes}
use Rattle.guest_rounds.proofs.LinesReady.{readying_first, readying_more, readying_over}
use Rattle.guest_rounds.proofs.ready.make_buffer_ready.Goals as goal

abbrev IsLine : ℕ × Line → Type 0
IsLine e = (e.0 % 64 ≡ 0) × (e.0 < 2 ^ 64)

pub loop-start-init : goal.loop-start-init
loop-start-init c =
    let same : c.into_iter-start-iterator.result ≡ c.lines-start-items.result = c.into_iter-start-iterator.ensures.into_iter_gives in
    record {
      readying = readying_first c.args.pages.now c.args.buffer.now (lent_bytes c.into_iter-start-iterator.result) c.count-pages.result c.requires c.count-pages.ensures.pages c.count-pages.ensures.bytes
          (sym (ap lent_bytes same ∙ c.lines-start-items.ensures.bytes));
      aligned = subst (λ (es : List (ℕ × Line)). All IsLine es) (sym same) c.lines-start-items.ensures.aligned;
    }

pub loop-start-preserved : goal.loop-start-preserved
loop-start-preserved c =
    let all : All IsLine ((c.in-Some.start, c.in-Some._line.now) ∷ c.next.new.self) = subst (λ (es : List (ℕ × Line)). All IsLine es) c.in-Some.ensures.steps c.loop-start.invariant.aligned in
    record {
      readying = readying_more c.args.pages.now c.loop-start.pages c.make_page_ready.new.pages c.args.buffer.now _ (lent_bytes c.next.new.self) c.in-Some.start c.in-Some._line.now
          (All-head IsLine (c.in-Some.start, c.in-Some._line.now) c.next.new.self all).0 c.in_ok-make_page_ready.ensures.keeps c.in_ok-make_page_ready.ensures.ready (ap lent_bytes c.in-Some.ensures.steps) c.loop-start.invariant.readying;
      aligned = All-tail IsLine (c.in-Some.start, c.in-Some._line.now) c.next.new.self all;
    }

pub returns-clause-ready : goal.returns-clause-ready
returns-clause-ready c = readying_over c.args.pages.now c.loop-start.pages c.args.buffer.now _ (ap lent_bytes c.in-None.ensures.steps.0) c.loop-start.invariant.readying
