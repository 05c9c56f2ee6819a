use Rattle.std.proofs.Common.{◌≡◌, ◌*◌, List, length, map, ap, subst, ◌∙◌, arith}
use Rattle.pages.specs.Memory.{IsBytes}
use Rattle.trace.specs.Traced.{Laid, laid, opening_at, opening_bytes}
use Rattle.trace.proofs.Openings.{bytes_of_pieces, none_beyond}
use Rattle.machine.specs.Machine.{opening}
use Rattle.machine.proofs.Repeated.{no_rounds}
use Rattle.machine.proofs.TracedMachine.{traced_is, traced_untraced}
use Rattle.machine.proofs.machine.Machine.new.Goals as goal

pub invariant_of-result : goal.invariant_of-result
invariant_of-result c =
    let m = opening c.args.image c.args.input.items c.args.plan in
    let u = c.in_ok-bare.bare in
    let size : length u.bytes ≡ 4096 * c.args.image.pages = ap length c.in_ok-bare.ensures.machine.bytes ∙ c.pieces-pieces.ensures.length in
    let is =
    traced_is m u c.new-trace.result c.in_ok-bare.ensures.machine c.new-trace.ensures.events
    (ap (λ (ps : List Laid). opening_bytes ps (length u.bytes)) c.new-trace.ensures.opening ∙ ap (opening_bytes (map laid c.into_pieces.result.items)) size
    ∙ bytes_of_pieces c.into_pieces.result.items (4096 * c.args.image.pages) ∙ c.into_pieces.ensures.bytes) in
    record {
      of_run = record {
        image = c.args.image;
        input = c.args.input.items;
        plan = c.args.plan;
        rounds = 0;
        bytes = subst IsBytes c.in_ok-bare.ensures.machine.bytes c.bytes_fit.ensures;
        is = is ∙ no_rounds m;
      };
      run = traced_untraced m c.in_ok-bare.bare c.new-trace.result c.in_ok-bare.ensures.machine c.new-trace.ensures.events;
      beyond = λ x l. ap (λ (ps : List Laid). opening_at ps x) c.new-trace.ensures.opening
          ∙ none_beyond c.into_pieces.result.items (4096 * c.args.image.pages) x c.into_pieces.ensures.within (omega (arith, l, ap length c.in_ok-bare.ensures.machine.bytes, c.pieces-pieces.ensures.length));
    }

pub returns-clause-machine : goal.returns-clause-machine
returns-clause-machine c =
    let m = opening c.args.image c.args.input.items c.args.plan in
    let u = c.in_ok-bare.bare in
    let size : length u.bytes ≡ 4096 * c.args.image.pages = ap length c.in_ok-bare.ensures.machine.bytes ∙ c.pieces-pieces.ensures.length in
    traced_is m u c.new-trace.result c.in_ok-bare.ensures.machine c.new-trace.ensures.events
    (ap (λ (ps : List Laid). opening_bytes ps (length u.bytes)) c.new-trace.ensures.opening ∙ ap (opening_bytes (map laid c.into_pieces.result.items)) size
    ∙ bytes_of_pieces c.into_pieces.result.items (4096 * c.args.image.pages) ∙ c.into_pieces.ensures.bytes)
