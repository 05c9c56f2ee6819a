use Rattle.std.proofs.Common.{◌-◌, ◌++◌, ◌∙◌, List, ap, drop, rules, tests}
use Rattle.std.proofs.lemmas.List.{take_rest}
use Rattle.trace.specs.declared.chunk.Chunk.{Chunk}
use Rattle.trace.specs.Chunks.{events_in, joined}
use Rattle.trace.proofs.Chunking.{begun, found, some_begun}
use Rattle.trace.proofs.chunk.chunks_with.Goals as goal

pub overflow_sub-result : goal.overflow_sub-result
overflow_sub-result c =
    some_begun c.args.chunks.now c.args.index c.partition_point-begun.result c.requires.chunks c.requires.within
    (begun c.args.chunks.now c.args.index c.partition_point-begun.result c.requires.chunks c.partition_point-begun.ensures.partitioned (λ a r q k. search (rules, tests)))

pub returns-clause-start : goal.returns-clause-start
returns-clause-start c = (found c.args.chunks.now c.args.index c.partition_point-begun.result c.index-chunks-begun.result c.requires.chunks c.requires.within c.partition_point-begun.ensures.bound c.partition_point-begun.ensures.partitioned (λ a r q k. search (rules, tests)) c.index-chunks-begun.is).start

pub returns-clause-within : goal.returns-clause-within
returns-clause-within c = (found c.args.chunks.now c.args.index c.partition_point-begun.result c.index-chunks-begun.result c.requires.chunks c.requires.within c.partition_point-begun.ensures.bound c.partition_point-begun.ensures.partitioned (λ a r q k. search (rules, tests)) c.index-chunks-begun.is).within

pub returns-clause-event : goal.returns-clause-event
returns-clause-event c = (found c.args.chunks.now c.args.index c.partition_point-begun.result c.index-chunks-begun.result c.requires.chunks c.requires.within c.partition_point-begun.ensures.bound c.partition_point-begun.ensures.partitioned (λ a r q k. search (rules, tests)) c.index-chunks-begun.is).same

pub returns-clause-rest : goal.returns-clause-rest
returns-clause-rest c =
    let p = c.index-chunks-begun.result in
    ap (λ (ps : List Chunk). drop (c.args.index - p.start) (events_in p) ++ joined ps) (take_rest c.args.chunks.now c.partition_point-begun.result)
    ∙ (found c.args.chunks.now c.args.index c.partition_point-begun.result p c.requires.chunks c.requires.within c.partition_point-begun.ensures.bound c.partition_point-begun.ensures.partitioned (λ a r q k. search (rules, tests)) c.index-chunks-begun.is).rest
