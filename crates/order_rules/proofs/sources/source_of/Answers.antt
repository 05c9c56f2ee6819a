use Rattle.order_rules.proofs.Sourcing.{is_listed, is_opening, reader_within, source_within}
use Rattle.order_rules.proofs.sources.source_of.Goals as goal

pub source_at-source-requires : goal.source_at-source-requires
source_at-source-requires c =
    reader_within c.args.events.now c.args.order.now c.args.sources.now.items c.args.reader c.args.x c.position_of-position.result
    c.requires.ranked.lists c.requires.sourced c.position_of-position.ensures.at c.requires.reads

pub returns-then-source-eq0-clause-source : goal.returns-then-source-eq0-clause-source
returns-then-source-eq0-clause-source c =
    is_opening c.args.events.now c.args.order.now c.args.sources.now.items c.args.reader c.args.x c.position_of-position.result c.source_at-source.result
    c.requires.sourced c.position_of-position.ensures.at c.requires.reads c.source_at-source.ensures c.if-source-eq0.true

pub listed-requires-clause-within : goal.listed-requires-clause-within
listed-requires-clause-within c =
    source_within c.args.events.now c.args.order.now c.args.sources.now.items c.args.reader c.args.x c.position_of-position.result c.source_at-source.result
    c.requires.ranked.lists c.requires.sourced c.position_of-position.ensures.at c.requires.reads c.source_at-source.ensures c.if-source-eq0.false

pub returns-clause-source : goal.returns-clause-source
returns-clause-source c =
    is_listed c.args.events.now c.args.order.now c.args.sources.now.items c.args.reader c.args.x c.position_of-position.result c.source_at-source.result c.listed.result
    c.requires.ranked.lists c.requires.sourced c.position_of-position.ensures.at c.requires.reads c.source_at-source.ensures c.if-source-eq0.false c.listed.ensures.at
