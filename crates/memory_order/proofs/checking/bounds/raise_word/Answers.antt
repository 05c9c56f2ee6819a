use Rattle.std.proofs.Common.{ap, replicate, rules, unwrap_or}
use Rattle.std.specs.BTreeMap.{get}
use Rattle.memory_order.specs.Checking.{pair_cmp}
use Rattle.memory_order.proofs.WordRaising.{word_raised}
use Rattle.memory_order.proofs.checking.bounds.raise_word.Goals as goal

pub returns-in-Some : goal.returns-in-Some
returns-in-Some c =
    let new = c.get_mut.follows.lender c.raised_to.result in
    word_raised c.args.owner c.args.word c.args.first c.args.count c.in-Some.numbers.now c.raised_to.result c.args.values
    (λ h n. get pair_cmp c.args.bounds.now (h, n)) (λ h n. get pair_cmp new (h, n)) c.requires
    (ap (λ o. unwrap_or o (replicate 8 0)) c.in-Some.ensures.value) c.raised_to.ensures
    (λ h n. ((c.get_mut.follows.holds c.raised_to.result).3 (search rules)).0 (h, n))

pub returns-in_ok-insert-in-None : goal.returns-in_ok-insert-in-None
returns-in_ok-insert-in-None c =
    word_raised c.args.owner c.args.word c.args.first c.args.count (replicate 8 0) c.raised_to-new.result c.args.values
    (λ h n. get pair_cmp c.args.bounds.now (h, n)) (λ h n. get pair_cmp c.insert.new.self (h, n)) c.requires
    (ap (λ o. unwrap_or o (replicate 8 0)) c.in-None.ensures.value) c.raised_to-new.ensures
    (λ h n. rw c.get_mut.follows.holds-at-none at (c.in_ok-insert-in-None.ensures.updates.0 (h, n)))
