use Rattle.std.proofs.Common.{◌≡◌, ◌∷◌, ◌++◌, [], List, None, Some, get_or, length, refl, rules, subst, sym}
use Rattle.std.proofs.Math.ListN.{set}
use Rattle.store_buffer.specs.declared.slots.Numbered.{Numbered}
use Rattle.store_buffer.specs.Slots.{AreChained}
use Rattle.store_buffer.proofs.LineChains.{appended_chained}
use Rattle.store_buffer.proofs.line_map.append.Goals as goal

pub returns-clause-chained : goal.returns-clause-chained
returns-clause-chained c =
    let ls = c.args.lines.now.items in
    let latest = c.args.latest.now in
    let s = c.slot_of-slot.result in
    let size : c.len-index.result ≡ length ls = search (rules, c.len-index.ensures) in
    let more = c.requires.slots in
    let x : Numbered = record { number = c.args.number; before = get_or latest s None; line = c.empty.result } in
    subst (λ (ms : List Numbered). AreChained (length ms) ms (set latest s (Some c.len-index.result))) (sym c.push_reserved.ensures.items)
    (subst (λ k. AreChained (length (ls ++ x ∷ [])) (ls ++ x ∷ []) (set latest s (Some k))) (sym size)
    (appended_chained ls latest s x c.requires.chained more c.slot_of-slot.ensures.value c.slot_of-slot.ensures.low refl))
