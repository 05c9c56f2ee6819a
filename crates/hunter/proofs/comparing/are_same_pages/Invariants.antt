use Rattle.std.proofs.Common.{◌≡◌, ◌*◌, take}
use Rattle.hunter.proofs.comparing.are_same_pages.Given as goal

-- the pages before this one are the same
abbrev pub invariant-loop-page : goal.invariant-loop-page
invariant-loop-page l = take (4096 * l.page) l.pages.memory.bytes ≡ take (4096 * l.page) l.others.memory.bytes
