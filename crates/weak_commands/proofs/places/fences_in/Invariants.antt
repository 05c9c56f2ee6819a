use Rattle.std.proofs.Common.{drop, map}
use Rattle.weak_commands.proofs.NamedWords.{Halfway}
use Rattle.weak_commands.proofs.places.fences_in.Given as goal

abbrev pub invariant-loop-word : goal.invariant-loop-word
invariant-loop-word g l = Halfway l.file l.code (map (λ s. s.now) l.words) (map (λ s. s.now) (drop l.word-index l.words)) l.fences.items
