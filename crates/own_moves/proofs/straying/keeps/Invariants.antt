use Rattle.std.proofs.Common.{◌≡◌, ◌<◌, ℕ, true, slice_index_or}
use Rattle.own_moves.specs.declared.owned.OwnDoubleword.{OwnDoubleword}
use Rattle.own_moves.proofs.straying.keeps.Given as goal

abbrev pub invariant-loop-index : goal.invariant-loop-index
invariant-loop-index l =
    (k : ℕ) (d : OwnDoubleword) → k < l.index → (slice_index_or l.owned k d).number ≡ l.number → (slice_index_or l.owned k d).hart < l.harts →
    ((slice_index_or l.owned k d).hart ≡ l.hart) × (l.plain ≡ true)
