use Rattle.std.proofs.Common.{◌≡◌, ℕ, if◌then◌else◌, length}
use Rattle.pages.specs.Memory.{in_range}
use Rattle.memory_order.specs.CheckingAtomic.{after_store, latest_in}
use Rattle.memory_order.proofs.checking.latest.noted.Given as goal

abbrev pub invariant-loop-k : goal.invariant-loop-k
invariant-loop-k l = record {
  lasts : length l.word.last ≡ 8;
  owners : length l.word.owner ≡ 8;
  others : length l.word.other ≡ 8;
  noted : (j : ℕ) → latest_in l.word j ≡ (if in_range l.first l.k j then after_store (latest_in l.initial.word j) l.hart l.next else latest_in l.initial.word j);
}
