-- What walks over a hart's part have in common.
use Rattle.std.proofs.Common.{◌≡◌, ℕ, suc, ◌+◌, ◌-◌, ◌<◌, false, List, Option, Some, None, is_some, refl, sym, ap, arith}
use Rattle.pages.specs.declared.access.Range.{Range}
use Rattle.pages.specs.Memory.{Memory}
use Rattle.hart_step.specs.declared.hart.Hart.{Hart}
use Rattle.hart_step.specs.Step.{stepped}
use Rattle.hart_step.specs.Words.{words_of}
use Rattle.moments.specs.Sights.{next_seen}
use Rattle.moments.specs.Bytes.{sight_of}

-- what a hart sees next is what its step leaves
pub is_next : (code : List Range) (h : Hart) (m : Memory) → m.code ≡ code → next_seen (words_of code) (sight_of h m) ≡ stepped h m
is_next code h m e = ap (λ (c : List Range). stepped h (record { bytes = m.bytes; code = c })) (sym e)

pub suc_left : (quota k : ℕ) → k < quota → quota - k ≡ suc (quota - (k + 1))
suc_left quota k lt = omega (arith, lt)

pub running : {A : Type 0} (x : Option A) → is_some x ≡ false → x ≡ None
running None e = refl
running (Some a) e = absurd cc
