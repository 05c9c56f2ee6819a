-- A text of which all was written has begun too.
use Rattle.std.proofs.Common.{◌≡◌, ◌∙◌, ◌++◌, Err, List, OnErr, Ok, Result, ap, arith, length, sym, ℕ}
use Rattle.std.proofs.Math.Seq.{take-length}
use Rattle.host_io.specs.Taken.{BeganText}

pub on_err : {X E : Type 0} (r : Result X E) (A : Type 0) → A → OnErr r A
on_err (Ok v) A a = tt
on_err (Err e) A a = a

pub whole : (old new text : List ℕ) → new ≡ old ++ text → BeganText old new text
whole old new text e = record { count = length text; within = omega arith; bytes = e ∙ ap (λ (t : List ℕ). old ++ t) (sym (take-length text)) }
