-- What is told doesn't depend on what comes behind it.
use Rattle.std.proofs.Common.{◌≡◌, ℕ, Bool, true, false, List, [], ◌∷◌, ◌++◌, Option, Some, if◌then◌else◌, ap}
use Rattle.std.specs.Prelude.{◌==◌}
use Rattle.gdb_packets.specs.Stream.{Told, Accepted, Again, Interrupt, ToldInAnyPieces, framed, next_of}
use Rattle.gdb_packets.proofs.Framing.{framed_pieces, with_more}

-- by whether the first byte is `$`, `+`, `-` or 3
abbrev chosen : Bool → Bool → Bool → Bool → List ℕ → Option (Told × List ℕ)
chosen packet accepted again interrupt bs =
    if packet then framed bs else (if accepted then Some (Accepted, bs) else (if again then Some (Again, bs) else (if interrupt then Some (Interrupt, bs) else next_of bs)))

chosen_pieces : (packet accepted again interrupt : Bool) (bs more : List ℕ) (x : Told) (rest : List ℕ) →
    (next_of bs ≡ Some (x, rest) → next_of (bs ++ more) ≡ Some (x, rest ++ more)) →
    chosen packet accepted again interrupt bs ≡ Some (x, rest) → chosen packet accepted again interrupt (bs ++ more) ≡ Some (x, rest ++ more)
chosen_pieces true accepted again interrupt bs more x rest ih e = framed_pieces [] bs more x rest e
chosen_pieces false true again interrupt bs more x rest ih e = ap (with_more more) e
chosen_pieces false false true interrupt bs more x rest ih e = ap (with_more more) e
chosen_pieces false false false true bs more x rest ih e = ap (with_more more) e
chosen_pieces false false false false bs more x rest ih e = ih e

pub in_pieces : ToldInAnyPieces
unfolding next_of
in_pieces [] more x rest e = absurd cc
in_pieces (b ∷ bs) more x rest e = chosen_pieces (b == 36) (b == 43) (b == 45) (b == 3) bs more x rest (in_pieces bs more x rest) e
