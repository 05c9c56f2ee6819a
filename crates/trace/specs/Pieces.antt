-- The pieces of memory that a trace opened with, whether it shares them or not.
use Rattle.std.specs.Prelude.{List}
use Rattle.pages.specs.declared.access.Piece.{Piece}
use Rattle.trace.specs.declared.opening.Opening.{Opening}
use Rattle.trace.specs.declared.opening.Opening.TheVariants.{Own, Shared}

abbrev pub pieces_in : Opening → List Piece
pieces_in (Own pieces) = pieces.items
pieces_in (Shared pieces) = pieces.value.items
