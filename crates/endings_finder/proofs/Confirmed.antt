-- One more ending that is allowed, with its execution where that is kept.
use Rattle.std.proofs.Common.{◌≡◌, ◌+◌, Bool, true, false, if◌then◌else◌, List, [], ◌∷◌, ◌++◌, ap, arith, length, length-append, subst, sym}
use Rattle.std.proofs.lemmas.List.Elements.{All-push}
use Rattle.endings_finder.specs.AllEndings.{AreAllowed, AreConfirmed, AreKept, CanEnd}
use Rattle.endings_table.specs.declared.found_ending.FoundEnding.{FoundEnding}
use Rattle.execution_file.specs.declared.file.ExecutionFile.{ExecutionFile}
use Rattle.guest_rounds.specs.Guests.{Guest}
use Rattle.hunt_table.specs.declared.seen_range.SeenRange.{SeenRange}

one_kept : (keeps : Bool) (old new : List FoundEnding) (before after : List ExecutionFile) (e : FoundEnding) →
    new ≡ old ++ e ∷ [] → length after ≡ length before + (if keeps then 1 else 0) → AreKept keeps old before → AreKept keeps new after
one_kept true old new before after e is more h = omega (arith, ap length is, length-append old (e ∷ []), more, h)
one_kept false old new before after e is more h = omega (arith, more, h)

pub one_more : (g : Guest) (ranges : List SeenRange) (keeps : Bool) (old new : List FoundEnding) (before after : List ExecutionFile) (e : FoundEnding) →
    new ≡ old ++ e ∷ [] → length after ≡ length before + (if keeps then 1 else 0) → CanEnd g ranges e →
    AreConfirmed g ranges keeps old before → AreConfirmed g ranges keeps new after
one_more g ranges keeps old new before after e is more p h = record {
  allowed = subst (AreAllowed g ranges) (sym is) (All-push (CanEnd g ranges) old e h.allowed p);
  kept = one_kept keeps old new before after e is more h.kept;
}
