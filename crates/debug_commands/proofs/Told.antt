-- What a refusal is told by, piece by piece, and what can be served.
use Rattle.std.proofs.Common.{◌≡◌, ◌++◌, [], ℕ, Err, List, Ok, OnErr, OnOk, Result}
use Rattle.debug_commands.specs.Debugged.{IsToldRefusal, error_line}
use Rattle.debug_commands.specs.Debuggees.{IsDebuggee, IsDebuggeeOf, IsGood}
use Rattle.debug_commands.specs.declared.debuggee.Debuggee.{Debuggee}
use Rattle.debug_commands.specs.declared.debuggee.Debuggee.TheVariants as debuggees
use Rattle.host_io.specs.Taken.{BeganText}
use Rattle.past_commands.proofs.Printing.{began_first, began_second}
use Rattle.past_commands.specs.declared.past.Past.{Past}
use Rattle.past_commands.specs.declared.past.Past.TheVariants as pasts
use Rattle.program_files.proofs.Begun.{whole}
use Rattle.program_files.specs.Relations.{FileRelations}

-- ---- a refusal

-- a call that failed wrote a beginning, and any other the whole
pub began_either : {X E : Type 0} (r : Result X E) (old new text : List ℕ) → OnOk r (new ≡ old ++ text) → OnErr r (BeganText old new text) → BeganText old new text
began_either (Ok v) old new text ok begun = whole old new text ok
began_either (Err e) old new text ok begun = begun

pub told_line : (number : ℕ) (told new : List ℕ) → BeganText told new (error_line number) → IsToldRefusal number told new
told_line number told new begun = ([], began_first told new (error_line number) [] begun)

pub told_words : (number : ℕ) (told mid new words : List ℕ) → mid ≡ told ++ error_line number → BeganText mid new words → IsToldRefusal number told new
told_words number told mid new words line begun = (words, began_second told mid new (error_line number) words line begun)

-- ---- what is looked at can be served

good_of : (past : Past) (d : Debuggee) → IsDebuggeeOf past d → IsGood d
good_of (pasts.Recording r) (debuggees.Run d) h = h.ready
good_of (pasts.Recording r) (debuggees.Execution p) h = tt
good_of (pasts.Recording r) (debuggees.Refused c) h = absurd h
good_of (pasts.Execution text) (debuggees.Run d) h = absurd h.2
good_of (pasts.Execution text) (debuggees.Execution p) h = tt
good_of (pasts.Execution text) (debuggees.Refused c) h = h.2.against

pub is_good : (files : FileRelations) (path : List ℕ) (d : Debuggee) → IsDebuggee files path d → IsGood d
is_good files path d h = good_of h.past d h.is
