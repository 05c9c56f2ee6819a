-- Memory stays like the image under stores that touch no code.
use Rattle.std.proofs.Common.{◌≡◌, ℕ, suc, length, ap, Bool, true, false, if◌then◌else◌, List, [], ◌∷◌, Option, Some, None, Result, Ok, Err, ◌∙◌, refl, subst, sym, arith, inl, inr, All}
use Rattle.std.proofs.lemmas.List.Elements.{All-cons}
use Rattle.pages.specs.declared.access.Fault.{Fault}
use Rattle.pages.specs.declared.access.Range.{Range}
use Rattle.pages.specs.declared.access.Store.{Store}
use Rattle.pages.specs.Memory.{Memory, TouchesNoCode, any_code, stored, store_fault, width_bytes}
use Rattle.pages.proofs.StoreLaws.{fetched_stays, length-after}
use Rattle.rv64_decode.specs.declared.instruction.Instr.{Instr}
use Rattle.round_schedule.specs.declared.access.Access.{Access}
use Rattle.round_schedule.specs.declared.access.Stepped.{Stepped}
use Rattle.round_schedule.specs.declared.access.Stepped.TheVariants.{Done, Stopped, Waits}
use Rattle.round_schedule.specs.declared.span.Span.{Span}
use Rattle.round_schedule.specs.ReservingTurn.{updated}
use Rattle.serial_phase.specs.Words.{answered_reservations}
use Rattle.hart_step.specs.declared.hart.Hart.{Hart}
use Rattle.hart_step.specs.Buses.{Stores}
use Rattle.hart_step.specs.DecodedCode.{Shows}
use Rattle.hart_step.specs.Console.{ConsoleState}
use Rattle.hart_step.specs.SerialStep.{serial_stepped}
use Rattle.hart_step.proofs.Shown.{shows_stores}
use Rattle.serial_phase.proofs.ShownCode.{no_code, serial_clean}
use Rattle.execution.specs.Executions.{IsLike, MayHold}

pub like_stored : (image m : Memory) (ss : List Store) → TouchesNoCode m.code ss → IsLike image m → IsLike image (stored m ss)
like_stored image m ss clean like = record {
  size = length-after m.bytes ss ∙ like.size;
  code = like.code;
  words = λ pc. fetched_stays m pc ss clean ∙ like.words pc;
}

one_clean : (m : Memory) (s : Store) → store_fault m s.address s.width ≡ None → TouchesNoCode m.code (s ∷ [])
one_clean m s e = All-cons (λ (x : Store). any_code m.code x.address (width_bytes x.width) ≡ false) s [] (no_code m s.address s.width e) (λ k d h. absurd (omega arith))

pub like_laid : (r : Result (Unit {0}) Fault) (s : Store) (m n : Memory) → Stores r s m n → (image : Memory) → IsLike image m → IsLike image n
like_laid (Ok d) s m n h image like = subst (IsLike image) (sym h.1) (like_stored image m (s ∷ []) (one_clean m s h.0) like)
like_laid (Err f) s m n h image like = subst (IsLike image) (sym h.1) like

pub shows_laid : (r : Result (Unit {0}) Fault) (s : Store) (m n : Memory) → Stores r s m n → (first : ℕ) (words : List Instr) → Shows m first words → Shows n first words
shows_laid (Ok d) s m n h first words shows = subst (λ k. Shows k first words) (sym h.1) (shows_stores m (s ∷ []) first words (one_clean m s h.0) shows)
shows_laid (Err f) s m n h first words shows = subst (λ k. Shows k first words) (sym h.1) shows

-- memory after an instruction
pub like_served : (image m q : Memory) (n : ℕ) (h : Hart) (c : ConsoleState) (r : Option Span) → q ≡ stored m (serial_stepped n h m c r).stores → IsLike image m → IsLike image q
like_served image m q n h c r e like = subst (IsLike image) (sym e) (like_stored image m (serial_stepped n h m c r).stores (serial_clean m n h c r) like)

pub may_hold : (b : Bool) (own held : Option Span) → held ≡ (if b then own else None) → MayHold own held
may_hold true own held e = inr e
may_hold false own held e = inl e

length-updated : (i j : ℕ) (a : Access) (reservations : List (Option Span)) → length (updated i j a reservations) ≡ length reservations
length-updated i j a [] = refl
length-updated i j a (r ∷ reservations) = ap (λ n. suc n) (length-updated i (suc j) a reservations)

pub length-answered : (i : ℕ) (s : Stepped) (reservations : List (Option Span)) → length (answered_reservations i s reservations) ≡ length reservations
length-answered i (Done None) reservations = refl
length-answered i (Done (Some a)) reservations = length-updated i 0 a reservations
length-answered i Waits reservations = refl
length-answered i (Stopped code) reservations = refl
