-- The laws of whole recordings.
use Rattle.std.proofs.Common.{◌≡◌, ℕ, Bool, true, false, eqb, List, [], ◌++◌, length, Result, Ok, refl, sym, ap, subst, ◌∙◌, arith}
use Rattle.std.proofs.lemmas.Bool.Decides.{nat_tests}
use Rattle.std.specs.Int.{w32, w64}
use Rattle.std.specs.Prelude.{◌==◌}
use mir.Syntax.{w8}
use Rattle.std.proofs.lemmas.Bool.{eqb-true}
use Rattle.std.proofs.lemmas.List.{append-nil, nil_from_length}
use Rattle.recording.specs.declared.cause.Cause.{Cause}
use Rattle.recording.specs.declared.cause.Cause.TheVariants.{NotARecording, Version, Cut, OutOfRange, BytesLeft}
use Rattle.recording.specs.Fields.{Field, most, is_within}
use Rattle.recording.specs.Recorded.{Recorded}
use Rattle.recording.specs.Grammar.{number, magic_number, or_known, most_value, hart_from, hart_fields, hart_summary, summary_from, summary_fields, summary, registers, is_due, checkpoint_from, checkpoint_fields, checkpoint_after, recorded_from, recorded_fields, recording, ended, reading, IsRecording}
use Rattle.recording.proofs.Laws.{IsBytes, Lawful, wide8, wide32, wide64, number_lawful, bytes_lawful, known_lawful, pair_lawful, seen_lawful, each_lawful, where_due_lawful, bind_ok, pass_ok}

word : (low high : ℕ) → Lawful (number w32 low high)
word low high = number_lawful w32 wide32 Cut OutOfRange low high

double : (low high : ℕ) → Lawful (number w64 low high)
double low high = number_lawful w64 wide64 Cut OutOfRange low high

byte : (low high : ℕ) → Lawful (number w8 low high)
byte low high = number_lawful w8 wide8 Cut OutOfRange low high

or_known_lawful : (b : Bool) (n : ℕ) (f : Field ℕ) → Lawful f → Lawful (or_known b n f)
or_known_lawful true n f l = l
or_known_lawful false n f l = known_lawful n

hart_lawful : Lawful hart_summary
hart_lawful = seen_lawful hart_from hart_fields _
    (pair_lawful _ _ (double 0 (most w64)) λ pc.
    pair_lawful _ _ (double 0 (most w64)) λ done.
    pair_lawful _ _ (byte 0 10) λ code.
    double 0 (most_value code))
    (λ x h. refl) (λ y. refl)

summary_lawful : (harts : ℕ) → Lawful (summary harts)
summary_lawful harts = seen_lawful summary_from summary_fields _
    (pair_lawful _ _ (double 0 (most w64)) λ output.
    pair_lawful _ _ (double 0 (most w64)) λ trace.
    each_lawful harts 0 _ (λ k. hart_lawful))
    (λ x h. refl) (λ y. refl)

checkpoint_lawful : (harts every round : ℕ) → Lawful (checkpoint_after harts every round)
checkpoint_lawful harts every round = seen_lawful checkpoint_from checkpoint_fields _
    (pair_lawful _ _ (summary_lawful harts) λ s. where_due_lawful (is_due every round) (registers harts) (each_lawful harts 0 _ (λ k. each_lawful 31 1 _ (λ x. double 0 (most w64)))))
    (λ x h. refl) (λ y. refl)

is_just : (n m : ℕ) → is_within m m n ≡ true → n ≡ m
is_just n m h = grind (arith, nat_tests, h)

pub recording_lawful : Lawful recording
recording_lawful = seen_lawful recorded_from recorded_fields _
    (pair_lawful _ _ (number_lawful w64 wide64 NotARecording NotARecording magic_number magic_number) λ magic.
    pair_lawful _ _ (number_lawful w32 wide32 Cut Version 1 2) λ version.
    pair_lawful _ _ (byte 0 1) λ format.
    pair_lawful _ _ (word 1 64) λ harts.
    pair_lawful _ _ (word 1 16384) λ pages.
    pair_lawful _ _ (word 0 (most w32)) λ rounds.
    pair_lawful _ _ (or_known_lawful (version == 2) 1 _ (word 1 1000)) λ budget.
    pair_lawful _ _ (or_known_lawful (version == 2) 0 _ (word 0 (most w32))) λ every.
    pair_lawful _ _ bytes_lawful λ image.
    pair_lawful _ _ bytes_lawful λ input.
    pair_lawful _ _ bytes_lawful λ plan.
    each_lawful rounds 1 _ (λ k. checkpoint_lawful harts every k))
    (λ x h. ap (λ (n : ℕ). (n, x.1)) (sym (is_just _ _ h.0.1))) (λ y. refl)

-- what is read is a recording with just this text
pub reading_takes : (text : List ℕ) (r : Recorded) → IsBytes text → reading text ≡ Ok r → IsRecording text r
reading_takes text r fits e =
    let a = bind_ok (recording.taken text) (λ x. ended x.0 x.1) r e in
    let x = a.0 in
    let g = pass_ok (eqb (length x.1) 0) BytesLeft x.0 r a.2 in
    let t = recording_lawful.takes text x fits a.1 in
    let nothing : x.1 ≡ [] = nil_from_length x.1 (eqb-true _ _ g.0) in
    subst (λ (s : Recorded). IsRecording text s) g.1 (record { has = t.0; spelled = t.1.parts ∙ ap (λ (rest : List ℕ). recording.spelled x.0 ++ rest) nothing ∙ append-nil (recording.spelled x.0) })

-- each recording's text is read as it
pub reading_again : (text : List ℕ) (r : Recorded) → IsRecording text r → reading text ≡ Ok r
reading_again text r is =
    let whole : text ≡ recording.spelled r ++ [] = is.spelled ∙ sym (append-nil (recording.spelled r)) in
    ap reading whole ∙ rw (recording_lawful.again r [] is.has) refl

abbrev done : Recorded → Result Recorded Cause
done x = Ok x

ok_is : (x y : Recorded) → done x ≡ done y → x ≡ y
ok_is x y e = cc

pub one_recording : (text : List ℕ) (r s : Recorded) → IsRecording text r → IsRecording text s → r ≡ s
one_recording text r s is js = ok_is r s (sym (reading_again text r is) ∙ reading_again text s js)
