-- The laws of whole executions.
use Rattle.std.proofs.Common.{◌≡◌, ℕ, ◌-◌, ◌^◌, Bool, true, false, eqb, leb, List, [], ◌++◌, length, Option, Some, None, Result, Ok, Err, refl, sym, ap, subst, ◌∙◌, arith, lit<}
use Rattle.std.proofs.lemmas.Bool.Decides.{nat_tests}
use Rattle.std.proofs.lemmas.Bool.{eqb-true}
use Rattle.std.proofs.lemmas.List.{append-nil, nil_from_length}
use Rattle.std.specs.Prelude.{codes, IfOk}
use Rattle.std.specs.Fmt.{decimal}
use Rattle.execution_file.specs.declared.cause.Cause.TheVariants.{NotAnExecution, Version, Cut, Malformed, TextLeft, TooManySteps}
use Rattle.execution_file.specs.declared.cause.Refusal.{Refusal}
use Rattle.execution_file.specs.declared.cause.ReadError.{ReadError}
use Rattle.execution_file.specs.Formats.{refused, byte, listed, spelled_after}
use Rattle.execution_file.specs.Recorded.{Recorded}
use Rattle.execution_file.specs.Grammar.{small, word, double, flag, flag_of, number_of_flag, is_line_end, bytes, hart_turn, turn_from, turn_fields, hart_lines, hart_from, hart_fields, are_few_steps, harts_lines, recorded_from, recorded_fields, execution, whole, reading, IsExecution}
use Rattle.execution_file.specs.Views.{Gives}
use Rattle.execution_file.proofs.Laws.{Any, NoDigit, Without, Lawful, bind_ok, pass_ok, no_ok, ok_is, begun_lawful, number_lawful, byte_lawful, pair_lawful, seen_lawful, counted_lawful, listed_lawful, after_lawful, broken_lawful, limited_lawful}

pub small_lawful : Lawful NoDigit small
small_lawful = number_lawful 255 (lit< tt)

pub word_lawful : Lawful NoDigit word
word_lawful = number_lawful (2 ^ 32 - 1) (lit< tt)

pub double_lawful : Lawful NoDigit double
double_lawful = number_lawful (2 ^ 64 - 1) (lit< tt)

flag_there : (n : ℕ) → leb n 1 ≡ true → number_of_flag (flag_of n) ≡ n
flag_there n e = grind (arith, nat_tests, e)

flag_back : (b : Bool) → flag_of (number_of_flag b) ≡ b
flag_back true = refl
flag_back false = refl

flag_lawful : Lawful NoDigit flag
flag_lawful = seen_lawful flag_of number_of_flag _ (number_lawful 1 (lit< tt)) flag_there flag_back

pub bytes_lawful : Lawful Any bytes
bytes_lawful = counted_lawful (2 ^ 64 - 1) _ (lit< tt) (λ n k. broken_lawful (is_line_end n k) byte byte_lawful)

-- ---- turns

colon_follows : (y : Option ℕ) (rest : List ℕ) → NoDigit rest → NoDigit (spelled_after 58 double y ++ rest)
colon_follows None rest h = h
colon_follows (Some n) rest h = refl

turn_lawful : Lawful (Without 58 double NoDigit) hart_turn
turn_lawful = seen_lawful turn_from turn_fields _
    (pair_lawful _ _ small_lawful (λ h. after_lawful 58 double double_lawful) (λ x y rest p. colon_follows y rest p.other))
    (λ x h. refl) (λ y. refl)

pub turns_lawful : Lawful Any (listed hart_turn)
turns_lawful = listed_lawful hart_turn turn_lawful (λ rest. record { none = refl; other = refl }) (λ rest. record { none = refl; other = refl })

-- ---- harts

reads_lawful : Lawful Any (listed double)
reads_lawful = listed_lawful double double_lawful (λ rest. refl) (λ rest. refl)

value_follows : (y : Option ℕ) (xs rest : List ℕ) → NoDigit ((spelled_after 32 double y ++ (codes "\nread" ++ xs)) ++ rest)
value_follows None xs rest = refl
value_follows (Some n) xs rest = refl

hart_lawful : (i : ℕ) → Lawful Any (hart_lines i)
hart_lawful i = begun_lawful Cut Malformed (codes "hart " ++ decimal i) _ (seen_lawful hart_from hart_fields _
    (pair_lawful _ _ (begun_lawful Cut Malformed (codes " steps ") double double_lawful) (λ steps.
    pair_lawful _ _ (begun_lawful Cut Malformed (codes " stop ") small small_lawful) (λ code.
    pair_lawful _ _ (after_lawful 32 double double_lawful) (λ value.
    begun_lawful Cut Malformed (codes "\nread") (listed double) reads_lawful)
    (λ x y rest p. record { none = refl; other = refl }))
    (λ x y rest p. value_follows y.0 _ rest))
    (λ x y rest p. refl))
    (λ x h. refl) (λ y. refl))

pub harts_lawful : Lawful Any harts_lines
harts_lawful = limited_lawful are_few_steps TooManySteps _ (counted_lawful (2 ^ 64 - 1) _ (lit< tt) (λ n k. hart_lawful k))

-- ---- executions

pub execution_lawful : Lawful Any execution
execution_lawful = begun_lawful NotAnExecution NotAnExecution (codes "execution ") _ (begun_lawful Version Version (codes "1\n") _ (seen_lawful recorded_from recorded_fields _
    (pair_lawful _ _ (begun_lawful Cut Malformed (codes "flat ") flag flag_lawful) (λ flat.
    pair_lawful _ _ (begun_lawful Cut Malformed (codes "\npages ") word word_lawful) (λ pages.
    pair_lawful _ _ (begun_lawful Cut Malformed (codes "\nimage ") bytes bytes_lawful) (λ image.
    pair_lawful _ _ (begun_lawful Cut Malformed (codes "input ") bytes bytes_lawful) (λ input.
    pair_lawful _ _ (begun_lawful Cut Malformed (codes "harts ") harts_lines harts_lawful) (λ harts.
    pair_lawful _ _ (begun_lawful Cut Malformed (codes "calls") (listed hart_turn) turns_lawful) (λ calls.
    begun_lawful Cut Malformed (codes "order") (listed hart_turn) turns_lawful)
    (λ x y rest p. tt))
    (λ x y rest p. tt))
    (λ x y rest p. tt))
    (λ x y rest p. tt))
    (λ x y rest p. refl))
    (λ x y rest p. refl))
    (λ x h. refl) (λ y. refl)))

-- what is read is an execution with just this text
pub reading_takes : (text : List ℕ) (r : Recorded) → reading text ≡ Ok r → IsExecution text r
reading_takes text r e =
    let a = bind_ok (execution.taken text) (λ x. whole x.0 x.1) r e in
    let x = a.0 in
    let g = pass_ok (eqb (length x.1) 0) (Ok x.0) (refused TextLeft x.1) r a.2 (no_ok TextLeft x.1 r) in
    let t = execution_lawful.takes text x a.1 in
    let nothing : x.1 ≡ [] = nil_from_length x.1 (eqb-true _ _ g.0) in
    subst (λ (s : Recorded). IsExecution text s) (ok_is x.0 r g.1) (record { has = t.0; spelled = t.1 ∙ ap (λ (rest : List ℕ). execution.spelled x.0 ++ rest) nothing ∙ append-nil (execution.spelled x.0) })

-- each execution's text is read as it
pub reading_again : (text : List ℕ) (r : Recorded) → IsExecution text r → reading text ≡ Ok r
reading_again text r is =
    let end : text ≡ execution.spelled r ++ [] = is.spelled ∙ sym (append-nil (execution.spelled r)) in
    ap reading end ∙ rw (execution_lawful.again r [] is.has tt) refl

pub one_execution : (text : List ℕ) (r s : Recorded) → IsExecution text r → IsExecution text s → r ≡ s
one_execution text r s is js = ok_is r s (sym (reading_again text r is) ∙ reading_again text s js)

pub is_found : {X : Type 0} (contents : X → Recorded) (text : List ℕ) (r : Result X ReadError) → Gives contents r (reading text) → IfOk r (λ x. IsExecution text (contents x))
is_found contents text (Ok x) given = reading_takes text (contents x) given
is_found contents text (Err e) given = tt

pub is_only : {X : Type 0} (contents : X → Recorded) (text : List ℕ) (r : Result X ReadError) (x : Recorded) → Gives contents r (reading text) → IsExecution text x → Gives contents r (Ok x)
is_only contents text r x given is = subst (λ (y : Result Recorded Refusal). Gives contents r y) (reading_again text x is) given
