-- What calls leave of a console, one after another, and in closed form.
use Rattle.std.proofs.Common.{◌≡◌, ℕ, ◌+◌, ◌<◌, ◌≤◌, min, ◌⊎◌, inl, inr, Bool, true, false, if◌then◌else◌, nat_lt, List, [], ◌∷◌, ◌++◌, length, take, refl, sym, ap, ◌∙◌, subst, append_assoc, append-nil, arith}
use Rattle.std.proofs.lemmas.Bool.{cases_lt, ltb-false, ltb-true, le-ltb, lt-ltb}
use Rattle.std.proofs.lemmas.List.{get_or_append_left, get_or_push, length-take, length_push, take-append-le, take_all}
use Rattle.std.specs.Prelude.{slice_index}
use Rattle.hart_step.specs.Console.{Answered, ConsoleState, all_ones, get_call, output_room}
use Rattle.console_law.specs.Calls.{ConsoleCall, PutByte, GetByte, bytes_put, get_answers, put_answers}
use Rattle.console_law.specs.Laws.{AnsweredBy, input_answer, room_answer}

-- ---- one after another

-- the console after a call
abbrev pub after_call : ConsoleCall → ConsoleState → ConsoleState
after_call (PutByte byte answer) c = if nat_lt (length c.output) output_room then record c { output = c.output ++ byte ∷ [] } else c
after_call (GetByte answer) c = (get_call c).console

-- the call's answer is that of the console before it
abbrev pub IsAnswered : ConsoleCall → ConsoleState → Type 0
IsAnswered (PutByte byte answer) c = answer ≡ (if nat_lt (length c.output) output_room then 0 else all_ones)
IsAnswered (GetByte answer) c = answer ≡ (get_call c).value

abbrev pub after_calls : List ConsoleCall → ConsoleState → ConsoleState
after_calls [] c = c
after_calls (x ∷ xs) c = after_calls xs (after_call x c)

abbrev pub AreAnswered : List ConsoleCall → ConsoleState → Type 0
AreAnswered [] c = Unit {0}
AreAnswered (x ∷ xs) c = IsAnswered x c × AreAnswered xs (after_call x c)

pub after_calls-append : (xs ys : List ConsoleCall) (c : ConsoleState) → after_calls (xs ++ ys) c ≡ after_calls ys (after_calls xs c)
after_calls-append [] ys c = refl
after_calls-append (x ∷ xs) ys c = after_calls-append xs ys (after_call x c)

pub AreAnswered-append : (xs ys : List ConsoleCall) (c : ConsoleState) → AreAnswered xs c → AreAnswered ys (after_calls xs c) → AreAnswered (xs ++ ys) c
AreAnswered-append [] ys c a b = b
AreAnswered-append (x ∷ xs) ys c a b = (a.0, AreAnswered-append xs ys (after_call x c) a.1 b)

-- ---- one call more at the end

bytes_put-append : (xs ys : List ConsoleCall) → bytes_put (xs ++ ys) ≡ bytes_put xs ++ bytes_put ys
bytes_put-append [] ys = refl
bytes_put-append (PutByte b a ∷ xs) ys = ap (λ (l : List ℕ). b ∷ l) (bytes_put-append xs ys)
bytes_put-append (GetByte a ∷ xs) ys = bytes_put-append xs ys

put_answers-append : (xs ys : List ConsoleCall) → put_answers (xs ++ ys) ≡ put_answers xs ++ put_answers ys
put_answers-append [] ys = refl
put_answers-append (PutByte b a ∷ xs) ys = ap (λ (l : List ℕ). a ∷ l) (put_answers-append xs ys)
put_answers-append (GetByte a ∷ xs) ys = put_answers-append xs ys

get_answers-append : (xs ys : List ConsoleCall) → get_answers (xs ++ ys) ≡ get_answers xs ++ get_answers ys
get_answers-append [] ys = refl
get_answers-append (PutByte b a ∷ xs) ys = get_answers-append xs ys
get_answers-append (GetByte a ∷ xs) ys = ap (λ (l : List ℕ). a ∷ l) (get_answers-append xs ys)

-- as many puts have answers as have bytes
puts_have_answers : (xs : List ConsoleCall) → length (put_answers xs) ≡ length (bytes_put xs)
puts_have_answers [] = refl
puts_have_answers (PutByte b a ∷ xs) = omega (arith, puts_have_answers xs)
puts_have_answers (GetByte a ∷ xs) = puts_have_answers xs

AnsweredBy-push : (f : ℕ → ℕ) (xs : List ℕ) (v : ℕ) → AnsweredBy f xs → v ≡ f (length xs) → AnsweredBy f (xs ++ v ∷ [])
AnsweredBy-push f xs v h is = λ k l. by_place k l (cases_lt k (length xs))
  where
    by_place : (k : ℕ) → k < length (xs ++ v ∷ []) → (k < length xs) ⊎ (length xs ≤ k) → slice_index (xs ++ v ∷ []) k ≡ f k
    by_place k l (inl below) = get_or_append_left xs (v ∷ []) 0 k below ∙ h k below
    by_place k l (inr above) =
        let last : length xs ≡ k = omega (arith, length_push xs v, l, above) in
        get_or_push xs v 0 k last ∙ is ∙ ap f last

-- ---- in closed form

-- the bytes put so far, cut at the room, with one more
put_more : (room : ℕ) (xs : List ℕ) (b : ℕ) → length (take room xs) < room → take room xs ++ b ∷ [] ≡ take room (xs ++ b ∷ [])
put_more room xs b l =
    let below : length xs < room = omega (arith, length-take room xs, l) in
    ap (λ (ys : List ℕ). ys ++ b ∷ []) (take_all room xs (omega (arith, below)))
    ∙ sym (take_all room (xs ++ b ∷ []) (omega (arith, length_push xs b, below)))

put_full : (room : ℕ) (xs : List ℕ) (b : ℕ) → room ≤ length (take room xs) → take room xs ≡ take room (xs ++ b ∷ [])
put_full room xs b l = sym (take-append-le room xs (b ∷ []) (omega (arith, length-take room xs, l)))

put_gets : (cs : List ConsoleCall) (b a : ℕ) → get_answers cs ≡ get_answers (cs ++ PutByte b a ∷ [])
put_gets cs b a = sym (get_answers-append cs (PutByte b a ∷ []) ∙ append-nil (get_answers cs))

get_puts : (cs : List ConsoleCall) (a : ℕ) → bytes_put cs ≡ bytes_put (cs ++ GetByte a ∷ [])
get_puts cs a = sym (bytes_put-append cs (GetByte a ∷ []) ∙ append-nil (bytes_put cs))

-- the console after all these calls, in order
pub record Closed (input : List ℕ) (cs : List ConsoleCall) (c : ConsoleState) : Type 0 where
  pub input_same : c.input ≡ input
  pub place : c.place ≡ min (length (get_answers cs)) (length input)
  pub output : c.output ≡ take output_room (bytes_put cs)

-- their answers
pub record Told (input : List ℕ) (cs : List ConsoleCall) : Type 0 where
  pub gets : AnsweredBy (input_answer input) (get_answers cs)
  pub puts : AnsweredBy room_answer (put_answers cs)

module _ (input : List ℕ) where
  put_closed : (cs : List ConsoleCall) (c : ConsoleState) (b a : ℕ) (t : Bool) → nat_lt (length c.output) output_room ≡ t → Closed input cs c →
      Closed input (cs ++ PutByte b a ∷ []) (if t then record c { output = c.output ++ b ∷ [] } else c)
  put_closed cs c b a true t h = record {
    input_same = h.input_same;
    place = h.place ∙ ap (λ (l : List ℕ). min (length l) (length input)) (put_gets cs b a);
    output =
        let l : length (take output_room (bytes_put cs)) < output_room = subst (λ (ys : List ℕ). length ys < output_room) h.output (ltb-true (length c.output) output_room t) in
        ap (λ (ys : List ℕ). ys ++ b ∷ []) h.output ∙ put_more output_room (bytes_put cs) b l ∙ ap (take output_room) (sym (bytes_put-append cs (PutByte b a ∷ [])));
  }
  put_closed cs c b a false t h = record {
    input_same = h.input_same;
    place = h.place ∙ ap (λ (l : List ℕ). min (length l) (length input)) (put_gets cs b a);
    output =
        let l : output_room ≤ length (take output_room (bytes_put cs)) = subst (λ (ys : List ℕ). output_room ≤ length ys) h.output (ltb-false (length c.output) output_room t) in
        h.output ∙ put_full output_room (bytes_put cs) b l ∙ ap (take output_room) (sym (bytes_put-append cs (PutByte b a ∷ [])));
  }

  get_closed : (cs : List ConsoleCall) (c : ConsoleState) (a : ℕ) (t : Bool) → nat_lt c.place (length c.input) ≡ t → Closed input cs c →
      Closed input (cs ++ GetByte a ∷ []) (if t then record c { place = c.place + 1 } else c)
  get_closed cs c a true t h = record {
    input_same = h.input_same;
    place =
        let l : c.place < length input = subst (λ (ys : List ℕ). c.place < length ys) h.input_same (ltb-true c.place (length c.input) t) in
        omega (arith, h.place, l, length_push (get_answers cs) a, ap length (get_answers-append cs (GetByte a ∷ [])));
    output = h.output ∙ ap (take output_room) (get_puts cs a);
  }
  get_closed cs c a false t h = record {
    input_same = h.input_same;
    place =
        let l : length input ≤ c.place = subst (λ (ys : List ℕ). length ys ≤ c.place) h.input_same (ltb-false c.place (length c.input) t) in
        omega (arith, h.place, l, length_push (get_answers cs) a, ap length (get_answers-append cs (GetByte a ∷ [])));
    output = h.output ∙ ap (take output_room) (get_puts cs a);
  }

  -- a get call by its test
  abbrev got : ConsoleState → Bool → Answered
  got c t = if t then record { value = slice_index c.input c.place; console = record c { place = c.place + 1 } } else record { value = all_ones; console = c }

  get_console : (c : ConsoleState) → (if nat_lt c.place (length c.input) then record c { place = c.place + 1 } else c) ≡ (get_call c).console
  get_console c = by_test (nat_lt c.place (length c.input))
    where
      by_test : (t : Bool) → (if t then record c { place = c.place + 1 } else c) ≡ (got c t).console
      by_test true = refl
      by_test false = refl

  closed_more : (cs : List ConsoleCall) (x : ConsoleCall) (c : ConsoleState) → Closed input cs c → Closed input (cs ++ x ∷ []) (after_call x c)
  closed_more cs (PutByte b a) c h = put_closed cs c b a (nat_lt (length c.output) output_room) refl h
  closed_more cs (GetByte a) c h = subst (Closed input (cs ++ GetByte a ∷ [])) (get_console c) (get_closed cs c a (nat_lt c.place (length c.input)) refl h)

  closed_all : (ds cs : List ConsoleCall) (c : ConsoleState) → Closed input cs c → Closed input (cs ++ ds) (after_calls ds c)
  closed_all [] cs c h = subst (λ (l : List ConsoleCall). Closed input l c) (sym (append-nil cs)) h
  closed_all (x ∷ ds) cs c h =
      subst (λ (l : List ConsoleCall). Closed input l (after_calls (x ∷ ds) c)) (append_assoc cs (x ∷ []) ds)
      (closed_all ds (cs ++ x ∷ []) (after_call x c) (closed_more cs x c h))

  -- the answers

  same_room : (room m n : ℕ) → m ≡ min room n → nat_lt m room ≡ nat_lt n room
  same_room room m n e = by_order (cases_lt n room)
    where
      by_order : (n < room) ⊎ (room ≤ n) → nat_lt m room ≡ nat_lt n room
      by_order (inl l) = lt-ltb m room (omega (arith, e, l)) ∙ sym (lt-ltb n room l)
      by_order (inr l) = le-ltb m room (omega (arith, e, l)) ∙ sym (le-ltb n room l)

  past_end : (n : ℕ) → input_answer input (min n (length input)) ≡ input_answer input n
  past_end n = by_order (cases_lt n (length input))
    where
      ended : (k : ℕ) → length input ≤ k → input_answer input k ≡ all_ones
      ended k l = ap (λ (t : Bool). if t then slice_index input k else all_ones) (le-ltb k (length input) l)

      by_order : (n < length input) ⊎ (length input ≤ n) → input_answer input (min n (length input)) ≡ input_answer input n
      by_order (inl l) = let e : min n (length input) ≡ n = omega (arith, l) in ap (input_answer input) e
      by_order (inr l) = ended (min n (length input)) (omega (arith, l)) ∙ sym (ended n l)

  get_value : (c : ConsoleState) → (get_call c).value ≡ input_answer c.input c.place
  get_value c = by_test (nat_lt c.place (length c.input))
    where
      by_test : (t : Bool) → (got c t).value ≡ (if t then slice_index c.input c.place else all_ones)
      by_test true = refl
      by_test false = refl

  told_more : (cs : List ConsoleCall) (x : ConsoleCall) (c : ConsoleState) → Closed input cs c → IsAnswered x c → Told input cs → Told input (cs ++ x ∷ [])
  told_more cs (PutByte b a) c h is t = record {
    gets = subst (AnsweredBy (input_answer input)) (put_gets cs b a) t.gets;
    puts =
        let m : length c.output ≡ min output_room (length (put_answers cs)) =
        ap length h.output ∙ length-take output_room (bytes_put cs) ∙ ap (min output_room) (sym (puts_have_answers cs)) in
        subst (AnsweredBy room_answer) (sym (put_answers-append cs (PutByte b a ∷ [])))
        (AnsweredBy-push room_answer (put_answers cs) a t.puts
        (is ∙ ap (λ (r : Bool). if r then 0 else all_ones) (same_room output_room (length c.output) (length (put_answers cs)) m)));
  }
  told_more cs (GetByte a) c h is t = record {
    gets =
        subst (AnsweredBy (input_answer input)) (sym (get_answers-append cs (GetByte a ∷ [])))
        (AnsweredBy-push (input_answer input) (get_answers cs) a t.gets
        (is ∙ get_value c ∙ ap (λ (l : List ℕ). input_answer l c.place) h.input_same ∙ ap (input_answer input) h.place ∙ past_end (length (get_answers cs))));
    puts = subst (AnsweredBy room_answer) (sym (put_answers-append cs (GetByte a ∷ []) ∙ append-nil (put_answers cs))) t.puts;
  }

  told_all : (ds cs : List ConsoleCall) (c : ConsoleState) → Closed input cs c → AreAnswered ds c → Told input cs → Told input (cs ++ ds)
  told_all [] cs c h a t = subst (Told input) (sym (append-nil cs)) t
  told_all (x ∷ ds) cs c h a t =
      subst (Told input) (append_assoc cs (x ∷ []) ds)
      (told_all ds (cs ++ x ∷ []) (after_call x c) (closed_more cs x c h) a.1 (told_more cs x c h a.0 t))

  abbrev opening : ConsoleState
  opening = record { input = input; place = 0; output = [] }

  opening_closed : Closed input [] opening
  opening_closed = record { input_same = refl; place = omega arith; output = sym (take_all output_room [] (omega arith)) }

  opening_told : Told input []
  opening_told = record { gets = λ k l. absurd (omega (arith, l)); puts = λ k l. absurd (omega (arith, l)) }

pub closed_form : (input : List ℕ) (cs : List ConsoleCall) → Closed input cs (after_calls cs (record { input = input; place = 0; output = [] }))
closed_form input cs = closed_all input cs [] (opening input) (opening_closed input)

pub told_form : (input : List ℕ) (cs : List ConsoleCall) → AreAnswered cs (record { input = input; place = 0; output = [] }) → Told input cs
told_form input cs a = told_all input cs [] (opening input) (opening_closed input) a (opening_told input)
