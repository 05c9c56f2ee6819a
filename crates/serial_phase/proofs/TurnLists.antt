-- The turns of a log while it grows, and where each one lies.
use Rattle.std.proofs.Common.{◌≡◌, ℕ, zero, suc, ◌+◌, ◌-◌, ◌≤◌, ◌<◌, List, [], ◌∷◌, ◌++◌, length, take, drop, set, get_or, refl, ap, ◌∙◌, arith, length-drop, add-one}
use Rattle.std.proofs.Math.Seq.{drop-length, take-suc-set}
use Rattle.std.proofs.lemmas.List.{length-take-le, take_rest, take-append-le, drop-append-le, get_or-take}
use Rattle.round_schedule.specs.declared.access.Access.{Access}
use Rattle.serial_phase.specs.Turns.{turns_at, open_turn, AreEnds, count_log, start_of}

pub ends_more : (s : ℕ) (es : List ℕ) (n m : ℕ) → n ≤ m → AreEnds s es n → AreEnds s es m
ends_more s [] n m le ends = omega arith
ends_more s (e ∷ es) n m le ends = (ends.0, ends_more e es n m le ends.1)

pub ends_first : (s : ℕ) (es : List ℕ) (n : ℕ) → AreEnds s es n → s ≤ n
ends_first s [] n ends = ends
ends_first s (e ∷ es) n ends = let low : e ≤ n = ends_first e es n ends.1 in omega (arith, ends.0)

pub ends_close : (s : ℕ) (es : List ℕ) (n : ℕ) → AreEnds s es n → AreEnds s (es ++ n ∷ []) n
ends_close s [] n ends = (ends, omega arith)
ends_close s (e ∷ es) n ends = (ends.0, ends_close e es n ends.1)

pub turns_close : (xs : List Access) (s : ℕ) (es : List ℕ) → turns_at xs s (es ++ length xs ∷ []) ≡ turns_at xs s es ++ open_turn xs s es ∷ []
turns_close xs s [] = ap (λ (l : List Access). l ∷ []) (take_rest xs s)
turns_close xs s (e ∷ es) = ap (λ (ls : List (List Access)). take (e - s) (drop s xs) ∷ ls) (turns_close xs e es)

pub open_close : (xs : List Access) (s : ℕ) (es : List ℕ) → open_turn xs s (es ++ length xs ∷ []) ≡ []
open_close xs s [] = drop-length xs
open_close xs s (e ∷ es) = open_close xs e es

same_piece : (xs ys : List Access) (s e : ℕ) → s ≤ e → e ≤ length xs → take (e - s) (drop s (xs ++ ys)) ≡ take (e - s) (drop s xs)
same_piece xs ys s e low high =
    ap (take (e - s)) (drop-append-le s xs ys (omega arith))
    ∙ take-append-le (e - s) (drop s xs) ys (omega (arith, length-drop s xs))

pub turns_push : (xs ys : List Access) (s : ℕ) (es : List ℕ) → AreEnds s es (length xs) → turns_at (xs ++ ys) s es ≡ turns_at xs s es
turns_push xs ys s [] ends = refl
turns_push xs ys s (e ∷ es) ends =
    ap (λ (ls : List (List Access)). take (e - s) (drop s (xs ++ ys)) ∷ ls) (turns_push xs ys e es ends.1)
    ∙ ap (λ (l : List Access). l ∷ turns_at xs e es) (same_piece xs ys s e ends.0 (ends_first e es (length xs) ends.1))

pub open_push : (xs ys : List Access) (s : ℕ) (es : List ℕ) → AreEnds s es (length xs) → open_turn (xs ++ ys) s es ≡ open_turn xs s es ++ ys
open_push xs ys s [] ends = drop-append-le s xs ys ends
open_push xs ys s (e ∷ es) ends = open_push xs ys e es ends.1

pub record Piece (xs : List Access) (s : ℕ) (es : List ℕ) (h : ℕ) : Type 0 where
  pub value : get_or (turns_at xs s es) h [] ≡ take (get_or es h 0 - start_of s es h) (drop (start_of s es h) xs)
  pub rises : start_of s es h ≤ get_or es h 0
  pub within : get_or es h 0 ≤ length xs

pub piece : (xs : List Access) (s : ℕ) (es : List ℕ) (h : ℕ) → h < length es → AreEnds s es (length xs) → Piece xs s es h
piece xs s [] h low ends = absurd (omega arith)
piece xs s (e ∷ es) zero low ends = record { value = refl; rises = ends.0; within = ends_first e es (length xs) ends.1 }
piece xs s (e ∷ es) (suc zero) low ends = let p = piece xs e es zero (omega arith) ends.1 in record { value = p.value; rises = p.rises; within = p.within }
piece xs s (e ∷ es) (suc (suc h)) low ends = let p = piece xs e es (suc h) (omega arith) ends.1 in record { value = p.value; rises = p.rises; within = p.within }

pub past_turns : (xs : List Access) (s : ℕ) (es : List ℕ) (h : ℕ) → length es ≤ h → get_or (turns_at xs s es) h [] ≡ []
past_turns xs s [] h high = refl
past_turns xs s (e ∷ es) zero high = absurd (omega arith)
past_turns xs s (e ∷ es) (suc h) high = past_turns xs e es h (omega arith)

pub length-turns_at : (xs : List Access) (s : ℕ) (es : List ℕ) → length (turns_at xs s es) ≡ length es
length-turns_at xs s [] = refl
length-turns_at xs s (e ∷ es) = ap suc (length-turns_at xs e es)

-- one more end
pub take_one : (es : List ℕ) (n v : ℕ) → n < length es → take (n + 1) (set es n v) ≡ take n es ++ v ∷ []
take_one es n v low = ap (λ (k : ℕ). take k (set es n v)) (add-one n) ∙ take-suc-set es n v low

-- the same in the front of a longer list of ends
start_front : (ends : List ℕ) (n h : ℕ) → h < n → start_of 0 (take n ends) h ≡ start_of 0 ends h
start_front ends n zero low = refl
start_front ends n (suc h) low = get_or-take n ends h 0 (omega arith)

pub record Lies (xs : List Access) (ends : List ℕ) (n h : ℕ) : Type 0 where
  pub value : get_or (turns_at xs 0 (take n ends)) h [] ≡ take (get_or ends h 0 - start_of 0 ends h) (drop (start_of 0 ends h) xs)
  pub rises : start_of 0 ends h ≤ get_or ends h 0
  pub within : get_or ends h 0 ≤ length xs

pub lies : (xs : List Access) (ends : List ℕ) (n h : ℕ) → h < n → length (take n ends) ≡ n → AreEnds 0 (take n ends) (length xs) → Lies xs ends n h
lies xs ends n h low size are =
    let p = piece xs 0 (take n ends) h (omega arith) are in
    let first : start_of 0 (take n ends) h ≡ start_of 0 ends h = start_front ends n h low in
    let last : get_or (take n ends) h 0 ≡ get_or ends h 0 = get_or-take n ends h 0 low in
    record {
      value = p.value ∙ ap (λ (e : ℕ). take (e - start_of 0 (take n ends) h) (drop (start_of 0 (take n ends) h) xs)) last ∙ ap (λ (s : ℕ). take (get_or ends h 0 - s) (drop s xs)) first;
      rises = omega (arith, p.rises);
      within = omega (arith, p.within);
    }

-- each access is in one of the turns, or in the one that is under way
pub count_all : (xs : List Access) (s : ℕ) (es : List ℕ) → AreEnds s es (length xs) → s + (count_log (turns_at xs s es) + length (open_turn xs s es)) ≡ length xs
count_all xs s [] ends = omega (arith, ends, length-drop s xs)
count_all xs s (e ∷ es) ends =
    let high : e ≤ length xs = ends_first e es (length xs) ends.1 in
    let piece_length : length (take (e - s) (drop s xs)) ≡ e - s = length-take-le (e - s) (drop s xs) (omega (arith, length-drop s xs, high)) in
    omega (arith, ends.0, high, piece_length, count_all xs e es ends.1)
