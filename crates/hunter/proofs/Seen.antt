-- The bytes of a range, one after the other.
use Rattle.std.proofs.Common.{◌≡◌, ℕ, ◌+◌, ◌<◌, ◌≤◌, List, [], ◌∷◌, ◌++◌, length, get_or, take, drop, sym, ◌∙◌, arith}
use Rattle.std.proofs.lemmas.Grind.{common_steps}
use Rattle.std.proofs.lemmas.List.{length-drop, take_all}

pub next_byte : (bs : List ℕ) (a i : ℕ) → a + i < length bs → take (i + 1) (drop a bs) ≡ take i (drop a bs) ++ get_or bs (a + i) 0 ∷ []
next_byte bs a i h = grind (arith, common_steps)

pub no_more_bytes : (bs : List ℕ) (a i n : ℕ) → length bs ≤ a + i → i ≤ n → take n (drop a bs) ≡ take i (drop a bs)
no_more_bytes bs a i n h l = take_all n (drop a bs) (omega (arith, length-drop a bs, h, l)) ∙ sym (take_all i (drop a bs) (omega (arith, length-drop a bs, h)))
