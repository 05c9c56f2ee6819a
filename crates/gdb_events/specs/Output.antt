-- What a debugger is told of a program's output.
use Rattle.std.specs.Prelude.{ℕ, ◌-◌, List, [], ◌∷◌, length, drop, codes}
use Rattle.hex.specs.Hex.{encode_lower}

-- the last 32,000 of some bytes: so a reply, of two digits for each, is no longer than a packet may be
abbrev pub most_put_out : ℕ
most_put_out = 32000

abbrev pub last_told : List ℕ → List ℕ
last_told bs = drop (length bs - most_put_out) bs

-- what the program has put out
abbrev pub output_text : List ℕ → List ℕ
output_text [] = codes "no output\n"
output_text (b ∷ bs) = last_told (b ∷ bs)

abbrev pub output_answer : List ℕ → List ℕ
output_answer bs = encode_lower (output_text bs)
