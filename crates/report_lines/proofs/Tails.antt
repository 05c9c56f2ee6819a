-- The text of a tail, before the bytes after it.
use Rattle.std.proofs.Common.{◌≡◌, ℕ, ◌+◌, ◌≤◌, List, ◌++◌, length, take, take-take, ap, ◌∙◌, arith}
use Rattle.std.proofs.Math.Seq.{take-append_seam}
use Rattle.std.proofs.lemmas.List.{length-append}

pub text_of : (count size : ℕ) (text after all block : List ℕ) → all ≡ text ++ after → length after ≡ size → count + size ≡ length all → count ≤ size → block ≡ take size all → take count block ≡ text
text_of count size text after all block is rest whole within first =
    let long : count ≡ length text = omega (arith, ap length is, length-append text after, rest, whole) in
    ap (take count) first ∙ take-take count size all within ∙ ap (take count) is ∙ ap (λ (n : ℕ). take n (text ++ after)) long ∙ take-append_seam text after
