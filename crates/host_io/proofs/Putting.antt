-- What stands while a text is put piece by piece.
use Rattle.std.proofs.Common.{◌≡◌, ℕ, ◌+◌, ◌-◌, ◌≤◌, List, ◌++◌, length, take, drop, sym, ap, ◌∙◌, arith, append_assoc, length-drop}
use Rattle.std.proofs.Math.Seq.{take-add}
use Rattle.std.proofs.lemmas.List.{take_rest, drop-drop}

-- the first bytes are out, and the rest is to come
pub record Putting (old new text rest : List ℕ) : Type 0 where
  pub count : ℕ
  pub within : count ≤ length text
  pub left : rest ≡ drop count text
  pub bytes : new ≡ old ++ take count text

pub put_more : (old mid new text rest : List ℕ) (n : ℕ) → n ≤ length rest → new ≡ mid ++ take n rest → Putting old mid text rest → Putting old new text (take (length rest - n) (drop n rest))
put_more old mid new text rest n within more p =
    let size : length rest ≡ length text - p.count = ap length p.left ∙ length-drop p.count text in
    record {
      count = p.count + n;
      within = omega (arith, size, p.within);
      left = take_rest rest n ∙ ap (drop n) p.left ∙ drop-drop n p.count text;
      bytes = more ∙ ap (λ (b : List ℕ). b ++ take n rest) p.bytes ∙ append_assoc old (take p.count text) (take n rest)
          ∙ ap (λ (r : List ℕ). old ++ (take p.count text ++ take n r)) p.left ∙ ap (λ (b : List ℕ). old ++ b) (sym (take-add p.count n text));
    }
