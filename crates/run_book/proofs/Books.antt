-- What the loop of opening keeps.
use Rattle.std.proofs.Common.{◌≡◌, ℕ, zero, suc, ◌+◌, ◌<◌, add-one, ap₂, List, [], ◌∷◌, ◌++◌, length, map, refl, sym, ap, ◌∙◌, arith, append_assoc}
use Rattle.atomic_table.specs.Seated.{TableId}
use Rattle.atomic_table.specs.Table.{Me}
use Rattle.run_book.specs.declared.sitter.Sitter.{Sitter}
use Rattle.run_book.specs.Known.{Known, known}
use Rattle.run_book.specs.Rule.{View}
use Rattle.run_book.specs.Seats.{Counted}
use Rattle.run_book.specs.Sitters.{first_of, newcomer, newcomers_from, sitter}

pub one_less : (left : ℕ) → 0 < left → (l : ℕ) × (left ≡ suc l)
one_less zero lt = absurd (omega arith)
one_less (suc l) lt = (l, refl)

module _ {E : Type 0} where
  pub next_sitters : (harts number left l : ℕ) (v : View E) → v ≡ newcomers_from harts number left → left ≡ suc l → v ≡ newcomer harts number ∷ newcomers_from harts (number + 1) l
  next_sitters harts number left l v at is = at ∙ (ap (newcomers_from harts number) is ∙ ap (λ n. newcomer harts number ∷ newcomers_from harts n l) (sym (add-one number)))

  -- one seat more is dealt out
  pub deal_one : (t u : TableId) (harts number left l : ℕ) (all done pushed : List (Known E)) (x : Sitter E) → pushed ≡ done ++ known u x ∷ [] → all ≡ done ++ map (known t) (newcomers_from harts number left) → left ≡ suc l → u ≡ t
      → x ≡ newcomer harts number → all ≡ pushed ++ map (known t) (newcomers_from harts (number + 1) l)
  deal_one t u harts number left l all done pushed x pushed_is e is same_table x_is =
      let later : List (Known E) = map (known t) (newcomers_from harts (number + 1) l) in
      let next : map (known t) (newcomers_from harts number left) ≡ known t (newcomer harts number) ∷ later = ap (map (known t)) (next_sitters harts number left l (newcomers_from harts number left) refl is) in
      let k : known t (newcomer harts number) ≡ known u x = ap₂ known (sym same_table) (sym x_is) in
      e ∙ (ap (λ m. done ++ m) next ∙ (ap (λ m. done ++ m ∷ later) k ∙ (sym (append_assoc done (known u x ∷ []) later) ∙ ap (λ m. m ++ later) (sym pushed_is))))

module _ {S E : Type 0} where
  -- a seat just dealt out knows nothing
  pub counted_new : (m : Me S (View E)) (v : View E) (harts number : ℕ) (later : View E) → m ≡ (first_of v, []) → v ≡ newcomer harts number ∷ later → Counted m number harts 0 0 0
  counted_new m v harts number later is v_is =
      let at : m.0 ≡ newcomer harts number ∷ [] = ap (λ n. n.0) is ∙ ap first_of v_is in
      let x : newcomer harts number ≡ sitter m.0 = sym (ap sitter at) in
      record {
        rest = record {
          alone = at ∙ sym (ap (λ u. sitter u ∷ []) at);
          empty = ap (λ n. n.1) is;
          idle = ap (λ z. z.holding) (sym x);
        };
        number_is = ap (λ z. z.number) x;
        harts_are = ap (λ z. z.harts) x;
        round_is = ap (λ z. z.round) x;
        own_is = ap (λ z. length z.own) x;
        seen_is = ap (λ z. length z.seen) x;
      }

  pub new_sitter : (m : Me S (View E)) (v : View E) (harts number : ℕ) (later : View E) → m ≡ (first_of v, []) → v ≡ newcomer harts number ∷ later → sitter m.0 ≡ newcomer harts number
  new_sitter m v harts number later is v_is = ap (λ n. sitter n.0) is ∙ ap (λ u. sitter (first_of u)) v_is
