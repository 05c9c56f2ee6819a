-- No plans have two tables.
use Rattle.std.proofs.Common.{◌≡◌, ℕ, zero, suc, ◌<◌, ◌⊎◌, inl, inr, List, [], ◌∷◌, length, get_or, All, refl, sym, ◌∙◌, ap, subst, arith}
use Rattle.std.specs.List.{AllPairs}
use Rattle.std.proofs.lemmas.Bool.{cases_lt}
use Rattle.plan_hunt.specs.Adding.{row}
use Rattle.plan_hunt.specs.Endings.{Ended}
use Rattle.plan_hunt.specs.Tables.{IsCount, IsRow, IsTable, TablesAreUnique}
use Rattle.plan_hunt.specs.declared.row.Row.{Row}
use Rattle.plan_hunt.proofs.Counts.{count_unique}

abbrev Member : Row → List Row → Type 0
Member r [] = ⊥
Member r (x ∷ xs) = (r ≡ x) ⊎ Member r xs

abbrev Rising : List Row → Type 0
Rising rows = AllPairs (λ (q r : Row). q.first < r.first) rows

member_at : (xs : List Row) (k : ℕ) (d : Row) → k < length xs → Member (get_or xs k d) xs
member_at [] k d l = absurd (omega (arith, l))
member_at (x ∷ xs) zero d l = inl refl
member_at (x ∷ xs) (suc k) d l = inr (member_at xs k d (omega (arith, l)))

member_all : (P : Row → Type 0) (xs : List Row) → All P xs → (r : Row) → Member r xs → P r
member_all P [] h r m = absurd m
member_all P (x ∷ xs) h r (inl e) = subst P (sym e) (h 0 x (omega arith))
member_all P (x ∷ xs) h r (inr m) = member_all P xs (λ k d l. h (suc k) d (omega (arith, l))) r m

tail_rises : (x : Row) (xs : List Row) → Rising (x ∷ xs) → Rising xs
tail_rises x xs h = λ i j d l m. h (suc i) (suc j) d (omega (arith, l)) (omega (arith, m))

head_least : (x : Row) (xs : List Row) → Rising (x ∷ xs) → (r : Row) → Member r xs → x.first < r.first
head_least x xs h = member_all (λ (r : Row). x.first < r.first) xs (λ k d l. h 0 (suc k) d (omega arith) (omega (arith, l)))

same_head : (x y : Row) (xs ys : List Row) → Rising (x ∷ xs) → Rising (y ∷ ys) → Member x (y ∷ ys) → Member y (x ∷ xs) → x ≡ y
same_head x y xs ys h k (inl e) n = e
same_head x y xs ys h k (inr m) (inl e) = sym e
same_head x y xs ys h k (inr m) (inr n) = absurd (omega (arith, head_least y ys k x m, head_least x xs h y n))

in_tail : (x y r : Row) (xs ys : List Row) → x ≡ y → Rising (x ∷ xs) → Member r xs → Member r (y ∷ ys) → Member r ys
in_tail x y r xs ys e h m (inl q) = let same : r.first ≡ x.first = ap (λ (z : Row). z.first) (q ∙ sym e) in absurd (omega (arith, same, head_least x xs h r m))
in_tail x y r xs ys e h m (inr n) = n

same_rows : (xs ys : List Row) → Rising xs → Rising ys → ((r : Row) → Member r xs → Member r ys) → ((r : Row) → Member r ys → Member r xs) → xs ≡ ys
same_rows [] [] h k f g = refl
same_rows [] (y ∷ ys) h k f g = absurd (g y (inl refl))
same_rows (x ∷ xs) [] h k f g = absurd (f x (inl refl))
same_rows (x ∷ xs) (y ∷ ys) h k f g =
    let e : x ≡ y = same_head x y xs ys h k (f x (inl refl)) (g y (inl refl)) in
    let rest : xs ≡ ys = same_rows xs ys (tail_rises x xs h) (tail_rises y ys k)
    (λ r m. in_tail x y r xs ys e h m (f r (inr m)))
    (λ r m. in_tail y x r ys xs (sym e) k m (g r (inr m))) in
    cc (e, rest)

-- two rows of one ending have one first plan
not_before : (ends : ℕ → Ended) (first n : ℕ) (q r : Row) → IsRow ends first n q → IsRow ends first n r → q.ending ≡ r.ending → q.first < r.first → ⊥
not_before ends first n q r h k e l = k.none_before q.first h.from l (sym h.ending ∙ e)

same_first : (ends : ℕ → Ended) (first n : ℕ) (q r : Row) → IsRow ends first n q → IsRow ends first n r → q.ending ≡ r.ending → q.first ≡ r.first
same_first ends first n q r h k e = elim (cases_lt q.first r.first) [
  | inl l ↦ absurd (not_before ends first n q r h k e l)
  | inr m ↦ elim (cases_lt r.first q.first) [ inl l ↦ absurd (not_before ends first n r q k h (sym e) l) | inr o ↦ omega (arith, m, o) ]
]

same_row : (ends : ℕ → Ended) (first n : ℕ) (q r : Row) → IsRow ends first n q → IsRow ends first n r → q.ending ≡ r.ending → q ≡ r
same_row ends first n q r h k e =
    let f : q.first ≡ r.first = same_first ends first n q r h k e in
    let p : q.plans ≡ r.plans = count_unique ends first n r.ending q.plans r.plans (subst (λ (x : Ended). IsCount ends first x n q.plans) e h.plans) k.plans in
    parts q r e f p
  where
    parts : (q r : Row) → q.ending ≡ r.ending → q.first ≡ r.first → q.plans ≡ r.plans → q ≡ r
    parts q r e f p =
        ap (λ (x : Ended). row x q.first q.plans) e ∙ ap (λ (x : ℕ). row r.ending x q.plans) f ∙ ap (λ (x : ℕ). row r.ending r.first x) p

belongs : (ends : ℕ → Ended) (first n : ℕ) (rows others : List Row) → IsTable ends first n rows → IsTable ends first n others → (r : Row) → Member r rows → Member r others
belongs ends first n rows others h k r m =
    let hr : IsRow ends first n r = member_all (IsRow ends first n) rows h.each r m in
    let a = k.complete r.first hr.from hr.below in
    let there : Member a.1 others = subst (λ (x : Row). Member x others) a.3 (member_at others a.0 a.1 a.2) in
    let ha : IsRow ends first n a.1 = member_all (IsRow ends first n) others k.each a.1 there in
    subst (λ (x : Row). Member x others) (same_row ends first n a.1 r ha hr (a.4 ∙ sym hr.ending)) there

pub unique : TablesAreUnique
unique = λ ends first n rows others h k. same_rows rows others h.rising k.rising (belongs ends first n rows others h k) (belongs ends first n others rows k h)
