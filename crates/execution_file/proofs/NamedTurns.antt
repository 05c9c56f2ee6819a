-- Turns that name an order, turn by turn.
use Rattle.std.proofs.Common.{◌≡◌, ◌⊎◌, ℕ, zero, suc, ◌+◌, ◌<◌, ◌≤◌, ◌==◌, ◌&&◌, Bool, true, false, if◌then◌else◌, List, [], ◌∷◌, ◌++◌, length, get_or, slice_set, slice_index, map, take, Option, Some, None, refl, sym, ap, ◌∙◌, subst, inl, inr, arith}
use Rattle.std.specs.Prelude.{◌↔◌, Contains, MatchOption}
use Rattle.std.proofs.lemmas.Bool.{cases_eq, cases_lt, eq-eqb, ne_eqb}
use Rattle.std.proofs.lemmas.List.{get_or-set_other, get_or-set_same, get_or_append_left, get_or-append_right, length-append, length-set, take_all, take_more}
use Rattle.std.proofs.lemmas.List.Elements.{Contains-append_left, Contains-push, Contains-push_cases}
use Rattle.round_schedule.specs.declared.event.Event.{Event}
use Rattle.round_schedule.specs.Positions.{event, no_event}
use Rattle.memory_order.specs.Operations.{is_operation}
use Rattle.memory_order.proofs.Facts.{within}
use Rattle.execution_file.specs.Recorded.{Turn}
use Rattle.execution_file.specs.declared.operations.Operations.{Operations}
use Rattle.execution_file.specs.Turns.{HasNumber, IsFirstLeft, Names, operations_of}
use Rattle.execution_file.specs.Sorting.{AreFirst, AreOf, AreSorted, IsAdded, IsEmpty, IsOperation}

-- ---- how many operations there are

abbrev adds : ℕ → Event → ℕ
adds h e = if e.hart == h && is_operation e then 1 else 0

operations_joined : (h : ℕ) (t : List Event) (e : Event) → operations_of h (t ++ e ∷ []) ≡ operations_of h t + adds h e
operations_joined h [] e = omega arith
operations_joined h (f ∷ t) e = let s = operations_joined h t e in omega (arith, s)

operations_more : (h i : ℕ) (t : List Event) → i < length t → operations_of h (take (i + 1) t) ≡ operations_of h (take i t) + adds h (event t i)
operations_more h i t l = ap (operations_of h) (take_more t i no_event l) ∙ operations_joined h (take i t) (event t i)

adds_one : (h : ℕ) (e : Event) → e.hart ≡ h → is_operation e ≡ true → adds h e ≡ 1
adds_one h e same op =
    ap (λ (b : Bool). if b && is_operation e then 1 else 0) (eq-eqb e.hart h same) ∙ ap (λ (b : Bool). if b then 1 else 0) op

adds_none : (h : ℕ) (e : Event) → (e.hart ≡ h → ⊥) → adds h e ≡ 0
adds_none h e other = ap (λ (b : Bool). if b && is_operation e then 1 else 0) (ne_eqb e.hart h other)

adds_nothing : (h : ℕ) (e : Event) → is_operation e ≡ false → adds h e ≡ 0
adds_nothing h e op = ap (λ (b : Bool). if e.hart == h && b then 1 else 0) op ∙ of_false (e.hart == h)
  where
    of_false : (b : Bool) → ◌≡◌ {A = ℕ} (if b && false then 1 else 0) 0
    of_false true = refl
    of_false false = refl

-- ---- an operation has more before it than an earlier one

rise : (h : ℕ) (t : List Event) (a b : ℕ) → (event t a).hart ≡ h → is_operation (event t a) ≡ true → a < b → operations_of h (take a t) < operations_of h (take b t)
rise h [] a b same op l = absurd (let w = within [] a op in omega (arith, w))
rise h (e ∷ t) zero zero same op l = absurd (omega (arith, l))
rise h (e ∷ t) zero (suc b) same op l = let one = adds_one h e same op in omega (arith, one)
rise h (e ∷ t) (suc a) zero same op l = absurd (omega (arith, l))
rise h (e ∷ t) (suc a) (suc b) same op l = let s = rise h t a b same op (omega (arith, l)) in omega (arith, s)

below_all : (h : ℕ) (t : List Event) (a : ℕ) → (event t a).hart ≡ h → is_operation (event t a) ≡ true → operations_of h (take a t) < operations_of h t
below_all h t a same op =
    let s = rise h t a (length t) same op (within t a op) in
    let e = ap (operations_of h) (take_all (length t) t (omega arith)) in
    omega (arith, s, e)

same_index : (h n a b : ℕ) (t : List Event) → IsOperation t h n a → IsOperation t h n b → a ≡ b
same_index h n a b t x y = elim (cases_lt a b) [
  | inl l ↦ absurd (let s = rise h t a b x.hart x.operation l in omega (arith, s, x.number, y.number))
  | inr m ↦ elim (cases_lt b a) [
    | inl l ↦ absurd (let s = rise h t b a y.hart y.operation l in omega (arith, s, x.number, y.number))
    | inr k ↦ omega (arith, m, k)
  ]
]

-- ---- the operations of a hart, event by event

pub no_operations : (t : List Event) (h : ℕ) (o : Operations) → IsEmpty o → AreFirst t 0 h o
no_operations t h o is = record {
  count = ap (λ (xs : List ℕ). length xs) is.indexes;
  each = λ k l. absurd (let e = ap (λ (xs : List ℕ). length xs) is.indexes in omega (arith, l, e));
  along = ap (λ (xs : List Bool). length xs) is.named ∙ sym (ap (λ (xs : List ℕ). length xs) is.indexes);
  unnamed = λ k. ap (λ (xs : List Bool). get_or xs k false) is.named;
  next = is.next;
}

more_false : (xs : List Bool) → ((k : ℕ) → get_or xs k false ≡ false) → (k : ℕ) → get_or (xs ++ false ∷ []) k false ≡ false
more_false [] all zero = refl
more_false [] all (suc k) = refl
more_false (x ∷ xs) all zero = all 0
more_false (x ∷ xs) all (suc k) = more_false xs (λ n. all (suc n)) k

pub one_more_first : (t : List Event) (i h : ℕ) (old new : Operations) → i < length t → (event t i).hart ≡ h → is_operation (event t i) ≡ true →
    AreFirst t i h old → IsAdded i old new → AreFirst t (i + 1) h new
one_more_first t i h old new l same op was added = record {
  count =
      let s = length_more in
      let m = operations_more h i t l in
      let one = adds_one h (event t i) same op in
      omega (arith, s, m, one, was.count);
  each = λ k k_within. elim (cases_lt k (length old.indexes.items)) [
    | inl less ↦
        subst (IsOperation t h k) (sym (ap (λ (xs : List ℕ). get_or xs k 0) added.indexes ∙ get_or_append_left old.indexes.items (i ∷ []) 0 k less)) (was.each k less)
    | inr more ↦
        let s = length_more in
        let at : k ≡ length old.indexes.items = omega (arith, s, more, k_within) in
        subst (IsOperation t h k) (sym (ap (λ (xs : List ℕ). get_or xs k 0) added.indexes ∙ last old.indexes.items k i at))
        (record { operation = op; hart = same; number = omega (arith, at, was.count) })
  ];
  along =
      ap (λ (xs : List Bool). length xs) added.named ∙ length-append old.named.items (false ∷ [])
      ∙ ap (λ n. n + 1) was.along ∙ sym length_more;
  unnamed = λ k. ap (λ (xs : List Bool). get_or xs k false) added.named ∙ more_false old.named.items was.unnamed k;
  next = added.next ∙ was.next;
}
  where
    length_more : length new.indexes.items ≡ length old.indexes.items + 1
    length_more = ap (λ (xs : List ℕ). length xs) added.indexes ∙ length-append old.indexes.items (i ∷ [])

    last : (xs : List ℕ) (k y : ℕ) → k ≡ length xs → get_or (xs ++ y ∷ []) k 0 ≡ y
    last [] k y e = ap (λ n. get_or (y ∷ []) n 0) e
    last (x ∷ xs) zero y e = absurd (omega (arith, e))
    last (x ∷ xs) (suc k) y e = last xs k y (omega (arith, e))

pub not_more_first : (t : List Event) (i h : ℕ) (o : Operations) → i < length t → ((event t i).hart ≡ h → ⊥) → AreFirst t i h o → AreFirst t (i + 1) h o
not_more_first t i h o l other was = record {
  count =
      let m = operations_more h i t l in
      let none = adds_none h (event t i) other in
      omega (arith, m, none, was.count);
  each = was.each;
  along = was.along;
  unnamed = was.unnamed;
  next = was.next;
}

pub none_more_first : (t : List Event) (i h : ℕ) (o : Operations) → i < length t → is_operation (event t i) ≡ false → AreFirst t i h o → AreFirst t (i + 1) h o
none_more_first t i h o l op was = record {
  count =
      let m = operations_more h i t l in
      let none = adds_nothing h (event t i) op in
      omega (arith, m, none, was.count);
  each = was.each;
  along = was.along;
  unnamed = was.unnamed;
  next = was.next;
}

none_contained : {A : Type 0} (x : A) → Contains [] x → ⊥
none_contained x c = omega (arith, c.1)

pub all_unnamed : (t : List Event) (h : ℕ) (o : Operations) → AreFirst t (length t) h o → AreOf t [] h o
all_unnamed t h o was = record {
  count = was.count ∙ ap (operations_of h) (take_all (length t) t (omega arith));
  each = was.each;
  along = was.along;
  is_named = λ k l. (λ yes. absurd (no (sym (was.unnamed k) ∙ yes)), λ c. absurd (none_contained (slice_index o.indexes.items k) c));
  passed = λ k l m. absurd (omega (arith, l, was.next));
}
  where
    no : false ≡ true → ⊥
    no e = cc

-- ---- the operation that a turn names

-- the operation of a hart at an index has a number, and stands there in the list of them
listed : (t : List Event) (g : List ℕ) (h a : ℕ) (o : Operations) → AreOf t g h o → is_operation (event t a) ≡ true → (event t a).hart ≡ h →
    (operations_of h (take a t) < length o.indexes.items) × (slice_index o.indexes.items (operations_of h (take a t)) ≡ a)
listed t g h a o are op same =
    let few : operations_of h (take a t) < length o.indexes.items = (let s = below_all h t a same op in omega (arith, s, are.count)) in
    (few, same_index h (operations_of h (take a t)) (slice_index o.indexes.items (operations_of h (take a t))) a t (are.each (operations_of h (take a t)) few) (record { operation = op; hart = same; number = refl }))

-- the list of named ones with one more
named_more : (t : List Event) (g : List ℕ) (h number : ℕ) (o new : Operations) → AreOf t g h o → number < length o.indexes.items →
    new.indexes.items ≡ o.indexes.items → new.named.items ≡ slice_set o.named.items number true → new.next ≡ o.next →
    AreOf t (g ++ slice_index o.indexes.items number ∷ []) h new
named_more t g h number o new are l same set next = record {
  count = ap (λ (xs : List ℕ). length xs) same ∙ are.count;
  each = λ k k_within. subst (IsOperation t h k) (ap (λ (xs : List ℕ). get_or xs k 0) (sym same)) (are.each k (there k k_within));
  along = ap (λ (xs : List Bool). length xs) set ∙ length-set o.named.items number true ∙ are.along ∙ ap (λ (xs : List ℕ). length xs) (sym same);
  is_named = λ k k_within. subst (λ (x : ℕ). get_or new.named.items k false ≡ true ↔ Contains (g ++ this ∷ []) x) (ap (λ (xs : List ℕ). get_or xs k 0) (sym same)) (of_one k (there k k_within));
  passed = λ k before k_within. kept k (are.passed k (omega (arith, before, next)) (there k k_within));
}
  where
    this : ℕ
    this = slice_index o.indexes.items number

    there : (k : ℕ) → k < length new.indexes.items → k < length o.indexes.items
    there k k_within = let e = ap (λ (xs : List ℕ). length xs) same in omega (arith, e, k_within)

    at : get_or new.named.items number false ≡ true
    at = ap (λ (xs : List Bool). get_or xs number false) set ∙ get_or-set_same o.named.items number true false (omega (arith, l, are.along))

    other : (k : ℕ) → (k ≡ number → ⊥) → get_or new.named.items k false ≡ get_or o.named.items k false
    other k ne = ap (λ (xs : List Bool). get_or xs k false) set ∙ get_or-set_other o.named.items number k true false ne

    kept : (k : ℕ) → get_or o.named.items k false ≡ true → get_or new.named.items k false ≡ true
    kept k is = elim (cases_eq k number) [
      | inl e ↦ ap (λ n. get_or new.named.items n false) e ∙ at
      | inr ne ↦ other k ne ∙ is
    ]

    of_one : (k : ℕ) → k < length o.indexes.items → get_or new.named.items k false ≡ true ↔ Contains (g ++ this ∷ []) (slice_index o.indexes.items k)
    of_one k k_within = elim (cases_eq k number) [
      | inl e ↦ (
        λ yes. subst (λ (n : ℕ). Contains (g ++ this ∷ []) (slice_index o.indexes.items n)) (sym e) (Contains-push g this),
        λ c. ap (λ n. get_or new.named.items n false) e ∙ at,
      )
      | inr ne ↦ (
        λ yes. Contains-append_left g (this ∷ []) (slice_index o.indexes.items k) ((are.is_named k k_within).0 (sym (other k ne) ∙ yes)),
        λ c. other k ne ∙ (are.is_named k k_within).1 (elim (Contains-push_cases g this (slice_index o.indexes.items k) c) [
          | inl was ↦ was
          | inr e ↦
              absurd (ne (sym (are.each k k_within).number
              ∙ ap (λ a. operations_of h (take a t)) (sym e) ∙ (are.each number l).number))
        ]),
      )
    ]

-- another hart's operation is named
pub other_named : (t : List Event) (g : List ℕ) (h a : ℕ) (o : Operations) → ((event t a).hart ≡ h → ⊥) → AreOf t g h o → AreOf t (g ++ a ∷ []) h o
other_named t g h a o other are = record {
  count = are.count;
  each = are.each;
  along = are.along;
  passed = are.passed;
  is_named = λ k l. (
    λ yes. Contains-append_left g (a ∷ []) (slice_index o.indexes.items k) ((are.is_named k l).0 yes),
    λ c. (are.is_named k l).1 (elim (Contains-push_cases g a (slice_index o.indexes.items k) c) [
      | inl was ↦ was
      | inr e ↦ absurd (other (ap (λ x. (event t x).hart) e ∙ (are.each k l).hart))
    ]),
  );
}

-- what `name` answers for the number of the operation that a turn names
pub takes_number : (t : List Event) (g : List ℕ) (u : Turn) (number : ℕ) (o new : Operations) (r : Option ℕ) → AreOf t g u.hart o →
    new.indexes.items ≡ o.indexes.items → new.next ≡ o.next →
    ((a : ℕ) → number < length o.indexes.items → IsOperation t u.hart number a → Names u t g a) → ((a : ℕ) → Names u t g a → operations_of u.hart (take a t) ≡ number) →
    MatchOption r (length o.indexes.items ≤ number) (λ index. (number < length o.indexes.items) × (index ≡ slice_index o.indexes.items number) × (new.named.items ≡ slice_set o.named.items number true)) →
    MatchOption r ((a : ℕ) → Names u t g a → ⊥) (λ a. Names u t g a × AreOf t (g ++ a ∷ []) u.hart new)
takes_number t g u number o new None are same next says only past = λ a n.
    let few = (listed t g u.hart a o are n.operation (sym n.hart)).0 in
    let is = only a n in
    omega (arith, few, is, past)
takes_number t g u number o new (Some a) are same next says only given = (
  says a given.0 (subst (IsOperation t u.hart number) (sym given.1) (are.each number given.0)),
  subst (λ (x : ℕ). AreOf t (g ++ x ∷ []) u.hart new) (sym given.1) (named_more t g u.hart number o new are given.0 same given.2 next),
)

-- a turn with a number
pub says_number : (t : List Event) (g : List ℕ) (u : Turn) (number : ℕ) → u.number ≡ Some number → (a : ℕ) → IsOperation t u.hart number a → Names u t g a
says_number t g u number e a is = record {
  operation = is.operation;
  hart = sym is.hart;
  number = subst (λ (o : Option ℕ). HasNumber o t g a) (sym e) (sym is.number ∙ ap (λ h. operations_of h (take a t)) (sym is.hart));
}

pub only_number : (t : List Event) (g : List ℕ) (u : Turn) (number : ℕ) → u.number ≡ Some number → (a : ℕ) → Names u t g a → operations_of u.hart (take a t) ≡ number
only_number t g u number e a n =
    ap (λ h. operations_of h (take a t)) n.hart ∙ sym (subst (λ (o : Option ℕ). HasNumber o t g a) e n.number)

-- ---- a turn without one

-- all before a number are named, and the operation of this number isn't
pub record IsLeft (o : Operations) (number : ℕ) : Type 0 where
  pub passed : (k : ℕ) → k < number → k < length o.indexes.items → get_or o.named.items k false ≡ true
  pub left : number < length o.indexes.items → get_or o.named.items number false ≡ false

pub says_first : (t : List Event) (g : List ℕ) (u : Turn) (number : ℕ) (o : Operations) → u.number ≡ None → AreOf t g u.hart o → IsLeft o number →
    (a : ℕ) → number < length o.indexes.items → IsOperation t u.hart number a → Names u t g a
says_first t g u number o none are is_left a l is = record {
  operation = is.operation;
  hart = sym is.hart;
  number = subst (λ (x : Option ℕ). HasNumber x t g a) (sym none) (record { left = unnamed; first = earlier });
}
  where
    at : slice_index o.indexes.items number ≡ a
    at = same_index u.hart number (slice_index o.indexes.items number) a t (are.each number l) is

    unnamed : Contains g a → ⊥
    unnamed c = no (sym (is_left.left l) ∙ (are.is_named number l).1 (subst (Contains g) (sym at) c))
      where
        no : false ≡ true → ⊥
        no e = cc

    earlier : (b : ℕ) → b < a → (event t b).hart ≡ (event t a).hart → is_operation (event t b) ≡ true → Contains g b
    earlier b before same op =
        let of_hart : (event t b).hart ≡ u.hart = same ∙ is.hart in
        let there = listed t g u.hart b o are op of_hart in
        let less = rise u.hart t b a of_hart op before in
        subst (Contains g) there.1 ((are.is_named (operations_of u.hart (take b t)) there.0).0
        (is_left.passed (operations_of u.hart (take b t)) (omega (arith, less, is.number)) there.0))

pub only_first : (t : List Event) (g : List ℕ) (u : Turn) (number : ℕ) (o : Operations) → u.number ≡ None → AreOf t g u.hart o → IsLeft o number →
    (a : ℕ) → Names u t g a → operations_of u.hart (take a t) ≡ number
only_first t g u number o none are is_left a n = elim (cases_lt (operations_of u.hart (take a t)) number) [
  | inl less ↦
      absurd (first.left (subst (Contains g) there.1 ((are.is_named (operations_of u.hart (take a t)) there.0).0 (is_left.passed (operations_of u.hart (take a t)) less there.0))))
  | inr at_least ↦ elim (cases_eq (operations_of u.hart (take a t)) number) [
    | inl e ↦ e
    | inr ne ↦ absurd (later (omega (arith, at_least, ne)))
  ]
]
  where
    first : IsFirstLeft t g a
    first = subst (λ (x : Option ℕ). HasNumber x t g a) none n.number

    there : (operations_of u.hart (take a t) < length o.indexes.items) × (slice_index o.indexes.items (operations_of u.hart (take a t)) ≡ a)
    there = listed t g u.hart a o are n.operation (sym n.hart)

    later : number < operations_of u.hart (take a t) → ⊥
    later more =
        let l : number < length o.indexes.items = omega (arith, more, there.0) in
        let b : ℕ = slice_index o.indexes.items number in
        let is = are.each number l in
        no (sym (is_left.left l) ∙ (are.is_named number l).1 (elim (cases_lt b a) [
          | inl before ↦ first.first b before (is.hart ∙ n.hart) is.operation
          | inr after ↦ absurd (elim (cases_eq a b) [
            | inl e ↦ (let s = ap (λ x. operations_of u.hart (take x t)) e in omega (arith, s, more, is.number))
            | inr ne ↦ (let s = rise u.hart t a b (sym n.hart) n.operation (omega (arith, after, ne)) in omega (arith, s, more, is.number))
          ])
        ]))
      where
        no : false ≡ true → ⊥
        no e = cc

-- what `first_left` leaves of a hart's operations
pub left_of : (t : List Event) (g : List ℕ) (h number : ℕ) (old new : Operations) → AreOf t g h old → new.indexes.items ≡ old.indexes.items → new.named.items ≡ old.named.items →
    ((k : ℕ) → old.next ≤ k → k < number → get_or old.named.items k false ≡ true) → (number < length old.named.items → get_or old.named.items number false ≡ false) →
    ((new.next ≡ old.next) ⊎ (new.next ≡ number)) → AreOf t g h new × IsLeft new number
left_of t g h number old new are same_indexes same_named passed left next = (
  record {
    count = ap (λ (xs : List ℕ). length xs) same_indexes ∙ are.count;
    each = subst (λ (xs : List ℕ). (k : ℕ) → k < length xs → IsOperation t h k (slice_index xs k)) (sym same_indexes) are.each;
    along = ap (λ (xs : List Bool). length xs) same_named ∙ are.along ∙ sym (ap (λ (xs : List ℕ). length xs) same_indexes);
    is_named =
        subst (λ (xs : List ℕ). (k : ℕ) → k < length xs → get_or new.named.items k false ≡ true ↔ Contains g (slice_index xs k)) (sym same_indexes)
        (subst (λ (bs : List Bool). (k : ℕ) → k < length old.indexes.items → get_or bs k false ≡ true ↔ Contains g (slice_index old.indexes.items k)) (sym same_named) are.is_named);
    passed = λ k l m. elim next [
      | inl same ↦ all k (omega (arith, l, same)) (count_is k m)
      | inr here ↦ before k (omega (arith, l, here)) (count_is k m)
    ];
  },
  record {
    passed = λ k l m. before k l (count_is k m);
    left = λ l. ap (λ (bs : List Bool). get_or bs number false) same_named ∙ left (let c = count_is number l in omega (arith, c, are.along));
  },
)
  where
    count_is : (k : ℕ) → k < length new.indexes.items → k < length old.indexes.items
    count_is k m = let e = ap (λ (xs : List ℕ). length xs) same_indexes in omega (arith, e, m)

    all : (k : ℕ) → k < old.next → k < length old.indexes.items → get_or new.named.items k false ≡ true
    all k l m = ap (λ (bs : List Bool). get_or bs k false) same_named ∙ are.passed k l m

    before : (k : ℕ) → k < number → k < length old.indexes.items → get_or new.named.items k false ≡ true
    before k l m = elim (cases_lt k old.next) [
      | inl less ↦ all k less m
      | inr more ↦ ap (λ (bs : List Bool). get_or bs k false) same_named ∙ passed k more l
    ]

-- ---- all harts

pub sorted_more : (t : List Event) (g : List ℕ) (h a : ℕ) (all : List Operations) (new : Operations) → h < 256 → (event t a).hart ≡ h → AreSorted t g all → AreOf t (g ++ a ∷ []) h new →
    AreSorted t (g ++ a ∷ []) (slice_set all h new)
sorted_more t g h a all new few same are of_this = record {
  harts = length-set all h new ∙ are.harts;
  each = λ k l d. elim (cases_eq k h) [
    | inl e ↦
        subst (λ (n : ℕ). AreOf t (g ++ a ∷ []) n (get_or (slice_set all h new) n d)) (sym e)
        (subst (AreOf t (g ++ a ∷ []) h) (sym (get_or-set_same all h new d (omega (arith, few, are.harts)))) of_this)
    | inr ne ↦
        subst (AreOf t (g ++ a ∷ []) k) (sym (get_or-set_other all h k new d ne)) (other_named t g k a (get_or all k d) (λ s. ne (sym s ∙ same)) (are.each k l d))
  ];
}

pub sorted_or_none : (t : List Event) (g : List ℕ) (u : Turn) (h : ℕ) (all : List Operations) (new : Operations) (r : Option ℕ) → h ≡ u.hart → u.hart < 256 → AreSorted t g all →
    MatchOption r ((a : ℕ) → Names u t g a → ⊥) (λ a. Names u t g a × AreOf t (g ++ a ∷ []) u.hart new) →
    MatchOption r ((a : ℕ) → Names u t g a → ⊥) (λ a. Names u t g a × AreSorted t (g ++ a ∷ []) (slice_set all h new))
sorted_or_none t g u h all new None e few s m = m
sorted_or_none t g u h all new (Some a) e few s m = (
  m.0,
  subst (λ (k : ℕ). AreSorted t (g ++ a ∷ []) (slice_set all k new)) (sym e) (sorted_more t g u.hart a all new few (sym m.0.hart) s m.1),
)

-- one more event: the operations of each hart, where it is one
pub sorted_first : (t : List Event) (i h : ℕ) (all : List Operations) (new : Operations) → i < length t → h < 256 → length all ≡ 256 → (event t i).hart ≡ h → is_operation (event t i) ≡ true →
    ((k : ℕ) → k < 256 → (d : Operations) → AreFirst t i k (get_or all k d)) → IsAdded i (get_or all h new) new →
    (k : ℕ) → k < 256 → (d : Operations) → AreFirst t (i + 1) k (get_or (slice_set all h new) k d)
sorted_first t i h all new l few harts same op are added k k_few d = elim (cases_eq k h) [
  | inl e ↦
      subst (λ (n : ℕ). AreFirst t (i + 1) n (get_or (slice_set all h new) n d)) (sym e)
      (subst (AreFirst t (i + 1) h) (sym (get_or-set_same all h new d (omega (arith, few, harts)))) (one_more_first t i h (get_or all h new) new l same op (are h few new) added))
  | inr ne ↦
      subst (AreFirst t (i + 1) k) (sym (get_or-set_other all h k new d ne)) (not_more_first t i k (get_or all k d) l (λ s. ne (sym s ∙ same)) (are k k_few d))
]
