-- A walk over a hart's part to the instructions of events.
use Rattle.std.proofs.Common.{◌≡◌, ℕ, zero, suc, ◌+◌, ◌-◌, ◌<◌, ◌≤◌, true, false, IfSome, List, [], ◌∷◌, ◌++◌, length, drop, take, map, get_or, Option, Some, None, is_some, refl, sym, ◌∙◌, ap, subst, arith, add-one, append_assoc, zero-add}
use Rattle.std.proofs.lemmas.List.{get_or_default}
use Rattle.std.proofs.lemmas.List.Elements.{All-get_or}
use Rattle.pages.specs.declared.access.Range.{Range}
use Rattle.pages.specs.Memory.{Memory, stored}
use Rattle.rv64_decode.specs.declared.instruction.Instr.{Instr}
use Rattle.round_schedule.specs.declared.access.Access.{Access}
use Rattle.round_schedule.specs.declared.access.Stepped.{Stepped}
use Rattle.round_schedule.specs.declared.access.Stepped.TheVariants.{Done, Waits, Stopped}
use Rattle.round_schedule.specs.declared.event.Event.{Event}
use Rattle.round_schedule.specs.Accesses.{place_of}
use Rattle.hart_step.specs.declared.hart.Hart.{Hart}
use Rattle.hart_step.specs.DecodedCode.{Shows}
use Rattle.hart_step.specs.Step.{stepped}
use Rattle.hart_step.specs.Words.{words_of}
use Rattle.hart_step.proofs.Shown.{shows_step}
use Rattle.moments.specs.Sights.{part_by, part_sights}
use Rattle.moments.specs.Hits.{harts_of}
use Rattle.moments.specs.Pcs.{ComeInOrder, GoesOn, pc_after, pc_in}
use Rattle.moments.specs.Bytes.{sight_of}
use Rattle.moments.proofs.HitsFound.{rest, rest_by, rest_none, rest_stopped, some_rest}
use Rattle.moments.proofs.Walked.{suc_left}

-- ---- lists

drop_none : {A : Type 0} (k : ℕ) → drop {A = A} k [] ≡ []
drop_none zero = refl
drop_none (suc k) = refl

drop_suc : {A : Type 0} (k : ℕ) (xs ys : List A) (x : A) → drop k xs ≡ x ∷ ys → drop (suc k) xs ≡ ys
drop_suc zero [] ys x e = absurd cc
drop_suc (suc k) [] ys x e = absurd cc
drop_suc zero (z ∷ zs) ys x e = cc
drop_suc (suc k) (z ∷ zs) ys x e = drop_suc k zs ys x e

pub drop_both : {A : Type 0} (n k : ℕ) (xs : List A) → drop (n + k) xs ≡ drop k (drop n xs)
drop_both zero k xs = ap (λ (j : ℕ). drop j xs) (zero-add k)
drop_both {A} (suc n) k [] = drop_none {A = A} (suc n + k) ∙ sym (drop_none {A = A} k)
drop_both (suc n) k (x ∷ xs) = let s : suc n + k ≡ suc (n + k) = omega arith in rw s (drop_both n k xs)

pub pc_after_drop : (k c : ℕ) (hs : List Hart) → pc_after hs (k + c) ≡ pc_after (drop k hs) c
pc_after_drop zero c hs = ap (pc_after hs) (zero-add c)
pc_after_drop (suc k) c [] = refl
pc_after_drop (suc k) c (h ∷ []) = let none : drop {A = Hart} k [] ≡ [] = drop_none {A = Hart} k in rw none refl
pc_after_drop (suc k) c (h ∷ g ∷ hs) = let s : suc k + c ≡ suc (k + c) = omega arith in rw s (pc_after_drop k c (g ∷ hs))

first_pc : (h : Hart) (hs : List Hart) → 1 ≤ length hs → pc_after (h ∷ hs) 0 ≡ Some h.pc
first_pc h [] le = absurd (omega (arith, le))
first_pc h (g ∷ gs) le = refl

-- ---- instruction by instruction

pub starts : (quota first : ℕ) (words : List Instr) (h : Hart) (m : Memory) → Shows m first words → GoesOn quota 0 first words h m h m
starts quota first words h m shows =
    let all : quota - 0 ≡ quota = omega arith in
    record { code = refl; within = omega arith; shows = shows; rest = ap (λ (n : ℕ). rest m.code n h m) (sym all) }

module _ (quota k first : ℕ) (words : List Instr) (h₀ : Hart) (m₀ : Memory) (h : Hart) (m : Memory) (on : GoesOn quota k first words h₀ m₀ h m) where
  abbrev all : List Hart
  all = rest m₀.code quota h₀ m₀

  abbrev left : List Hart
  left = rest m₀.code (quota - k) h m

  ended : (g : Hart) (count : ℕ) → k ≤ count → left ≡ g ∷ [] → None ≡ pc_after all count
  ended g count le e =
      let sum : k + (count - k) ≡ count = omega (arith, le) in
      sym (ap (pc_after all) (sym sum) ∙ pc_after_drop k (count - k) all ∙ ap (λ (hs : List Hart). pc_after hs (count - k)) (on.rest ∙ e))

  pub at_end : (count : ℕ) → k ≤ count → quota ≤ k → None ≡ pc_after all count
  at_end count le over =
      let z : quota - k ≡ 0 = omega (arith, over) in
      ended h count le (ap (λ (n : ℕ). rest m₀.code n h m) z ∙ rest_none m₀.code h m)

  pub is_stopped : (count : ℕ) → k ≤ count → is_some h.stop ≡ true → None ≡ pc_after all count
  is_stopped count le hs = ended h count le (rest_stopped m₀.code (quota - k) h m hs)

  here : (x : Stepped) → k < quota → h.stop ≡ None → (stepped h m).answer ≡ x →
      left ≡ harts_of (part_by x (sight_of h m) (stepped h m) (part_sights (words_of m₀.code) (quota - (k + 1))))
  here x lt hs ha = ap (λ (n : ℕ). rest m₀.code n h m) (suc_left quota k lt) ∙ rest_by m₀.code (quota - (k + 1)) h m x on.code hs ha

  pub waits : (count : ℕ) → k ≤ count → k < quota → h.stop ≡ None → (stepped h m).answer ≡ Waits → None ≡ pc_after all count
  waits count le lt hs ha = ended (stepped h m).hart count le (here Waits lt hs ha)

  pub stops : (code count : ℕ) → k ≤ count → k < quota → h.stop ≡ None → (stepped h m).answer ≡ Stopped code → None ≡ pc_after all count
  stops code count le lt hs ha = ended (stepped h m).hart count le (here (Stopped code) lt hs ha)

  module _ (x : Option Access) (m₁ : Memory) (h₁ : Hart) (lt : k < quota) (hs : h.stop ≡ None) (ha : (stepped h m).answer ≡ Done x) (he : h₁ ≡ (stepped h m).hart) (me : m₁ ≡ stored m (stepped h m).stores) where
    next : left ≡ h ∷ rest m₀.code (quota - (k + 1)) h₁ m₁
    next =
        here (Done x) lt hs ha
        ∙ ap (λ (g : Hart). h ∷ rest m₀.code (quota - (k + 1)) g (stored m (stepped h m).stores)) (sym he)
        ∙ ap (λ (z : Memory). h ∷ rest m₀.code (quota - (k + 1)) h₁ z) (sym me)

    pub goes_on : GoesOn quota (k + 1) first words h₀ m₀ h₁ m₁
    goes_on = record {
      code = ap (λ (z : Memory). z.code) me ∙ on.code;
      within = omega (arith, lt);
      shows = shows_step m m₁ h first words me on.shows;
      rest = ap (λ (n : ℕ). drop n all) (add-one k) ∙ drop_suc k all (rest m₀.code (quota - (k + 1)) h₁ m₁) h (on.rest ∙ next);
    }

    pub found : (count : ℕ) → k ≡ count → Some h.pc ≡ pc_after all count
    found count e =
        let sum : k + 0 ≡ count = omega (arith, e) in
        sym (ap (pc_after all) (sym sum) ∙ pc_after_drop k 0 all ∙ ap (λ (hs : List Hart). pc_after hs 0) (on.rest ∙ next)
        ∙ first_pc h (rest m₀.code (quota - (k + 1)) h₁ m₁) (some_rest m₀.code (quota - (k + 1)) h₁ m₁))

  -- ---- part by part

  same_code : (n : ℕ) → rest m.code n h m ≡ rest m₀.code n h m
  same_code n = ap (λ (c : List Range). rest c n h m) on.code

  pub pc_further : (c count : ℕ) (pc : Option ℕ) → k + c ≡ count → pc ≡ pc_after (rest m.code (quota - k) h m) c → pc ≡ pc_after all count
  pc_further c count pc sum e =
      e
      ∙ ap (λ (hs : List Hart). pc_after hs c) (same_code (quota - k) ∙ sym on.rest)
      ∙ sym (pc_after_drop k c all)
      ∙ ap (pc_after all) sum

  pub goes_further : (n sum : ℕ) (h₁ : Hart) (m₁ : Memory) → k + n ≡ sum → GoesOn (quota - k) n first words h m h₁ m₁ → GoesOn quota sum first words h₀ m₀ h₁ m₁
  goes_further n sum h₁ m₁ e more =
      let less : quota - k - n ≡ quota - sum = omega (arith, e) in
      record {
        code = more.code ∙ on.code;
        within = omega (arith, e, on.within, more.within);
        shows = more.shows;
        rest =
            ap (λ (j : ℕ). drop j all) (sym e)
            ∙ drop_both k n all
            ∙ ap (drop n) (on.rest ∙ sym (same_code (quota - k)))
            ∙ more.rest
            ∙ ap (λ (c : List Range). rest c (quota - k - n) h₁ m₁) on.code
            ∙ ap (λ (j : ℕ). rest m₀.code j h₁ m₁) less;
      }

-- ---- event by event

snoc : {X A : Type 0} (f : X → A) (xs : List X) (i : ℕ) (d : X) → i < length xs → map f (take i xs) ++ f (get_or xs i d) ∷ [] ≡ map f (take (i + 1) xs)
snoc f [] i d lt = absurd (omega (arith, lt))
snoc f (z ∷ zs) zero d lt = refl
snoc f (z ∷ zs) (suc i) d lt = let n : suc i + 1 ≡ suc (i + 1) = omega arith in rw n (ap (λ ys. f z ∷ ys) (snoc f zs i d (omega (arith, lt))))

-- one more of a list
pub one_more : {X A : Type 0} (f : X → A) (xs : List X) (i : ℕ) (d : X) (a : A) (front old new : List A) → i < length xs → old ≡ front ++ map f (take i xs) → new ≡ old ++ a ∷ [] → a ≡ f (get_or xs i d) →
    new ≡ front ++ map f (take (i + 1) xs)
one_more f xs i d a front old new lt o n e =
    n
    ∙ ap (λ z. z ++ a ∷ []) o
    ∙ append_assoc front (map f (take i xs)) (a ∷ [])
    ∙ ap (λ z. front ++ (map f (take i xs) ++ z ∷ [])) e
    ∙ ap (λ z. front ++ z) (snoc f xs i d lt)

pub with_its_pc : (quota k first : ℕ) (words : List Instr) (h₀ : Hart) (m₀ : Memory) (h : Hart) (m : Memory) → GoesOn quota k first words h₀ m₀ h m → (events : List Event) (i : ℕ) (d : Event) (count : ℕ) (pc : Option ℕ) (front old new : List (Option ℕ)) →
    i < length events → k ≤ count → count ≡ place_of (get_or events i d).access - h₀.done → pc ≡ pc_after (rest m.code (quota - k) h m) (count - k) →
    old ≡ front ++ map (pc_in h₀.done (rest m₀.code quota h₀ m₀)) (take i events) → new ≡ old ++ pc ∷ [] → new ≡ front ++ map (pc_in h₀.done (rest m₀.code quota h₀ m₀)) (take (i + 1) events)
with_its_pc quota k first words h₀ m₀ h m on events i d count pc front old new lt le indexes is so_far added =
    let there : pc ≡ pc_after (rest m₀.code quota h₀ m₀) count = pc_further quota k first words h₀ m₀ h m on (count - k) count pc (omega (arith, le)) is in
    one_more (pc_in h₀.done (rest m₀.code quota h₀ m₀)) events i d pc front old new lt so_far added (there ∙ ap (pc_after (rest m₀.code quota h₀ m₀)) indexes)

pub its_count : (count index place2 before : ℕ) → count ≡ index - before → index ≡ place2 → count ≡ place2 - before
its_count count index place2 before e same = e ∙ ap (λ (p : ℕ). p - before) same

pub where_some : (pc : Option ℕ) (P : Type 0) → is_some pc ≡ true → IfSome pc (λ _. P) → P
where_some None P e p = absurd cc
where_some (Some x) P e p = p

-- ---- where the events come in order

-- so many instructions are done where so many events were gone through
abbrev pub IsBehind : ℕ → List Event → ℕ → ℕ → Type 0
IsBehind before es zero done = done ≡ 0
IsBehind before es (suc k) done = (d : Event) → done ≡ place_of (get_or es k d).access - before + 1

pub behind_none : (before : ℕ) (es : List Event) (number done : ℕ) → IsBehind before es number done → number ≡ 0 → done ≡ 0
behind_none before es zero done b e = b
behind_none before es (suc k) done b e = absurd (omega (arith, e))

pub is_behind : (before : ℕ) (es : List Event) (k done count : ℕ) (d : Event) → k < length es → count ≡ place_of (get_or es k d).access - before → done ≡ count + 1 → IsBehind before es (k + 1) done
is_behind before es k done count d lt is one =
    let here : (e : Event) → done ≡ place_of (get_or es k e).access - before + 1 =
    λ e. one ∙ ap (λ (c : ℕ). c + 1) (is ∙ ap (λ (x : Event). place_of x.access - before) (get_or_default es k d e lt)) in
    subst (λ (n : ℕ). IsBehind before es n done) (sym (add-one k)) here

-- none comes before what is done
pub none_before : (before : ℕ) (part : List Hart) (es : List Event) (number done count n : ℕ) (d : Event) → IsBehind before es number done → number < length es → count ≡ place_of (get_or es number d).access - before → count < done →
    ComeInOrder before part es → n ≡ length es
none_before before part es zero done count n d b lt is less o = absurd (omega (arith, b, less))
none_before before part es (suc k) done count n d b lt is less o = absurd (omega (arith, b d, o.later k d lt, is, less))

-- each has a pc
pub none_missing : (before : ℕ) (part : List Hart) (es : List Event) (number n : ℕ) (d : Event) (pc : Option ℕ) → number < length es → pc ≡ pc_in before part (get_or es number d) → is_some pc ≡ false → ComeInOrder before part es → n ≡ length es
none_missing before part es number n d pc lt is none o =
    let there : is_some (pc_in before part (get_or es number d)) ≡ true = All-get_or (λ (e : Event). is_some (pc_in before part e) ≡ true) es number d lt o.there in
    absurd (cc (there, none, is))
