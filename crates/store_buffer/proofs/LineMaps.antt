-- Lines by their numbers, from the indices that are listed for them.
use Rattle.std.proofs.Common.{◌≡◌, ◌≢◌, ℕ, ◌-◌, ◌^◌, ◌<◌, ◌≤◌, List, [], ◌∷◌, length, All, refl, sym, ap, subst, ◌∙◌, arith, Bool, true, false, cond, if◌then◌else◌, ◌⊎◌, ⊎_elim, inl, inr, Option, Some, None, is_some, nat_cmp, get_or, Result, Ok, Err, IfOk, OnOk}
use Rattle.pages.specs.declared.out_of_memory.OutOfMemory.{OutOfMemory}
use Rattle.std.specs.Prelude.{option_map}
use Rattle.std.proofs.Math.ListN.{set}
use Rattle.std.proofs.lemmas.List.{get_or-set_other, get_or-set_same, length-set}
use Rattle.std.proofs.lemmas.Map.Views.{All-values-insert_entry}
use Rattle.std.proofs.lemmas.Bool.{cases_eq}
use Rattle.std.specs.BTreeMap.{BTreeMap, is_at}
use Rattle.std.specs.List.Sorted.{IsStrictlySortedBy}
use Rattle.std.specs.Map.{keys_of, values_of}
use Rattle.pages.specs.declared.access.Width.{Width}
use Rattle.pages.specs.Memory.{byte_of, in_range, width_bytes}
use Rattle.store_buffer.specs.declared.line.Line.{Line}
use Rattle.store_buffer.specs.declared.slots.Numbered.{Numbered}
use Rattle.store_buffer.specs.Held.{Held}
use Rattle.store_buffer.specs.LineMaps.{ArePlaced, HasAdded, HasTaken, IsLineMap, IsOpen, lines_in, listed_at}
use Rattle.store_buffer.specs.Lines.{line_at, line_of, index_of}
use Rattle.store_buffer.specs.Slots.{AreChained, before_in, blank, line_in, number_in}
use Rattle.store_buffer.proofs.LineChains.{chained_alike, some_is}
use Rattle.store_buffer.proofs.LineNumbers.{no_mask}
use Rattle.store_buffer.proofs.LineOrder.{is_at_other, is_at_same, rising_keys}

-- the line of a number is that at its index
pub line_listed : (ls : List Numbered) (es : List (ℕ × ℕ)) (q : ℕ) → line_of (lines_in ls es) q ≡ option_map (line_in ls) (listed_at es q)
line_listed ls [] q = refl
line_listed ls (e ∷ es) q = ap (λ o. cond (is_at (nat_cmp q) e.0) (Some (line_in ls e.1)) o) (line_listed ls es q) ∙ mapped (is_at (nat_cmp q) e.0)
  where
    mapped : (t : Bool) → cond t (Some (line_in ls e.1)) (option_map (line_in ls) (listed_at es q)) ≡ option_map (line_in ls) (cond t (Some e.1) (listed_at es q))
    mapped true = refl
    mapped false = refl

pub keys-lines_in : (ls : List Numbered) (es : List (ℕ × ℕ)) → keys_of (lines_in ls es) ≡ keys_of es
keys-lines_in ls [] = refl
keys-lines_in ls (e ∷ es) = ap (λ ks. e.0 ∷ ks) (keys-lines_in ls es)

pub held : (ls : List Numbered) (latest : List (Option ℕ)) (indices : BTreeMap ℕ ℕ) → IsLineMap ls latest indices → Held (lines_in ls indices.entries)
held ls latest indices m =
    let keys = keys-lines_in ls indices.entries in
    record {
      rising = rising_keys (lines_in ls indices.entries) (subst (λ (ks : List ℕ). IsStrictlySortedBy nat_cmp ks) (sym keys) m.ordered);
      near = subst (λ (ks : List ℕ). All (λ k. k < 2 ^ 58) ks) (sym keys) m.near;
    }

-- the line of one number is another, or a new one, and the others stand where they stood
pub record Changed (ls ms : List Numbered) (es fs : List (ℕ × ℕ)) (number index : ℕ) (l : Line) : Type 0 where
  pub listed : (q : ℕ) → listed_at fs q ≡ cond (is_at (nat_cmp number) q) (Some index) (listed_at es q)
  pub number_there : number_in ms index ≡ number
  pub line_there : line_in ms index ≡ l
  pub low : index < length ms
  pub kept : (p : ℕ) → p < length ls → p ≢ index → (number_in ms p ≡ number_in ls p) × (line_in ms p ≡ line_in ls p)
  pub older : (p : ℕ) → p < length ms → p ≢ index → p < length ls
  pub longer : length ls ≤ length ms
  pub before : (Some index ≡ listed_at es number) ⊎ ((None ≡ listed_at es number) × (index ≡ length ls))
  pub within : All (λ p. p < length ms) (values_of fs)

module _ (ls ms : List Numbered) (es fs : List (ℕ × ℕ)) (number index : ℕ) (l : Line) (a : ArePlaced ls es) (c : Changed ls ms es fs number index l) where
  -- a index of another number is another index
  apart : (n p : ℕ) → Some p ≡ listed_at es n → (number ≡ n → ⊥) → p ≡ index → ⊥
  apart n p e other same = elim c.before [
    | inl here ↦ other (sym (a.placed number index here).1 ∙ ap (number_in ls) (sym same) ∙ (a.placed n p e).1)
    | inr none ↦ (let below = (a.placed n p e).0 in let end = none.1 in omega arith)
  ]

  listed_same : (q : ℕ) → number ≡ q → listed_at fs q ≡ Some index
  listed_same q e = c.listed q ∙ ap (λ t. cond t (Some index) (listed_at es q)) (is_at_same number q e)

  listed_other : (q : ℕ) → (number ≡ q → ⊥) → listed_at fs q ≡ listed_at es q
  listed_other q n = c.listed q ∙ ap (λ t. cond t (Some index) (listed_at es q)) (is_at_other number q n)

  placed_same : (n p : ℕ) → Some p ≡ listed_at fs n → number ≡ n → (p < length ms) × (number_in ms p ≡ n)
  placed_same n p e same =
      let at : p ≡ index = some_is p index (e ∙ listed_same n same) in
      let low = c.low in
      (omega arith, ap (number_in ms) at ∙ c.number_there ∙ same)

  placed_other : (n p : ℕ) → Some p ≡ listed_at fs n → (number ≡ n → ⊥) → (p < length ms) × (number_in ms p ≡ n)
  placed_other n p e other =
      let found : Some p ≡ listed_at es n = e ∙ listed_other n other in
      let was = a.placed n p found in
      let below = was.0 in
      let longer = c.longer in
      (omega arith, (c.kept p was.0 (apart n p found other)).0 ∙ was.1)

  one_index : (p : ℕ) → Some p ≡ listed_at es number → p ≢ index → ⊥
  one_index p e n = elim c.before [
    | inl here ↦ n (some_is p index (e ∙ sym here))
    | inr none ↦ (let no : None ≡ Some p = none.0 ∙ sym e in cc no)
  ]

  listed_new : (p : ℕ) → p ≡ index → Some p ≡ listed_at fs (number_in ms p)
  listed_new p at = ap Some at ∙ sym (listed_same (number_in ms p) (sym (ap (number_in ms) at ∙ c.number_there)))

  listed_old : (p : ℕ) → p < length ms → p ≢ index → Some p ≡ listed_at fs (number_in ms p)
  listed_old p low n =
      let old = c.older p low n in
      let same : number_in ms p ≡ number_in ls p = (c.kept p old n).0 in
      let found = a.listed p old in
      let other : number ≡ number_in ls p → ⊥ = λ e. one_index p (found ∙ ap (listed_at es) (sym e)) n in
      found ∙ sym (listed_other (number_in ls p) other) ∙ ap (listed_at fs) (sym same)

  pub placed_on : ArePlaced ms fs
  placed_on = record {
    placed = λ n p e. ⊎_elim (λ (same : number ≡ n). placed_same n p e same) (λ (other : number ≡ n → ⊥). placed_other n p e other) (cases_eq number n);
    listed = λ p low. ⊎_elim (λ (at : p ≡ index). listed_new p at) (λ (n : p ≡ index → ⊥). listed_old p low n) (cases_eq p index);
    within = c.within;
  }

  same_line : (q : ℕ) (o : Option ℕ) → o ≡ listed_at es q → (number ≡ q → ⊥) → option_map (line_in ms) o ≡ option_map (line_in ls) o
  same_line q None e other = refl
  same_line q (Some p) e other = ap Some (c.kept p (a.placed q p e).0 (apart q p e other)).1

  line_on : (q : ℕ) → line_of (lines_in ms fs) q ≡ cond (is_at (nat_cmp number) q) (Some l) (line_of (lines_in ls es) q)
  line_on q = line_listed ms fs q ∙ ⊎_elim
      (λ (same : number ≡ q).
      ap (option_map (line_in ms)) (listed_same q same) ∙ ap Some c.line_there
      ∙ sym (ap (λ t. cond t (Some l) (line_of (lines_in ls es) q)) (is_at_same number q same)))
      (λ (other : number ≡ q → ⊥).
      ap (option_map (line_in ms)) (listed_other q other) ∙ same_line q (listed_at es q) refl other ∙ sym (line_listed ls es q)
      ∙ sym (ap (λ t. cond t (Some l) (line_of (lines_in ls es) q)) (is_at_other number q other)))
      (cases_eq number q)

  pub taken : (at : ℕ) (width : Width) (value : ℕ) → ((j : ℕ) → j < 64 → line_at l j ≡ (if in_range at (width_bytes width) j then Some (byte_of value (j - at)) else index_of (line_of (lines_in ls es) number) j)) →
      HasTaken number at width value (lines_in ls es) (lines_in ms fs)
  taken at width value here = record { line = l; others = line_on; here = here }

all_lower : (n m : ℕ) (xs : List ℕ) → n ≤ m → All (λ p. p < n) xs → All (λ p. p < m) xs
all_lower n m xs h a = λ k d low. let below = a k d low in omega arith

-- a line that is there is open
pub there : (ls : List Numbered) (es : List (ℕ × ℕ)) (number index : ℕ) → ArePlaced ls es → index < length ls → Some index ≡ listed_at es number → IsOpen number index ls ls es es
there ls es number index a low e = record {
  listed = λ q. ⊎_elim
      (λ (same : number ≡ q). ap (listed_at es) (sym same) ∙ sym e ∙ sym (ap (λ t. cond t (Some index) (listed_at es q)) (is_at_same number q same)))
      (λ (other : number ≡ q → ⊥). sym (ap (λ t. cond t (Some index) (listed_at es q)) (is_at_other number q other)))
      (cases_eq number q);
  low = low;
  number_there = (a.placed number index e).1;
  kept = λ p l n. (refl, refl);
  older = λ p l n. l;
  longer = omega arith;
  before = inl e;
  within = a.within;
  same = λ j. ap (λ o. index_of (option_map (line_in ls) o) j) e;
}

-- a line that was added is open
pub added : (ls ms : List Numbered) (es fs : List (ℕ × ℕ)) (number index : ℕ) → ArePlaced ls es → None ≡ listed_at es number → HasAdded number index ls ms es fs → IsOpen number index ls ms es fs
added ls ms es fs number index a none h =
    let last = h.last in
    let size = h.lines.count in
    let longer : length ls ≤ length ms = omega arith in
    let low : index < length ms = omega arith in
    record {
      listed = h.listed;
      low = low;
      number_there = ap (number_in ms) last ∙ h.lines.number_there;
      kept = λ p l n. h.lines.kept p l;
      older = λ p l n. omega arith;
      longer = longer;
      before = inr (none, last);
      within = subst (λ (es : List (ℕ × ℕ)). All (λ p. p < length ms) (values_of es)) (sym h.indices) (All-values-insert_entry nat_cmp number index (λ p. p < length ms) es (all_lower (length ls) (length ms) (values_of es) longer a.within) low);
      same = λ j. no_mask (line_in ms index) j (ap (λ p. (line_in ms p).mask) last ∙ h.lines.empty) ∙ ap (λ o. index_of (option_map (line_in ls) o) j) none;
    }

-- an open line is written
pub written : (ls ms : List Numbered) (es fs : List (ℕ × ℕ)) (number index : ℕ) (x : Numbered) → IsOpen number index ls ms es fs → x.number ≡ number → Changed ls (set ms index x) es fs number index x.line
written ls ms es fs number index x o e =
    let new : get_or (set ms index x) index blank ≡ x = get_or-set_same ms index x blank o.low in
    let old : (p : ℕ) → p ≢ index → get_or (set ms index x) p blank ≡ get_or ms p blank = λ p d. get_or-set_other ms index p x blank d in
    let size : length (set ms index x) ≡ length ms = length-set ms index x in
    let low = o.low in
    let longer = o.longer in
    record {
      listed = o.listed;
      number_there = ap (λ (y : Numbered). y.number) new ∙ e;
      line_there = ap (λ (y : Numbered). y.line) new;
      low = omega arith;
      kept = λ p h d. (ap (λ (y : Numbered). y.number) (old p d) ∙ (o.kept p h d).0, ap (λ (y : Numbered). y.line) (old p d) ∙ (o.kept p h d).1);
      older = λ p h d. o.older p (omega arith) d;
      longer = omega arith;
      before = o.before;
      within = all_lower (length ms) (length (set ms index x)) (values_of fs) (omega arith) o.within;
    }

-- a line that is written stays in its chain
pub still_chained : (ms : List Numbered) (latest : List (Option ℕ)) (index : ℕ) (x : Numbered) → index < length ms → x.number ≡ number_in ms index → x.before ≡ before_in ms index → AreChained (length ms) ms latest → AreChained (length (set ms index x)) (set ms index x) latest
still_chained ms latest index x low number link a =
    let new : get_or (set ms index x) index blank ≡ x = get_or-set_same ms index x blank low in
    let old : (p : ℕ) → p ≢ index → get_or (set ms index x) p blank ≡ get_or ms p blank = λ p d. get_or-set_other ms index p x blank d in
    subst (λ k. AreChained k (set ms index x) latest) (sym (length-set ms index x))
    (chained_alike (length ms) ms (set ms index x) latest
    (λ p h. ⊎_elim (λ (e : p ≡ index). ap (number_in (set ms index x)) e ∙ ap (λ (y : Numbered). y.number) new ∙ number ∙ ap (number_in ms) (sym e)) (λ (d : p ≡ index → ⊥). ap (λ (y : Numbered). y.number) (old p d)) (cases_eq p index))
    (λ p h. ⊎_elim (λ (e : p ≡ index). ap (before_in (set ms index x)) e ∙ ap (λ (y : Numbered). y.before) new ∙ link ∙ ap (before_in ms) (sym e)) (λ (d : p ≡ index → ⊥). ap (λ (y : Numbered). y.before) (old p d)) (cases_eq p index))
    a)

pub where_ok : {X : Type 0} (r : Result X OutOfMemory) (P Q : X → Type 0) → ((x : X) → P x → Q x) → IfOk r P → IfOk r Q
where_ok (Ok x) P Q f h = f x h
where_ok (Err e) P Q f h = tt

pub on_ok : {X : Type 0} (r : Result X OutOfMemory) (P Q : Type 0) → (P → Q) → OnOk r P → OnOk r Q
on_ok (Ok x) P Q f h = f h
on_ok (Err e) P Q f h = tt

-- a line that is there is listed
pub some_listed : (ls : List Numbered) (es : List (ℕ × ℕ)) (n : ℕ) → is_some (line_of (lines_in ls es) n) ≡ true → is_some (listed_at es n) ≡ true
some_listed ls es n h = back (listed_at es n) (sym (ap (λ o. is_some o) (line_listed ls es n)) ∙ h)
  where
    back : (o : Option ℕ) → is_some (option_map (line_in ls) o) ≡ true → is_some o ≡ true
    back None e = e
    back (Some p) e = refl

-- what is found by the number is what is listed for it
pub found_listed : (ls : List Numbered) (es : List (ℕ × ℕ)) (number index : ℕ) → ArePlaced ls es → index < length ls → number_in ls index ≡ number → Some index ≡ listed_at es number
found_listed ls es number index a low e = a.listed index low ∙ ap (listed_at es) e

-- a number that no line has isn't listed
pub none_listed : (ls : List Numbered) (es : List (ℕ × ℕ)) (number : ℕ) → ArePlaced ls es → ((p : ℕ) → p < length ls → number_in ls p ≡ number → ⊥) → None ≡ listed_at es number
none_listed ls es number a none = by (listed_at es number) refl
  where
    by : (o : Option ℕ) → o ≡ listed_at es number → None ≡ o
    by None e = refl
    by (Some p) e = let there = a.placed number p e in absurd (none p there.0 there.1)
