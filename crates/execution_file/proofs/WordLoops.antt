-- Reading a word byte by byte, and a list part by part, as loops do.
use Rattle.std.proofs.Common.{◌≡◌, ℕ, zero, suc, ◌-◌, ◌+◌, ◌≤◌, ◌<◌, Bool, true, false, eqb, List, [], ◌∷◌, ◌++◌, length, get_or, drop, map, Result, Ok, Err, refl, sym, ap, ◌∙◌, arith}
use Rattle.std.proofs.lemmas.Bool.{eq-eqb, ne_eqb}
use Rattle.std.proofs.lemmas.List.{append-nil, map-append, nil_from_length}
use Rattle.std.proofs.Math.Seq.{drop-cons}
use Rattle.execution_file.specs.declared.cause.Cause.{Cause}
use Rattle.execution_file.specs.declared.cause.Cause.TheVariants.{Cut, Malformed}
use Rattle.execution_file.specs.declared.cause.Refusal.{Refusal}
use Rattle.execution_file.specs.declared.cause.ReadError.{ReadError}
use Rattle.execution_file.specs.declared.cause.ReadError.TheVariants as errors
use Rattle.execution_file.specs.Formats.{Format, ◌>>=◌, refused, taken_word, taken_list}
use Rattle.execution_file.specs.Views.{Fails}
use Rattle.execution_file.proofs.Loops.{with_front, regroup}

-- ---- words

next_of : (ws : List ℕ) (i : ℕ) → i < length ws → drop i ws ≡ get_or ws i 0 ∷ drop (i + 1) ws
next_of ws i low = let e : suc i ≡ i + 1 = omega arith in drop-cons ws i 0 low ∙ ap (λ (n : ℕ). get_or ws i 0 ∷ drop n ws) e

pub word_cut : (short wrong : Cause) (ws : List ℕ) (i : ℕ) (bs : List ℕ) (total : Result (List ℕ) Refusal) → i < length ws → length bs ≡ 0 → taken_word short wrong (drop i ws) bs ≡ total → total ≡ refused short bs
word_cut short wrong ws i bs total low none so_far =
    let one : taken_word short wrong (drop i ws) bs ≡ refused short bs = rw (next_of ws i low, nil_from_length bs none) refl in
    sym so_far ∙ one

-- ---- lists

pub list_goes : {X A : Type 0} (f : Format A) (contents : X → A) (items : List X) (count k b : ℕ) (bs behind : List ℕ) (x : X) (after : List ℕ) (total : Result (List A × List ℕ) Refusal) → k < count → bs ≡ b ∷ behind → b ≡ 32 → f.taken behind ≡ Ok (contents x, after)
    → with_front (map contents items) (taken_list (count - k) f bs) ≡ total → with_front (map contents (items ++ x ∷ [])) (taken_list (count - (k + 1)) f after) ≡ total
unfolding taken_list
list_goes f contents items count k b bs behind x after total lt parts blank h so_far =
    let e : count - k ≡ suc (count - (k + 1)) = omega arith in
    let one : with_front (map contents items) (taken_list (count - k) f bs) ≡ with_front (map contents items ++ contents x ∷ []) (taken_list (count - (k + 1)) f after) = rw (e, parts, eq-eqb b 32 blank, h) (regroup (map contents items) (contents x) (taken_list (count - (k + 1)) f after)) in
    rw (map-append contents items (x ∷ [])) (sym one ∙ so_far)

pub list_fails : {A : Type 0} (f : Format A) (e : ReadError) (front : List A) (count k b : ℕ) (bs behind : List ℕ) (total : Result (List A × List ℕ) Refusal) → k < count → bs ≡ b ∷ behind → b ≡ 32 → Fails e (f.taken behind)
    → with_front front (taken_list (count - k) f bs) ≡ total → Fails e total
unfolding taken_list
list_fails f errors.OutOfMemory front count k b bs behind total lt parts blank h so_far = tt
list_fails f (errors.Refused c) front count k b bs behind total lt parts blank h so_far =
    let e : count - k ≡ suc (count - (k + 1)) = omega arith in
    let one : with_front front (taken_list (count - k) f bs) ≡ Err c = rw (e, parts, eq-eqb b 32 blank, h) refl in
    sym so_far ∙ one

pub list_ends : {A : Type 0} (f : Format A) (front : List A) (count k b : ℕ) (bs behind : List ℕ) (total : Result (List A × List ℕ) Refusal) → k < count → bs ≡ b ∷ behind → b ≡ 10
    → with_front front (taken_list (count - k) f bs) ≡ total → total ≡ Ok (front, behind)
unfolding taken_list
list_ends {A} f front count k b bs behind total lt parts line so_far =
    let e : count - k ≡ suc (count - (k + 1)) = omega arith in
    let one : with_front front (taken_list (count - k) f bs) ≡ Ok (front, behind) = rw (e, parts, line) (ap (λ (ns : List A). Ok (ns, behind)) (append-nil front)) in
    sym so_far ∙ one

pub list_breaks : {A : Type 0} (f : Format A) (front : List A) (count k b : ℕ) (bs behind : List ℕ) (total : Result (List A × List ℕ) Refusal) → k < count → bs ≡ b ∷ behind → (b ≡ 32 → ⊥) → (b ≡ 10 → ⊥)
    → with_front front (taken_list (count - k) f bs) ≡ total → total ≡ refused Malformed bs
unfolding taken_list
list_breaks f front count k b bs behind total lt parts blank line so_far =
    let e : count - k ≡ suc (count - (k + 1)) = omega arith in
    let one : with_front front (taken_list (count - k) f bs) ≡ refused Malformed bs = rw (e, parts, ne_eqb b 32 blank, ne_eqb b 10 line) refl in
    sym so_far ∙ one

pub list_cut : {A : Type 0} (f : Format A) (front : List A) (count k : ℕ) (bs : List ℕ) (total : Result (List A × List ℕ) Refusal) → k < count → length bs ≡ 0
    → with_front front (taken_list (count - k) f bs) ≡ total → total ≡ refused Cut bs
unfolding taken_list
list_cut f front count k bs total lt none so_far =
    let e : count - k ≡ suc (count - (k + 1)) = omega arith in
    let one : with_front front (taken_list (count - k) f bs) ≡ refused Cut bs = rw (e, nil_from_length bs none) refl in
    sym so_far ∙ one

pub list_spent : {A : Type 0} (f : Format A) (front : List A) (count k : ℕ) (bs : List ℕ) (total : Result (List A × List ℕ) Refusal) → count ≤ k
    → with_front front (taken_list (count - k) f bs) ≡ total → total ≡ refused Cut bs
unfolding taken_list
list_spent f front count k bs total le so_far =
    let e : count - k ≡ 0 = omega arith in
    let one : with_front front (taken_list (count - k) f bs) ≡ refused Cut bs = rw e refl in
    sym so_far ∙ one

same : {A : Type 0} (r : Result (List A × List ℕ) Refusal) → with_front [] r ≡ r
same (Ok x) = refl
same (Err e) = refl

pub list_starts : {A : Type 0} (f : Format A) (count : ℕ) (bs : List ℕ) → with_front [] (taken_list (count - 0) f bs) ≡ taken_list count f bs
list_starts {A} f count bs = let e : count - 0 ≡ count = omega arith in rw e (same (taken_list count f bs))
