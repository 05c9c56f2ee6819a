-- A text that is printed piece by piece.
use Rattle.std.proofs.Common.{◌≡◌, ◌∙◌, ◌++◌, ◌+◌, ◌<◌, [], ℕ, Err, List, Result, append-nil, append_assoc, ap, arith, length, length-append, subst, sym, take}
use Rattle.std.proofs.Math.Seq.{take-append-add}
use Rattle.std.proofs.lemmas.List.{take-append-le}
use Rattle.std.proofs.lemmas.Result.{IfErr-weaker, on_err_weaker, on_ok_weaker}
use Rattle.host_io.specs.Taken.{BeganText}
use Rattle.host_io.specs.declared.error.RunError.{RunError}
use Rattle.past_commands.specs.Watched.{Prints}
use Rattle.program_files.specs.Failures.{IsCutOff}

-- ---- beginnings

pub began_nothing : (old text : List ℕ) → BeganText old old text
began_nothing old text = record { count = 0; within = omega arith; bytes = sym (append-nil old) }

-- a beginning of the first part is one of the whole
pub began_first : (old new a b : List ℕ) → BeganText old new a → BeganText old new (a ++ b)
began_first old new a b h = record {
  count = h.count;
  within = omega (arith, length-append a b, h.within);
  bytes = h.bytes ∙ ap (λ (t : List ℕ). old ++ t) (sym (take-append-le h.count a b h.within));
}

-- the first part and a beginning of the second are one
pub began_second : (old mid new a b : List ℕ) → mid ≡ old ++ a → BeganText mid new b → BeganText old new (a ++ b)
began_second old mid new a b e h = record {
  count = length a + h.count;
  within = omega (arith, length-append a b, h.within);
  bytes = h.bytes ∙ ap (λ (m : List ℕ). m ++ take h.count b) e ∙ append_assoc old a (take h.count b)
      ∙ ap (λ (t : List ℕ). old ++ t) (sym (take-append-add a b h.count));
}

-- ---- failures

-- what cut a call off cuts off the whole, where the output hadn't failed before
pub since_before : (failed failed_mid failed_then : ℕ) (e : RunError) → failed_mid ≡ failed → IsCutOff (failed_mid < failed_then) e → IsCutOff (failed < failed_then) e
since_before failed failed_mid failed_then e same h = subst (λ (n : ℕ). IsCutOff (n < failed_then) e) same h

-- ---- calls

-- a call that failed printed so much
pub failed_so : {X : Type 0} (text old : List ℕ) (failed : ℕ) (new : List ℕ) (failed_then : ℕ) (r : Result X RunError) (e : RunError) → r ≡ Err e →
    BeganText old new text → IsCutOff (failed < failed_then) e → Prints text old failed r new failed_then
failed_so {X} text old failed new failed_then r e is begun cause =
    subst (λ (x : Result X RunError). Prints text old failed x new failed_then) (sym is) (record { done = tt; counts = tt; begun = begun; errors = cause })

-- what a call that failed printed, and why
pub begun_by : {X : Type 0} (text old : List ℕ) (failed : ℕ) (new : List ℕ) (failed_then : ℕ) (e : RunError) → Prints {X = X} text old failed (Err e) new failed_then → BeganText old new text
begun_by text old failed new failed_then e p = p.begun

-- the second part comes behind the first
pub prints_second : {X : Type 0} (a b old mid new : List ℕ) (failed failed_mid failed_then : ℕ) (r : Result X RunError) → mid ≡ old ++ a → failed_mid ≡ failed →
    Prints b mid failed_mid r new failed_then → Prints (a ++ b) old failed r new failed_then
prints_second a b old mid new failed failed_mid failed_then r e same p = record {
  done = on_ok_weaker r (λ h. h ∙ ap (λ (m : List ℕ). m ++ b) e ∙ append_assoc old a b) p.done;
  counts = on_ok_weaker r (λ h. h ∙ same) p.counts;
  begun = on_err_weaker r (λ h. began_second old mid new a b e h) p.begun;
  errors = IfErr-weaker r _ _ (λ d h. since_before failed failed_mid failed_then d same h) p.errors;
}

-- ---- a loop

-- of the whole text this is left, and the rest is out; the output hasn't failed
pub record Halfway (old new all left : List ℕ) (failed failed_then : ℕ) : Type 0 where
  pub front : List ℕ
  pub took : new ≡ old ++ front
  pub both : front ++ left ≡ all
  pub counts : failed_then ≡ failed

pub halfway_next : (old mid new all left line rest : List ℕ) (failed failed_mid failed_then : ℕ) → Halfway old mid all left failed failed_mid → left ≡ line ++ rest →
    new ≡ mid ++ line → failed_then ≡ failed_mid → Halfway old new all rest failed failed_then
halfway_next old mid new all left line rest failed failed_mid failed_then h e n same = record {
  front = h.front ++ line;
  took = n ∙ ap (λ (m : List ℕ). m ++ line) h.took ∙ append_assoc old h.front line;
  both = append_assoc h.front line rest ∙ ap (λ (t : List ℕ). h.front ++ t) (sym e) ∙ h.both;
  counts = same ∙ h.counts;
}

pub halfway_stops : (old mid new all left line rest : List ℕ) (failed failed_mid : ℕ) → Halfway old mid all left failed failed_mid → left ≡ line ++ rest →
    BeganText mid new line → BeganText old new all
halfway_stops old mid new all left line rest failed failed_mid h e b =
    subst (λ (t : List ℕ). BeganText old new t) (ap (λ (t : List ℕ). h.front ++ t) (sym e) ∙ h.both)
    (began_second old mid new h.front (line ++ rest) h.took (began_first mid new line rest b))
