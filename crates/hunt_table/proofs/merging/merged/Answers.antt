use Rattle.std.proofs.Common.{◌≡◌, ℕ, ◌+◌, ◌^◌, ◌<◌, List, [], ◌∷◌, ◌++◌, false, get_or, inr, length, sym, ◌∙◌, ap, subst, arith, rules, take}
use Rattle.std.specs.Prelude.{IsTrue}
use Rattle.std.specs.Global.{Vec}
use Rattle.std.proofs.lemmas.List.{take_all}
use Rattle.std.proofs.lemmas.Grind.{common_steps}
use Rattle.std.proofs.lemmas.Result.{err_from_is_err_and}
use Rattle.hunt_table.specs.Merging.{Adjoins, AreTexts, IsNoTable, harts_of}
use Rattle.hunt_table.specs.declared.merge_error.MergeError.TheVariants.{Apart, NotATable, OtherProgram}
use Rattle.hunt_table.specs.declared.read_error.ReadError.TheVariants as reading
use Rattle.hunt_table.specs.Refusals.{refusal_of}
use Rattle.hunt_table.proofs.Slices.{apart_from, first_apart, first_text, is_read, next_table, next_text, no_table, no_texts, one_table, other_from, same_refusal, tell_slices, texts_of}
use Rattle.hunt_table.proofs.merging.merged.Goals as goal

pub returns-then-not-are_few-clause-apart : goal.returns-then-not-are_few-clause-apart
returns-then-not-are_few-clause-apart c = λ _.
    let many : c.in_ok-whole.whole.header.first + c.in_ok-whole.whole.header.count < 2 ^ 32 → ⊥ = λ few. let no : IsTrue false = c.if-not-are_few.ensures.1 few in cc in
    let texts = c.args.texts.now in
    let t = c.in_ok-whole.whole in
    let some : 0 < length texts = omega (arith, c.in-len1-up.len_at_least) in
    let read = first_text texts c.first-item.result t some c.first-item.is (is_read c.first-item.result c.deref.result.now c.read_table.result t c.deref.ensures.value c.in_ok-whole.was c.in_ok-whole.ensures.found c.read_table.ensures.only) in
    inr (record {
      before = 0;
      among = some;
      slices = no_texts;
      tables = t ∷ [];
      are_texts = texts_of (take 1 texts) (t ∷ []) read;
      apart = first_apart (take 1 texts) t read many;
    })

pub loop-text-init : goal.loop-text-init
loop-text-init c =
    let texts = c.args.texts.now in
    let t = c.in_ok-whole.whole in
    let few : t.header.first + t.header.count < 2 ^ 32 = search rules in
    let some : 0 < length texts = omega (arith, c.in-len1-up.len_at_least) in (
      t,
      [],
      first_text texts c.first-item.result t some c.first-item.is (is_read c.first-item.result c.deref.result.now c.read_table.result t c.deref.ensures.value c.in_ok-whole.was c.in_ok-whole.ensures.found c.read_table.ensures.only),
      one_table t few,
      c.harts_of-harts.ensures ∙ ap harts_of c.deref-2.ensures.value,
    )

pub returns-in_err-append-clause-apart : goal.returns-in_err-append-clause-apart
returns-in_err-append-clause-apart c = λ e.
    let texts = c.args.texts.now in
    let index = c.loop-text.text-index + 1 in
    let at : c.text-item.result ≡ get_or texts index c.text-item.result = grind (arith, common_steps, c.text-item.is) in
    let among : index < length texts = omega (arith, c.loop-text-test.true) in
    let p = err_from_is_err_and c.from_residual-in_err-append.result c.from_residual-in_err-append.ensures.1 in
    let same : c.in_err-append.field-0.0 ≡ Apart = cc (p.1, p.2) in
    let not : Adjoins c.harts_of-harts.result c.loop-text.whole c.in_ok-read_table.field-0 → ⊥ = c.in_err-append.ensures.apart (cc same) in
    let first = c.loop-text.invariant.0 in
    let tables = c.loop-text.invariant.1 in
    let t = c.in_ok-read_table.field-0 in
    let read = next_text texts index c.text-item.result (first ∷ tables) t among at c.loop-text.invariant.2 (is_read c.text-item.result c.deref-in-loop-text.result.now c.read_table-in-loop-text.result t c.deref-in-loop-text.ensures.value c.in_ok-read_table.was c.in_ok-read_table.ensures.found c.read_table-in-loop-text.ensures.only) in
    inr (record {
      before = index;
      among = among;
      slices = tell_slices (take index texts) (first ∷ tables) c.loop-text.invariant.2 c.loop-text.invariant.3.slices;
      tables = (first ∷ tables) ++ t ∷ [];
      are_texts = texts_of (take (index + 1) texts) ((first ∷ tables) ++ t ∷ []) read;
      apart = apart_from (take (index + 1) texts) first tables c.loop-text.whole t read c.loop-text.invariant.3 (subst (λ (h : ℕ). Adjoins h c.loop-text.whole t → ⊥) c.loop-text.invariant.4 not);
    })

pub returns-in_err-append-clause-other : goal.returns-in_err-append-clause-other
returns-in_err-append-clause-other c = λ e.
    let texts = c.args.texts.now in
    let index = c.loop-text.text-index + 1 in
    let at : c.text-item.result ≡ get_or texts index c.text-item.result = grind (arith, common_steps, c.text-item.is) in
    let among : index < length texts = omega (arith, c.loop-text-test.true) in
    let p = err_from_is_err_and c.from_residual-in_err-append.result c.from_residual-in_err-append.ensures.1 in
    let same : c.in_err-append.field-0.0 ≡ OtherProgram = cc (p.1, p.2) in
    let not = c.in_err-append.ensures.other (cc same) in
    let first = c.loop-text.invariant.0 in
    let tables = c.loop-text.invariant.1 in
    let t = c.in_ok-read_table.field-0 in
    let read = next_text texts index c.text-item.result (first ∷ tables) t among at c.loop-text.invariant.2 (is_read c.text-item.result c.deref-in-loop-text.result.now c.read_table-in-loop-text.result t c.deref-in-loop-text.ensures.value c.in_ok-read_table.was c.in_ok-read_table.ensures.found c.read_table-in-loop-text.ensures.only) in
    record {
      before = index;
      among = among;
      slices = tell_slices (take index texts) (first ∷ tables) c.loop-text.invariant.2 c.loop-text.invariant.3.slices;
      tables = (first ∷ tables) ++ t ∷ [];
      are_texts = texts_of (take (index + 1) texts) ((first ∷ tables) ++ t ∷ []) read;
      other = other_from (take (index + 1) texts) first tables c.loop-text.whole t read c.loop-text.invariant.3 (λ same. not same);
    }

pub loop-text-preserved : goal.loop-text-preserved
loop-text-preserved c =
    let texts = c.args.texts.now in
    let index = c.loop-text.text-index + 1 in
    let first = c.loop-text.invariant.0 in
    let tables = c.loop-text.invariant.1 in
    let t = c.in_ok-read_table.field-0 in
    let at : c.text-item.result ≡ get_or texts index c.text-item.result = grind (arith, common_steps, c.text-item.is) in (
      first,
      tables ++ t ∷ [],
      next_text texts index c.text-item.result (first ∷ tables) t (omega (arith, c.loop-text-test.true)) at c.loop-text.invariant.2 (is_read c.text-item.result c.deref-in-loop-text.result.now c.read_table-in-loop-text.result t c.deref-in-loop-text.ensures.value c.in_ok-read_table.was c.in_ok-read_table.ensures.found c.read_table-in-loop-text.ensures.only),
      next_table first tables c.loop-text.whole t c.append.new.whole c.loop-text.invariant.3 (subst (λ (h : ℕ). Adjoins h c.loop-text.whole t) c.loop-text.invariant.4 c.in_ok-append.ensures.ok.0) c.in_ok-append.ensures.ok.1,
      c.loop-text.invariant.4,
    )

pub returns-in_err-whole-clause-not_a_table : goal.returns-in_err-whole-clause-not_a_table
returns-in_err-whole-clause-not_a_table c = λ e.
    let p = err_from_is_err_and c.from_residual.result c.from_residual.ensures.1 in
    let refused : refusal_of c.in_err-whole.field-0.0 ≡ NotATable = cc (p.1, p.2) in
    let same : c.in_err-whole.field-0.0 ≡ reading.NotATable = same_refusal c.in_err-whole.field-0.0 refused in record {
      before = 0;
      among = omega (arith, c.in-len1-up.len_at_least);
      slices = no_texts;
      text = c.first-item.result;
      is_next = sym c.first-item.is;
      no_table = subst IsNoTable c.deref.ensures.value (no_table c.deref.result.now c.read_table.result (cc (c.in_err-whole.was, same)) c.read_table.ensures.only);
    }

pub returns-in_err-read_table-clause-not_a_table : goal.returns-in_err-read_table-clause-not_a_table
returns-in_err-read_table-clause-not_a_table c = λ e.
    let p = err_from_is_err_and c.from_residual-in_err-read_table.result c.from_residual-in_err-read_table.ensures.1 in
    let refused : refusal_of c.in_err-read_table.field-0.0 ≡ NotATable = cc (p.1, p.2) in
    let same : c.in_err-read_table.field-0.0 ≡ reading.NotATable = same_refusal c.in_err-read_table.field-0.0 refused in
    let texts = c.args.texts.now in
    let index = c.loop-text.text-index + 1 in
    let at : c.text-item.result ≡ get_or texts index c.text-item.result = grind (arith, common_steps, c.text-item.is) in record {
      before = index;
      among = omega (arith, c.loop-text-test.true);
      slices = tell_slices (take index texts) (c.loop-text.invariant.0 ∷ c.loop-text.invariant.1) c.loop-text.invariant.2 c.loop-text.invariant.3.slices;
      text = c.text-item.result;
      is_next = sym at;
      no_table = subst IsNoTable c.deref-in-loop-text.ensures.value (no_table c.deref-in-loop-text.result.now c.read_table-in-loop-text.result (cc (c.in_err-read_table.was, same)) c.read_table-in-loop-text.ensures.only);
    }

pub returns-clause-merged : goal.returns-clause-merged
returns-clause-merged c =
    let texts = c.args.texts.now in
    let count = c.loop-text.text-index + 1 in
    let first = c.loop-text.invariant.0 in
    let tables = c.loop-text.invariant.1 in
    let all : take count texts ≡ texts = take_all count texts (omega (arith, c.loop-text-test.false)) in
    (first, tables, subst (λ (v : List (Vec ℕ)). AreTexts v (first ∷ tables)) all (texts_of (take count texts) (first ∷ tables) c.loop-text.invariant.2), c.loop-text.invariant.3)
