use Rattle.std.proofs.Common.{◌∙◌, ℕ, Vec, Global, ap, sym, arith}
use Rattle.std.proofs.lemmas.Bool.{false≢true}
use Rattle.endings_finder.proofs.Needs.{alike_at}
use Rattle.endings_finder.proofs.fences.has_other_bytes.Goals as goal

pub returns-then-not-same_bytes : goal.returns-then-not-same_bytes
returns-then-not-same_bytes c = λ yes same.
    let one = c.index-bytes-index in
    let other = c.index-others-index in
    let items = λ (v : Vec ℕ Global). v.items in
    let alike = alike_at items c.args.bytes.now c.args.others.now c.loop-index.index one.result other.result (omega arith) (omega arith) same in
    let left = c.deref.ensures.value ∙ ap items one.is in
    let right = c.deref-in-loop-index.ensures.value ∙ ap items other.is in
    false≢true (sym c.if-not-same_bytes.true ∙ c.same_bytes.ensures.1 (left ∙ (alike ∙ sym right)))
