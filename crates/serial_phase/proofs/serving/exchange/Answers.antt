use Rattle.std.proofs.Common.{◌≡◌, Result, Ok, is_ok, ap, ◌∙◌}
use Rattle.serial_phase.proofs.ServedWords.{left_exchanged, loaded_too}
use Rattle.serial_phase.proofs.serving.exchange.Goals as goal

same_ok : {T E : Type 0} (r : Result T E) (a b : T) → r ≡ Ok a → r ≡ Ok b → a ≡ b
same_ok r a b e f = cc

pub unwrap-old-requires : goal.unwrap-old-requires
unwrap-old-requires c = ap is_ok (c.read.ensures.value ∙ loaded_too c.args.state.now.pages.memory c.args.target.address c.width_of-width.result c.in_default.ensures)

pub returns : goal.returns
returns c =
    let l = left_exchanged c.args.hart c.args.target c.args.operation c.args.operand c.width_of-width.result c.args.h.now c.go_on.new.self c.args.state.now c.put.new.state
    c.unwrap-old.result c.amo_value-written.result c.sign_extended.result c.width_of-width.ensures c.in_default.ensures
    (same_ok _ _ _ c.unwrap-old.ensures (c.read.ensures.value ∙ loaded_too c.args.state.now.pages.memory c.args.target.address c.width_of-width.result c.in_default.ensures))
    c.amo_value-written.ensures c.sign_extended.ensures c.go_on.ensures c.put.ensures in
    record { answer = l.0; leaves = l.1 }
