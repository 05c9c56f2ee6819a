use Rattle.std.proofs.Common.{◌∙◌, ap, sym, inl, inr, arith}
use Rattle.pages.proofs.CodeTests.{any_code_by_width, no_code_outside}
use Rattle.pages.specs.Memory.{width_bytes}
use Rattle.std.specs.List.{list_any}
use Rattle.pages.specs.Code.{has_some_address}
use Rattle.pages.proofs.code.touches_code.Goals as goal
use Rattle.pages.proofs.code.touches_code.Goals.{then-address-end-via-then-address-end, then-address-end-via-else-address-end+then-address-count}

pub returns-then-address-end : goal.returns-then-address-end
returns-then-address-end c =
    elim c.then-address-end.branch [
      | then-address-end-via-then-address-end w ↦ sym (no_code_outside (width_bytes c.args.width) c.args.code.now c.args.start c.args.end c.args.address c.requires.within (inr w.if-address-end.true))
      | then-address-end-via-else-address-end+then-address-count w ↦ sym (no_code_outside (width_bytes c.args.width) c.args.code.now c.args.start c.args.end c.args.address c.requires.within (inl (omega (arith, w.if-address-count.true, c.bytes-count.ensures))))
    ]

pub returns : goal.returns
returns c = c.any_code_at.ensures ∙ ap (λ n. list_any (has_some_address c.args.address n) c.args.code.now) c.bytes-count.ensures ∙ any_code_by_width c.args.width c.args.code.now c.args.address
