use Rattle.std.proofs.Common.{◌≡◌, ◌∙◌, ap, arith, length, refl, vec_len}
use Rattle.pages.specs.Flat.{blank}
use Rattle.pages.proofs.Page.{length-blank}
use Rattle.pages.proofs.spare.Spare.zeroed.Goals as goal

pub returns-clause-bytes : goal.returns-clause-bytes
unfolding blank
returns-clause-bytes c =
    let none : vec_len c.self.inside.room ≡ 0 = omega (arith, c.self.inside.room.ok.0, ap length c.self.invariant.0) in
    rw (c.in-Ok.ensures.items, c.self.invariant.0, none) refl

pub returns-clause-length : goal.returns-clause-length
returns-clause-length c = ap length (returns-clause-bytes c) ∙ length-blank
