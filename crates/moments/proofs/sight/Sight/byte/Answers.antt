use Rattle.std.proofs.Common.{◌<◌, ◌^◌, ap, arith}
use Rattle.moments.proofs.Loaded.{seen_fit, seen_past, seen_size, seen_there}
use Rattle.moments.proofs.sight.Sight.byte.Goals as goal

pub returns-then-offset-address-clause-past : goal.returns-then-offset-address-clause-past
returns-then-offset-address-clause-past c =
    let size = seen_size c.self.inside.pages.memory c.self.inside.own _ (ap (λ s. s.bytes) c.self.view_is) in
    omega (arith, size)

pub overflow_cast-byte : goal.overflow_cast-byte
overflow_cast-byte c =
    let small : c.in-Ok.number < 2 ^ 8 = seen_fit c.self.inside.pages.memory c.self.inside.own _ _ c.bytes_fit.ensures c.in-Ok.ensures in
    omega (arith, small)

pub returns-in-Ok-clause-within : goal.returns-in-Ok-clause-within
returns-in-Ok-clause-within c = (seen_there c.self.inside.pages.memory c.self.inside.own _ _ _ (ap (λ s. s.bytes) c.self.view_is) c.in-Ok.ensures).within

pub returns-in-Ok-clause-byte : goal.returns-in-Ok-clause-byte
returns-in-Ok-clause-byte c = (seen_there c.self.inside.pages.memory c.self.inside.own _ _ _ (ap (λ s. s.bytes) c.self.view_is) c.in-Ok.ensures).byte

pub returns-in-Err-clause-past : goal.returns-in-Err-clause-past
returns-in-Err-clause-past c = seen_past c.self.inside.pages.memory c.self.inside.own _ _ _ (ap (λ s. s.bytes) c.self.view_is) c.in-Err.ensures
