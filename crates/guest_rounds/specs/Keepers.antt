-- What a keeper of events says of any events.
use Rattle.std.specs.Prelude.{◌≡◌, true, false}

-- who takes accesses says nothing of those who take none
pub never : {P : Type 0} → true ≡ false → P
never e = absurd (cc)
