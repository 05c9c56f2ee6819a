-- What data and two digits tell.
use Rattle.std.proofs.Common.{◌≡◌, ℕ, ◌≤◌, ◌<◌, Bool, true, false, cond, List, length, refl, ◌∙◌}
use Rattle.std.specs.Prelude.{◌&&◌}
use Rattle.std.proofs.lemmas.Bool.{le-leb}
use Rattle.hex.specs.Hex.{hex_digit_value}
use Rattle.gdb_packets.specs.Payload.{most, payload_of}
use Rattle.gdb_packets.specs.Stream.{Told, is_sum_of, packet_or_spoilt, told_of}

not_both : (t : Bool) (x y : Told) → cond (t && false) x y ≡ y
not_both true x y = refl
not_both false x y = refl

pub is_right : (bs : List ℕ) (high low : ℕ) → length bs ≤ most → is_sum_of bs (hex_digit_value high) (hex_digit_value low) ≡ true → told_of bs high low ≡ packet_or_spoilt (payload_of bs)
is_right bs high low le e = rw (le-leb (length bs) most le, e) refl
