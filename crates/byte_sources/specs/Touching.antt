-- Whether an access touches bytes.
use Rattle.std.specs.Prelude.{◌&&◌, ◌||◌, Bool, nat_lt}
use Rattle.pages.specs.declared.access.Range.{Range}
use Rattle.pages.specs.Memory.{in_range}
use Rattle.round_schedule.specs.declared.access.Access.{Access}
use Rattle.round_schedule.specs.Accesses.{address_of, bytes_of}

-- whether some byte is one of the range's and one of the access's: one of the two has the first byte of the other
abbrev pub touches : Access → Range → Bool
touches a r = (in_range r.start r.len (address_of a) && nat_lt 0 (bytes_of a)) || (in_range (address_of a) (bytes_of a) r.start && nat_lt 0 r.len)
