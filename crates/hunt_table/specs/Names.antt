-- The names of ranges.
use Rattle.std.specs.Prelude.{ℕ, ◌&&◌, nat_le, if◌then◌else◌, Bool, List, [], ◌∷◌, Option, Some, None}
use Rattle.std.specs.List.{list_all}

-- a character of ASCII that can be printed, and no blank
abbrev pub is_name_byte : ℕ → Bool
is_name_byte b = nat_le 33 b && nat_le b 126

-- bytes as a name, if they are one: some such characters
abbrev pub name_of : List ℕ → Option (List ℕ)
name_of [] = None
name_of (b ∷ bs) = if list_all is_name_byte (b ∷ bs) then Some (b ∷ bs) else None
