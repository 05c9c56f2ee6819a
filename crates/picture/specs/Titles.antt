-- The title of a box, which a viewer shows where it is pointed at: the event, the pc of its instruction, and the object that it touched.
use Rattle.std.specs.Prelude.{ℕ, ◌==◌, ◌&&◌, if◌then◌else◌, nat_le, List, [], ◌∷◌, ◌++◌, codes, slice_index_or, take, Option, Some, None, option_map}
use Rattle.std.specs.Fmt.{decimal}
use Rattle.round_schedule.specs.declared.event.Event.{Event}
use Rattle.round_schedule.specs.Accesses.{place_of}
use Rattle.report_lines.specs.Text.{hex}
use Rattle.elf_loader.specs.Offsets.{NamedOffset, as_offset}
use Rattle.picture.specs.declared.site.Site.{Site}

-- what is known of an event beside the trace: the pc of its instruction, and the object that it touched: its name, and how far from its first byte
pub record Told : Type 0 where
  pub pc : Option ℕ
  pub object : Option NamedOffset

abbrev pub told : Site → Told
told s = record { pc = s.pc; object = option_map as_offset s.object }

-- a byte of a name as text of XML: a question mark where it is no printable character of ASCII
abbrev pub escape : ℕ → List ℕ
escape c =
    if c == 38 then codes "&amp;"
    else (if c == 60 then codes "&lt;"
    else (if c == 62 then codes "&gt;"
    else (if nat_le 32 c && nat_le c 126 then c ∷ [] else codes "?")))

abbrev pub escaped : List ℕ → List ℕ
escaped [] = []
escaped (c ∷ cs) = escape c ++ escaped cs

abbrev pub pc_text : Option ℕ → List ℕ
pc_text None = []
pc_text (Some pc) = codes " pc " ++ hex 16 pc

-- how far from the object's first byte
abbrev pub offset_text : ℕ → List ℕ
offset_text n = if n == 0 then [] else codes "+" ++ decimal n

-- the first 200 bytes of the object's name, and where in it
abbrev pub part_text : NamedOffset → List ℕ
part_text p = codes " " ++ escaped (take 200 p.name) ++ offset_text p.offset

abbrev pub object_text : Option NamedOffset → List ℕ
object_text None = []
object_text (Some p) = part_text p

unfoldable pub title_text : Event → Told → List ℕ
title_text e s =
    codes "<title>round " ++ decimal e.round ++ codes " hart " ++ decimal e.hart ++ codes " place " ++ decimal (place_of e.access)
    ++ pc_text s.pc ++ object_text s.object ++ codes "</title>\n"

-- what is known of the event of box k; nothing past the list
abbrev pub told_at : List Told → ℕ → Told
told_at ss k = slice_index_or ss k (record { pc = None; object = None })
