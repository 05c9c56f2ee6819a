-- The image of an ELF file.
use Rattle.std.specs.Prelude.{ℕ, ◌*◌, List, map}
use Rattle.std.specs.List.{range_with_len}
use Rattle.elf_loader.specs.Image.{Loaded}
use Rattle.elf_loader.specs.Segments.{code_of, entry_of, segments_byte, segments_of}

unfoldable pub elf_image : List ℕ → ℕ → Loaded
elf_image file pages = record {
  bytes = map (segments_byte file (segments_of file)) (range_with_len 0 (4096 * pages));
  code = code_of (segments_of file);
  entry = entry_of file;
  pages = pages;
}
