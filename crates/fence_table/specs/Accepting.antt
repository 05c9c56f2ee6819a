-- Which gaps a list accepts, and the number of a refusal.
use Rattle.std.specs.Prelude.{ℕ, zero, suc, ◌+◌, ◌==◌, ◌&&◌, ◌||◌, not, if◌then◌else◌, Bool, false, List, [], ◌∷◌, ◌++◌, length, take, drop, Option, Some, None, is_some, option_map}
use Rattle.std.specs.List.{list_any, prefix_len}
use Rattle.std.specs.Str.{bytes_eq}
use Rattle.report_lines.specs.Text.{hex}
use Rattle.hunt_table.specs.Names.{name_of}
use Rattle.fence_table.specs.declared.site.Site.{Site}
use Rattle.fence_table.specs.declared.site.SiteName.{SiteName}
use Rattle.fence_table.specs.declared.gap.NamedGap.{NamedGap}
use Rattle.fence_table.specs.declared.accept_error.AcceptError.{AcceptError}
use Rattle.fence_table.specs.declared.accept_error.AcceptError.TheVariants.{OutOfMemory, NotAGap}
use Rattle.fence_table.specs.Text.{site_name_text}

-- a word for each of the two instructions, the earlier one first
abbrev pub Words : Type 0
Words = List ℕ × List ℕ

-- ---- the list

-- some characters that can be printed, and no blank
abbrev pub is_word : List ℕ → Bool
is_word bs = is_some (name_of bs)

-- how many bytes stand before the first blank, and before the end of the line
abbrev pub to_blank : List ℕ → ℕ
to_blank bs = prefix_len (λ b. not (b == 32)) bs

abbrev pub to_end : List ℕ → ℕ
to_end bs = prefix_len (λ b. not (b == 10)) bs

-- the words of a line that has two, with one blank between them
abbrev pub words_at : ℕ → List ℕ → Option Words
words_at k line = if is_word (take k line) && is_word (drop (k + 1) line) then Some (take k line, drop (k + 1) line) else None

-- what a line says: nothing where it is empty or begins with `#`, and else a gap, if it has two words
abbrev pub said_in : List ℕ → Option (List Words)
said_in [] = Some []
said_in (b ∷ bs) = if b == 35 then Some [] else option_map (λ w. w ∷ []) (words_at (to_blank (b ∷ bs)) (b ∷ bs))

abbrev pub both : Option (List Words) → Option (List Words) → Option (List Words)
both None after = None
both (Some said) after = option_map (λ more. said ++ more) after

-- what n lines at most say, if each says something or nothing
abbrev pub lines_said : ℕ → List ℕ → Option (List Words)
lines_said zero text = Some []
lines_said (suc n) text = both (said_in (take (to_end text) text)) (lines_said n (drop (to_end text + 1) text))

-- the gaps of a list: there are no more lines than bytes
unfoldable pub accepted_in : List ℕ → Option (List Words)
accepted_in text = lines_said (length text) text

-- ---- gaps

-- the word is where the instruction stands in a function
abbrev pub is_name : List ℕ → Option SiteName → Bool
is_name word None = false
is_name word (Some n) = bytes_eq word (site_name_text n)

-- the word is the instruction's address, or where it stands in a function, as the table has them
abbrev pub names : List ℕ → Site → Bool
names word site = bytes_eq word (hex 16 site.pc) || is_name word site.name

-- the words are those of the gap
abbrev pub is_of : NamedGap → Words → Bool
is_of gap words = names words.0 gap.earlier && names words.1 gap.later

-- the gap is among them
abbrev pub has_gap : List Words → NamedGap → Bool
has_gap accepted gap = list_any (is_of gap) accepted

abbrev pub accept_number : AcceptError → ℕ
accept_number OutOfMemory = 20
accept_number (NotAGap line) = 76
