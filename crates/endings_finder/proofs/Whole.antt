-- A table that has all endings, where each of them is among those that are told.
use Rattle.std.proofs.Common.{◌≡◌, ℕ, List, map, Contains, refl, subst}
use Rattle.all_checker.specs.Tables.{IsFoundOf}
use Rattle.all_checker.specs.declared.finding.Found.TheVariants.{All}
use Rattle.ending_judge.specs.JudgedEndings.{ending_in, ranges_of}
use Rattle.elf_loader.specs.Image.{Loaded, memory_of}
use Rattle.endings_finder.specs.AllEndings.{HasAll}
use Rattle.endings_table.specs.declared.found_ending.FoundEnding.{FoundEnding}
use Rattle.guest_rounds.specs.Guests.{opening_guest}
use Rattle.guest_rounds.specs.Opening.{opening_harts}
use Rattle.hart_ends.specs.declared.ends.TableEnding.{TableEnding}
use Rattle.hart_ends.specs.Told.{table_told}
use Rattle.hunt_table.specs.declared.seen_range.SeenRange.{SeenRange}
use Rattle.serial_phase.specs.Opening.{opening_console}
use Rattle.std.specs.Global.{Vec}
use Rattle.pages.specs.declared.access.Range.{Range}
use Rattle.pages.specs.Memory.{Memory}
use Rattle.hart_step.specs.declared.hart.Hart.{Hart}
use Rattle.hart_step.specs.Console.{ConsoleState}
use Rattle.all_endings.specs.Endings.{AllEndingsWithin, Ending, ending_of}
use Rattle.execution.specs.Progressing.{at_start}

-- a table with more has all endings as well
pub all_on : (k : ℕ) (image : Memory) (hs : List Hart) (c : ConsoleState) (see : List Range) (t u : List Ending) → ((e : Ending) → Contains t e → Contains u e) →
    AllEndingsWithin k image hs c see t → AllEndingsWithin k image hs c see u
all_on k image hs c see t u more all = λ q g e a ended short. more (ending_of image (at_start hs c) q e see g) (all q g e a ended short)

-- the same of what was found of equal memory, harts and ranges
pub all_at : (k : ℕ) (image memory : Memory) (hs starts : List Hart) (c : ConsoleState) (see ranges : List Range) (t : List Ending) → memory ≡ image → starts ≡ hs → ranges ≡ see →
    AllEndingsWithin k memory starts c ranges t → AllEndingsWithin k image hs c see t
all_at k image memory hs starts c see ranges t m s r all =
    subst (λ (i : Memory). AllEndingsWithin k i hs c see t) m
    (subst (λ (ss : List Hart). AllEndingsWithin k memory ss c see t) s
    (subst (λ (rs : List Range). AllEndingsWithin k memory starts c rs t) r all))

-- what the checker found of a guest as it is opened, where each of its endings is told
pub found_whole : (k : ℕ) (image : Loaded) (input : List ℕ) (n : ℕ) (ranges : List SeenRange) (memory : Memory) (starts : List Hart) (see : List Range) (table : Vec TableEnding)
    (es : List FoundEnding) → memory ≡ memory_of image → starts ≡ opening_harts image.entry n 0 n → see ≡ ranges_of ranges →
    IsFoundOf k memory starts see (All table) → ((e : Ending) → Contains (table_told table.items) e → Contains (map ending_in es) e) →
    HasAll (opening_guest image input n) ranges k es
found_whole k image input n ranges memory starts see table es same harts seen found more =
    all_on k (memory_of image) (opening_harts image.entry n 0 n) (opening_console input) (ranges_of ranges) (table_told table.items) (map ending_in es) more
    (all_at k (memory_of image) memory (opening_harts image.entry n 0 n) starts (opening_console input) (ranges_of ranges) see (table_told table.items) same harts seen (found (opening_console input) refl))
