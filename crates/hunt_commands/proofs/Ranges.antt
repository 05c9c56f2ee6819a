-- The ranges of a hunt's settings, where nothing is wrong with the bytes that the line names.
use Rattle.std.proofs.Common.{◌≡◌, ◌++◌, ◌∷◌, ◌-◌, [], ℕ, Bool, List, None, Option, Some, ap, arith, drop, false, if◌then◌else◌, is_some, length, map, refl, suc, sym, take, true, ◌∙◌}
use Rattle.std.proofs.lemmas.Bool.{or_from, or_parts}
use Rattle.std.proofs.lemmas.Bool.Decides.{nat_tests}
use Rattle.std.proofs.lemmas.List.{length-append, take-append-drop}
use Rattle.std.proofs.lemmas.List.Folds.{list_any-append}
use Rattle.std.proofs.Math.Seq.{drop-append_seam, take-append_seam}
use Rattle.std.specs.List.{list_any}
use Rattle.command_line.specs.declared.settings.Bytes.{Bytes}
use Rattle.command_line.specs.declared.settings.Search.{Search}
use Rattle.elf_loader.specs.declared.object.Object.{Object}
use Rattle.hunt_commands.specs.Settings.{HasRanges, IsNamed, names_of}
use Rattle.hunter.specs.Hunts.{has_bad_range, is_bad_range}
use Rattle.hunter.specs.declared.settings.HuntSettings.{HuntSettings}
use Rattle.hunt_table.specs.Names.{name_of}
use Rattle.program_files.specs.Naming.{IsFaultOf, by_address, by_name, first_missing, is_outside, named_in, names_outside, objects_in, one_object, seen_range, seen_ranges, with_object}

-- what a fault that isn't there says
no_fault : (b : Bool) (image : List ℕ) (m : Option (List ℕ)) → IsFaultOf b image m None → (b ≡ false) × (m ≡ None)
no_fault true image m h = cc
no_fault false image None h = (refl, refl)
no_fault false image (Some n) h = absurd h

-- there are as many objects as names
as_many : (image : List ℕ) (names : List (List ℕ)) → first_missing image names ≡ None → length (objects_in image names) ≡ length names
as_many image [] h = refl
as_many image (n ∷ ns) h = by_object (one_object image n) h (λ e. as_many image ns e)
  where
    by_object : (o : Option Object) → (if is_some o then first_missing image ns else Some n) ≡ None →
        (first_missing image ns ≡ None → length (objects_in image ns) ≡ length ns) → length (with_object o (objects_in image ns)) ≡ length (n ∷ ns)
    by_object None e rest = cc
    by_object (Some o) e rest = ap (λ k. suc k) (rest e)

parted : (seen os : List Bytes) (names : List (List ℕ)) → length os ≡ length names → seen_ranges (seen ++ os) names ≡ map by_address seen ++ by_name os names
parted seen os names e =
    let k : length (seen ++ os) - length names ≡ length seen = omega (arith, length-append seen os, e) in
    ap (λ (n : ℕ). map by_address (take n (seen ++ os)) ++ by_name (drop n (seen ++ os)) names) k
    ∙ ap (λ (bs : List Bytes). map by_address bs ++ by_name (drop (length seen) (seen ++ os)) names) (take-append_seam seen os)
    ∙ ap (λ (bs : List Bytes). map by_address seen ++ by_name bs names) (drop-append_seam seen os)

-- the settings have the ranges of the line
pub ranges_so : (search : Search) (image : List ℕ) (bytes : List Bytes) (s : HuntSettings) → bytes ≡ named_in image search.seen.items (names_of search) →
    IsNamed search image None → s.header.ranges.items ≡ seen_ranges bytes (names_of search) → HasRanges search image s
ranges_so search image bytes s named sound ranges =
    let parts = no_fault (names_outside image search.program.pages search.seen.items (names_of search)) image (first_missing image (names_of search)) sound in
    record {
      sound = sound;
      ranges = ranges ∙ ap (λ (bs : List Bytes). seen_ranges bs (names_of search)) named
          ∙ parted search.seen.items (objects_in image (names_of search)) (names_of search) (as_many image (names_of search) parts.1);
    }

not_bad : (p : ℕ) (b : Bytes) (n : Option (List ℕ)) → is_outside p b ≡ false → is_bad_range p (seen_range b n) ≡ false
not_bad p b n h = grind (arith, nat_tests)

none_by_address : (p : ℕ) (bs : List Bytes) → list_any (is_outside p) bs ≡ false → list_any (is_bad_range p) (map by_address bs) ≡ false
none_by_address p [] h = refl
none_by_address p (b ∷ bs) h =
    let both = or_parts (is_outside p b) (list_any (is_outside p) bs) h in
    or_from (is_bad_range p (by_address b)) (list_any (is_bad_range p) (map by_address bs)) (not_bad p b None both.0) (none_by_address p bs both.1)

none_by_name : (p : ℕ) (bs : List Bytes) (names : List (List ℕ)) → list_any (is_outside p) bs ≡ false → list_any (is_bad_range p) (by_name bs names) ≡ false
none_by_name p [] names h = refl
none_by_name p (b ∷ bs) [] h = refl
none_by_name p (b ∷ bs) (n ∷ ns) h =
    let both = or_parts (is_outside p b) (list_any (is_outside p) bs) h in
    or_from (is_bad_range p (seen_range b (name_of n))) (list_any (is_bad_range p) (by_name bs ns)) (not_bad p b (name_of n) both.0) (none_by_name p bs ns both.1)

none_seen : (p : ℕ) (named : List Bytes) (names : List (List ℕ)) → list_any (is_outside p) named ≡ false → list_any (is_bad_range p) (seen_ranges named names) ≡ false
none_seen p named names h =
    let k : ℕ = length named - length names in
    let parts = or_parts (list_any (is_outside p) (take k named)) (list_any (is_outside p) (drop k named))
    (sym (list_any-append (is_outside p) (take k named) (drop k named)) ∙ ap (list_any (is_outside p)) (take-append-drop k named) ∙ h) in
    list_any-append (is_bad_range p) (map by_address (take k named)) (by_name (drop k named) names)
    ∙ or_from (list_any (is_bad_range p) (map by_address (take k named))) (list_any (is_bad_range p) (by_name (drop k named) names))
    (none_by_address p (take k named) parts.0) (none_by_name p (drop k named) names parts.1)

-- and none of these is bad
pub none_bad : (search : Search) (image : List ℕ) (bytes : List Bytes) (s : HuntSettings) → s.pages ≡ search.program.pages → bytes ≡ named_in image search.seen.items (names_of search) →
    IsNamed search image None → s.header.ranges.items ≡ seen_ranges bytes (names_of search) → has_bad_range s ≡ false
none_bad search image bytes s pages named sound ranges =
    let parts = no_fault (names_outside image search.program.pages search.seen.items (names_of search)) image (first_missing image (names_of search)) sound in
    ap (list_any (is_bad_range s.pages)) ranges
    ∙ none_seen s.pages bytes (names_of search)
    (ap (λ (p : ℕ). list_any (is_outside p) bytes) pages ∙ ap (list_any (is_outside search.program.pages)) named ∙ parts.0)
