-- One store on pages of which one was made ready.
use Rattle.std.proofs.Common.{◌≡◌, ℕ, ◌+◌, ◌*◌, ◌/◌, ◌%◌, ◌<◌, List, ◌++◌, length, map, take, drop, get_or, set, refl, sym, ap, ◌∙◌, arith, Bool, true, false}
use Rattle.std.proofs.lemmas.List.{get_or-map, get_or-set_same, length-map, map-set, set-get_or, take_at}
use Rattle.pages.specs.declared.access.Range.{Range}
use Rattle.pages.specs.declared.access.Store.{Store}
use Rattle.pages.specs.Flat.{Page, absent, full, flat, in_page, is_ready}
use Rattle.pages.specs.Memory.{put, width_bytes}
use Rattle.pages.specs.Paged.{Paged, applied, spare_after}
use Rattle.pages.proofs.Accesses.{in_one_page}
use Rattle.pages.proofs.FlatPages.{flat-set}

-- a store within a page is one within all of them
pub flat-put : (ps : List Page) (q : Page) (s : Store) → s.address / 4096 < length ps → s.address % width_bytes s.width ≡ 0 → full q ≡ put (full (get_or ps (s.address / 4096) absent)) (in_page s) → flat (set ps (s.address / 4096) q) ≡ put (flat ps) s
unfolding put
flat-put ps q s l aligned e =
    let place : 4096 * (s.address / 4096) + s.address % 4096 ≡ s.address = omega arith in
    flat-set ps (s.address / 4096) (s.address % 4096) s.value (width_bytes s.width) q l (in_one_page s.address s.width aligned) e
    ∙ ap (λ a. put (flat ps) (record s { address = a })) place

pub ready-put : (ps : List Page) (q : Page) (i : ℕ) → i < length ps → is_ready (get_or ps i absent) ≡ true → is_ready q ≡ true → map is_ready (set ps i q) ≡ map is_ready ps
ready-put ps q i l r h =
    map-set is_ready ps i q ∙ ap (set (map is_ready ps) i) (h ∙ sym r ∙ sym (get_or-map is_ready ps i absent false l)) ∙ set-get_or (map is_ready ps) i false

pub applied_to : (ps qs : List Page) (n spares left : ℕ) (code : List Range) (s : Store) → length qs ≡ n → s.address / 4096 < length ps → flat qs ≡ put (flat ps) s → map is_ready qs ≡ set (map is_ready ps) (s.address / 4096) true → left ≡ spare_after (is_ready (get_or ps (s.address / 4096) absent)) spares → let r : Paged = record { memory = record { bytes = flat (take n (qs ++ drop (length qs) ps)); code = code }; ready = map is_ready (take n (qs ++ drop (length qs) ps)); spare = left } in r ≡ applied (record { memory = record { bytes = flat ps; code = code }; ready = map is_ready ps; spare = spares }) s
unfolding applied
applied_to ps qs n spares left code s size l bytes ready spare =
    let back : take n (qs ++ drop (length qs) ps) ≡ qs = take_at qs (drop (length qs) ps) n size in
    let left' : left ≡ spare_after (get_or (map is_ready ps) (s.address / 4096) false) spares = spare ∙ ap (λ b. spare_after b spares) (sym (get_or-map is_ready ps (s.address / 4096) absent false l)) in
    rw (back, bytes, ready, left') refl

pub made_ready : (ps qs : List Page) (i : ℕ) → i < length ps → i < length qs → map is_ready qs ≡ set (map is_ready ps) i true → is_ready (get_or qs i absent) ≡ true
made_ready ps qs i l m e =
    let inside : i < length (map is_ready ps) = omega (arith, length-map ps is_ready) in
    sym (get_or-map is_ready qs i absent false m) ∙ ap (λ (rs : List Bool). get_or rs i false) e ∙ get_or-set_same (map is_ready ps) i true false inside
