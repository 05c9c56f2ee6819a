use Rattle.std.proofs.Common.{◌≡◌, ◌∙◌, ℕ, List, map, ap, sym, arith, rules, length, refl}
use Rattle.std.specs.List.{range_with_len}
use Rattle.std.proofs.lemmas.List.{length-map}
use Rattle.std.proofs.lemmas.List.FromFn.{length-map-range_with_len}
use Rattle.pages.specs.declared.access.Piece.{Piece}
use Rattle.pages.specs.Flat.{Page, is_ready}
use Rattle.pages.specs.Initial.{initial, is_touched}
use Rattle.pages.proofs.pages.Pages.new.Goals as goal

-- as many pages as were asked for
size : (ps : List Page) (pieces : List Piece) (n : ℕ) → map is_ready ps ≡ map (is_touched pieces) (range_with_len 0 n) → length ps ≡ n
size ps pieces n e = sym (length-map ps is_ready) ∙ ap length e ∙ length-map-range_with_len (is_touched pieces) 0 n

pub count_all-requires : goal.count_all-requires
count_all-requires c =
    let parts = c.in_ok-parts.parts.items in
    omega (arith, size parts c.args.pieces.now c.args.count c.in_ok-parts.ensures.ready, ap length c.deref.ensures.value, c.requires.most)

pub invariant_of-result : goal.invariant_of-result
invariant_of-result c =
    let size : length c.in_ok-parts.parts.items ≡ c.args.count = size c.in_ok-parts.parts.items c.args.pieces.now c.args.count c.in_ok-parts.ensures.ready in
    record {
      count = search rules;
      few = search rules;
      counted = search rules;
      code_within = search rules;
      code_below = search rules;
    }

pub returns : goal.returns
unfolding initial
returns c = rw (c.in_ok-parts.ensures.bytes, c.in_ok-parts.ensures.ready, c.new.ensures.items, c.in_ok-from_slice.ensures.items) refl
