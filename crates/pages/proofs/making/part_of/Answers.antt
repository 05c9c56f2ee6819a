use Rattle.std.proofs.Common.{◌≡◌, ◌∙◌, ◌*◌, ◌+◌, ap, sym, rules, length, drop, [], List}
use Rattle.std.proofs.lemmas.List.{drop_all}
use Rattle.pages.specs.declared.access.Piece.{Piece}
use Rattle.pages.specs.Flat.{Page, is_ready}
use Rattle.pages.specs.Initial.{is_touched, piece_byte}
use Rattle.pages.proofs.Laying.{page_from}
use Rattle.pages.proofs.Page.{get_or-absent}
use Rattle.pages.proofs.making.part_of.Goals as goal

pub loop-left-init : goal.loop-left-init
loop-left-init c =
    let none : drop (length c.args.pieces.now) c.args.pieces.now ≡ [] = drop_all (length c.args.pieces.now) c.args.pieces.now (search rules) in
    let empty : length c.absent-part.result.bytes ≡ 0 = ap (λ (p : Page). length p.bytes) c.absent-part.ensures in
    record {
      within = search rules;
      bytes = λ k h. get_or-absent c.absent-part.result k empty ∙ sym (ap (λ (ps : List Piece). piece_byte ps (4096 * c.args.page + k)) none);
      ready = ap is_ready c.absent-part.ensures ∙ sym (ap (λ (ps : List Piece). is_touched ps c.args.page) none);
    }

pub returns-clause-bytes : goal.returns-clause-bytes
returns-clause-bytes c =
    let none : c.loop-left.left ≡ 0 = search rules in
    page_from c.loop-left.part c.args.pieces.now (4096 * c.args.page) (λ k h. c.loop-left.invariant.bytes k h ∙ ap (λ n. piece_byte (drop n c.args.pieces.now) (4096 * c.args.page + k)) none)
