use Rattle.std.proofs.Common.{◌≡◌, Vec, Global, sym, ap, ◌∙◌, arith, vec_capacity, List, [], ◌∷◌, ◌++◌, subst}
use Rattle.atomic_table.specs.Table.{opening}
use Rattle.run_book.specs.declared.sitter.Size.{Size}
use Rattle.run_book.specs.Rule.{BookHolds}
use Rattle.run_book.specs.Sitters.{newcomers}
use Rattle.run_book.proofs.Beginning.{opens}
use Rattle.run_book.proofs.book.RunBook.open.Goals as goal

pub new-requires : goal.new-requires
new-requires g c =
    let size : Size = record { harts = c.args.harts; seats = c.args.seats } in
    let history : Vec g.row.E.Denot Global = c.in_ok-history.history in
    let slots : c.push_reserved.new.self.items ≡ history ∷ [] = c.push_reserved.ensures.items ∙ ap (λ (l : List (Vec g.row.E.Denot Global)). l ++ history ∷ []) c.in_ok-slots.ensures.items in
    subst (λ (l : List (Vec g.row.E.Denot Global)). BookHolds (λ (v : Vec g.row.E.Denot Global). v.items) (λ (v : Vec g.row.E.Denot Global). vec_capacity v) g.E.Entry.turn g.E.Entry.seat size (opening (1 ∷ 0 ∷ []) l (newcomers c.args.harts c.args.seats))) (sym slots)
    (opens (λ (v : Vec g.row.E.Denot Global). v.items) (λ (v : Vec g.row.E.Denot Global). vec_capacity v) g.E.Entry.turn g.E.Entry.seat size (omega arith) (omega arith) history c.in_ok-history.ensures.items c.in_ok-history.ensures.capacity)
