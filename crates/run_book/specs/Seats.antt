-- What a seat keeps beside its place at the table.
use Rattle.std.specs.Prelude.{◌≡◌, ℕ, length}
use Rattle.atomic_table.specs.Table.{Me}
use Rattle.run_book.specs.Rule.{AtRest, View}
use Rattle.run_book.specs.Sitters.{sitter}

pub record Counted {S E : Type 0} (m : Me S (View E)) (number harts round own seen : ℕ) : Type 0 where
  pub rest : AtRest m
  pub number_is : number ≡ (sitter m.0).number
  pub harts_are : harts ≡ (sitter m.0).harts
  pub round_is : round ≡ (sitter m.0).round
  pub own_is : own ≡ length (sitter m.0).own
  pub seen_is : seen ≡ length (sitter m.0).seen
