use Rattle.std.proofs.Common.{◌^◌, ◌<◌, ℕ, List, All, nat_cmp, subst, sym}
use Rattle.std.specs.Map.{keys_of}
use Rattle.std.proofs.lemmas.Map.Views.{All-keys-insert_entry}
use Rattle.store_buffer.proofs.line_map.add_line.Goals as goal

pub returns-clause-near : goal.returns-clause-near
returns-clause-near c = λ small near. subst (λ (es : List (ℕ × ℕ)). All (λ k. k < 2 ^ 58) (keys_of es)) (sym c.in_ok-insert.ensures.entries) (All-keys-insert_entry nat_cmp c.args.number c.len-index.result (λ k. k < 2 ^ 58) c.args.indices.now.entries near small)
