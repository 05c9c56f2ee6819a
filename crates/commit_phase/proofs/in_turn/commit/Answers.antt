use Rattle.std.proofs.Common.{◌∙◌, ap, get_or, map, ℕ, List}
use Rattle.pages.specs.Paged.{Paged}
use Rattle.commit_phase.specs.Commit.{all_buffered}
use Rattle.commit_phase.proofs.Sharding.{memory_back, ready_back, shard_of_memory}
use Rattle.commit_phase.proofs.in_turn.commit.Goals as goal

pub write_all-requires-clause-ready : goal.write_all-requires-clause-ready
write_all-requires-clause-ready g c = λ k d low.
    shard_of_memory c.parts.result.now c.args.pages.now (get_or (map g.B.Buffered.bytes c.args.rounds.now) k d) c.parts.ensures.ready (c.requires.writable k d low).ready

pub returns : goal.returns
returns g c =
    let pages = c.args.pages.now in
    let stores = all_buffered (map g.B.Buffered.bytes c.args.rounds.now) in
    record {
      memory =
          ap (λ (p : Paged). p.memory) c.keep_unready.ensures
          ∙ ap (λ (bs : List ℕ). record pages.memory { bytes = bs }) (memory_back pages c.parts.result.now c.write_all.new.parts stores c.parts.ensures.bytes c.write_all.ensures);
      ready =
          ap (λ (p : Paged). p.ready) c.keep_unready.ensures ∙ ready_back pages c.parts.result.now c.write_all.new.parts stores c.parts.ensures.ready c.write_all.ensures;
      spare = ap (λ (p : Paged). p.spare) c.keep_unready.ensures;
      size = c.break_all.ensures.size;
      reservations = c.break_all.ensures.reservations;
    }
