use Rattle.std.proofs.Common.{refl}
use Rattle.serial_phase.proofs.ShownCode.{shows_store}
use Rattle.serial_phase.proofs.ServedWords.{room_for, taken}
use Rattle.serial_phase.proofs.serving.put.Goals as goal

pub apply-requires-clause-room : goal.apply-requires-clause-room
apply-requires-clause-room c = room_for c.args.state.now.pages c.args.store _ c.requires.fault c.count-pages.ensures.pages c.count-pages.ensures.bytes c.requires.room

pub invariant_of-state : goal.invariant_of-state
invariant_of-state c =
    let s = c.args.state.now in
    record {
      shows = shows_store s.pages c.apply.new.self c.args.store s.code c.requires.fault
          (taken s.pages c.apply.new.self c.args.store _ c.requires.fault c.count-pages.ensures.pages c.count-pages.ensures.bytes c.apply.ensures)
          s.shows;
    }

pub returns : goal.returns
returns c = record {
  pages = taken c.args.state.now.pages c.apply.new.self c.args.store _ c.requires.fault c.count-pages.ensures.pages c.count-pages.ensures.bytes c.apply.ensures;
  reservations = c.break_by.ensures;
  console = refl;
  code = refl;
  log = refl;
}
