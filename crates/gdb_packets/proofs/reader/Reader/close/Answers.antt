use Rattle.std.proofs.Common.{◌≡◌, [], refl, sym}
use Rattle.std.specs.Prelude.{IfNone}
use Rattle.gdb_packets.specs.Stream.{told_of}
use Rattle.gdb_packets.proofs.Going.{close_ends, close_tells}
use Rattle.gdb_packets.proofs.reader.Reader.close.Goals as goal

pub returns-clause-told : goal.returns-clause-told
returns-clause-told g c = λ bs is.
    close_tells _ _ _ _ _ _ bs _ _ _ _ c.in-Some.is c.in-Some-2.is c.in_ok-high.ensures.ok c.in_ok-low.ensures.ok _ (sym (c.in_ok-end.ensures bs is))

pub returns-in_err-end-clause-lost : goal.returns-in_err-end-clause-lost
returns-in_err-end-clause-lost g c = λ bs e. (
  told_of bs c.in-Some.high c.in-Some-2.low,
  close_tells _ _ _ _ _ _ bs _ _ _ _ c.in-Some.is c.in-Some-2.is c.in_ok-high.ensures.ok c.in_ok-low.ensures.ok _ refl,
)

pub returns-in-None-2-clause-told : goal.returns-in-None-2-clause-told
returns-in-None-2-clause-told g c = λ bs is.
    let held : IfNone c.in_ok-low.field-0 (c.byte-2.new.self ≡ []) = c.in_ok-low.ensures.end in
    close_ends _ _ _ _ _ _ bs _ _ _ c.in-Some.is c.in-None-2.is c.in_ok-high.ensures.ok c.in_ok-low.ensures.ok held
