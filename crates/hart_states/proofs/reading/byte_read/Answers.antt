use Rattle.std.proofs.Common.{ℕ, Option, Some, option_map, ap, sym, ◌∙◌, arith}
use Rattle.run_bounds.specs.declared.touched.OwnByte.{OwnByte as KeptByte}
use Rattle.hart_states.specs.Opening.{opening_of}
use Rattle.all_endings.specs.StoreLists.{byte_at, last_place}
use Rattle.hart_states.specs.States.{listed, own_of}
use Rattle.hart_states.proofs.Readings.{own_kept, read_ahead, read_behind}
use Rattle.hart_states.proofs.reading.byte_read.Goals as goal

pub returns-in-Some : goal.returns-in-Some
returns-in-Some c = λ a p b own seen read.
    let kept = c.in-Some.ensures in
    let r = read_ahead (listed c.args.list.now) (opening_of c.args.memory.now) a c.args.time c.args.x p b (own_of c.in-Some.own)
    (own ∙ ap (λ (o : Option KeptByte). option_map own_of o) kept.0) kept.1 read in
    let low = r.seen in
    c.forwarded.ensures b r.atomic r.needs (omega (arith, seen, low)) r.byte ∙ ap (λ (n : ℕ). Some (record { source = n; byte = b })) r.place

pub returns-in-None : goal.returns-in-None
returns-in-None c = λ a p b own seen read.
    let r = read_behind (listed c.args.list.now) (opening_of c.args.memory.now) a c.args.time c.args.x p b
    (λ o e. let k = own_kept c.args.known.now.own o (sym own ∙ e) in let low = c.in-None.ensures k.0 k.1 in let same = k.2 in omega (arith, low, same)) read in
    let low = r.seen in
    c.remembered.ensures (omega (arith, seen, low))
    ∙ ap (λ (n : ℕ). Some (record { source = n; byte = byte_at (listed c.args.list.now) (opening_of c.args.memory.now) c.args.x (last_place (listed c.args.list.now) c.args.x c.args.time) })) r.place ∙ ap (λ (y : ℕ). Some (record { source = p; byte = y })) r.byte
