use Rattle.std.proofs.Common.{◌≡◌, ℕ, ◌+◌, ◌<◌, Some, ap, ◌∙◌, refl, subst, arith}
use Rattle.std.proofs.lemmas.List.{length-set}
use Rattle.pages.specs.Memory.{byte_of, width_bytes}
use Rattle.hart_states.specs.Opening.{opening_of}
use Rattle.all_endings.specs.HartRuns.{IsRead}
use Rattle.hart_states.specs.States.{listed}
use Rattle.hart_states.specs.declared.reading.ByteRead.{ByteRead}
use Rattle.hart_states.proofs.Readings.{few_bytes, gets_given, set_more}
use Rattle.hart_states.proofs.reading.read_at.Goals as goal

pub returns-in-None : goal.returns-in-None
returns-in-None c = λ a v n span at gets.
    let m = listed c.args.list.now in
    let opening = opening_of c.args.memory.now in
    let k = c.loop-k.k in
    let l : k < width_bytes c.args.width = omega arith in
    let given = gets_given m opening a v c.args.address c.args.width n (Some n) refl gets in
    let read = subst (λ (t : ℕ). IsRead m opening a t (c.args.address + k) (v.source (c.args.address + k)) (byte_of n k)) at (given.bytes k l) in
    let there = c.byte_read.ensures a (v.source (c.args.address + k)) (byte_of n k) (span.own k _ l) (span.seen k _ l) read in
    let none = c.in-None.is in
    absurd (cc)

pub loop-k-preserved : goal.loop-k-preserved
loop-k-preserved c = record {
  sized = length-set c.loop-k.bytes c.loop-k.k c.in-Some.read.byte ∙ c.loop-k.invariant.sized;
  many = length-set c.loop-k.sources c.loop-k.k c.in-Some.read.source ∙ c.loop-k.invariant.many;
  read = λ a v n span at gets.
      let m = listed c.args.list.now in
      let opening = opening_of c.args.memory.now in
      let k = c.loop-k.k in
      let l : k < width_bytes c.args.width = omega arith in
      let few = few_bytes c.args.width in
      let given = gets_given m opening a v c.args.address c.args.width n (Some n) refl gets in
      let read = subst (λ (t : ℕ). IsRead m opening a t (c.args.address + k) (v.source (c.args.address + k)) (byte_of n k)) at (given.bytes k l) in
      let there = c.byte_read.ensures a (v.source (c.args.address + k)) (byte_of n k) (span.own k _ l) (span.seen k _ l) read in
      let some = c.in-Some.is in
      let same : c.in-Some.read ≡ record { source = v.source (c.args.address + k); byte = byte_of n k } = cc in
      set_more c.loop-k.bytes c.loop-k.sources k c.in-Some.read.byte c.in-Some.read.source (λ j. byte_of n j) (λ j. v.source (c.args.address + j))
      c.loop-k.invariant.sized c.loop-k.invariant.many (omega (arith, l, few)) (c.loop-k.invariant.read a v n span at gets)
      (ap (λ (r : ByteRead). r.byte) same) (ap (λ (r : ByteRead). r.source) same);
}

pub returns : goal.returns
returns c = λ a v n span at gets.
    let given = gets_given (listed c.args.list.now) (opening_of c.args.memory.now) a v c.args.address c.args.width n (Some n) refl gets in
    let read = c.loop-k.invariant.read a v n span at gets in
    record {
      reading = record { number = c.number_of.result; sources = c.loop-k.sources };
      is = refl;
      number = c.number_of.ensures n given.fits (λ k l. (read k (omega (arith, l))).0);
      sources = λ k l. (read k (omega (arith, l))).1;
    }
