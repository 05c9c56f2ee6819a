use Rattle.std.proofs.Common.{◌≡◌, ℕ, List, Option, Some, None, IfSome, sym, ap, ◌∙◌, subst, inr}
use Rattle.rv64_decode.specs.declared.instruction.Instr.{Instr}
use Rattle.round_schedule.specs.declared.access.Access.{Access}
use Rattle.all_endings.specs.Locality.{set_view}
use Rattle.all_endings.specs.RunStates.{answers_to}
use Rattle.early_reads.specs.Checking.{map_of}
use Rattle.early_reads.specs.EarlyMaps.{Agrees}
use Rattle.early_reads.specs.Flows.{IsOver, IsPut}
use Rattle.early_reads.proofs.Accesses.{over}
use Rattle.early_reads.proofs.Moves.{puts_number}
use Rattle.early_reads.proofs.checking.holds_along.Goals as goal

is_put : (i : Instr) (k : List (Option ℕ)) (pc : ℕ) (o : Option ℕ) (n : ℕ) → o ≡ Some n → IfSome o (λ n. IsPut i k pc n) → IsPut i k pc n
is_put i k pc None n e p = absurd (cc)
is_put i k pc (Some l) n e p = let s : l ≡ n = cc in subst (IsPut i k pc) s p

pub returns : goal.returns
returns c = λ led owns image h m opening a v at is acting agrees.
    let k = c.args.point.now.constants in
    let pc = c.args.point.now.pc in
    let i = c.args.i.now in
    let among = c.targets_of.ensures owns image h m opening a v at is acting agrees in
    let here = over k pc i c.knows_address.result c.knows_address.ensures.knows owns image h m opening a v at is acting agrees in
    let there : IsOver c.knows_address.result c.access_over.result v.access =
    subst (λ (y : Access). IsOver c.knows_address.result y v.access) (sym c.access_over.ensures) here in
    let value = λ (n l : ℕ) (e : c.number_put-value.result ≡ Some n) (f : v.result ≡ Some l).
    puts_number k pc i n (is_put i k pc c.number_put-value.result n e c.number_put-value.ensures) owns image h m opening a v at is acting agrees l f in
    let told = c.tells_each.ensures c.if-not-tells_each.false v.next a.registers v.result among agrees value in
    let register : c.answered.result ≡ answers_to v.instruction = c.answered.ensures ∙ ap answers_to (sym is) in
    inr (record {
      constants = subst (λ (r : ℕ). Agrees ((map_of c.args.points.now).constants v.next) (set_view a.registers r v.result)) register told;
      reads = λ x loading dry other on. c.reads_told.ensures c.if-not-reads_told.false v.access x there loading dry other on;
      leads = λ x left told_there. c.leads_on.ensures led v.access v.next x there among left told_there;
    })

pub returns-then-is_exit : goal.returns-then-is_exit
returns-then-is_exit c = λ led owns image h m opening a v at is acting agrees. absurd (c.is_exit.ensures c.if-is_exit.true c.args.point.now.pc owns image h m opening a v at is acting agrees)
