use Rattle.std.proofs.Common.{ℕ, length, sym, ap, ◌∙◌}
use Rattle.std.proofs.lemmas.List.{length-replicate}
use Rattle.pages.specs.Paged.{Paged}
use Rattle.pages.specs.Memory.{Memory}
use Rattle.guest_rounds.specs.HartEnds.{harts_of}
use Rattle.guest_rounds.specs.Opening.{opening_harts}
use Rattle.guest_rounds.proofs.RoundDone.{same_guest}
use Rattle.guest_rounds.proofs.StoppedHarts.{stay_none}
use Rattle.guest_rounds.proofs.guest.GuestState.begin.Goals as goal

pub invariant_of-result : goal.invariant_of-result
invariant_of-result c = record {
  size = ap length c.open-shared.ensures.reservations ∙ length-replicate c.args.count _ ∙ sym c.in_ok-harts.ensures.count;
  kept = stay_none _ _ (ap harts_of c.new.ensures);
}

pub returns : goal.returns
returns c =
    let shared = c.open-shared.ensures in
    same_guest _ _ _ _ _ _ _ _ _ _
    (c.in_ok-harts.ensures.harts ∙ ap (λ (e : ℕ). opening_harts e c.args.count 0 c.args.count) c.entry.ensures.entry)
    (ap (λ (p : Paged). p.memory.bytes) shared.pages ∙ ap (λ (m : Memory). m.bytes) c.requires.memory)
    (ap (λ (p : Paged). p.memory.code) shared.pages ∙ ap (λ (m : Memory). m.code) c.requires.memory)
    shared.reservations shared.console
