use Rattle.std.proofs.Common.{length, ap, ◌∙◌, subst}
use Rattle.std.proofs.lemmas.Result.{IfOk-weaker}
use Rattle.hart_rounds.specs.Starts.{keeps_log}
use Rattle.guest_rounds.specs.Guests.{Guest}
use Rattle.guest_rounds.specs.NextStarts.{AreOfGuest}
use Rattle.guest_rounds.proofs.GuestRounds.{ends_are}
use Rattle.guest_rounds.proofs.WholeHistories.{whole_of_guest}
use Rattle.guest_rounds.proofs.guest.GuestState.do_parallel.Goals as goal

pub parallel-requires-clause-harts : goal.parallel-requires-clause-harts
parallel-requires-clause-harts g c = λ lifetimes within. ap length c.deref.ensures.value ∙ ap (λ (x : Guest). length x.harts) c.self.view_is ∙ c.requires.harts

pub returns-clause-ends : goal.returns-clause-ends
returns-clause-ends g c =
    let i = c.self.inside in
    IfOk-weaker c.parallel.result _ _ (λ os done.
    subst (λ (x : Guest). AreOfGuest (keeps_log c.args.crew.now.form) c.args.plan.now c.args.done x os.items) c.self.view_is
    (ends_are (keeps_log c.args.crew.now.form) c.args.plan.now c.args.done i.harts.items c.deref.result.now i.shared.pages os.items c.deref.ensures.value done)) c.parallel.ensures.ends

pub returns-clause-whole : goal.returns-clause-whole
returns-clause-whole g c =
    IfOk-weaker c.parallel.result _ _ (λ os ends. whole_of_guest (keeps_log c.args.crew.now.form) c.args.plan.now c.args.done c.args.self.now os.items ends) (returns-clause-ends g c)
