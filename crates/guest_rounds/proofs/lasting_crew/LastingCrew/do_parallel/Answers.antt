use Rattle.std.proofs.Common.{◌≡◌, ◌+◌, ◌++◌, length, take, drop, sym, ap, ◌∙◌, subst, arith}
use Rattle.std.proofs.lemmas.List.{take_at}
use Rattle.std.proofs.lemmas.Result.{IfOk-weaker}
use Rattle.lasting_workers.specs.declared.borrowed_start.BorrowedStart.{BorrowedStart}
use Rattle.parallel_phase.specs.Rounds.{IsWholeHistory}
use Rattle.hart_rounds.specs.Starts.{Start, keeps_log}
use Rattle.guest_rounds.specs.Guests.{Guest}
use Rattle.guest_rounds.specs.NextStarts.{next_start}
use Rattle.guest_rounds.proofs.NextStarts.{quotas_set, same_start}
use Rattle.guest_rounds.proofs.Sharing.{gathered_as, may_as}
use Rattle.guest_rounds.proofs.WholeHistories.{of_whole}
use Rattle.guest_rounds.proofs.lasting_crew.LastingCrew.do_parallel.Goals as goal

pub new-start-requires-clause-start : goal.new-start-requires-clause-start
new-start-requires-clause-start g c =
    let i = c.guest.inside in
    let plan = c.args.plan.now in
    let p : BorrowedStart = c.swap_borrowed.new.borrowed in
    let swapped = c.swap_borrowed.ensures.borrowed in
    let old = c.in_ok-borrowed.borrowed.quotas in
    let qs = c.set_quotas.new.quotas in
    let many : length qs ≡ length i.harts.items = omega (arith, c.set_quotas.auto.quotas, ap length c.as_mut_slice.ensures.value, c.in_ok-borrowed.ensures.sized, c.len.ensures) in
    let whole : take old.len (qs ++ drop (length qs) old.items) ≡ qs = take_at qs _ old.len (omega (arith, c.set_quotas.auto.quotas, c.as_mut_slice.ensures.len, ap length c.as_mut_slice.ensures.value)) in
    let harts : length i.harts.items ≡ plan.harts = ap (λ (x : Guest). length x.harts) c.guest.view_is ∙ c.requires.harts in
    c.requires.start ∙ ap (λ (x : Guest). next_start (keeps_log c.args.self.now.crew.form) plan c.args.done x) (sym c.guest.view_is)
    ∙ sym (same_start p.pages.memory i.shared.pages.memory p.quotas.items _ p.harts.items i.harts.items (keeps_log p.form) (keeps_log c.args.self.now.crew.form) (ap (λ (x : BorrowedStart). x.pages.memory) swapped)
    (ap (λ (x : BorrowedStart). x.quotas.items) swapped ∙ whole ∙ quotas_set plan (c.args.done + 1) (length i.harts.items) qs (sym many) (λ h low. c.set_quotas.ensures h (omega (arith, low, harts))))
    (ap (λ (x : BorrowedStart). x.harts.items) swapped) (ap (λ (x : BorrowedStart). keeps_log x.form) swapped ∙ ap keeps_log c.in_ok-borrowed.ensures.form))

pub returns-clause-whole : goal.returns-clause-whole
returns-clause-whole g c =
    IfOk-weaker c.share-start.result.1 _ _ (λ os whole. subst (λ (s : Start). IsWholeHistory s os.items) (ap g.S.RunStarts.starts c.new-start.ensures.done ∙ c.requires.start) whole) c.share-start.ensures.whole

pub returns-clause-ends : goal.returns-clause-ends
returns-clause-ends g c =
    IfOk-weaker c.share-start.result.1 _ _ (λ os whole. of_whole (keeps_log c.args.self.now.crew.form) c.args.plan.now c.args.done c.args.guest.now os.items
    (subst (λ (s : Start). IsWholeHistory s os.items) (ap g.S.RunStarts.starts c.new-start.ensures.done ∙ c.requires.start) whole)) c.share-start.ensures.whole

pub share-start-requires-clause-may : goal.share-start-requires-clause-may
share-start-requires-clause-may g c =
    let k = c.in_ok-borrowed.ensures.kept in
    let many = ap (λ (p : BorrowedStart). length p.harts.items) (c.new-start.ensures.borrowed ∙ c.swap_borrowed.ensures.borrowed) ∙ (ap (λ (x : Guest). length x.harts) c.guest.view_is ∙ c.requires.harts) in
    may_as c.args.done c.new-start.result.done c.args.plan.now.harts (length c.new-start.result.borrowed.harts.items) c.args.self.now.board.now.book c.take_stand_in.new.self.board.now.book c.args.self.now.seat c.take_stand_in.new.self.seat
    c.args.self.now.blank.items c.take_stand_in.new.self.blank.items (sym c.new-start.ensures.done) (sym many) (sym k.0) (sym k.1) (sym k.2) c.requires.may

pub returns-clause-gathered : goal.returns-clause-gathered
returns-clause-gathered g c =
    let k = c.in_ok-borrowed.ensures.kept in
    let many = ap (λ (p : BorrowedStart). length p.harts.items) (c.new-start.ensures.borrowed ∙ c.swap_borrowed.ensures.borrowed) ∙ (ap (λ (x : Guest). length x.harts) c.guest.view_is ∙ c.requires.harts) in
    IfOk-weaker c.share-start.result.1 _ _ (λ os has. gathered_as c.new-start.result.done c.args.done (length c.new-start.result.borrowed.harts.items) c.args.plan.now.harts c.take_stand_in.new.self.seat c.args.self.now.seat c.share-start.new.self.seat
    c.new-start.ensures.done many k.1 has) c.share-start.ensures.gathered
