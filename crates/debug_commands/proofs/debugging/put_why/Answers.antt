use Rattle.std.proofs.Common.{◌≡◌, ◌∙◌, ◌++◌, List, ap, subst, ℕ}
use Rattle.host_io.specs.Taken.{BeganText}
use Rattle.program_files.specs.Failures.{failure_number}
use Rattle.debug_commands.specs.Debugged.{error_line}
use Rattle.debug_commands.proofs.Told.{began_either, told_line, told_words}
use Rattle.debug_commands.proofs.debugging.put_why.Goals as goal

pub returns-in_err-put_all : goal.returns-in_err-put_all
returns-in_err-put_all g c =
    let number : ℕ = failure_number c.args.failure.now in
    let old : List ℕ = g.E.Sink.took c.args.errors.now in
    let new : List ℕ = g.E.Sink.took c.put_all.new.out in
    let line : c.as_bytes.result.now ≡ error_line number = c.as_bytes.ensures ∙ c.in_ok-line.ensures ∙ ap error_line c.number.ensures in
    told_line number old new (subst (λ (t : List ℕ). BeganText old new t) line c.in_err-put_all.ensures.begun)

pub returns : goal.returns
returns g c =
    let number : ℕ = failure_number c.args.failure.now in
    let old : List ℕ = g.E.Sink.took c.args.errors.now in
    let mid : List ℕ = g.E.Sink.took c.put_all.new.out in
    let new : List ℕ = g.E.Sink.took c.put_all-2.new.out in
    let line : c.as_bytes.result.now ≡ error_line number = c.as_bytes.ensures ∙ c.in_ok-line.ensures ∙ ap error_line c.number.ensures in
    told_words number old mid new c.as_bytes-2.result.now (c.in_ok-put_all.ensures.ok ∙ ap (λ (t : List ℕ). old ++ t) line)
    (began_either c.put_all-2.result mid new c.as_bytes-2.result.now c.put_all-2.ensures.ok c.put_all-2.ensures.begun)
