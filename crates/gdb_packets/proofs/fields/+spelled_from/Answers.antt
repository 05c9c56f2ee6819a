use Rattle.std.proofs.Common.{◌≡◌, ℕ, ◌^◌, Some, ap, sym, ◌∙◌}
use Rattle.std.proofs.lemmas.Bool.{lt-ltb}
use Rattle.gdb_packets.proofs.Spelled.{further}
use Rattle.gdb_packets.proofs.fields.+spelled_from.Goals as goal

pub returns-then-before-lt1152921504606846976 : goal.returns-then-before-lt1152921504606846976
returns-then-before-lt1152921504606846976 t c =
    c.spelled_from.ensures
    ∙ further c.args.before c.args.text.now c.from.result c.in-len1-up.len_at_least c.in-len1-up-others.len_at_least
    (ap (λ (v : ℕ). Some v) c.from.ensures ∙ sym c.in-Some.is ∙ c.spelled_digit.ensures.value) (lt-ltb c.args.before (2 ^ 60) c.if-before-lt1152921504606846976.true)
