use Rattle.std.proofs.Common.{rules, false, true≢false, is_some, ◌≡◌, ◌∙◌, List, [], Some, ap, sym, subst, map, option_map}
use Rattle.clap.specs.Simple.{built}
use Rattle.std.specs.Prelude.{IfOk}
use Rattle.clap.specs.Words.{FailsBy, HasKind, Kinds, Row, Text, app_of, fault_of, found_of, rows_of, subcommand_name_of, subcommand_of, subcommand_rows_of}
use Rattle.command_options.specs.Options.{dethart_app}
use Rattle.command_line.specs.Names.{IsSubcommand}
use Rattle.command_line.specs.Faults.{line_fault}
use Rattle.command_line.specs.Reading.{HoldsLine}
use Rattle.command_line.proofs.Lines.{Met, after_clap, is_known, kept_first, name_of, simple, some_is, takes_one}
use Rattle.command_line.proofs.parsing.parse_line.Goals as goal
use Rattle.command_line.proofs.parsing.parse_line.Goals.{In_ok-matches}

pub returns-in_err-matches-clause-fails : goal.returns-in_err-matches-clause-fails
returns-in_err-matches-clause-fails c =
    let reads = c.in_ok-command.ensures in
    let words : List Text = map (λ s. s.now) c.args.words.now in
    let kinds = c.in_err-matches.ensures.kinds reads.simple in
    let kinds_here : HasKind (line_fault words) c.in_err-matches.field-0.0 = kept_first c.in_err-matches.field-0.0 (fault_of dethart_app words) _ (subst (λ (k : Kinds). HasKind k c.in_err-matches.field-0.0) reads.fault kinds) in
    search rules

-- clap found nothing to refuse
no_fault : (c : In_ok-matches) → fault_of dethart_app (map (λ s. s.now) c.args.words.now) ≡ []
no_fault c =
    let reads = c.in_ok-command.ensures in
    sym reads.fault ∙ c.in_ok-matches.ensures.kinds reads.simple

-- so the line has met a subcommand
one_met : (c : In_ok-matches) → Met (built dethart_app).subs (subcommand_of dethart_app (map (λ s. s.now) c.args.words.now))
one_met c = takes_one (map (λ s. s.now) c.args.words.now) (no_fault c)

-- with the rows that the matches have
rows_met : (c : In_ok-matches) → subcommand_rows_of c.in_ok-matches.matches ≡ Some ((one_met c).name, (one_met c).rows)
rows_met c =
    let reads = c.in_ok-command.ensures in
    (c.in_ok-matches.ensures.ok.2 (simple (app_of c.in_ok-command.command) reads.simple)).1 ∙ (reads.subcommand ∙ (one_met c).is)

pub unreachable-requires : goal.unreachable-requires
unreachable-requires c =
    let at = (goal.at.unreachable-requires c).In_ok-matches in
    let name : option_map (λ p. p.0.now) c.subcommand.result ≡ Some (one_met at).name = c.subcommand.ensures.name ∙ (name_of _ _ ∙ ap (option_map (λ p. p.0)) (rows_met at)) in
    let bad : is_some (option_map (λ p. p.0.now) c.subcommand.result) ≡ false = ap (λ o. is_some (option_map (λ p. p.0.now) o)) c.in_default.is in
    absurd (true≢false (sym (ap is_some name) ∙ bad))

-- the name and the rows that are read are those of the line
is_met : (c : In_ok-matches) (name : Text) (rows : List Row) → Some name ≡ subcommand_name_of c.in_ok-matches.matches
    → Some rows ≡ option_map (λ p. p.1) (subcommand_rows_of c.in_ok-matches.matches)
    → subcommand_of dethart_app (map (λ s. s.now) c.args.words.now) ≡ Some (name, rows)
is_met c name rows n r =
    let name_is : name ≡ (one_met c).name = some_is _ _ (n ∙ (name_of _ _ ∙ ap (option_map (λ p. p.0)) (rows_met c))) in
    let rows_is : rows ≡ (one_met c).rows = some_is _ _ (r ∙ ap (option_map (λ p. p.1)) (rows_met c)) in
    (one_met c).is ∙ (ap (λ t. Some (t, (one_met c).rows)) (sym name_is) ∙ ap (λ t. Some (name, t)) (sym rows_is))

pub subcommand_of-requires : goal.subcommand_of-requires
subcommand_of-requires c =
    let at = (goal.at.subcommand_of-requires c).In_ok-matches in
    let name : c.in-Some.name.now ≡ (one_met at).name = some_is _ _ (c.in-Some.ensures.name ∙ (name_of _ _ ∙ ap (option_map (λ p. p.0)) (rows_met at))) in
    record { known = subst IsSubcommand (sym name) (is_known (one_met at).name (one_met at).known) }

pub returns-clause-fails : goal.returns-clause-fails
returns-clause-fails c =
    let at = (goal.at.returns-clause-fails c).In_ok-matches in
    let name : Text = c.in-Some.name.now in
    let rows : List Row = rows_of (found_of c.in-Some.found.now) in
    let faults = after_clap (map (λ s. s.now) c.args.words.now) name rows (no_fault at) (is_met at name rows c.in-Some.ensures.name c.in-Some.ensures.rows) in
    subst (λ (k : Kinds). FailsBy k c.subcommand_of.result) (sym faults) c.subcommand_of.ensures.fails

pub returns-clause-reads : goal.returns-clause-reads
returns-clause-reads c =
    let at = (goal.at.returns-clause-reads c).In_ok-matches in
    let name : Text = c.in-Some.name.now in
    let rows : List Row = rows_of (found_of c.in-Some.found.now) in
    subst (λ o. IfOk c.subcommand_of.result (HoldsLine o)) (sym (is_met at name rows c.in-Some.ensures.name c.in-Some.ensures.rows)) c.subcommand_of.ensures.reads
