use Rattle.std.proofs.Common.{rules, ◌≡◌, ◌∙◌, List, [], ◌∷◌, Some, Bor, ap, ap₂, if◌then◌else◌, length, map, refl, suc}
use Rattle.clap.specs.Words.{Rule, Text, new_rule, rule_of}
use Rattle.clap.specs.declared.builder.arg.Arg.{Arg}
use Rattle.command_options.specs.Options.{argument_told, parser_of, row_told, told}
use Rattle.command_options.proofs.rows.told.Goals as goal

counted : (xs : List (Bor Text)) → length xs ≡ length (map told xs)
counted [] = refl
counted (x ∷ xs) = ap suc (counted xs)

spelled : (xs : List (Bor Text)) → map (λ s. s.now) xs ≡ map (λ s. s.now) (map told xs)
spelled [] = refl
spelled (x ∷ xs) = ap (λ rest. x.now ∷ rest) (spelled xs)

pub returns-clause-rule : goal.returns-clause-rule
returns-clause-rule c =
    let row = c.args.row in
    let kind = row.1 in
    let parsed : c.value_parser.result.value_parser ≡ Some (parser_of kind.value) = search rules in
    let valued : rule_of c.help.result ≡ record (new_rule row.0.now) { value_names = length row.2.now; defaults = map (λ s. s.now) row.3.now } =
    ap rule_of c.help.ensures ∙ (ap rule_of c.default_values.ensures ∙ (ap (λ a. record (rule_of a) { defaults = map (λ s. s.now) row.3.now }) c.value_names.ensures
    ∙ ap (λ (r : Rule). record r { value_names = length row.2.now; defaults = map (λ s. s.now) row.3.now }) c.new.ensures.rule)) in
    let kinded : rule_of c.required-arg.result ≡ record (rule_of c.help.result) { parser = Some (parser_of kind.value); action = Some kind.action; required = kind.required } =
    ap rule_of c.required-arg.ensures ∙ (ap (λ a. record (rule_of a) { required = kind.required }) c.action.ensures
    ∙ (ap (λ a. record (rule_of a) { action = Some kind.action; required = kind.required }) c.value_parser.ensures.others
    ∙ ap (λ p. record (rule_of c.help.result) { parser = p; action = Some kind.action; required = kind.required }) parsed)) in
    let plain : rule_of c.required-arg.result ≡ argument_told (row_told row) =
    kinded ∙ (ap (λ (r : Rule). record r { parser = Some (parser_of kind.value); action = Some kind.action; required = kind.required }) valued
    ∙ ap₂ (λ n d. record (new_rule row.0.now) { value_names = n; defaults = d; parser = Some (parser_of kind.value); action = Some kind.action; required = kind.required }) (counted row.2.now) (spelled row.3.now)) in
    c.with_name.ensures.rule ∙ ap (λ (r : Rule). if kind.is_option then record r { long = Some row.0.now } else r) plain

pub returns-clause-local : goal.returns-clause-local
returns-clause-local c =
    let global = λ (a : Arg). a.global in
    c.with_name.ensures.local ∙ (ap global c.required-arg.ensures ∙ (ap global c.action.ensures ∙ (ap global c.value_parser.ensures.others
    ∙ (ap global c.help.ensures ∙ (ap global c.default_values.ensures ∙ (ap global c.value_names.ensures ∙ c.new.ensures.optional.1))))))
