-- The command with one subcommand reads a line that names it as the command with all of them does.
use Rattle.std.proofs.Common.{◌≡◌, ◌≤◌, ◌∙◌, Bool, Option, ℕ, Some, cond, unwrap_or, List, [], ◌∷◌, ◌++◌, Bor, Result, ap, ap₂, arith, false, fold, get_or, is_some, length, map, refl, subst, sym}
use Rattle.std.proofs.lemmas.Result.{IfOk-weaker}
use Rattle.std.proofs.lemmas.Slice.Eq.{bytes_eq-Decides}
use Rattle.std.specs.Prelude.{IfOk, find, true}
use mathlib.Core.List.{append-nil, append_assoc}
use Rattle.clap.specs.Faults.{built_fault, check_fault, defaults_fault, entered_fault, settle_fault, turn_fault, walk_fault}
use Rattle.clap.specs.Kinds.{Kinds, or_else}
use Rattle.clap.specs.Simple.{Shape, built, entered, names_of}
use Rattle.clap.specs.Walk.{Names, Walk, finished, idle, nothing_held, settled, walk, walk_from, walked}
use Rattle.clap.specs.Words.{App, Rule, Text, app_of, is_simple_and_free}
use Rattle.clap.specs.declared.builder.command.Command.{Command}
use Rattle.command_options.specs.Options.{ReadsAsAll, Subcommand, bare_app, dethart_app, named, subcommands, with_subcommands}
use Rattle.std.specs.Str.{bytes_eq}

-- ---- a walk that met a subcommand before any option

abbrev met : Text → List Text → Walk
met name rest = record { held = nothing_held; waiting = idle; position = 1; is_trailing = false; stopped = Some (name, rest) }

goes_on : (rules : List Rule) (names : Names) (name : Text) (before rest : List Text) → fold (walked rules names) (met name before) rest ≡ met name (before ++ rest)
unfolding walked
goes_on rules names name before [] = ap (met name) (sym (append-nil before))
goes_on rules names name before (word ∷ rest) = goes_on rules names name (before ++ word ∷ []) rest ∙ ap (met name) (append_assoc before (word ∷ []) rest)

no_more_faults : (s : Shape) (names : Names) (name : Text) (before rest : List Text) → walk_fault s names (met name before) rest ≡ []
unfolding walk_fault walked
no_more_faults s names name before [] = refl
no_more_faults s names name before (word ∷ rest) = no_more_faults s names name (before ++ word ∷ []) rest

-- a built command meets the subcommand of a name as its first word
record Meets (a : App) (name : Text) : Type 0 where
  walks : walked a.top.rules (names_of a) (walk_from nothing_held) name ≡ met name []
  faults : turn_fault a.top (names_of a) (walk_from nothing_held) name ≡ []

walks_on : (a : App) (name : Text) (rest : List Text) → Meets a name → walk a.top.rules (names_of a) nothing_held (name ∷ rest) ≡ met name rest
walks_on a name rest meets = ap (λ w. fold (walked a.top.rules (names_of a)) w rest) meets.walks ∙ goes_on a.top.rules (names_of a) name [] rest

faults_on : (a : App) (name : Text) (rest : List Text) → Meets a name → walk_fault a.top (names_of a) (walk_from nothing_held) (name ∷ rest) ≡ []
unfolding walk_fault
faults_on a name rest meets = ap₂ or_else meets.faults (ap (λ w. walk_fault a.top (names_of a) w rest) meets.walks ∙ no_more_faults a.top (names_of a) name [] rest)

-- what it refuses then
abbrev refuses : App → Kinds → Walk → Kinds
refuses a before w = or_else before (or_else (entered_fault a w.stopped) (or_else (settle_fault a.top.rules a.top.args_override_self w.held)
    (or_else (defaults_fault (settled a.top.rules w.held).rows a.top.rules) (check_fault a.top (finished a.top.rules w.held) (is_some (entered a w.stopped))))))

faults_met : (a : App) (name : Text) (rest : List Text) → Meets a name → built_fault a nothing_held (name ∷ rest) ≡ refuses a [] (met name rest)
faults_met a name rest meets = ap₂ (refuses a) (faults_on a name rest meets) (walks_on a name rest meets)

-- ---- each of the subcommands

abbrev pub one : Subcommand → App
one s = with_subcommands bare_app (s ∷ [])

-- the command with this subcommand alone, and the one with all, meet it, enter it and refuse words alike
pub record Alike (s : Subcommand) : Type 0 where
  meets : Meets (built (one s)) s.0.now
  meets_all : Meets (built dethart_app) s.0.now
  simple : is_simple_and_free (one s) ≡ true
  entered : (rest : List Text) → entered (built (one s)) (Some (s.0.now, rest)) ≡ entered (built dethart_app) (Some (s.0.now, rest))
  refused : (rest : List Text) → refuses (built (one s)) [] (met s.0.now rest) ≡ refuses (built dethart_app) [] (met s.0.now rest)

reads : (program : Text) (s : Subcommand) (rest : List Text) → Alike s → ReadsAsAll (program ∷ s.0.now ∷ rest) (one s)
unfolding subcommands
reads program s rest alike = record {
  simple = alike.simple;
  subcommand = ap (λ w. entered (built (one s)) w.stopped) (walks_on (built (one s)) s.0.now rest alike.meets)
      ∙ (alike.entered rest ∙ sym (ap (λ w. entered (built dethart_app) w.stopped) (walks_on (built dethart_app) s.0.now rest alike.meets_all)));
  fault = faults_met (built (one s)) s.0.now rest alike.meets ∙ (alike.refused rest ∙ sym (faults_met (built dethart_app) s.0.now rest alike.meets_all));
}

abbrev pub EachAlike : List Subcommand → Type 0
EachAlike [] = Unit
EachAlike (s ∷ rest) = Alike s × EachAlike rest

each_alike : EachAlike subcommands
unfolding walked subcommands
each_alike = (
  record { meets = record { walks = refl; faults = refl }; meets_all = record { walks = refl; faults = refl }; simple = refl; entered = λ rest. refl; refused = λ rest. refl },
  (
    record { meets = record { walks = refl; faults = refl }; meets_all = record { walks = refl; faults = refl }; simple = refl; entered = λ rest. refl; refused = λ rest. refl },
    (
      record { meets = record { walks = refl; faults = refl }; meets_all = record { walks = refl; faults = refl }; simple = refl; entered = λ rest. refl; refused = λ rest. refl },
      (
        record { meets = record { walks = refl; faults = refl }; meets_all = record { walks = refl; faults = refl }; simple = refl; entered = λ rest. refl; refused = λ rest. refl },
        (
          record { meets = record { walks = refl; faults = refl }; meets_all = record { walks = refl; faults = refl }; simple = refl; entered = λ rest. refl; refused = λ rest. refl },
          (
            record { meets = record { walks = refl; faults = refl }; meets_all = record { walks = refl; faults = refl }; simple = refl; entered = λ rest. refl; refused = λ rest. refl },
            (
              record { meets = record { walks = refl; faults = refl }; meets_all = record { walks = refl; faults = refl }; simple = refl; entered = λ rest. refl; refused = λ rest. refl },
              (
                record { meets = record { walks = refl; faults = refl }; meets_all = record { walks = refl; faults = refl }; simple = refl; entered = λ rest. refl; refused = λ rest. refl },
                (
                  record { meets = record { walks = refl; faults = refl }; meets_all = record { walks = refl; faults = refl }; simple = refl; entered = λ rest. refl; refused = λ rest. refl },
                  (
                    record { meets = record { walks = refl; faults = refl }; meets_all = record { walks = refl; faults = refl }; simple = refl; entered = λ rest. refl; refused = λ rest. refl },
                    (
                      record { meets = record { walks = refl; faults = refl }; meets_all = record { walks = refl; faults = refl }; simple = refl; entered = λ rest. refl; refused = λ rest. refl },
                      (
                        record { meets = record { walks = refl; faults = refl }; meets_all = record { walks = refl; faults = refl }; simple = refl; entered = λ rest. refl; refused = λ rest. refl },
                        (
                          record { meets = record { walks = refl; faults = refl }; meets_all = record { walks = refl; faults = refl }; simple = refl; entered = λ rest. refl; refused = λ rest. refl },
                          (
                            record { meets = record { walks = refl; faults = refl }; meets_all = record { walks = refl; faults = refl }; simple = refl; entered = λ rest. refl; refused = λ rest. refl },
                            (
                              record { meets = record { walks = refl; faults = refl }; meets_all = record { walks = refl; faults = refl }; simple = refl; entered = λ rest. refl; refused = λ rest. refl },
                              (
                                record { meets = record { walks = refl; faults = refl }; meets_all = record { walks = refl; faults = refl }; simple = refl; entered = λ rest. refl; refused = λ rest. refl },
                                (
                                  record { meets = record { walks = refl; faults = refl }; meets_all = record { walks = refl; faults = refl }; simple = refl; entered = λ rest. refl; refused = λ rest. refl },
                                  (
                                    record { meets = record { walks = refl; faults = refl }; meets_all = record { walks = refl; faults = refl }; simple = refl; entered = λ rest. refl; refused = λ rest. refl },
                                    tt,
                                  ),
                                ),
                              ),
                            ),
                          ),
                        ),
                      ),
                    ),
                  ),
                ),
              ),
            ),
          ),
        ),
      ),
    ),
  ),
)

some_is : {X : Type 0} (x y : X) → Some x ≡ Some y → x ≡ y
some_is x y e = ap (λ o. unwrap_or o x) e

-- the first of a name is like all
abbrev Found : Text → Subcommand → Type 0
Found name s = (name ≡ s.0.now) × Alike s

bytes_same : (xs ys : List ℕ) → bytes_eq xs ys ≡ true → xs ≡ ys
bytes_same xs ys same = (bytes_eq-Decides xs ys).0 same

here_or_later : (name : Text) (x s : Subcommand) (later : Option Subcommand) (b : Bool) → bytes_eq x.0.now name ≡ b → Alike x → (Some s ≡ later → Found name s)
    → Some s ≡ cond b (Some x) later → Found name s
here_or_later name x s later true is alike below e = subst (Found name) (sym (some_is _ _ e)) (sym (bytes_same x.0.now name is), alike)
here_or_later name x s later false is alike below e = below e

first_found : (name : Text) (subs : List Subcommand) (s : Subcommand) → EachAlike subs → Some s ≡ find (λ x. bytes_eq x.0.now name) subs → Found name s
first_found name [] s each e = cc
first_found name (x ∷ rest) s each e = here_or_later name x s _ _ refl each.0 (first_found name rest s each.1) e

-- a line whose second word names a subcommand
abbrev second : List (Bor (List ℕ)) → Text
second words = (get_or words 1 (record { ref_ptr = (0, 0); now = [] })).now

pub named_line : (words : List (Bor (List ℕ))) (s : Subcommand) → 2 ≤ length words → Some s ≡ named (second words) → ReadsAsAll (map (λ w. w.now) words) (one s)
named_line [] s few is = absurd (omega arith)
named_line (p ∷ []) s few is = absurd (omega arith)
named_line (p ∷ name ∷ rest) s few is =
    let found = first_found name.now subcommands s each_alike is in
    subst (λ n. ReadsAsAll (p.now ∷ n ∷ map (λ w. w.now) rest) (one s)) (sym found.0) (reads p.now s (map (λ w. w.now) rest) found.1)

pub all_read : (words : List Text) → ReadsAsAll words dethart_app
unfolding subcommands
all_read words = record { simple = refl; subcommand = refl; fault = refl }

pub with_app : {E : Type 0} (words : List Text) (r : Result Command E) (app : App) → ReadsAsAll words app → IfOk r (λ command. app_of command ≡ app)
    → IfOk r (λ command. ReadsAsAll words (app_of command))
with_app words r app reads = IfOk-weaker r (λ command. app_of command ≡ app) _ (λ command is. subst (ReadsAsAll words) (sym is) reads)
