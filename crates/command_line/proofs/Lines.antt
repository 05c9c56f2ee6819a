-- A line that clap takes has met a subcommand of `dethart`.
use Rattle.std.proofs.Common.{◌≡◌, ◌⊎◌, ◌&&◌, inl, inr, cond, Bool, true, false, true≢false, refl, sym, ap, ◌∙◌, List, [], ◌∷◌, Option, Some, None, is_some, option_map, unwrap_or}
use Rattle.std.specs.Prelude.{find}
use Rattle.clap.specs.Simple.{Shape, argument_words, built, entered, is_simple, label_of, names_of, rows_at}
use Rattle.clap.specs.Faults.{check_fault, defaults_fault, entered_fault, fault_of, is_simple_and_free, settle_fault, walk_fault}
use Rattle.clap.specs.Kinds.{HasKind, Kinds, or_else}
use Rattle.clap.specs.declared.error.Error.{Error}
use Rattle.clap.specs.Walk.{answers_to, finished, nothing_held, rows_after, settled, walk, walk_from}
use Rattle.clap.specs.Words.{App, Row, Text, subcommand_of}
use Rattle.command_options.specs.Options.{dethart_app, subcommands}
use Rattle.command_line.specs.Names.{IsSubcommand}
use Rattle.command_line.specs.Faults.{line_fault, word_fault}

first_true : (a b : Bool) → (a && b) ≡ true → a ≡ true
first_true true b e = refl
first_true false b e = e

pub simple : (app : App) → is_simple_and_free app ≡ true → is_simple app ≡ true
simple app both = first_true (is_simple app) _ both

second_empty : (a b : Kinds) → or_else a b ≡ [] → b ≡ []
second_empty [] b e = e
second_empty (k ∷ ks) b e = cc

wants_subcommand : (rows : List Row) (has : Bool) → check_fault (built dethart_app).top rows has ≡ [] → has ≡ true
unfolding subcommands
wants_subcommand rows true e = refl
wants_subcommand rows false e = cc

abbrev pub IsNameOf : List Shape → Text → Type 0
IsNameOf [] name = ⊥
IsNameOf (s ∷ rest) name = (name ≡ s.name) ⊎ IsNameOf rest name

-- one of the subcommands, with the values after it
pub record Met (subs : List Shape) (o : Option (Text × List Row)) : Type 0 where
  pub name : Text
  pub rows : List Row
  pub is : o ≡ Some (name, rows)
  pub known : IsNameOf subs name

abbrev pub rows_by : List Text → Option Shape → Option (Text × List Row)
rows_by words = option_map (λ s. rows_at s words)

first_or_later : (here : Bool) (s : Shape) (rest : List Shape) (later : Option Shape) (words : List Text)
    → (is_some (rows_by words later) ≡ true → Met rest (rows_by words later))
    → is_some (rows_by words (cond here (Some s) later)) ≡ true → Met (s ∷ rest) (rows_by words (cond here (Some s) later))
first_or_later true s rest later words below e = record { name = s.name; rows = rows_after s.rules [] words; is = refl; known = inl refl }
first_or_later false s rest later words below e =
    let met = below e in
    record { name = met.name; rows = met.rows; is = met.is; known = inr met.known }

one_of_these : (subs : List Shape) (word : Text) (words : List Text) → is_some (rows_by words (find (λ s. answers_to word (label_of s)) subs)) ≡ true
    → Met subs (rows_by words (find (λ s. answers_to word (label_of s)) subs))
one_of_these [] word words e = absurd (true≢false (sym e))
one_of_these (s ∷ rest) word words e = first_or_later (answers_to word (label_of s)) s rest _ words (one_of_these rest word words) e

enters_one : (stop : Option (Text × List Text)) → is_some (entered (built dethart_app) stop) ≡ true → Met (built dethart_app).subs (entered (built dethart_app) stop)
enters_one None e = absurd (true≢false (sym e))
enters_one (Some p) e = one_of_these (built dethart_app).subs p.0 p.1 e

pub takes_one : (words : List Text) → fault_of dethart_app words ≡ [] → Met (built dethart_app).subs (subcommand_of dethart_app words)
takes_one words none =
    let top = (built dethart_app).top in
    let names = names_of (built dethart_app) in
    let end = walk top.rules names nothing_held (argument_words dethart_app words) in
    let below = second_empty (walk_fault top names (walk_from nothing_held) (argument_words dethart_app words)) _ none in
    let settling = second_empty (entered_fault (built dethart_app) end.stopped) _ below in
    let defaulting = second_empty (settle_fault top.rules top.args_override_self end.held) _ settling in
    let checking = second_empty (defaults_fault (settled top.rules end.held).rows top.rules) _ defaulting in
    enters_one end.stopped (wants_subcommand (finished top.rules end.held) (is_some (entered (built dethart_app) end.stopped)) checking)

pub is_known : (name : Text) → IsNameOf (built dethart_app).subs name → IsSubcommand name
unfolding subcommands
is_known name (inl e) = inl e
is_known name (inr (inl e)) = inr (inl e)
is_known name (inr (inr (inl e))) = inr (inr (inl e))
is_known name (inr (inr (inr (inl e)))) = inr (inr (inr (inl e)))
is_known name (inr (inr (inr (inr (inl e))))) = inr (inr (inr (inr (inl e))))
is_known name (inr (inr (inr (inr (inr (inl e)))))) = inr (inr (inr (inr (inr (inl e)))))
is_known name (inr (inr (inr (inr (inr (inr (inl e))))))) = inr (inr (inr (inr (inr (inr (inl e))))))
is_known name (inr (inr (inr (inr (inr (inr (inr (inl e)))))))) = inr (inr (inr (inr (inr (inr (inr (inl e)))))))
is_known name (inr (inr (inr (inr (inr (inr (inr (inr (inl e))))))))) = inr (inr (inr (inr (inr (inr (inr (inr (inl e))))))))
is_known name (inr (inr (inr (inr (inr (inr (inr (inr (inr (inl e)))))))))) = inr (inr (inr (inr (inr (inr (inr (inr (inr (inl e)))))))))
is_known name (inr (inr (inr (inr (inr (inr (inr (inr (inr (inr (inl e))))))))))) = inr (inr (inr (inr (inr (inr (inr (inr (inr (inr (inl e))))))))))
is_known name (inr (inr (inr (inr (inr (inr (inr (inr (inr (inr (inr (inl e)))))))))))) = inr (inr (inr (inr (inr (inr (inr (inr (inr (inr (inr (inl e)))))))))))
is_known name (inr (inr (inr (inr (inr (inr (inr (inr (inr (inr (inr (inr (inl e))))))))))))) = inr (inr (inr (inr (inr (inr (inr (inr (inr (inr (inr (inr (inl e))))))))))))
is_known name (inr (inr (inr (inr (inr (inr (inr (inr (inr (inr (inr (inr (inr (inl e)))))))))))))) = inr (inr (inr (inr (inr (inr (inr (inr (inr (inr (inr (inr (inr (inl e)))))))))))))
is_known name (inr (inr (inr (inr (inr (inr (inr (inr (inr (inr (inr (inr (inr (inr (inl e))))))))))))))) = inr (inr (inr (inr (inr (inr (inr (inr (inr (inr (inr (inr (inr (inr (inl e))))))))))))))
is_known name (inr (inr (inr (inr (inr (inr (inr (inr (inr (inr (inr (inr (inr (inr (inr (inl e)))))))))))))))) = inr (inr (inr (inr (inr (inr (inr (inr (inr (inr (inr (inr (inr (inr (inr (inl e)))))))))))))))
is_known name (inr (inr (inr (inr (inr (inr (inr (inr (inr (inr (inr (inr (inr (inr (inr (inr (inl e))))))))))))))))) = inr (inr (inr (inr (inr (inr (inr (inr (inr (inr (inr (inr (inr (inr (inr (inr (inl e))))))))))))))))
is_known name (inr (inr (inr (inr (inr (inr (inr (inr (inr (inr (inr (inr (inr (inr (inr (inr (inr (inl e)))))))))))))))))) = inr (inr (inr (inr (inr (inr (inr (inr (inr (inr (inr (inr (inr (inr (inr (inr (inr e))))))))))))))))
is_known name (inr (inr (inr (inr (inr (inr (inr (inr (inr (inr (inr (inr (inr (inr (inr (inr (inr (inr e)))))))))))))))))) = absurd e

-- an error of clap's is one of the line's
pub kept_first : (e : Error) (a b : Kinds) → HasKind a e → HasKind (or_else a b) e
kept_first e [] b (inl h) = inl h
kept_first e (k ∷ ks) b (inl h) = inl h
kept_first e [] b (inr h) = absurd h
kept_first e (k ∷ ks) b (inr h) = inr h

-- where clap has none, those of the line are those of the words that the program reads
pub after_clap : (words : List Text) (name : Text) (rows : List Row) → fault_of dethart_app words ≡ [] → subcommand_of dethart_app words ≡ Some (name, rows)
    → line_fault words ≡ word_fault (Some (name, rows))
after_clap words name rows none is = ap (λ k. or_else k (word_fault (subcommand_of dethart_app words))) none ∙ ap word_fault is

-- the name of the subcommand, by its rows
pub name_of : {X : Type 0} (f : X → Text × List Row) (o : Option X) → option_map (λ x. (f x).0) o ≡ option_map (λ p. p.0) (option_map f o)
name_of f None = refl
name_of f (Some x) = refl

pub some_is : {X : Type 0} (x y : X) → Some x ≡ Some y → x ≡ y
some_is x y e = ap (λ o. unwrap_or o x) e
