-- Tables that are read file by file.
use Rattle.std.proofs.Common.{◌≡◌, ◌∙◌, ◌+◌, ◌<◌, ◌++◌, ◌∷◌, [], Bor, List, ap, drop, get_or, inl, inr, length, map, subst, sym, take, ⊎_elim, ℕ}
use Rattle.std.proofs.lemmas.List.{drop_more, map-append, take-append-drop, take_more}
use Rattle.std.proofs.lemmas.List.Elements.{All-push}
use Rattle.hunt_commands.specs.Merges.{AreRead, HoldsNone, HoldsTable, IsOneOf, IsReadEnd, IsUntabled, TellsFirst, path_of}
use Rattle.program_files.specs.declared.failure.CommandFailure.{CommandFailure}
use Rattle.program_files.specs.declared.failure.CommandFailure.TheVariants as failures
use Rattle.hunt_commands.specs.declared.table_files.TableFile.{TableFile}
use Rattle.program_files.proofs.Failing.{named_too}
use Rattle.program_files.specs.Relations.{FileRelations}

abbrev words_of : List (Bor (List ℕ)) → List (List ℕ)
words_of paths = map (λ s. s.now) paths

-- one more file is read
pub read_more : (world : FileRelations) (paths : List (Bor (List ℕ))) (i : ℕ) (d : Bor (List ℕ)) (files : List TableFile) (f : TableFile) →
    i < length paths → f.path.now ≡ (get_or paths i d).now → HoldsTable world f → AreRead world (words_of (take i paths)) files →
    AreRead world (words_of (take (i + 1) paths)) (files ++ f ∷ [])
read_more world paths i d files f lt path held read = record {
  of_paths = map-append path_of files (f ∷ []) ∙ ap (λ (ps : List (List ℕ)). ps ++ f.path.now ∷ []) read.of_paths
      ∙ ap (λ (p : List ℕ). words_of (take i paths) ++ p ∷ []) path
      ∙ sym (map-append (λ (s : Bor (List ℕ)). s.now) (take i paths) (get_or paths i d ∷ []))
      ∙ ap words_of (sym (take_more paths i d lt));
  held = All-push (HoldsTable world) files f read.held held;
}

-- the words before one, it, and those behind it
parts : (paths : List (Bor (List ℕ))) (i : ℕ) (d : Bor (List ℕ)) → i < length paths →
    words_of paths ≡ words_of (take i paths) ++ (get_or paths i d).now ∷ words_of (drop (i + 1) paths)
parts paths i d lt = ap words_of (sym (take-append-drop i paths) ∙ ap (λ (ps : List (Bor (List ℕ))). take i paths ++ ps) (drop_more paths i d lt))
    ∙ map-append (λ (s : Bor (List ℕ)). s.now) (take i paths) (get_or paths i d ∷ drop (i + 1) paths)

-- the file of the next path held no table
none_so : (world : FileRelations) (paths : List (Bor (List ℕ))) (i : ℕ) (d : Bor (List ℕ)) (files : List TableFile) (e : CommandFailure) →
    i < length paths → AreRead world (words_of (take i paths)) files → HoldsNone world (get_or paths i d).now e → TellsFirst world (words_of paths) e
none_so world paths i d files (failures.NotATable path) lt read h = record {
  before = files;
  after = words_of (drop (i + 1) paths);
  stands = parts paths i d lt
      ∙ ap (λ (ps : List (List ℕ)). ps ++ (get_or paths i d).now ∷ words_of (drop (i + 1) paths)) (sym read.of_paths)
      ∙ ap (λ (p : List ℕ). map path_of files ++ p ∷ words_of (drop (i + 1) paths)) (sym h.0);
  tables = read.held;
  text = h.1;
  held = subst (λ (p : List ℕ). world.holds p h.1) (sym h.0) h.2;
  no_table = h.3;
}
none_so world paths i d files _ lt read h = absurd h

-- or it can't be read
pub untabled_so : (world : FileRelations) (paths : List (Bor (List ℕ))) (i : ℕ) (d : Bor (List ℕ)) (files : List TableFile) (e : CommandFailure) →
    i < length paths → AreRead world (words_of (take i paths)) files → IsUntabled world (get_or paths i d).now e → IsReadEnd world (words_of paths) e
untabled_so world paths i d files e lt read h = ⊎_elim (λ unread. inl (named_too world _ (IsOneOf (words_of paths)) _ _ e (λ path is. (
  words_of (take i paths),
  words_of (drop (i + 1) paths),
  parts paths i d lt ∙ ap (λ (p : List ℕ). words_of (take i paths) ++ p ∷ words_of (drop (i + 1) paths)) (sym is),
)) (λ none. none) unread)) (λ none. inr (none_so world paths i d files e lt read none)) h
