-- What stands in the slot: turns of the open round alone, apart, and so no more than there are harts.
use Rattle.std.proofs.Common.{◌≡◌, ℕ, ◌-◌, ◌*◌, ◌+◌, ◌<◌, ◌≤◌, true, false, List, ◌++◌, length, length-append, sym, ap, ◌∙◌, subst, arith, lt_of_not-le}
use mathlib.Core.Option.{some}
use mathlib.Core.Logic.{dite}
use mathlib.Core.List.{map-append}
use native.Mathlib.Decide.{dec_le}
use lib.ListN.{get_elem?}
use Rattle.atomic_table.specs.Table.{State}
use Rattle.run_book.specs.declared.sitter.Size.{Size}
use Rattle.run_book.specs.Histories.{harts_of}
use Rattle.run_book.specs.Lists.{Apart, Each, has}
use Rattle.run_book.specs.Rule.{BookHolds, View}
use Rattle.run_book.proofs.Lists.{Between, all_between, apart_right, each_both, each_mapped, each_right, elem_below, few_between, fewer_between, has_right, lacks_right, never}
use Rattle.run_book.proofs.Views.{length_harts}

module _ {S E : Type 0} (items : S → List E) (room : S → ℕ) (hart seat : E → ℕ) (size : Size) (s : State S (View E)) (k : BookHolds items room hart seat size s) where
  -- the first turn of the open round, and how many of it are claimed
  abbrev pub first : ℕ
  first = k.round * 4294967296

  abbrev pub claimed_now : ℕ
  claimed_now = length k.owners - first

  harts_are : harts_of hart seat k.log ≡ harts_of hart seat k.gone ++ harts_of hart seat k.page
  harts_are = ap (harts_of hart seat) k.log_is ∙ map-append hart k.gone k.page

  pub page_apart : Apart (harts_of hart seat k.page)
  page_apart = apart_right (harts_of hart seat k.gone) (harts_of hart seat k.page) (subst Apart harts_are k.apart)

  pub page_entries : Each (λ e. get_elem? k.owners (hart e) ≡ some (seat e)) k.page
  page_entries = each_right (λ e. get_elem? k.owners (hart e) ≡ some (seat e)) k.gone k.page
      (subst (Each (λ e. get_elem? k.owners (hart e) ≡ some (seat e))) k.log_is k.entries)

  pub entry_between : Each (λ e. Between first claimed_now (hart e)) k.page
  entry_between = each_both (λ e. first ≤ hart e) (λ e. get_elem? k.owners (hart e) ≡ some (seat e)) (λ e. Between first claimed_now (hart e)) k.page
      (λ e le at. (le, let b = elem_below k.owners (hart e) (seat e) at in let g = k.begun in omega arith)) k.here page_entries

  page_between : Each (Between first claimed_now) (harts_of hart seat k.page)
  page_between = each_mapped hart (Between first claimed_now) k.page entry_between

  pub few : length k.page ≤ claimed_now
  few = let f = few_between (harts_of hart seat k.page) first claimed_now page_apart page_between in let l = length_harts hart seat k.page in omega arith

  -- the history has fewer entries than there are turns up to the round's end, by one a round at least
  pub log_few : length k.log + k.round + 1 ≤ k.round * 4294967296 + 4294967296
  log_few = let f = few in let b = k.begun in let l = k.low in let t = k.taken in let s = k.small.0 in let a = ap (λ (l : List E). length l) k.log_is ∙ length-append k.gone k.page in omega arith

  -- what a seat claimed and nobody has put is of the open round
  pub unput_here : (h o : ℕ) → get_elem? k.owners h ≡ some o → o < size.seats → has (harts_of hart seat k.log) h ≡ false → first ≤ h
  unput_here h o at seated lacks = dite (dec_le first h) (λ le. le) (λ gt. absurd (never (has (harts_of hart seat k.log) h) (k.settled h o (lt_of_not-le gt) at seated) lacks))

  -- so the slot has room for it
  pub fewer : (h o : ℕ) → get_elem? k.owners h ≡ some o → o < size.seats → has (harts_of hart seat k.log) h ≡ false → length k.page < claimed_now
  fewer h o at seated lacks =
      let le = unput_here h o at seated lacks in
      let below = elem_below k.owners h o at in
      let g = k.begun in
      let f = fewer_between (harts_of hart seat k.page) first claimed_now h page_apart page_between le (omega arith)
      (lacks_right (harts_of hart seat k.gone) (harts_of hart seat k.page) h (sym (ap (λ (l : List ℕ). has l h) harts_are) ∙ lacks)) in
      let l = length_harts hart seat k.page in
      omega arith

  -- as many entries as claims: each claimed turn of the round is put
  pub all_put : (t : ℕ) → length k.page ≡ claimed_now → first ≤ t → t < length k.owners → has (harts_of hart seat k.log) t ≡ true
  all_put t long le lt =
      let l = length_harts hart seat k.page in
      let g = k.begun in
      ap (λ (n : List ℕ). has n t) harts_are
      ∙ has_right (harts_of hart seat k.gone) (harts_of hart seat k.page) t
      (all_between (harts_of hart seat k.page) first claimed_now t page_apart page_between (omega arith) le (omega arith))
