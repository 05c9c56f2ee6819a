-- What a put and the end of a round do to their seat: while it holds the lock, and after the release.
use Rattle.std.proofs.Common.{◌≡◌, ℕ, ◌+◌, ◌-◌, ◌^◌, ◌<◌, ◌≤◌, false, List, [], ◌∷◌, ◌++◌, drop, length, length-append, refl, sym, ap, ◌∙◌, subst, arith}
use Rattle.atomic_table.specs.Seated.{TableId}
use Rattle.atomic_table.specs.Table.{Me, rest}
use Rattle.run_book.specs.declared.sitter.Sitter.{Sitter}
use Rattle.run_book.specs.Histories.{Made, IsHistory, harts_of, of_seat}
use Rattle.run_book.specs.Known.{Puts, TakesRound, known}
use Rattle.run_book.specs.Lists.{Apart}
use Rattle.run_book.specs.Rule.{Ended, Finds, GotLock, HasTaken, View}
use Rattle.run_book.specs.Seats.{Counted}
use Rattle.run_book.specs.Sitters.{sitter, with_lock, with_puts, with_turn, without_lock}
use Rattle.run_book.specs.Turns.{first_turn, turn_of}
use Rattle.run_book.proofs.Lists.{each_mapped, minus_all, minus_of, drop_begin, each_map, each_of_all}
use Rattle.run_book.proofs.Locking.{head_or}
use Rattle.run_book.proofs.Moves.{made}
use Rattle.run_book.proofs.Views.{of_seat_append, of_seat_mine, of_seat_shorter}

module _ {S E : Type 0} (items : S → List E) (room : S → ℕ) (hart seat : E → ℕ) where
  pub carried : (position : ℕ) (x : Sitter E) (m n : Me S (View E)) → GotLock items room hart seat position x m n → m.1 ≡ [] → (v : S) × (n.1 ≡ (0, v) ∷ rest n.1)
  carried position x m n got empty =
      let one : n.1 ≡ (0, got.found) ∷ [] = got.carries ∙ ap (λ (cs : List (ℕ × S)). (0, got.found) ∷ cs) empty in
      (got.found, one ∙ sym (ap (λ (cs : List (ℕ × S)). (0, got.found) ∷ rest cs) one))

  -- the lock was got, and the slot's value was changed for another
  pub has_taken : (position : ℕ) (x : Sitter E) (m n p : Me S (View E)) (now blank : S) → GotLock items room hart seat position x m n → m.1 ≡ [] → n.1 ≡ (0, now) ∷ rest n.1 → p ≡ (n.0, (0, blank) ∷ rest n.1)
      → HasTaken items room hart seat position x now blank p
  has_taken position x m n p now blank got empty lent given =
      let one : n.1 ≡ (0, got.found) ∷ [] = got.carries ∙ ap (λ (cs : List (ℕ × S)). (0, got.found) ∷ cs) empty in
      let same : got.found ≡ now = ap (head_or got.found) (sym one ∙ lent) in
      let sits : n.0 ≡ with_lock (got.before ++ items now) (items now) x ∷ [] = got.sees ∙ ap (λ (v : S). with_lock (got.before ++ items v) (items v) x ∷ []) same in
      record {
        before = got.before;
        is = given ∙ (ap (λ (v : View E). (v, (0, blank) ∷ rest n.1)) sits
            ∙ ap (λ (cs : List (ℕ × S)). (with_lock (got.before ++ items now) (items now) x ∷ [], (0, blank) ∷ rest cs)) one);
        finds = subst (Finds items room hart seat x position got.before) same got.finds;
      }

  -- a place with one sitter and the slot in hand
  pub stands_in : (z : Sitter E) (b : Me S (View E)) (v : S) → b ≡ (z ∷ [], (0, v) ∷ []) → (w : S) × (b.1 ≡ (0, w) ∷ rest b.1)
  stands_in z b v is = let slots : b.1 ≡ (0, v) ∷ [] = ap (λ (m : Me S (View E)). m.1) is in (v, slots ∙ sym (ap (λ (cs : List (ℕ × S)). (0, v) ∷ rest cs) slots))

  pub sits_in : (z : Sitter E) (b : Me S (View E)) (v : S) → b ≡ (z ∷ [], (0, v) ∷ []) → (b.0 ≡ sitter b.0 ∷ []) × (z ≡ sitter b.0)
  sits_in z b v is = let at : b.0 ≡ z ∷ [] = ap (λ (m : Me S (View E)). m.0) is in let y : z ≡ sitter b.0 = sym (ap sitter at) in (at ∙ ap (λ (w : Sitter E). w ∷ []) y, y)

  -- the slot's value is changed for another
  pub given_back : (z : Sitter E) (b c : Me S (View E)) (v w : S) → b ≡ (z ∷ [], (0, v) ∷ []) → c ≡ (b.0, (0, w) ∷ rest b.1) → c ≡ (z ∷ [], (0, w) ∷ [])
  given_back z b c v w is given = given ∙ ap (λ (m : Me S (View E)). (m.0, (0, w) ∷ rest m.1)) is

  pub same_value : (z : Sitter E) (b : Me S (View E)) (v w : S) → b ≡ (z ∷ [], (0, v) ∷ []) → b.1 ≡ (0, w) ∷ rest b.1 → w ≡ v
  same_value z b v w is has_w = let slots : b.1 ≡ (0, v) ∷ [] = ap (λ (m : Me S (View E)). m.1) is in ap (head_or v) (sym has_w ∙ slots)

  -- a seat that is at rest again, with the number and the harts that it had
  pub counts_after : (x y : Sitter E) (m p : Me S (View E)) (number harts round next own more seen now_seen : ℕ) → x ≡ sitter m.0 → Counted m number harts round own seen → p.0 ≡ y ∷ [] → p.1 ≡ []
      → y.holding ≡ false → y.number ≡ x.number → y.harts ≡ x.harts → next ≡ y.round → more ≡ length y.own → now_seen ≡ length y.seen
      → Counted p number harts next more now_seen
  counts_after x y m p number harts round next own more seen now_seen is c at empty idle same_number same_harts next_is more_is seen_is =
      let at_y : y ≡ sitter p.0 = sym (ap sitter at) in
      record {
        rest = record {
          alone = at ∙ sym (ap (λ (v : View E). sitter v ∷ []) at);
          empty = empty;
          idle = sym (ap (λ (z : Sitter E). z.holding) at_y) ∙ idle;
        };
        number_is = c.number_is ∙ (ap (λ (z : Sitter E). z.number) (sym is) ∙ (sym same_number ∙ ap (λ (z : Sitter E). z.number) at_y));
        harts_are = c.harts_are ∙ (ap (λ (z : Sitter E). z.harts) (sym is) ∙ (sym same_harts ∙ ap (λ (z : Sitter E). z.harts) at_y));
        round_is = next_is ∙ ap (λ (z : Sitter E). z.round) at_y;
        own_is = more_is ∙ ap (λ (z : Sitter E). length z.own) at_y;
        seen_is = seen_is ∙ ap (λ (z : Sitter E). length z.seen) at_y;
      }

  -- the seat that has taken the history, and after its put, and after it has ended a round or tried to
  abbrev pub locked_as : Sitter E → List E → S → Sitter E
  locked_as x before now = with_lock (before ++ items now) (items now) x

  abbrev pub after_put : Sitter E → List E → S → S → Sitter E
  after_put x before now w = with_puts (items w) (locked_as x before now)

  abbrev pub after_turn : Sitter E → List E → S → ℕ → Sitter E
  after_turn x before now next = without_lock (with_turn next (locked_as x before now))

  abbrev pub after_try : Sitter E → List E → S → Sitter E
  after_try x before now = without_lock (locked_as x before now)

  -- what the release tells of a seat and the slot that it gave up
  abbrev Freed : (m p : Me S (View E)) (w : S) → Type 0
  Freed m p w = (p.0 ≡ with_puts (items w) (sitter m.0) ∷ []) × (p.1 ≡ []) × IsHistory hart seat (sitter m.0).number (sitter m.0).claims ((sitter m.0).seen ++ drop (length (sitter m.0).page) (items w))

  pub freed_after : (z : Sitter E) (b p : Me S (View E)) (w : S) → b ≡ (z ∷ [], (0, w) ∷ []) → ((v : S) → b.1 ≡ (0, v) ∷ [] → Freed b p v)
      → (p.0 ≡ with_puts (items w) z ∷ []) × (p.1 ≡ []) × IsHistory hart seat z.number z.claims (z.seen ++ drop (length z.page) (items w))
  freed_after z b p w is tells = subst (λ (m : Me S (View E)). (v : S) → m.1 ≡ (0, v) ∷ [] → Freed m p v) is tells w refl

  added : (now w : S) (e : E) → items w ≡ items now ++ e ∷ [] → drop (length (items now)) (items w) ≡ e ∷ []
  added now w e pushed = ap (drop (length (items now))) pushed ∙ drop_begin (items now) (e ∷ [])

  pub one_more : (x : Sitter E) (before : List E) (now w : S) (own : ℕ) (e : E) → own ≡ length x.own → items w ≡ items now ++ e ∷ [] → own + 1 ≡ length (after_put x before now w).own
  one_more x before now w own e is pushed =
      let more = ap (λ (l : List E). length (x.own ++ l)) (added now w e pushed) in
      let sum = length-append x.own (e ∷ []) in
      omega arith

  -- the entry that is put is the last that the seat has seen
  pub seen_more : (x : Sitter E) (before : List E) (now w : S) (position : ℕ) (e : E) → Finds items room hart seat x position before now → items w ≡ items now ++ e ∷ [] → position ≡ length (after_put x before now w).seen
  seen_more x before now w position e finds pushed =
      let more = ap (λ (l : List E). length ((before ++ items now) ++ l)) (added now w e pushed) in
      let sum = length-append (before ++ items now) (e ∷ []) in
      let is = finds.position_is in
      omega arith

  pub fits_more : (x : Sitter E) (before : List E) (now : S) (position own : ℕ) → Finds items room hart seat x position before now → own ≡ length x.own → own + 1 < 2 ^ 64
  fits_more x before now position own finds is =
      let few = finds.position_fits in
      let here = finds.position_is in
      let mine = ap (λ (l : List E). length l) finds.own in
      let shorter = of_seat_shorter hart seat x.number (before ++ items now) in
      omega arith

  pub puts_after : (right : E → Type 0) → ((e : E) → right e) → (t u : TableId) (position : ℕ) (x : Sitter E) (b p : Me S (View E)) (now blank w : S) (e : E) → u ≡ t → (h : HasTaken items room hart seat position x now blank b)
      → p.0 ≡ after_put x h.before now w ∷ [] → items w ≡ items now ++ e ∷ [] → seat e ≡ x.number
      → IsHistory hart seat x.number x.claims ((h.before ++ items now) ++ drop (length (items now)) (items w)) → Puts hart seat right (known t x) e (known u (sitter p.0))
  puts_after right is_right t u position x b p now blank w e same_table h at pushed mine legal =
      let y : Sitter E = after_put x h.before now w in
      let at_y : y ≡ sitter p.0 = sym (ap sitter at) in
      let more = added now w e pushed in
      let all : List E = h.before ++ items now in
      let own : y.own ≡ x.own ++ e ∷ [] = ap (λ (l : List E). x.own ++ l) more in
      let seen : y.seen ≡ all ++ e ∷ [] = ap (λ (l : List E). all ++ l) more in
      subst (λ (z : Sitter E). Puts hart seat right (known t x) e (known u z)) at_y record {
        seen = (h.finds.begins.0, seen ∙ ap (λ (l : List E). l ++ e ∷ []) h.finds.begins.1);
        own = own;
        legal = legal;
        mine = own ∙ (ap (λ (l : List E). l ++ e ∷ []) h.finds.own
            ∙ sym (ap (of_seat hart seat x.number) seen
            ∙ (of_seat_append hart seat x.number all (e ∷ []) ∙ ap (λ (l : List E). of_seat hart seat x.number all ++ l) (of_seat_mine hart seat x.number e [] mine))));
        contents = each_of_all right y.seen is_right;
        rest = (same_table, refl, refl, refl, refl, refl);
      }

  -- what is taken is a round
  pub takes_round : (right : E → Type 0) → ((e : E) → right e) → (t u : TableId) (x : Sitter E) (p : Me S (View E)) (before : List E) (now : S) (found next : ℕ) → u ≡ t
      → before ≡ x.gone → p.0 ≡ after_turn x before now next ∷ [] → found ≡ turn_of x.round (length (items now)) → Ended hart seat found (locked_as x before now)
      → TakesRound hart seat right (known t x) next (items now) (known u (sitter p.0))
  takes_round right is_right t u x p before now found next same_table gone at found_is ended =
      let y : Sitter E = after_turn x before now next in
      let at_y : y ≡ sitter p.0 = sym (ap sitter at) in
      let round : ℕ = x.round in
      let same_round : ended.round ≡ round = (let c = ended.counts in omega arith) in
      subst (λ (z : Sitter E). TakesRound hart seat right (known t x) next (items now) (known u z)) at_y record {
        seen = ap (λ (l : List E). l ++ items now) gone;
        gone = ap (λ (l : List E). l ++ items now) gone;
        round = refl;
        round_is = record {
          apart = ended.apart;
          within = each_map (λ e. (first_turn ended.round ≤ hart e) × (hart e < turn_of ended.round (length (items now)))) (λ e. (first_turn round ≤ hart e) × (hart e < turn_of round (length (items now)))) (items now)
              (λ e b. ((let l = b.0 in omega arith), (let l = b.1 in omega arith))) ended.within;
          made = (
            ended.owners,
            ended.all_claimed,
            subst (λ (b : ℕ). Made (λ e. hart e - b) seat right (length (items now)) ended.owners (items now)) (let c = ended.counts in omega arith)
                (made (λ e. hart e - first_turn ended.round) seat right (length (items now)) is_right ended.owners (items now) (let c = ended.all_claimed in omega arith) ended.entries
                (subst Apart (minus_of hart (first_turn ended.round) (items now)) (minus_all (first_turn ended.round) (harts_of hart seat (items now))
                (each_mapped hart (λ y. first_turn ended.round ≤ y) (items now) (each_map (λ e. (first_turn ended.round ≤ hart e) × (hart e < turn_of ended.round (length (items now)))) (λ e. first_turn ended.round ≤ hart e) (items now) (λ e b. b.0) ended.within))
                ended.apart))),
          );
        };
        contents = each_of_all right (items now) is_right;
        rest = (same_table, refl, refl, refl, refl);
      }
