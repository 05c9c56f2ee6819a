-- `replace_slot` hands its references and facts on to `exchange`, for as long as it has them itself, and gives what comes back.
use Rattle.atomic_table.proofs.Names.{◌^◌, List, [], ◌∷◌, sym, refl, subst, lit<, w64, a_type, dcons, dnil, Val, vint, vptr, inst_fn, ent, id⊢, ‵, raw, ◌⊛◌, some, later, ◌$◌, ◌∵◌, !, qed, by, move, keep, split, join, fsplit, fsplit3, fjoin, pick, await, use1, feq_i, flt_i, stop, addr, of_opd, lit, and_then, no_more, returns, enter, alloc_all, pass_all, free_all, look_at, get, through, sets, lands_as, tables, yes, no, RattleType, owns, types_at, plain, nothing, peeks, param, bounded, alive, Stays, stay_dropped, walk_of, Goes-dropped, Is, shows, RefOf, WpFn, calls_at, triple_of}
use Rattle.atomic_table.proofs.Calls.{fm}
use Rattle.atomic_table.proofs.Walks.{leaves, proved_at}
use Rattle.std.proofs.mem.Param.{El, lawful, Good, one}
use denote.Param.Laws.{param_laws}
use denote.Triple.Entry.{Args}
use denote.Triple.Clauses.{Lasts, lasts, at_exit, Ended}
use denote.Triple.Walked.{gave_ref, Goes-gave_ref}
use Rattle.atomic_table.specs.contracts.shared.Shared as table
use Rattle.atomic_table.specs.contracts.shared.Seat as seat
use Rattle.atomic_table.specs.contracts.shared.Shared.exchange as callee
use Rattle.atomic_table.proofs.shared.Shared.exchange.Met.{met}
use Rattle.run_book.specs.contracts.slot.replace_slot.{ended, clauses}
use Rattle.run_book.specs.contracts.slot.replace_slot.Key.{name as #self}
use Rattle.run_book.proofs.slot.replace_slot.Statement.{statement}
use Rattle.run_book.proofs.slot.replace_slot.Code as code

pub replace_slot_spec : {M : Type 1} → statement M
replace_slot_spec 𝓤 𝓛 𝓜 𝓡 wired T U Q P L LU LQ LP g d kept =
    let H = 𝓛.H in let 𝓣 = tables 𝓤 H 𝓜 𝓡 𝓡.env in
    let R : RattleType = param 0 T in let E : El = record { row = T; laws = L } in
    let En = ended T U Q P g d in let c = clauses T U Q P g d 𝓛 𝓜.mem 𝓡.returns in
    let CE : Ended = callee.ended T U Q P g d in let cc = callee.clauses T U Q P g d 𝓛 𝓜.mem 𝓡.returns in
    let G = triple_of 𝓛 CE.signature (callee.spec T U Q P g d 𝓛 𝓜.mem 𝓡.returns) in
    let inst = bounded (a_type ∷ a_type ∷ a_type ∷ a_type ∷ []) (T, (U, (Q, (P, tt)))) (dcons d dnil) in let fn = inst_fn inst code.function in
    let self = RefOf (0 ∷ []) tt (plain (λ _. table.the_row R (param 1 U) (param 2 Q) (param 3 P) g)) (λ _. tt) in
    let sitter = plain (λ _. seat.the_row R (param 1 U)) in
    let hs : Stays En.signature.params En.kept = (stay_dropped self yes, (gave_ref (1 ∷ []) tt sitter, (stay_dropped (plain (λ _. R)) no, tt))) in
    let W = walk_of 𝓛 En hs c in
    proved_at 𝓛 En hs c 𝓜 𝓡 (Goes-dropped 𝓛 6 self yes (λ κs x f. refl), (Goes-gave_ref 𝓛 6 1 tt sitter, (Goes-dropped 𝓛 6 (plain (λ _. R)) no (λ κs x f. refl), tt)))
    (#self inst) fn (code.unfolded 𝓤 H 𝓜 𝓡 wired (T, (U, (Q, (P, tt)))) d)
    (λ y₀ are. let κs = y₀.0.0 in let qs = y₀.0.1 in let a = y₀.0.3 in
    -- the machine's values: two pointers, and the new value's one
    let at_table : Val = vptr a.0.ref_ptr.0 a.0.ref_ptr.1 in let at_seat : Val = vptr a.1.0.ref_ptr.0 a.1.0.ref_ptr.1 in
    let got = one E y₀.0.4.1.1.0 ((lawful E 𝓛).typed a.1.1.0 y₀.0.4.1.1.0 are.1.1.0) in let new : Val = got.0 in let good : Good E new = got.2 in
    let Values : Type 0 = List Val × (List Val × (List Val × Unit {0})) in
    let At : Values → W.Ghost = λ vss. ((κs, qs, y₀.0.2, a, vss), y₀.1) in
    let y : W.Ghost = At (at_table ∷ [], (at_seat ∷ [], (new ∷ [], tt))) in
    -- the same for `exchange`, with the slot's number
    let a' : Args CE.signature κs = (a.0, (a.1.0, (0, (a.1.1.0, tt)))) in
    let z : G.Ghost = ((κs, qs, y₀.0.2, a', (at_table ∷ [], (at_seat ∷ [], (vint w64 0 ∷ [], (new ∷ [], tt))))), y₀.1) in
    subst (λ (vss : Values). ent 𝓤 (W.pre (At vss)) (WpFn 𝓤 H 𝓣.C 𝓣.Λ fn (W.args (At vss)) (W.post (At vss)))) (λ i. (sym are.0.0 i, (sym are.1.0.0 i, (sym got.1 i, tt)))) (
    qed 𝓛 ((raw (alive 𝓛 En.signature κs qs) ⊛ ‵ (owns (types_at En.signature.params κs) a y.0.4)) ∷ raw ((c κs a).requires y₀.1) ∷ []) ∵
    split ! $ move ! (1 ∷ []) $ fsplit3 ! $
    -- [the table; the seat; the new value; the tokens; the facts]
    enter ! 𝓣.C 𝓣.Λ fn (at_table ∷ at_seat ∷ new ∷ []) (W.post y) $ alloc_all ! (λ l. pass_all ! refl ((tt, tt), ((tt, tt), (good, tt))) $
    sets ! (addr ! (through ! refl (stop !))) refl (tt, tt) $ sets ! (of_opd ! (get ! refl)) refl good $
    -- what `exchange` asks: the tokens, the four arguments, the facts
    move ! (2 ∷ []) $ flt_i ! 0 (2 ^ 64) (lit< tt) $ feq_i ! (List Val) (vint w64 0 ∷ []) (vint w64 0 ∷ []) refl $ fjoin ! $ fjoin ! $
    move ! (2 ∷ 0 ∷ []) $ fjoin ! $ move ! (1 ∷ 0 ∷ []) $ fjoin ! $ move ! (1 ∷ 0 ∷ []) $ join ! $ join ! $ use1 𝓛 (raw (G.pre z)) (id⊢ 𝓤 (G.pre z)) $
    calls_at ! (fm 𝓛 𝓜 𝓡) G (met 𝓤 𝓛 𝓜 𝓡 (code.calls-atomic_table::shared::Shared::exchange 𝓡.env wired) T U Q P L LU LQ LP g d kept) z
    (and_then ! (get ! refl) (and_then ! (get ! refl) (and_then ! (lit ! tt) (and_then ! (get ! refl) (no_more !))))) (λ v.
    use1 𝓛 (later (some (λ (r : T.Denot). (raw (alive 𝓛 CE.signature κs qs) ⊛ ‵ (R.own_val r (v ∷ []))) ⊛ some (λ (ws : Lasts CE κs a'). ‵ (lasts CE κs a' ws) ⊛ raw ((cc κs a').ensures y₀.1 r (at_exit CE κs a' ws))))))
    (id⊢ 𝓤 (G.post z v)) $ await ! tt $ pick ! (λ r. split ! $ split ! $ move ! (1 ∷ []) $
    -- [the value found; the tokens; what is left]
    peeks ! R (Is R) (shows 𝓛 R) r (v ∷ []) (λ is. lands_as ! refl refl (((param_laws 0 T L).lawful 𝓛).typed r (v ∷ []) is).0 $
    move ! (2 ∷ []) $ pick ! (λ ws. split ! $ fsplit ! $ move ! (1 ∷ []) $ fsplit ! $ returns ! (look_at ! 0 refl) $ free_all ! refl $
    -- [the seat; nothing; nothing; what is ensured; the value found; the tokens]
    nothing ! $ nothing ! $ fjoin ! $ move ! (1 ∷ 0 ∷ []) $ fjoin ! $ nothing ! $ fjoin ! $
    keep ! (5 ∷ 0 ∷ 4 ∷ 3 ∷ []) $ by ! (leaves 𝓛 En hs c y v r (tt, (ws.1.0, (tt, tt))) (tt, (tt, (tt, tt)))))))))))
