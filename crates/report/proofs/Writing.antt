-- One text after another, on its way to a sink.
use Rattle.std.proofs.Common.{◌≡◌, ℕ, ◌<◌, ◌⊎◌, ⊎_elim, inl, inr, OnOk, OnErr, IfErr, List, [], ◌++◌, length, take, drop, Result, Ok, Err, MatchResult, refl, sym, ap, subst, ◌∙◌, arith, append_assoc, append-nil}
use Rattle.std.proofs.Math.Seq.{take-append_seam}
use Rattle.std.proofs.lemmas.List.{length-append, take-append-drop}
use Rattle.host_io.specs.Taken.{BeganText, WritesText}
use Rattle.host_io.specs.declared.error.RunError.{RunError}
use Rattle.host_io.specs.declared.error.RunError.TheVariants.{OutOfMemory, SinkFailed}
use Rattle.report.specs.Pending.{Way, way, Split, Refused, Wrote}

abbrev Answer : Type 0
Answer = Result (Unit {0}) RunError

split_then : (a b c l t r u q : List ℕ) → Split a b (l ++ t) r → Split b c (r ++ u) q → Split a c (l ++ (t ++ u)) q
split_then a b c l t r u q p n = record {
  gone = p.gone ++ n.gone;
  out = n.out ∙ ap (λ (z : List ℕ). z ++ n.gone) p.out ∙ append_assoc a p.gone n.gone;
  text_is = sym (append_assoc l t u) ∙ ap (λ (z : List ℕ). z ++ u) p.text_is ∙ append_assoc p.gone r u ∙ ap (λ (z : List ℕ). p.gone ++ z) n.text_is ∙ sym (append_assoc p.gone n.gone q);
}

split_more : (a b l t r u : List ℕ) → Split a b (l ++ t) r → Split a b (l ++ (t ++ u)) (r ++ u)
split_more a b l t r u p = record {
  gone = p.gone;
  out = p.out;
  text_is = sym (append_assoc l t u) ∙ ap (λ (z : List ℕ). z ++ u) p.text_is ∙ append_assoc p.gone r u;
}

pub wrote_none : (s : Way) → Wrote [] s (Ok tt) s
unfolding Wrote
wrote_none s = (refl, record { gone = []; out = sym (append-nil s.took); text_is = append-nil s.line })

-- the line has more
pub wrote_line : (t u line : List ℕ) (s m : Way) → Wrote t s (Ok tt) m → line ≡ m.line ++ u → Wrote (t ++ u) s (Ok tt) (record m { line = line })
unfolding Wrote
wrote_line t u line s m h e =
    let p = split_more s.took m.took s.line t m.line u h.1 in
    (h.0, record { gone = p.gone; out = p.out; text_is = p.text_is ∙ ap (λ (z : List ℕ). p.gone ++ z) (sym e) })

refused_after : (e : RunError) (a b c : ℕ) → b ≡ a → Refused e b c → Refused e a c
refused_after e a b c h r = subst (λ (n : ℕ). Refused e n c) h r

-- one text, and then another
pub wrote_then : (t u : List ℕ) (s m : Way) (r : Answer) (n : Way) → Wrote t s (Ok tt) m → Wrote u m r n → Wrote (t ++ u) s r n
unfolding Wrote
wrote_then t u s m (Ok v) n h k = (k.0 ∙ h.0, split_then s.took m.took n.took s.line t m.line u n.line h.1 k.1)
wrote_then t u s m (Err e) n h k = (refused_after e s.failures m.failures n.failures h.0 k.0, (k.1.0, split_then s.took m.took n.took s.line t m.line u k.1.0 h.1 k.1.1))

-- a text that is not done is a part of a longer one
pub wrote_part : (t u : List ℕ) (s n : Way) (e : RunError) → Wrote t s (Err e) n → Wrote (t ++ u) s (Err e) n
unfolding Wrote
wrote_part t u s n e h = (h.0, (h.1.0 ++ u, split_more s.took n.took s.line t h.1.0 u h.1.1))

-- memory is refused after a text
pub wrote_refused : (t u line : List ℕ) (s m : Way) → Wrote t s (Ok tt) m → Wrote (t ++ u) s (Err OutOfMemory) (record m { line = line })
unfolding Wrote
wrote_refused t u line s m h = (inl (refl, h.0), (m.line ++ u, split_more s.took m.took s.line t m.line u h.1))

pub refused_at_once : (u line : List ℕ) (s : Way) → Wrote u s (Err OutOfMemory) (record s { line = line })
refused_at_once u line s = wrote_refused [] u line s s (wrote_none s)

-- the whole of what was said
pub put_whole : (s : Way) (took line : List ℕ) (failures : ℕ) → took ≡ s.took ++ s.line → failures ≡ s.failures → line ≡ [] → Wrote [] s (Ok tt) (way took failures line)
unfolding Wrote
put_whole s took line failures e f l = (f, record { gone = s.line; out = e; text_is = ap (λ (z : List ℕ). s.line ++ z) (sym l) })

put_begun_text : (text : List ℕ) (n : ℕ) → text ++ [] ≡ take n text ++ drop n text
put_begun_text text n = append-nil text ∙ sym (take-append-drop n text)

pub put_begun : (s : Way) (took : List ℕ) (line : List ℕ) (failures : ℕ) → BeganText s.took took s.line → s.failures < failures → Wrote [] s (Err SinkFailed) (way took failures line)
unfolding Wrote
put_begun s took line failures b f = (inr (refl, f), (drop b.count s.line, record { gone = take b.count s.line; out = b.bytes; text_is = put_begun_text s.line b.count }))

began : (old new text rest : List ℕ) → Split old new text rest → BeganText old new text
began old new text rest p = record {
  count = length p.gone;
  within = omega (arith, ap length p.text_is, length-append p.gone rest);
  bytes = p.out ∙ ap (λ (z : List ℕ). old ++ z) (sym (ap (take (length p.gone)) p.text_is ∙ take-append_seam p.gone rest));
}

pub all_put : (text : List ℕ) (s n : Way) (r : Answer) → s.line ≡ [] → Wrote text s r n → MatchResult r (λ _. n.line ≡ [] → n.took ≡ s.took ++ text) (λ e. BeganText s.took n.took text × Refused e s.failures n.failures)
unfolding Wrote
all_put text s n (Ok v) l h = λ q.
    let same : text ≡ h.1.gone = ap (λ (z : List ℕ). z ++ text) (sym l) ∙ h.1.text_is ∙ ap (λ (z : List ℕ). h.1.gone ++ z) q ∙ append-nil h.1.gone in
    h.1.out ∙ ap (λ (z : List ℕ). s.took ++ z) (sym same)
all_put text s n (Err e) l h = (subst (λ (z : List ℕ). BeganText s.took n.took (z ++ text)) l (began s.took n.took (s.line ++ text) h.1.0 h.1.1), h.0)

-- with the answers that a program passes on

pub line_then : (u line : List ℕ) (s : Way) (r : Answer) (n : Way) → line ≡ s.line ++ u → Wrote [] (record s { line = line }) r n → Wrote u s r n
line_then u line s r n e h = subst (λ (z : List ℕ). Wrote z s r n) (append-nil u) (wrote_then u [] s (record s { line = line }) r n (wrote_line [] u line s s (wrote_none s) e) h)

pub refused_by : (u line : List ℕ) (s : Way) (r : Answer) → r ≡ Err OutOfMemory → Wrote u s r (record s { line = line })
refused_by u line s r e = subst (λ (z : Answer). Wrote u s z (record s { line = line })) (sym e) (refused_at_once u line s)

pub passed_on : (t : List ℕ) (s n : Way) (e : RunError) (r : Answer) → r ≡ Err e → Wrote t s (Err e) n → Wrote t s r n
passed_on t s n e r q h = subst (λ (z : Answer). Wrote t s z n) (sym q) h

pub loop_more : (t u v : List ℕ) (s m n : Way) → Wrote t s (Ok tt) m → Wrote u m (Ok tt) n → v ≡ t ++ u → Wrote v s (Ok tt) n
loop_more t u v s m n h k e = subst (λ (z : List ℕ). Wrote z s (Ok tt) n) (sym e) (wrote_then t u s m (Ok tt) n h k)

pub loop_stop : (t u w v : List ℕ) (s m n : Way) (e : RunError) (r : Answer) → Wrote t s (Ok tt) m → Wrote u m (Err e) n → r ≡ Err e → v ≡ (t ++ u) ++ w → Wrote v s r n
loop_stop t u w v s m n e r h k f q = subst (λ (z : List ℕ). Wrote z s r n) (sym q) (passed_on ((t ++ u) ++ w) s n e r f (wrote_part (t ++ u) w s n e (wrote_then t u s m (Err e) n h k)))

pub same_text : (t v : List ℕ) (s : Way) (r : Answer) (n : Way) → t ≡ v → Wrote t s r n → Wrote v s r n
same_text t v s r n e h = subst (λ (z : List ℕ). Wrote z s r n) e h

-- what the answer says

pub whole_of : (text : List ℕ) (s n : Way) (r : Answer) → s.line ≡ [] → Wrote text s r n → OnOk r (n.line ≡ []) → OnOk r (n.took ≡ s.took ++ text)
whole_of text s n (Ok v) l h p = all_put text s n (Ok v) l h p
whole_of text s n (Err e) l h p = tt

pub begun_of : (text : List ℕ) (s n : Way) (r : Answer) → s.line ≡ [] → Wrote text s r n → OnErr r (BeganText s.took n.took text)
begun_of text s n (Ok v) l h = tt
begun_of text s n (Err e) l h = let p = all_put text s n (Err e) l h in p.0

other : (e : RunError) → e ≡ OutOfMemory → e ≡ SinkFailed → ⊥
other e p q = cc

failed_by : (e : RunError) (old new : ℕ) → Refused e old new → e ≡ SinkFailed → old < new
failed_by e old new h q = ⊎_elim (λ m. absurd (other e m.0 q)) (λ f. f.1) h

pub sink_of : (text : List ℕ) (s n : Way) (r : Answer) → s.line ≡ [] → Wrote text s r n → r ≡ Err SinkFailed → s.failures < n.failures
sink_of text s n (Ok v) l h e = cc
sink_of text s n (Err x) l h e =
    let p = all_put text s n (Err x) l h in
    let is : x ≡ SinkFailed = cc in
    failed_by x s.failures n.failures p.1 is

pub errors_of : (text : List ℕ) (s n : Way) (r : Answer) → s.line ≡ [] → Wrote text s r n → IfErr r (λ e. (e ≡ OutOfMemory) ⊎ (e ≡ SinkFailed))
errors_of text s n (Ok v) l h = tt
errors_of text s n (Err x) l h = let p = all_put text s n (Err x) l h in ⊎_elim (λ m. inl m.0) (λ f. inr f.0) p.1

-- all of it, of a call whose line is empty before and after
pub writes_of : (text : List ℕ) (s n : Way) (r : Answer) → s.line ≡ [] → Wrote text s r n → OnOk r (n.line ≡ []) → WritesText text s.took s.failures r n.took n.failures
writes_of text s n r l h p = record { ok = whole_of text s n r l h p; begun = begun_of text s n r l h; sink = sink_of text s n r l h; errors = errors_of text s n r l h }

sink_only : (e : RunError) → ◌≡◌ {A = Answer} (Err e) (Err SinkFailed) → e ≡ SinkFailed
sink_only e q = cc

-- a text that is put at once, where none stands before it
pub put_by : (text bytes : List ℕ) (s : Way) (r : Answer) (n : Way) → bytes ≡ text → s.line ≡ [] → n.line ≡ [] → OnOk r (n.took ≡ s.took ++ bytes) → OnErr r (BeganText s.took n.took bytes) → OnErr r (s.failures < n.failures) → OnErr r (r ≡ Err SinkFailed) → OnOk r (n.failures ≡ s.failures) → Wrote text s r n
unfolding Wrote
put_by text bytes s (Ok v) n e l m ok begun failed only counts = (
  counts,
  record {
    gone = text;
    out = ok ∙ ap (λ (z : List ℕ). s.took ++ z) e;
    text_is = ap (λ (z : List ℕ). z ++ text) l ∙ sym (append-nil text) ∙ ap (λ (z : List ℕ). text ++ z) (sym m);
  },
)
put_by text bytes s (Err x) n e l m ok begun failed only counts = (
  inr (sink_only x only, failed),
  (
    drop begun.count text,
    record {
      gone = take begun.count text;
      out = begun.bytes ∙ ap (λ (z : List ℕ). s.took ++ take begun.count z) e;
      text_is = ap (λ (z : List ℕ). z ++ text) l ∙ sym (take-append-drop begun.count text);
    },
  ),
)

-- a text that goes by a line of its own, which is empty before and after
pub by_own_line : (text line : List ℕ) (s n : Way) (r : Answer) → line ≡ [] → OnOk r (n.line ≡ []) → Wrote text (record s { line = line }) r n → Wrote text (record s { line = [] }) r (record n { line = [] })
unfolding Wrote
by_own_line text line s n (Ok v) none empty h =
    let p = h.1 in
    (h.0, record { gone = p.gone; out = p.out; text_is = ap (λ (z : List ℕ). z ++ text) (sym none) ∙ p.text_is ∙ ap (λ (z : List ℕ). p.gone ++ z) empty })
by_own_line text line s n (Err e) none empty h =
    let p = h.1.1 in
    (h.0, (h.1.0, record { gone = p.gone; out = p.out; text_is = ap (λ (z : List ℕ). z ++ text) (sym none) ∙ p.text_is }))

-- what was put is put with no more after it
pub put_now : (text : List ℕ) (s m : Way) (r : Answer) (n : Way) → Wrote text s (Ok tt) m → Wrote [] m r n → Wrote text s r n
put_now text s m r n h k = subst (λ (z : List ℕ). Wrote z s r n) (append-nil text) (wrote_then text [] s m r n h k)
