-- What is written of a payload is read as that payload.
use Rattle.std.proofs.Common.{◌≡◌, ℕ, ◌+◌, ◌*◌, ◌/◌, ◌%◌, ◌≤◌, ◌<◌, Bool, true, false, List, [], ◌∷◌, ◌++◌, length, slice_index, Option, Some, None, refl, sym, ◌∙◌, ap, subst, append_assoc, append-nil, arith, length-append, eq-eqb}
use Rattle.std.specs.Prelude.{◌==◌, sum}
use Rattle.std.proofs.lemmas.Bool.{eqb-true}
use Rattle.hex.specs.Hex.{encode_with, hex_digit_value, lower_digits}
use Rattle.hex.proofs.HexLemmas.{IsDigits-lower_digits}
use Rattle.gdb_packets.specs.declared.payload.Kind.{Kind}
use Rattle.gdb_packets.specs.declared.payload.Kind.TheVariants.{Plain}
use Rattle.gdb_packets.specs.Payload.{behind, flipped, if_short, kind_of, most, read_behind}
use Rattle.gdb_packets.specs.Stream.{Told, Packet, framed, is_sum_of, next_of, packet_or_spoilt, told_of}
use Rattle.gdb_packets.specs.Writing.{WrittenIsRead, sent, sent_as}
use Rattle.gdb_packets.proofs.Ended.{is_short}
use Rattle.gdb_packets.proofs.Framing.{framed_behind, framed_end, framed_more}
use Rattle.gdb_packets.proofs.Told.{is_right}
use Rattle.gdb_packets.proofs.Units.{escaped_behind, plain_behind}

-- ---- one byte

record IsSent (b : ℕ) : Type 0 where
  pub comes : (bs more : List ℕ) → framed_behind bs (sent_as (kind_of b) b ++ more) ≡ framed_behind (bs ++ sent_as (kind_of b) b) more
  pub reads : (last : Option ℕ) (rest : List ℕ) → read_behind last (sent_as (kind_of b) b ++ rest) ≡ behind (b ∷ []) (read_behind (Some b) rest)
  pub long : 1 ≤ length (sent_as (kind_of b) b)

plain_is_sent : (b : ℕ) → kind_of b ≡ Plain → (b == 35) ≡ false → IsSent b
plain_is_sent b k e =
    let as_is : sent_as (kind_of b) b ≡ b ∷ [] = ap (λ (x : Kind). sent_as x b) k in
    record {
      comes = λ bs more.
          ap (λ (xs : List ℕ). framed_behind bs (xs ++ more)) as_is
          ∙ framed_more bs b more e
          ∙ ap (λ (xs : List ℕ). framed_behind (bs ++ xs) more) (sym as_is);
      reads = λ last rest. ap (λ (xs : List ℕ). read_behind last (xs ++ rest)) as_is ∙ plain_behind last b rest k;
      long = let n : length (sent_as (kind_of b) b) ≡ 1 = ap length as_is in omega (arith, n);
    }

escaped_is_sent : (b c : ℕ) → sent_as (kind_of b) b ≡ 125 ∷ c ∷ [] → flipped c ≡ b → (c == 35) ≡ false → IsSent b
escaped_is_sent b c as_two back e = record {
  comes = λ bs more.
      ap (λ (xs : List ℕ). framed_behind bs (xs ++ more)) as_two
      ∙ framed_more bs 125 (c ∷ more) refl
      ∙ framed_more (bs ++ 125 ∷ []) c more e
      ∙ ap (λ (xs : List ℕ). framed_behind xs more) (append_assoc bs (125 ∷ []) (c ∷ []))
      ∙ ap (λ (xs : List ℕ). framed_behind (bs ++ xs) more) (sym as_two);
  reads = λ last rest.
      ap (λ (xs : List ℕ). read_behind last (xs ++ rest)) as_two
      ∙ escaped_behind last 125 c rest refl
      ∙ ap (λ (x : ℕ). behind (x ∷ []) (read_behind (Some x) rest)) back;
  long = let n : length (sent_as (kind_of b) b) ≡ 2 = ap length as_two in omega (arith, n);
}

by_tests : (b : ℕ) (t u v w : Bool) → (b == 125) ≡ t → (b == 42) ≡ u → (b == 35) ≡ v → (b == 36) ≡ w → IsSent b
by_tests b true u v w e1 e2 e3 e4 = subst IsSent (sym (eqb-true b 125 e1)) (escaped_is_sent 125 93 refl refl refl)
by_tests b false true v w e1 e2 e3 e4 = subst IsSent (sym (eqb-true b 42 e2)) (escaped_is_sent 42 10 refl refl refl)
by_tests b false false true w e1 e2 e3 e4 = subst IsSent (sym (eqb-true b 35 e3)) (escaped_is_sent 35 3 refl refl refl)
by_tests b false false false true e1 e2 e3 e4 = subst IsSent (sym (eqb-true b 36 e4)) (escaped_is_sent 36 4 refl refl refl)
by_tests b false false false false e1 e2 e3 e4 = plain_is_sent b (rw (e1, e2, e3, e4) refl) e3

is_sent : (b : ℕ) → IsSent b
is_sent b = by_tests b (b == 125) (b == 42) (b == 35) (b == 36) refl refl refl refl

-- ---- all bytes

sent_comes : (payload bs more : List ℕ) → framed_behind bs (sent payload ++ more) ≡ framed_behind (bs ++ sent payload) more
sent_comes [] bs more = ap (λ (xs : List ℕ). framed_behind xs more) (sym (append-nil bs))
sent_comes (b ∷ payload) bs more =
    let s = sent_as (kind_of b) b in
    ap (framed_behind bs) (append_assoc s (sent payload) more)
    ∙ (is_sent b).comes bs (sent payload ++ more)
    ∙ sent_comes payload (bs ++ s) more
    ∙ ap (λ (xs : List ℕ). framed_behind xs more) (append_assoc bs s (sent payload))

sent_reads : (payload : List ℕ) (last : Option ℕ) → read_behind last (sent payload) ≡ Some payload
unfolding read_behind
sent_reads [] last = refl
sent_reads (b ∷ payload) last = (is_sent b).reads last (sent payload) ∙ ap (behind (b ∷ [])) (sent_reads payload (Some b))

sent_long : (payload : List ℕ) → length payload ≤ length (sent payload)
sent_long [] = omega arith
sent_long (b ∷ payload) =
    omega (arith, length-append (sent_as (kind_of b) b) (sent payload), sent_long payload, (is_sent b).long)

-- ---- the two digits

digits_say : (bs : List ℕ) →
    is_sum_of bs (hex_digit_value (slice_index lower_digits (sum bs % 256 / 16))) (hex_digit_value (slice_index lower_digits (sum bs % 256 % 16))) ≡ true
digits_say bs =
    let byte : sum bs % 256 < 256 = omega arith in
    let high = IsDigits-lower_digits (sum bs % 256 / 16) (omega (arith, byte)) in
    let low = IsDigits-lower_digits (sum bs % 256 % 16) (omega (arith, byte)) in
    ap (λ (x : Option ℕ). is_sum_of bs x (hex_digit_value (slice_index lower_digits (sum bs % 256 % 16)))) high
    ∙ ap (λ (x : Option ℕ). is_sum_of bs (Some (sum bs % 256 / 16)) x) low
    ∙ eq-eqb (sum bs % 256) (sum bs % 256 / 16 * 16 + sum bs % 256 % 16) (omega arith)

-- ---- a packet

packet_told : (payload : List ℕ) → length (sent payload) ≤ most →
    told_of (sent payload) (slice_index lower_digits (sum (sent payload) % 256 / 16)) (slice_index lower_digits (sum (sent payload) % 256 % 16)) ≡ Packet payload
packet_told payload le =
    let short : length payload ≤ most = omega (arith, sent_long payload, le) in
    let high = slice_index lower_digits (sum (sent payload) % 256 / 16) in
    let low = slice_index lower_digits (sum (sent payload) % 256 % 16) in
    is_right (sent payload) high low le (digits_say (sent payload))
    ∙ ap (λ (found : Option (List ℕ)). packet_or_spoilt (if_short found)) (sent_reads payload None)
    ∙ ap packet_or_spoilt (is_short payload short)

pub written : WrittenIsRead
unfolding next_of encode_with
written payload more le =
    let n = sum (sent payload) % 256 in
    let high = slice_index lower_digits (n / 16) in
    let low = slice_index lower_digits (n % 16) in
    ap framed (append_assoc (sent payload) (35 ∷ high ∷ low ∷ []) more)
    ∙ sent_comes payload [] (35 ∷ high ∷ low ∷ more)
    ∙ framed_end (sent payload) (high ∷ low ∷ more)
    ∙ ap (λ (x : Told). Some (x, more)) (packet_told payload le)
