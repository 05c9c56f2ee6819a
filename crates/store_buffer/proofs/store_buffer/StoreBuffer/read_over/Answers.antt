use Rattle.std.proofs.Common.{◌≡◌, ◌<◌, ◌+◌, ◌/◌, ◌%◌, ◌∙◌, ℕ, List, Some, None, Ok, ap, sym, arith}
use Rattle.std.proofs.lemmas.Result.{err_from_is_err_and}
use Rattle.pages.specs.Memory.{after, value_at, width_bytes}
use Rattle.store_buffer.specs.Covered.{byte_at, stores_of}
use Rattle.store_buffer.specs.Lines.{line_at, line_of, lines_bytes, number_over}
use Rattle.store_buffer.proofs.LineNumbers.{in_one_line, one_line}
use Rattle.store_buffer.proofs.LineOrder.{line_missing, line_read, rising_lines}
use Rattle.store_buffer.proofs.LoadsOver.{load_err, load_ok, number_apart, number_under, small_bytes}
use Rattle.store_buffer.proofs.store_buffer.StoreBuffer.read_over.Goals as goal

pub returns-in_err-number : goal.returns-in_err-number
returns-in_err-number c =
    let p = err_from_is_err_and c.from_residual.result c.from_residual.ensures.1 in
    let failed = load_err c.args.p.now.memory (stores_of c.args.self.now) c.args.address c.args.width c.in_err-number.field-0.0 (sym c.in_err-number.ensures.value) in
    rw (p.1, p.2) (sym failed)

pub over-requires-clause-index : goal.over-requires-clause-index
over-requires-clause-index c =
    let ok = load_ok c.args.p.now.memory (stores_of c.args.self.now) c.args.address c.args.width c.in_ok-number.number (sym c.in_ok-number.ensures.value) in
    in_one_line c.args.address c.args.width ok.1

pub returns-in-Some : goal.returns-in-Some
returns-in-Some c =
    let m = c.args.p.now.memory in
    let a = c.args.address in
    let w = c.args.width in
    let es = c.self.inside.lines in
    let line = c.in-Some.line.now in
    let ok = load_ok m (stores_of c.args.self.now) a w c.in_ok-number.number (sym c.in_ok-number.ensures.value) in
    let page = in_one_line a w ok.1 in
    let order = c.self.invariant.rising in
    let found : Some line ≡ line_of es (a / 64) = c.in-Some.ensures in
    let there : (i : ℕ) → i < width_bytes w → byte_at (lines_bytes es) (a + i) ≡ line_at line (a % 64 + i) = λ i h.
    let t = one_line a i (omega arith) in
    line_read es line (a + i) order (found ∙ ap (line_of es) (sym t.0)) ∙ ap (line_at line) t.1 in
    let number : c.over.result ≡ value_at (after m.bytes (stores_of (lines_bytes es))) a w =
    c.over.ensures ∙ ap (λ n. number_over line (a % 64) n (width_bytes w)) (sym ok.0)
    ∙ number_under w line m.bytes (lines_bytes es) a (a % 64) ok.2 (rising_lines 0 es order) (small_bytes m.bytes c.bytes_fit.ensures) there in
    ap (λ n. Ok n) (number ∙ ap (λ (zs : List (ℕ × ℕ)). value_at (after m.bytes (stores_of zs)) a w) c.self.view_is) ∙ sym ok.3

pub returns-in-None : goal.returns-in-None
returns-in-None c =
    let m = c.args.p.now.memory in
    let a = c.args.address in
    let w = c.args.width in
    let es = c.self.inside.lines in
    let ok = load_ok m (stores_of c.args.self.now) a w c.in_ok-number.number (sym c.in_ok-number.ensures.value) in
    let page = in_one_line a w ok.1 in
    let order = c.self.invariant.rising in
    let missing : None ≡ line_of es (a / 64) = c.in-None.ensures in
    let absent : (i : ℕ) → i < width_bytes w → byte_at (lines_bytes es) (a + i) ≡ None = λ i h.
    let t = one_line a i (omega arith) in
    line_missing es (a + i) order (missing ∙ ap (line_of es) (sym t.0)) in
    let number : c.in_ok-number.number ≡ value_at (after m.bytes (stores_of (lines_bytes es))) a w =
    sym ok.0 ∙ number_apart w m.bytes (lines_bytes es) a ok.2 (rising_lines 0 es order) absent in
    ap (λ n. Ok n) (number ∙ ap (λ (zs : List (ℕ × ℕ)). value_at (after m.bytes (stores_of zs)) a w) c.self.view_is) ∙ sym ok.3
