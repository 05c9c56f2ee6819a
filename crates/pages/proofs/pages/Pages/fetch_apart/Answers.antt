use Rattle.std.proofs.Common.{◌≡◌, ◌≤◌, ◌+◌, subst, arith, rules, length, true, false, refl}
use Rattle.pages.specs.Memory.{all_code, number_at}
use Rattle.pages.specs.Paged.{Paged}
use Rattle.pages.proofs.Accesses.{fetch_apart, fetch_outside, word_of_bytes}
use Rattle.pages.proofs.pages.Pages.fetch_apart.Goals as goal
use Rattle.pages.proofs.pages.Pages.fetch_apart.Goals.{then-pc-len-via-then-pc-len, then-pc-len-via-else-pc-len+then-len-pc-lt4}

pub returns-then-pc-len : goal.returns-then-pc-len
returns-then-pc-len c =
    elim c.then-pc-len.branch [
      | then-pc-len-via-then-pc-len w ↦ fetch_outside c.args.self.now.memory c.args.pc (omega (arith, w.if-pc-len.true, c.count.ensures.bytes))
      | then-pc-len-via-else-pc-len+then-len-pc-lt4 w ↦ fetch_outside c.args.self.now.memory c.args.pc (omega (arith, w.if-pc-len.false, w.if-len-pc-lt4.true, c.count.ensures.bytes))
    ]

pub returns-then-not-all_code_at : goal.returns-then-not-all_code_at
returns-then-not-all_code_at c =
    let end : c.args.pc + 4 ≤ length c.args.self.now.memory.bytes = search rules in
    let code : all_code c.self.inside.code.items c.args.pc 4 ≡ false = search rules in
    let code' : all_code c.args.self.now.memory.code c.args.pc 4 ≡ false = subst (λ (h : Paged). all_code h.memory.code c.args.pc 4 ≡ false) c.self.view_is code in
    fetch_apart c.args.self.now.memory c.args.pc (number_at c.args.self.now.memory.bytes c.args.pc 4) false end code' refl

pub returns : goal.returns
returns c =
    let end : c.args.pc + 4 ≤ length c.args.self.now.memory.bytes = search rules in
    let code : all_code c.self.inside.code.items c.args.pc 4 ≡ true = search rules in
    let code' : all_code c.args.self.now.memory.code c.args.pc 4 ≡ true = subst (λ (h : Paged). all_code h.memory.code c.args.pc 4 ≡ true) c.self.view_is code in
    let number : number_at c.args.self.now.memory.bytes c.args.pc 4 ≡ c.from_le_bytes.result = word_of_bytes c.args.self.now.memory.bytes c.args.pc c.byte.result c.byte-2.result c.byte-3.result c.byte-4.result c.from_le_bytes.result c.byte.ensures c.byte-2.ensures c.byte-3.ensures c.byte-4.ensures c.from_le_bytes.ensures in
    fetch_apart c.args.self.now.memory c.args.pc c.from_le_bytes.result true end code' number
