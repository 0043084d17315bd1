use Rattle.std.proofs.Common.{◌≡◌, ℕ, length, arith, subst}
use Rattle.rgo_code_text.specs.Building.{names_now}
use Rattle.rgo_code_text.specs.Opened.{IsNumberedInstr}
use Rattle.rgo_code_text.proofs.building.next_instr.Goals as goal

pub returns : goal.returns
returns c =
    let o = c.args.current.now in
    let list : c.len-list.result ≡ length o.instrs.items = omega (arith, c.len-list.ensures, o.instrs.ok) in
    subst (λ (k : ℕ). IsNumberedInstr (names_now c.args.tables.now) c.args.op.now k c.numbered_instr.result) list
    c.numbered_instr.ensures
