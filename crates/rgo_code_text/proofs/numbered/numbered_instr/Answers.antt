use Rattle.rgo_code_text.specs.Building.{names_now}
use Rattle.rgo_code_text.proofs.op_lines.CopyInstrs.{copy_numbered}
use Rattle.rgo_code_text.proofs.numbered.numbered_instr.Goals as goal

pub returns-in-Copy : goal.returns-in-Copy
returns-in-Copy c =
    copy_numbered (names_now c.args.tables.now) c.args.op.now c.args.list c.in-Copy.d c.in-Copy.a c.in-Copy.is c.copy.result
    c.copy.ensures
