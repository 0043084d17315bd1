use Rattle.rgo_code_printing.specs.Text.{Names}
use Rattle.rgo_code_text.specs.Written.{empty_names}
use Rattle.rgo_code_text.proofs.naming.Tables.{names_same}
use Rattle.rgo_code_text.proofs.numbers.no_tables.Goals as goal

pub returns : goal.returns
returns c =
    let made : Names = record { structs = c.new.result; variables = c.new-2.result; functions = c.new-3.result } in
    names_same made empty_names c.new.ensures c.new-2.ensures c.new-3.ensures
