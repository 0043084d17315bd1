use Rattle.rgo_code_text.proofs.code_of_lines.Opening.{fn_completed}
use Rattle.rgo_code_text.proofs.building.completed.Goals as goal

pub returns : goal.returns
returns c =
    let o = c.args.current in
    fn_completed c.in_ok-function.function o.name o.params o.result_type o.result c.in_ok-function.ensures c.new-5.ensures
    c.new-6.ensures c.new-7.ensures c.new.ensures c.new-2.ensures c.new-3.ensures c.new-4.ensures c.new-8.ensures
