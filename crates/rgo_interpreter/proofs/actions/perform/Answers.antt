use Rattle.std.specs.Prelude.{pos}
use Rattle.std.proofs.Common.{ℕ, get_or}
use Rattle.rgo_memory.specs.declared.values.Value.{Value}
use Rattle.rgo_memory.specs.declared.values.Value.TheVariants.{Int}
use Rattle.rgo_interpreter.specs.Views.{memory_view}
use Rattle.rgo_interpreter.proofs.Keeping.{kept_by_two, kept_by_three}
use Rattle.rgo_interpreter.proofs.actions.perform.Goals as goal

pub returns-in-len2-clause-channels : goal.returns-in-len2-clause-channels
returns-in-len2-clause-channels c =
    let operand : ℕ → Value = λ n. get_or c.args.operands.now n (Int (pos 0)) in
    kept_by_two c.on_two.result (memory_view c.args.memory.now) (memory_view c.on_two.new.memory) c.args.action
    (operand 0) (operand 1) c.on_two.ensures

pub returns-in-len3-clause-channels : goal.returns-in-len3-clause-channels
returns-in-len3-clause-channels c =
    let operand : ℕ → Value = λ n. get_or c.args.operands.now n (Int (pos 0)) in
    kept_by_three c.on_three.result (memory_view c.args.memory.now) (memory_view c.on_three.new.memory) c.args.action
    (operand 0) (operand 1) (operand 2) c.on_three.ensures
