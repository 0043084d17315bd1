use Rattle.std.proofs.Common.{◌∙◌, sym, ap}
use Rattle.std.specs.Option.{option_map}
use Rattle.rgo_tac.specs.Ops.{operation_of}
use Rattle.rgo_checker.specs.ClassTests.{called_operands}
use Rattle.rgo_checker.proofs.Deciding.{always, on_ok}
use Rattle.rgo_checker.proofs.decides.PassingLaws.{started_decided, no_start}
use Rattle.rgo_checker.proofs.passing.starts_pass.Goals as goal

pub returns-in-Some : goal.returns-in-Some
returns-in-Some c =
    on_ok c.start_passes.result _ _
    (λ b d. started_decided c.args.code.now c.args.f.now c.args.passes.now b (operation_of c.args.op)
    (called_operands c.in-Some.call)
    (sym c.start_of.ensures ∙ ap (option_map called_operands) c.in-Some.is) d)
    c.start_passes.ensures

pub returns-in-None : goal.returns-in-None
returns-in-None c =
    always (no_start c.args.code.now c.args.f.now c.args.passes.now (operation_of c.args.op)
    (sym c.start_of.ensures ∙ ap (option_map called_operands) c.in-None.is))
