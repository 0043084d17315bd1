use Rattle.std.proofs.Common.{◌∙◌, slice_get, sym, ap}
use Rattle.std.specs.Option.{option_map}
use Rattle.rgo_tac.specs.Ops.{op_in, operation_of}
use Rattle.rgo_code.specs.declared.rules.Rule.TheVariants as rule
use Rattle.rgo_checker.specs.Tests.{instr_exists}
use Rattle.rgo_checker.proofs.Deciding.{always}
use Rattle.rgo_checker.proofs.walks.ExistenceWalk.{no_instr}
use Rattle.rgo_checker.proofs.decides.InstrLaws.{exists_kept}
use Rattle.rgo_checker.proofs.existence.instr_is_kept.Goals as goal

pub returns-in-Some : goal.returns-in-Some
returns-in-Some c =
    let at = c.args.at in
    let o = operation_of c.in-Some.op in
    exists_kept c.args.code.now c.args.f.now at o c.instr_exists.result
    (sym (ap (option_map operation_of) (sym c.in-Some.is) ∙ c.op.ensures.op
    ∙ ap (λ g. op_in (slice_get g.body at)) c.tac-function.ensures))
    (c.instr_exists.ensures ∙ (λ j. instr_exists (c.tac-program.ensures j) (c.tac-function.ensures j) at o))

pub returns-in-None : goal.returns-in-None
returns-in-None c =
    always (no_instr c.args.code.now c.args.f.now c.args.at rule.Exists
    (sym (ap (option_map operation_of) (sym c.in-None.is) ∙ c.op.ensures.op
    ∙ ap (λ g. op_in (slice_get g.body c.args.at)) c.tac-function.ensures)))
