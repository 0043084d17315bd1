use Rattle.std.proofs.Common.{◌∙◌, slice_get, sym, ap}
use Rattle.std.specs.Option.{option_map}
use Rattle.rgo_tac.specs.Ops.{op_in, operation_of}
use Rattle.rgo_checker.proofs.walks.ExistenceWalk.{no_instr}
use Rattle.rgo_checker.proofs.instructions.least_broken.Goals as goal

pub least_broken_by-requires-clause-here : goal.least_broken_by-requires-clause-here
least_broken_by-requires-clause-here c =
    sym (ap (option_map operation_of) (sym c.in-Some.is) ∙ c.op.ensures.op
    ∙ ap (λ g. op_in (slice_get g.body c.args.site.now.at)) c.tac.ensures)

pub returns-in-None : goal.returns-in-None
returns-in-None c = λ r low high.
    no_instr c.args.site.now.code.now c.args.site.now.f.now c.args.site.now.at r
    (sym (ap (option_map operation_of) (sym c.in-None.is) ∙ c.op.ensures.op
    ∙ ap (λ g. op_in (slice_get g.body c.args.site.now.at)) c.tac.ensures))
