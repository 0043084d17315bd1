use Rattle.std.proofs.Common.{subst}
use Rattle.rgo_run.specs.Calls.{use_of}
use Rattle.rgo_run.specs.Texts.{RunsOrFails}
use Rattle.rgo_run.specs.declared.endings.TextKind.TheVariants as text_kind
use Rattle.rgo_run.proofs.commands.perform.Goals as goal

-- it runs as `run` does without options
pub returns-in-Big-clause-performs : goal.returns-in-Big-clause-performs
returns-in-Big-clause-performs g c =
    let new = c.run_text-in-Big.new.out in
    let out = use_of g.K.Sink c.args.out.now new in
    rw c.in-Big.is (subst (λ options. RunsOrFails text_kind.Go options c.args.text.now c.run_text-in-Big.result out)
    c.default.ensures c.run_text-in-Big.ensures.performs)
