use Rattle.std.proofs.Common.{sym, subst}
use Rattle.rgo_body.specs.Duties.{Forgets}
use Rattle.rgo_body.proofs.Removing.{ends_rest}
use Rattle.rgo_body.proofs.duties.forget.Goals as goal

pub returns-in-EndBase-clause-forgets : goal.returns-in-EndBase-clause-forgets
returns-in-EndBase-clause-forgets c = subst (Forgets c.args.holding.now c.end_base.new.self) (sym c.in-EndBase.is)
    (ends_rest c.args.holding.now c.end_base.new.self c.end_base.result c.end_base.ensures.ends)

pub returns-in-Remove-clause-forgets : goal.returns-in-Remove-clause-forgets
returns-in-Remove-clause-forgets c = subst (Forgets c.args.holding.now c.unbind.new.self) (sym c.in-Remove.is) c.unbind.ensures.unbinds
