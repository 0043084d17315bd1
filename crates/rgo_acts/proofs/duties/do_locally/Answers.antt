use Rattle.rgo_acts.proofs.attending.LocalDuties.{if_kept, if_left, if_not_ok, if_ok, same_rest, same_stays}
use Rattle.rgo_acts.proofs.duties.do_locally.Goals as goal

pub returns-in-Protect-clause-done : goal.returns-in-Protect-clause-done
returns-in-Protect-clause-done c = if_ok c.protect.result c.is_ok.result _ c.is_ok.ensures.value c.protect.ensures.done

pub returns-in-Protect-clause-stays : goal.returns-in-Protect-clause-stays
returns-in-Protect-clause-stays c = if_not_ok c.protect.result c.is_ok.result _ c.is_ok.ensures.value c.protect.ensures.stays

pub returns-in-Protect-clause-same : goal.returns-in-Protect-clause-same
returns-in-Protect-clause-same c = if_not_ok c.protect.result c.is_ok.result _ c.is_ok.ensures.value c.protect.ensures.same

pub returns-in-Remove-clause-done : goal.returns-in-Remove-clause-done
returns-in-Remove-clause-done c =
    if_kept c.args.program.now c.args.body.now c.remove.new.self c.remove.result c.is_none.result c.is_none.ensures c.remove.ensures

pub returns-in-Remove-clause-stays : goal.returns-in-Remove-clause-stays
returns-in-Remove-clause-stays c so =
    same_stays c.args.program.now c.args.body.now c.remove.new.self
    (if_left c.args.program.now c.args.body.now c.remove.new.self c.remove.result c.is_none.result c.is_none.ensures c.remove.ensures so)

pub returns-in-Remove-clause-same : goal.returns-in-Remove-clause-same
returns-in-Remove-clause-same c so =
    same_rest c.args.body.now c.remove.new.self
    (if_left c.args.program.now c.args.body.now c.remove.new.self c.remove.result c.is_none.result c.is_none.ensures c.remove.ensures so)
