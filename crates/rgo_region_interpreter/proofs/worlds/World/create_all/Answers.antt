use Rattle.std.proofs.Common.{refl, arith}
use Rattle.std.proofs.lemmas.Result.{err_from_is_err_and}
use Rattle.rgo_region_interpreter.proofs.owing.Attending.{same_then}
use Rattle.rgo_region_interpreter.proofs.owing.Preparing.{creates_all, creates_halts, creates_next, creates_none, same_run}
use Rattle.rgo_region_interpreter.proofs.worlds.World.create_all.Goals as goal

pub loop-i-init : goal.loop-i-init
loop-i-init c = (creates_none c.args.self.now c.args.g c.args.names.now c.done-i.result c.done-i.ensures, same_run c.args.self.now)

pub loop-i-preserved : goal.loop-i-preserved
loop-i-preserved c =
    let w = c.args.self.now in
    let v = c.loop-i.self in (
      creates_next w v c.create.new.self c.count_done.new.self c.args.g c.args.names.now c.loop-i.i _
          c.loop-i.invariant.0 c.loop-i-test.true refl c.in_ok-create.ensures.created c.in_ok-create.ensures.done
          c.count_done.ensures.works c.in_ok-count_done.ensures.done c.count_done.ensures.same
          c.count_done.ensures.others,
      same_then w v c.count_done.new.self c.loop-i.invariant.1
          (same_then v c.create.new.self c.count_done.new.self c.create.ensures.same c.count_done.ensures.same),
    )

pub returns-in_err-create-clause-created : goal.returns-in_err-create-clause-created
returns-in_err-create-clause-created c =
    let p = err_from_is_err_and c.from_residual.result c.from_residual.ensures.1 in
    rw (p.1, p.2)
    (creates_halts c.in_err-create.field-0.0 c.args.self.now c.loop-i.self c.create.new.self c.args.g c.args.names.now
    c.loop-i.i _ c.loop-i.invariant.0 c.loop-i-test.true refl c.loop-i.invariant.1 c.create.ensures.same
    c.in_err-create.ensures.created)

pub returns-in_err-create-clause-same : goal.returns-in_err-create-clause-same
returns-in_err-create-clause-same c =
    same_then c.args.self.now c.loop-i.self c.create.new.self c.loop-i.invariant.1 c.create.ensures.same

pub returns-in_err-count_done-clause-created : goal.returns-in_err-count_done-clause-created
returns-in_err-count_done-clause-created c =
    let p = err_from_is_err_and c.from_residual-in_err-count_done.result c.from_residual-in_err-count_done.ensures.1 in
    rw (p.1, p.2)
    (same_then c.args.self.now c.loop-i.self c.count_done.new.self c.loop-i.invariant.1
    (same_then c.loop-i.self c.create.new.self c.count_done.new.self c.create.ensures.same c.count_done.ensures.same))

pub returns-in_err-count_done-clause-same : goal.returns-in_err-count_done-clause-same
returns-in_err-count_done-clause-same c =
    same_then c.args.self.now c.loop-i.self c.count_done.new.self c.loop-i.invariant.1
    (same_then c.loop-i.self c.create.new.self c.count_done.new.self c.create.ensures.same c.count_done.ensures.same)

pub returns-clause-created : goal.returns-clause-created
returns-clause-created c =
    creates_all c.args.self.now c.loop-i.self c.args.g c.args.names.now c.loop-i.i c.loop-i.invariant.0
    c.loop-i-test.false (λ l. c.loop-i.auto.i-end (let e = c.done-i.ensures in omega (arith, e, l)))

pub returns-clause-same : goal.returns-clause-same
returns-clause-same c = c.loop-i.invariant.1
