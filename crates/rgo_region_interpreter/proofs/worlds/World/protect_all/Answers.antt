use Rattle.std.proofs.Common.{◌-◌, refl, ap, ◌∙◌, arith}
use Rattle.rgo_region_interpreter.proofs.owing.Attending.{same_then}
use Rattle.rgo_region_interpreter.proofs.owing.Preparing.{protects_all, protects_next, protects_none, same_run}
use Rattle.rgo_region_interpreter.proofs.worlds.World.protect_all.Goals as goal

pub loop-i-init : goal.loop-i-init
loop-i-init c = (
  protects_none c.args.self.now c.args.g c.args.created c.args.names.now c.saturating_sub-i.result
      (c.saturating_sub-i.ensures ∙ ap (λ n. n - c.args.created) c.done.ensures),
  same_run c.args.self.now,
)

pub loop-i-preserved : goal.loop-i-preserved
loop-i-preserved c =
    let w = c.args.self.now in
    let v = c.loop-i.self in (
      protects_next w v c.protect.new.self c.count_done.new.self c.args.g c.args.created c.args.names.now c.loop-i.i _
          c.loop-i.invariant.0 c.loop-i-test.true refl c.in_ok-protect.ensures.protected c.in_ok-protect.ensures.done
          c.count_done.ensures.works c.in_ok-count_done.ensures.done c.count_done.ensures.same
          c.count_done.ensures.others,
      same_then w v c.count_done.new.self c.loop-i.invariant.1
          (same_then v c.protect.new.self c.count_done.new.self c.protect.ensures.same c.count_done.ensures.same),
    )

pub returns-in_err-protect-clause-same : goal.returns-in_err-protect-clause-same
returns-in_err-protect-clause-same c =
    same_then c.args.self.now c.loop-i.self c.protect.new.self c.loop-i.invariant.1 c.protect.ensures.same

pub returns-in_err-count_done-clause-same : goal.returns-in_err-count_done-clause-same
returns-in_err-count_done-clause-same c =
    same_then c.args.self.now c.loop-i.self c.count_done.new.self c.loop-i.invariant.1
    (same_then c.loop-i.self c.protect.new.self c.count_done.new.self c.protect.ensures.same c.count_done.ensures.same)

pub returns-clause-protected : goal.returns-clause-protected
returns-clause-protected c =
    protects_all c.args.self.now c.loop-i.self c.args.g c.args.created c.args.names.now c.loop-i.i c.loop-i.invariant.0
    c.loop-i-test.false
    (λ l. c.loop-i.auto.i-end (let e = c.saturating_sub-i.ensures in let f = c.done.ensures in omega (arith, e, f, l)))

pub returns-clause-same : goal.returns-clause-same
returns-clause-same c = c.loop-i.invariant.1
