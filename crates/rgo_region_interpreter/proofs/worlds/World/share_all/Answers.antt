use Rattle.std.proofs.Common.{rules, ◌≡◌, ℕ, ◌+◌, ◌∷◌, false, drop, get_or, ap, ◌∙◌, subst, arith}
use Rattle.std.proofs.lemmas.List.{drop_all, drop_more}
use Rattle.rgo_tac.specs.declared.regions.Class.TheVariants.{NoClass}
use Rattle.rgo_region_interpreter.specs.Attending.{has_key}
use Rattle.rgo_region_interpreter.proofs.owing.Attending.{same_then}
use Rattle.rgo_region_interpreter.proofs.passing.Lists.{not_named}
use Rattle.rgo_region_interpreter.proofs.owing.Preparing.{SharedSo, same_run, shares_all, shares_none, shares_on, shares_past}
use Rattle.rgo_region_interpreter.proofs.worlds.World.share_all.Goals as goal
use Rattle.rgo_region_interpreter.proofs.worlds.World.share_all.Goals.{in-Name+in_ok-share-in-Name+in_ok-count_done-in-Name, in-NoClass}

pub loop-class-init : goal.loop-class-init
loop-class-init c =
    let none : (r : ℕ) → has_key c.new-shared.result r ≡ false = λ r. search rules in
    (shares_none c.args.self.now c.args.g c.args.passes.now (has_key c.new-shared.result) none, same_run c.args.self.now)

pub loop-class-preserved : goal.loop-class-preserved
loop-class-preserved c =
    let w = c.args.self.now in
    let v = c.loop-class.self in
    elim c.match-class.branch [
      | in-Name+in_ok-share-in-Name+in_ok-count_done-in-Name x ↦
          rw (x.self-is, x.shared-is) (
            shares_on w v x.share.new.self x.count_done.new.self c.args.g x.in-Name.name c.args.passes.now
                (drop (c.loop-class.class-index + 1) c.args.passes.now) (has_key c.loop-class.shared)
                (has_key x.share.new.shared)
                (subst (λ l. SharedSo w v c.args.g c.args.passes.now l (has_key c.loop-class.shared))
                (drop_more c.args.passes.now c.loop-class.class-index NoClass c.loop-class-test.true
                ∙ ap (λ k. k ∷ drop (c.loop-class.class-index + 1) c.args.passes.now) x.in-Name.is) c.loop-class.invariant.0)
                x.in_ok-share-in-Name.ensures.shared x.in_ok-share-in-Name.ensures.done x.count_done.ensures.works
                x.in_ok-count_done-in-Name.ensures.done x.count_done.ensures.same x.count_done.ensures.others,
            same_then w v x.count_done.new.self c.loop-class.invariant.1
                (same_then v x.share.new.self x.count_done.new.self x.share.ensures.same x.count_done.ensures.same),
          )
      | in-NoClass x ↦
          rw (x.self-is, x.shared-is) (
            shares_past w v c.args.g c.args.passes.now (drop (c.loop-class.class-index + 1) c.args.passes.now)
                (get_or c.args.passes.now c.loop-class.class-index NoClass) (has_key c.loop-class.shared) (not_named _ x.in-NoClass.is)
                (subst (λ l. SharedSo w v c.args.g c.args.passes.now l (has_key c.loop-class.shared))
                (drop_more c.args.passes.now c.loop-class.class-index NoClass c.loop-class-test.true) c.loop-class.invariant.0),
            c.loop-class.invariant.1,
          )
    ]

pub returns-clause-shared : goal.returns-clause-shared
returns-clause-shared c =
    shares_all c.args.self.now c.loop-class.self c.args.g c.args.created c.args.passes.now (has_key c.loop-class.shared)
    (let d = c.done.ensures in let l = c.if-done-created.false in omega (arith, d, l))
    (subst (λ l. SharedSo c.args.self.now c.loop-class.self c.args.g c.args.passes.now l (has_key c.loop-class.shared))
    (drop_all c.loop-class.class-index c.args.passes.now c.loop-class-test.false) c.loop-class.invariant.0)

pub returns-in_err-share-in-Name-clause-same : goal.returns-in_err-share-in-Name-clause-same
returns-in_err-share-in-Name-clause-same c =
    same_then c.args.self.now c.loop-class.self c.share.new.self c.loop-class.invariant.1 c.share.ensures.same

pub returns-in_err-count_done-in-Name-clause-same : goal.returns-in_err-count_done-in-Name-clause-same
returns-in_err-count_done-in-Name-clause-same c =
    same_then c.args.self.now c.loop-class.self c.count_done.new.self c.loop-class.invariant.1
    (same_then c.loop-class.self c.share.new.self c.count_done.new.self c.share.ensures.same c.count_done.ensures.same)

pub returns-clause-same : goal.returns-clause-same
returns-clause-same c = c.loop-class.invariant.1
