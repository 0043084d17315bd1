use Rattle.std.proofs.Common.{◌≡◌, [], arith, subst}
use Rattle.rgo_classes.specs.Classes.{variables_before}
use Rattle.rgo_classes.specs.Naming.{Naming}
use Rattle.rgo_classes.proofs.Giving.{naming_past}
use Rattle.rgo_classes.proofs.Named.{one_more}
use Rattle.rgo_classes.proofs.names.add_missing.Goals as goal

pub loop-v-preserved : goal.loop-v-preserved
loop-v-preserved c = record {
  after = omega (arith, c.loop-v.invariant.after);
  named = λ labels given next before. rw (one_more c.loop-v.v, c.in_ok-push.ensures.items)
      (naming_past labels c.args.function.now (variables_before c.loop-v.v []) c.loop-v.classes.items given next
      c.loop-v.v (omega (
        arith,
        c.requires.past (omega (arith, c.loop-v-test.true, c.loop-v.invariant.after)),
        c.loop-v.invariant.after,
      )) (c.loop-v.invariant.named labels given next before));
}

pub returns : goal.returns
returns c = λ labels given next before.
    let past : c.loop-v.v ≡ c.args.to = omega (arith, c.loop-v-test.false, c.loop-v.auto.v-end, c.loop-v.auto.v, c.requires.order) in
    subst (λ n. Naming labels c.args.function.now (variables_before n []) c.loop-v.classes.items given next) past
    (c.loop-v.invariant.named labels given next before)
