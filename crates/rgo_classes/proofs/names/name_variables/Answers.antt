use Rattle.std.proofs.Common.{◌∙◌, [], arith}
use Rattle.rgo_classes.specs.Classes.{variables_before}
use Rattle.rgo_classes.proofs.Named.{one_more}
use Rattle.rgo_classes.proofs.names.name_variables.Goals as goal

pub loop-v-preserved : goal.loop-v-preserved
loop-v-preserved c = record {
  len = c.name_member.ensures.len ∙ c.loop-v.invariant.len;
  next = omega (arith, c.name_member.ensures.next, c.loop-v.invariant.next);
  classes = rw (one_more c.loop-v.v, c.in_ok-push.ensures.items)
      (c.name_member.ensures.class (variables_before c.loop-v.v []) c.loop-v.classes.items c.loop-v.invariant.classes);
}
