use Rattle.std.proofs.Common.{◌∙◌, ap, sym, arith}
use Rattle.rgo_meaning.specs.Frames.{with_local_value}
use Rattle.rgo_source_interpreter.proofs.LongerLists.{written, filled_up, put_last}
use Rattle.rgo_source_interpreter.proofs.locals.set_local.Goals as goal

pub returns-then-n-len : goal.returns-then-n-len
returns-then-n-len c = sym (written c.args.locals.now.items c.args.n c.args.value (omega arith))

pub loop-locals-preserved : goal.loop-locals-preserved
loop-locals-preserved c = (
  ap (λ l. with_local_value l c.args.n c.args.value) c.push_reserved.ensures.items
      ∙ filled_up c.loop-locals.locals.items c.args.n c.args.value (omega arith)
      ∙ c.loop-locals.invariant.0,
  omega (arith, c.push_reserved.ensures.len),
  omega (arith, c.push_reserved.ensures.capacity),
)

pub returns : goal.returns
returns c =
    c.push_reserved-2.ensures.items
    ∙ sym (put_last c.loop-locals.locals.items c.args.n c.args.value (omega (arith, c.loop-locals.invariant.1)))
    ∙ c.loop-locals.invariant.0
