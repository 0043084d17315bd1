use Rattle.std.proofs.Common.{arith}
use Rattle.rgo_summaries.proofs.Steps.{fn_begins, fn_further}
use Rattle.rgo_summaries.proofs.beginning.begin.Goals as goal

pub loop-at-init : goal.loop-at-init
loop-at-init c = record {
  is = c.in_ok-add_function.ensures.is;
  begins =
      fn_begins c.args.code.now c.args.n c.args.function.now c.args.progress.now c.add_function.new.progress
      c.args.sites.now.items (omega arith) c.in_ok-add_function.ensures.adds;
}

pub loop-at-preserved : goal.loop-at-preserved
loop-at-preserved c = record {
  is = c.in_ok-begin_at.ensures.is;
  begins =
      fn_further c.args.code.now c.args.n c.args.function.now c.loop-at.at c.args.progress.now.nodes.items
      c.loop-at.progress.nodes.items c.begin_at.new.progress.nodes.items c.args.sites.now.items c.loop-at.sites.items
      c.begin_at.new.sites.items c.loop-at.invariant.begins c.in_ok-begin_at.ensures.begins;
}
