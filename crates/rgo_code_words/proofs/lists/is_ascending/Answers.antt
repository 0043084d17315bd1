use Rattle.rgo_code_words.proofs.Ascending.{ascends, falls, all_ascend}
use Rattle.rgo_code_words.proofs.lists.is_ascending.Goals as goal

pub returns-then-numbers-i : goal.returns-then-numbers-i
returns-then-numbers-i c =
    falls c.args.numbers.now c.loop-i.i c.loop-i.auto.i c.loop-i.invariant c.loop-i-test.true c.if-numbers-i.true

pub loop-i-preserved : goal.loop-i-preserved
loop-i-preserved c =
    ascends c.args.numbers.now c.loop-i.i c.loop-i.auto.i c.loop-i.invariant c.loop-i-test.true c.if-numbers-i.false

pub returns : goal.returns
returns c =
    all_ascend c.args.numbers.now c.loop-i.i c.loop-i.auto.i c.loop-i.invariant c.loop-i-test.false
