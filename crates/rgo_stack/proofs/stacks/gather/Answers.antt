use Rattle.std.proofs.Common.{◌∙◌, ◌++◌, ◌∷◌, [], ap, map, sym}
use Rattle.std.proofs.lemmas.List.{map_more, take_all}
use Rattle.rgo_compact.specs.Runs.{word_or_zero}
use Rattle.rgo_stack.proofs.stacks.gather.Goals as goal

pub loop-i-preserved : goal.loop-i-preserved
loop-i-preserved c =
    c.in_ok-push.ensures.items ∙ (λ j. c.loop-i.invariant j ++ c.word_or_zero.ensures j ∷ [])
    ∙ sym (map_more (word_or_zero c.args.variables.now) c.args.from.now c.loop-i.i 0 c.loop-i-test.true)

pub returns : goal.returns
returns c =
    c.loop-i.invariant
    ∙ ap (map (word_or_zero c.args.variables.now)) (take_all c.loop-i.i c.args.from.now c.loop-i-test.false)
