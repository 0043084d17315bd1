use Rattle.std.proofs.Common.{◌+◌, ◌∷◌, [], if◌then◌else◌, drop, sym, ap, ◌∙◌, arith}
use Rattle.rgo_core.specs.runs.Opening.{main_words}
use Rattle.rgo_core.specs.Frames.shown.WordFrames.{word_called}
use Rattle.rgo_body.proofs.Starting.{main_here, none_at}
use Rattle.rgo_body.proofs.starts.main_of.Goals as goal
use Rattle.rgo_body.proofs.starts.main_of.Goals.{in-Some+else-is_main, in-None}

pub returns-then-is_main : goal.returns-then-is_main
returns-then-is_main c =
    let fns = c.args.code.now.functions in
    let n = c.loop-n.n in
    let fn = c.in-Some.function in
    let found = sym c.in-Some.ensures in (
      fn,
      found,
      sym c.loop-n.invariant ∙ main_here fns n fn found
          ∙ ap (λ b. if b then word_called fn n [] ∷ [] else main_words (drop (n + 1) fns) (n + 1)) (sym c.if-is_main.ensures),
    )

pub loop-n-preserved : goal.loop-n-preserved
loop-n-preserved c =
    let fns = c.args.code.now.functions in
    let n = c.loop-n.n in
    elim c.match-function.branch [
      | in-Some+else-is_main w ↦
          let fn = w.in-Some.function in
          sym (sym c.loop-n.invariant ∙ main_here fns n fn (sym w.in-Some.ensures)
          ∙ ap (λ b. if b then word_called fn n [] ∷ [] else main_words (drop (n + 1) fns) (n + 1)) (sym w.if-is_main.ensures))
      | in-None w ↦ absurd (none_at fns n (sym w.in-None.ensures) (let l = c.loop-n-test.true in let e = c.len-n-end.ensures in omega (arith, l, e)))
    ]
