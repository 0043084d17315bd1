use Rattle.std.proofs.Common.{◌+◌, sym, ◌∙◌}
use Rattle.std.proofs.lemmas.Bool.{false≢true}
use Rattle.std.proofs.lemmas.Result.{on_ok_weaker}
use Rattle.rgo_summaries.specs.Beginning.{Passing}
use Rattle.rgo_summaries.specs.Progress.{Two}
use Rattle.rgo_summaries.proofs.Adding.{adds_none}
use Rattle.rgo_summaries.proofs.Passing.{adds_as, is_passing, not_passing, only_passing}
use Rattle.rgo_summaries.proofs.beginning.pass.Goals as goal
use Rattle.rgo_summaries.proofs.beginning.pass.Goals.{else-is_pointer_like-via-then-is_pointer_like+else-is_pointer_like-2, else-is_pointer_like-via-else-is_pointer_like}

pub returns-then-is_pointer_like-2-clause-adds : goal.returns-then-is_pointer_like-2-clause-adds
returns-then-is_pointer_like-2-clause-adds c =
    let k = c.args.calling in
    let n = c.args.number in
    let actual = c.in-Some.actual in
    let e = sym c.in-Some.is ∙ c.passed.ensures in
    let callee = sym c.is_pointer_like.ensures ∙ c.if-is_pointer_like.true in
    let like = sym c.is_pointer_like-then-is_pointer_like.ensures ∙ c.if-is_pointer_like-2.true in
    on_ok_weaker c.join_in.result
    (λ adds. adds_as c.args.progress.now c.join_in.new.progress (Two k.caller (k.base + n) actual) (Passing k n)
    (is_passing k n actual e c.requires.outer callee like) (only_passing k n actual e) adds)
    c.join_in.ensures.adds

pub returns-else-is_pointer_like-clause-adds : goal.returns-else-is_pointer_like-clause-adds
returns-else-is_pointer_like-clause-adds c =
    let k = c.args.calling in
    let n = c.args.number in
    let e = sym c.in-Some.is ∙ c.passed.ensures in
    adds_none c.args.progress.now (Passing k n)
    (elim c.else-is_pointer_like.branch [
      | else-is_pointer_like-via-then-is_pointer_like+else-is_pointer_like-2 w ↦
          not_passing k n c.in-Some.actual e
          (λ callee like. false≢true (sym w.if-is_pointer_like-2.false
          ∙ w.is_pointer_like-then-is_pointer_like.ensures ∙ like))
      | else-is_pointer_like-via-else-is_pointer_like w ↦
          not_passing k n c.in-Some.actual e
          (λ callee like. false≢true (sym w.if-is_pointer_like.false ∙ c.is_pointer_like.ensures ∙ callee))
    ])
