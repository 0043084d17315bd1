use Rattle.std.proofs.Common.{⊎_elim, ℕ, List, sym, subst, ◌∙◌}
use Rattle.std.specs.List.{Contains}
use Rattle.std.proofs.lemmas.Bool.{false≢true}
use Rattle.std.proofs.lemmas.List.{take_all}
use Rattle.std.proofs.lemmas.List.Elements.{Contains-get_or}
use Rattle.rgo_graphs.proofs.Lists.{take_cases}
use Rattle.rgo_flow.proofs.queries.enters.Goals as goal

pub has-requires-clause-point : goal.has-requires-clause-point
has-requires-clause-point c =
    c.requires.row _ (Contains-get_or c.args.row.now c.loop-j.j-index 0 c.loop-j-test.true)

pub loop-j-preserved : goal.loop-j-preserved
loop-j-preserved c = λ j m s. ⊎_elim
    (λ o. c.loop-j.invariant j o s)
    (λ e. false≢true (sym c.if-has.false ∙ c.has.ensures.no (subst (Contains c.args.solved.now) (sym e) s)))
    (take_cases c.args.row.now c.loop-j.j-index 0 j c.loop-j-test.true m)

pub returns-clause-no : goal.returns-clause-no
returns-clause-no c = λ j m s. absurd (c.loop-j.invariant j
    (subst (λ (l : List ℕ). Contains l j)
    (sym (take_all c.loop-j.j-index c.args.row.now c.loop-j-test.false)) m) s)
