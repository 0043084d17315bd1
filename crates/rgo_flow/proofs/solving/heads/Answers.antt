use Rattle.std.proofs.Common.{◌+◌, ℕ, List, subst, sym, refl, ◌∙◌, ap, take}
use Rattle.std.proofs.lemmas.Bool.{false≢true}
use Rattle.std.proofs.lemmas.List.{take_all}
use Rattle.std.proofs.lemmas.List.Elements.{Contains-get_or}
use Rattle.rgo_flow.specs.Solved.{AreHeads}
use Rattle.rgo_flow.proofs.Heads.{heads_yes, heads_no}
use Rattle.rgo_flow.proofs.solving.heads.Goals as goal
use Rattle.rgo_flow.proofs.solving.heads.Goals.{then-is_first_use+in_ok-push, else-is_first_use}

pub bounds-first-p : goal.bounds-first-p
bounds-first-p c = c.requires.points _ (Contains-get_or c.args.points.now c.loop-p.p-index 0 c.loop-p-test.true)

pub bounds-last-head : goal.bounds-last-head
bounds-last-head c = c.requires.first _ (c.requires.points _
    (Contains-get_or c.args.points.now c.loop-p.p-index 0 c.loop-p-test.true))

pub loop-p-preserved : goal.loop-p-preserved
loop-p-preserved c = elim c.if-is_first_use.branch [
  | then-is_first_use+in_ok-push w ↦ subst (λ (h : List ℕ). AreHeads
      (take (c.loop-p.p-index + 1) c.args.points.now) c.args.wanted c.args.readers.now c.args.writers.now
      c.args.first.now c.args.last.now h) (sym (ap (λ v. v.items) w.heads-is ∙ w.in_ok-push.ensures.items))
      (heads_yes c.args.points.now c.args.wanted c.args.readers.now c.args.writers.now c.args.first.now
      c.args.last.now c.loop-p.p-index _ c.loop-p.heads.items c.loop-p-test.true refl
      (c.is_first_use.ensures.yes w.if-is_first_use.true) c.loop-p.invariant)
  | else-is_first_use w ↦ subst (λ (h : List ℕ). AreHeads
      (take (c.loop-p.p-index + 1) c.args.points.now) c.args.wanted c.args.readers.now c.args.writers.now
      c.args.first.now c.args.last.now h) (sym (ap (λ v. v.items) w.heads-is))
      (heads_no c.args.points.now c.args.wanted c.args.readers.now c.args.writers.now c.args.first.now c.args.last.now
      c.loop-p.p-index _ c.loop-p.heads.items c.loop-p-test.true refl
      (λ g. false≢true (sym w.if-is_first_use.false ∙ c.is_first_use.ensures.no g)) c.loop-p.invariant)
]

pub returns : goal.returns
returns c = record {
  heads =
      subst (λ (p : List ℕ). AreHeads p c.args.wanted c.args.readers.now c.args.writers.now c.args.first.now
      c.args.last.now c.loop-p.heads.items) (take_all c.loop-p.p-index c.args.points.now c.loop-p-test.false)
      c.loop-p.invariant;
}
