use Rattle.std.proofs.Common.{inr, ⊎_elim, ℕ, List, sym, subst, ◌∙◌}
use Rattle.std.specs.List.{Contains}
use Rattle.rgo_graphs.proofs.Pushed.{row_is}
use Rattle.rgo_flow.proofs.Choices.{read_not_written}
use Rattle.rgo_flow.proofs.queries.live_by.Goals as goal

pub enters-requires-clause-row : goal.enters-requires-clause-row
enters-requires-clause-row c = λ j h.
    let e = row_is c.args.exits.now c.args.first c.index-exits-first.result c.requires.first c.index-exits-first.is in
    c.requires.exits c.args.first j (subst (λ (r : List ℕ). Contains r j) (c.deref.ensures.value ∙ sym e) h)

pub returns-in-Written-clause-no : goal.returns-in-Written-clause-no
returns-in-Written-clause-no c = λ t. absurd (⊎_elim (λ r. read_not_written _ _ _ _ r c.in-Written.ensures)
    (λ r. r.passed.unwritten c.in-Written.ensures.at c.in-Written.ensures.from c.in-Written.ensures.to
    c.in-Written.ensures.written) t)

pub returns-in-Unused-clause-yes : goal.returns-in-Unused-clause-yes
returns-in-Unused-clause-yes c = λ t.
    let e = row_is c.args.exits.now c.args.first c.index-exits-first.result c.requires.first c.index-exits-first.is in
    let q = c.enters.ensures.yes t in
    inr (record {
      passed = c.in-Unused.ensures;
      into = q.0;
      exit = subst (λ (r : List ℕ). Contains r q.0) (c.deref.ensures.value ∙ sym e) q.1;
      live = q.2;
    })

pub returns-in-Unused-clause-no : goal.returns-in-Unused-clause-no
returns-in-Unused-clause-no c = λ t.
    let e = row_is c.args.exits.now c.args.first c.index-exits-first.result c.requires.first c.index-exits-first.is in
    ⊎_elim
    (λ r. absurd (c.in-Unused.ensures.unread r.at r.from r.to r.read))
    (λ r. c.enters.ensures.no r.into (subst (λ (l : List ℕ). Contains l r.into)
    (e ∙ sym c.deref.ensures.value) r.exit) r.live)
    t
