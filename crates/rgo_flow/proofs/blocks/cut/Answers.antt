use Rattle.std.proofs.Common.{ℕ, Bool, arith, List, subst, Vec}
use Rattle.std.specs.Global.{Global}
use Rattle.rgo_graphs.specs.Rows.{rows_of}
use Rattle.rgo_graphs.proofs.Pushed.{rows_long}
use Rattle.rgo_flow.specs.Blocks.{Lasts, Firsts, AreExits, AreJoined}
use Rattle.rgo_flow.proofs.Runs.{blocks}
use Rattle.rgo_flow.proofs.blocks.cut.Goals as goal

pub returns-clause-cut : goal.returns-clause-cut
returns-clause-cut c =
    let f = subst (λ (j : List Bool). Firsts j c.in_ok-first.first.items) c.deref-2.ensures.value
    c.in_ok-first.ensures in
    let l = subst (λ (j : List Bool). Lasts j c.in_ok-last.last.items) c.deref-3.ensures.value c.in_ok-last.ensures in
    let j = subst (λ (b : List (Vec ℕ Global)). AreJoined (rows_of c.args.successors.now)
    (rows_of b) c.in_ok-joins.joins.items) c.deref.ensures.value c.in_ok-joins.ensures.joined in
    blocks (rows_of c.args.successors.now)
    (rows_of c.in_ok-before.before.items) c.in_ok-joins.joins.items c.in_ok-first.first.items c.in_ok-last.last.items
    (omega (
      arith,
      rows_long c.args.successors.now,
      c.in_ok-joins.ensures.len,
    )) j c.in_ok-before.ensures.transposed f l
    (λ i k r. omega (arith, rows_long c.args.successors.now, c.requires.targets i k r))

pub exits-requires : goal.exits-requires
exits-requires c =
    let f = subst (λ (j : List Bool). Firsts j c.in_ok-first.first.items) c.deref-2.ensures.value
    c.in_ok-first.ensures in
    let l = subst (λ (j : List Bool). Lasts j c.in_ok-last.last.items) c.deref-3.ensures.value c.in_ok-last.ensures in
    let j = subst (λ (b : List (Vec ℕ Global)). AreJoined (rows_of c.args.successors.now)
    (rows_of b) c.in_ok-joins.joins.items) c.deref.ensures.value c.in_ok-joins.ensures.joined in
    let b = blocks (rows_of c.args.successors.now)
    (rows_of c.in_ok-before.before.items) c.in_ok-joins.joins.items c.in_ok-first.first.items c.in_ok-last.last.items
    (omega (
      arith,
      rows_long c.args.successors.now,
      c.in_ok-joins.ensures.len,
    )) j c.in_ok-before.ensures.transposed f l
    (λ i k r. omega (arith, rows_long c.args.successors.now, c.requires.targets i k r)) in
    record { blocks = rw (c.deref-4.ensures.value, c.deref-5.ensures.value) b }

pub returns-clause-exits : goal.returns-clause-exits
returns-clause-exits c =
    subst (λ (f : List ℕ). AreExits (rows_of c.args.successors.now) f c.in_ok-last.last.items
    (rows_of c.in_ok-exits.exits.items)) c.deref-4.ensures.value
    (subst (λ (l : List ℕ). AreExits (rows_of c.args.successors.now) c.deref-4.result.now l
    (rows_of c.in_ok-exits.exits.items)) c.deref-5.ensures.value c.in_ok-exits.ensures.exits)
