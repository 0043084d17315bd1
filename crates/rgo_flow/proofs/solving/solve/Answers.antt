use Rattle.std.proofs.Common.{◌↔◌, arith, ℕ, List, subst}
use Rattle.std.specs.List.{Contains}
use Rattle.rgo_flow.proofs.Paths.{solved}
use Rattle.rgo_graphs.specs.Rows.{rows_of}
use Rattle.rgo_graphs.specs.Reach.{Reached}
use Rattle.rgo_flow.proofs.solving.solve.Goals as goal

pub reached-requires-clause-seeds : goal.reached-requires-clause-seeds
reached-requires-clause-seeds c = λ p h.
    let g = (c.in_ok-seeds.ensures.heads p).0 (subst (λ (l : List ℕ). Contains l p) c.deref.ensures.value h) in
    omega (arith, c.requires.first g.point (c.requires.read_in g.point g.among), g.head, c.requires.size)

pub reached-requires-clause-barriers : goal.reached-requires-clause-barriers
reached-requires-clause-barriers c = λ p h.
    let g = (c.in_ok-barriers.ensures.heads p).0 (subst
    (λ (l : List ℕ). Contains l p) c.deref-2.ensures.value h) in
    omega (arith, c.requires.first g.point (c.requires.written_in g.point g.among), g.head, c.requires.size)

pub returns-clause-solved : goal.returns-clause-solved
returns-clause-solved c = λ successors exits reads writes v block_graph read_by written_by s.
    let are = subst (λ (b : List ℕ). (p : ℕ) → Contains c.in_ok-found.found.items p
    ↔ Reached (rows_of c.args.before.now) c.in_ok-seeds.seeds.items b p) c.deref-2.ensures.value
    (subst (λ (a : List ℕ). (p : ℕ) → Contains c.in_ok-found.found.items p
    ↔ Reached (rows_of c.args.before.now) a c.deref-2.result.now p) c.deref.ensures.value c.in_ok-found.ensures.found)
    in
    let r = solved successors reads writes c.args.first.now c.args.last.now block_graph.blocks v c.args.readers.now
    c.args.writers.now read_by written_by exits (rows_of c.args.before.now) block_graph.are_exits
    block_graph.transposed
    (λ p h. omega (arith, c.requires.read_in p h, block_graph.blocks.firsts))
    (λ p h. omega (arith, c.requires.written_in p h, block_graph.blocks.firsts))
    c.in_ok-seeds.seeds.items c.in_ok-barriers.barriers.items c.in_ok-seeds.ensures.heads
    c.in_ok-barriers.ensures.heads c.in_ok-found.found.items are s in
    let q = c.sorted.ensures.same s in
    (λ h. r.0 (q.0 h), λ h. q.1 (r.1 h))
