use Rattle.std.proofs.Common.{◌≡◌, ◌<◌, arith, ℕ, List, subst, length, Vec}
use Rattle.std.specs.Global.{Global}
use Rattle.rgo_graphs.specs.Rows.{rows_of, row_at, IsTransposed}
use Rattle.rgo_graphs.proofs.Pushed.{row_inside, rows_long}
use Rattle.rgo_flow.specs.Blocks.{Blocks, AreExits}
use Rattle.rgo_flow.specs.Solved.{BlockGraph, Solves}
use Rattle.rgo_flow.proofs.Reaching.{tests_transposed}
use Rattle.rgo_flow.proofs.Final.{is_live, was_live, at_point, of_variable}
use Rattle.rgo_flow.proofs.liveness.live_in.Goals as goal

pub cut-requires-clause-targets : goal.cut-requires-clause-targets
cut-requires-clause-targets c = rw c.deref.ensures.value
    (λ i j r. omega (arith, c.requires.graph.targets i j r))

pub transposed-requires-clause-below : goal.transposed-requires-clause-below
transposed-requires-clause-below c =
    let b = subst (λ (q : List (Vec ℕ Global)). Blocks
    (rows_of q) c.in_ok-parts.parts.first.items c.in_ok-parts.parts.last.items) c.deref.ensures.value
    c.in_ok-parts.ensures.cut in
    let x = subst (λ (q : List (Vec ℕ Global)). AreExits
    (rows_of q) c.in_ok-parts.parts.first.items c.in_ok-parts.parts.last.items
    (rows_of c.in_ok-parts.parts.exits.items)) c.deref.ensures.value c.in_ok-parts.ensures.exits in
    let ls = rows_long c.args.graph.now.successors.items in
    rw c.deref-2.ensures.value (λ i j r. omega (
      arith,
      c.requires.graph.targets _ j ((x i j).0 r).1,
      c.len.ensures,
      c.requires.graph.few,
    ))

pub transposed-requires-2-clause-below : goal.transposed-requires-2-clause-below
transposed-requires-2-clause-below c = rw c.deref-3.ensures.value (λ i x r. c.requires.graph.read i x r)

pub transposed-requires-3-clause-below : goal.transposed-requires-3-clause-below
transposed-requires-3-clause-below c = rw c.deref-4.ensures.value (λ i x r. c.requires.graph.written i x r)

pub solve_all-requires-clause-read_in : goal.solve_all-requires-clause-read_in
solve_all-requires-clause-read_in c =
    let b = subst (λ (q : List (Vec ℕ Global)). Blocks
    (rows_of q) c.in_ok-parts.parts.first.items c.in_ok-parts.parts.last.items) c.deref.ensures.value
    c.in_ok-parts.ensures.cut in
    let x = subst (λ (q : List (Vec ℕ Global)). AreExits
    (rows_of q) c.in_ok-parts.parts.first.items c.in_ok-parts.parts.last.items
    (rows_of c.in_ok-parts.parts.exits.items)) c.deref.ensures.value c.in_ok-parts.ensures.exits in
    let ls = rows_long c.args.graph.now.successors.items in
    let tr = subst (λ (q : List (Vec ℕ Global)). IsTransposed (rows_of q)
    (rows_of c.in_ok-readers.readers.items)) c.deref-3.ensures.value c.in_ok-readers.ensures.transposed in
    rw (c.deref-8.ensures.value, c.deref-6.ensures.value)
    (λ v p r. omega (
      arith,
      row_inside (rows_of c.args.graph.now.reads.items) p v ((tr p v).1 r),
      rows_long c.args.graph.now.reads.items,
      ls,
      c.requires.graph.reads,
      b.firsts,
    ))

pub solve_all-requires-clause-written_in : goal.solve_all-requires-clause-written_in
solve_all-requires-clause-written_in c =
    let b = subst (λ (q : List (Vec ℕ Global)). Blocks
    (rows_of q) c.in_ok-parts.parts.first.items c.in_ok-parts.parts.last.items) c.deref.ensures.value
    c.in_ok-parts.ensures.cut in
    let x = subst (λ (q : List (Vec ℕ Global)). AreExits
    (rows_of q) c.in_ok-parts.parts.first.items c.in_ok-parts.parts.last.items
    (rows_of c.in_ok-parts.parts.exits.items)) c.deref.ensures.value c.in_ok-parts.ensures.exits in
    let ls = rows_long c.args.graph.now.successors.items in
    let tw = subst (λ (q : List (Vec ℕ Global)). IsTransposed (rows_of q)
    (rows_of c.in_ok-writers.writers.items)) c.deref-4.ensures.value c.in_ok-writers.ensures.transposed in
    rw (c.deref-9.ensures.value, c.deref-6.ensures.value)
    (λ v p r. omega (
      arith,
      row_inside (rows_of c.args.graph.now.writes.items) p v ((tw p v).1 r),
      rows_long c.args.graph.now.writes.items,
      ls,
      c.requires.graph.writes,
      b.firsts,
    ))

pub solve_all-requires-clause-rows : goal.solve_all-requires-clause-rows
solve_all-requires-clause-rows c =
    let b = subst (λ (q : List (Vec ℕ Global)). Blocks
    (rows_of q) c.in_ok-parts.parts.first.items c.in_ok-parts.parts.last.items) c.deref.ensures.value
    c.in_ok-parts.ensures.cut in
    let x = subst (λ (q : List (Vec ℕ Global)). AreExits
    (rows_of q) c.in_ok-parts.parts.first.items c.in_ok-parts.parts.last.items
    (rows_of c.in_ok-parts.parts.exits.items)) c.deref.ensures.value c.in_ok-parts.ensures.exits in
    let ls = rows_long c.args.graph.now.successors.items in
    let tb = subst (λ (q : List (Vec ℕ Global)). IsTransposed (rows_of q)
    (rows_of c.in_ok-before.before.items)) c.deref-2.ensures.value c.in_ok-before.ensures.transposed in
    rw c.deref-5.ensures.value (λ j p r. omega (
      arith,
      ((x p j).0 ((tb p j).1 r)).0.0,
      b.firsts,
      ls,
      c.in_ok-before.ensures.len,
      c.len.ensures,
      c.requires.graph.few,
    ))

pub invariant_of-result : goal.invariant_of-result
invariant_of-result c =
    let b = subst (λ (q : List (Vec ℕ Global)). Blocks
    (rows_of q) c.in_ok-parts.parts.first.items c.in_ok-parts.parts.last.items) c.deref.ensures.value
    c.in_ok-parts.ensures.cut in
    let x = subst (λ (q : List (Vec ℕ Global)). AreExits
    (rows_of q) c.in_ok-parts.parts.first.items c.in_ok-parts.parts.last.items
    (rows_of c.in_ok-parts.parts.exits.items)) c.deref.ensures.value c.in_ok-parts.ensures.exits in
    let ls = rows_long c.args.graph.now.successors.items in
    let tb = subst (λ (q : List (Vec ℕ Global)). IsTransposed (rows_of q)
    (rows_of c.in_ok-before.before.items)) c.deref-2.ensures.value c.in_ok-before.ensures.transposed in
    let tr = subst (λ (q : List (Vec ℕ Global)). IsTransposed (rows_of q)
    (rows_of c.in_ok-readers.readers.items)) c.deref-3.ensures.value c.in_ok-readers.ensures.transposed in
    let tw = subst (λ (q : List (Vec ℕ Global)). IsTransposed (rows_of q)
    (rows_of c.in_ok-writers.writers.items)) c.deref-4.ensures.value c.in_ok-writers.ensures.transposed in
    let all : (v : ℕ) → v < c.args.graph.now.variables
    → Solves (rows_of c.in_ok-before.before.items) c.in_ok-parts.parts.first.items c.in_ok-parts.parts.last.items
    (row_at (rows_of c.in_ok-readers.readers.items) v) (row_at (rows_of c.in_ok-writers.writers.items) v)
    (row_at (rows_of c.in_ok-solved.solved.items) v) =
    λ v l. rw (
      ← c.deref-5.ensures.value,
      ← c.deref-6.ensures.value,
      ← c.deref-7.ensures.value,
      ← c.deref-8.ensures.value,
      ← c.deref-9.ensures.value,
    )
    (c.in_ok-solved.ensures.solved v (omega (
      arith,
      l,
      c.deref-8.ensures.len,
      c.in_ok-readers.ensures.len,
    ))) in
    let block_graph : BlockGraph (rows_of c.args.graph.now.successors.items)
    (rows_of c.in_ok-parts.parts.exits.items)
    (rows_of c.in_ok-before.before.items) c.in_ok-parts.parts.first.items c.in_ok-parts.parts.last.items =
    record { blocks = b; are_exits = x; transposed = tb } in
    record {
      table = record {
        lasts = omega (arith, b.firsts, b.lasts);
        exits_long = omega (
          arith,
          rows_long c.in_ok-parts.parts.exits.items,
          c.in_ok-parts.ensures.len,
          b.firsts,
          ls,
          c.deref.ensures.len,
        );
        firsts_in = λ i l. omega (arith, b.back i (omega (arith, l, b.firsts)));
        lasts_in = λ i l. omega (arith, b.inside i (omega (arith, l, b.firsts)), ls, c.requires.graph.few);
        exits_in = λ i j r. omega (arith, c.requires.graph.targets _ j ((x i j).0 r).1, c.requires.graph.few);
        written = omega (
          arith,
          rows_long c.in_ok-writers.writers.items,
          rows_long c.in_ok-readers.readers.items,
          c.in_ok-writers.ensures.len,
          c.in_ok-readers.ensures.len,
        );
        solved_long = omega (
          arith,
          rows_long c.in_ok-solved.solved.items,
          rows_long c.in_ok-readers.readers.items,
          c.in_ok-solved.ensures.len,
          c.deref-8.ensures.len,
        );
        readers_up = c.in_ok-readers.ensures.ascending;
        writers_up = c.in_ok-writers.ensures.ascending;
        solved_up = c.in_ok-solved.ensures.ascending;
      };
      runs = record {
        runs = record {
          ahead = λ i l. b.ahead i (omega (arith, l, b.firsts));
          inside = λ i l. omega (arith, b.inside i (omega (arith, l, b.firsts)), b.firsts);
          back = λ i l. b.back i (omega (arith, l, b.firsts));
          same = λ i l. b.same i (omega (arith, l, b.firsts));
          head = λ i l. b.head i (omega (arith, l, b.firsts));
          whole = λ i k l. b.whole i k (omega (arith, l, b.firsts));
        };
        heads = λ h s r. ((x h s).0 r).0;
        transposed = tests_transposed (rows_of c.in_ok-parts.parts.exits.items)
            (rows_of c.in_ok-before.before.items) tb;
        read = λ v r h. omega (
          arith,
          row_inside (rows_of c.args.graph.now.reads.items) r v ((tr r v).1 h),
          rows_long c.args.graph.now.reads.items,
          ls,
          c.requires.graph.reads,
          b.firsts,
        );
        into = λ v s h. omega (
          arith,
          (((all v (omega (
            arith,
            row_inside (rows_of c.in_ok-solved.solved.items) v s h,
            rows_long c.in_ok-solved.solved.items,
            c.in_ok-solved.ensures.len,
            c.deref-8.ensures.len,
            c.in_ok-readers.ensures.len,
          ))) (rows_of c.args.graph.now.successors.items) (rows_of c.in_ok-parts.parts.exits.items)
              (rows_of c.args.graph.now.reads.items) (rows_of c.args.graph.now.writes.items) v block_graph
              (λ i. (λ r. (tr i v).1 r, λ r. (tr i v).0 r)) (λ i. (λ r. (tw i v).1 r, λ r. (tw i v).0 r)) s).0 h).0.0,
          b.firsts,
          ls,
          rows_long c.in_ok-before.before.items,
          c.in_ok-before.ensures.len,
          c.len.ensures,
          c.requires.graph.few,
        );
      };
    }

pub returns : goal.returns
returns c =
    let b = subst (λ (q : List (Vec ℕ Global)). Blocks
    (rows_of q) c.in_ok-parts.parts.first.items c.in_ok-parts.parts.last.items) c.deref.ensures.value
    c.in_ok-parts.ensures.cut in
    let x = subst (λ (q : List (Vec ℕ Global)). AreExits
    (rows_of q) c.in_ok-parts.parts.first.items c.in_ok-parts.parts.last.items
    (rows_of c.in_ok-parts.parts.exits.items)) c.deref.ensures.value c.in_ok-parts.ensures.exits in
    let ls = rows_long c.args.graph.now.successors.items in
    let tr = subst (λ (q : List (Vec ℕ Global)). IsTransposed (rows_of q)
    (rows_of c.in_ok-readers.readers.items)) c.deref-3.ensures.value c.in_ok-readers.ensures.transposed in
    let tw = subst (λ (q : List (Vec ℕ Global)). IsTransposed (rows_of q)
    (rows_of c.in_ok-writers.writers.items)) c.deref-4.ensures.value c.in_ok-writers.ensures.transposed in
    let tb = subst (λ (q : List (Vec ℕ Global)). IsTransposed (rows_of q)
    (rows_of c.in_ok-before.before.items)) c.deref-2.ensures.value c.in_ok-before.ensures.transposed in
    let all : (v : ℕ) → v < c.args.graph.now.variables
    → Solves (rows_of c.in_ok-before.before.items) c.in_ok-parts.parts.first.items c.in_ok-parts.parts.last.items
    (row_at (rows_of c.in_ok-readers.readers.items) v) (row_at (rows_of c.in_ok-writers.writers.items) v)
    (row_at (rows_of c.in_ok-solved.solved.items) v) =
    λ v l. rw (
      ← c.deref-5.ensures.value,
      ← c.deref-6.ensures.value,
      ← c.deref-7.ensures.value,
      ← c.deref-8.ensures.value,
      ← c.deref-9.ensures.value,
    )
    (c.in_ok-solved.ensures.solved v (omega (
      arith,
      l,
      c.deref-8.ensures.len,
      c.in_ok-readers.ensures.len,
    ))) in
    let block_graph : BlockGraph (rows_of c.args.graph.now.successors.items)
    (rows_of c.in_ok-parts.parts.exits.items)
    (rows_of c.in_ok-before.before.items) c.in_ok-parts.parts.first.items c.in_ok-parts.parts.last.items =
    record { blocks = b; are_exits = x; transposed = tb } in
    let long : length (rows_of c.args.graph.now.reads.items) ≡ length
    (rows_of c.args.graph.now.successors.items) =
    omega (arith, ls, rows_long c.args.graph.now.reads.items, c.requires.graph.reads) in
    λ v i. (
      λ h. is_live (rows_of c.args.graph.now.successors.items) (rows_of c.args.graph.now.reads.items)
          (rows_of c.args.graph.now.writes.items) (rows_of c.in_ok-parts.parts.exits.items)
          (rows_of c.in_ok-before.before.items) (rows_of c.in_ok-readers.readers.items)
          (rows_of c.in_ok-writers.writers.items)
          (rows_of c.in_ok-solved.solved.items) c.in_ok-parts.parts.first.items c.in_ok-parts.parts.last.items
          c.args.graph.now.variables
          block_graph tr tw long c.requires.graph.read all v i (omega (arith, h.point, b.firsts))
          (omega (arith, h.variable, c.in_ok-readers.ensures.len)) h.live,
      λ p. record {
        point = omega (
          arith,
          b.firsts,
          at_point (rows_of c.args.graph.now.successors.items) (rows_of c.args.graph.now.reads.items)
              (rows_of c.args.graph.now.writes.items) (rows_of c.in_ok-parts.parts.exits.items)
              (rows_of c.in_ok-before.before.items) (rows_of c.in_ok-readers.readers.items)
              (rows_of c.in_ok-writers.writers.items)
              (rows_of c.in_ok-solved.solved.items) c.in_ok-parts.parts.first.items c.in_ok-parts.parts.last.items
              c.args.graph.now.variables
              block_graph tr tw long c.requires.graph.read all v i p,
        );
        variable = omega (
          arith,
          c.in_ok-readers.ensures.len,
          of_variable (rows_of c.args.graph.now.successors.items) (rows_of c.args.graph.now.reads.items)
              (rows_of c.args.graph.now.writes.items) (rows_of c.in_ok-parts.parts.exits.items)
              (rows_of c.in_ok-before.before.items) (rows_of c.in_ok-readers.readers.items)
              (rows_of c.in_ok-writers.writers.items)
              (rows_of c.in_ok-solved.solved.items) c.in_ok-parts.parts.first.items c.in_ok-parts.parts.last.items
              c.args.graph.now.variables
              block_graph tr tw long c.requires.graph.read all v i p,
        );
        live = was_live (rows_of c.args.graph.now.successors.items) (rows_of c.args.graph.now.reads.items)
            (rows_of c.args.graph.now.writes.items) (rows_of c.in_ok-parts.parts.exits.items)
            (rows_of c.in_ok-before.before.items) (rows_of c.in_ok-readers.readers.items)
            (rows_of c.in_ok-writers.writers.items)
            (rows_of c.in_ok-solved.solved.items) c.in_ok-parts.parts.first.items c.in_ok-parts.parts.last.items
            c.args.graph.now.variables
            block_graph tr tw long c.requires.graph.read all v i p;
      },
    )
