use Rattle.std.proofs.Common.{ℕ, List, get_or, sym, subst, arith, ◌∙◌}
use Rattle.std.specs.List.{Contains}
use Rattle.std.proofs.lemmas.List.Elements.{Contains-get_or}
use Rattle.rgo_graphs.specs.Rows.{rows_of, row_at}
use Rattle.rgo_graphs.proofs.Pushed.{row_is}
use Rattle.rgo_flow.specs.Ranges.{AddsPoints, ForSome, IsKeptOut}
use Rattle.rgo_flow.proofs.Covering.{more_added, all_added}
use Rattle.rgo_flow.proofs.ranges.add_exits.Goals as goal

pub bounds-before-s : goal.bounds-before-s
bounds-before-s c = c.requires.rows _ (Contains-get_or c.args.solved.now c.loop-s.s-index 0 c.loop-s-test.true)

pub add_blocks-requires-clause-inside : goal.add_blocks-requires-clause-inside
add_blocks-requires-clause-inside c = λ h m.
    let s = get_or c.args.solved.now c.loop-s.s-index 0 in
    let within = c.requires.rows s (Contains-get_or c.args.solved.now c.loop-s.s-index 0 c.loop-s-test.true) in
    let row = row_is c.args.before.now s c.index-before-s.result within c.index-before-s.is in
    c.requires.inside s h (subst (λ (l : List ℕ). Contains l h) (c.deref.ensures.value ∙ sym row) m)

pub loop-s-preserved : goal.loop-s-preserved
loop-s-preserved c =
    let s = get_or c.args.solved.now c.loop-s.s-index 0 in
    let within = c.requires.rows s (Contains-get_or c.args.solved.now c.loop-s.s-index 0 c.loop-s-test.true) in
    let row = row_is c.args.before.now s c.index-before-s.result within c.index-before-s.is in
    more_added c.args.ranges.now.items c.loop-s.ranges.items c.add_blocks.new.ranges.items c.args.solved.now
    c.loop-s.s-index 0
    (λ s at. ForSome (row_at (rows_of c.args.before.now) s) (λ h. IsKeptOut c.args.last.now c.args.writers.now h at))
    c.loop-s-test.true c.loop-s.invariant
    (subst (λ (l : List ℕ). AddsPoints c.loop-s.ranges.items c.add_blocks.new.ranges.items
    (λ at. ForSome l (λ h. IsKeptOut c.args.last.now c.args.writers.now h at)))
    (c.deref.ensures.value ∙ sym row) c.in_ok-add_blocks.ensures)

pub returns : goal.returns
returns c =
    all_added c.args.ranges.now.items c.loop-s.ranges.items c.args.solved.now c.loop-s.s-index
    (λ s at. ForSome (row_at (rows_of c.args.before.now) s) (λ h. IsKeptOut c.args.last.now c.args.writers.now h at))
    (omega (arith, c.loop-s-test.false)) c.loop-s.invariant
