use Rattle.std.proofs.Common.{◌≡◌, arith, subst, List, ℕ, take}
use Rattle.std.proofs.lemmas.List.{take_all}
use Rattle.std.specs.List.{Contains}
use Rattle.std.proofs.lemmas.List.Elements.{Contains-get_or}
use Rattle.rgo_graphs.specs.Rows.{Adds, rows_of}
use Rattle.rgo_graphs.proofs.Pushed.{adds_step, most_added}
use Rattle.rgo_graphs.proofs.rows.add_row.Goals as goal

pub push_at-requires : goal.push_at-requires
push_at-requires c = record {
  inside = omega (
    arith,
    c.loop-at.invariant.len,
    c.requires.inside _ (Contains-get_or c.args.these.now c.loop-at.at-index 0 c.loop-at-test.true),
  );
}

pub loop-at-preserved : goal.loop-at-preserved
loop-at-preserved c = record {
  len = omega (arith, c.push_at.ensures.len, c.loop-at.invariant.len);
  added = adds_step (rows_of c.args.rows.now.items) (rows_of c.loop-at.rows.items)
      (rows_of c.push_at.new.rows.items) c.args.these.now c.loop-at.at-index c.args.item c.loop-at-test.true
      c.loop-at.invariant.added c.in_ok-push_at.ensures.added;
  ascending = λ asc most. c.in_ok-push_at.ensures.ascending (c.loop-at.invariant.ascending asc most)
      (λ x h. most_added (rows_of c.args.rows.now.items) (rows_of c.loop-at.rows.items)
      (Contains (take c.loop-at.at-index c.args.these.now)) c.args.item c.loop-at.invariant.added most _ x h);
}

pub returns-clause-added : goal.returns-clause-added
returns-clause-added c =
    subst (λ (l : List ℕ). Adds (rows_of c.args.rows.now.items) (rows_of c.loop-at.rows.items)
    (λ i x. Contains l i × (x ≡ c.args.item)))
    (take_all c.loop-at.at-index c.args.these.now c.loop-at-test.false) c.loop-at.invariant.added
