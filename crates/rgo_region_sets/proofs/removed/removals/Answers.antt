use Rattle.std.proofs.Common.{ℕ, List, Vec, sym, subst}
use Rattle.std.specs.Global.{Global}
use Rattle.rgo_graphs.specs.Rows.{rows_of}
use Rattle.rgo_region_sets.specs.Live.{IsWay}
use Rattle.rgo_region_sets.proofs.Removing.{first_way, second_way}
use Rattle.rgo_region_sets.proofs.removed.removals.Goals as goal

pub on_way-requires-clause-way : goal.on_way-requires-clause-way
on_way-requires-clause-way c = λ next leads.
    subst (λ (rows : List (Vec ℕ Global)). IsWay c.args.live.now c.args.f.now (rows_of rows) c.args.at next)
    (sym c.deref.ensures.value) (first_way c.args.live.now c.args.f.now c.requires.live c.args.at next leads)

pub on_way-requires-2-clause-way : goal.on_way-requires-2-clause-way
on_way-requires-2-clause-way c = λ next leads.
    subst (λ (rows : List (Vec ℕ Global)). IsWay c.args.live.now c.args.f.now (rows_of rows) c.args.at next)
    (sym c.deref-2.ensures.value) (second_way c.args.live.now c.args.f.now c.requires.live c.args.at next leads)
