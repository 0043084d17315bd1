use Rattle.std.proofs.Common.{◌+◌}
use Rattle.rgo_core.specs.Rule.Views.{number_of}
use Rattle.rgo_core.specs.Rule.declared.accesses.Kind.TheVariants.{Commit}
use Rattle.rgo_core.specs.ties.Bounds.{Points}
use Rattle.rgo_core.specs.runs.Plans.{setup_of}
use Rattle.rgo_core.proofs.runs.Possible.{is_possible}
use Rattle.rgo_core_steps.specs.Accesses.{given_type}
use Rattle.rgo_core_steps.specs.After.{committing}
use Rattle.rgo_core_steps.specs.Channels.{value_by}
use Rattle.rgo_core_steps.specs.Seats.{mine}
use Rattle.rgo_core_steps.proofs.accesses.Lefts.{stored_after}
use Rattle.rgo_core_steps.proofs.accesses.Channels.{meet_commits}
use Rattle.rgo_core_steps.proofs.channels.commit_meet.Goals as goal

pub store-requires-clause-asks : goal.store-requires-clause-asks
store-requires-clause-asks c =
    let T = setup_of c.args.table.now.shared.key in
    let me = c.args.seat.now.me in
    (c.requires.alone, meet_commits T (number_of me) (mine T me) c.args.at c.args.control c.requires.ready)

pub returns-clause-stored : goal.returns-clause-stored
returns-clause-stored c =
    let T = setup_of c.args.table.now.shared.key in
    let d = mine T c.args.seat.now.me in
    (stored_after T Commit c.args.at c.args.seat.now.me c.store.new.seat.me (λ n e. Points T (given_type T d) (value_by d.side.hold))
    (c.args.control + 4) (committing T.code d (value_by d.side.hold)) c.store.ensures.leaves)

pub returns-clause-points : goal.returns-clause-points
returns-clause-points c = c.store.ensures.leaves.1.1.tells_so.1

pub returns-clause-possible : goal.returns-clause-possible
returns-clause-possible c = is_possible (setup_of c.args.table.now.shared.key) _ _ c.store.ensures.possible
