use Rattle.std.proofs.Common.{sym}
use Rattle.rgo_region_sets.proofs.Tables.{branch_more, other_instruction}
use Rattle.rgo_region_sets.proofs.branches.add_branch.Goals as goal

pub returns-in_ok-push-3 : goal.returns-in_ok-push-3
returns-in_ok-push-3 c =
    let b = c.args.branches.now in
    let more = branch_more c.args.function.now b.points.items b.targets.items b.others.items c.args.point c.requires
    c.in-Some.target c.in-Some.other (sym c.in-Some.ensures) in
    rw (c.in_ok-push.ensures.items, c.in_ok-push-2.ensures.items, c.in_ok-push-3.ensures.items) more

pub returns-in_default : goal.returns-in_default
returns-in_default c =
    let b = c.args.branches.now in
    other_instruction c.args.function.now b.points.items b.targets.items b.others.items c.args.point c.requires
    (sym c.in_default.ensures)
