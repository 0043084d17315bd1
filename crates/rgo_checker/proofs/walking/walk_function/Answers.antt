use Rattle.rgo_checker.proofs.walks.WalkLaws.{fn_walked}
use Rattle.rgo_checker.proofs.walking.walk_function.Goals as goal

pub walk_entry-requires : goal.walk_entry-requires
walk_entry-requires c = record { live = c.in_ok-live.ensures; ascends = c.requires }

pub walk_body-requires : goal.walk_body-requires
walk_body-requires c = record { live = c.in_ok-live.ensures; ascends = c.requires }

pub returns : goal.returns
returns c = λ n here.
    fn_walked c.args.code.now 2 15 n c.args.f.now c.args.scan.now c.walk_head.new.scan c.walk_slots.new.scan
    c.walk_entry.new.scan c.walk_body.new.scan c.walk_end.new.scan (c.walk_head.ensures n here)
    (c.walk_slots.ensures n here) (c.in_ok-walk_entry.ensures n here) (c.in_ok-walk_body.ensures n here)
    (c.walk_end.ensures n)
