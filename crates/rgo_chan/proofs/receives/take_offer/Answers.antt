use Rattle.std.proofs.Common.{◌+◌, subst, refl, arith}
use Rattle.rgo_core.specs.ties.Bounds.{Points}
use Rattle.rgo_core.specs.runs.Plans.{setup_of}
use Rattle.rgo_core_steps.specs.Seats.{mine}
use Rattle.rgo_chan.proofs.Carrying.{receives_as, type_as}
use Rattle.rgo_chan.proofs.UnderLock.{can_load, can_meet, frame_still, held_still, leads, received, received_there}
use Rattle.rgo_chan.proofs.receives.take_offer.Goals as goal

pub reach-word-requires-clause-sized : goal.reach-word-requires-clause-sized
reach-word-requires-clause-sized g c = c.requires.held.1

pub load_cell-value-requires-clause-alone : goal.load_cell-value-requires-clause-alone
load_cell-value-requires-clause-alone g c = c.reach-word.ensures.reached.did.made.grew.alone

pub load_cell-value-requires-clause-held : goal.load_cell-value-requires-clause-held
load_cell-value-requires-clause-held g c =
    let T = setup_of c.args.table.now.shared.key in
    can_load T c.args.at 0 c.args.control (mine T c.args.seat.now.me) c.args.seat.now.me c.reach-word.new.seat.me
    c.args.steps.now c.reach-word.new.steps 0 c.reach-word.result c.requires.held c.reach-word.ensures.reached (omega arith)

pub commit_meet-requires-clause-ready : goal.commit_meet-requires-clause-ready
commit_meet-requires-clause-ready g c =
    let T = setup_of c.args.table.now.shared.key in
    let m = c.args.seat.now.me in
    let v = c.reach-word.new.seat.me in
    let s = c.args.steps.now in
    let r = c.reach-word.new.steps in
    let word = c.reach-word.result in
    can_meet T c.args.at c.args.control v c.load_cell-value.new.seat.me
    (held_still T c.args.at 0 c.args.control (mine T m) m v s r 0 word c.requires.held c.reach-word.ensures.reached) word
    c.load_cell-value.result
    (receives_as (mine T v)
    (frame_still T c.args.at 0 c.args.control (mine T m) m v s r 0 word c.requires.held c.reach-word.ensures.reached) c.requires.here)
    c.load_cell-value.ensures.leaves c.requires.offered

pub returns-clause-taken : goal.returns-clause-taken
returns-clause-taken g c =
    let T = setup_of c.args.table.now.shared.key in
    let m = c.args.seat.now.me in
    let v = c.reach-word.new.seat.me in
    let w = c.commit_meet.new.seat.me in
    let s = c.args.steps.now in
    let r = c.reach-word.new.steps in
    let word = c.reach-word.result in
    let reach = c.reach-word.ensures.reached in
    let value = c.load_cell-value.result in
    received_there T c.args.at 0 c.args.control (mine T m) m v s r 0 word c.requires.held reach value (c.args.control + 4) c.requires.here
    0 refl w c.tick-2.new.self
    (received T c.args.at 0 c.args.control v c.load_cell-value.new.seat.me
    (held_still T c.args.at 0 c.args.control (mine T m) m v s r 0 word c.requires.held reach) 0 word value
    (receives_as (mine T v)
    (frame_still T c.args.at 0 c.args.control (mine T m) m v s r 0 word c.requires.held reach) c.requires.here)
    c.load_cell-value.ensures.leaves w r c.tick.new.self c.tick-2.new.self c.tick.ensures c.tick-2.ensures (c.args.control + 4)
    c.commit_meet.ensures.stored)

pub returns-clause-points : goal.returns-clause-points
returns-clause-points g c =
    let T = setup_of c.args.table.now.shared.key in
    let m = c.args.seat.now.me in
    let v = c.reach-word.new.seat.me in
    let s = c.args.steps.now in
    let r = c.reach-word.new.steps in
    let word = c.reach-word.result in
    let reach = c.reach-word.ensures.reached in
    let same = frame_still T c.args.at 0 c.args.control (mine T m) m v s r 0 word c.requires.held reach in
    subst (λ ty. Points T ty c.load_cell-value.result) (type_as T (mine T m) (mine T v) same)
    (leads T c.args.at 0 c.args.control v c.load_cell-value.new.seat.me
    (held_still T c.args.at 0 c.args.control (mine T m) m v s r 0 word c.requires.held reach) 0 word c.load_cell-value.result
    (receives_as (mine T v) same c.requires.here) c.load_cell-value.ensures.leaves c.commit_meet.ensures.points)
