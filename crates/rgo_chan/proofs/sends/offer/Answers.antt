use Rattle.rgo_core.specs.runs.Plans.{setup_of}
use Rattle.rgo_core_steps.specs.Seats.{mine}
use Rattle.rgo_chan.proofs.Carrying.{sends_as}
use Rattle.rgo_chan.proofs.Cells.{only_spare}
use Rattle.rgo_chan.proofs.UnderLock.{can_offer, can_store, frame_still, held_still, put_up, put_up_there}
use Rattle.rgo_chan.proofs.sends.offer.Goals as goal

pub reach-word-requires-clause-sized : goal.reach-word-requires-clause-sized
reach-word-requires-clause-sized g c = c.requires.held.1

pub store_cell-requires-clause-alone : goal.store_cell-requires-clause-alone
store_cell-requires-clause-alone g c = c.reach-word.ensures.reached.did.made.grew.alone

pub store_cell-requires-clause-held : goal.store_cell-requires-clause-held
store_cell-requires-clause-held g c =
    let T = setup_of c.args.table.now.shared.key in
    can_store T c.args.at 0 c.args.control (mine T c.args.seat.now.me) c.args.seat.now.me c.reach-word.new.seat.me
    c.args.steps.now c.reach-word.new.steps 0 c.reach-word.result c.requires.held c.reach-word.ensures.reached
    (only_spare c.args.control c.requires.none.2)

pub commit_offer-requires-clause-ready : goal.commit_offer-requires-clause-ready
commit_offer-requires-clause-ready g c =
    let T = setup_of c.args.table.now.shared.key in
    let m = c.args.seat.now.me in
    let v = c.reach-word.new.seat.me in
    let s = c.args.steps.now in
    let r = c.reach-word.new.steps in
    let word = c.reach-word.result in
    can_offer T c.args.at c.args.control v c.store_cell.new.seat.me
    (held_still T c.args.at 0 c.args.control (mine T m) m v s r 0 word c.requires.held c.reach-word.ensures.reached) word c.args.value
    (sends_as (mine T v)
    (frame_still T c.args.at 0 c.args.control (mine T m) m v s r 0 word c.requires.held c.reach-word.ensures.reached) c.requires.here)
    c.store_cell.ensures.stored c.requires.none

pub returns-clause-offered : goal.returns-clause-offered
returns-clause-offered g c =
    let T = setup_of c.args.table.now.shared.key in
    let m = c.args.seat.now.me in
    let v = c.reach-word.new.seat.me in
    let w = c.commit_offer.new.seat.me in
    let s = c.args.steps.now in
    let r = c.reach-word.new.steps in
    let word = c.reach-word.result in
    let reach = c.reach-word.ensures.reached in
    put_up_there T c.args.at 0 c.args.control (mine T m) m v s r 0 word c.requires.held reach c.args.value w c.tick-2.new.self
    (put_up T c.args.at c.args.control v c.store_cell.new.seat.me
    (held_still T c.args.at 0 c.args.control (mine T m) m v s r 0 word c.requires.held reach) word c.args.value
    (sends_as (mine T v)
    (frame_still T c.args.at 0 c.args.control (mine T m) m v s r 0 word c.requires.held reach) c.requires.here)
    c.store_cell.ensures.stored w r c.tick.new.self c.tick-2.new.self c.tick.ensures c.tick-2.ensures c.commit_offer.ensures.stored)
