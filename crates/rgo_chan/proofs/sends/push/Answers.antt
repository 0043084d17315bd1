use Rattle.rgo_core.specs.runs.Plans.{setup_of}
use Rattle.rgo_core_steps.specs.Seats.{mine}
use Rattle.rgo_chan.proofs.Carrying.{sends_as}
use Rattle.rgo_chan.proofs.UnderLock.{can_send, can_store, frame_still, held_still, pushed, pushed_there, spare_cell}
use Rattle.rgo_chan.proofs.sends.push.Goals as goal

pub reach-word-requires-clause-cell : goal.reach-word-requires-clause-cell
reach-word-requires-clause-cell g c =
    (spare_cell (setup_of c.args.table.now.shared.key) c.args.at c.args.size c.args.control c.free_cell-cell.result c.requires.room c.free_cell-cell.ensures).0

pub reach-word-requires-clause-sized : goal.reach-word-requires-clause-sized
reach-word-requires-clause-sized g c = c.requires.held.1

pub store_cell-requires-clause-alone : goal.store_cell-requires-clause-alone
store_cell-requires-clause-alone g c = c.reach-word.ensures.reached.did.made.grew.alone

pub store_cell-requires-clause-held : goal.store_cell-requires-clause-held
store_cell-requires-clause-held g c =
    let T = setup_of c.args.table.now.shared.key in
    can_store T c.args.at c.args.size c.args.control (mine T c.args.seat.now.me) c.args.seat.now.me c.reach-word.new.seat.me
    c.args.steps.now c.reach-word.new.steps c.free_cell-cell.result c.reach-word.result c.requires.held c.reach-word.ensures.reached
    (spare_cell T c.args.at c.args.size c.args.control c.free_cell-cell.result c.requires.room c.free_cell-cell.ensures)

pub commit_send-requires-clause-ready : goal.commit_send-requires-clause-ready
commit_send-requires-clause-ready g c =
    let T = setup_of c.args.table.now.shared.key in
    let m = c.args.seat.now.me in
    let v = c.reach-word.new.seat.me in
    let s = c.args.steps.now in
    let r = c.reach-word.new.steps in
    let cell = c.free_cell-cell.result in
    let word = c.reach-word.result in
    can_send T c.args.at c.args.size c.args.control v c.store_cell.new.seat.me
    (held_still T c.args.at c.args.size c.args.control (mine T m) m v s r cell word c.requires.held c.reach-word.ensures.reached) cell word
    c.args.value
    (sends_as (mine T v)
    (frame_still T c.args.at c.args.size c.args.control (mine T m) m v s r cell word c.requires.held c.reach-word.ensures.reached)
    c.requires.here)
    c.store_cell.ensures.stored c.free_cell-cell.ensures c.requires.room

pub returns-clause-pushed : goal.returns-clause-pushed
returns-clause-pushed g c =
    let T = setup_of c.args.table.now.shared.key in
    let m = c.args.seat.now.me in
    let v = c.reach-word.new.seat.me in
    let w = c.commit_send.new.seat.me in
    let s = c.args.steps.now in
    let r = c.reach-word.new.steps in
    let cell = c.free_cell-cell.result in
    let word = c.reach-word.result in
    let reach = c.reach-word.ensures.reached in
    pushed_there T c.args.at c.args.size c.args.control (mine T m) m v s r cell word c.requires.held reach c.args.value c.requires.here
    c.free_cell-cell.ensures w c.tick-2.new.self
    (pushed T c.args.at c.args.size c.args.control v c.store_cell.new.seat.me
    (held_still T c.args.at c.args.size c.args.control (mine T m) m v s r cell word c.requires.held reach) cell word c.args.value
    (sends_as (mine T v)
    (frame_still T c.args.at c.args.size c.args.control (mine T m) m v s r cell word c.requires.held reach) c.requires.here)
    c.store_cell.ensures.stored w r c.tick.new.self c.tick-2.new.self c.tick.ensures c.tick-2.ensures c.commit_send.ensures.stored)
