use Rattle.std.proofs.Common.{sym}
use Rattle.rgo_body.proofs.Transfers.{caller_instr, caller_next}
use Rattle.rgo_body.proofs.bodies.Body.call_below.Goals as goal

pub unreachable-requires : goal.unreachable-requires
unreachable-requires c =
    caller_instr c.args.program.now c.args.self.now c.in_ok-place.place c.requires.possible (sym c.in_ok-place.ensures) c.in-None.ensures

pub returns : goal.returns
returns c =
    caller_next c.args.program.now c.args.self.now c.in_ok-place.place c.in-Some.next.now (sym c.in_ok-place.ensures) c.in-Some.ensures
