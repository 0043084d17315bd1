use Rattle.std.proofs.Common.{refl, sym, subst}
use Rattle.rgo_interpreter.specs.Turns.{Turns}
use Rattle.rgo_tac.specs.Tac.{tac}
use Rattle.rgo_region_interpreter.specs.Works.{WorldTakesTurn}
use Rattle.rgo_region_interpreter.proofs.stepping.PlainTurns.{never_no_room, turns_without_regions}
use Rattle.rgo_region_interpreter.proofs.worlds.World.plain.Goals as goal

pub returns : goal.returns
returns c =
    let w = c.args.self.now in
    let turned = c.turn_once-turned.result in
    let state = c.turn_once-turned.new.state in
    subst (λ s. WorldTakesTurn w (record w { state = state }) c.args.limits c.args.g
    (record { steps = turned.steps; stop = s })) (sym c.without_regions.ensures)
    (record {
      turns = turns_without_regions w.code.now c.args.limits w.state state c.args.g 1 turned
          (subst (λ code. Turns (tac code) c.args.limits w.state state c.args.g 1 turned) c.machine-machine.ensures
          c.turn_once-turned.ensures);
      same = refl;
      no_region = never_no_room turned.stop;
    })
