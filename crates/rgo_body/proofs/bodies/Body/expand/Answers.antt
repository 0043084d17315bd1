use Rattle.std.proofs.Common.{◌++◌, refl, sym, ap, ◌∙◌, map}
use Rattle.rgo_sound.specs.Code.Lists.{creates_in}
use Rattle.rgo_sound.specs.RegionMachine.Owed.{duties_of_op}
use Rattle.rgo_sound.specs.RegionMachine.States.{Create}
use Rattle.rgo_body.proofs.Creating.{expands, no_more, requeued}
use Rattle.rgo_body.proofs.bodies.Body.expand.Goals as goal

pub returns-clause-stays : goal.returns-clause-stays
returns-clause-stays c = expands c.args.program.now c.args.self.now _ c.args.next.now c.requires.next c.requires.empty c.requires.not_yet
    refl (c.in-Ok.ensures.queued c.requires.next.instr c.requires.next.is_instr c.requires.next.op
    ∙ ap (λ l. map Create c.requires.next.instr.creates ++ l)
    (ap (λ l. duties_of_op c.requires.next.instr.op ++ l) c.requires.empty ∙ no_more (duties_of_op c.requires.next.instr.op))
    ∙ ap (λ o. map Create (creates_in o) ++ duties_of_op c.requires.next.instr.op) (sym c.requires.next.is_instr))

pub returns-in-Err-clause-stays : goal.returns-in-Err-clause-stays
returns-in-Err-clause-stays c = requeued c.args.program.now c.args.self.now _ refl c.in-Err.ensures.kept
