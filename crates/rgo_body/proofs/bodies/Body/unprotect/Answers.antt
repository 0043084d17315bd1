use Rattle.std.proofs.Common.{refl, subst}
use Rattle.rgo_sound.specs.RegionMachine.States.{Unprotect}
use Rattle.rgo_body.proofs.Attending.{IsKeyOf}
use Rattle.rgo_body.proofs.Sharing.{keyed_name, unprotects}
use Rattle.rgo_body.proofs.bodies.Body.unprotect.Goals as goal

pub returns : goal.returns
returns c = unprotects c.args.program.now c.args.self.now _ c.args.name c.in-Some.key
    (subst (λ o. IsKeyOf c.args.self.now.holding o c.args.name) c.in-Some.is c.key.ensures)
    c.requires.first.0 c.requires.first.1 (c.pop.ensures _ _ c.requires.first.1) refl c.requires.rests refl c.unprotect.ensures.unprotects

pub returns-in_default : goal.returns-in_default
returns-in_default c = absurd (keyed_name c.args.program.now c.args.self.now c.args.name (Unprotect c.args.name) c.requires.first c.requires.possible
    (λ T r a. a.named) (subst (λ o. IsKeyOf c.args.self.now.holding o c.args.name) c.in_default.is c.key.ensures))
