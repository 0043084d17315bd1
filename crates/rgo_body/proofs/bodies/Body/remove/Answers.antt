use Rattle.std.proofs.Common.{refl, subst}
use Rattle.rgo_sound.specs.RegionMachine.States.{Remove}
use Rattle.rgo_body.proofs.Attending.{IsKeyOf}
use Rattle.rgo_body.proofs.Sharing.{keyed_name}
use Rattle.rgo_body.proofs.Removing.{TellsKept, leaves_in, removes_none}
use Rattle.rgo_body.proofs.bodies.Body.remove.Goals as goal

pub returns-then-is_kept : goal.returns-then-is_kept
returns-then-is_kept c =
    let keyed = (subst (λ o. IsKeyOf c.args.self.now.holding o c.args.name) c.in-Some.is c.key.ensures) in
    removes_none c.args.program.now c.args.self.now _ c.args.name c.in-Some.key keyed
    c.requires.first.0 c.requires.first.1 (c.pop.ensures _ _ c.requires.first.1) refl c.requires.rests refl c.unbind.ensures.unbinds
    (subst (TellsKept c.args.program.now c.args.self.now c.args.self.now c.args.name c.in-Some.key keyed) c.if-is_kept.true c.is_kept.ensures)

pub returns : goal.returns
returns c =
    let keyed = (subst (λ o. IsKeyOf c.args.self.now.holding o c.args.name) c.in-Some.is c.key.ensures) in (
      refl,
      leaves_in c.args.program.now c.args.self.now c.args.self.now c.args.name c.in-Some.key keyed
          c.requires.first.0 c.requires.first.1 c.requires.possible
          (subst (TellsKept c.args.program.now c.args.self.now c.args.self.now c.args.name c.in-Some.key keyed) c.if-is_kept.false c.is_kept.ensures),
    )

pub returns-in_default : goal.returns-in_default
returns-in_default c = absurd (keyed_name c.args.program.now c.args.self.now c.args.name (Remove c.args.name) c.requires.first c.requires.possible
    (λ T r a. a.named) (subst (λ o. IsKeyOf c.args.self.now.holding o c.args.name) c.in_default.is c.key.ensures))
