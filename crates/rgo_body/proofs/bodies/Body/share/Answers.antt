use Rattle.std.proofs.Common.{refl, subst}
use Rattle.rgo_sound.specs.RegionMachine.States.{Share}
use Rattle.rgo_body.proofs.Attending.{IsKeyOf}
use Rattle.rgo_body.proofs.Sharing.{TellsShare, keyed_name, shares_in, shares_none}
use Rattle.rgo_body.proofs.bodies.Body.share.Goals as goal

pub returns-then-has_share : goal.returns-then-has_share
returns-then-has_share c =
    let keyed = (subst (λ o. IsKeyOf c.args.self.now.holding o c.args.name) c.in-Some.is c.key.ensures) in
    shares_none c.args.program.now c.args.self.now _ c.args.name c.in-Some.key keyed
    c.requires.first.0 c.requires.first.1 (c.pop.ensures _ _ c.requires.first.1) refl c.requires.rests refl refl
    (subst (TellsShare c.args.program.now c.args.self.now c.args.self.now c.args.name c.in-Some.key keyed) c.if-has_share.true c.has_share.ensures)

pub returns : goal.returns
returns c =
    let keyed = (subst (λ o. IsKeyOf c.args.self.now.holding o c.args.name) c.in-Some.is c.key.ensures) in (
      refl,
      shares_in c.args.program.now c.args.self.now c.args.self.now c.args.name c.in-Some.key keyed
          c.requires.first.0 c.requires.first.1 c.requires.possible
          (subst (TellsShare c.args.program.now c.args.self.now c.args.self.now c.args.name c.in-Some.key keyed) c.if-has_share.false c.has_share.ensures),
    )

pub returns-in_default : goal.returns-in_default
returns-in_default c = absurd (keyed_name c.args.program.now c.args.self.now c.args.name (Share c.args.name) c.requires.first c.requires.possible
    (λ T r a. a) (subst (λ o. IsKeyOf c.args.self.now.holding o c.args.name) c.in_default.is c.key.ensures))
