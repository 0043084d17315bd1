use Rattle.std.proofs.Common.{refl, subst}
use Rattle.rgo_body.proofs.Attending.{IsKeyOf, with_holding}
use Rattle.rgo_body.proofs.Sharing.{protected_key, protects}
use Rattle.rgo_body.proofs.bodies.Body.protect.Goals as goal

pub unreachable-requires : goal.unreachable-requires
unreachable-requires c =
    protected_key c.args.program.now c.args.self.now c.args.name c.requires.first.0 c.requires.possible c.requires.first.1
    (subst (λ o. IsKeyOf c.args.self.now.holding o c.args.name) c.in_default.is c.key.ensures)

pub returns-clause-done : goal.returns-clause-done
returns-clause-done c = protects c.args.program.now c.args.self.now _ c.args.name c.in-Some.key
    (subst (λ o. IsKeyOf c.args.self.now.holding o c.args.name) c.in-Some.is c.key.ensures)
    c.requires.first.0 c.requires.first.1 (c.pop.ensures _ _ c.requires.first.1) refl c.requires.rests refl c.in-Ok.ensures.protects

pub returns-in-Err-clause-stays : goal.returns-in-Err-clause-stays
returns-in-Err-clause-stays c T r s = with_holding T c.args.program.now c.args.self.now r c.protect.new.self s c.in-Err.ensures.kept
