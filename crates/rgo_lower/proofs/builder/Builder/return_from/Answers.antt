use Rattle.std.proofs.Common.{Some, refl}
use Rattle.rgo_tac.specs.declared.code.Instr.TheVariants as instr
use Rattle.rgo_tac.specs.Code as op
use Rattle.rgo_lower.specs.Emitted.{made_of, always}
use Rattle.rgo_lower.proofs.Growing.{op_added, ok_map}
use Rattle.rgo_lower.proofs.builder.Builder.return_from.Goals as goal

pub returns : goal.returns
returns c =
    let a = made_of c.args.self.now in
    let b = made_of c.line.new.self in
    ok_map c.line.result _ _
    (λ is. op_added a b (instr.Return c.args.value) (always (op.Return (Some c.args.value))) c.args.place is
    (λ w k. refl)) c.line.ensures
