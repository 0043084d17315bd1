use Rattle.std.proofs.Common.{None}
use Rattle.rgo_tac.specs.Code as op
use Rattle.rgo_lower.specs.Emitted.{made_of, always}
use Rattle.rgo_lower.proofs.Growing.{op_added, ok_map}
use Rattle.rgo_lower.proofs.builder.Builder.act.Goals as goal

pub returns : goal.returns
returns c =
    let a = made_of c.args.self.now in
    let b = made_of c.line.new.self in
    ok_map c.line.result _ _
    (λ is. op_added a b c.effect_instr-instr.result (always (op.Do None c.args.action c.args.from.now)) c.args.place is
    (λ w k. c.effect_instr-instr.ensures w.leads w.lists w.pieces)) c.line.ensures
