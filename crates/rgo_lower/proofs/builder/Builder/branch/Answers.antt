use Rattle.std.proofs.Common.{refl}
use Rattle.rgo_tac.specs.declared.code.Instr.TheVariants as instr
use Rattle.rgo_lower.specs.Emitted.{made_of, branch_to}
use Rattle.rgo_lower.proofs.Growing.{op_added, line_count, ok_map}
use Rattle.rgo_lower.proofs.builder.Builder.branch.Goals as goal

pub returns : goal.returns
returns c =
    let a = made_of c.args.self.now in
    let b = made_of c.line.new.self in
    let i = instr.Branch c.args.test c.args.inside c.args.other in
    ok_map c.line.result _ _
    (λ is. (
      op_added a b i (branch_to c.args.test c.args.inside c.args.other) c.args.place is (λ w k. refl),
      line_count a b i c.args.place is,
    )) c.line.ensures
