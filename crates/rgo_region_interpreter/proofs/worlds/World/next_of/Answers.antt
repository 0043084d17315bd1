use Rattle.std.proofs.Common.{◌≡◌, Some, sym, ap, ◌∙◌, subst, slice_get}
use Rattle.rgo_tac.specs.Ops.{operation_of, op_in}
use Rattle.rgo_region_machine.specs.Owed.{code_function}
use Rattle.rgo_region_interpreter.proofs.holding.Nexts.{decoded}
use Rattle.rgo_region_interpreter.proofs.worlds.World.next_of.Goals as goal

pub returns : goal.returns
returns c =
    let f = c.in_ok-function.function in
    let d = decoded f c.frame.inside.next (operation_of c.in_ok-op.op)
    (sym (ap (λ t. op_in (slice_get t.body c.frame.inside.next)) c.tac.ensures) ∙ sym c.in_ok-op.ensures.op) in
    record {
      function =
          subst (λ frame. code_function c.args.self.now.code.now frame.function ≡ Some f) c.frame.view_is
          (sym c.in_ok-function.ensures);
      at = ap (λ frame. frame.next) c.frame.view_is;
      instr = d.instr;
      is_instr = d.is_instr;
      op = d.does;
    }
