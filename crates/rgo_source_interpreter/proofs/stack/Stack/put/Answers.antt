use Rattle.std.proofs.Common.{ap, ◌∙◌, ◌++◌, ◌≡◌, arith, drop, reverse, length}
use Rattle.std.proofs.lemmas.List.{take_all}
use Rattle.rgo_source_interpreter.proofs.Stacks.{older_of}
use Rattle.rgo_source_interpreter.proofs.stack.Stack.put.Goals as goal

pub loop-left-init : goal.loop-left-init
loop-left-init g c =
    let older : reverse c.truncate.new.self.items ≡ drop c.args.count c.args.self.now =
    ap reverse c.truncate.ensures.items
    ∙ older_of c.reserve.new.self.items c.args.count c.saturating_sub.result (omega arith)
    ∙ ap (drop c.args.count) (ap reverse c.reserve.ensures.items ∙ c.self.view_is) in
    record {
      so_far = λ i. take_all (length c.args.items.now) c.args.items.now (omega arith) i ++ older i;
      room = omega (arith, c.in_ok-reserve.ensures.ok);
      within = omega arith;
    }
