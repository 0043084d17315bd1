use Rattle.std.proofs.Common.{◌∙◌, ◌↔◌, ℕ, sym, slice_get}
use Rattle.std.specs.List.{Contains}
use Rattle.std.proofs.lemmas.Result.{IfOk-weaker}
use Rattle.rgo_tac.specs.Flow.{targets_of}
use Rattle.rgo_flow.specs.Graphs.{HasTargets, LeadsInside}
use Rattle.rgo_flow.proofs.Instructions.{led_some}
use Rattle.rgo_flow.proofs.Targets.{leads_are}
use Rattle.rgo_flow.proofs.graphs.successor_row.Goals as goal

pub returns-in-Some : goal.returns-in-Some
returns-in-Some c =
    let f = c.args.function.now in
    let led = led_some c.args.at (slice_get f.body c.args.at) _ c.in-Some.ensures.op ∙ sym c.leads_to.ensures in
    IfOk-weaker c.target_row.result (λ row. HasTargets row.items (targets_of c.leads_to.result) c.instr_count.result)
    (λ row. (j : ℕ) → Contains row.items j ↔ LeadsInside f c.args.at j)
    (λ row has. leads_are f c.args.at c.instr_count.result (targets_of c.leads_to.result) row.items led c.instr_count.ensures.count has)
    c.target_row.ensures
