use Rattle.std.proofs.Common.{◌↔◌, ℕ}
use Rattle.std.proofs.lemmas.Result.{IfOk-weaker}
use Rattle.rgo_flow.specs.Graphs.{IsLiveIn}
use Rattle.rgo_flow.specs.Live.{Live}
use Rattle.rgo_flow.specs.Table.{IsLive}
use Rattle.rgo_flow.proofs.RowPaths.{same}
use Rattle.rgo_flow.proofs.Variables.{either_way}
use Rattle.rgo_flow.proofs.liveness.live.Goals as goal

pub returns : goal.returns
returns c =
    let f = c.args.function.now in
    let g = c.in_ok-graph.graph in
    IfOk-weaker c.live_in.result (λ live. (v i : ℕ) → IsLive live v i ↔ IsLiveIn g v i)
    (λ live. (v at : ℕ) → IsLive live v at ↔ Live f v at)
    (λ live h v at. either_way (h v at) (same f g c.in_ok-graph.ensures v at)) c.live_in.ensures
