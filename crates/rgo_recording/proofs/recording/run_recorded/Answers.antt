use Rattle.std.proofs.Common.{[], ◌∙◌, subst}
use Rattle.rgo_code.specs.Erasure.{erased}
use Rattle.rgo_round_robin.specs.Runs.{RunsTo}
use Rattle.rgo_tac.specs.Tac.{tac, tac_start}
use Rattle.rgo_recording.specs.Recorders.{recorder_view}
use Rattle.rgo_recording.proofs.Ended.{records}
use Rattle.rgo_recording.proofs.Leading.{begins}
use Rattle.rgo_recording.proofs.Starting.{starts_ready}
use Rattle.rgo_recording.proofs.recording.run_recorded.Goals as goal

pub run-end-requires : goal.run-end-requires
run-end-requires g c = record {
  given = [];
  state = tac_start (erased c.args.code.now);
  shown = begins c.args.code.now c.args.sizes (record { world = c.in_ok-world.world; notes = c.new-2.result })
      c.in_ok-world.ensures.starts c.new-2.ensures;
  ready = starts_ready c.args.limits (erased c.args.code.now);
}

pub returns-clause-records : goal.returns-clause-records
returns-clause-records g c =
    let code = c.args.code.now in
    let starts = c.in_ok-world.ensures.starts in
    let start = tac_start (erased code) in
    let call = c.run-end in
    let old = g.K.Sink.contents c.args.out.now in
    let new = g.K.Sink.contents call.new.out in
    records code c.args.sizes c.args.limits old new call.new.run call.result
    (call.ensures.fixed ∙ (λ i. (starts.code_is i, starts.sizes_are i)))
    (subst (λ x. RunsTo (recorder_view call.new.run) (tac (erased x)) c.args.limits [] start call.result old new) starts.code_is
    (call.ensures.runs [] start
    (begins code c.args.sizes (record { world = c.in_ok-world.world; notes = c.new-2.result }) starts c.new-2.ensures)
    (starts_ready c.args.limits (erased code))))
