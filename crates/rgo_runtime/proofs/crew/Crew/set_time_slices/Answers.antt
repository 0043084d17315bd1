use Rattle.std.proofs.Common.{◌<◌, arith, length}
use Rattle.rgo_runtime.specs.Crews.{IsGivenSlice}
use Rattle.rgo_runtime.proofs.crews.Steps.{slice_changes}
use Rattle.rgo_runtime.proofs.lists.Sweeps.{swept_more}
use Rattle.rgo_runtime.proofs.crew.Crew.set_time_slices.Goals as goal

pub loop-i-preserved : goal.loop-i-preserved
loop-i-preserved c =
    let ready = c.loop-i.self-inside.ready.items in
    let x = c.index_mut.result.now in
    let changes = c.loop-i.invariant.changes in
    let within : c.loop-i.i < length ready = omega (arith, c.loop-i-test.true, c.loop-i.invariant.end, changes.len) in
    record {
      end = c.loop-i.invariant.end;
      given = swept_more (IsGivenSlice c.args.slice) c.args.self.now.ready ready c.loop-i.i x c.set_slice.new.self c.loop-i.invariant.given within
          c.index_mut.ensures.value (c.set_slice.ensures.rest, c.set_slice.ensures.within);
      changes = slice_changes _ _ c.loop-i.i x changes within c.index_mut.ensures.value c.set_slice.new.self c.set_slice.ensures.rest;
    }
