use Rattle.std.proofs.Common.{◌≡◌, ◌<◌, length, slice_get, sym, ap, ◌∙◌}
use Rattle.std.specs.Option.{option_map}
use Rattle.rgo_tac.specs.Code.{TacFn}
use Rattle.rgo_tac.specs.Ops.{op_in, operation_of}
use Rattle.rgo_code.specs.Erasure.{erased_fn}
use Rattle.rgo_insert.proofs.Growing.{more_notes, no_op}
use Rattle.rgo_insert.proofs.filling.notes_of.Goals as goal
use Rattle.rgo_insert.proofs.filling.notes_of.Goals.{in-Some+in_ok-note_of-in-Some+in_ok-push-in-Some, in-None}

pub loop-at-preserved : goal.loop-at-preserved
loop-at-preserved c =
    let at = c.loop-at.at in
    let found : op_in (slice_get (erased_fn c.args.f.now).body at) ≡ option_map operation_of c.op.result =
    ap (λ (f : TacFn). op_in (slice_get f.body at)) (sym c.tac-in-loop-at.ensures) ∙ sym c.op.ensures.op in
    elim c.match-op.branch [
      | in-Some+in_ok-note_of-in-Some+in_ok-push-in-Some w ↦
          rw (w.notes-is, w.in_ok-push-in-Some.ensures.items) (more_notes c.args.functions.now c.args.f.now
          c.loop-at.notes.items at (operation_of w.in-Some.op) w.in_ok-note_of-in-Some.field-0 c.loop-at.invariant
          (found ∙ ap (option_map operation_of) w.in-Some.is) w.in_ok-note_of-in-Some.ensures)
      | in-None w ↦
          let within : at < length (erased_fn c.args.f.now).body =
          rw (c.len-at-end.ensures, c.tac.ensures) at c.loop-at-test.true in
          absurd (no_op (erased_fn c.args.f.now) at within (found ∙ ap (option_map operation_of) w.in-None.is))
    ]
