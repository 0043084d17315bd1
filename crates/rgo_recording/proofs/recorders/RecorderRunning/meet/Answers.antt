use Rattle.std.proofs.Common.{◌≡◌, refl, ap, subst, Ok}
use Rattle.std.specs.Prelude.{alloc_error}
use Rattle.rgo_machine.specs.declared.limits.Sizes.{Sizes}
use Rattle.rgo_code.specs.Code.{Code}
use Rattle.rgo_code.specs.Erasure.{erased}
use Rattle.rgo_round_robin.specs.Running.{TriesMeeting}
use Rattle.rgo_journal.specs.declared.picks.TacPick.TheVariants.{Meet}
use Rattle.rgo_journal.specs.Text.{PickFits}
use Rattle.rgo_tac.specs.Tac.{tac}
use Rattle.rgo_region_interpreter.specs.Views as world
use Rattle.rgo_recording.specs.Notes.{noted_picks}
use Rattle.rgo_recording.proofs.Leading.{meeting_failed, met_noted, not_met, same_pick}
use Rattle.rgo_recording.proofs.recorders.RecorderRunning.meet.Goals as goal

pub returns-in_default-clause-meets : goal.returns-in_default-clause-meets
returns-in_default-clause-meets c = λ given s at on.
    meeting_failed c.args.self.now (record c.args.self.now { notes = c.prepare.new.self }) c.args.receiver c.args.sender
    refl given s at alloc_error c.prepare.ensures.picks
    (at.stands.reaches, ap (λ v. v.printed) at.stands.reaches.is)

pub meet-requires : goal.meet-requires
meet-requires c = record {
  given = c.requires.given;
  state = c.requires.state;
  shown = c.requires.shown.stands;
  running = c.requires.running;
}

pub returns-in-Ok-true-clause-meets : goal.returns-in-Ok-true-clause-meets
returns-in-Ok-true-clause-meets c = λ given s at on.
    met_noted c.args.self.now (record { world = c.meet.new.self; notes = c.note.new.self }) c.args.receiver c.args.sender
    (ap (λ (x : Code × Sizes). x.0) c.meet.ensures.fixed) given s at c.in-Some.pick (noted_picks c.prepare.new.self) c.note.ensures
    c.in-Some.ensures.picks
    (same_pick (λ pick. (pick ≡ Meet c.args.receiver c.args.sender) × PickFits pick) c.meeting.result c.in-Some.pick
    c.meeting.ensures c.in-Some.ensures.same)
    (subst (λ b. TriesMeeting (world.view_of c.meet.new.self) (tac (erased c.args.self.now.world.code.now)) given s
    c.args.receiver c.args.sender (Ok b)) c.in-Ok-true.field-0-test (c.in-Ok-true.ensures.meets given s at.stands on))

pub returns-in-Ok-false-clause-meets : goal.returns-in-Ok-false-clause-meets
returns-in-Ok-false-clause-meets c = λ given s at on.
    not_met c.args.self.now (record { world = c.meet.new.self; notes = c.prepare.new.self }) c.args.receiver c.args.sender
    (ap (λ (x : Code × Sizes). x.0) c.meet.ensures.fixed) given s at c.in-Some.ensures.picks
    (subst (λ b. TriesMeeting (world.view_of c.meet.new.self) (tac (erased c.args.self.now.world.code.now)) given s
    c.args.receiver c.args.sender (Ok b)) c.in-Ok-false.field-0-test (c.in-Ok-false.ensures.meets given s at.stands on))

pub returns-in-Err-clause-meets : goal.returns-in-Err-clause-meets
returns-in-Err-clause-meets c = λ given s at on.
    meeting_failed c.args.self.now (record { world = c.meet.new.self; notes = c.prepare.new.self }) c.args.receiver
    c.args.sender (ap (λ (x : Code × Sizes). x.0) c.meet.ensures.fixed) given s at alloc_error c.in-Some.ensures.picks
    (c.in-Err.ensures.meets given s at.stands on)
