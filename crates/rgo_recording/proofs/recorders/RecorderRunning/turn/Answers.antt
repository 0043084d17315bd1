use Rattle.std.proofs.Common.{refl, ap, ◌≡◌}
use Rattle.rgo_machine.specs.declared.limits.Sizes.{Sizes}
use Rattle.rgo_code.specs.Code.{Code}
use Rattle.rgo_journal.specs.declared.picks.TacPick.TheVariants.{One}
use Rattle.rgo_journal.specs.Text.{PickFits}
use Rattle.rgo_recording.specs.Notes.{noted_picks}
use Rattle.rgo_recording.proofs.Leading.{same_pick, turn_noted, turn_refused}
use Rattle.rgo_recording.proofs.recorders.RecorderRunning.turn.Goals as goal

pub returns-in_default-clause-turns : goal.returns-in_default-clause-turns
returns-in_default-clause-turns c = λ given s at on.
    turn_refused c.args.self.now (record c.args.self.now { notes = c.prepare.new.self }) c.args.limits c.args.g
    c.args.at_most refl c.prepare.ensures.picks given s at on

pub turn-turned-requires : goal.turn-turned-requires
turn-turned-requires c = record {
  given = c.requires.given;
  state = c.requires.state;
  shown = c.requires.shown.stands;
  on = c.requires.on;
}

pub returns-clause-turns : goal.returns-clause-turns
returns-clause-turns c = λ given s at on.
    turn_noted c.args.self.now (record { world = c.turn-turned.new.self; notes = c.note.new.self }) c.args.limits c.args.g
    c.args.at_most c.turn-turned.result c.in-Some.pick (noted_picks c.prepare.new.self) c.note.ensures
    c.in-Some.ensures.picks
    (same_pick (λ pick. (pick ≡ One c.args.g) × PickFits pick) c.one.result c.in-Some.pick c.one.ensures c.in-Some.ensures.same)
    (ap (λ (x : Code × Sizes). x.0) c.turn-turned.ensures.fixed) c.turn-turned.ensures.turns given s at on
