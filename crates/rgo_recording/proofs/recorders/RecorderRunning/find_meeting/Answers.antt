use Rattle.rgo_recording.proofs.recorders.RecorderRunning.find_meeting.Goals as goal

pub find_meeting-requires : goal.find_meeting-requires
find_meeting-requires c = record {
  given = c.requires.given;
  state = c.requires.state;
  shown = c.requires.shown.stands;
  running = c.requires.running;
}

pub returns : goal.returns
returns c = λ given s at on. c.find_meeting.ensures given s at.stands on
