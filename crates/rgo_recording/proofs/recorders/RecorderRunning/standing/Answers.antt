use Rattle.rgo_recording.proofs.recorders.RecorderRunning.standing.Goals as goal

pub returns : goal.returns
returns c = λ given s at. c.standing.ensures given s at.stands
