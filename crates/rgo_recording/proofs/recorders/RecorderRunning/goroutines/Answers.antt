use Rattle.rgo_recording.proofs.recorders.RecorderRunning.goroutines.Goals as goal

pub returns : goal.returns
returns c = λ given s at. c.goroutines.ensures given s at.stands
