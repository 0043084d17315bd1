use Rattle.rgo_stack.proofs.Sizes as made
use Rattle.rgo_stack.proofs.laws.frames_law.Goals as goal

pub returns : goal.returns
returns c = made.frames
