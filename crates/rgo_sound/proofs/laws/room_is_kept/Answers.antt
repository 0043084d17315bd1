use Rattle.rgo_sound.proofs.counts.Room.{room_is_kept}
use Rattle.rgo_sound.proofs.laws.room_is_kept.Goals as goal

pub returns : goal.returns
returns c = room_is_kept
