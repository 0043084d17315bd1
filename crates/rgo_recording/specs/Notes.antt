-- What is noted of a run: its picks in a row, those that are the same one after the other as one note.
use Rattle.std.specs.Prelude.{◌<◌, List, replicate}
use Rattle.std.specs.List.{flat_map}
use Rattle.std.specs.Vec.{vec_len, vec_capacity}
use Rattle.rgo_journal.specs.declared.picks.TacPick.{TacPick}
use Rattle.rgo_recording.specs.declared.notes.Note.{Note}
use Rattle.rgo_recording.specs.declared.notes.Notes.{Notes}

-- the picks that these notes say, one by one
abbrev pub picks_in : List Note → List TacPick
picks_in notes = flat_map (λ note. replicate note.times note.pick) notes

abbrev pub noted_picks : Notes → List TacPick
noted_picks notes = picks_in notes.list.items

-- One note more needs no memory: it is taken before the steps, so that no step is taken that could not be noted.
abbrev pub NotesHaveRoom : Notes → Type 0
NotesHaveRoom notes = vec_len notes.list < vec_capacity notes.list
