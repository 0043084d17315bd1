use Rattle.std.proofs.Common.{◌++◌, ap, sym, ◌∙◌, replicate, append-nil}
use Rattle.std.specs.List.{flat_map}
use Rattle.rgo_code_words.proofs.ListFacts.{flat_push}
use Rattle.rgo_recording.specs.Notes.{noted_picks}
use Rattle.rgo_recording.proofs.notes.Notes.note.Goals as goal

pub returns-then-times-eq0 : goal.returns-then-times-eq0
returns-then-times-eq0 c =
    sym (append-nil (noted_picks c.args.self.now))
    ∙ ap (λ n. noted_picks c.args.self.now ++ replicate n c.args.pick) (sym c.if-times-eq0.true)

pub returns : goal.returns
returns c =
    ap (λ notes. flat_map (λ note. replicate note.times note.pick) notes) c.push_reserved.ensures.items
    ∙ flat_push (λ note. replicate note.times note.pick) c.args.self.now.list.items _
