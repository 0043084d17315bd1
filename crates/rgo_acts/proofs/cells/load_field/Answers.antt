use Rattle.std.proofs.Common.{[], inl}
use Rattle.rgo_core.specs.Frames.shown.WordFrames.{frame_word}
use Rattle.rgo_acts.proofs.before.Instructions.{first_in, one_more, reads_it}
use Rattle.rgo_acts.proofs.accesses.Fields.{load_traps}
use Rattle.rgo_acts.proofs.Standing.{acted_then}
use Rattle.rgo_acts.proofs.cells.load_field.Goals as goal

pub word-pointer-requires : goal.word-pointer-requires
word-pointer-requires g c =
    reads_it c.args.run.now c.args.actor.now c.args.next.now c.requires.before _ _ _ c.requires.is c.args.from (first_in c.args.from [])

pub returns-then-pointer-eq0 : goal.returns-then-pointer-eq0
returns-then-pointer-eq0 g c =
    load_traps c.args.run.now c.args.actor.now c.args.next.now c.requires.before c.args.to c.args.field c.args.from c.word-pointer.result
    c.requires.is c.word-pointer.ensures c.if-pointer-eq0.true

pub field_word-word-requires-clause-at : goal.field_word-word-requires-clause-at
field_word-word-requires-clause-at g c = inl (c.args.to, c.requires.is)

pub field_word-word-requires-clause-points : goal.field_word-word-requires-clause-points
field_word-word-requires-clause-points g c =
    λ w ws are. one_more c.word-pointer.result (frame_word w c.args.from) (c.word-pointer.ensures w ws are) c.if-pointer-eq0.false

pub take-requires-clause-loads : goal.take-requires-clause-loads
take-requires-clause-loads g c = c.field_word-word.ensures.loads c.args.to c.requires.is

pub returns : goal.returns
returns g c =
    acted_then c.args.run.now c.args.actor.now c.field_word-word.new.actor c.take.new.actor 0 1 [] [] [] []
    c.field_word-word.ensures.measured.acted c.take.ensures
