use Rattle.std.proofs.Common.{[], ◌∷◌, inr, sym, ◌∙◌}
use Rattle.rgo_core.specs.Frames.shown.WordFrames.{frame_word}
use Rattle.rgo_acts.proofs.before.Instructions.{first_in, one_more, reads_it, second_in}
use Rattle.rgo_acts.proofs.accesses.Fields.{store_traps}
use Rattle.rgo_acts.proofs.Standing.{acted_then}
use Rattle.rgo_acts.proofs.cells.store_field.Goals as goal

pub word-pointer-requires : goal.word-pointer-requires
word-pointer-requires g c =
    reads_it c.args.run.now c.args.actor.now c.args.next.now c.requires.before _ _ _ c.requires.is c.args.to
    (first_in c.args.to (c.args.value ∷ []))

pub returns-then-pointer-eq0 : goal.returns-then-pointer-eq0
returns-then-pointer-eq0 g c =
    store_traps c.args.run.now c.args.actor.now c.args.next.now c.requires.before c.args.field c.args.to c.args.value c.word-pointer.result
    c.requires.is c.word-pointer.ensures c.if-pointer-eq0.true

pub field_word-word-requires-clause-at : goal.field_word-word-requires-clause-at
field_word-word-requires-clause-at g c = inr (c.args.value, c.requires.is)

pub field_word-word-requires-clause-points : goal.field_word-word-requires-clause-points
field_word-word-requires-clause-points g c =
    λ w ws are. one_more c.word-pointer.result (frame_word w c.args.to) (c.word-pointer.ensures w ws are) c.if-pointer-eq0.false

pub word-value-requires : goal.word-value-requires
word-value-requires g c =
    reads_it c.args.run.now c.field_word-word.new.actor c.args.next.now c.field_word-word.ensures.measured.before _ _ _ c.requires.is
    c.args.value (second_in c.args.to c.args.value [])

pub put-requires-clause-stores : goal.put-requires-clause-stores
put-requires-clause-stores g c =
    let has = c.field_word-word.ensures in
    has.stores c.args.value c.word-value.result c.requires.is
    (λ w ws are. c.word-value.ensures w ws (sym has.measured.before.stands.shows.frames ∙ are))

pub returns : goal.returns
returns g c =
    acted_then c.args.run.now c.args.actor.now c.field_word-word.new.actor c.put.new.actor 0 1 [] [] [] []
    c.field_word-word.ensures.measured.acted c.put.ensures
