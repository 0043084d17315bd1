use Rattle.std.proofs.Common.{◌+◌, drop, ap, sym, ◌∙◌, arith}
use Rattle.std.proofs.lemmas.List.{at_drop_more, at_drop_all}
use Rattle.rgo_interpreter.specs.Views.{memory_view}
use Rattle.rgo_region_interpreter.specs.Tables.{without_objects}
use Rattle.rgo_region_interpreter.proofs.tables.take_away_all.Goals as goal

pub loop-object-preserved : goal.loop-object-preserved
loop-object-preserved c =
    let objects = c.args.objects.now in
    let i = c.loop-object.object-index in
    ap (without_objects (drop (i + 1) objects)) c.take_away.ensures
    ∙ sym (at_drop_more (λ os. without_objects os (memory_view c.loop-object.memory)) objects i 0 (omega arith))
    ∙ c.loop-object.invariant

pub returns : goal.returns
returns c =
    sym (at_drop_all (λ os. without_objects os (memory_view c.loop-object.memory)) c.args.objects.now
    c.loop-object.object-index (omega arith))
    ∙ c.loop-object.invariant
