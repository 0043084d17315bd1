use Rattle.std.proofs.Common.{◌+◌, length, ◌∙◌, ap, refl}
use Rattle.std.proofs.lemmas.List.{length_push}
use Rattle.std.proofs.lemmas.Option.{slice_get_read}
use Rattle.rgo_insert.proofs.Growing.{more_classes}
use Rattle.rgo_insert.proofs.bare.bare_regions.Goals as goal

pub loop-function-preserved : goal.loop-function-preserved
loop-function-preserved c =
    let functions = c.args.functions.now in
    let here = slice_get_read functions (length functions) c.loop-function.function-index c.function-item.result refl
    c.loop-function-test.true c.function-item.is in
    rw c.in_ok-push.ensures.items (record {
      len = length_push c.loop-function.regions.items c.in_ok-bare_of.field-0
          ∙ ap (λ n. n + 1) c.loop-function.invariant.len;
      classes = more_classes c.args.summaries.now.functions functions c.loop-function.regions.items
          c.loop-function.function-index c.function-item.result c.in_ok-bare_of.field-0 c.loop-function.invariant.len
          here c.loop-function.invariant.classes c.in_ok-bare_of.ensures;
    })
