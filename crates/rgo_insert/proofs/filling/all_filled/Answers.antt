use Rattle.std.proofs.Common.{◌+◌, length, ◌∙◌, ap, refl, sym}
use Rattle.std.proofs.lemmas.List.{length_push}
use Rattle.std.proofs.lemmas.Option.{slice_get_read}
use Rattle.rgo_code.specs.Views.{code_fns}
use Rattle.rgo_insert.proofs.Growing.{more_filled}
use Rattle.rgo_insert.proofs.filling.all_filled.Goals as goal

pub loop-n-preserved : goal.loop-n-preserved
loop-n-preserved c =
    let functions = c.args.functions.now in
    let bare = c.args.bare.now in
    let n = c.loop-n.n in
    let here = slice_get_read functions (length functions) n c.index-functions-n.result refl c.loop-n-test.true
    c.index-functions-n.is in
    let here_too = slice_get_read bare (length functions) n c.index-bare-n.result (sym c.requires.len)
    c.loop-n-test.true c.index-bare-n.is in
    rw c.in_ok-push.ensures.items (record {
      len = length_push c.loop-n.regions.items c.in_ok-filled.field-0 ∙ ap (λ k. k + 1) c.loop-n.invariant.len;
      each = more_filled (code_fns functions bare) functions bare c.loop-n.regions.items n c.index-functions-n.result
          c.index-bare-n.result c.in_ok-filled.field-0 c.loop-n.invariant.len here here_too c.loop-n.invariant.each
          (rw c.new-all.ensures at c.in_ok-filled.ensures);
    })
