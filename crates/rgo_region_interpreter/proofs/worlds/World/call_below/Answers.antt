use Rattle.std.proofs.Common.{arith, rules, ◌≡◌, ◌∷◌, Some, length, refl, reverse, slice_get, sym, ◌∙◌}
use Rattle.std.proofs.lemmas.Option.{slice_get_read}
use Rattle.rgo_region_interpreter.proofs.holding.OneHolder.{the_same}
use Rattle.rgo_region_interpreter.proofs.passing.Returning.{call_shows}
use Rattle.rgo_region_interpreter.proofs.worlds.World.call_below.Goals as goal

pub returns : goal.returns
returns c = λ frame callers e.
    let item = c.in_ok-frames.ensures.lookup in
    let xs = c.deref.result.now in
    let read = slice_get_read xs (length xs) c.args.g c.in_ok-frames.field-0.now refl item.3.0 item.1 in
    let v = c.self.view_is in
    let d = c.deref.ensures.value in
    let b = c.branch.view_is in
    let frames = c.branch.inside.frames in
    let l : c.len-depth.result ≡ length frames.items = omega (arith, c.len-depth.ensures, frames.ok.0) in
    let there : slice_get c.args.self.now.state.goroutines c.args.g ≡ Some (reverse frames.items) =
    search (rules, read, v, d, b) in
    call_shows c.args.self.now frames.items c.len-depth.result c.index.result.now c.next_of.result l
    c.if-depth-lt2.false c.index.ensures c.next_of.ensures frame callers
    (the_same (reverse frames.items) (frame ∷ callers) (sym there ∙ e))
