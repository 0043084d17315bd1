use Rattle.std.proofs.Common.{rules, length, refl, slice_get}
use Rattle.std.proofs.lemmas.Option.{slice_get_read}
use Rattle.rgo_region_interpreter.proofs.holding.Nexts.{newest_shows}
use Rattle.rgo_region_interpreter.proofs.worlds.World.newest.Goals as goal

pub returns : goal.returns
returns c =
    let item = c.in_ok-get.ensures.lookup in
    let xs = c.deref.result.now in
    let read = slice_get_read xs (length xs) c.args.g c.in_ok-get.field-0.now refl item.3.0 item.1 in
    let v = c.self.view_is in
    let d = c.deref.ensures.value in
    let b = c.branch.view_is in
    let d2 = c.deref-2.ensures.value in
    newest_shows (slice_get c.args.self.now.state.goroutines c.args.g) c.deref-2.result.now c.last.result
    (search (rules, read, v, d, b, d2))
    c.last.ensures.value
