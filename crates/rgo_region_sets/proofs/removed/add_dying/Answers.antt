use Rattle.std.proofs.Common.{◌≡◌, ◌⊎◌, ◌∙◌, ℕ, List, Some, slice_get, sym, ap}
use Rattle.std.specs.Prelude.{◌↔◌}
use Rattle.std.specs.List.{Contains}
use Rattle.std.proofs.lemmas.Option.{same_Some, slice_get-get_or}
use Rattle.std.proofs.lemmas.Result.{IfOk-weaker}
use Rattle.rgo_graphs.specs.Rows.{rows_of}
use Rattle.rgo_region_sets.specs.Live.{IsKnown, AddsDying}
use Rattle.rgo_region_sets.proofs.Numbered.{row_there, row_added}
use Rattle.rgo_region_sets.proofs.removed.add_dying.Goals as goal

pub returns-in-Some-get : goal.returns-in-Some-get
returns-in-Some-get c =
    let live = c.args.live.now in
    let rows = c.args.rows.now in
    let old = c.args.names.now.items in
    let new = c.add_all.new.names.items in
    let row = c.in-Some-get.row.now in
    let lookup = c.in-Some-get.ensures.lookup in
    let there : slice_get rows c.in-Some.b ≡ Some row =
    slice_get-get_or rows c.in-Some.b row lookup.3.0 ∙ ap Some (sym lookup.1) in
    IfOk-weaker c.add_all.result
    (λ ok. (k : ℕ) → Contains new k ↔ (Contains old k ⊎ Contains c.deref-in-Some-get.result.now k))
    (λ ok. (next : ℕ) → IsKnown live (rows_of rows) c.args.at next → AddsDying live old new c.args.at next)
    (λ ok adds next known.
    let found = ap (λ (l : List ℕ). slice_get l known.branch) c.deref.ensures.value ∙ known.point in
    let same : known.branch ≡ c.in-Some.b =
    same_Some known.branch c.in-Some.b (sym ((c.place_of.ensures known.branch).0 found) ∙ c.in-Some.is) in
    row_added live (rows_of rows) c.args.at next c.in-Some.b old new known same c.deref-in-Some-get.result.now
    (row_there rows c.in-Some.b row there ∙ sym c.deref-in-Some-get.ensures.value) adds)
    c.add_all.ensures
