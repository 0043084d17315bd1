use Rattle.std.proofs.Common.{◌≡◌, ◌-◌, None, Some, refl, ap, ◌∙◌, arith, nat_eq}
use Rattle.std.specs.HashMap.{get}
use Rattle.rgo_interpreter.specs.Views.{memory_view}
use Rattle.rgo_region_interpreter.specs.declared.tables.Row.{Row}
use Rattle.rgo_region_interpreter.proofs.regions.Rows.{is_some, live_info}
use Rattle.rgo_region_interpreter.proofs.regions.Counts.{lent, replaced, replaced_twice}
use Rattle.rgo_region_interpreter.proofs.regions.Memory.{memory_left, memory_removed}
use Rattle.rgo_region_interpreter.proofs.regions.Changes.{is_row, has_stakes, table_left, table_removed, removed_fits}
use Rattle.rgo_region_interpreter.proofs.tables.Table.leave.Goals as goal

pub returns-then-row-gt1-clause-left : goal.returns-then-row-gt1-clause-left
returns-then-row-gt1-clause-left c =
    let t = c.args.self.now in
    let row = c.in-Some.row.now in
    let found : Some row ≡ get nat_eq t.rows c.args.r = c.in-Some.ensures.value in
    let writes = c.get_mut.follows.holds (record row { stakes = row.stakes - 1 }) in
    λ regions global_pages owners live shows.
    table_left t _ regions global_pages owners shows c.args.r live row found c.if-row-gt1.true
    (lent t _ c.args.r row (record row { stakes = row.stakes - 1 }) found writes)
    (record { made = refl; removed = refl; taken = refl; returned = refl })

pub returns-then-row-gt1-clause-memory : goal.returns-then-row-gt1-clause-memory
returns-then-row-gt1-clause-memory c =
    let t = c.args.self.now in
    let row = c.in-Some.row.now in
    let found : Some row ≡ get nat_eq t.rows c.args.r = c.in-Some.ensures.value in
    λ regions global_pages owners whole live shows made same memory.
    let x = live_info regions c.args.r live in
    let is = is_row t t regions global_pages owners shows c.args.r live row found x.0 x.1 x.2 in
    memory_left (memory_view c.args.memory.now) regions owners whole memory c.args.r x.0 x.1
    (omega (arith, is.stakes, c.if-row-gt1.true))

pub returns-clause-left : goal.returns-clause-left
returns-clause-left c =
    let t = c.args.self.now in
    let row = c.in-Some.row.now in
    let found : Some row ≡ get nat_eq t.rows c.args.r = c.in-Some.ensures.value in
    let kept = record t { rows = c.get_mut.follows.lender row } in
    let first = lent t kept c.args.r row row found (c.get_mut.follows.holds row) in
    let second = replaced kept (record t { rows = c.remove.new.self }) c.args.r None c.remove.ensures.updates in
    let both = replaced_twice t kept (record t { rows = c.remove.new.self }) c.args.r (Some row) None first second in
    let same : c.in-Some-remove.row ≡ row = is_some _ _ (c.in-Some-remove.ensures.value ∙ first.here) in
    let pages = ap (λ (x : Row). x.pages) same in
    λ regions global_pages owners live shows.
    let fits = removed_fits t t regions global_pages owners shows c.args.r live row found c.if-row-gt1.false in
    table_removed t _ regions global_pages owners shows c.args.r live row found c.if-row-gt1.false
    (record { here = both.here; others = both.others })
    refl (omega (arith, fits.0, c.saturating_add-self.ensures)) refl
    (omega (arith, fits.1, pages, c.saturating_add-self-2.ensures))

pub returns-clause-memory : goal.returns-clause-memory
returns-clause-memory c =
    let t = c.args.self.now in
    let row = c.in-Some.row.now in
    let found : Some row ≡ get nat_eq t.rows c.args.r = c.in-Some.ensures.value in
    let kept = record t { rows = c.get_mut.follows.lender row } in
    let first = lent t kept c.args.r row row found (c.get_mut.follows.holds row) in
    let same : c.in-Some-remove.row ≡ row = is_some _ _ (c.in-Some-remove.ensures.value ∙ first.here) in
    λ regions global_pages owners whole live shows made same_length memory.
    let x = live_info regions c.args.r live in
    let is = is_row t t regions global_pages owners shows c.args.r live row found x.0 x.1 x.2 in
    let some = has_stakes t t regions global_pages owners shows c.args.r live row found in
    c.take_away_all.ensures
    ∙ memory_removed (memory_view c.args.memory.now) regions owners whole memory c.args.r x.0 x.1
    (omega (arith, is.stakes, some, c.if-row-gt1.false)) c.deref.result.now
    (c.deref.ensures.value ∙ ap (λ (x : Row). x.objects.items) same ∙ is.objects)
