use Rattle.std.proofs.Common.{◌≡◌, ◌++◌, ◌∷◌, [], Some, refl, ap, ◌∙◌, nat_eq}
use Rattle.std.specs.HashMap.{get}
use Rattle.rgo_region_interpreter.proofs.regions.Counts.{lent}
use Rattle.rgo_region_interpreter.proofs.regions.Changes.{region_owns, global_owns}
use Rattle.rgo_region_interpreter.proofs.tables.Table.own.Goals as goal

pub returns-in_ok-push : goal.returns-in_ok-push
returns-in_ok-push c =
    let t = c.args.self.now in
    let r = c.in-Numbered.r in
    let row = c.in-Some.row.now in
    let found : Some row ≡ get nat_eq t.rows r = c.in-Some.ensures.value in
    let after = record row { objects = c.push.new.self } in
    record {
      owned = λ regions global_pages owners live number shows.
          region_owns t _ regions global_pages owners shows c.args.region r c.in-Numbered.is live row found
          after refl refl (c.in_ok-push.ensures.items ∙ ap (λ o. row.objects.items ++ o ∷ []) number)
          (lent t _ r row after found (c.get_mut.follows.holds after))
          (record { made = refl; removed = refl; taken = refl; returned = refl });
    }

pub returns-in_default : goal.returns-in_default
returns-in_default c =
    let t = c.args.self.now in
    record {
      owned = λ regions global_pages owners live number shows.
          global_owns t t regions global_pages owners shows c.args.region c.in_default.is;
    }
