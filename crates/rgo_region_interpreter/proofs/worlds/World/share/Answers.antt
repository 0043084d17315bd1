use Rattle.std.proofs.Common.{◌≡◌, Some, refl, sym, ap, ◌∙◌, nat_eq, slice_get}
use Rattle.std.specs.Prelude.{is_some}
use Rattle.std.specs.HashMap.{get}
use Rattle.rgo_region_interpreter.specs.Attending.{has_key}
use Rattle.rgo_region_interpreter.proofs.owing.Attending.{found, share_global, share_more, share_nothing, share_pending, key_added}
use Rattle.rgo_region_interpreter.proofs.worlds.World.share.Goals as goal

pub returns-in_default-region-clause-shared : goal.returns-in_default-region-clause-shared
returns-in_default-region-clause-shared c =
    let item = c.in-Some.ensures.lookup in
    let there : slice_get c.args.self.now.holders.items c.args.g ≡ Some c.in-Some.holder.now =
    ap (λ l. slice_get l c.args.g) (sym c.deref.ensures.value)
    ∙ found c.deref.result.now c.args.g c.in-Some.holder.now item.3.0 item.1 in
    share_nothing c.args.self.now c.args.g c.args.name c.in-Some.holder.now (has_key c.args.shared.now) there
    (sym c.region.ensures ∙ c.in_default-region.is)

pub returns-in_default-region-2-clause-shared : goal.returns-in_default-region-2-clause-shared
returns-in_default-region-2-clause-shared c =
    let item = c.in-Some.ensures.lookup in
    let there : slice_get c.args.self.now.holders.items c.args.g ≡ Some c.in-Some.holder.now =
    ap (λ l. slice_get l c.args.g) (sym c.deref.ensures.value)
    ∙ found c.deref.result.now c.args.g c.in-Some.holder.now item.3.0 item.1 in
    share_global c.args.self.now c.args.g c.args.name c.in-Some.holder.now (has_key c.args.shared.now) there
    (sym c.region.ensures ∙ c.in-Some-region.is ∙ ap Some c.in_default-region-2.is)

pub returns-then-contains_key-clause-shared : goal.returns-then-contains_key-clause-shared
returns-then-contains_key-clause-shared c =
    let item = c.in-Some.ensures.lookup in
    let there : slice_get c.args.self.now.holders.items c.args.g ≡ Some c.in-Some.holder.now =
    ap (λ l. slice_get l c.args.g) (sym c.deref.ensures.value)
    ∙ found c.deref.result.now c.args.g c.in-Some.holder.now item.3.0 item.1 in
    share_pending c.args.self.now c.args.g c.args.name c.in-Numbered.r c.in-Some.holder.now (has_key c.args.shared.now)
    there (sym c.region.ensures ∙ c.in-Some-region.is ∙ ap Some c.in-Numbered.is)
    (sym c.contains_key.ensures ∙ c.if-contains_key.true)

pub returns-clause-shared : goal.returns-clause-shared
returns-clause-shared c =
    let item = c.in-Some.ensures.lookup in
    let there : slice_get c.args.self.now.holders.items c.args.g ≡ Some c.in-Some.holder.now =
    ap (λ l. slice_get l c.args.g) (sym c.deref.ensures.value)
    ∙ found c.deref.result.now c.args.g c.in-Some.holder.now item.3.0 item.1 in
    share_more c.args.self.now _ c.args.g c.args.name c.in-Numbered.r c.in-Some.holder.now (has_key c.args.shared.now)
    (has_key c.insert.new.self) there (sym c.region.ensures ∙ c.in-Some-region.is ∙ ap Some c.in-Numbered.is)
    (sym c.contains_key.ensures ∙ c.if-contains_key.false) refl refl refl c.in_ok-share.ensures.shared
    (λ q. ap is_some (c.in-Ok.ensures.updates.0 q) ∙ key_added tt c.in-Numbered.r q (get nat_eq c.args.shared.now q))

pub returns-in_default-clause-same : goal.returns-in_default-clause-same
returns-in_default-clause-same c = record { code = refl; sizes = refl; print = refl }

pub returns-in_default-region-clause-same : goal.returns-in_default-region-clause-same
returns-in_default-region-clause-same c = record { code = refl; sizes = refl; print = refl }

pub returns-in_default-region-2-clause-same : goal.returns-in_default-region-2-clause-same
returns-in_default-region-2-clause-same c = record { code = refl; sizes = refl; print = refl }

pub returns-then-contains_key-clause-same : goal.returns-then-contains_key-clause-same
returns-then-contains_key-clause-same c = record { code = refl; sizes = refl; print = refl }

pub returns-in-Err-clause-same : goal.returns-in-Err-clause-same
returns-in-Err-clause-same c = record { code = refl; sizes = refl; print = refl }

pub returns-in_err-share-clause-same : goal.returns-in_err-share-clause-same
returns-in_err-share-clause-same c = record { code = refl; sizes = refl; print = refl }

pub returns-clause-same : goal.returns-clause-same
returns-clause-same c = record { code = refl; sizes = refl; print = refl }

pub returns-in_default-clause-done : goal.returns-in_default-clause-done
returns-in_default-clause-done c = refl

pub returns-in_default-region-clause-done : goal.returns-in_default-region-clause-done
returns-in_default-region-clause-done c = refl

pub returns-in_default-region-2-clause-done : goal.returns-in_default-region-2-clause-done
returns-in_default-region-2-clause-done c = refl

pub returns-then-contains_key-clause-done : goal.returns-then-contains_key-clause-done
returns-then-contains_key-clause-done c = refl

pub returns-clause-done : goal.returns-clause-done
returns-clause-done c = refl

pub returns-in-Err-clause-done : goal.returns-in-Err-clause-done
returns-in-Err-clause-done c = tt

pub returns-in-Err-clause-shared : goal.returns-in-Err-clause-shared
returns-in-Err-clause-shared c = tt
