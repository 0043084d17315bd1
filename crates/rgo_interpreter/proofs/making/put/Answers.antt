use Rattle.std.specs.Prelude.{OnOk}
use Rattle.std.specs.declared.result.Result.{Result}
use Rattle.std.specs.declared.result.Result.TheVariants.{Ok, Err}
use Rattle.std.proofs.Common.{◌/◌, ◌%◌, refl, ap, sym, ◌∙◌}
use Rattle.rgo_interpreter.specs.Blocks.{slot_in_block}
use Rattle.rgo_interpreter.specs.Views.{object_view_or_empty, object_view_at, block_of}
use Rattle.rgo_interpreter.proofs.Heap.{kept_before}
use Rattle.rgo_interpreter.proofs.making.put.Goals as goal

on_ok : {X E P Q : Type 0} → (P → Q) → (result : Result X E) → OnOk result P → OnOk result Q
on_ok f (Ok x) p = f p
on_ok f (Err e) p = tt

pub returns-in-Some-clause-put : goal.returns-in-Some-clause-put
returns-in-Some-clause-put c =
    let has = rw c.in-Some.is at (c.block_mut.follows.holds c.put.new.self) in
    on_ok (λ put. ap (λ b. object_view_or_empty (slot_in_block b (c.args.memory.now.made % 16))) has.1.1 ∙ ap object_view_or_empty put)
    c.put.result c.put.ensures.put

pub returns-in-Some-clause-kept : goal.returns-in-Some-clause-kept
returns-in-Some-clause-kept c n before =
    let has = rw c.in-Some.is at (c.block_mut.follows.holds c.put.new.self) in
    kept_before c.args.memory.now (c.block_mut.follows.lender c.put.new.self) (ap (λ m. m.made) has.0) (ap (λ m. m.variables) has.0) c.args.memory.now.made _ _
    (sym c.in-Some.ensures.value) has.1.1 has.1.2 c.put.ensures.kept n before

pub returns-in-Some-clause-made : goal.returns-in-Some-clause-made
returns-in-Some-clause-made c =
    let has = rw c.in-Some.is at (c.block_mut.follows.holds c.put.new.self) in ap (λ m. m.made) has.0

pub returns-in-Some-clause-variables : goal.returns-in-Some-clause-variables
returns-in-Some-clause-variables c =
    let has = rw c.in-Some.is at (c.block_mut.follows.holds c.put.new.self) in ap (λ m. m.variables) has.0

pub returns-in-Ok-clause-kept : goal.returns-in-Ok-clause-kept
returns-in-Ok-clause-kept c n before =
    let number = c.args.memory.now.made in
    let dropped = c.drop_if_empty.new.self in
    let as_before = c.drop_if_empty.ensures.slots in
    let same = c.block_mut.follows.holds-at-none in
    let updates = c.in-Ok.ensures.updates in
    kept_before dropped (record dropped { blocks = c.insert.new.self }) refl refl number _ _ refl updates.1 updates.2
    (λ k within.
    c.put-in-None.ensures.kept k within
    ∙ c.in_ok-block-in-None.ensures k
    ∙ ap (λ b. slot_in_block b k) (c.in-None.ensures.value ∙ sym (ap (λ m. block_of m (number / 16)) same))
    ∙ sym (as_before (number / 16) k)) n before
    ∙ ap object_view_or_empty (as_before (n / 16) (n % 16))
    ∙ ap (λ m. object_view_at m n) same
