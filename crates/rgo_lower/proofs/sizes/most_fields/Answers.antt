use Rattle.std.proofs.Common.{List, arith}
use Rattle.std.proofs.lemmas.List.{at_drop_all}
use Rattle.rgo_typed.specs.declared.programs.Struct.{Struct}
use Rattle.rgo_lower.specs.Sizes.{most_struct_fields}
use Rattle.rgo_lower.proofs.sizes.most_fields.Goals as goal

pub returns : goal.returns
returns c =
    let none =
    at_drop_all (λ (l : List Struct). most_struct_fields l) c.args.structs.now c.loop-item.item-index c.loop-item-test.false in
    omega (arith, none, c.loop-item.invariant.fits, c.loop-item.invariant.all)
