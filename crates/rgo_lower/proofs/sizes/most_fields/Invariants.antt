use Rattle.std.proofs.Common.{◌≡◌, ◌-◌, ◌≤◌, ◌^◌, min, max, drop}
use Rattle.rgo_lower.specs.Sizes.{most_struct_fields}
use Rattle.rgo_lower.proofs.sizes.most_fields.Given as goal

-- it or the most of the rest is the most of all
abbrev pub invariant-loop-item : goal.invariant-loop-item
invariant-loop-item l = record {
  fits : l.most ≤ 2 ^ 64 - 1;
  all :
      min (max l.most (most_struct_fields (drop l.item-index l.structs))) (2 ^ 64 - 1)
      ≡ min (most_struct_fields l.structs) (2 ^ 64 - 1);
}
