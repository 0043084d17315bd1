use Rattle.std.proofs.Common.{◌≡◌, drop, length}
use Rattle.rgo_lower.specs.Emitted.{BuilderParts, made_of, FieldsAreStored}
use Rattle.rgo_lower.proofs.builder.Builder.fill.Given as goal

abbrev pub invariant-loop-i : goal.invariant-loop-i
invariant-loop-i l = record {
  same_length : length l.fields ≡ length l.from;
  -- what stores the rest from here stores all from the beginning
  rest :
      (new : BuilderParts) → FieldsAreStored l.object (drop l.i l.fields) (drop l.i l.from) l.place (made_of l.self) new
      → FieldsAreStored l.object l.fields l.from l.place (made_of l.fn.self) new;
}
