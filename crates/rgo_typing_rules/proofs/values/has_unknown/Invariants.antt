use Rattle.std.proofs.Common.{◌≡◌, map, drop, is_none}
use Rattle.std.specs.List.{list_any}
use Rattle.rgo_typing_rules.specs.Views.{optional_kind_of}
use Rattle.rgo_typing_rules.proofs.values.has_unknown.Given as goal

abbrev pub invariant-loop-field : goal.invariant-loop-field
invariant-loop-field l = list_any is_none (map optional_kind_of (drop l.field-index l.fields)) ≡ list_any is_none (map optional_kind_of l.fields)
