-- What a function is checked with.
use Rattle.rgo_code.specs.Code.{CodeFn}
use Rattle.rgo_code.specs.NameRules.{FnAscends}
use Rattle.rgo_region_sets.specs.Live.{AreLiveNames}
use Rattle.rgo_region_sets.specs.declared.table.LiveNames.{LiveNames}

-- these are its live names, and its lists ascend
pub record IsPreparedToCheck (names : LiveNames) (f : CodeFn) : Type 0 where
  pub live : AreLiveNames names f
  pub ascends : FnAscends f
