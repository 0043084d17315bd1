-- What holds of code with regions.
use Rattle.std.specs.Prelude.{◌≡◌, List}
use Rattle.rgo_tac.specs.Code.{Tac}
use Rattle.rgo_code.specs.declared.code.Undeclared.{Undeclared}
use Rattle.rgo_code.specs.declared.notes.Regions.{Regions}
use Rattle.rgo_code.specs.Erasure.{erased}
use Rattle.rgo_code.specs.Views.{code_of}

-- whatever is said of regions, the erasure is the three-address code: so what was proved of that holds of the code with regions
abbrev pub ErasureIsCode : Type 0
ErasureIsCode = (code : Tac) (undeclared : Undeclared) (regions : List Regions)
    → erased (code_of code undeclared regions) ≡ code
