-- How many lines functions have.
use Rattle.std.proofs.Common.{◌≡◌, List, [], ◌∷◌, length, map, refl, arith}
use Rattle.std.proofs.lemmas.List.{length-map}
use Rattle.rgo_code.specs.Code.{CodeFn}
use Rattle.rgo_code.specs.Erasure.{erased_fn, erased_instr}
use Rattle.rgo_code.specs.Lines.{lines_before}
use Rattle.rgo_checker.specs.Sizes.{functions_lines}

-- they are those of three-address code
pub erased_lines : (fs : List CodeFn) → functions_lines (map erased_fn fs) ≡ lines_before fs (length fs)
erased_lines [] = refl
erased_lines (f ∷ fs) =
    omega (arith, erased_lines fs, length-map f.variables (λ s. s.ty), length-map f.body erased_instr)
