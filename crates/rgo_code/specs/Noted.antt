-- What is found at the number of an instruction: one of some kind with its note, or nothing said of regions.
use Rattle.std.specs.Prelude.{◌≡◌, ℕ, [], Option, Some}
use Rattle.rgo_tac.specs.declared.ops.Kind.{Kind}
use Rattle.rgo_tac.specs.Code.{Op}
use Rattle.rgo_tac.specs.Ops.{kind_of}
use Rattle.rgo_code.specs.declared.notes.Note.{Note}
use Rattle.rgo_code.specs.Code.{CodeInstr}
use Rattle.rgo_code.specs.Lists.{creates_in, passes_in, protects_in, removes_in, otherwise_in}
use Rattle.rgo_code.specs.Views.{code_op}

abbrev pub noted : Op → Note → ℕ → CodeInstr
noted op note place = record { creates = note.creates; op = code_op op note; place = place }

-- an instruction of this kind with this note
abbrev pub IsNoted : Option CodeInstr → Kind → Note → Type 0
IsNoted found kind note = (op : Op) × (place : ℕ) × (kind_of op ≡ kind) × (found ≡ Some (noted op note place))

pub record SaysNothing (found : Option CodeInstr) : Type 0 where
  pub creates : creates_in found ≡ []
  pub passes : passes_in found ≡ []
  pub protects : protects_in found ≡ []
  pub removes : removes_in found ≡ []
  pub otherwise : otherwise_in found ≡ []
