-- A copy of any kind is the same operation: the kinds differ in speed only, so numbering may choose one by the types of variables.
use Rattle.std.proofs.Common.{◌≡◌, ℕ, List, sym, ap, ◌∙◌}
use Rattle.rgo_typed.specs.declared.statements.Piece.{Piece}
use Rattle.rgo_tac.specs.declared.code.Instr.{Instr}
use Rattle.rgo_tac.specs.declared.code.Instr.TheVariants as code
use Rattle.rgo_tac.specs.Views.{op_of}
use Rattle.rgo_code.specs.declared.notes.Note.{Note}
use Rattle.rgo_code.specs.Views.{code_op}
use Rattle.rgo_code_printing.specs.Text.{Names}
use Rattle.rgo_code_text.specs.declared.ops.NamedOp.{NamedOp}
use Rattle.rgo_code_text.specs.Building.{numbered_op}
use Rattle.rgo_code_text.specs.Opened.{IsCopy, IsNumberedInstr}
use Rattle.rgo_code_text.specs.Views.{own_op}

module _ (n : Names) (lists : List (List ℕ)) (from : List ℕ) (pieces : List (List Piece)) (ps : List Piece) (note : Note) (name : List ℕ) where
  copy_op : (d a e b : ℕ) → e ≡ d → b ≡ a
      → code_op (op_of lists pieces (code.Copy e b)) note ≡ numbered_op n (code_op (own_op from ps (code.Copy d a)) note) name
  copy_op d a e b p q =
      ap (λ x. code_op (op_of lists pieces (code.Copy x b)) note) p
      ∙ ap (λ x. code_op (op_of lists pieces (code.Copy d x)) note) q

module _ (n : Names) (o : NamedOp) (list d a : ℕ) (is : o.instr ≡ code.Copy d a) where
  copy_is : (lists : List (List ℕ)) (pieces : List (List Piece)) (e b : ℕ) → e ≡ d → b ≡ a
      → code_op (op_of lists pieces (code.Copy e b)) o.note
      ≡ numbered_op n (code_op (own_op o.from.items o.pieces.items o.instr) o.note) o.name.now
  copy_is lists pieces e b p q =
      copy_op n lists o.from.items pieces o.pieces.items o.note o.name.now d a e b p q
      ∙ ap (λ i. numbered_op n (code_op (own_op o.from.items o.pieces.items i) o.note) o.name.now) (sym is)

  pub copy_numbered : (i : Instr) → IsCopy d a i → IsNumberedInstr n o list i
  copy_numbered (code.Copy e b) c = record { below = λ k l. tt; op = λ lists pieces f g. copy_is lists pieces e b c.0 c.1 }
  copy_numbered (code.CopyInt e b) c = record { below = λ k l. tt; op = λ lists pieces f g. copy_is lists pieces e b c.0 c.1 }
  copy_numbered (code.CopyBool e b) c = record { below = λ k l. tt; op = λ lists pieces f g. copy_is lists pieces e b c.0 c.1 }
  copy_numbered _ c = absurd c
