-- An action needs no variables and pieces of its own.
use Rattle.std.proofs.Common.{◌≡◌, List, [], refl, ap, ◌∙◌, ℕ}
use Rattle.rgo_tac.specs.declared.code.Instr.{Instr}
use Rattle.rgo_tac.specs.declared.code.Instr.TheVariants as code
use Rattle.rgo_tac.specs.Views.{op_of}
use Rattle.rgo_typed.specs.declared.statements.Piece.{Piece}
use Rattle.rgo_code.specs.declared.notes.Note.{Note}
use Rattle.rgo_code.specs.Views.{code_op}
use Rattle.rgo_code_text.specs.Ops.{NamedOp}
use Rattle.rgo_code_text.specs.Views.{own_op}

own_nothing : (i : Instr) → own_op [] [] i ≡ op_of [] [] i
own_nothing (code.Call d f n) = refl
own_nothing (code.Invoke f n) = refl
own_nothing (code.Go f n) = refl
own_nothing (code.Print p n) = refl
own_nothing _ = refl

named : Instr → List ℕ → List Piece → Note → List ℕ → NamedOp
named instr from pieces note name = record { op = code_op (own_op from pieces instr) note; name = name }

pub simple_op : (i j : Instr) (from : List ℕ) (pieces : List Piece) (m n : Note) (a b : List ℕ) → i ≡ j → from ≡ [] → pieces ≡ []
    → m ≡ n → a ≡ b
    → ◌≡◌ {A = NamedOp} (record { op = code_op (own_op from pieces i) m; name = a })
    (record { op = code_op (op_of [] [] j) n; name = b })
unfolding named
simple_op i j from pieces m n a b e f p q r =
    ap (λ x. named x from pieces m a) e ∙ ap (λ x. named j x pieces m a) f ∙ ap (λ x. named j [] x m a) p
    ∙ ap (λ x. named j [] [] x a) q ∙ ap (λ x. named j [] [] n x) r
    ∙ ap (λ x. record { op = code_op x n; name = b }) (own_nothing j)
