-- Reading declarations of local variables is correct.
use Rattle.std.proofs.Common.{◌≡◌, ℕ, ◌+◌, ◌<◌, ◌≤◌, false, List, [], ◌∷◌, ◌++◌, length, refl, ap, arith, append-nil, inl, inr}
use Rattle.rgo_ast.specs.declared.ops.AssignOp.TheVariants as assign_op
use Rattle.rgo_ast.specs.Tree as tree
use Rattle.rgo_lexer.specs.{declared.terminals.Terminal.{Terminal, TheVariants.{Name, Assign, OpenParen, Comma, Var}}, Lexemes.{Leaf, Lexeme, tok}}
use Rattle.rgo_grammar.specs.Grammar.{IsType, IsLocalVar, IsStmt, IsNames.{one}, IsBinding.{binding as of_names}, IsLocalVar.{zero as zeroed, typed, inferred}, IsStmt.{var as a_var, vars as some_vars}}
use Rattle.rgo_grammar.specs.reading.{Read.{Reader, next_lexeme}, Statements.{initial_by, initial, local_var_by, local_var, vars_by, vars_on, local_var_on}, Declarations.{group_by, group}}
use Rattle.rgo_grammar.proofs.machine.{Table.{T, AType, Locals, LocalList, LocalRest, Initial, step}, Runs.{run, closes}, Starts.{starts_as}}
use Rattle.rgo_grammar.proofs.reading.{Correct.{Correct, token_read, same_start, correct_given, correct_then, correct_token_then, shorter, correct_weaker, at_token, Empties, Correct.{done}}, Lists.{IsGroup, group_correct, list_syms}}
use Rattle.rgo_grammar.proofs.types.Correct.{type_correct, typed_names_correct}
use Rattle.rgo_grammar.proofs.statements.Simple.{Values}

abbrev LocalAt : List Lexeme → List Lexeme → tree.LocalVar → Type 0
LocalAt x z v = IsLocalVar (x ++ z) v

-- the variables of a statement
abbrev pub AreVars : List Lexeme → List tree.LocalVar → List Lexeme → Type 0
AreVars z vs w = (i : Leaf) → IsStmt (tok Var i ∷ z) (tree.Var vs i.at)

vars_of : (z : List Lexeme) (vs : List tree.LocalVar) (w : List Lexeme)
    → IsGroup IsLocalVar z vs → AreVars z vs w
vars_of z vs w (inl (v, e, h)) i = rw e (a_var i h)
vars_of z vs w (inr (j, y, e, h)) i = rw e (some_vars i j h)

-- one declaration, or a group of them in parentheses
vars_by_group : (n : ℕ) (value : Reader tree.Expr) (k : Terminal) (l m : List Lexeme)
    → vars_by n value k l m ≡ group_by (local_var n value) n k l m
vars_by_group n value OpenParen l m = refl
vars_by_group n value _ l m = refl

pub vars_as_group : (n : ℕ) (value : Reader tree.Expr) (l : List Lexeme)
    → vars_on n value l (next_lexeme l) ≡ group (local_var n value) n l
vars_as_group n value [] = refl
vars_as_group n value (t ∷ l) = vars_by_group n value t.terminal (t ∷ l) l

module _ (n m : ℕ) (value : Reader tree.Expr) (value_c : Values false m value) where
  initial_by_correct : (i : Leaf) (x : List Lexeme) (t : tree.TypeExpr) (k : Terminal) (j : Leaf)
      (l : List Lexeme) → length l ≤ m → IsType x t
      → Empties (Initial ∷ []) (LocalAt (tok Name i ∷ x)) (tok k j ∷ l)
      (initial_by value i t k j (tok k j ∷ l) l)
  unfolding run step
  initial_by_correct i x t (Assign assign_op.Plain) j l b h =
      token_read (correct_given _ (value_c l b) (λ z v w g. typed i j h g)) (λ s. refl)
  initial_by_correct i x t _ j l b h =
      done [] refl (rw append-nil (zeroed (of_names (one i) h))) (λ s. refl)

  initial_correct : (i : Leaf) (x : List Lexeme) (t : tree.TypeExpr) (l : List Lexeme)
      → length l ≤ m → IsType x t
      → Empties (Initial ∷ []) (LocalAt (tok Name i ∷ x)) l (initial value i t l (next_lexeme l))
  unfolding run closes
  initial_correct i x t [] b h =
      done [] refl (rw append-nil (zeroed (of_names (one i) h))) (λ s. refl)
  initial_correct i x t (u ∷ l) b h =
      initial_by_correct i x t u.terminal u.leaf l (omega (arith, b)) h

  local_by_correct : (i : Leaf) (k : Terminal) (j : Leaf) (l : List Lexeme) → length l + 1 < n
      → length l + 1 ≤ m
      → Empties (LocalRest ∷ []) (LocalAt (tok Name i ∷ [])) (tok k j ∷ l)
      (local_var_by n value i k j (tok k j ∷ l) l)
  unfolding run step
  local_by_correct i Comma j l a b =
      same_start (correct_given _ (typed_names_correct n (tok Comma j ∷ l) (omega (arith, a)) i)
      (λ z c w h. zeroed h)) (λ s. refl)
  local_by_correct i (Assign assign_op.Plain) j l a b =
      token_read (correct_given _ (value_c l (omega (arith, b))) (λ z v w g. inferred i j g))
      (λ s. refl)
  local_by_correct i k j l a b =
      same_start (correct_then (type_correct n (tok k j ∷ l) (omega (arith, a)))
      (λ z t w e h. initial_correct i z t w (omega (arith, b, shorter (tok k j ∷ l) z w e)) h))
      (λ s. starts_as LocalRest AType (Initial ∷ []) (tok k j) l s refl refl refl)

  local_correct : (l : List Lexeme) → length l < n → length l ≤ m
      → Empties (T Name ∷ LocalRest ∷ []) IsLocalVar l (local_var n value l)
  local_correct l a b =
      correct_token_then Name refl
      (λ i w c. at_token (λ w. local_var_on n value i w (next_lexeme w)) refl refl
      (λ t m d. local_by_correct i t.terminal t.leaf m (omega (arith, a, ap length c, ap length d))
      (omega (arith, b, ap length c, ap length d))))

  pub local_vars_correct : (l : List Lexeme) → length l < n → length l ≤ m
      → Correct (Locals ∷ []) (λ _. []) AreVars l (vars_on n value l (next_lexeme l))
  local_vars_correct l a b =
      rw (vars_as_group n value l)
      (correct_weaker
      (group_correct {L = LocalList} (local_var n value) (length l)
      (λ w g. local_correct w (omega (arith, a, g)) (omega (arith, b, g)))
      (list_syms refl refl refl refl refl refl) refl refl n l (omega arith) (omega arith))
      (λ z vs w c h. vars_of z vs w h))
