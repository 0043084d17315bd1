-- Reading imports and declarations is correct.
use Rattle.std.proofs.Common.{ℕ, ◌+◌, ◌*◌, ◌<◌, ◌≤◌, inl, inr, List, [], ◌∷◌, ◌++◌, length, Option, refl, ap, arith}
use Rattle.rgo_ast.specs.declared.names.ImportPath.{ImportPath}
use Rattle.rgo_ast.specs.Tree.{TypeSpec, Binding}
use Rattle.rgo_ast.specs.Tree as tree
use Rattle.rgo_lexer.specs.{declared.terminals.Terminal.{Terminal, TheVariants.{TypeWord, Var, Name, Text, OpenParen, CloseParen, OpenBrace, Comma, Import, Struct, Func}}, Lexemes.{Leaf, Lexeme, tok}}
use Rattle.rgo_grammar.specs.Grammar.{IsPath, IsImport, IsTypeSpec, IsResult, IsBinding, IsDecl, Listed}
use Rattle.rgo_grammar.specs.reading.{Read.{◌>>=◌, yielding, next_lexeme}, Statements.{block}, Declarations.{import_path, import_decl, type_spec, result_by, function, func, group, result_on}, Types.{a_binding}}
use Rattle.rgo_grammar.specs.Grammar as g
use Rattle.rgo_grammar.proofs.machine.{Table.{T, Paths, PathList, Specs, SpecList, Vars, VarList, Fields, AType, Params, Result, Block, step}, Runs.{run}, Starts.{starts_as}}
use Rattle.rgo_grammar.proofs.reading.{Correct.{Correct, same_start, correct_bind, correct_given, correct_under, correct_then, correct_token_then, correct_token_given, shorter, at_token, Empties, Correct.{done}}, Lists.{IsGroup, group_correct, list_syms}}
use Rattle.rgo_grammar.proofs.types.Correct.{type_correct, bindings_correct, binding_correct}
use Rattle.rgo_grammar.proofs.statements.Correct.{block_correct}

-- ---- imports

path_correct : (l : List Lexeme) → Empties (T Text ∷ []) IsPath l (import_path l)
path_correct l = correct_token_given Text _ refl (λ i w. g.string i)

import_of : (z : List Lexeme) (i : Leaf) (ps : List ImportPath) → IsGroup IsPath z ps
    → IsImport (tok Import i ∷ z) (record { paths = ps; at = i.at })
import_of z i ps (inl (p, e, h)) = rw e (g.one i h)
import_of z i ps (inr (j, y, e, h)) = rw e (g.group i j h)

pub import_correct : (n : ℕ) (i : Leaf) (l : List Lexeme) → length l ≤ n
    → Empties (Paths ∷ []) (λ z d. IsImport (tok Import i ∷ z) d) l (import_decl n i l)
import_correct n i l h =
    correct_given _
    (group_correct {L = PathList} import_path (length l)
    (λ m _. path_correct m) (list_syms refl refl refl refl refl refl) refl refl n l h (omega arith))
    (λ z ps w d. import_of z i ps d)

-- ---- types

pub spec_correct : (n : ℕ) (l : List Lexeme) → length l ≤ n + 1
    → Empties (T Name ∷ T Struct ∷ T OpenBrace ∷ Fields ∷ []) IsTypeSpec l (type_spec n l)
spec_correct n l h =
    correct_token_then Name refl
    (λ i w c. correct_token_then Struct refl
    (λ j u d. correct_token_then OpenBrace refl
    (λ k v e. correct_given _
    (bindings_correct (list_syms refl refl refl refl refl refl) n v
    (omega (arith, ap length c, ap length d, ap length e))) (λ z x w f. g.struct i j k f))))

types_of : (z : List Lexeme) (i : Leaf) (ss : List TypeSpec) → IsGroup IsTypeSpec z ss
    → IsDecl (tok TypeWord i ∷ z) (tree.Types ss i.at)
types_of z i ss (inl (s, e, h)) = rw e (g.type i h)
types_of z i ss (inr (j, y, e, h)) = rw e (g.types i j h)

pub types_correct : (n : ℕ) (i : Leaf) (m : List Lexeme) → length m ≤ n
    → Empties (Specs ∷ [])
    (λ z d. IsDecl (tok TypeWord i ∷ z) d) m
    (group (type_spec n) n m >>= yielding (λ ss. tree.Types ss i.at))
types_correct n i m h =
    correct_given _
    (group_correct {L = SpecList} (type_spec n) (length m)
    (λ l e. spec_correct n l (omega arith)) (list_syms refl refl refl refl refl refl) refl refl n m
    h (omega arith)) (λ z ss w d. types_of z i ss d)

-- ---- variables

vars_of : (z : List Lexeme) (i : Leaf) (bs : List Binding) → IsGroup IsBinding z bs
    → IsDecl (tok Var i ∷ z) (tree.Vars bs i.at)
vars_of z i bs (inl (b, e, h)) = rw e (g.var i h)
vars_of z i bs (inr (j, y, e, h)) = rw e (g.vars i j h)

pub vars_correct : (n : ℕ) (i : Leaf) (m : List Lexeme) → length m < n
    → Empties (Vars ∷ [])
    (λ z d. IsDecl (tok Var i ∷ z) d) m (group (a_binding n) n m >>= yielding (λ bs. tree.Vars bs i.at))
vars_correct n i m h =
    correct_given _
    (group_correct {L = VarList} (a_binding n) (length m)
    (λ l e. binding_correct n l (omega arith)) (list_syms refl refl refl refl refl refl) refl refl n
    m (omega arith) (omega arith)) (λ z bs w d. vars_of z i bs d)

-- ---- functions

result_by_correct : (n : ℕ) (k : Terminal) (i : Leaf) (m : List Lexeme) → length m + 1 < n
    → Correct (Result ∷ []) (λ _. Block ∷ [])
    (λ z r w. IsResult z r) (tok k i ∷ m) (result_by n k (tok k i ∷ m))
unfolding run step
result_by_correct n OpenBrace i m h = done [] refl g.none (λ s. refl)
result_by_correct n k i m h =
    same_start (correct_given _
    (correct_under (Block ∷ []) (type_correct n (tok k i ∷ m) (omega arith))) (λ z t w d. g.some d))
    (λ s. starts_as Result AType (Block ∷ []) (tok k i) m s refl refl refl)

module _ (n : ℕ) where
  body_correct : (i j k : Leaf) (x y : List Lexeme) (ps : List Binding) (r : Option tree.TypeExpr)
      (l : List Lexeme) → 4 * length l + 4 ≤ n → Listed IsBinding Comma CloseParen x ps
      → IsResult y r
      → Empties (Block ∷ [])
      (λ z d. IsDecl (tok Func i ∷ tok Name j ∷ tok OpenParen k ∷ (x ++ (y ++ z))) d) l
      (block n l >>= yielding (λ b. function i j ps r b.0 b.1))
  body_correct i j k x y ps r l h p q =
      correct_given _ (block_correct n l h) (λ z b w d. rw d.2 (g.func i j k d.0 b.1 p q d.3))

  pub func_correct : (i : Leaf) (l : List Lexeme) → 4 * length l + 4 ≤ n
      → Empties (T Name ∷ T OpenParen ∷ Params ∷ Result ∷ [])
      (λ z d. IsDecl (tok Func i ∷ z) d) l (func n i l)
  func_correct i l h =
      correct_token_then Name refl
      (λ j w c. correct_token_then OpenParen refl
      (λ k u d. correct_then
      (bindings_correct (list_syms refl refl refl refl refl refl) n u
      (omega (arith, ap length c, ap length d)))
      (λ x ps v e p. correct_bind
      (at_token (λ w. result_on n w (next_lexeme w)) refl refl
      (λ t n' c'. result_by_correct n t.terminal t.leaf n'
      (omega (arith, ap length c, ap length d, shorter u x v e, ap length c'))))
      (λ y r v' f q. body_correct i j k x y ps.0 r v'
      (omega (arith, ap length c, ap length d, shorter u x v e, shorter v y v' f)) p q))))
