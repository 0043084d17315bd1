-- Declarations and whole programs of the grammar are read as such.
use Rattle.std.proofs.Common.{◌≡◌, ℕ, zero, suc, inl, inr, false, List, [], ◌∷◌, ◌++◌, Option, Some, refl, append_assoc, append-nil}
use Rattle.rgo_ast.specs.declared.names.ImportPath.{ImportPath}
use Rattle.rgo_ast.specs.Tree.{Binding, TypeSpec}
use Rattle.rgo_ast.specs.Tree as tree
use Rattle.rgo_lexer.specs.{declared.terminals.Terminal.{Terminal, TheVariants.{Name, Text, OpenParen, CloseParen, OpenBrace, CloseBrace, Comma, Semicolon, Import}}, Lexemes.{Leaf, Lexeme, tok, is_same_terminal}}
use Rattle.rgo_grammar.specs.Grammar.{IsPath, IsImport, IsTypeSpec, IsResult, IsBinding, IsType, IsStmts, IsDecl, IsProgram, Listed, EachWithSemicolon, EachWithSemicolon.{none as no_more, next}}
use Rattle.rgo_grammar.specs.reading.{Read.{Reader, Done, ◌>>=◌, yielding, next_lexeme, single}, Types.{a_type, a_binding}, Declarations.{group_by, group, import_path, type_spec, result_on, function, func, decls_on, decls, imports_by, imports_on, imports, program}}
use Rattle.rgo_grammar.specs.Grammar as g
use Rattle.rgo_grammar.proofs.reading.{Complete.{Meets, meets_trans, meets_bind, meets_then, Opens, listed_complete, not_true}, Next.{begins_append}}
use Rattle.rgo_grammar.proofs.types.Complete.{type_complete, binding_complete, binding_opens, bindings_complete}
use Rattle.rgo_grammar.proofs.statements.Complete.{block_complete}
use Rattle.rgo_grammar.proofs.declarations.Program.{NoImport}

-- ---- one item or a group

module _ {A : Type 0} (n : ℕ) (Item : List Lexeme → A → Type 0) (item : Reader A)
    (opens : (k : Terminal) → (is_same_terminal k Name ≡ false) × (is_same_terminal k Text ≡ false)
    → (x : List Lexeme) (a : A) → Item x a → Opens k x)
    (reads : (x : List Lexeme) (a : A) → Item x a → (l : List Lexeme)
    → Meets (item (x ++ l)) (Done a l)) where
  group_alone : (k : Terminal) (i : Leaf) (m : List Lexeme) → is_same_terminal OpenParen k ≡ false
      → group_by item n k (tok k i ∷ m) m ≡ single (item (tok k i ∷ m))
  group_alone OpenParen i m e = cc
  group_alone _ i m e = refl

  group_open : (l : List Lexeme) → Opens OpenParen l → group item n l ≡ single (item l)
  group_open [] o = absurd o
  group_open (t ∷ l) o = group_alone t.terminal t.leaf l (not_true (is_same_terminal OpenParen t.terminal) o)

  pub group_one : (x : List Lexeme) (a : A) (l : List Lexeme) → Item x a
      → Meets (group item n (x ++ l)) (Done (a ∷ []) l)
  group_one x a l h =
      rw (group_open (x ++ l) (begins_append _ x l (opens OpenParen (refl, refl) x a h)))
      (meets_bind _ (reads x a h l))

  pub group_list : (j : Leaf) (y : List Lexeme) (all : List A) (l : List Lexeme)
      → Listed Item Semicolon CloseParen y all
      → Meets (group item n (tok OpenParen j ∷ (y ++ l))) (Done all l)
  group_list j y all l d =
      let h = listed_complete Semicolon CloseParen refl Item item
      (λ x a h. opens CloseParen (refl, refl) x a h)
      (λ x a h k i m s. reads x a h (tok k i ∷ m)) d n [] l in
      meets_bind _ h.1

-- ---- imports

path_opens : (k : Terminal) → (is_same_terminal k Name ≡ false) × (is_same_terminal k Text ≡ false)
    → (x : List Lexeme) (p : ImportPath) → IsPath x p → Opens k x
path_opens k e _ _ (g.string i) = rw e.1 refl

path_reads : (x : List Lexeme) (p : ImportPath) → IsPath x p → (l : List Lexeme)
    → Meets (import_path (x ++ l)) (Done p l)
path_reads _ _ (g.string i) l = inr refl

-- after the keyword
import_complete : {x : List Lexeme} {d : tree.Import} → IsImport x d
    → (n : ℕ) (found : List tree.Import) (again : List tree.Import → Reader (List tree.Import))
    (j : Leaf) (l : List Lexeme)
    → Meets (imports_on n again found (x ++ tok Semicolon j ∷ l)
    (next_lexeme (x ++ tok Semicolon j ∷ l))) (again (found ++ d ∷ []) l)
import_complete (g.one i {x} {p} h) n found again j l =
    meets_then _
    (meets_bind _
    (group_one n IsPath import_path path_opens path_reads x p (tok Semicolon j ∷ l) h)) (inr refl)
import_complete (g.group i k {y} {ps} d) n found again j l =
    meets_then _
    (meets_bind _
    (group_list n IsPath import_path path_opens path_reads k y ps (tok Semicolon j ∷ l) d))
    (inr refl)

no_import : (n : ℕ) (again : List tree.Import → Reader (List tree.Import))
    (found : List tree.Import) (k : Terminal) (i : Leaf) (m : List Lexeme) → is_same_terminal Import k ≡ false
    → imports_by n again found k i (tok k i ∷ m) m ≡ Done found (tok k i ∷ m)
no_import n again found Import i m e = cc
no_import n again found _ i m e = refl

imports_end : (n m : ℕ) (found : List tree.Import) (l : List Lexeme) → NoImport l
    → Meets (imports n m found l) (Done found l)
unfolding imports
imports_end n zero found l h = inl refl
imports_end n (suc m) found [] h = inr refl
imports_end n (suc m) found (t ∷ l) h = inr (no_import n (imports n m) found t.terminal t.leaf l h)

imports_complete : {x : List Lexeme} {all : List tree.Import} → EachWithSemicolon IsImport x all
    → (n m : ℕ) (found : List tree.Import) (l : List Lexeme) → NoImport l
    → Meets (imports n m found (x ++ l)) (Done (found ++ all) l)
unfolding imports
imports_complete no_more n m found l h = rw append-nil (imports_end n m found l h)
imports_complete (next j {x} {y} {a} {all} p e) n zero found l h = inl refl
imports_complete (next j {x} {y} {a} {all} p e) n (suc m) found l h =
    let rest = imports_complete e n m (found ++ a ∷ []) l h in
    rw append_assoc
    (meets_trans (import_complete p n found (imports n m) j (y ++ l))
    (rw (append_assoc found (a ∷ []) all) at rest))

-- ---- declarations

spec_opens : (k : Terminal) → (is_same_terminal k Name ≡ false) × (is_same_terminal k Text ≡ false)
    → (x : List Lexeme) (s : TypeSpec) → IsTypeSpec x s → Opens k x
spec_opens k e _ _ (g.struct i j m {y} d) = rw e.0 refl

spec_reads : (n : ℕ) (x : List Lexeme) (s : TypeSpec) → IsTypeSpec x s → (l : List Lexeme)
    → Meets (type_spec n (x ++ l)) (Done s l)
spec_reads n _ _ (g.struct i j k {y} {fs} d) l =
    let h = bindings_complete Semicolon CloseBrace refl refl d n l in
    meets_bind _ h.1

var_opens : (k : Terminal) → (is_same_terminal k Name ≡ false) × (is_same_terminal k Text ≡ false)
    → (x : List Lexeme) (b : Binding) → IsBinding x b → Opens k x
var_opens k e x b h = binding_opens k e.0 x b h

var_reads : (n : ℕ) (x : List Lexeme) (b : Binding) → IsBinding x b → (l : List Lexeme)
    → Meets (a_binding n (x ++ l)) (Done b l)
var_reads n x b h l = binding_complete x b h n l

result_type : (n : ℕ) (x : List Lexeme) (t : tree.TypeExpr) (l : List Lexeme) → IsType x t
    → result_on n (x ++ l) (next_lexeme (x ++ l)) ≡ (a_type n (x ++ l) >>= yielding (λ t. Some t))
result_type n _ _ l (g.named i) = refl
result_type n _ _ l (g.pointer i j) = refl
result_type n _ _ l (g.slice i j h) = refl
result_type n _ _ l (g.chan i h) = refl

result_complete : {x : List Lexeme} {r : Option tree.TypeExpr} → IsResult x r
    → (n : ℕ) (m : Leaf) (l : List Lexeme)
    → Meets (result_on n (x ++ tok OpenBrace m ∷ l) (next_lexeme (x ++ tok OpenBrace m ∷ l)))
    (Done r (tok OpenBrace m ∷ l))
result_complete g.none n m l = inr refl
result_complete (g.some {x} {t} h) n m l =
    rw (result_type n x t (tok OpenBrace m ∷ l) h)
    (meets_bind _ (type_complete x t h n (tok OpenBrace m ∷ l)))

module _ (n : ℕ) where
  func_complete : (i j k m end : Leaf) (x y z : List Lexeme) (ps : List Binding)
      (r : Option tree.TypeExpr) (b : List tree.Stmt) (l : List Lexeme)
      → Listed IsBinding Comma CloseParen x ps → IsResult y r → IsStmts z b end
      → Meets (func n i (tok Name j ∷ tok OpenParen k ∷ (x ++ (y ++ tok OpenBrace m ∷ (z ++ l)))))
      (Done (function i j ps r b end) l)
  func_complete i j k m end x y z ps r b l p q s =
      let h = bindings_complete Comma CloseParen refl refl p n (y ++ tok OpenBrace m ∷ (z ++ l)) in
      meets_then _ h.1
      (meets_then _ (result_complete q n m (z ++ l)) (meets_bind _ (block_complete s m n l)))

  -- with the `;` after it
  decl_complete : {x : List Lexeme} {d : tree.Decl} → IsDecl x d
      → (found : List tree.Decl) (again : List tree.Decl → Reader (List tree.Decl)) (j : Leaf)
      (l : List Lexeme)
      → Meets (decls_on n again found (x ++ tok Semicolon j ∷ l)
      (next_lexeme (x ++ tok Semicolon j ∷ l))) (again (found ++ d ∷ []) l)
  decl_complete (g.type i {x} {s} h) found again j l =
      meets_then _
      (meets_bind _
      (group_one n IsTypeSpec (type_spec n) spec_opens (spec_reads n) x s (tok Semicolon j ∷ l) h))
      (inr refl)
  decl_complete (g.types i k {y} {ss} d) found again j l =
      meets_then _
      (meets_bind _
      (group_list n IsTypeSpec (type_spec n) spec_opens (spec_reads n) k y ss
      (tok Semicolon j ∷ l) d)) (inr refl)
  decl_complete (g.var i {x} {b} h) found again j l =
      meets_then _
      (meets_bind _
      (group_one n IsBinding (a_binding n) var_opens (var_reads n) x b (tok Semicolon j ∷ l) h))
      (inr refl)
  decl_complete (g.vars i k {y} {bs} d) found again j l =
      meets_then _
      (meets_bind _
      (group_list n IsBinding (a_binding n) var_opens (var_reads n) k y bs (tok Semicolon j ∷ l) d))
      (inr refl)
  decl_complete (g.func i j k m end {x} {y} {z} {ps} {r} {b} p q s) found again s' l =
      rw (append_assoc, append_assoc)
      (meets_then _
      (func_complete i j k m end x y z ps r b (tok Semicolon s' ∷ l) p q s) (inr refl))

  decls_complete : {x : List Lexeme} {all : List tree.Decl} → EachWithSemicolon IsDecl x all
      → (m : ℕ) (found : List tree.Decl) → Meets (decls n m found x) (Done (found ++ all) [])
  unfolding decls
  decls_complete no_more zero found = inl refl
  decls_complete no_more (suc m) found = inr (rw append-nil refl)
  decls_complete (next j {x} {y} {a} {all} p e) zero found = inl refl
  decls_complete (next j {x} {y} {a} {all} p e) (suc m) found =
      let rest = decls_complete e m (found ++ a ∷ []) in
      meets_trans (decl_complete p found (decls n m) j y)
      (rw (append_assoc found (a ∷ []) all) at rest)

  decl_starts : {x : List Lexeme} {d : tree.Decl} → IsDecl x d
      → (l : List Lexeme) → NoImport (x ++ l)
  decl_starts (g.type i h) l = refl
  decl_starts (g.types i j d) l = refl
  decl_starts (g.var i h) l = refl
  decl_starts (g.vars i j d) l = refl
  decl_starts (g.func i j k m end p q s) l = refl

  decls_start : {x : List Lexeme} {all : List tree.Decl} → EachWithSemicolon IsDecl x all → NoImport x
  decls_start no_more = tt
  decls_start (next j {x} {y} p e) = decl_starts p (tok Semicolon j ∷ y)

  pub program_complete : {l : List Lexeme} {is : List tree.Import} {ds : List tree.Decl}
      → IsProgram l is ds → Meets (program n l) (Done (is, ds) [])
  program_complete (g.program i j k {x} {y} {imports = is} {decls = ds} p q) =
      meets_then _ (imports_complete p n n [] y (decls_start q))
      (meets_bind _ (decls_complete q n []))
