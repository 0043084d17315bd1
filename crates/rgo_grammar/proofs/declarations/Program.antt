-- Reading whole programs is correct. The end of the text closes the list of declarations, and not a token, so it has a proof of its own
-- beside those of `Lists`.
use Rattle.std.proofs.Common.{◌≡◌, ℕ, zero, suc, ◌+◌, ◌*◌, ◌<◌, ◌≤◌, List, [], ◌∷◌, ◌++◌, length, refl, sym, ◌∙◌, ap, append_assoc, arith, append-nil}
use Rattle.rgo_ast.specs.Tree as tree
use Rattle.rgo_lexer.specs.{declared.terminals.Terminal.{Terminal, TheVariants.{Main, Semicolon, Package, Import, TypeWord, Var, Func}}, Lexemes.{is_same_terminal, Leaf, Lexeme, tok}}
use Rattle.rgo_grammar.specs.Grammar.{IsImport, IsDecl, IsProgram, EachWithSemicolon}
use Rattle.rgo_grammar.specs.reading.{Read.{Reader, Read, Done, Failed, At, ◌>>=◌, yielding, token}, Declarations.{decl_by, decls, imports_by, imports, head, program}}
use Rattle.rgo_grammar.specs.Grammar as g
use Rattle.rgo_grammar.proofs.machine.{Table.{Sym, T, Program, Imports, Decls, step}, Runs.{Accepted, Stopped, run, closes}, Starts.{one_start, alike}}
use Rattle.rgo_grammar.proofs.reading.{Correct.{Correct, token_read, same_start, correct_weaker, correct_under, correct_then, correct_token, correct_token_then, shorter, Empties, Correct.{done, stops}}, Next.{NotNext}}
use Rattle.rgo_grammar.proofs.declarations.Correct.{import_correct, func_correct, types_correct, vars_correct}

-- Reading to the end of the list, if the stack is `from` and nothing is under it: at the end the machine has to accept.
pub data Closed {A : Type 0} (from : List Sym) (P : List Lexeme → A → Type 0)
    (l : List Lexeme) : Read A → Type 0 where
  accepts : {a : A} → P l a → run l from ≡ Accepted → Closed from P l (Done a [])
  rejects : {w : List Lexeme} → run l from ≡ Stopped w → Closed from P l (Failed (At w))

closed_from : {A : Type 0} {from via : List Sym} {Q : List Lexeme → A → Type 0} (z : List Lexeme)
    {l w : List Lexeme} {r : Read A} → l ≡ z ++ w → Closed via (λ x a. Q (z ++ x) a) w r
    → run l from ≡ run w via → Closed from Q l r
closed_from z c (accepts p h) e = accepts (rw c p) (e ∙ h)
closed_from z c (rejects h) e = rejects (e ∙ h)

closed_bind : {A B : Type 0} {from via : List Sym} {P : List Lexeme → A → List Lexeme → Type 0}
    {Q : List Lexeme → B → Type 0} {l : List Lexeme} {m : Read A} {f : A → Reader B}
    → Correct from (λ _. via) P l m
    → ((z : List Lexeme) (a : A) (w : List Lexeme) → l ≡ z ++ w → P z a w
    → Closed via (λ x b. Q (z ++ x) b) w (f a w)) → Closed from Q l (m >>= f)
closed_bind {from = from} {via = via} (done z {a} {w} c p h) k =
    closed_from z c (k z a w c p) (let e = h [] in rw (append-nil from, append-nil via) at e)
closed_bind {from = from} (stops h) k = rejects (let e = h [] in rw (append-nil from) at e)

closed_given : {A B : Type 0} {from : List Sym} {P : List Lexeme → A → Type 0}
    {Q : List Lexeme → B → Type 0} {l : List Lexeme} {m : Read A} (f : A → B) → Closed from P l m
    → ((a : A) → P l a → Q l (f a)) → Closed from Q l (m >>= yielding f)
closed_given f (accepts {a} p h) k = accepts (k a p) h
closed_given f (rejects h) k = rejects h

abbrev pub NoImport : List Lexeme → Type 0
NoImport = NotNext (is_same_terminal Import)

-- ---- the head

abbrev pub IsHead : List Lexeme → Type 0
IsHead z = (i j k : Leaf) × (z ≡ tok Package i ∷ tok Main j ∷ tok Semicolon k ∷ [])

package_start : (l : List Lexeme) (s : List Sym)
    → run l (Program ∷ s) ≡ run l (T Package ∷ T Main ∷ T Semicolon ∷ Imports ∷ s)
unfolding run step closes
package_start [] s = refl
package_start (t ∷ l) s =
    one_start Program Package (T Main ∷ T Semicolon ∷ Imports ∷ []) t l s refl refl

head_correct : (l : List Lexeme)
    → Correct (Program ∷ []) (λ _. Imports ∷ []) (λ z _ w. IsHead z) l (head l)
head_correct l =
    same_start (correct_token_then Package refl
    (λ i w c. correct_token_then Main refl
    (λ j u d. correct_weaker (correct_under (Imports ∷ []) (correct_token Semicolon refl))
    (λ z k w e q. (i, j, k, rw q refl))))) (λ s. package_start l s)

abbrev Parts : List Lexeme → List tree.Import × List tree.Decl → Type 0
Parts z x =
    (i : List Lexeme) × (d : List Lexeme) × (z ≡ i ++ d) × EachWithSemicolon IsImport i x.0 × EachWithSemicolon IsDecl d x.1

headed : {z w : List Lexeme} {r : Read (List tree.Import × List tree.Decl)} → IsHead z
    → Closed (Imports ∷ []) Parts w r
    → Closed (Imports ∷ []) (λ y x. IsProgram (z ++ y) x.0 x.1) w r
headed (i, j, k, e) (accepts (is, ds, c, p, q) d) = accepts (rw (e, c) (g.program i j k p q)) d
headed h (rejects f) = rejects f

module _ (n : ℕ) where
  -- ---- declarations

  -- a declaration and what follows it, if the machine has its symbols on the stack
  decl_then : {B : Type 0} {from : List Sym} {k : Terminal} {i : Leaf} {m : List Lexeme}
      {r : Read tree.Decl} {again : tree.Decl → Reader B} {Q : List Lexeme → B → Type 0}
      → Empties from (λ z d. IsDecl (tok k i ∷ z) d) m r
      → run (tok k i ∷ m) (Decls ∷ []) ≡ run m (from ++ T Semicolon ∷ Decls ∷ [])
      → ((x : List Lexeme) (d : tree.Decl) (j : Leaf) (w : List Lexeme) → length w < length m
      → IsDecl x d → Closed (Decls ∷ []) (λ y b. Q (x ++ tok Semicolon j ∷ y) b) w (again d w))
      → Closed (Decls ∷ []) Q (tok k i ∷ m) (r >>= λ d w. token Semicolon w >>= λ _. again d)
  decl_then {k = k} {i = i} {m = m} h e f =
      closed_from (tok k i ∷ []) refl
      (closed_bind (correct_under (T Semicolon ∷ Decls ∷ []) h)
      (λ z d w c p. closed_bind (correct_under (Decls ∷ []) (correct_token Semicolon refl))
      (λ u j v o q. rw q
      (f (tok k i ∷ z) d j v (omega (arith, shorter m z w c, shorter w u v o, ap length q)) p)))) e

  abbrev DeclsAfter : List tree.Decl → List Lexeme → List tree.Decl → Type 0
  DeclsAfter found z ds = (new : List tree.Decl) × (ds ≡ found ++ new) × EachWithSemicolon IsDecl z new

  after_one : (found : List tree.Decl) {x : List Lexeme} {d : tree.Decl} (j : Leaf)
      {w : List Lexeme} {r : Read (List tree.Decl)} → IsDecl x d
      → Closed (Decls ∷ []) (DeclsAfter (found ++ d ∷ [])) w r
      → Closed (Decls ∷ []) (λ y ds. DeclsAfter found (x ++ tok Semicolon j ∷ y) ds) w r
  after_one found {d = d} j p (accepts (new, f, q) a) =
      accepts (d ∷ new, f ∙ append_assoc found (d ∷ []) new, g.next j p q) a
  after_one found j p (rejects h) = rejects h

  decls_by_correct : (again : List tree.Decl → Reader (List tree.Decl)) (found : List tree.Decl)
      (k : Terminal) (i : Leaf) (m : List Lexeme) → 4 * length m + 4 ≤ n
      → ((ds : List tree.Decl) (w : List Lexeme) → length w ≤ length m
      → Closed (Decls ∷ []) (DeclsAfter ds) w (again ds w))
      → Closed (Decls ∷ []) (DeclsAfter found) (tok k i ∷ m)
      (decl_by n k i (tok k i ∷ m) m >>= λ d w. token Semicolon w >>= λ _. again (found ++ d ∷ []))
  unfolding run step
  decls_by_correct again found TypeWord i m h hi =
      decl_then (types_correct n i m (omega arith)) refl
      (λ x d j w o p. after_one found j p (hi (found ++ d ∷ []) w (omega arith)))
  decls_by_correct again found Var i m h hi =
      decl_then (vars_correct n i m (omega arith)) refl
      (λ x d j w o p. after_one found j p (hi (found ++ d ∷ []) w (omega arith)))
  decls_by_correct again found Func i m h hi =
      decl_then (func_correct n i m h) refl
      (λ x d j w o p. after_one found j p (hi (found ++ d ∷ []) w (omega arith)))
  decls_by_correct again found k i m h hi = rejects refl

  decls_correct : (m : ℕ) (found : List tree.Decl) (l : List Lexeme) → length l < m
      → 4 * length l + 4 ≤ n → Closed (Decls ∷ []) (DeclsAfter found) l (decls n m found l)
  unfolding decls run closes
  decls_correct zero found l h b = absurd (omega arith)
  decls_correct (suc m) found [] h b = accepts ([], sym (append-nil found), g.none) refl
  decls_correct (suc m) found (t ∷ l) h b =
      decls_by_correct (decls n m) found t.terminal t.leaf l (omega arith)
      (λ ds w o. decls_correct m ds w (omega arith) (omega arith))

  -- ---- imports

  abbrev ImportsAfter : List tree.Import → List Lexeme → List tree.Import → List Lexeme → Type 0
  ImportsAfter found z ds w =
      ((new : List tree.Import) × (ds ≡ found ++ new) × EachWithSemicolon IsImport z new) × NoImport w

  imports_by_correct : (again : List tree.Import → Reader (List tree.Import))
      (found : List tree.Import) (k : Terminal) (i : Leaf) (m : List Lexeme) → length m ≤ n
      → ((ds : List tree.Import) (w : List Lexeme) → length w ≤ length m
      → Correct (Imports ∷ []) (λ _. Imports ∷ []) (ImportsAfter ds) w (again ds w))
      → Correct (Imports ∷ [])
      (λ _. Imports ∷ []) (ImportsAfter found) (tok k i ∷ m)
      (imports_by n again found k i (tok k i ∷ m) m)
  unfolding run step
  imports_by_correct again found Import i m h hi =
      token_read (correct_then (import_correct n i m h)
      (λ z d w c p. correct_token_then Semicolon refl
      (λ j u o. correct_weaker
      (hi (found ++ d ∷ []) u (omega (arith, shorter m z w c, ap length o)))
      (λ y ds v e q.
      ((d ∷ q.0.0, q.0.1 ∙ append_assoc found (d ∷ []) q.0.0, g.next j p q.0.2), q.1)))))
      (λ s. refl)
  imports_by_correct again found k i m h hi =
      done [] refl (([], sym (append-nil found), g.none), refl) (λ s. refl)

  imports_correct : (m : ℕ) (found : List tree.Import) (l : List Lexeme) → length l < m
      → length l ≤ n
      → Correct (Imports ∷ []) (λ _. Imports ∷ []) (ImportsAfter found) l (imports n m found l)
  unfolding imports
  imports_correct zero found l h b = absurd (omega arith)
  imports_correct (suc m) found [] h b =
      done [] refl (([], sym (append-nil found), g.none), tt) (λ s. refl)
  imports_correct (suc m) found (t ∷ l) h b =
      imports_by_correct (imports n m) found t.terminal t.leaf l (omega arith)
      (λ ds w o. imports_correct m ds w (omega arith) (omega arith))

  -- ---- the program

  imports_end : (w : List Lexeme) → NoImport w → run w (Imports ∷ []) ≡ run w (Decls ∷ [])
  unfolding run closes
  imports_end [] e = refl
  imports_end (t ∷ w) e = alike Imports Decls t w [] (rw e refl) refl

  body_correct : (l : List Lexeme) → 4 * length l + 4 ≤ n
      → Closed (Imports ∷ []) Parts l
      (imports n n [] l >>= λ is u. decls n n [] u >>= yielding (λ ds. (is, ds)))
  body_correct l h =
      closed_bind (imports_correct n [] l (omega arith) (omega arith))
      (λ z is w c p. closed_from [] refl
      (closed_given _
      (decls_correct n [] w (omega (arith, shorter l z w c)) (omega (arith, shorter l z w c)))
      (λ ds q. (z, w, refl, rw p.0.1 p.0.2, rw q.1 q.2))) (imports_end w p.1))

  pub program_correct : (l : List Lexeme) → 4 * length l + 4 ≤ n
      → Closed (Program ∷ []) (λ z x. IsProgram z x.0 x.1) l (program n l)
  program_correct l h =
      closed_bind (head_correct l)
      (λ z _ w c p. headed p (body_correct w (omega (arith, shorter l z w c))))
