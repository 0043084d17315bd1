-- Reading names and types is correct.
use Rattle.std.proofs.Common.{◌≡◌, ℕ, zero, suc, ◌<◌, ◌≤◌, List, [], ◌∷◌, ◌++◌, length, refl, ap, append_assoc, arith, append-nil}
use Rattle.rgo_ast.specs.declared.names.Ident.{Ident}
use Rattle.rgo_ast.specs.declared.ops.BinaryOp.TheVariants as op
use Rattle.rgo_ast.specs.Tree as tree
use Rattle.rgo_lexer.specs.{declared.terminals.Terminal.{Terminal, TheVariants.{Name, Binary, OpenBracket, CloseBracket, Comma, Chan}}, Lexemes.{Leaf, Lexeme, tok, ident, is_same_terminal}}
use Rattle.rgo_grammar.specs.Grammar.{IsNames, IsType, IsBinding, Listed, IsNames.{one, more}, IsType.{named, pointer, slice, chan}, IsBinding.{binding as of_names}}
use Rattle.rgo_grammar.specs.reading.{Read.{Reader}, Types.{type_by, a_type, names_by, names, typed_names, a_binding, bindings}}
use Rattle.rgo_grammar.proofs.machine.{Table.{Sym, T, AType, NamesType, step}, Runs.{run, closes}, Starts.{alike}}
use Rattle.rgo_grammar.proofs.reading.{Lists.{ListSyms, token_list}, Correct.{Correct, token_read, same_start, correct_bind, correct_given, correct_weaker, correct_token_then, correct_token_given, shorter, Empties, Correct.{done, stops}}, Next.{NotNext}}

-- ---- types

type_by_correct : (inner : Reader tree.TypeExpr) (k : Terminal) (i : Leaf) (m : List Lexeme)
    → ((w : List Lexeme) → length w ≤ length m → Empties (AType ∷ []) IsType w (inner w))
    → Empties (AType ∷ []) IsType (tok k i ∷ m) (type_by inner k i (tok k i ∷ m) m)
unfolding run step
type_by_correct inner Name i m hi = done (tok Name i ∷ []) refl (named i) (λ s. refl)
type_by_correct inner (Binary op.Mul) i m hi =
    token_read (correct_token_given Name _ refl (λ j w. pointer i j)) (λ s. refl)
type_by_correct inner OpenBracket i m hi =
    token_read (correct_token_then CloseBracket refl
    (λ j w c. correct_given _ (hi w (omega (arith, ap length c))) (λ x t u h. slice i j h)))
    (λ s. refl)
type_by_correct inner Chan i m hi =
    token_read (correct_given _ (hi m (omega arith)) (λ x t u h. chan i h)) (λ s. refl)
type_by_correct inner _ i m hi = stops (λ s. refl)

pub type_correct : (n : ℕ) (l : List Lexeme) → length l < n
    → Empties (AType ∷ []) IsType l (a_type n l)
unfolding a_type run closes
type_correct zero l h = absurd (omega arith)
type_correct (suc n) [] h = stops (λ s. refl)
type_correct (suc n) (t ∷ l) h =
    type_by_correct (a_type n) t.terminal t.leaf l (λ w g. type_correct n w (omega arith))

-- ---- names and their type

names_append : (x y : List Lexeme) (j : Leaf) (ns ms : List Ident) → IsNames x ns → IsNames y ms
    → IsNames (x ++ tok Comma j ∷ y) (ns ++ ms)
names_append x y j ns ms (one i) g = more i j g
names_append x y j ns ms (more i k {x = x'} {ns = ns'} h) g =
    more i k (names_append x' y j ns' ms h g)

-- no `,` comes next
abbrev pub NoComma : List Lexeme → Type 0
NoComma = NotNext (is_same_terminal Comma)

-- the names after those of x
abbrev AreNames : List Lexeme → List Lexeme → List Ident → List Lexeme → Type 0
AreNames x z ns w = IsNames (x ++ z) ns × NoComma w

names_by_correct : (again : List Ident → Reader (List Ident)) (found : List Ident) (x : List Lexeme)
    (k : Terminal) (i : Leaf) (m : List Lexeme) → IsNames x found
    → ((ns : List Ident) (y w : List Lexeme) → length w < length m → IsNames y ns
    → Correct (NamesType ∷ []) (λ _. NamesType ∷ []) (AreNames y) w (again ns w))
    → Correct (NamesType ∷ [])
    (λ _. NamesType ∷ []) (AreNames x) (tok k i ∷ m) (names_by again found k (tok k i ∷ m) m)
unfolding run step
names_by_correct again found x Comma i m f hi =
    token_read (correct_token_then Name refl (λ j w c. correct_more j w c)) (λ s. refl)
  where
    correct_more : (j : Leaf) (w : List Lexeme) → m ≡ tok Name j ∷ w
        → Correct (NamesType ∷ []) (λ _. NamesType ∷ [])
        (λ z ns u. AreNames x (tok Comma i ∷ tok Name j ∷ z) ns u) w
        (again (found ++ ident j ∷ []) w)
    correct_more j w c =
        correct_weaker
        (hi (found ++ ident j ∷ []) (x ++ tok Comma i ∷ tok Name j ∷ []) w
        (omega (arith, ap length c))
        (names_append x (tok Name j ∷ []) i found (ident j ∷ []) f (one j)))
        (λ z ns u d g. let h = g.0 in (rw append_assoc at h, g.1))
names_by_correct again found x k i m f hi = done [] refl (rw append-nil f, refl) (λ s. refl)

names_correct : (n : ℕ) (found : List Ident) (x l : List Lexeme) → length l < n → IsNames x found
    → Correct (NamesType ∷ []) (λ _. NamesType ∷ []) (AreNames x) l (names n found l)
unfolding names
names_correct zero found x l h f = absurd (omega arith)
names_correct (suc n) found x [] h f = done [] refl (rw append-nil f, tt) (λ s. refl)
names_correct (suc n) found x (t ∷ l) h f =
    names_by_correct (names n) found x t.terminal t.leaf l f
    (λ ns y w g e. names_correct n ns y w (omega arith) e)

-- the last name is followed by a type
names_end : (w : List Lexeme) (s : List Sym) → NoComma w → run w (NamesType ∷ s) ≡ run w (AType ∷ s)
unfolding run closes
names_end [] s h = refl
names_end (t ∷ w) s h = alike NamesType AType t w s (rw h refl) refl

-- after names x, their type
typed_from : (n : ℕ) (found : List Ident) (x l : List Lexeme) → length l < n → IsNames x found
    → Empties (NamesType ∷ []) (λ z b. IsBinding (x ++ z) b) l (typed_names n found l)
typed_from n found x l h f =
    correct_bind (names_correct n found x l h f)
    (λ z ns w c g. same_start
    (correct_given _ (type_correct n w (omega (arith, shorter l z w c)))
    (λ y t u d. rw (← append_assoc) (of_names g.0 d))) (λ s. names_end w s g.1))

pub typed_names_correct : (n : ℕ) (l : List Lexeme) → length l < n → (i : Leaf)
    → Empties (NamesType ∷ [])
    (λ z b. IsBinding (tok Name i ∷ z) b) l (typed_names n (ident i ∷ []) l)
typed_names_correct n l h i = typed_from n (ident i ∷ []) (tok Name i ∷ []) l h (one i)

pub binding_correct : (n : ℕ) (l : List Lexeme) → length l < n
    → Empties (T Name ∷ NamesType ∷ []) IsBinding l (a_binding n l)
binding_correct n l h =
    correct_token_then Name refl (λ i w c. typed_names_correct n w (omega (arith, ap length c)) i)

-- a list of bindings, by its symbols
pub bindings_correct : {separator closer : Terminal} {L E : Sym}
    → ListSyms separator closer ((Name, NamesType ∷ E ∷ []) ∷ []) L E → (n : ℕ) (l : List Lexeme)
    → length l < n
    → Empties (L ∷ [])
    (λ z x. Listed IsBinding separator closer z x.0) l (bindings separator closer n l)
bindings_correct syms n l h =
    token_list (a_binding n) (length l)
    (λ m b. binding_correct n m (omega (arith, b, h))) syms n l h (omega arith)
