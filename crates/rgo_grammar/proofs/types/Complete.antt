-- Names and types of the grammar are read as such.
use Rattle.std.proofs.Common.{◌≡◌, ℕ, zero, suc, inl, inr, false, List, [], ◌∷◌, ◌++◌, refl, append_assoc}
use Rattle.rgo_ast.specs.declared.names.Ident.{Ident}
use Rattle.rgo_ast.specs.Tree.{Binding}
use Rattle.rgo_ast.specs.Tree as tree
use Rattle.rgo_lexer.specs.{declared.terminals.Terminal.{Terminal, TheVariants.{Name, Comma}}, Lexemes.{Leaf, Lexeme, tok, ident, is_same_terminal}}
use Rattle.rgo_grammar.specs.Grammar.{IsNames, IsType, IsBinding, Listed, IsNames.{one, more}, IsType.{named, pointer, slice, chan}, IsBinding.{binding as of_names}}
use Rattle.rgo_grammar.specs.reading.{Read.{Done, ◌>>=◌, yielding, token}, Types.{a_type, names_by, names, binding_with, a_binding, bindings}}
use Rattle.rgo_grammar.proofs.reading.Complete.{Meets, meets_bind, meets_then, bind_assoc, Opens, listed_complete}
use Rattle.rgo_grammar.proofs.types.Correct.{NoComma}

pub type_complete : (x : List Lexeme) (t : tree.TypeExpr) → IsType x t → (n : ℕ) (l : List Lexeme)
    → Meets (a_type n (x ++ l)) (Done t l)
unfolding a_type
type_complete x t h zero l = inl refl
type_complete _ _ (named i) (suc n) l = inr refl
type_complete _ _ (pointer i j) (suc n) l = inr refl
type_complete _ _ (slice i j {x} {t} h) (suc n) l = meets_bind _ (type_complete x t h n l)
type_complete _ _ (chan i {x} {t} h) (suc n) l = meets_bind _ (type_complete x t h n l)

names_end : (n : ℕ) (found : List Ident) (l : List Lexeme) → NoComma l
    → Meets (names n found l) (Done found l)
unfolding names
names_end zero found l h = inl refl
names_end (suc n) found [] h = inr refl
names_end (suc n) found (t ∷ l) h = inr (by_terminal t.terminal t.leaf h) where
  by_terminal : (k : Terminal) (i : Leaf) → is_same_terminal Comma k ≡ false
      → names_by (names n) found k (tok k i ∷ l) l ≡ Done found (tok k i ∷ l)
  by_terminal Comma i g = cc
  by_terminal _ i g = refl

names_complete : {x : List Lexeme} {ns : List Ident} → IsNames x ns
    → (n : ℕ) (found : List Ident) (l : List Lexeme) → NoComma l
    → Meets (token Name (x ++ l) >>= λ i. names n (found ++ ident i ∷ [])) (Done (found ++ ns) l)
unfolding names
names_complete (one i) n found l h = names_end n (found ++ ident i ∷ []) l h
names_complete (more i j {x} {ns} g) zero found l h = inl refl
names_complete (more i j {x} {ns} g) (suc n) found l h =
    let d = names_complete g n (found ++ ident i ∷ []) l
    h in rw (append_assoc found (ident i ∷ []) ns) at d

type_starts : (x : List Lexeme) (t : tree.TypeExpr) (l : List Lexeme)
    → IsType x t → NoComma (x ++ l)
type_starts _ _ l (named i) = refl
type_starts _ _ l (pointer i j) = refl
type_starts _ _ l (slice i j h) = refl
type_starts _ _ l (chan i h) = refl

pub binding_complete : (x : List Lexeme) (b : Binding) → IsBinding x b → (n : ℕ) (l : List Lexeme)
    → Meets (a_binding n (x ++ l)) (Done b l)
binding_complete _ _ (of_names {x} {y} {ns} {t} h g) n l =
    rw (
      append_assoc,
      ← bind_assoc (token Name (x ++ (y ++ l))) (λ i. names n (ident i ∷ []))
          (λ ms w. a_type n w >>= yielding (binding_with ms)),
    ) (meets_then _ (names_complete h n [] (y ++ l) (type_starts y t l g))
    (meets_bind _ (type_complete y t g n l)))

-- a binding begins with a name
pub binding_opens : (closer : Terminal) → is_same_terminal closer Name ≡ false → (x : List Lexeme) (b : Binding)
    → IsBinding x b → Opens closer x
binding_opens closer e _ _ (of_names (one i) g) = rw e refl
binding_opens closer e _ _ (of_names (more i j h) g) = rw e refl

pub bindings_complete : (separator closer : Terminal) → is_same_terminal closer separator ≡ false
    → is_same_terminal closer Name ≡ false → {y : List Lexeme} {bs : List Binding}
    → Listed IsBinding separator closer y bs → (n : ℕ) (l : List Lexeme)
    → (j : Leaf) × Meets (bindings separator closer n (y ++ l)) (Done (bs, j) l)
bindings_complete separator closer other name d n l =
    listed_complete separator closer other IsBinding (a_binding n) (binding_opens closer name)
    (λ x b h k j m s. binding_complete x b h n (tok k j ∷ m)) d n [] l
