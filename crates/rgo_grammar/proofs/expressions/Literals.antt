-- Reading literals and their elements is correct if reading expressions in brackets is.
use Rattle.std.proofs.Common.{◌≡◌, ℕ, suc, ◌+◌, ◌<◌, ◌≤◌, true, false, cond, List, [], ◌∷◌, ◌++◌, length, refl, sym, ◌∙◌, ap, arith}
use Rattle.rgo_ast.specs.declared.names.Ident.{Ident}
use Rattle.rgo_ast.specs.Tree.{elements_of}
use Rattle.rgo_ast.specs.Tree as tree
use Rattle.rgo_lexer.specs.{declared.terminals.Terminal.{Terminal, TheVariants.{Name, Ampersand, OpenBrace, CloseBrace, Comma, Colon}}, Lexemes.{Leaf, Lexeme, tok, ident, is_same_terminal}}
use Rattle.rgo_grammar.specs.Grammar.{Listed, IsExpr, IsUnary, IsElements, Listed.{none as none_item, last as last_item, more as next_item}, IsUnary.{literal, keyed as with_keys}, IsElements.{no_element, last_element, more_elements}}
use Rattle.rgo_grammar.specs.reading.{Read.{Reader, ◌>>=◌, yielding, list_rest, listed, single, several}, Expressions.{keyed_element, elements_from, is_keyed, keyed, unkeyed, elements, literal as read_literal}}
use Rattle.rgo_grammar.proofs.machine.{Table.{Sym, T, Unary, Bin, Elems, ElemsMore, KeyedMore, step, ElemsEnd, ElemsNamed, Post, then_all, bin_row, find, joined, next, post_row, row}, Runs.{run, closes}, Starts.{after_name, alike, name_ends}}
use Rattle.rgo_grammar.proofs.reading.{Correct.{same_start, correct_given, correct_weaker, correct_token_then, Empties}, Complete.{bind_assoc}, Lists.{list_syms, token_list}}
use Rattle.rgo_grammar.proofs.expressions.{Starts.{Reads}, Operands.{exprs_correct}}

-- ---- if no key comes first

after_elems_name : (l : List Lexeme) (s : List Sym) (i : Leaf) → is_keyed (tok Name i ∷ l) ≡ false
    → run l (ElemsNamed ∷ s) ≡ run l (Post ∷ Bin false ∷ ElemsEnd ∷ s)
after_elems_name [] s i e = name_ends false ElemsNamed ElemsEnd s refl
after_elems_name (t ∷ l) s i e =
    after_name false ElemsNamed ElemsEnd t l s refl (by_terminal t.terminal t.leaf e) where
      by_terminal : (k : Terminal) (j : Leaf) → is_keyed (tok Name i ∷ tok k j ∷ l) ≡ false
          → next ElemsNamed k ≡ find k
          (joined (then_all post_row (Bin false ∷ ElemsEnd ∷ []))
          (joined (then_all (bin_row false) (ElemsEnd ∷ [])) (row ElemsEnd)))
      by_terminal Colon j e = cc
      by_terminal _ j e = refl

unkeyed_first : (k : Terminal) (i : Leaf) (l : List Lexeme) (s : List Sym)
    → is_keyed (tok k i ∷ l) ≡ false
    → run (tok k i ∷ l) (Elems ∷ s) ≡ run (tok k i ∷ l) (ElemsMore ∷ s)
unfolding run step
unkeyed_first Name i l s e = after_elems_name l s i e
unkeyed_first k i l s e = alike Elems ElemsMore (tok k i) l s refl refl

unkeyed_run : (l : List Lexeme) (s : List Sym) → is_keyed l ≡ false
    → run l (Elems ∷ s) ≡ run l (ElemsMore ∷ s)
unfolding run closes
unkeyed_run [] s e = refl
unkeyed_run (t ∷ l) s e = unkeyed_first t.terminal t.leaf l s e

-- ---- elements with keys

abbrev pub IsElement : List Lexeme → Ident × tree.Expr → Type 0
IsElement z e =
    (i c : Leaf) × (x : List Lexeme) × (z ≡ tok Name i ∷ tok Colon c ∷ x)
    × (e.0 ≡ ident i) × IsExpr false 1 x e.1

elements_listed : {z : List Lexeme} {es : List (Ident × tree.Expr)}
    → Listed IsElement Comma CloseBrace z es → IsElements z es
elements_listed (none_item j) = no_element j
elements_listed (last_item j {x} {a} (i, c, y, p, q, h)) = rw (p, q) (last_element i c j h)
elements_listed (next_item j {x} {y} {a} {all} (i, c, x', p, q, h) d) =
    rw (p, q) (more_elements i c j h (elements_listed d))

abbrev NotEmpty : List (Ident × tree.Expr) → Type 0
NotEmpty es = (f : Ident × tree.Expr) × (fs : List (Ident × tree.Expr)) × (es ≡ f ∷ fs)

some_elements : {z : List Lexeme} {es : List (Ident × tree.Expr)} → IsElements z es
    → (t : Lexeme) (m w : List Lexeme) → t.terminal ≡ Name → t ∷ m ≡ z ++ w → NotEmpty es
some_elements (no_element j) t m w h e = cc
some_elements (last_element k c j {x} {v} g) t m w h e = ((ident k, v), [], refl)
some_elements (more_elements k c j {x} {y} {v} {vs} g d) t m w h e = ((ident k, v), vs, refl)

keyed_rest : (i j k : Leaf) (z : List Lexeme) (es : List (Ident × tree.Expr)) → IsElements z es
    → NotEmpty es
    → IsUnary false (tok Ampersand i ∷ tok Name j ∷ tok OpenBrace k ∷ z)
    (tree.Keyed (ident j) (elements_of es) i.at)
keyed_rest i j k z es d (f, fs, e) = rw e (with_keys i j k (rw e at d))

keyed_second : (k : Terminal) (i j : Leaf) (l : List Lexeme)
    → is_keyed (tok Name i ∷ tok k j ∷ l) ≡ true → k ≡ Colon
keyed_second Colon i j l e = refl
keyed_second _ i j l e = cc

abbrev HasKey : List Lexeme → Type 0
HasKey l = (i c : Leaf) × (m : List Lexeme) × (l ≡ tok Name i ∷ tok Colon c ∷ m)

keyed_named : (i : Leaf) (l : List Lexeme) → is_keyed (tok Name i ∷ l) ≡ true
    → HasKey (tok Name i ∷ l)
keyed_named i [] e = cc
keyed_named i (t ∷ l) e =
    let k : t.terminal ≡ Colon = keyed_second t.terminal i t.leaf l
    e in (i, t.leaf, l, rw (← k) refl)

keyed_first : (k : Terminal) (i : Leaf) (l : List Lexeme)
    → is_keyed (tok k i ∷ l) ≡ true → HasKey (tok k i ∷ l)
keyed_first Name i l e = keyed_named i l e
keyed_first _ i l e = cc

has_key : (l : List Lexeme) → is_keyed l ≡ true → HasKey l
has_key [] e = cc
has_key (t ∷ l) e = keyed_first t.terminal t.leaf l e

key_run : (i c : Leaf) (m : List Lexeme) (s : List Sym)
    → run (tok Name i ∷ tok Colon c ∷ m) (Elems ∷ s) ≡ run
    (tok Name i ∷ tok Colon c ∷ m) (KeyedMore ∷ s)
unfolding run step
key_run i c m s = refl

-- what is read after `& name {` with keys is a list of elements
pub keyed_list : (n : ℕ) (inner : Reader tree.Expr) (i j : Leaf) (t : Lexeme) (l : List Lexeme)
    → is_same_terminal CloseBrace t.terminal ≡ false
    → keyed n inner i j (t ∷ l)
    ≡ (elements_from (suc n) inner [] (t ∷ l) >>= yielding
    (λ x. tree.Keyed (ident j) (elements_of x.0) i.at))
unfolding listed several
keyed_list n inner i j t l e =
    rw e
    (sym (bind_assoc (single (keyed_element inner (t ∷ l)))
    (λ a. list_rest Comma CloseBrace (elements_from n inner) a)
    (yielding (λ x. tree.Keyed (ident j) (elements_of x.0) i.at)) ∙ bind_assoc (keyed_element inner (t ∷ l))
    (yielding (λ a. a ∷ []))
    (λ a w. list_rest Comma CloseBrace (elements_from n inner) a w >>= yielding
    (λ x. tree.Keyed (ident j) (elements_of x.0) i.at))))

module _ (bound : ℕ) (inner : Reader tree.Expr)
    (inner_c : (m : List Lexeme) → length m ≤ bound → Reads inner m) where
  element_correct : (l : List Lexeme) → length l ≤ bound
      → Empties (T Name ∷ T Colon ∷ Unary false ∷ Bin false ∷ []) IsElement l (keyed_element inner l)
  element_correct l b =
      correct_token_then Name refl
      (λ i w d. correct_token_then Colon refl
      (λ c u d'. correct_given _ (inner_c u (omega (arith, ap length d, ap length d')))
      (λ z v w h. (i, c, z, refl, refl, h))))

  -- after `& name {`
  abbrev IsRest : Leaf → Leaf → Leaf → List Lexeme → tree.Expr → Type 0
  IsRest i j k z v = IsUnary false (tok Ampersand i ∷ tok Name j ∷ tok OpenBrace k ∷ z) v

  keyed_correct : (n : ℕ) (i j k : Leaf) (l : List Lexeme) → length l < n → length l ≤ bound
      → is_keyed l ≡ true → Empties (Elems ∷ []) (IsRest i j k) l (keyed n inner i j l)
  unfolding several
  keyed_correct n i j k l h b e =
      let (a, c, m, p) = has_key l e in
      rw p (with_key a c m (omega (arith, ap length p)) (omega (arith, ap length p)))
    where
      with_key : (a c : Leaf) (m : List Lexeme) → length m + 2 < n → length m + 2 ≤ bound
          → Empties (Elems ∷ []) (IsRest i j k) (tok Name a ∷ tok Colon c ∷ m)
          (keyed n inner i j (tok Name a ∷ tok Colon c ∷ m))
      with_key a c m g b' =
          rw (keyed_list n inner i j (tok Name a) (tok Colon c ∷ m) refl)
          (correct_given {P = λ z x w. IsElements z x.0 × NotEmpty x.0} _
          (correct_weaker
          (same_start (token_list {L = KeyedMore} (keyed_element inner) bound element_correct
          (list_syms refl refl refl refl refl refl) (suc n) (tok Name a ∷ tok Colon c ∷ m)
          (omega arith) (omega arith))
          (λ s. key_run a c m s))
          (λ z x w p d. let d' = elements_listed
          d in (d', some_elements d' (tok Name a) (tok Colon c ∷ m) w refl p)))
          (λ z x w d. keyed_rest i j k z x.0 d.0 d.1))

  unkeyed_correct : (n : ℕ) (i j k : Leaf) (l : List Lexeme) → length l < n → length l ≤ bound
      → is_keyed l ≡ false → Empties (Elems ∷ []) (IsRest i j k) l (unkeyed n inner i j l)
  unkeyed_correct n i j k l h b e =
      same_start (correct_given _
      (exprs_correct bound inner inner_c (list_syms refl refl refl refl refl refl) n l h b)
      (λ z x w d. literal i j k d)) (λ s. unkeyed_run l s e)

  elements_correct : (n : ℕ) (i j k : Leaf) (l : List Lexeme) → length l < n → length l ≤ bound
      → Empties (Elems ∷ []) (IsRest i j k) l (elements n inner i j l)
  elements_correct n i j k l h b =
      elim (is_keyed l) as
      (λ v. is_keyed l ≡ v
      → Empties (Elems ∷ []) (IsRest i j k) l
      (cond v (keyed n inner i j l) (unkeyed n inner i j l)))
      [ true ↦ λ e. keyed_correct n i j k l h b e | false ↦ λ e. unkeyed_correct n i j k l h b e ]
      refl

  pub literal_correct : (n : ℕ) (i : Leaf) (l : List Lexeme) → length l < n → length l ≤ bound
      → Empties (T Name ∷ T OpenBrace ∷ Elems ∷ [])
      (λ z v. IsUnary false (tok Ampersand i ∷ z) v) l (read_literal n inner i l)
  literal_correct n i l h b =
      correct_token_then Name refl
      (λ j w c. correct_token_then OpenBrace refl
      (λ k u d. elements_correct n i j k u (omega (arith, ap length c, ap length d))
      (omega (arith, ap length c, ap length d))))
