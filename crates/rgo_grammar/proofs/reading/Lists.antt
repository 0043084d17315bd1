-- Reading lists and groups is correct if reading an item is. The rows of a list's symbols are a premise, so all lists of the grammar
-- share these proofs.
use Rattle.std.proofs.Common.{◌≡◌, ℕ, zero, suc, ◌+◌, ◌<◌, ◌≤◌, ◌⊎◌, inl, inr, Bool, true, false, cond, List, [], ◌∷◌, ◌++◌, length, refl, sym, ◌∙◌, append_assoc, arith, append-nil}
use Rattle.rgo_lexer.specs.{declared.terminals.Terminal.{Terminal, TheVariants.{OpenParen, CloseParen, Semicolon}}, Lexemes.{Leaf, Lexeme, tok, is_same_terminal, is_plain_terminal}}
use Rattle.rgo_grammar.specs.Grammar.{Listed, Listed.{none, last, more}}
use Rattle.rgo_grammar.specs.reading.{Read.{Reader, Done, Failed, At, ◌>>=◌, list_rest, listed, single, several}, Declarations.{group_by, group}}
use Rattle.rgo_grammar.proofs.machine.{Table.{Sym, T, Row, row, nullable, closer}, Starts.{takes, refuses, stays, one_start}}
use Rattle.rgo_grammar.proofs.reading.Correct.{Correct, token_read, same_start, correct_bind, correct_given, correct_weaker, correct_under, same_plain, shorter, Empties, Correct.{done, stops}}

-- a list's symbol and the one after an item of it, by their rows
pub record ListSyms (separator closer : Terminal) (items : Row) (L E : Sym) : Type 0 where
  pub plain_separator : is_plain_terminal separator ≡ true
  pub plain_closer : is_plain_terminal closer ≡ true
  pub list_row : row L ≡ (closer, []) ∷ items
  pub list_stays : nullable L ≡ false
  pub end_row : row E ≡ (closer, []) ∷ (separator, L ∷ []) ∷ []
  pub end_stays : nullable E ≡ false

pub list_syms : {separator closer : Terminal} {items : Row} {L E : Sym} → is_plain_terminal separator ≡ true
    → is_plain_terminal closer ≡ true → row L ≡ (closer, []) ∷ items → nullable L ≡ false
    → row E ≡ (closer, []) ∷ (separator, L ∷ []) ∷ [] → nullable E ≡ false
    → ListSyms separator closer items L E
list_syms p q r n e m =
    record {
      plain_separator = p;
      plain_closer = q;
      list_row = r;
      list_stays = n;
      end_row = e;
      end_stays = m;
    }

module _ {A : Type 0} {separator closer : Terminal} {items : Row} {L E : Sym}
    (syms : ListSyms separator closer items L E)
    (item : Reader (List A)) (I : List Lexeme → List A → Type 0)
    (R : List Lexeme → List A → Leaf → Type 0)
    (bound : ℕ)
    (item_c : (t : Lexeme) (l : List Lexeme) → length l < bound → is_same_terminal closer t.terminal ≡ false
    → Correct (L ∷ []) (λ _. E ∷ []) (λ z a w. I z a) (t ∷ l) (item (t ∷ l)))
    (r_none : (j : Leaf) → R (tok closer j ∷ []) [] j)
    (r_last : (z : List Lexeme) (a : List A) (j : Leaf) → I z a → R (z ++ tok closer j ∷ []) a j)
    (r_more : (z : List Lexeme) (a : List A) (i : Leaf) (y : List Lexeme) (b : List A)
    (j : Leaf) → I z a → R y b j
    → R (z ++ tok separator i ∷ y) (a ++ b) j) where
  -- what was found after `found`, up to what closes the list
  abbrev pub AreListed : List A → List Lexeme → List A × Leaf → List Lexeme → Type 0
  AreListed found z x w = (new : List A) × (x.0 ≡ found ++ new) × R z new x.1

  ended_by : (again : List A → Reader (List A × Leaf)) (found new : List A) (l z : List Lexeme)
      (k : Terminal) (i : Leaf) (w : List Lexeme) (c s : Bool) → is_same_terminal closer k ≡ c
      → is_same_terminal separator k ≡ s → l ≡ z ++ tok k i ∷ w → I z new
      → ((f : List A) → is_same_terminal separator k ≡ true
      → Correct (L ∷ []) (λ _. []) (AreListed f) w (again f w))
      → Correct (E ∷ []) (λ _. [])
      (λ x b u. AreListed found (z ++ x) b u) (tok k i ∷ w)
      (cond c (Done (found ++ new, i) w)
      (cond s (again (found ++ new) w) (Failed (At (tok k i ∷ w)))))
  ended_by again found new l z k i w true s ce se e h ih =
      let is : k ≡ closer = same_plain closer k syms.plain_closer ce in
      done (tok k i ∷ []) refl (new, refl, rw is (r_last z new i h))
      (λ v. takes E k [] i w v (rw (syms.end_row, ce) refl))
  ended_by again found new l z k i w false true ce se e h ih =
      let is : k ≡ separator = same_plain separator k syms.plain_separator se in
      token_read (correct_weaker (ih (found ++ new) se)
      (λ x b u d g.
      (new ++ g.0, g.1 ∙ append_assoc found new g.0, rw is (r_more z new i x g.0 b.1 h g.2))))
      (λ v. takes E k (L ∷ []) i w v (rw (syms.end_row, ce, se) refl))
  ended_by again found new l z k i w false false ce se e h ih =
      stops (λ v. refuses E (tok k i) w v (rw (syms.end_row, ce, se) refl) syms.end_stays)

  -- after an item
  pub ended_correct : (again : List A → Reader (List A × Leaf)) (found new : List A)
      (l z w : List Lexeme) → l ≡ z ++ w → I z new
      → ((f : List A) (m : List Lexeme) → length m < length w
      → Correct (L ∷ []) (λ _. []) (AreListed f) m (again f m))
      → Correct (E ∷ []) (λ _. [])
      (λ x b u. AreListed found (z ++ x) b u) w (list_rest separator closer again (found ++ new) w)
  ended_correct again found new l z [] e h ih = stops (λ v. stays E v syms.end_stays)
  ended_correct again found new l z (t ∷ w) e h ih =
      ended_by again found new l z t.terminal t.leaf w (is_same_terminal closer t.terminal)
      (is_same_terminal separator t.terminal) refl refl e h (λ f _. ih f w (omega arith))

  listed_by : (again : List A → Reader (List A × Leaf)) (found : List A) (k : Terminal) (i : Leaf)
      (l : List Lexeme) (c : Bool) → length l < bound → is_same_terminal closer k ≡ c
      → ((f : List A) (m : List Lexeme) → length m < length l + 1
      → Correct (L ∷ []) (λ _. []) (AreListed f) m (again f m))
      → Correct (L ∷ [])
      (λ _. []) (AreListed found) (tok k i ∷ l)
      (cond c (Done (found, i) l)
      (item (tok k i ∷ l) >>= λ a. list_rest separator closer again (found ++ a)))
  listed_by again found k i l true b ce ih =
      let is : k ≡ closer = same_plain closer k syms.plain_closer ce in
      done (tok k i ∷ []) refl ([], sym (append-nil found), rw is (r_none i))
      (λ v. takes L k [] i l v (rw (syms.list_row, ce) refl))
  listed_by again found k i l false b ce ih =
      correct_bind (item_c (tok k i) l b ce)
      (λ z a w e h. ended_correct again found a (tok k i ∷ l) z w e h
      (λ f m g. ih f m (omega (arith, shorter (tok k i ∷ l) z w e))))

  pub listed_correct : (n : ℕ) (found : List A) (l : List Lexeme) → length l < n → length l ≤ bound
      → Correct (L ∷ []) (λ _. []) (AreListed found) l (listed separator closer item n found l)
  unfolding listed
  listed_correct zero found l h b = absurd (omega arith)
  listed_correct (suc n) found [] h b = stops (λ v. stays L v syms.list_stays)
  listed_correct (suc n) found (t ∷ l) h b =
      listed_by (listed separator closer item n) found t.terminal t.leaf l (is_same_terminal closer t.terminal)
      (omega arith) refl (λ f m g. listed_correct n f m (omega arith) (omega arith))

-- ---- items one by one

abbrev IsOne : {A : Type 0} → (List Lexeme → A → Type 0) → List Lexeme → List A → Type 0
IsOne {A} Item z l = (a : A) × (l ≡ a ∷ []) × Item z a

list_last : {A : Type 0} {Item : List Lexeme → A → Type 0} {separator closer : Terminal}
    (z : List Lexeme) (l : List A) (j : Leaf) → IsOne Item z l
    → Listed Item separator closer (z ++ tok closer j ∷ []) l
list_last z l j (a, e, h) = rw e (last j h)

list_more : {A : Type 0} {Item : List Lexeme → A → Type 0} {separator closer : Terminal}
    (z : List Lexeme) (l : List A) (i : Leaf) (y : List Lexeme) (m : List A) → IsOne Item z l
    → Listed Item separator closer y m
    → Listed Item separator closer (z ++ tok separator i ∷ y) (l ++ m)
list_more z l i y m (a, e, h) g = rw e (more i h g)

pub list_correct : {A : Type 0} {separator closer : Terminal} {items : Row} {L E : Sym}
    {Item : List Lexeme → A → Type 0} (item : Reader A) (bound : ℕ)
    → ListSyms separator closer items L E
    → ((t : Lexeme) (l : List Lexeme) → length l < bound → is_same_terminal closer t.terminal ≡ false
    → Correct (L ∷ []) (λ _. E ∷ []) (λ z a w. Item z a) (t ∷ l) (item (t ∷ l)))
    → (n : ℕ) (l : List Lexeme) → length l < n → length l ≤ bound
    → Empties (L ∷ [])
    (λ z x. Listed Item separator closer z x.0) l (several separator closer item n [] l)
unfolding several
list_correct {separator = separator} {closer = closer} {Item = Item} item bound syms hi n l h b =
    correct_weaker
    (listed_correct syms (λ m. single (item m)) (IsOne Item)
    (λ z a j. Listed Item separator closer z a) bound
    (λ t m g e. correct_given _ (hi t m g e) (λ z a w d. (a, refl, d))) (λ j. none j) list_last
    (λ z a i y m j f g. list_more z a i y m f g) n [] l h b) (λ z x w c g. rw g.1 g.2)

-- each item of which begins with one kind of token
pub token_list : {A : Type 0} {separator closer k : Terminal} {a : List Sym} {L E : Sym}
    {Item : List Lexeme → A → Type 0} (item : Reader A) (bound : ℕ)
    → ((l : List Lexeme) → length l ≤ bound → Empties (T k ∷ a) Item l (item l))
    → ListSyms separator closer ((k, a ++ E ∷ []) ∷ []) L E → (n : ℕ) (l : List Lexeme)
    → length l < n → length l ≤ bound
    → Empties (L ∷ [])
    (λ z x. Listed Item separator closer z x.0) l (several separator closer item n [] l)
token_list {k = k} {a = a} {L = L} {E = E} item bound hi syms n l h b =
    list_correct item bound syms
    (λ t m g e. same_start (correct_under (E ∷ []) (hi (t ∷ m) (omega arith)))
    (λ s. one_start L k (a ++ E ∷ []) t m s (rw (syms.list_row, e) refl) syms.list_stays)) n l h b

-- ---- one item, or a group of them in parentheses

abbrev pub IsGroup : {A : Type 0} → (List Lexeme → A → Type 0) → List Lexeme → List A → Type 0
IsGroup Item z l =
    IsOne Item z l
    ⊎ ((j : Leaf) × (y : List Lexeme) × (z ≡ tok OpenParen j ∷ y) × Listed Item
    Semicolon CloseParen y l)

module _ {A : Type 0} {k : Terminal} {a : List Sym} {G L E : Sym} {Item : List Lexeme → A → Type 0}
    (item : Reader A) (bound : ℕ)
    (item_c : (l : List Lexeme) → length l ≤ bound → Empties (T k ∷ a) Item l (item l))
    (syms : ListSyms Semicolon CloseParen ((k, a ++ E ∷ []) ∷ []) L E)
    (group_row : row G ≡ (OpenParen, L ∷ []) ∷ (k, a) ∷ []) (group_stays : nullable G ≡ false) where
  group_by_correct : (n : ℕ) (j : Terminal) (i : Leaf) (m : List Lexeme) → length m < n
      → length m < bound
      → Empties (G ∷ []) (IsGroup Item) (tok j i ∷ m) (group_by item n j (tok j i ∷ m) m)
  group_by_correct n OpenParen i m h b =
      token_read (correct_given _ (token_list item bound item_c syms n m h (omega arith))
      (λ z x w d. inr (i, z, refl, d))) (λ s. takes G OpenParen (L ∷ []) i m s (rw group_row refl))
  group_by_correct n j i m h b =
      same_start (correct_given _ (item_c (tok j i ∷ m) (omega arith))
      (λ z v w d. inl (v, refl, d)))
      (λ s. one_start G k a (tok j i) m s (rw group_row refl) group_stays)

  pub group_correct : (n : ℕ) (l : List Lexeme) → length l ≤ n → length l ≤ bound
      → Empties (G ∷ []) (IsGroup Item) l (group item n l)
  group_correct n [] h b = stops (λ s. stays G s group_stays)
  group_correct n (t ∷ l) h b = group_by_correct n t.terminal t.leaf l (omega arith) (omega arith)
