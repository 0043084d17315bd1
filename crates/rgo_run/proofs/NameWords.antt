-- The word of a name token is a name that a code text can have: letters, digits and underscores, and not a keyword. So `emit` prints
-- the names of a program as they are, and what it prints can be read back.
use Rattle.std.proofs.Common.{◌≡◌, ⊎_elim, ℕ, zero, suc, ◌+◌, Bool, true, false, cond, List, [], ◌∷◌, ◌++◌, length, map, take, drop, Option, Some, None, refl, sym, ap, ◌∙◌, arith}
use Rattle.std.specs.Prelude.{not, ◌||◌, ◌==◌, nat_eq, bytes_eq, if◌then◌else◌, codes}
use Rattle.std.specs.List.{list_all, prefix_len, All, AllByRecursion}
use Rattle.std.proofs.lemmas.Bool.{and_parts, and_from, or_parts, or_from, false≢true, false_from_ne_true, not_from_false, eqb-true}
use Rattle.std.proofs.lemmas.List.{take_all}
use Rattle.std.proofs.lemmas.List.Elements.{All-head, All-tail, All-contains, All-from_recursion}
use Rattle.std.proofs.lemmas.Slice.Eq.{bytes_eq-Decides}
use Rattle.rgo_lexer.specs.Bytes as bytes
use Rattle.rgo_lexer.specs.Comments.{begins_comment, comment_at}
use Rattle.rgo_lexer.specs.Front.{front_of}
use Rattle.rgo_lexer.specs.Lexemes.{Lexeme, class}
use Rattle.rgo_lexer.specs.Lexing.{LexesAs, IsLexemeOf, IsSpelled, terminal_at_width, terminal_of}
use Rattle.rgo_lexer.specs.Numbers.{number_at, number_front, literal_value}
use Rattle.rgo_lexer.specs.Operators.{operator_at, operators}
use Rattle.rgo_lexer.specs.Strings.{string_at, string_before, items_len}
use Rattle.rgo_lexer.specs.Words.{word_at_front, word_terminal, words, looked_up, run_of}
use Rattle.rgo_lexer.specs.declared.front.Front.{Front}
use Rattle.rgo_lexer.specs.declared.front.Front.TheVariants.{End, Blank, Newline, Piece, Refused}
use Rattle.rgo_lexer.specs.declared.terminals.Terminal.{Terminal}
use Rattle.rgo_lexer.specs.declared.terminals.Terminal.TheVariants.{Name, Main, Semicolon, Text}
use Rattle.rgo_lexer.specs.declared.refusals.LexicalKind.TheVariants.{OpenString, BadEscape}
use Rattle.rgo_lexer.proofs.CommentForms.{comment_no_piece}
use Rattle.rgo_lexer.proofs.OperatorForms.{operator_longest}
use Rattle.rgo_lexer.proofs.Placing.{of_text}
use Rattle.rgo_code_words.specs.Worded.{is_name, is_word, is_code_word_byte, is_code_letter, is_among, keywords}

abbrev pub IsName : List ℕ → Type 0
IsName word = is_name word ≡ true

-- ---- tables without names

is_none : (t : Terminal) → not (nat_eq (class t) 0) ≡ true → t ≡ Name → ⊥
is_none t h e = false≢true (ap (λ (t : Terminal). not (nat_eq (class t) 0)) (sym e) ∙ h)

none_among : (table : List (List ℕ × Terminal)) → list_all (λ e. not (nat_eq (class e.1) 0)) table ≡ true
    → AllByRecursion (λ e. e.1 ≡ Name → ⊥) table
none_among [] h = tt
none_among (e ∷ table) h =
    let parts = and_parts (not (nat_eq (class e.1) 0)) (list_all (λ e. not (nat_eq (class e.1) 0)) table) h in
    (is_none e.1 parts.0, none_among table parts.1)

-- a word that is looked up as a name is not in such a table
unlisted : (table : List (List ℕ × Terminal)) (word : List ℕ) → AllByRecursion (λ e. e.1 ≡ Name → ⊥) table
    → looked_up table Name word ≡ Name → is_among (map (λ e. e.0) table) word ≡ false
unlisted [] word none h = refl
unlisted (e ∷ table) word none h = go (unlisted table word none.1) (bytes_eq word e.0) refl h
  where
    other : (b : Bool) → bytes_eq word e.0 ≡ b → b ≡ false → bytes_eq e.0 word ≡ false
    other b is not_so = false_from_ne_true (bytes_eq e.0 word) (λ same.
        false≢true (sym not_so ∙ (sym is ∙ (bytes_eq-Decides word e.0).1 (sym ((bytes_eq-Decides e.0 word).0 same)))))

    go : (looked_up table Name word ≡ Name → is_among (map (λ e. e.0) table) word ≡ false) → (b : Bool)
        → bytes_eq word e.0 ≡ b → (if b then e.1 else looked_up table Name word) ≡ Name
        → is_among (map (λ e. e.0) (e ∷ table)) word ≡ false
    go rest true is k = absurd (none.0 k)
    go rest false is k =
        or_from (bytes_eq e.0 word) (is_among (map (λ e. e.0) table) word) (other false is refl) (rest k)

-- a word that is not among more names is not among these
not_more : (names more : List (List ℕ)) (word : List ℕ) → is_among (names ++ more) word ≡ false → is_among names word ≡ false
not_more [] more word h = refl
not_more (n ∷ names) more word h =
    let parts = or_parts (bytes_eq n word) (is_among (names ++ more) word) h in
    or_from (bytes_eq n word) (is_among names word) parts.0 (not_more names more word parts.1)

no_keyword : (word : List ℕ) → word_terminal word ≡ Name → is_among keywords word ≡ false
unfolding word_terminal
no_keyword word h =
    not_more keywords (codes "new" ∷ codes "make" ∷ []) word (unlisted words word (none_among words refl) h)

-- ---- words

-- if the longest front part that passes is the whole list, each byte passes
all_pass : (p : ℕ → Bool) (xs : List ℕ) → prefix_len p xs ≡ length xs → list_all p xs ≡ true
all_pass p [] h = refl
all_pass p (x ∷ xs) h = go (all_pass p xs) (p x) refl h
  where
    go : (prefix_len p xs ≡ length xs → list_all p xs ≡ true) → (b : Bool) → p x ≡ b
        → cond b (1 + prefix_len p xs) 0 ≡ length (x ∷ xs) → list_all p (x ∷ xs) ≡ true
    go rest true is k = and_from (p x) (list_all p xs) is (rest (omega (arith, k)))
    go rest false is k = absurd (omega (arith, k))

-- ---- which front is a name

some_name : (n : ℕ) (front : Front) → terminal_at_width n front ≡ Some Name → front ≡ Piece Name n
some_name n End h = cc
some_name n (Blank m) h = cc
some_name n (Newline m) h = cc
some_name n (Refused kind m) h = cc
some_name n (Piece t m) h = go (m == n) refl h
  where
    go : (b : Bool) → (m == n) ≡ b → (if b then Some t else None) ≡ Some Name → Piece t m ≡ Piece Name n
    go false is k = cc
    go true is k =
        let same : t ≡ Name = cc in
        let width : m ≡ n = eqb-true m n is in
        ap (λ x. Piece x m) same ∙ ap (Piece Name) width

-- among the forms, only a word can be a name
by_tests : (n : ℕ) (blank line letter digit quote comment : Bool) (word number string note operator : Front)
    → (number ≡ Piece Name n → ⊥) → (string ≡ Piece Name n → ⊥) → (note ≡ Piece Name n → ⊥)
    → (operator ≡ Piece Name n → ⊥)
    → cond blank (Blank 1)
    (cond line (Newline 1) (cond letter word (cond digit number (cond quote string (cond comment note operator)))))
    ≡ Piece Name n
    → (letter ≡ true) × (word ≡ Piece Name n)
by_tests n true line letter digit quote comment w m s c o a b d e h = cc
by_tests n false true letter digit quote comment w m s c o a b d e h = cc
by_tests n false false true digit quote comment w m s c o a b d e h = (refl, h)
by_tests n false false false true quote comment w m s c o a b d e h = absurd (a h)
by_tests n false false false false true comment w m s c o a b d e h = absurd (b h)
by_tests n false false false false false true w m s c o a b d e h = absurd (d h)
by_tests n false false false false false false w m s c o a b d e h = absurd (e h)

no_number : (text : List ℕ) (n : ℕ) → number_at text ≡ Piece Name n → ⊥
unfolding number_at
no_number text n h = go (literal_value (take (run_of text) text)) h
  where
    go : (o : Option ℕ) → number_front (run_of text) o ≡ Piece Name n → ⊥
    go None k = cc
    go (Some value) k = cc

-- by the tests of what follows the items
not_named : (n m : ℕ) (quote unclosed : Bool)
    → (if quote then Piece Text (m + 2) else (if unclosed then Refused OpenString 0 else Refused BadEscape (m + 1))) ≡ Piece Name n → ⊥
not_named n m true unclosed h = cc
not_named n m false true h = cc
not_named n m false false h = cc

string_before_none : (n m : ℕ) (rest : List ℕ) → string_before m rest ≡ Piece Name n → ⊥
string_before_none n m [] h = cc
string_before_none n m (b ∷ rest) h = not_named n m (b == 34) (b == 10 || length rest == 0) h

no_string : (text : List ℕ) (n : ℕ) → string_at text ≡ Piece Name n → ⊥
unfolding string_at
no_string text n h =
    let m = items_len (drop 1 text) in string_before_none n m (drop (m + 1) text) h

no_operator : (text : List ℕ) (n : ℕ) → operator_at text ≡ Piece Name n → ⊥
no_operator text n h =
    All-contains (λ e. e.1 ≡ Name → ⊥) operators (take n text, Name) (all_of operators (none_among operators refl))
    (operator_longest text Name n h).among refl
  where
    all_of : (table : List (List ℕ × Terminal)) → AllByRecursion (λ e. e.1 ≡ Name → ⊥) table
        → All (λ e. e.1 ≡ Name → ⊥) table
    all_of table h = All-from_recursion (λ e. e.1 ≡ Name → ⊥) table h

is_named : (word : List ℕ) → front_of word ≡ Piece Name (length word) → IsName word
unfolding front_of word_at_front is_name
is_named [] h = cc
is_named (b ∷ rest) h =
    let text = b ∷ rest in
    let found = by_tests (length text) (bytes.is_blank b) (b == 10) (bytes.is_letter b) (bytes.is_digit b) (b == 34)
    (begins_comment text) (word_at_front text) (number_at text) (string_at text) (comment_at text) (operator_at text)
    (no_number text (length text)) (no_string text (length text)) (comment_no_piece text Name (length text))
    (no_operator text (length text)) h in
    let run : run_of text ≡ length text = cc in
    let whole : take (run_of text) text ≡ text = take_all (run_of text) text (omega (arith, run)) in
    let terminal : word_terminal (take (run_of text) text) ≡ Name = cc in
    let pass = all_pass is_code_word_byte text run in
    and_from (is_word text) (not (is_among keywords text))
    (and_from (is_code_letter b) (list_all is_code_word_byte rest) found.0
    (and_parts (is_code_word_byte b) (list_all is_code_word_byte rest) pass).1)
    (not_from_false (is_among keywords text) (no_keyword text (ap word_terminal (sym whole) ∙ terminal)))

-- ---- lexemes

spelled : (text : List ℕ) (t : Lexeme) → IsLexemeOf text t → t.terminal ≡ Name → IsName t.leaf.word
unfolding terminal_of
spelled text t is e = go (length t.leaf.word) refl
  where
    name_is : (k : Terminal) → k ≡ Name → IsSpelled k t.leaf.word → IsName t.leaf.word
    name_is k e h =
        ⊎_elim (λ word. is_named t.leaf.word (some_name (length t.leaf.word) (front_of t.leaf.word) (word ∙ ap Some e)))
        (λ main. absurd (main_no (sym main.0 ∙ e))) h
      where
        main_no : Main ≡ Name → ⊥
        main_no e = cc

    go : (n : ℕ) → length t.leaf.word ≡ n → IsName t.leaf.word
    go zero n = absurd (semicolon_no (sym (is.inserted n) ∙ e))
      where
        semicolon_no : Semicolon ≡ Name → ⊥
        semicolon_no e = cc
    go (suc m) n = name_is t.terminal e (is.spelled (omega (arith, n)))

pub names_spelled : (text : List ℕ) (lexemes : List Lexeme) → LexesAs text lexemes
    → AllByRecursion (λ t. t.terminal ≡ Name → IsName t.leaf.word) lexemes
names_spelled text lexemes h = each lexemes (of_text text lexemes h)
  where
    each : (l : List Lexeme) → All (IsLexemeOf text) l → AllByRecursion (λ t. t.terminal ≡ Name → IsName t.leaf.word) l
    each [] h = tt
    each (t ∷ l) h = (spelled text t (All-head (IsLexemeOf text) t l h), each l (All-tail (IsLexemeOf text) t l h))
