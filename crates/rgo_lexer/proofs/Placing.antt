-- Each lexeme of a text lies within it, and so does the byte of a lexical error.
use Rattle.std.proofs.Common.{◌≡◌, ℕ, ◌+◌, ◌-◌, ◌<◌, ◌≤◌, Bool, true, false, cond, List, [], ◌∷◌, length, take, drop, codes, Option, None, Some, refl, sym, ap, subst, ◌∙◌, All, IfSome, arith, inl, inr}
use Rattle.std.specs.Prelude.{◌==◌, slice_range}
use Rattle.std.specs.Str.{bytes_eq}
use Rattle.std.proofs.lemmas.Bool.{cond_both}
use Rattle.std.proofs.lemmas.Bool.Decides.{nat_tests}
use Rattle.std.proofs.lemmas.List.{drop-drop, length-drop, length-take-le}
use Rattle.std.proofs.lemmas.List.Elements.{All-nil, All-cons, All-append, All-head, All-tail}
use Rattle.std.proofs.lemmas.Slice.Eq.{bytes_eq-Decides}
use Rattle.rgo_lexer.specs.Front.{front_of, FitsIn, IsWidthIn}
use Rattle.rgo_lexer.specs.Lexemes.{Lexeme, leaf, tok}
use Rattle.rgo_lexer.specs.Semicolons.{ending_after, inserted, may_end}
use Rattle.rgo_lexer.specs.Bytes.{has_prefix}
use Rattle.rgo_lexer.specs.Laws.{OfText}
use Rattle.rgo_lexer.specs.Lexing.{LexesFrom, byte_order_mark, text_start, IsLexemeOf, terminal_of, terminal_at_width, package_name, with_package_name}
use Rattle.rgo_lexer.specs.Lexing.LexesFrom.{finish, blank, newline, piece}
use Rattle.rgo_lexer.specs.Refusals.{RefusesFrom, LexFails, IsPlacedIn, width}
use Rattle.rgo_lexer.specs.Refusals.RefusesFrom.{here, later}
use Rattle.rgo_lexer.specs.declared.front.Front.{Front}
use Rattle.rgo_lexer.specs.declared.front.Front.TheVariants.{End, Blank, Newline, Piece, Refused}
use Rattle.rgo_lexer.specs.declared.refusals.LexRefusal.{LexRefusal}
use Rattle.rgo_lexer.specs.declared.refusals.LexError.{LexError}
use Rattle.rgo_lexer.specs.declared.refusals.LexError.TheVariants as error
use Rattle.rgo_lexer.specs.declared.terminals.Terminal.{Terminal}
use Rattle.rgo_lexer.specs.declared.terminals.Terminal.TheVariants.{Main, Semicolon}
use Rattle.rgo_lexer.proofs.Begins.{begins_with-length}
use Rattle.rgo_lexer.proofs.Utf8.{utf8_stops}
use Rattle.rgo_lexer.proofs.Fronts.{front_fits, fits, piece_fits, front_stable}

-- the last token ended at `at` or before it
abbrev pub IsEndingBy : ℕ → Option ℕ → Type 0
IsEndingBy at ending = IfSome ending (λ end. end ≤ at)

inserted_of : (text : List ℕ) (at : ℕ) (ending : Option ℕ) → at ≤ length text → IsEndingBy at ending
    → All (IsLexemeOf text) (inserted ending)
inserted_of text at None le h = All-nil (IsLexemeOf text)
inserted_of text at (Some end) le h =
    let one : IsLexemeOf text (tok Semicolon (leaf end [])) = record {
      within = omega (arith, h);
      bytes = empty end;
      spelled = λ lt. absurd (omega (arith, lt));
      inserted = λ e. refl;
    } in
    All-cons (IsLexemeOf text) (tok Semicolon (leaf end [])) [] one (All-nil (IsLexemeOf text))
  where
    empty : (end : ℕ) → [] ≡ slice_range text end (end + 0)
    empty end = let none : end + 0 - end ≡ 0 = omega arith in rw none refl

ending_by : (terminal : Terminal) (word : List ℕ) (end : ℕ)
    → IsEndingBy end (ending_after terminal word end)
ending_by terminal word end = by_test (may_end terminal word)
  where
    by_test : (b : Bool) → IsEndingBy end (cond b (Some end) None)
    by_test true = omega arith
    by_test false = tt

same_width : (terminal : Terminal) (n m : ℕ) → n ≡ m
    → terminal_at_width n (Piece terminal m) ≡ Some terminal
same_width terminal n m e = let t : (m == n) ≡ true = grind (arith, nat_tests) in rw t refl

-- a token by itself has its terminal
terminal_of_piece : (text : List ℕ) (terminal : Terminal) (n : ℕ) → front_of text ≡ Piece terminal n
    → terminal_of (take n text) ≡ Some terminal
unfolding terminal_of
terminal_of_piece text terminal n e =
    rw (front_stable text terminal n e)
    (same_width terminal (length (take n text)) n
    (length-take-le n text (piece_fits text terminal n e).within))

-- a token from byte `at` on is a part of the text
piece_of : (text rest : List ℕ) (at : ℕ) (terminal : Terminal) (n : ℕ) → drop at text ≡ rest
    → at ≤ length text → front_of rest ≡ Piece terminal n
    → IsLexemeOf text (tok terminal (leaf at (take n rest)))
piece_of text rest at terminal n d le e =
    let w = piece_fits rest terminal n e in
    let long : length (take n rest) ≡ n = length-take-le n rest w.within in
    record {
      within = omega (arith, w.within, long, length-drop at text, ap length d);
      bytes = (let i : at + length (take n rest) - at ≡ n = omega (arith, long) in rw (i, d) refl);
      spelled = λ lt. inl (terminal_of_piece rest terminal n e);
      inserted = λ none. absurd (omega (arith, w.some, long, none));
    }

farther : (text rest : List ℕ) (at n : ℕ) → drop at text ≡ rest → drop (at + n) text ≡ drop n rest
farther text rest at n d = sym (drop-drop n at text) ∙ ap (drop n) d

after : (text rest : List ℕ) (at n : ℕ) → drop at text ≡ rest → at ≤ length text → IsWidthIn rest n
    → at + n ≤ length text
after text rest at n d le w = omega (arith, w.within, length-drop at text, ap length d)

ending_later : (at n : ℕ) (ending : Option ℕ) → IsEndingBy at ending → IsEndingBy (at + n) ending
ending_later at n None h = tt
ending_later at n (Some end) h = omega (arith, h)

-- each lexeme from a byte on
of_text_from : (text : List ℕ) {at : ℕ} {ending : Option ℕ} {rest : List ℕ} {lexemes : List Lexeme}
    → LexesFrom at ending rest lexemes → drop at text ≡ rest → at ≤ length text
    → IsEndingBy at ending
    → All (IsLexemeOf text) lexemes
of_text_from text {at} {ending} (finish e) d le h = inserted_of text at ending le h
of_text_from text {at} {ending} {rest} (blank n e t) d le h =
    of_text_from text t (farther text rest at n d)
    (after text rest at n d le (fits rest (Blank n) (sym e))) (ending_later at n ending h)
of_text_from text {at} {ending} {rest} (newline {lexemes = lexemes} n e t) d le h =
    All-append (IsLexemeOf text) (inserted ending) lexemes (inserted_of text at ending le h)
    (of_text_from text t (farther text rest at n d)
    (after text rest at n d le (fits rest (Newline n) (sym e))) tt)
of_text_from text {at} {ending} {rest} (piece {lexemes = lexemes} terminal n e t) d le h =
    All-cons (IsLexemeOf text) (tok terminal (leaf at (take n rest))) lexemes
    (piece_of text rest at terminal n d le e)
    (of_text_from text t (farther text rest at n d)
    (after text rest at n d le (piece_fits rest terminal n e))
    (ending_by terminal (take n rest) (at + n)))

-- the package's name is a part of the text
named_of : (text : List ℕ) (m : Lexeme) (b : Bool) → bytes_eq m.leaf.word (codes "main") ≡ b
    → IsLexemeOf text m → IsLexemeOf text (cond b (tok Main m.leaf) m)
named_of text m true e h =
    let same = (bytes_eq-Decides m.leaf.word (codes "main")).0 e in
    record {
      within = h.within;
      bytes = h.bytes;
      spelled = λ lt. inr (refl, same);
      inserted = λ none. absurd (omega (arith, none, ap length same));
    }
named_of text m false e h = h

with_name : (text : List ℕ) (lexemes : List Lexeme) → All (IsLexemeOf text) lexemes
    → All (IsLexemeOf text) (with_package_name lexemes)
with_name text [] h = h
with_name text (l ∷ []) h = h
with_name text (l ∷ m ∷ lexemes) h =
    let P = IsLexemeOf text in
    let named = package_name m in
    let later : All P (m ∷ lexemes) = All-tail P l (m ∷ lexemes) h in
    let second = named_of text m (bytes_eq m.leaf.word (codes "main")) refl (All-head P m lexemes later) in
    All-cons P l (named ∷ lexemes) (All-head P l (m ∷ lexemes) h)
    (All-cons P named lexemes second (All-tail P m lexemes later))

-- a text begins in itself
pub start_within : (text : List ℕ) → text_start text ≤ length text
start_within text =
    cond_both (has_prefix text byte_order_mark) 3 0 (λ n. n ≤ length text)
    (λ e. begins_with-length byte_order_mark text e) (λ e. omega arith)

pub named_of_text : (text : List ℕ) (found lexemes : List Lexeme)
    → LexesFrom (text_start text) None (drop (text_start text) text) found
    → lexemes ≡ with_package_name found → All (IsLexemeOf text) lexemes
named_of_text text found lexemes t e =
    subst (All (IsLexemeOf text)) (sym e)
    (with_name text found (of_text_from text t refl (start_within text) tt))

-- each lexeme of a text is an inserted `;`, or a part of the text that is a token by itself
pub of_text : OfText
of_text text lexemes t = named_of_text text t.1 lexemes t.2 t.3

width_is : (front : Front) (text : List ℕ) (n : ℕ) → FitsIn text front → width front ≡ Some n
    → IsWidthIn text n
width_is End text n f e = cc
width_is (Blank m) text n f e = let same : n ≡ m = cc in rw same f
width_is (Newline m) text n f e = let same : n ≡ m = cc in rw same f
width_is (Piece terminal m) text n f e = let same : n ≡ m = cc in rw same f
width_is (Refused kind offset) text n f e = cc

-- what the lexer passes over fits
pub passed_fits : (rest : List ℕ) (n : ℕ) → width (front_of rest) ≡ Some n → IsWidthIn rest n
passed_fits rest n e = width_is (front_of rest) rest n (front_fits rest) e

-- the byte of a lexical error lies within the text
pub refusal_placed : (text : List ℕ) {at : ℕ} {rest : List ℕ} {r : LexRefusal}
    → RefusesFrom at rest r → drop at text ≡ rest → at ≤ length text → r.at < length text
refusal_placed text {at} {rest} (here kind offset e) d le =
    let f : offset < length rest = fits rest (Refused kind offset) (sym e) in
    omega (arith, f, length-drop at text, ap length d)
refusal_placed text {at} {rest} (later n e t) d le =
    refusal_placed text t (farther text rest at n d)
    (after text rest at n d le (passed_fits rest n e))

pub placed : (text : List ℕ) (e : LexError) → LexFails text e → IsPlacedIn text e
placed text error.NoMemory h = tt
placed text (error.Refused r) (inl h) = refusal_placed text h.1 refl (start_within text)
placed text (error.Refused r) (inr h) = rw h.1 (utf8_stops text h.0)
