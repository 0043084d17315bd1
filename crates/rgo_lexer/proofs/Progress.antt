-- The state of the loop of `lexemes_from`: how far the text has been cut. The relation of lexing goes from the front of the text on,
-- and the loop appends at the end; so its invariant says what any lexemes of the rest would complete.
use Rattle.std.proofs.Common.{◌≡◌, ℕ, ◌+◌, ◌-◌, ◌≤◌, List, [], ◌∷◌, ◌++◌, length, take, drop, Option, None, Some, sym, ap, append_assoc, arith}
use Rattle.std.proofs.lemmas.List.{drop-drop, take_all, length-drop}
use Rattle.rgo_lexer.specs.Front.{front_of, IsWidthIn}
use Rattle.rgo_lexer.specs.Lexemes.{Lexeme, leaf, tok}
use Rattle.rgo_lexer.specs.Semicolons.{ending_after, inserted}
use Rattle.rgo_lexer.specs.Lexing.{LexesFrom}
use Rattle.rgo_lexer.specs.Lexing.LexesFrom.{finish, blank, newline, piece}
use Rattle.rgo_lexer.specs.Refusals.{RefusesFrom, width, refusal}
use Rattle.rgo_lexer.specs.Refusals.RefusesFrom.{here, later}
use Rattle.rgo_lexer.specs.declared.front.Front.{Front}
use Rattle.rgo_lexer.specs.declared.front.Front.TheVariants.{End, Blank, Newline, Piece, Refused}
use Rattle.rgo_lexer.specs.declared.refusals.LexicalKind.{LexicalKind}
use Rattle.rgo_lexer.specs.declared.refusals.LexRefusal.{LexRefusal}
use Rattle.rgo_lexer.specs.declared.terminals.Terminal.{Terminal}

-- the lexemes from `at` on complete those found from `start` on, and a refusal from `at` on is one
-- from `start` on
pub record Progress
    (text : List ℕ) (start at : ℕ) (ending : Option ℕ) (found : List Lexeme) : Type 0 where
  pub within : at ≤ length text
  pub completes : (more : List Lexeme) → LexesFrom at ending (drop at text) more
      → LexesFrom start None (drop start text) (found ++ more)
  pub refuses : (r : LexRefusal) → RefusesFrom at (drop at text) r
      → RefusesFrom start (drop start text) r

pub starts : (text : List ℕ) (start : ℕ) → start ≤ length text → Progress text start start None []
starts text start h = record { within = h; completes = λ more t. t; refuses = λ r t. t }

farther : (text : List ℕ) (at n : ℕ) → drop n (drop at text) ≡ drop (at + n) text
farther text at n = drop-drop n at text

after : (text : List ℕ) (at n : ℕ) → at ≤ length text → IsWidthIn (drop at text) n
    → at + n ≤ length text
after text at n le w = omega (arith, w.within, length-drop at text)

refuses_later : (text : List ℕ) (start at n : ℕ) (ending : Option ℕ) (found : List Lexeme)
    → Progress text start at ending found → width (front_of (drop at text)) ≡ Some n
    → (r : LexRefusal) → RefusesFrom (at + n) (drop (at + n) text) r
    → RefusesFrom start (drop start text) r
refuses_later text start at n ending found g e r t = g.refuses r (later n e (rw farther t))

pub after_blank : (text : List ℕ) (start at n : ℕ) (ending : Option ℕ) (found : List Lexeme)
    → Progress text start at ending found → IsWidthIn (drop at text) n
    → front_of (drop at text) ≡ Blank n
    → Progress text start (at + n) ending found
after_blank text start at n ending found g w e = record {
  within = after text at n g.within w;
  completes = λ more t. g.completes more (blank n e (rw farther t));
  refuses = refuses_later text start at n ending found g (ap width e);
}

pub after_newline : (text : List ℕ) (start at n : ℕ) (ending : Option ℕ) (found now : List Lexeme)
    → Progress text start at ending found → IsWidthIn (drop at text) n
    → front_of (drop at text) ≡ Newline n
    → now ≡ found ++ inserted ending → Progress text start (at + n) None now
after_newline text start at n ending found now g w e i = record {
  within = after text at n g.within w;
  completes =
      λ more t. rw (i, append_assoc)
      (g.completes (inserted ending ++ more) (newline n e (rw farther t)));
  refuses = refuses_later text start at n ending found g (ap width e);
}

-- with the word as the code cuts it out
pub after_piece : (text : List ℕ) (start at n : ℕ) (terminal : Terminal) (ending : Option ℕ)
    (found now : List Lexeme) → Progress text start at ending found → IsWidthIn (drop at text) n
    → front_of (drop at text) ≡ Piece terminal n
    → now ≡ found ++ tok terminal (leaf at (take (at + n - at) (drop at text))) ∷ []
    → Progress text start (at + n)
    (ending_after terminal (take (at + n - at) (drop at text)) (at + n)) now
after_piece text start at n terminal ending found now g w e i =
    let m : at + n - at ≡ n = omega arith in
    let i' : now ≡ found ++ tok terminal (leaf at (take n (drop at text))) ∷ [] = rw m at i in
    rw m record {
      within = after text at n g.within w;
      completes =
          λ more t. rw (i', append_assoc)
          (g.completes (tok terminal (leaf at (take n (drop at text))) ∷ more)
          (piece terminal n e (rw farther t)));
      refuses = refuses_later text start at n ending found g (ap width e);
    }

pub at_end : (text : List ℕ) (start at : ℕ) (ending : Option ℕ) (found now : List Lexeme)
    → Progress text start at ending found → front_of (drop at text) ≡ End
    → now ≡ found ++ inserted ending
    → LexesFrom start None (drop start text) now
at_end text start at ending found now g e i = rw i (g.completes (inserted ending) (finish e))

pub at_refusal : (text : List ℕ) (start at : ℕ) (kind : LexicalKind) (offset : ℕ)
    (ending : Option ℕ) (found : List Lexeme) → Progress text start at ending found
    → front_of (drop at text) ≡ Refused kind offset
    → RefusesFrom start (drop start text) (refusal kind (at + offset))
at_refusal text start at kind offset ending found g e =
    g.refuses (refusal kind (at + offset)) (here kind offset e)

whole : (text : List ℕ) (at : ℕ) → take (length text - at) (drop at text) ≡ drop at text
whole text at = take_all (length text - at) (drop at text) (omega (arith, length-drop at text))

-- the front of the part of the text that the code reads
pub seen : (text : List ℕ) (at : ℕ) (front : Front)
    → front ≡ front_of (take (length text - at) (drop at text)) → front_of (drop at text) ≡ front
seen text at front e = rw (whole text at) at (sym e)

pub seen_width : (text : List ℕ) (at n : ℕ) → IsWidthIn (take (length text - at) (drop at text)) n
    → IsWidthIn (drop at text) n
seen_width text at n w = rw (whole text at) at w
