-- A text has one list of lexemes, or else one refusal. The front of a text is a function, so in each of the three laws both sides take
-- the same step; that one of both exists is by induction on the length of the rest, which every step shortens.
use Rattle.std.proofs.Common.{◌≡◌, ℕ, zero, suc, ◌+◌, ◌≤◌, ◌⊎◌, inl, inr, List, ◌∷◌, ◌++◌, length, take, drop, Option, Some, None, refl, sym, ap, subst, ◌∙◌, arith}
use Rattle.std.specs.Str.{IsUtf8}
use Rattle.std.proofs.lemmas.List.{length-drop}
use Rattle.rgo_lexer.specs.Front.{front_of}
use Rattle.rgo_lexer.specs.Lexemes.{Lexeme, leaf, tok}
use Rattle.rgo_lexer.specs.Semicolons.{ending_after, inserted}
use Rattle.rgo_lexer.specs.Lexing.{LexesFrom, LexesAs, text_start, with_package_name}
use Rattle.rgo_lexer.specs.Lexing.LexesFrom.{finish, blank, newline, piece}
use Rattle.rgo_lexer.specs.Refusals.{RefusesFrom, LexRefuses, width, refusal, bad_utf8}
use Rattle.rgo_lexer.specs.Refusals.RefusesFrom.{here, later}
use Rattle.rgo_lexer.specs.Laws.{NeverBoth, OneOfBoth, OneList, OneRefusal}
use Rattle.rgo_lexer.specs.declared.front.Front.{Front}
use Rattle.rgo_lexer.specs.declared.front.Front.TheVariants.{End, Blank, Newline, Piece, Refused}
use Rattle.rgo_lexer.specs.declared.refusals.LexRefusal.{LexRefusal}
use Rattle.rgo_lexer.specs.declared.terminals.Terminal.{Terminal}
use Rattle.rgo_lexer.proofs.Utf8.{cases_utf8}
use Rattle.rgo_lexer.proofs.Placing.{passed_fits}

same_width : (rest : List ℕ) (front : Front) (n m : ℕ) → front_of rest ≡ front
    → width front ≡ Some m → width (front_of rest) ≡ Some n → n ≡ m
same_width rest front n m e w v = let v' = rw e at v in cc

moved : (at n m : ℕ) (rest : List ℕ) (r : LexRefusal) → n ≡ m → RefusesFrom (at + n) (drop n rest) r
    → RefusesFrom (at + m) (drop m rest) r
moved at n m rest r e t =
    let P : ℕ → Type 0 = λ k. RefusesFrom (at + k) (drop k rest) r in subst P e t

never_both_from : {at : ℕ} {ending : Option ℕ} {rest : List ℕ} {lexemes : List Lexeme}
    (r : LexRefusal) → LexesFrom at ending rest lexemes → RefusesFrom at rest r → ⊥
never_both_from r (finish e) (here kind offset d) = cc
never_both_from r (finish e) (later n w t) = let w' = rw e at w in cc
never_both_from r (blank m e u) (here kind offset d) = cc
never_both_from {at} {ending} {rest} r (blank m e u) (later n w t) =
    never_both_from r u (moved at n m rest r (same_width rest (Blank m) n m e refl w) t)
never_both_from r (newline m e u) (here kind offset d) = cc
never_both_from {at} {ending} {rest} r (newline m e u) (later n w t) =
    never_both_from r u (moved at n m rest r (same_width rest (Newline m) n m e refl w) t)
never_both_from r (piece k m e u) (here kind offset d) = cc
never_both_from {at} {ending} {rest} r (piece k m e u) (later n w t) =
    never_both_from r u (moved at n m rest r (same_width rest (Piece k m) n m e refl w) t)

pub never_both : NeverBoth
never_both text lexemes r t (inl u) = never_both_from r t.2 u.1
never_both text lexemes r t (inr u) = u.0 t.0

-- two lists after equal widths
same_after : (at : ℕ) (ending : Option ℕ) (rest : List ℕ) (lexemes others : List Lexeme) (n m : ℕ)
    → n ≡ m → (LexesFrom (at + n) ending (drop n rest) others → lexemes ≡ others)
    → LexesFrom (at + m) ending (drop m rest) others → lexemes ≡ others
same_after at ending rest lexemes others n m e ih u =
    let P : ℕ → Type 0 = λ k. LexesFrom (at + k) ending (drop k rest) others in
    ih (subst P (sym e) u)

-- what follows a token of n bytes
abbrev PieceFrom : ℕ → List ℕ → List Lexeme → Terminal → ℕ → Type 0
PieceFrom at rest lexemes k n =
    LexesFrom (at + n) (ending_after k (take n rest) (at + n)) (drop n rest) lexemes

same_piece : (at : ℕ) (rest : List ℕ) (lexemes others : List Lexeme) (k j : Terminal) (n m : ℕ)
    → k ≡ j → n ≡ m
    → (PieceFrom at rest others k n → lexemes ≡ others) → PieceFrom at rest others j m
    → ◌≡◌ {A = List Lexeme} (tok k (leaf at (take n rest)) ∷ lexemes)
    (tok j (leaf at (take m rest)) ∷ others)
same_piece at rest lexemes others k j n m e d ih u =
    let P : Terminal → ℕ → Type 0 = PieceFrom at rest others in
    let f : lexemes ≡ others = ih (subst (λ x. P x n) (sym e) (subst (P j) (sym d) u)) in
    rw (e, d, f) refl

one_list_from : {at : ℕ} {ending : Option ℕ} {rest : List ℕ} {lexemes : List Lexeme}
    (others : List Lexeme) → LexesFrom at ending rest lexemes → LexesFrom at ending rest others
    → lexemes ≡ others
one_list_from others (finish e) (finish d) = refl
one_list_from others (finish e) (blank m d u) = cc
one_list_from others (finish e) (newline m d u) = cc
one_list_from others (finish e) (piece j m d u) = cc
one_list_from others (blank n e t) (finish d) = cc
one_list_from others (blank {at} {ending = ending} {rest} {lexemes} n e t) (blank m d u) =
    same_after at ending rest lexemes others n m (cc) (λ v. one_list_from others t v) u
one_list_from others (blank n e t) (newline m d u) = cc
one_list_from others (blank n e t) (piece j m d u) = cc
one_list_from others (newline n e t) (finish d) = cc
one_list_from others (newline n e t) (blank m d u) = cc
one_list_from others (newline {at} {ending = ending} {rest} {lexemes} n e t)
    (newline {lexemes = more} m d u) =
    ap (λ x. inserted ending ++ x)
    (same_after at None rest lexemes more n m (cc) (λ v. one_list_from more t v) u)
one_list_from others (newline n e t) (piece j m d u) = cc
one_list_from others (piece k n e t) (finish d) = cc
one_list_from others (piece k n e t) (blank m d u) = cc
one_list_from others (piece k n e t) (newline m d u) = cc
one_list_from others (piece {at} {rest = rest} {lexemes = lexemes} k n e t)
    (piece {lexemes = more} j m d u) =
    same_piece at rest lexemes more k j n m (cc) (cc) (λ v. one_list_from more t v) u

pub one_list : OneList
one_list text lexemes others t u = t.3 ∙ ap with_package_name (one_list_from u.1 t.2 u.2) ∙ sym u.3

one_refusal_from : {at : ℕ} {rest : List ℕ} {r : LexRefusal} (other : LexRefusal)
    → RefusesFrom at rest r → RefusesFrom at rest other → r ≡ other
one_refusal_from other (here {at} kind offset e) (here kind' offset' d) =
    let k : kind ≡ kind' = cc in let o : offset ≡ offset' = cc in rw (k, o) refl
one_refusal_from other (here kind offset e) (later n w t) = let w' = rw e at w in cc
one_refusal_from other (later n w t) (here kind offset e) = let w' = rw e at w in cc
one_refusal_from other (later {at} {rest} n w t) (later m v u) =
    one_refusal_from other t (moved at m n rest other (cc) u)

pub one_refusal : OneRefusal
one_refusal text r other (inl t) (inl u) = one_refusal_from other t.1 u.1
one_refusal text r other (inl t) (inr u) = absurd (u.0 t.0)
one_refusal text r other (inr t) (inl u) = absurd (t.0 u.0)
one_refusal text r other (inr t) (inr u) = t.1 ∙ sym u.1

Either : ℕ → Option ℕ → List ℕ → Type 0
Either at ending rest =
    ((lexemes : List Lexeme) × LexesFrom at ending rest lexemes)
    ⊎ ((r : LexRefusal) × RefusesFrom at rest r)

-- one step, and what follows it
either_at : (at : ℕ) (ending : Option ℕ) (rest : List ℕ) (front : Front) → front_of rest ≡ front
    → ((n : ℕ) → width front ≡ Some n → (o : Option ℕ) → Either (at + n) o (drop n rest))
    → Either at ending rest
unfolding Either
either_at at ending rest End e more = inl (inserted ending, finish e)
either_at at ending rest (Blank n) e more =
    elim (more n refl ending)
    [ inl p ↦ inl (p.0, blank n e p.1) | inr p ↦ inr (p.0, later n (ap width e) p.1) ]
either_at at ending rest (Newline n) e more =
    elim (more n refl None) [
      | inl p ↦ inl (inserted ending ++ p.0, newline n e p.1)
      | inr p ↦ inr (p.0, later n (ap width e) p.1)
    ]
either_at at ending rest (Piece terminal n) e more =
    elim (more n refl (ending_after terminal (take n rest) (at + n))) [
      | inl p ↦ inl (tok terminal (leaf at (take n rest)) ∷ p.0, piece terminal n e p.1)
      | inr p ↦ inr (p.0, later n (ap width e) p.1)
    ]
either_at at ending rest (Refused kind offset) e more =
    inr (refusal kind (at + offset), here kind offset e)

-- by the length of the rest
either : (bound at : ℕ) (ending : Option ℕ) (rest : List ℕ) → length rest ≤ bound
    → Either at ending rest
either zero at ending rest le =
    either_at at ending rest (front_of rest) refl
    (λ n e o. absurd (let w = passed_fits rest n e in omega (arith, w.some, w.within)))
either (suc bound) at ending rest le =
    either_at at ending rest (front_of rest) refl
    (λ n e o. either bound (at + n) o (drop n rest)
    (let w = passed_fits rest n e in omega (arith, w.some, w.within, length-drop n rest)))

pub one_of_both : OneOfBoth
unfolding Either
one_of_both text = by_case (cases_utf8 text)
  where
    read : IsUtf8 text → Either (text_start text) None (drop (text_start text) text)
        → ((lexemes : List Lexeme) × LexesAs text lexemes) ⊎ ((r : LexRefusal) × LexRefuses text r)
    read u (inl t) = inl (with_package_name t.0, (u, t.0, t.1, refl))
    read u (inr t) = inr (t.0, inl (u, t.1))

    by_case : IsUtf8 text ⊎ (¬ (IsUtf8 text)) → ((lexemes : List Lexeme) × LexesAs text lexemes)
        ⊎ ((r : LexRefusal) × LexRefuses text r)
    by_case (inl u) =
        read u (either (length text) (text_start text) None (drop (text_start text) text)
        (omega (arith, length-drop (text_start text) text)))
    by_case (inr u) = inr (bad_utf8 text, inr (u, refl))
