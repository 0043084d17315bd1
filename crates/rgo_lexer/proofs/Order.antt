-- The lexemes of a text are parts of it, in order.
use Rattle.std.proofs.Common.{ℕ, ◌+◌, ◌≤◌, true, false, cond, List, [], ◌∷◌, ◌++◌, length, take, codes, Option, Some, None, IfSome, sym, subst, arith}
use Rattle.std.specs.Str.{bytes_eq}
use Rattle.std.proofs.lemmas.List.{length-take}
use Rattle.rgo_lexer.specs.Lexemes.{Lexeme, tok}
use Rattle.rgo_lexer.specs.Semicolons.{ending_after, inserted, may_end}
use Rattle.rgo_lexer.specs.Lexing.{LexesFrom, with_package_name}
use Rattle.rgo_lexer.specs.Lexing.LexesFrom.{finish, blank, newline, piece}
use Rattle.rgo_lexer.specs.Laws.{InOrder, IsInOrder}
use Rattle.rgo_lexer.specs.declared.terminals.Terminal.{Terminal}
use Rattle.rgo_lexer.specs.declared.terminals.Terminal.TheVariants.{Main}

-- the last token ended at `from` or after it, and by `at`
abbrev IsEndingIn : ℕ → ℕ → Option ℕ → Type 0
IsEndingIn from at ending = IfSome ending (λ end. (from ≤ end) × (end ≤ at))

inserted_in_order : (from at : ℕ) (ending : Option ℕ) → from ≤ at → IsEndingIn from at ending
    → IsInOrder from (inserted ending)
inserted_in_order from at None le h = tt
inserted_in_order from at (Some end) le h = (h.0, tt)

after_inserted : (from at : ℕ) (ending : Option ℕ) (lexemes : List Lexeme) → from ≤ at
    → IsEndingIn from at ending → ((end : ℕ) → end ≤ at → IsInOrder end lexemes)
    → IsInOrder from (inserted ending ++ lexemes)
after_inserted from at None lexemes le h more = more from le
after_inserted from at (Some end) lexemes le h more = (h.0, more (end + 0) (omega (arith, h.1)))

ending_later : (from at n : ℕ) (ending : Option ℕ) → IsEndingIn from at ending
    → IsEndingIn from (at + n) ending
ending_later from at n None h = tt
ending_later from at n (Some end) h = (h.0, omega (arith, h.1))

ends_in : (terminal : Terminal) (word : List ℕ) (from end : ℕ) → from ≤ end
    → IsEndingIn from end (ending_after terminal word end)
ends_in terminal word from end le =
    elim (may_end terminal word) as (λ b. IsEndingIn from end (cond b (Some end) None))
    [ true ↦ (le, omega arith) | false ↦ tt ]

in_order_from : {at : ℕ} {ending : Option ℕ} {rest : List ℕ} {lexemes : List Lexeme} (from : ℕ)
    → LexesFrom at ending rest lexemes → from ≤ at → IsEndingIn from at ending
    → IsInOrder from lexemes
in_order_from {at} {ending} from (finish e) le h = inserted_in_order from at ending le h
in_order_from {at} {ending} from (blank n e t) le h =
    in_order_from from t (omega arith) (ending_later from at n ending h)
in_order_from {at} {ending} from (newline {lexemes = lexemes} n e t) le h =
    after_inserted from at ending lexemes le h (λ end f. in_order_from end t (omega arith) tt)
in_order_from {at} {ending} {rest} from (piece terminal n e t) le h =
    let end = at + length (take n rest) in
    let fits : end ≤ at + n = omega (arith, length-take n rest) in
    (le, in_order_from end t fits (ends_in terminal (take n rest) end (at + n) fits))

-- the package's name is where it was
named_in_order : (from : ℕ) (lexemes : List Lexeme) → IsInOrder from lexemes
    → IsInOrder from (with_package_name lexemes)
named_in_order from [] h = h
named_in_order from (l ∷ []) h = h
named_in_order from (l ∷ m ∷ lexemes) h =
    elim (bytes_eq m.leaf.word (codes "main"))
    as (λ b. IsInOrder from (l ∷ cond b (tok Main m.leaf) m ∷ lexemes))
    [ true ↦ h | false ↦ h ]

pub in_order : InOrder
in_order text lexemes t =
    subst (IsInOrder 0) (sym t.3) (named_in_order 0 t.1 (in_order_from 0 t.2 (omega arith) tt))
