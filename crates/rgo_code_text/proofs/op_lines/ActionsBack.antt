-- Actions are read back from their words. `ActionsIs` is the other direction. An action whose word no reader knows fails here, since the
-- compiler cannot find a string that is missing.
use Rattle.std.proofs.Common.{◌≡◌, ℕ, true, false, List, [], ◌∷◌, Option, Some, None, if◌then◌else◌, refl, sym, ap, ◌∙◌, subst, decimal, codes}
use Rattle.std.specs.Fmt.{signed_decimal}
use Rattle.std.specs.Str.{bytes_eq}
use Rattle.std.proofs.lemmas.List.Elements.{All-head, All-tail}
use Rattle.rgo_ast.specs.declared.ops.BinaryOp.{BinaryOp}
use Rattle.rgo_ast.specs.declared.ops.BinaryOp.TheVariants as binary
use Rattle.rgo_typed.specs.declared.actions.Action.{Action}
use Rattle.rgo_typed.specs.declared.actions.Action.TheVariants as action
use Rattle.rgo_tac.specs.Code as tac
use Rattle.rgo_code_text.specs.Actions.{NamedAction, named_action, with_one, with_two, with_three, with_operator, read_with_target, taking, read_action}
use Rattle.rgo_code_text.specs.Items.{only_name, ActionIsNamed}
use Rattle.rgo_code_words.specs.Readers.{on_some, read_number, read_operator}
use Rattle.rgo_code_printing.specs.Text.{action_words}
use Rattle.rgo_code_printing.specs.Words.{variable_word, operator_word}
use Rattle.rgo_code_text.specs.Written.{ActionHasText, IsInstruction}
use Rattle.rgo_code_words.specs.Worded.{is_name, IsSmallNumber, AreSmall, ValueFits, OperatorFits}
use Rattle.rgo_code_words.proofs.Integers.{int_back}
use Rattle.rgo_code_words.proofs.Numerals.{number_back}
use Rattle.rgo_code_words.proofs.WordsBack.{operator_back}

-- ---- by shape

one_back : (word : List ℕ) (a : ℕ) → IsSmallNumber a → read_action (word ∷ variable_word a ∷ []) ≡ with_one word a
one_back word a s = ap (λ o. on_some o (with_one word)) (number_back a s)

-- the word is not one of those whose last word is not a variable
abbrev IsPlain : List ℕ → Type 0
IsPlain word =
    (bytes_eq word (codes "set") ≡ false) × (bytes_eq word (codes "int") ≡ false) × (bytes_eq word (codes "bool") ≡ false)
    × (bytes_eq word (codes "new") ≡ false) × (bytes_eq word (codes "get") ≡ false)

first_back : (word last : List ℕ) (d : ℕ) → bytes_eq word (codes "set") ≡ false → IsSmallNumber d
    → read_action (word ∷ variable_word d ∷ last ∷ []) ≡ read_with_target d word last
first_back word last d e s =
    rw e (ap (λ o. on_some o (λ n. read_with_target n word last)) (number_back d s))

two_back : (word : List ℕ) (d a : ℕ) → IsPlain word → IsSmallNumber d → IsSmallNumber a
    → read_action (word ∷ variable_word d ∷ variable_word a ∷ []) ≡ with_two word d a
two_back word d a p s t =
    first_back word (variable_word a) d p.0 s
    ∙ rw (p.1, p.2, p.3, p.4) (ap (λ o. on_some o (λ b. with_two word d b)) (number_back a t))

taking_back : (word second last : List ℕ) (a : ℕ) → IsSmallNumber a
    → read_action (word ∷ variable_word a ∷ second ∷ last ∷ []) ≡ taking a (word ∷ variable_word a ∷ second ∷ last ∷ [])
taking_back word second last a s =
    ap (λ o. on_some o (λ n. taking n (word ∷ variable_word a ∷ second ∷ last ∷ []))) (number_back a s)

three_back : (word : List ℕ) (a b c : ℕ) → bytes_eq word (codes "load") ≡ false → bytes_eq word (codes "store") ≡ false
    → IsSmallNumber a → IsSmallNumber b → IsSmallNumber c
    → read_action (word ∷ variable_word a ∷ variable_word b ∷ variable_word c ∷ []) ≡ with_three word a b c
three_back word a b c e f s t u =
    taking_back word (variable_word b) (variable_word c) a s
    ∙ rw (e, f) (
    ap (λ o. on_some o (λ n. on_some (read_number (decimal c)) (λ m. with_three word a n m))) (number_back b t)
    ∙ ap (λ o. on_some o (λ m. with_three word a b m)) (number_back c u))

operator_made : (op : BinaryOp) (d a b : ℕ) → OperatorFits op
    → with_operator op d a b ≡ Some (record { op = tac.Do (Some d) (action.Binary op) (a ∷ b ∷ []); name = [] })
operator_made binary.Mul d a b f = refl
operator_made binary.Div d a b f = refl
operator_made binary.Rem d a b f = refl
operator_made binary.Add d a b f = refl
operator_made binary.Sub d a b f = refl
operator_made binary.Eq d a b f = refl
operator_made binary.Ne d a b f = refl
operator_made binary.Lt d a b f = refl
operator_made binary.Le d a b f = refl
operator_made binary.Gt d a b f = refl
operator_made binary.Ge d a b f = refl
operator_made binary.And d a b f = absurd f
operator_made binary.Or d a b f = absurd f

named_back : (op : tac.Op) (name : List ℕ) → is_name name ≡ true
    → named_action op name ≡ Some (record { op = op; name = name })
named_back op name e = ap (λ x. if x then Some (record { op = op; name = name }) else None) e

-- what is read of an action
abbrev done : Action → Option ℕ → List ℕ → List ℕ → Option NamedAction
done a to from name = Some (record { op = tac.Do to a from; name = name })

-- an action without a name
plain : (a : Action) (to : Option ℕ) (from name : List ℕ) → name ≡ [] → done a to from [] ≡ done a to from name
plain a to from name e = ap (done a to from) (sym e)

head_of : (a : ℕ) (others : List ℕ) → AreSmall (a ∷ others) → IsSmallNumber a
head_of a others s = All-head IsSmallNumber a others s

tail_of : (a : ℕ) (others : List ℕ) → AreSmall (a ∷ others) → AreSmall others
tail_of a others s = All-tail IsSmallNumber a others s

-- a word, a target and an operand
unary : (a : Action) (word name : List ℕ) (d b : ℕ) → IsPlain word → IsSmallNumber d → AreSmall (b ∷ []) → name ≡ []
    → with_two word d b ≡ done a (Some d) (b ∷ []) []
    → read_action (word ∷ variable_word d ∷ variable_word b ∷ []) ≡ done a (Some d) (b ∷ []) name
unary a word name d b p s t e w =
    two_back word d b p s (head_of b [] t) ∙ w ∙ plain a (Some d) (b ∷ []) name e

binary_back : (op : BinaryOp) (d b c : ℕ) (name : List ℕ) → OperatorFits op → IsSmallNumber d → AreSmall (b ∷ c ∷ []) → name ≡ []
    → read_action (action_words (only_name name) (action.Binary op) (Some d) (b ∷ c ∷ []))
    ≡ done (action.Binary op) (Some d) (b ∷ c ∷ []) name
binary_back op d b c name f s t e =
    ap (λ o. on_some o (λ n. on_some (read_operator (operator_word op)) (λ p. on_some (read_number (decimal b)) (λ m.
    on_some (read_number (decimal c)) (λ k. with_operator p n m k))))) (number_back d s)
    ∙ ap (λ o. on_some o (λ p. on_some (read_number (decimal b)) (λ m.
    on_some (read_number (decimal c)) (λ k. with_operator p d m k)))) (operator_back op f)
    ∙ ap (λ o. on_some o (λ m. on_some (read_number (decimal c)) (λ k. with_operator op d m k)))
    (number_back b (head_of b (c ∷ []) t))
    ∙ ap (λ o. on_some o (λ k. with_operator op d b k)) (number_back c (head_of c [] (tail_of b (c ∷ []) t)))
    ∙ operator_made op d b c f ∙ plain (action.Binary op) (Some d) (b ∷ c ∷ []) name e

pub action_back : (a : Action) (to : Option ℕ) (from name : List ℕ) → IsInstruction a to from → ActionHasText a → ValueFits to
    → AreSmall from → ActionIsNamed a name → read_action (action_words (only_name name) a to from) ≡ done a to from name
action_back (action.Int k) (Some d) [] name i f s t e =
    first_back (codes "int") (signed_decimal k) d refl s
    ∙ ap (λ o. on_some o (λ n. done (action.Int n) (Some d) [] [])) (int_back k f) ∙ plain (action.Int k) (Some d) [] name e
action_back (action.Bool true) (Some d) [] name i f s t e =
    first_back (codes "bool") (codes "true") d refl s ∙ plain (action.Bool true) (Some d) [] name e
action_back (action.Bool false) (Some d) [] name i f s t e =
    first_back (codes "bool") (codes "false") d refl s ∙ plain (action.Bool false) (Some d) [] name e
action_back action.Nil (Some d) [] name i f s t e = one_back (codes "nil") d s ∙ plain action.Nil (Some d) [] name e
action_back action.Copy (Some d) (b ∷ []) name i f s t e =
    unary action.Copy (codes "copy") name d b (refl, refl, refl, refl, refl) s t e refl
action_back (action.Binary op) (Some d) (b ∷ c ∷ []) name i f s t e = binary_back op d b c name f s t e
action_back action.Neg (Some d) (b ∷ []) name i f s t e =
    unary action.Neg (codes "neg") name d b (refl, refl, refl, refl, refl) s t e refl
action_back action.Not (Some d) (b ∷ []) name i f s t e =
    unary action.Not (codes "not") name d b (refl, refl, refl, refl, refl) s t e refl
action_back action.IsNil (Some d) (b ∷ []) name i f s t e =
    unary action.IsNil (codes "isnil") name d b (refl, refl, refl, refl, refl) s t e refl
action_back action.Len (Some d) (b ∷ []) name i f s t e =
    unary action.Len (codes "len") name d b (refl, refl, refl, refl, refl) s t e refl
action_back (action.Load k) (Some d) (b ∷ []) name i f s t e =
    taking_back (codes "load") (variable_word b) (decimal k) d s
    ∙ ap (λ o. on_some o (λ m. on_some (read_number (decimal k)) (λ j. done (action.Load j) (Some d) (m ∷ []) [])))
    (number_back b (head_of b [] t))
    ∙ ap (λ o. on_some o (λ j. done (action.Load j) (Some d) (b ∷ []) [])) (number_back k f)
    ∙ plain (action.Load k) (Some d) (b ∷ []) name e
action_back (action.Store k) None (b ∷ c ∷ []) name i f s t e =
    taking_back (codes "store") (decimal k) (variable_word c) b (head_of b (c ∷ []) t)
    ∙ ap (λ o. on_some o (λ j. on_some (read_number (decimal c)) (λ m. done (action.Store j) None (b ∷ m ∷ []) [])))
    (number_back k f)
    ∙ ap (λ o. on_some o (λ m. done (action.Store k) None (b ∷ m ∷ []) []))
    (number_back c (head_of c [] (tail_of b (c ∷ []) t)))
    ∙ plain (action.Store k) None (b ∷ c ∷ []) name e
action_back action.At (Some d) (b ∷ c ∷ []) name i f s t e =
    three_back (codes "at") d b c refl refl s (head_of b (c ∷ []) t) (head_of c [] (tail_of b (c ∷ []) t))
    ∙ plain action.At (Some d) (b ∷ c ∷ []) name e
action_back action.Put None (b ∷ c ∷ g ∷ []) name i f s t e =
    let u = tail_of b (c ∷ g ∷ []) t in
    three_back (codes "put") b c g refl refl (head_of b (c ∷ g ∷ []) t) (head_of c (g ∷ []) u) (head_of g [] (tail_of c (g ∷ []) u))
    ∙ plain action.Put None (b ∷ c ∷ g ∷ []) name e
action_back (action.New n) (Some d) [] name i f s t e =
    subst (λ m. read_action (action_words (only_name name) (action.New m) (Some d) []) ≡ done (action.New m) (Some d) [] name)
    (sym e.0) (first_back (codes "new") name d refl s ∙ named_back (tac.Do (Some d) (action.New 0) []) name e.1)
action_back action.Slice (Some d) (b ∷ []) name i f s t e =
    unary action.Slice (codes "slice") name d b (refl, refl, refl, refl, refl) s t e refl
action_back action.Chan (Some d) (b ∷ []) name i f s t e =
    unary action.Chan (codes "chan") name d b (refl, refl, refl, refl, refl) s t e refl
action_back action.Recv (Some d) (b ∷ []) name i f s t e =
    unary action.Recv (codes "recv") name d b (refl, refl, refl, refl, refl) s t e refl
action_back action.Send None (b ∷ c ∷ []) name i f s t e =
    two_back (codes "send") b c (refl, refl, refl, refl, refl) (head_of b (c ∷ []) t) (head_of c [] (tail_of b (c ∷ []) t))
    ∙ plain action.Send None (b ∷ c ∷ []) name e
action_back action.Close None (b ∷ []) name i f s t e =
    one_back (codes "close") b (head_of b [] t) ∙ plain action.Close None (b ∷ []) name e
action_back (action.Get n) (Some d) [] name i f s t e =
    subst (λ m. read_action (action_words (only_name name) (action.Get m) (Some d) []) ≡ done (action.Get m) (Some d) [] name)
    (sym e.0) (first_back (codes "get") name d refl s ∙ named_back (tac.Do (Some d) (action.Get 0) []) name e.1)
action_back (action.Set n) None (b ∷ []) name i f s t e =
    subst (λ m. read_action (action_words (only_name name) (action.Set m) None (b ∷ [])) ≡ done (action.Set m) None (b ∷ []) name)
    (sym e.0) (
    ap (λ o. on_some o (λ m. named_action (tac.Do None (action.Set 0) (m ∷ [])) name)) (number_back b (head_of b [] t))
    ∙ named_back (tac.Do None (action.Set 0) (b ∷ [])) name e.1)
action_back _ to from name i f s t e = absurd (i refl)
