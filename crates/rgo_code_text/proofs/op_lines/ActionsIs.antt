-- What is read of the words of an action has these words: nothing else is read. `ActionsBack` is the other direction.
use Rattle.std.proofs.Common.{◌≡◌, ◌≢◌, ℕ, ◌==◌, List, [], ◌∷◌, length, Option, Some, None, refl, sym, ap, ◌∙◌, subst, decimal, codes}
use Rattle.std.proofs.lemmas.Bool.Decides.{Decides-eqb}
use Rattle.std.proofs.lemmas.List.Elements.{All-nil, All-cons}
use Rattle.rgo_ast.specs.declared.ops.BinaryOp.{BinaryOp}
use Rattle.rgo_ast.specs.declared.ops.BinaryOp.TheVariants as binary
use Rattle.rgo_typed.specs.declared.actions.Action.{Action}
use Rattle.rgo_typed.specs.declared.actions.Action.TheVariants as action
use Rattle.rgo_tac.specs.Code as tac
use Rattle.rgo_code_text.specs.Actions.{NamedAction, with_one, with_two, with_three, with_operator, read_with_target, taking, two_words, three_words, four_words, five_words, read_set, read_action}
use Rattle.rgo_code_words.specs.Cuts.{nth_word}
use Rattle.rgo_code_text.specs.Items.{only_name, ActionIsNamed}
use Rattle.rgo_code_words.specs.Readers.{read_number, read_int, read_operator, read_truth, read_variable}
use Rattle.rgo_code_printing.specs.Text.{action_words}
use Rattle.rgo_code_printing.specs.Words.{variable_word, operator_word}
use Rattle.rgo_code_text.specs.Written.{ActionHasText, IsInstruction}
use Rattle.rgo_code_words.specs.Worded.{is_name, IsSmallNumber, AreSmall, ValueFits, OperatorFits}
use Rattle.rgo_code_words.proofs.Cutting.{two_of, three_of, four_of, five_of}
use Rattle.rgo_code_words.proofs.Integers.{int_sound}
use Rattle.rgo_code_words.proofs.Numerals.{number_sound}
use Rattle.rgo_code_words.proofs.Options.{some_same, not_none, under, after_some, by_word, either}
use Rattle.rgo_code_words.proofs.WordsBack.{lettered_is, truth_is, operator_is}

-- an action that fits has these words
pub record IsAction (words : List (List ℕ)) (a : NamedAction) : Type 0 where
  pub to : Option ℕ
  pub action : Action
  pub from : List ℕ
  pub op_is : a.op ≡ tac.Do to action from
  pub words_are : words ≡ action_words (only_name a.name) action to from
  pub instruction : IsInstruction action to from
  pub fits : ActionHasText action
  pub value : ValueFits to
  pub small : AreSmall from
  pub named : ActionIsNamed action a.name

none_small : AreSmall []
none_small = All-nil IsSmallNumber

one_small : (a : ℕ) → IsSmallNumber a → AreSmall (a ∷ [])
one_small a s = All-cons IsSmallNumber a [] s none_small

two_small : (a b : ℕ) → IsSmallNumber a → IsSmallNumber b → AreSmall (a ∷ b ∷ [])
two_small a b s t = All-cons IsSmallNumber a (b ∷ []) s (one_small b t)

three_small : (a b c : ℕ) → IsSmallNumber a → IsSmallNumber b → IsSmallNumber c → AreSmall (a ∷ b ∷ c ∷ [])
three_small a b c s t u = All-cons IsSmallNumber a (b ∷ c ∷ []) s (two_small b c t u)

not_empty : {A : Type 0} (a : A) (xs : List A) → a ∷ xs ≢ []
not_empty a xs e = cc

-- an action that was read, as a whole
made : (words : List (List ℕ)) (x : NamedAction) (to : Option ℕ) (a : Action) (from name : List ℕ)
    → Some (record { op = tac.Do to a from; name = name }) ≡ Some x → words ≡ action_words (only_name name) a to from
    → IsInstruction a to from → ActionHasText a → ValueFits to → AreSmall from → ActionIsNamed a name → IsAction words x
made words x to a from name e w i f v s n =
    subst (IsAction words) (some_same (record { op = tac.Do to a from; name = name }) x e) (record {
      to = to;
      action = a;
      from = from;
      op_is = refl;
      words_are = w;
      instruction = i;
      fits = f;
      value = v;
      small = s;
      named = n;
    })

-- ---- by the number of words

one_is : (word : List ℕ) (a : ℕ) (x : NamedAction) → IsSmallNumber a → with_one word a ≡ Some x
    → IsAction (word ∷ variable_word a ∷ []) x
one_is word a x s e =
    let ws = λ (w : List ℕ). w ∷ variable_word a ∷ [] in
    by_word word (codes "nil") _ _ x (IsAction (ws word) x) e
    (λ w q. made (ws word) x (Some a) action.Nil [] [] q (ap ws w) (not_empty _ _) tt s none_small refl) (λ e.
    by_word word (codes "close") _ _ x (IsAction (ws word) x) e
    (λ w q. made (ws word) x None action.Close (a ∷ []) [] q (ap ws w) (not_empty _ _) tt tt (one_small a s) refl)
    (λ q. absurd (not_none x q)))

two_is : (word : List ℕ) (a b : ℕ) (x : NamedAction) → IsSmallNumber a → IsSmallNumber b → with_two word a b ≡ Some x
    → IsAction (word ∷ variable_word a ∷ variable_word b ∷ []) x
two_is word a b x s t e =
    let ws = λ (w : List ℕ). w ∷ variable_word a ∷ variable_word b ∷ [] in
    let u = one_small b t in
    by_word word (codes "copy") _ _ x (IsAction (ws word) x) e
    (λ w q. made (ws word) x (Some a) action.Copy (b ∷ []) [] q (ap ws w) (not_empty _ _) tt s u refl) (λ e.
    by_word word (codes "neg") _ _ x (IsAction (ws word) x) e
    (λ w q. made (ws word) x (Some a) action.Neg (b ∷ []) [] q (ap ws w) (not_empty _ _) tt s u refl) (λ e.
    by_word word (codes "not") _ _ x (IsAction (ws word) x) e
    (λ w q. made (ws word) x (Some a) action.Not (b ∷ []) [] q (ap ws w) (not_empty _ _) tt s u refl) (λ e.
    by_word word (codes "isnil") _ _ x (IsAction (ws word) x) e
    (λ w q. made (ws word) x (Some a) action.IsNil (b ∷ []) [] q (ap ws w) (not_empty _ _) tt s u refl) (λ e.
    by_word word (codes "len") _ _ x (IsAction (ws word) x) e
    (λ w q. made (ws word) x (Some a) action.Len (b ∷ []) [] q (ap ws w) (not_empty _ _) tt s u refl) (λ e.
    by_word word (codes "slice") _ _ x (IsAction (ws word) x) e
    (λ w q. made (ws word) x (Some a) action.Slice (b ∷ []) [] q (ap ws w) (not_empty _ _) tt s u refl) (λ e.
    by_word word (codes "chan") _ _ x (IsAction (ws word) x) e
    (λ w q. made (ws word) x (Some a) action.Chan (b ∷ []) [] q (ap ws w) (not_empty _ _) tt s u refl) (λ e.
    by_word word (codes "recv") _ _ x (IsAction (ws word) x) e
    (λ w q. made (ws word) x (Some a) action.Recv (b ∷ []) [] q (ap ws w) (not_empty _ _) tt s u refl) (λ e.
    by_word word (codes "send") _ _ x (IsAction (ws word) x) e
    (λ w q. made (ws word) x None action.Send (a ∷ b ∷ []) [] q (ap ws w) (not_empty _ _) tt tt (two_small a b s t) refl)
    (λ q. absurd (not_none x q))))))))))

three_is : (word : List ℕ) (a b c : ℕ) (x : NamedAction) → IsSmallNumber a → IsSmallNumber b → IsSmallNumber c → with_three word a b c ≡ Some x
    → IsAction (word ∷ variable_word a ∷ variable_word b ∷ variable_word c ∷ []) x
three_is word a b c x s t u e =
    let ws = λ (w : List ℕ). w ∷ variable_word a ∷ variable_word b ∷ variable_word c ∷ [] in
    by_word word (codes "at") _ _ x (IsAction (ws word) x) e
    (λ w q. made (ws word) x (Some a) action.At (b ∷ c ∷ []) [] q (ap ws w) (not_empty _ _) tt s (two_small b c t u) refl) (λ e.
    by_word word (codes "put") _ _ x (IsAction (ws word) x) e
    (λ w q. made (ws word) x None action.Put (a ∷ b ∷ c ∷ []) [] q (ap ws w) (not_empty _ _) tt tt (three_small a b c s t u) refl)
    (λ q. absurd (not_none x q)))

-- ---- words that are read each by itself

two_words_is : (words : List (List ℕ)) (x : NamedAction) → length words ≡ 2 → two_words words ≡ Some x → IsAction words x
two_words_is words x l e =
    let a = after_some (read_variable (nth_word words 1)) _ x e in
    let v = lettered_is 118 (nth_word words 1) a.value a.was in
    subst (λ ws. IsAction ws x) (sym (two_of words l ∙ ap (λ w. nth_word words 0 ∷ w ∷ []) v.0))
    (one_is (nth_word words 0) a.value x v.1 a.is)

setting_is : (words : List (List ℕ)) (x : NamedAction) → length words ≡ 3 → nth_word words 0 ≡ codes "set" → read_set words ≡ Some x
    → IsAction words x
setting_is words x l w e =
    let a = after_some (read_variable (nth_word words 2)) _ x e in
    let v = lettered_is 118 (nth_word words 2) a.value a.was in
    let u = under (is_name (nth_word words 1)) _ x a.is in
    made words x None (action.Set 0) (a.value ∷ []) (nth_word words 1) u.is
    (three_of words l ∙ ap (λ w. w ∷ nth_word words 1 ∷ nth_word words 2 ∷ []) w
    ∙ ap (λ w. codes "set" ∷ nth_word words 1 ∷ w ∷ []) v.0)
    (not_empty _ _) tt tt (one_small a.value v.1) (refl, u.holds)

giving_is : (word last : List ℕ) (d : ℕ) (x : NamedAction) → IsSmallNumber d → read_with_target d word last ≡ Some x
    → IsAction (word ∷ variable_word d ∷ last ∷ []) x
giving_is word last d x s e =
    let ws = λ (w l : List ℕ). w ∷ variable_word d ∷ l ∷ [] in
    by_word word (codes "int") _ _ x (IsAction (ws word last) x) e
    (λ w q.
    let a = after_some (read_int last) _ x q in
    let z = int_sound last a.value a.was in
    made (ws word last) x (Some d) (action.Int a.value) [] [] a.is (ap (λ w. ws w last) w ∙ ap (ws (codes "int")) z.0)
    (not_empty _ _) z.1 s none_small refl) (λ e.
    by_word word (codes "bool") _ _ x (IsAction (ws word last) x) e
    (λ w q.
    let a = after_some (read_truth last) _ x q in
    made (ws word last) x (Some d) (action.Bool a.value) [] [] a.is
    (ap (λ w. ws w last) w ∙ ap (ws (codes "bool")) (truth_is last a.value a.was))
    (not_empty _ _) tt s none_small refl) (λ e.
    by_word word (codes "new") _ _ x (IsAction (ws word last) x) e
    (λ w q.
    let u = under (is_name last) _ x q in
    made (ws word last) x (Some d) (action.New 0) [] last u.is (ap (λ w. ws w last) w) (not_empty _ _) tt s none_small
    (refl, u.holds)) (λ e.
    by_word word (codes "get") _ _ x (IsAction (ws word last) x) e
    (λ w q.
    let u = under (is_name last) _ x q in
    made (ws word last) x (Some d) (action.Get 0) [] last u.is (ap (λ w. ws w last) w) (not_empty _ _) tt s none_small
    (refl, u.holds)) (λ e.
    let a = after_some (read_variable last) _ x e in
    let v = lettered_is 118 last a.value a.was in
    subst (λ l. IsAction (ws word l) x) (sym v.0) (two_is word d a.value x s v.1 a.is)))))

three_words_is : (words : List (List ℕ)) (x : NamedAction) → length words ≡ 3 → three_words words ≡ Some x → IsAction words x
three_words_is words x l e =
    by_word (nth_word words 0) (codes "set") _ _ x (IsAction words x) e (λ w q. setting_is words x l w q) (λ e.
    let a = after_some (read_variable (nth_word words 1)) _ x e in
    let v = lettered_is 118 (nth_word words 1) a.value a.was in
    subst (λ ws. IsAction ws x) (sym (three_of words l ∙ ap (λ w. nth_word words 0 ∷ w ∷ nth_word words 2 ∷ []) v.0))
    (giving_is (nth_word words 0) (nth_word words 2) a.value x v.1 a.is))

four_words_is : (words : List (List ℕ)) (x : NamedAction) → length words ≡ 4 → four_words words ≡ Some x → IsAction words x
four_words_is words x l e =
    let a = after_some (read_variable (nth_word words 1)) _ x e in
    let v = lettered_is 118 (nth_word words 1) a.value a.was in
    taken a.value v.1 (four_of words l ∙ ap (λ w. nth_word words 0 ∷ w ∷ nth_word words 2 ∷ nth_word words 3 ∷ []) v.0) a.is
  where
    taken : (a : ℕ) → IsSmallNumber a → words ≡ nth_word words 0 ∷ variable_word a ∷ nth_word words 2 ∷ nth_word words 3 ∷ []
        → taking a words ≡ Some x → IsAction words x
    taken a s are e =
        by_word (nth_word words 0) (codes "load") _ _ x (IsAction words x) e
        (λ w q.
        let b = after_some (read_variable (nth_word words 2)) _ x q in
        let k = after_some (read_number (nth_word words 3)) _ x b.is in
        let v = lettered_is 118 (nth_word words 2) b.value b.was in
        let n = number_sound (nth_word words 3) k.value k.was in
        made words x (Some a) (action.Load k.value) (b.value ∷ []) [] k.is
        (are ∙ ap (λ w. w ∷ variable_word a ∷ nth_word words 2 ∷ nth_word words 3 ∷ []) w
        ∙ ap (λ w. codes "load" ∷ variable_word a ∷ w ∷ nth_word words 3 ∷ []) v.0
        ∙ ap (λ w. codes "load" ∷ variable_word a ∷ variable_word b.value ∷ w ∷ []) n.0)
        (not_empty _ _) n.1 s (one_small b.value v.1) refl) (λ e.
        by_word (nth_word words 0) (codes "store") _ _ x (IsAction words x) e
        (λ w q.
        let k = after_some (read_number (nth_word words 2)) _ x q in
        let b = after_some (read_variable (nth_word words 3)) _ x k.is in
        let n = number_sound (nth_word words 2) k.value k.was in
        let v = lettered_is 118 (nth_word words 3) b.value b.was in
        made words x None (action.Store k.value) (a ∷ b.value ∷ []) [] b.is
        (are ∙ ap (λ w. w ∷ variable_word a ∷ nth_word words 2 ∷ nth_word words 3 ∷ []) w
        ∙ ap (λ w. codes "store" ∷ variable_word a ∷ w ∷ nth_word words 3 ∷ []) n.0
        ∙ ap (λ w. codes "store" ∷ variable_word a ∷ decimal k.value ∷ w ∷ []) v.0)
        (not_empty _ _) n.1 tt (two_small a b.value s v.1) refl) (λ e.
        let b = after_some (read_variable (nth_word words 2)) _ x e in
        let c = after_some (read_variable (nth_word words 3)) _ x b.is in
        let v = lettered_is 118 (nth_word words 2) b.value b.was in
        let w = lettered_is 118 (nth_word words 3) c.value c.was in
        subst (λ ws. IsAction ws x)
        (sym (are ∙ ap (λ w. nth_word words 0 ∷ variable_word a ∷ w ∷ nth_word words 3 ∷ []) v.0
        ∙ ap (λ w. nth_word words 0 ∷ variable_word a ∷ variable_word b.value ∷ w ∷ []) w.0))
        (three_is (nth_word words 0) a b.value c.value x s v.1 w.1 c.is)))

operator_was : (op : BinaryOp) (d a b : ℕ) (x : NamedAction) → with_operator op d a b ≡ Some x → OperatorFits op
    → Some (record { op = tac.Do (Some d) (action.Binary op) (a ∷ b ∷ []); name = [] }) ≡ Some x
operator_was binary.Mul d a b x e f = e
operator_was binary.Div d a b x e f = e
operator_was binary.Rem d a b x e f = e
operator_was binary.Add d a b x e f = e
operator_was binary.Sub d a b x e f = e
operator_was binary.Eq d a b x e f = e
operator_was binary.Ne d a b x e f = e
operator_was binary.Lt d a b x e f = e
operator_was binary.Le d a b x e f = e
operator_was binary.Gt d a b x e f = e
operator_was binary.Ge d a b x e f = e
operator_was binary.And d a b x e f = absurd f
operator_was binary.Or d a b x e f = absurd f

five_words_is : (words : List (List ℕ)) (x : NamedAction) → length words ≡ 5 → five_words words ≡ Some x → IsAction words x
five_words_is words x l e =
    by_word (nth_word words 0) (codes "bin") _ _ x (IsAction words x) e
    (λ w q.
    let d = after_some (read_variable (nth_word words 1)) _ x q in
    let o = after_some (read_operator (nth_word words 2)) _ x d.is in
    let a = after_some (read_variable (nth_word words 3)) _ x o.is in
    let b = after_some (read_variable (nth_word words 4)) _ x a.is in
    let u = lettered_is 118 (nth_word words 1) d.value d.was in
    let v = operator_is (nth_word words 2) o.value o.was in
    let y = lettered_is 118 (nth_word words 3) a.value a.was in
    let z = lettered_is 118 (nth_word words 4) b.value b.was in
    made words x (Some d.value) (action.Binary o.value) (a.value ∷ b.value ∷ []) []
    (operator_was o.value d.value a.value b.value x b.is v.1)
    (five_of words l ∙ ap (λ w. w ∷ nth_word words 1 ∷ nth_word words 2 ∷ nth_word words 3 ∷ nth_word words 4 ∷ []) w
    ∙ ap (λ w. codes "bin" ∷ w ∷ nth_word words 2 ∷ nth_word words 3 ∷ nth_word words 4 ∷ []) u.0
    ∙ ap (λ w. codes "bin" ∷ variable_word d.value ∷ w ∷ nth_word words 3 ∷ nth_word words 4 ∷ []) v.0
    ∙ ap (λ w. codes "bin" ∷ variable_word d.value ∷ operator_word o.value ∷ w ∷ nth_word words 4 ∷ []) y.0
    ∙ ap (λ w. codes "bin" ∷ variable_word d.value ∷ operator_word o.value ∷ variable_word a.value ∷ w ∷ []) z.0)
    (not_empty _ _) v.1 u.1 (two_small a.value b.value y.1 z.1) refl)
    (λ q. absurd (not_none x q))

pub action_is : (words : List (List ℕ)) (x : NamedAction) → read_action words ≡ Some x → IsAction words x
action_is words x e =
    either (length words == 2) _ _ x (IsAction words x) e
    (λ t q. two_words_is words x ((Decides-eqb (length words) 2).0 t) q) (λ e.
    either (length words == 3) _ _ x (IsAction words x) e
    (λ t q. three_words_is words x ((Decides-eqb (length words) 3).0 t) q) (λ e.
    either (length words == 4) _ _ x (IsAction words x) e
    (λ t q. four_words_is words x ((Decides-eqb (length words) 4).0 t) q) (λ e.
    either (length words == 5) _ _ x (IsAction words x) e
    (λ t q. five_words_is words x ((Decides-eqb (length words) 5).0 t) q)
    (λ q. absurd (not_none x q)))))
