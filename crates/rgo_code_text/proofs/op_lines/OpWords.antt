-- The words of operations.
use Rattle.std.proofs.Common.{◌≡◌, ℕ, suc, ◌<◌, ◌≤◌, ℤ, pos, negsuc, Bool, true, false, ◌||◌, List, [], ◌∷◌, ◌++◌, length, Option, Some, None, refl, sym, subst, arith, length-append, codes, decimal}
use Rattle.std.specs.Fmt.{signed_decimal}
use Rattle.std.specs.Str.{bytes_eq}
use Rattle.std.proofs.lemmas.List.Elements.{All-nil, All-cons, All-head, All-tail, All-append}
use Rattle.rgo_typed.specs.declared.actions.Action.{Action}
use Rattle.rgo_typed.specs.declared.actions.Action.TheVariants as action
use Rattle.rgo_code.specs.Code.{CodeOp, Do, Call, Go, Print, Jump, Branch, Return}
use Rattle.rgo_code_words.specs.Cuts.{nth_word}
use Rattle.rgo_code_text.specs.Items.{only_name, AwaitsNumber, ActionIsNamed, OpIsNamed}
use Rattle.rgo_code_printing.specs.Text.{action_words, op_words, value_word}
use Rattle.rgo_code_printing.specs.Words.{name_at, operator_word, variable_word, removes_word, callee_word, passes_word, protects_word}
use Rattle.rgo_code_text.specs.Written.{ActionHasText, IsInstruction, OpHasText}
use Rattle.rgo_code_words.specs.Worded.{IntFits, IsSmallNumber, AreSmall, AreRegions, ValueFits}
use Rattle.rgo_code_words.proofs.Lacks.{From, AllFrom, from_test, from_cons, from_both, from_less, decimal_from, lettered_from, name_from}
use Rattle.rgo_code_words.proofs.WordsBack.{arguments_from, bool_from, operator_from, regions_from, passes_from, value_from}

-- the first words of operations other than actions
abbrev pub is_keyword : List ℕ → Bool
is_keyword word =
    bytes_eq word (codes "print") || (bytes_eq word (codes "call") || (bytes_eq word (codes "go")
    || (bytes_eq word (codes "jump") || (bytes_eq word (codes "branch") || bytes_eq word (codes "return")))))

-- ---- single words

pub variable_from : (v : ℕ) → IsSmallNumber v → From 33 (variable_word v)
variable_from v s = lettered_from 33 118 v (omega arith) (omega arith) s

pub number_from : (k : ℕ) → IsSmallNumber k → From 33 (decimal k)
number_from k s = from_less 33 48 (decimal k) (omega arith) (decimal_from k (omega (arith, s)))

int_from : (z : ℤ) → IntFits z → From 33 (signed_decimal z)
int_from (pos n) f = from_less 33 48 (decimal n) (omega arith) (decimal_from n (omega (arith, f)))
int_from (negsuc n) f =
    from_cons 33 45 (decimal (suc n)) (omega arith)
    (from_less 33 48 (decimal (suc n)) (omega arith) (decimal_from (suc n) (omega (arith, f))))

pub known_from : (n : ℕ) (name : List ℕ) → AwaitsNumber n name → From 33 (name_at (name ∷ []) n)
known_from n name i =
    subst (λ m. From 33 (name_at (name ∷ []) m)) (sym i.0) (from_less 33 48 name (omega arith) (name_from name i.1))

pub callee_from : (n : ℕ) (name from : List ℕ) → AwaitsNumber n name → AreSmall from
    → From 33 (callee_word (name_at (name ∷ []) n) from)
callee_from n name from i s =
    from_both 33 (name_at (name ∷ []) n) _ (known_from n name i) (arguments_from from s)

-- ---- several

pub no_words : AllFrom 33 []
no_words = All-nil (From 33)

pub and_word : (w : List ℕ) (ws : List (List ℕ)) → From 33 w → AllFrom 33 ws → AllFrom 33 (w ∷ ws)
and_word w ws f g = All-cons (From 33) w ws f g

one : (a : List ℕ) → From 33 a → AllFrom 33 (a ∷ [])
one a f = and_word a [] f no_words

two : (a b : List ℕ) → From 33 a → From 33 b → AllFrom 33 (a ∷ b ∷ [])
two a b f g = and_word a (b ∷ []) f (one b g)

three : (a b c : List ℕ) → From 33 a → From 33 b → From 33 c → AllFrom 33 (a ∷ b ∷ c ∷ [])
three a b c f g h = and_word a (b ∷ c ∷ []) f (two b c g h)

-- ---- actions

-- the words of an action or of another operation, but not of a print
pub record Worded (words : List (List ℕ)) : Type 0 where
  pub some : 0 < length words
  pub short : length words ≤ 5
  pub plain : is_keyword (nth_word words 0) ≡ false
  pub from : AllFrom 33 words

keyword : (word : List ℕ) (words : List (List ℕ)) → is_keyword word ≡ false → From 33 word → length words ≤ 4 → AllFrom 33 words
    → Worded (word ∷ words)
keyword word words k f l g = record { some = omega arith; short = omega (arith, l); plain = k; from = and_word word words f g }

unary : (word : List ℕ) (d b : ℕ) → is_keyword word ≡ false → From 33 word → IsSmallNumber d → AreSmall (b ∷ [])
    → Worded (word ∷ variable_word d ∷ variable_word b ∷ [])
unary word d b k f s t =
    keyword word (variable_word d ∷ variable_word b ∷ []) k f (omega arith)
    (two (variable_word d) (variable_word b) (variable_from d s) (variable_from b (All-head IsSmallNumber b [] t)))

pub action_worded : (a : Action) (to : Option ℕ) (from name : List ℕ) → IsInstruction a to from → ActionHasText a → ValueFits to
    → AreSmall from → ActionIsNamed a name → Worded (action_words (only_name name) a to from)
action_worded (action.Int z) (Some d) [] name i f s t e =
    keyword (codes "int") _ refl (from_test 33 (codes "int") refl) (omega arith)
    (two (variable_word d) (signed_decimal z) (variable_from d s) (int_from z f))
action_worded (action.Bool b) (Some d) [] name i f s t e =
    keyword (codes "bool") _ refl (from_test 33 (codes "bool") refl) (omega arith)
    (two (variable_word d) _ (variable_from d s) (bool_from b))
action_worded action.Nil (Some d) [] name i f s t e =
    keyword (codes "nil") _ refl (from_test 33 (codes "nil") refl) (omega arith) (one (variable_word d) (variable_from d s))
action_worded action.Copy (Some d) (b ∷ []) name i f s t e = unary (codes "copy") d b refl (from_test 33 (codes "copy") refl) s t
action_worded (action.Binary op) (Some d) (b ∷ c ∷ []) name i f s t e =
    keyword (codes "bin") _ refl (from_test 33 (codes "bin") refl) (omega arith)
    (and_word (variable_word d) (operator_word op ∷ variable_word b ∷ variable_word c ∷ []) (variable_from d s)
    (three (operator_word op) (variable_word b) (variable_word c) (operator_from op)
    (variable_from b (All-head IsSmallNumber b (c ∷ []) t)) (variable_from c (All-head IsSmallNumber c [] (All-tail IsSmallNumber b (c ∷ []) t)))))
action_worded action.Neg (Some d) (b ∷ []) name i f s t e = unary (codes "neg") d b refl (from_test 33 (codes "neg") refl) s t
action_worded action.Not (Some d) (b ∷ []) name i f s t e = unary (codes "not") d b refl (from_test 33 (codes "not") refl) s t
action_worded action.IsNil (Some d) (b ∷ []) name i f s t e = unary (codes "isnil") d b refl (from_test 33 (codes "isnil") refl) s t
action_worded action.Len (Some d) (b ∷ []) name i f s t e = unary (codes "len") d b refl (from_test 33 (codes "len") refl) s t
action_worded (action.Load k) (Some d) (b ∷ []) name i f s t e =
    keyword (codes "load") _ refl (from_test 33 (codes "load") refl) (omega arith)
    (three (variable_word d) (variable_word b) (decimal k) (variable_from d s) (variable_from b (All-head IsSmallNumber b [] t)) (number_from k f))
action_worded (action.Store k) None (b ∷ c ∷ []) name i f s t e =
    keyword (codes "store") _ refl (from_test 33 (codes "store") refl) (omega arith)
    (three (variable_word b) (decimal k) (variable_word c) (variable_from b (All-head IsSmallNumber b (c ∷ []) t)) (number_from k f)
    (variable_from c (All-head IsSmallNumber c [] (All-tail IsSmallNumber b (c ∷ []) t))))
action_worded action.At (Some d) (b ∷ c ∷ []) name i f s t e =
    keyword (codes "at") _ refl (from_test 33 (codes "at") refl) (omega arith)
    (three (variable_word d) (variable_word b) (variable_word c) (variable_from d s) (variable_from b (All-head IsSmallNumber b (c ∷ []) t))
    (variable_from c (All-head IsSmallNumber c [] (All-tail IsSmallNumber b (c ∷ []) t))))
action_worded action.Put None (b ∷ c ∷ g ∷ []) name i f s t e =
    let u = All-tail IsSmallNumber b (c ∷ g ∷ []) t in
    keyword (codes "put") _ refl (from_test 33 (codes "put") refl) (omega arith)
    (three (variable_word b) (variable_word c) (variable_word g) (variable_from b (All-head IsSmallNumber b (c ∷ g ∷ []) t))
    (variable_from c (All-head IsSmallNumber c (g ∷ []) u)) (variable_from g (All-head IsSmallNumber g [] (All-tail IsSmallNumber c (g ∷ []) u))))
action_worded (action.New n) (Some d) [] name i f s t e =
    keyword (codes "new") _ refl (from_test 33 (codes "new") refl) (omega arith)
    (two (variable_word d) _ (variable_from d s) (known_from n name e))
action_worded action.Slice (Some d) (b ∷ []) name i f s t e = unary (codes "slice") d b refl (from_test 33 (codes "slice") refl) s t
action_worded action.Chan (Some d) (b ∷ []) name i f s t e = unary (codes "chan") d b refl (from_test 33 (codes "chan") refl) s t
action_worded action.Recv (Some d) (b ∷ []) name i f s t e = unary (codes "recv") d b refl (from_test 33 (codes "recv") refl) s t
action_worded action.Send None (b ∷ c ∷ []) name i f s t e =
    keyword (codes "send") _ refl (from_test 33 (codes "send") refl) (omega arith)
    (two (variable_word b) (variable_word c) (variable_from b (All-head IsSmallNumber b (c ∷ []) t))
    (variable_from c (All-head IsSmallNumber c [] (All-tail IsSmallNumber b (c ∷ []) t))))
action_worded action.Close None (b ∷ []) name i f s t e =
    keyword (codes "close") _ refl (from_test 33 (codes "close") refl) (omega arith)
    (one (variable_word b) (variable_from b (All-head IsSmallNumber b [] t)))
action_worded (action.Get n) (Some d) [] name i f s t e =
    keyword (codes "get") _ refl (from_test 33 (codes "get") refl) (omega arith)
    (two (variable_word d) _ (variable_from d s) (known_from n name e))
action_worded (action.Set n) None (b ∷ []) name i f s t e =
    keyword (codes "set") _ refl (from_test 33 (codes "set") refl) (omega arith)
    (two _ (variable_word b) (known_from n name e) (variable_from b (All-head IsSmallNumber b [] t)))
action_worded _ to from name i f s t e = absurd (i refl)

-- ---- operations

abbrev pub IsPrint : CodeOp → Type 0
IsPrint (Print pieces from removes) = Unit {0}
IsPrint op = ⊥

pub removes_from : (removes : List ℕ) → AreRegions removes → From 33 (removes_word removes)
removes_from removes r = regions_from 45 removes (omega arith) r

-- the words of an operation other than a print
pub record OpWorded (words : List (List ℕ)) : Type 0 where
  pub some : 0 < length words
  pub short : length words ≤ 6
  pub plain : bytes_eq (nth_word words 0) (codes "print") ≡ false
  pub from : AllFrom 33 words

no_print : (word : List ℕ) → is_keyword word ≡ false → bytes_eq word (codes "print") ≡ false
no_print word k = by (bytes_eq word (codes "print")) _ k
  where
    by : (a b : Bool) → (a || b) ≡ false → a ≡ false
    by true b e = e
    by false b e = refl

with_removes : (words : List (List ℕ)) (removes : List ℕ) → Worded words → AreRegions removes
    → OpWorded (words ++ removes_word removes ∷ [])
with_removes [] removes w r = absurd (omega (arith, w.some))
with_removes (word ∷ words) removes w r = record {
  some = omega arith;
  short = omega (arith, w.short, length-append words (removes_word removes ∷ []));
  plain = no_print word w.plain;
  from = All-append (From 33) (word ∷ words) (removes_word removes ∷ []) w.from
      (one (removes_word removes) (removes_from removes r));
}

pub op_worded : (op : CodeOp) (name : List ℕ) → OpHasText op → OpIsNamed op name → ¬ (IsPrint op)
    → OpWorded (op_words (only_name name) op)
op_worded (Do to action from removes) name f i p =
    with_removes (action_words (only_name name) action to from) removes
    (action_worded action to from name f.0 f.1 f.2 f.3 i) f.4
op_worded (Call to n from passes protects removes) name f i p = record {
  some = omega arith;
  short = omega arith;
  plain = refl;
  from = All-append (From 33) (codes "call" ∷ value_word to ∷ callee_word (name_at (name ∷ []) n) from ∷ [])
      (passes_word passes ∷ protects_word protects ∷ removes_word removes ∷ [])
      (three (codes "call") (value_word to) (callee_word (name_at (name ∷ []) n) from) (from_test 33 (codes "call") refl)
      (value_from to f.0) (callee_from n name from i f.1)) (three (passes_word passes) (protects_word protects) (removes_word removes)
      (passes_from passes f.2) (regions_from 80 protects (omega arith) f.3) (removes_from removes f.4));
}
op_worded (Go n from passes removes) name f i p = record {
  some = omega arith;
  short = omega arith;
  plain = refl;
  from = and_word (codes "go") (callee_word (name_at (name ∷ []) n) from ∷ passes_word passes ∷ removes_word removes ∷ [])
      (from_test 33 (codes "go") refl)
      (three (callee_word (name_at (name ∷ []) n) from) (passes_word passes) (removes_word removes)
      (callee_from n name from i f.0) (passes_from passes f.1) (removes_from removes f.2));
}
op_worded (Print pieces from removes) name f i p = absurd (p tt)
op_worded (Jump target removes) name f i p = record {
  some = omega arith;
  short = omega arith;
  plain = refl;
  from = three (codes "jump") (decimal target) (removes_word removes) (from_test 33 (codes "jump") refl)
      (number_from target f.0) (removes_from removes f.1);
}
op_worded (Branch test target removes other otherwise) name f i p = record {
  some = omega arith;
  short = omega arith;
  plain = refl;
  from = All-append (From 33) (codes "branch" ∷ variable_word test ∷ decimal target ∷ [])
      (removes_word removes ∷ decimal other ∷ removes_word otherwise ∷ [])
      (three (codes "branch") (variable_word test) (decimal target) (from_test 33 (codes "branch") refl)
      (variable_from test f.0) (number_from target f.1))
      (three (removes_word removes) (decimal other) (removes_word otherwise)
      (removes_from removes f.2) (number_from other f.3) (removes_from otherwise f.4));
}
op_worded (Return value) name f i p = record {
  some = omega arith;
  short = omega arith;
  plain = refl;
  from = two (codes "return") (value_word value) (from_test 33 (codes "return") refl) (value_from value f);
}
