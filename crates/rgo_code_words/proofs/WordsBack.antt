-- Words are read back, and nothing else is read: for each kind of word a lemma `.._back` and a lemma `.._is`.
use Rattle.std.proofs.Common.{◌≡◌, ℕ, ◌<◌, ◌≤◌, ◌==◌, Bool, true, false, List, [], ◌∷◌, ◌++◌, map, length, Option, Some, None, if◌then◌else◌, refl, sym, ap, subst, ◌∙◌, arith, codes, decimal}
use Rattle.std.specs.List.{All}
use Rattle.std.specs.Option.{option_map}
use Rattle.std.proofs.lemmas.Bool.Decides.{Decides-eqb}
use Rattle.std.proofs.lemmas.List.Elements.{All-nil, All-cons, All-head, All-tail}
use Rattle.rgo_ast.specs.declared.ops.BinaryOp.{BinaryOp}
use Rattle.rgo_ast.specs.declared.ops.BinaryOp.TheVariants as binary
use Rattle.rgo_tac.specs.declared.regions.Class.{Class}
use Rattle.rgo_tac.specs.declared.regions.Class.TheVariants as class
use Rattle.rgo_code_words.specs.Readers.{read_number, read_lettered, read_variable, read_value, read_truth, read_class, read_operator, read_list, read_within, bytes_inside, if_ascending, is_ascending, read_regions, read_passes}
use Rattle.rgo_code_printing.specs.Text.{value_word}
use Rattle.rgo_code_printing.specs.Words.{variable_word, region_word, class_word, bool_word, operator_word, bracketed, comma_separated, passes_word}
use Rattle.rgo_code_words.specs.Worded.{IsSmallNumber, AreSmall, AreRegions, ClassFits, OperatorFits, ValueFits}
use Rattle.rgo_code_words.proofs.Ascending.{ascending_is, ascending_back}
use Rattle.rgo_code_words.proofs.Lacks.{From, AllFrom, from_nil, from_test, from_both, from_cons, from_less, joined_from, lacks_from, lettered_from}
use Rattle.rgo_code_words.proofs.ListWords.{Reads, inside_back, inside_is, list_back, list_is}
use Rattle.rgo_code_words.proofs.Numerals.{number_back, number_sound}
use Rattle.rgo_code_words.proofs.Options.{some_same, not_none, under, mapped, by_word}

-- ---- numbers after a letter

pub lettered_back : (letter k : ℕ) → IsSmallNumber k → read_lettered letter (letter ∷ decimal k) ≡ Some k
lettered_back letter k s =
    ap (λ t. if t then read_number (decimal k) else None) ((Decides-eqb letter letter).1 refl) ∙ number_back k s

pub lettered_is : (letter : ℕ) (word : List ℕ) (k : ℕ) → read_lettered letter word ≡ Some k
    → (word ≡ letter ∷ decimal k) × IsSmallNumber k
lettered_is letter [] k e = absurd (not_none k e)
lettered_is letter (b ∷ word) k e =
    let u = under (b == letter) (read_number word) k e in
    let n = number_sound word k u.is in
    (ap (λ c. c ∷ word) ((Decides-eqb b letter).0 u.holds) ∙ ap (λ w. letter ∷ w) n.0, n.1)

-- ---- values

pub value_back : (value : Option ℕ) → ValueFits value → read_value (value_word value) ≡ Some value
value_back None f = refl
value_back (Some v) f = ap (option_map Some) (number_back v f)

pub value_is : (word : List ℕ) (value : Option ℕ) → read_value word ≡ Some value
    → (word ≡ value_word value) × ValueFits value
value_is word value e =
    by_word word (codes "-") _ _ value ((word ≡ value_word value) × ValueFits value) e
    (λ w q. subst (λ v. (word ≡ value_word v) × ValueFits v) (some_same None value q) (w, tt)) (λ q.
    let m = mapped Some (read_variable word) value q in
    subst (λ v. (word ≡ value_word v) × ValueFits v) m.is (lettered_is 118 word m.value m.was))

pub truth_back : (b : Bool) → read_truth (bool_word b) ≡ Some b
truth_back true = refl
truth_back false = refl

pub truth_is : (word : List ℕ) (b : Bool) → read_truth word ≡ Some b → word ≡ bool_word b
truth_is word b e =
    by_word word (codes "true") _ _ b (word ≡ bool_word b) e (λ w q. w ∙ ap bool_word (some_same true b q)) (λ e.
    by_word word (codes "false") _ _ b (word ≡ bool_word b) e (λ w q. w ∙ ap bool_word (some_same false b q))
    (λ q. absurd (not_none b q)))

-- ---- classes

pub class_back : (c : Class) → ClassFits c → read_class (class_word c) ≡ Some c
class_back class.NoClass f = refl
class_back class.Global f = refl
class_back (class.Name k) f = ap (option_map class.Name) (number_back k f)

pub class_is : (word : List ℕ) (c : Class) → read_class word ≡ Some c → (word ≡ class_word c) × ClassFits c
class_is word c e =
    by_word word (codes "-") _ _ c ((word ≡ class_word c) × ClassFits c) e
    (λ w q. subst (λ d. (word ≡ class_word d) × ClassFits d) (some_same class.NoClass c q) (w, tt)) (λ e.
    by_word word (codes "G") _ _ c ((word ≡ class_word c) × ClassFits c) e
    (λ w q. subst (λ d. (word ≡ class_word d) × ClassFits d) (some_same class.Global c q) (w, tt)) (λ q.
    let m = mapped class.Name (read_lettered 114 word) c q in
    subst (λ d. (word ≡ class_word d) × ClassFits d) m.is (lettered_is 114 word m.value m.was)))

pub class_from : (c : Class) → ClassFits c → From 45 (class_word c)
class_from class.NoClass f = from_test 45 (codes "-") refl
class_from class.Global f = from_test 45 (codes "G") refl
class_from (class.Name k) f = lettered_from 45 114 k (omega arith) (omega arith) f

-- ---- operators

pub operator_back : (op : BinaryOp) → OperatorFits op → read_operator (operator_word op) ≡ Some op
operator_back binary.Mul f = refl
operator_back binary.Div f = refl
operator_back binary.Rem f = refl
operator_back binary.Add f = refl
operator_back binary.Sub f = refl
operator_back binary.Eq f = refl
operator_back binary.Ne f = refl
operator_back binary.Lt f = refl
operator_back binary.Le f = refl
operator_back binary.Gt f = refl
operator_back binary.Ge f = refl
operator_back binary.And f = absurd f
operator_back binary.Or f = absurd f

abbrev IsOperator : List ℕ → BinaryOp → Type 0
IsOperator word op = (word ≡ operator_word op) × OperatorFits op

pub operator_is : (word : List ℕ) (op : BinaryOp) → read_operator word ≡ Some op → (word ≡ operator_word op) × OperatorFits op
operator_is word op e =
    by_word word (codes "mul") _ _ op (IsOperator word op) e (λ w q. subst (IsOperator word) (some_same binary.Mul op q) (w, tt)) (λ e.
    by_word word (codes "div") _ _ op (IsOperator word op) e (λ w q. subst (IsOperator word) (some_same binary.Div op q) (w, tt)) (λ e.
    by_word word (codes "rem") _ _ op (IsOperator word op) e (λ w q. subst (IsOperator word) (some_same binary.Rem op q) (w, tt)) (λ e.
    by_word word (codes "add") _ _ op (IsOperator word op) e (λ w q. subst (IsOperator word) (some_same binary.Add op q) (w, tt)) (λ e.
    by_word word (codes "sub") _ _ op (IsOperator word op) e (λ w q. subst (IsOperator word) (some_same binary.Sub op q) (w, tt)) (λ e.
    by_word word (codes "eq") _ _ op (IsOperator word op) e (λ w q. subst (IsOperator word) (some_same binary.Eq op q) (w, tt)) (λ e.
    by_word word (codes "ne") _ _ op (IsOperator word op) e (λ w q. subst (IsOperator word) (some_same binary.Ne op q) (w, tt)) (λ e.
    by_word word (codes "lt") _ _ op (IsOperator word op) e (λ w q. subst (IsOperator word) (some_same binary.Lt op q) (w, tt)) (λ e.
    by_word word (codes "le") _ _ op (IsOperator word op) e (λ w q. subst (IsOperator word) (some_same binary.Le op q) (w, tt)) (λ e.
    by_word word (codes "gt") _ _ op (IsOperator word op) e (λ w q. subst (IsOperator word) (some_same binary.Gt op q) (w, tt)) (λ e.
    by_word word (codes "ge") _ _ op (IsOperator word op) e (λ w q. subst (IsOperator word) (some_same binary.Ge op q) (w, tt))
    (λ q. absurd (not_none op q))))))))))))

-- ---- lists

lettered_reads : (letter : ℕ) → 45 ≤ letter → Reads 44 (read_lettered letter) (λ k. letter ∷ decimal k) IsSmallNumber
lettered_reads letter l = record {
  back = lettered_back letter;
  is = lettered_is letter;
  lacks = λ k s. lacks_from 45 44 (letter ∷ decimal k) (omega arith) (lettered_from 45 letter k l (omega arith) s);
}

long_word : (letter k : ℕ) → 0 < length (letter ∷ decimal k)
long_word letter k = omega arith

class_reads : Reads 44 read_class class_word ClassFits
class_reads = record {
  back = class_back;
  is = class_is;
  lacks = λ c f. lacks_from 45 44 (class_word c) (omega arith) (class_from c f);
}

long_class : (c : Class) → 0 < length (class_word c)
long_class class.NoClass = omega arith
long_class class.Global = omega arith
long_class (class.Name k) = omega arith

pub numbers_back : (letter : ℕ) (ks : List ℕ) → 45 ≤ letter → AreSmall ks
    → read_list (read_lettered letter) (comma_separated (map (λ k. letter ∷ decimal k) ks)) ≡ Some ks
numbers_back letter ks l s =
    list_back (read_lettered letter) (λ k. letter ∷ decimal k) IsSmallNumber (lettered_reads letter l) (long_word letter) ks s

pub numbers_is : (letter : ℕ) (list ks : List ℕ) → 45 ≤ letter → read_list (read_lettered letter) list ≡ Some ks
    → (list ≡ comma_separated (map (λ k. letter ∷ decimal k) ks)) × AreSmall ks
numbers_is letter list ks l e =
    list_is (read_lettered letter) (λ k. letter ∷ decimal k) IsSmallNumber (lettered_reads letter l) (long_word letter) list ks e

-- names of regions in brackets
pub regions_back : (sign : ℕ) (names : List ℕ) → AreRegions names
    → read_regions sign (sign ∷ bracketed (map region_word names)) ≡ Some names
regions_back sign names r =
    ap (λ o. if_ascending (read_within (read_lettered 114) o)) (inside_back (sign ∷ 91 ∷ []) (comma_separated (map region_word names)) 93)
    ∙ ap if_ascending (numbers_back 114 names (omega arith) r.1)
    ∙ ap (λ t. if t then Some names else None) (ascending_back names r.0)

record IsWithin {A : Type 0} (read : List ℕ → Option A) (o : Option (List ℕ)) (xs : List A) : Type 0 where
  pub list : List ℕ
  pub was : o ≡ Some list
  pub is : read_list read list ≡ Some xs

within_is : {A : Type 0} (read : List ℕ → Option A) (o : Option (List ℕ)) (xs : List A) → read_within read o ≡ Some xs
    → IsWithin read o xs
within_is read None xs e = absurd (not_none xs e)
within_is read (Some list) xs e = record { list = list; was = refl; is = e }

ascending_was : (o : Option (List ℕ)) (names : List ℕ) → if_ascending o ≡ Some names
    → (o ≡ Some names) × (is_ascending names ≡ true)
ascending_was None names e = absurd (not_none names e)
ascending_was (Some others) names e =
    let u = under (is_ascending others) (Some others) names e in
    (u.is, ap is_ascending (sym (some_same others names u.is)) ∙ u.holds)

pub regions_is : (sign : ℕ) (word names : List ℕ) → read_regions sign word ≡ Some names
    → (word ≡ sign ∷ bracketed (map region_word names)) × AreRegions names
regions_is sign word names e =
    let a = ascending_was _ names e in
    let w = within_is (read_lettered 114) (bytes_inside (sign ∷ 91 ∷ []) 93 word) names a.0 in
    let n = numbers_is 114 w.list names (omega arith) w.is in (
      inside_is (sign ∷ 91 ∷ []) word w.list 93 w.was ∙ ap (λ l. sign ∷ 91 ∷ (l ++ 93 ∷ [])) n.0,
      (ascending_is names a.1, n.1),
    )

pub passes_back : (classes : List Class) → All ClassFits classes → read_passes (passes_word classes) ≡ Some classes
passes_back classes f =
    ap (read_within read_class) (inside_back (codes "R[") (comma_separated (map class_word classes)) 93)
    ∙ list_back read_class class_word ClassFits class_reads long_class classes f

pub passes_is : (word : List ℕ) (classes : List Class) → read_passes word ≡ Some classes
    → (word ≡ passes_word classes) × All ClassFits classes
passes_is word classes e =
    let w = within_is read_class (bytes_inside (codes "R[") 93 word) classes e in
    let n = list_is read_class class_word ClassFits class_reads long_class w.list classes w.is in
    (inside_is (codes "R[") word w.list 93 w.was ∙ ap (λ l. 82 ∷ 91 ∷ (l ++ 93 ∷ [])) n.0, n.1)

-- ---- bytes of words

pub each_from : {A : Type 0} (m : ℕ) (word : A → List ℕ) (Fits : A → Type 0) → ((a : A) → Fits a → From m (word a))
    → (xs : List A) → All Fits xs → AllFrom m (map word xs)
each_from m word Fits f [] a = All-nil (From m)
each_from m word Fits f (x ∷ xs) a =
    All-cons (From m) (word x) (map word xs) (f x (All-head Fits x xs a))
    (each_from m word Fits f xs (All-tail Fits x xs a))

listed_from : {A : Type 0} (word : A → List ℕ) (Fits : A → Type 0) → ((a : A) → Fits a → From 33 (word a))
    → (xs : List A) → All Fits xs → From 33 (comma_separated (map word xs))
listed_from word Fits f xs a = joined_from 33 44 (map word xs) (omega arith) (each_from 33 word Fits f xs a)

closed_from : (bytes : List ℕ) (last : ℕ) → 33 ≤ last → From 33 bytes → From 33 (bytes ++ last ∷ [])
closed_from bytes last l f = from_both 33 bytes (last ∷ []) f (from_cons 33 last [] l (from_nil 33))

pub regions_from : (sign : ℕ) (names : List ℕ) → 33 ≤ sign → AreRegions names → From 33 (sign ∷ bracketed (map region_word names))
regions_from sign names l r =
    let list = comma_separated (map region_word names) in
    from_cons 33 sign (bracketed (map region_word names)) l (from_cons 33 91 (list ++ 93 ∷ []) (omega arith)
    (closed_from list 93 (omega arith)
    (listed_from region_word IsSmallNumber (λ k s. lettered_from 33 114 k (omega arith) (omega arith) s) names r.1)))

pub passes_from : (classes : List Class) → All ClassFits classes → From 33 (passes_word classes)
passes_from classes f =
    let list = comma_separated (map class_word classes) in
    from_cons 33 82 (91 ∷ (list ++ 93 ∷ [])) (omega arith) (from_cons 33 91 (list ++ 93 ∷ []) (omega arith)
    (closed_from list 93 (omega arith)
    (listed_from class_word ClassFits (λ c g. from_less 33 45 (class_word c) (omega arith) (class_from c g)) classes f)))

pub arguments_from : (from : List ℕ) → AreSmall from → From 33 (40 ∷ (comma_separated (map variable_word from) ++ 41 ∷ []))
arguments_from from s =
    let list = comma_separated (map variable_word from) in
    from_cons 33 40 (list ++ 41 ∷ []) (omega arith) (closed_from list 41 (omega arith)
    (listed_from variable_word IsSmallNumber (λ k s. lettered_from 33 118 k (omega arith) (omega arith) s) from s))

pub bool_from : (b : Bool) → From 33 (bool_word b)
bool_from true = from_test 33 (codes "true") refl
bool_from false = from_test 33 (codes "false") refl

pub operator_from : (op : BinaryOp) → From 33 (operator_word op)
operator_from binary.Mul = from_test 33 (codes "mul") refl
operator_from binary.Div = from_test 33 (codes "div") refl
operator_from binary.Rem = from_test 33 (codes "rem") refl
operator_from binary.Add = from_test 33 (codes "add") refl
operator_from binary.Sub = from_test 33 (codes "sub") refl
operator_from binary.Eq = from_test 33 (codes "eq") refl
operator_from binary.Ne = from_test 33 (codes "ne") refl
operator_from binary.Lt = from_test 33 (codes "lt") refl
operator_from binary.Le = from_test 33 (codes "le") refl
operator_from binary.Gt = from_test 33 (codes "gt") refl
operator_from binary.Ge = from_test 33 (codes "ge") refl
operator_from binary.And = from_nil 33
operator_from binary.Or = from_nil 33

pub value_from : (value : Option ℕ) → ValueFits value → From 33 (value_word value)
value_from None f = from_test 33 (codes "-") refl
value_from (Some v) f = lettered_from 33 118 v (omega arith) (omega arith) f
