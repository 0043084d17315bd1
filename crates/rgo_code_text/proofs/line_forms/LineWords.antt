-- The words of lines.
use Rattle.std.proofs.Common.{◌≡◌, ◌≢◌, ℕ, ◌+◌, ◌<◌, ◌≤◌, ◌^◌, ◌%◌, List, [], ◌∷◌, map, Option, Some, None, IfSome, refl, sym, subst, arith, codes, decimal}
use Rattle.std.specs.List.{All, flat_map, before_first}
use Rattle.std.proofs.lemmas.Fmt.{decimal_by_steps}
use Rattle.std.proofs.lemmas.List.Elements.{All-nil, All-cons, All-append}
use Rattle.rgo_typed.specs.declared.types.Base.{Base}
use Rattle.rgo_typed.specs.declared.types.Base.TheVariants as base
use Rattle.rgo_typed.specs.declared.types.Layer.{Layer}
use Rattle.rgo_typed.specs.declared.types.Layer.TheVariants as layer
use Rattle.rgo_code_words.specs.Cuts.{is_space}
use Rattle.rgo_code_text.specs.Items.{NamedSlot, Item, Head, Struct, Global, Function, Slot, Entry, Instr, End, ItemFits, IsName, item_line, BaseFits, TypeFits, NamedSlotFits, named_type_word, named_slot_words, named_result_words, only_name}
use Rattle.rgo_code_printing.specs.Text.{op_words}
use Rattle.rgo_code_words.specs.Readers.{NamedType, read_type}
use Rattle.rgo_code_printing.specs.Words.{layer_word, base_word, class_word, creates_word, place_word, removes_word}
use Rattle.rgo_code_words.specs.Worded.{IsSmallNumber}
use Rattle.rgo_code_words.proofs.Cutting.{first_of_joined}
use Rattle.rgo_code_words.proofs.Lacks.{Lacks, From, AllFrom, from_test, from_both, from_cons, from_less, from_nil, name_from, lacks_from}
use Rattle.rgo_code_words.proofs.ListWords.{Reads}
use Rattle.rgo_code_text.proofs.op_lines.OpWords.{no_words, and_word, number_from}
use Rattle.rgo_code_text.proofs.op_lines.TypeWords.{type_back, type_is}
use Rattle.rgo_code_words.proofs.WordsBack.{class_from}

-- ---- types

layers_from : (layers : List Layer) → From 33 (flat_map layer_word layers)
layers_from [] = from_nil 33
layers_from (layer.Slice ∷ layers) =
    from_both 33 (codes "[]") (flat_map layer_word layers) (from_test 33 (codes "[]") refl) (layers_from layers)
layers_from (layer.Chan ∷ layers) =
    from_both 33 (codes "chan.") (flat_map layer_word layers) (from_test 33 (codes "chan.") refl) (layers_from layers)

base_from : (b : Base) (name : List ℕ) → BaseFits b name → From 33 (base_word (name ∷ []) b)
base_from base.Int name f = from_test 33 (codes "int") refl
base_from base.Bool name f = from_test 33 (codes "bool") refl
base_from (base.Pointer n) name f =
    subst (λ m. From 33 (base_word (name ∷ []) (base.Pointer m))) (sym f.0)
    (from_cons 33 42 name (omega arith) (from_less 33 48 name (omega arith) (name_from name f.1)))

pub type_from : (t : NamedType) → TypeFits t → From 33 (named_type_word t)
type_from t f =
    from_both 33 (flat_map layer_word t.ty.layers) (base_word (t.name ∷ []) t.ty.base) (layers_from t.ty.layers)
    (base_from t.ty.base t.name f)

pub type_reads : Reads 32 read_type named_type_word TypeFits
type_reads = record {
  back = λ t f. type_back t.ty.layers t.ty.base t.name f;
  is = type_is;
  lacks = λ t f. lacks_from 33 32 (named_type_word t) (omega arith) (type_from t f);
}

pub class_from_33 : (s : NamedSlot) → NamedSlotFits s → From 33 (class_word s.class)
class_from_33 s f = from_less 33 45 (class_word s.class) (omega arith) (class_from s.class f.1)

pub slot_from : (s : NamedSlot) → NamedSlotFits s → AllFrom 33 (named_slot_words s)
slot_from s f =
    and_word (named_type_word s.ty) (class_word s.class ∷ []) (type_from s.ty f.0)
    (and_word (class_word s.class) [] (class_from_33 s f) no_words)

pub result_from : (o : Option NamedSlot) → IfSome o NamedSlotFits → AllFrom 33 (named_result_words o)
result_from None f =
    and_word (codes "-") (codes "-" ∷ []) (from_test 33 (codes "-") refl)
    (and_word (codes "-") [] (from_test 33 (codes "-") refl) no_words)
result_from (Some s) f = slot_from s f

pub named_from : (name : List ℕ) → IsName name → From 33 name
named_from name i = from_less 33 48 name (omega arith) (name_from name i)

-- ---- the first word of a line

abbrev pub first_word : Item → List ℕ
first_word Head = codes "rgo"
first_word (Struct name fields) = codes "struct"
first_word (Global name ty) = codes "global"
first_word (Function name params slot) = codes "func"
first_word (Slot slot) = codes "var"
first_word (Entry names) = codes "entry"
first_word (Instr i instr name) = decimal i
first_word End = codes "end"

first_lacks : (x : Item) → ItemFits x → Lacks 32 (first_word x)
first_lacks Head f = lacks_from 33 32 (codes "rgo") (omega arith) (from_test 33 (codes "rgo") refl)
first_lacks (Struct name fields) f = lacks_from 33 32 (codes "struct") (omega arith) (from_test 33 (codes "struct") refl)
first_lacks (Global name ty) f = lacks_from 33 32 (codes "global") (omega arith) (from_test 33 (codes "global") refl)
first_lacks (Function name params slot) f = lacks_from 33 32 (codes "func") (omega arith) (from_test 33 (codes "func") refl)
first_lacks (Slot slot) f = lacks_from 33 32 (codes "var") (omega arith) (from_test 33 (codes "var") refl)
first_lacks (Entry names) f = lacks_from 33 32 (codes "entry") (omega arith) (from_test 33 (codes "entry") refl)
first_lacks (Instr i instr name) f = lacks_from 33 32 (decimal i) (omega arith) (number_from i f.0)
first_lacks End f = lacks_from 33 32 (codes "end") (omega arith) (from_test 33 (codes "end") refl)

-- a number has no byte above `9`
abbrev Below : List ℕ → Type 0
Below bytes = All (λ b. b ≤ 57) bytes

one_below : (b : ℕ) → b ≤ 57 → Below (b ∷ [])
one_below b l = All-cons (λ b. b ≤ 57) b [] l (All-nil (λ b. b ≤ 57))

decimal_below : (k : ℕ) → k < 2 ^ 64 → Below (decimal k)
decimal_below k small =
    decimal_by_steps (λ n digits. Below digits)
    (λ n l. one_below (48 + n) (omega (arith, l)))
    (λ n digits l f. All-append (λ b. b ≤ 57) digits ((48 + n % 10) ∷ []) f (one_below (48 + n % 10) (omega arith)))
    k small

-- a number is not a word that begins with a letter
pub number_differs : (i b : ℕ) (word : List ℕ) → IsSmallNumber i → 57 < b → decimal i ≢ b ∷ word
number_differs i b word s l e =
    let below = subst Below e (decimal_below i (omega (arith, s))) in
    absurd (omega (arith, l, below 0 0 (omega arith)))

pub line_first : (x : Item) → ItemFits x → before_first is_space (item_line x) ≡ first_word x
line_first Head f = first_of_joined (codes "rgo") (codes "code" ∷ codes "1" ∷ []) (first_lacks Head f)
line_first (Struct name fields) f = first_of_joined (codes "struct") (name ∷ map named_type_word fields) (first_lacks (Struct name fields) f)
line_first (Global name ty) f = first_of_joined (codes "global") (name ∷ named_type_word ty ∷ []) (first_lacks (Global name ty) f)
line_first (Function name params slot) f =
    first_of_joined (codes "func") (name ∷ decimal params ∷ named_result_words slot) (first_lacks (Function name params slot) f)
line_first (Slot slot) f = first_of_joined (codes "var") (named_slot_words slot) (first_lacks (Slot slot) f)
line_first (Entry names) f =
    first_of_joined (codes "entry") (removes_word names ∷ []) (first_lacks (Entry names) f)
line_first (Instr i instr name) f = first_of_joined (decimal i) (place_word instr.place ∷ creates_word instr.creates ∷ op_words (only_name name) instr.op)
    (first_lacks (Instr i instr name) f)
line_first End f = first_of_joined (codes "end") [] (first_lacks End f)
