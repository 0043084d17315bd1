-- Lines other than instructions are read back, and nothing else is read.
use Rattle.std.proofs.Common.{◌≡◌, ℕ, suc, ◌+◌, ◌<◌, ◌≤◌, ◌==◌, ◌&&◌, nat_le, Bool, true, false, true≢false, List, [], ◌∷◌, ◌++◌, map, length, Option, Some, None, IfSome, if◌then◌else◌, refl, sym, ap, subst, ◌∙◌, arith, codes, decimal}
use Rattle.std.specs.List.{list_all, join_with_byte, before_first}
use Rattle.std.specs.Option.{option_map}
use Rattle.std.specs.Str.{bytes_eq}
use Rattle.std.proofs.lemmas.Bool.Decides.{Decides-eqb, not_from_Decides}
use Rattle.std.proofs.lemmas.List.Elements.{All-nil}
use Rattle.std.proofs.lemmas.Slice.Eq.{bytes_eq-Decides}
use Rattle.rgo_code_words.specs.Cuts.{is_space, cut_line, nth_word}
use Rattle.rgo_code_text.specs.Items.{NamedSlot, Item, Head, Struct, Global, Function, Slot, Entry, Instr, End, ItemFits, IsName, item_line, TypeFits, NamedSlotFits, named_type_word, named_slot_words, named_result_words}
use Rattle.rgo_code_text.specs.Lines.{read_fields, read_slot, read_result, struct_item, global_item, function_item, slot_item, entry_item, IsFittingInstr}
use Rattle.rgo_code_words.specs.Readers.{NamedType, IsReadFromBytes, on_some, read_class, read_number, read_regions, read_type}
use Rattle.rgo_code_printing.specs.Words.{class_word, removes_word}
use Rattle.rgo_code_words.specs.Worded.{is_name}
use Rattle.rgo_code_words.proofs.Cutting.{cut_words, cut_more, cut_joined, cut_short, first_of_cut, two_of, three_of, five_of}
use Rattle.rgo_code_words.proofs.Lacks.{Lacks, from_test, lacks_from, all_lack_from, both_true}
use Rattle.rgo_code_text.proofs.line_forms.LineWords.{type_reads, type_from, slot_from, result_from, named_from, first_word, line_first, number_differs}
use Rattle.rgo_code_words.proofs.ListWords.{words_back, words_is, words_some}
use Rattle.rgo_code_words.proofs.Numerals.{number_back, number_sound}
use Rattle.rgo_code_words.proofs.Options.{some_same, not_none, under, after_some, mapped, either, either_way, differ}
use Rattle.rgo_code_text.proofs.op_lines.OpWords.{no_words, and_word, number_from, removes_from}
use Rattle.rgo_code_text.proofs.op_lines.TypeWords.{type_back, type_is}
use Rattle.rgo_code_words.proofs.WordsBack.{class_back, class_is, regions_back, regions_is}

-- ---- lines by their first word

-- the only lines with this first word
pub only_struct : (P : Item → Type 0) (x : Item) → ItemFits x → first_word x ≡ codes "struct"
    → ((name : List ℕ) (fields : List NamedType) → ItemFits (Struct name fields) → P (Struct name fields)) → P x
only_struct P (Struct name fields) f e g = g name fields f
only_struct P Head f e g = absurd (differ (codes "rgo") (codes "struct") refl e)
only_struct P (Global name ty) f e g = absurd (differ (codes "global") (codes "struct") refl e)
only_struct P (Function name params slot) f e g = absurd (differ (codes "func") (codes "struct") refl e)
only_struct P (Slot slot) f e g = absurd (differ (codes "var") (codes "struct") refl e)
only_struct P (Entry names) f e g = absurd (differ (codes "entry") (codes "struct") refl e)
only_struct P (Instr i instr name) f e g = absurd (number_differs i 115 (codes "truct") f.0 (omega arith) e)
only_struct P End f e g = absurd (differ (codes "end") (codes "struct") refl e)

pub only_global : (P : Item → Type 0) (x : Item) → ItemFits x → first_word x ≡ codes "global"
    → ((name : List ℕ) (ty : NamedType) → ItemFits (Global name ty) → P (Global name ty)) → P x
only_global P (Global name ty) f e g = g name ty f
only_global P Head f e g = absurd (differ (codes "rgo") (codes "global") refl e)
only_global P (Struct name fields) f e g = absurd (differ (codes "struct") (codes "global") refl e)
only_global P (Function name params slot) f e g = absurd (differ (codes "func") (codes "global") refl e)
only_global P (Slot slot) f e g = absurd (differ (codes "var") (codes "global") refl e)
only_global P (Entry names) f e g = absurd (differ (codes "entry") (codes "global") refl e)
only_global P (Instr i instr name) f e g = absurd (number_differs i 103 (codes "lobal") f.0 (omega arith) e)
only_global P End f e g = absurd (differ (codes "end") (codes "global") refl e)

pub only_function : (P : Item → Type 0) (x : Item) → ItemFits x → first_word x ≡ codes "func"
    → ((name : List ℕ) (params : ℕ) (slot : Option NamedSlot) → ItemFits (Function name params slot)
    → P (Function name params slot)) → P x
only_function P (Function name params slot) f e g = g name params slot f
only_function P Head f e g = absurd (differ (codes "rgo") (codes "func") refl e)
only_function P (Struct name fields) f e g = absurd (differ (codes "struct") (codes "func") refl e)
only_function P (Global name ty) f e g = absurd (differ (codes "global") (codes "func") refl e)
only_function P (Slot slot) f e g = absurd (differ (codes "var") (codes "func") refl e)
only_function P (Entry names) f e g = absurd (differ (codes "entry") (codes "func") refl e)
only_function P (Instr i instr name) f e g = absurd (number_differs i 102 (codes "unc") f.0 (omega arith) e)
only_function P End f e g = absurd (differ (codes "end") (codes "func") refl e)

pub only_slot : (P : Item → Type 0) (x : Item) → ItemFits x → first_word x ≡ codes "var"
    → ((slot : NamedSlot) → ItemFits (Slot slot) → P (Slot slot)) → P x
only_slot P (Slot slot) f e g = g slot f
only_slot P Head f e g = absurd (differ (codes "rgo") (codes "var") refl e)
only_slot P (Struct name fields) f e g = absurd (differ (codes "struct") (codes "var") refl e)
only_slot P (Global name ty) f e g = absurd (differ (codes "global") (codes "var") refl e)
only_slot P (Function name params slot) f e g = absurd (differ (codes "func") (codes "var") refl e)
only_slot P (Entry names) f e g = absurd (differ (codes "entry") (codes "var") refl e)
only_slot P (Instr i instr name) f e g = absurd (number_differs i 118 (codes "ar") f.0 (omega arith) e)
only_slot P End f e g = absurd (differ (codes "end") (codes "var") refl e)

pub only_entry : (P : Item → Type 0) (x : Item) → ItemFits x → first_word x ≡ codes "entry"
    → ((names : List ℕ) → ItemFits (Entry names) → P (Entry names)) → P x
only_entry P (Entry names) f e g = g names f
only_entry P Head f e g = absurd (differ (codes "rgo") (codes "entry") refl e)
only_entry P (Struct name fields) f e g = absurd (differ (codes "struct") (codes "entry") refl e)
only_entry P (Global name ty) f e g = absurd (differ (codes "global") (codes "entry") refl e)
only_entry P (Function name params slot) f e g = absurd (differ (codes "func") (codes "entry") refl e)
only_entry P (Slot slot) f e g = absurd (differ (codes "var") (codes "entry") refl e)
only_entry P (Instr i instr name) f e g = absurd (number_differs i 101 (codes "ntry") f.0 (omega arith) e)
only_entry P End f e g = absurd (differ (codes "end") (codes "entry") refl e)

-- ---- slots

slot_back : (s : NamedSlot) → NamedSlotFits s → read_slot (named_type_word s.ty) (class_word s.class) ≡ Some s
slot_back s f =
    ap (λ o. on_some o (λ class. option_map (λ t. record { ty = t; class = class }) (read_type (named_type_word s.ty))))
    (class_back s.class f.1)
    ∙ ap (option_map (λ t. record { ty = t; class = s.class })) (type_back s.ty.ty.layers s.ty.ty.base s.ty.name f.0)

record SlotIs (ty word : List ℕ) (s : NamedSlot) : Type 0 where
  pub ty_is : ty ≡ named_type_word s.ty
  pub class_is : word ≡ class_word s.class
  pub fits : NamedSlotFits s

slot_is : (ty word : List ℕ) (s : NamedSlot) → read_slot ty word ≡ Some s → SlotIs ty word s
slot_is ty word s e =
    let c = after_some (read_class word) _ s e in
    let m = mapped (λ t. record { ty = t; class = c.value }) (read_type ty) s c.is in
    let ci = class_is word c.value c.was in
    let ti = type_is ty m.value m.was in
    subst (SlotIs ty word) m.is (record { ty_is = ti.0; class_is = ci.0; fits = (ti.1, ci.1) })

-- no class is printed as `-` where the type is
dash_type : (s : NamedSlot) → NamedSlotFits s → bytes_eq (named_type_word s.ty) (codes "-") ≡ false
dash_type s f = by (bytes_eq (named_type_word s.ty) (codes "-")) refl
  where
    by : (t : Bool) → bytes_eq (named_type_word s.ty) (codes "-") ≡ t → t ≡ false
    by false e = refl
    by true e =
        let word : named_type_word s.ty ≡ codes "-" = (bytes_eq-Decides (named_type_word s.ty) (codes "-")).0 e in
        absurd (not_none s.ty (ap read_type (sym word) ∙ type_back s.ty.ty.layers s.ty.ty.base s.ty.name f.0))

result_back : (o : Option NamedSlot) → IfSome o NamedSlotFits
    → read_result (nth_word (named_result_words o) 0) (nth_word (named_result_words o) 1) ≡ Some o
result_back None f = refl
result_back (Some s) f =
    ap (λ t. if t && bytes_eq (class_word s.class) (codes "-") then Some None
    else option_map Some (read_slot (named_type_word s.ty) (class_word s.class))) (dash_type s f)
    ∙ ap (option_map Some) (slot_back s f)

record ResultIs (ty word : List ℕ) (o : Option NamedSlot) : Type 0 where
  pub words_are : ty ∷ word ∷ [] ≡ named_result_words o
  pub fits : IfSome o NamedSlotFits

result_is : (ty word : List ℕ) (o : Option NamedSlot) → read_result ty word ≡ Some o → ResultIs ty word o
result_is ty word o e =
    either (bytes_eq ty (codes "-") && bytes_eq word (codes "-")) _ _ o (ResultIs ty word o) e
    (λ t q.
    let b = both_true (bytes_eq ty (codes "-")) (bytes_eq word (codes "-")) t in
    subst (ResultIs ty word) (some_same None o q) (record {
      words_are = ap (λ w. w ∷ word ∷ []) ((bytes_eq-Decides ty (codes "-")).0 b.0)
          ∙ ap (λ w. codes "-" ∷ w ∷ []) ((bytes_eq-Decides word (codes "-")).0 b.1);
      fits = tt;
    })) (λ q.
    let m = mapped Some (read_slot ty word) o q in
    let s = slot_is ty word m.value m.was in
    subst (ResultIs ty word) m.is (record {
      words_are = ap (λ w. w ∷ word ∷ []) s.ty_is ∙ ap (λ w. named_type_word m.value.ty ∷ w ∷ []) s.class_is;
      fits = s.fits;
    }))

-- ---- each line

-- the words of a line and its first one
head_of_cut : (n : ℕ) (line word : List ℕ) → before_first is_space line ≡ word → nth_word (cut_line (suc n) line) 0 ≡ word
head_of_cut n line word e = first_of_cut n line ∙ e

-- what a reader of lines with a first word has to meet
module _ (line word : List ℕ) (n : ℕ) (read : List (List ℕ) → Option Item) (first : before_first is_space line ≡ word)
    (is : (words : List (List ℕ)) (x : Item) → nth_word words 0 ≡ word → length words ≤ n + 2 → read words ≡ Some x
    → (join_with_byte 32 words ≡ item_line x) × ItemFits x)
    (back : (x : Item) → ItemFits x → first_word x ≡ word → read (cut_line (suc n) (item_line x)) ≡ Some x) where
  pub line_read : IsReadFromBytes ItemFits item_line line (read (cut_line (suc n) line))
  line_read = by (read (cut_line (suc n) line)) refl
    where
      by : (r : Option Item) → read (cut_line (suc n) line) ≡ r → IsReadFromBytes ItemFits item_line line r
      by (Some x) e =
          let i = is (cut_line (suc n) line) x (head_of_cut n line word first) (omega (arith, cut_short (suc n) line)) e in
          (sym (cut_joined (suc n) line) ∙ i.0, i.1)
      by None e = λ x f t.
          not_none x (sym e ∙ ap (λ l. read (cut_line (suc n) l)) t
          ∙ back x f (sym (line_first x f) ∙ ap (before_first is_space) (sym t) ∙ first))

-- ---- structs

some_name : (words : List (List ℕ)) → is_name (nth_word words 1) ≡ true → 2 ≤ length words
unfolding is_name
some_name [] e = absurd (true≢false (sym e))
some_name (a ∷ []) e = absurd (true≢false (sym e))
some_name (a ∷ b ∷ words) e = omega arith

abbrev IsLineOf : List (List ℕ) → Item → Type 0
IsLineOf words x = (join_with_byte 32 words ≡ item_line x) × ItemFits x

fields_are : (name : List ℕ) (ts : List NamedType) → 0 < length ts
    → codes "struct" ++ 32 ∷ (name ++ 32 ∷ join_with_byte 32 (map named_type_word ts)) ≡ item_line (Struct name ts)
fields_are name [] s = absurd (omega (arith, s))
fields_are name (t ∷ ts) s = refl

struct_is : (words : List (List ℕ)) (x : Item) → nth_word words 0 ≡ codes "struct" → length words ≤ 3 → struct_item words ≡ Some x
    → IsLineOf words x
struct_is words x w l e =
    let name = nth_word words 1 in
    let u = under (is_name name) _ x e in
    either_way (length words == 2) _ _ x (IsLineOf words x) u.is
    (λ t q. subst (IsLineOf words) (some_same (Struct name []) x q) (
      ap (join_with_byte 32) (two_of words ((Decides-eqb (length words) 2).0 t) ∙ ap (λ v. v ∷ name ∷ []) w),
      (u.holds, All-nil TypeFits),
    ))
    (λ t q.
    let m = mapped (Struct name) (read_fields (nth_word words 2)) x q in
    let i = words_is 32 read_type named_type_word TypeFits type_reads (nth_word words 2) m.value m.was in
    let some = words_some 32 read_type named_type_word TypeFits type_reads (nth_word words 2) m.value m.was in
    let three : length words ≡ 3 =
    omega (arith, l, some_name words u.holds, not_from_Decides (length words == 2) (Decides-eqb (length words) 2) t) in
    subst (IsLineOf words) m.is (
      ap (join_with_byte 32) (three_of words three ∙ ap (λ v. v ∷ name ∷ nth_word words 2 ∷ []) w)
          ∙ ap (λ r. codes "struct" ++ 32 ∷ (name ++ 32 ∷ r)) i.0 ∙ fields_are name m.value some,
      (u.holds, i.1),
    ))

word_lacks : (word : List ℕ) → list_all (nat_le 33) word ≡ true → Lacks 32 word
word_lacks word e = lacks_from 33 32 word (omega arith) (from_test 33 word e)

name_lacks : (name : List ℕ) → IsName name → Lacks 32 name
name_lacks name i = lacks_from 33 32 name (omega arith) (named_from name i)

pub struct_back : (x : Item) → ItemFits x → first_word x ≡ codes "struct" → struct_item (cut_line 2 (item_line x)) ≡ Some x
struct_back x f e = only_struct (λ x. struct_item (cut_line 2 (item_line x)) ≡ Some x) x f e by
  where
    by : (name : List ℕ) (fields : List NamedType) → ItemFits (Struct name fields)
        → struct_item (cut_line 2 (item_line (Struct name fields))) ≡ Some (Struct name fields)
    by name [] f =
        ap struct_item (cut_words 2 (codes "struct") (name ∷ []) (omega arith) (all_lack_from 33 32 (codes "struct" ∷ name ∷ []) (omega arith)
        (and_word (codes "struct") (name ∷ []) (from_test 33 (codes "struct") refl) (and_word name [] (named_from name f.0) no_words))))
        ∙ ap (λ t. if t then Some (Struct name []) else None) f.0
    by name (t ∷ ts) f =
        let rest = join_with_byte 32 (map named_type_word (t ∷ ts)) in
        ap struct_item (cut_more 1 (codes "struct") (name ++ 32 ∷ rest) (word_lacks (codes "struct") refl)
        ∙ ap (λ ws. codes "struct" ∷ ws) (cut_more 0 name rest (name_lacks name f.0)))
        ∙ ap (λ b. if b then option_map (Struct name) (read_fields rest) else None) f.0
        ∙ ap (option_map (Struct name)) (words_back 32 read_type named_type_word TypeFits type_reads t ts f.1)

pub struct_read : (line : List ℕ) → before_first is_space line ≡ codes "struct"
    → IsReadFromBytes ItemFits item_line line (struct_item (cut_line 2 line))
struct_read line e = line_read line (codes "struct") 1 struct_item e struct_is struct_back

-- ---- package variables

global_is : (words : List (List ℕ)) (x : Item) → nth_word words 0 ≡ codes "global" → length words ≤ 3 → global_item words ≡ Some x
    → IsLineOf words x
global_is words x w l e =
    let name = nth_word words 1 in
    let u = under (length words == 3 && is_name name) _ x e in
    let b = both_true (length words == 3) (is_name name) u.holds in
    let m = mapped (Global name) (read_type (nth_word words 2)) x u.is in
    let i = type_is (nth_word words 2) m.value m.was in
    subst (IsLineOf words) m.is (
      ap (join_with_byte 32) (three_of words ((Decides-eqb (length words) 3).0 b.0) ∙ ap (λ v. v ∷ name ∷ nth_word words 2 ∷ []) w
          ∙ ap (λ v. codes "global" ∷ name ∷ v ∷ []) i.0),
      (b.1, i.1),
    )

pub global_back : (x : Item) → ItemFits x → first_word x ≡ codes "global" → global_item (cut_line 2 (item_line x)) ≡ Some x
global_back x f e = only_global (λ x. global_item (cut_line 2 (item_line x)) ≡ Some x) x f e by
  where
    by : (name : List ℕ) (ty : NamedType) → ItemFits (Global name ty)
        → global_item (cut_line 2 (item_line (Global name ty))) ≡ Some (Global name ty)
    by name ty f =
        let words = codes "global" ∷ name ∷ named_type_word ty ∷ [] in
        ap global_item (cut_words 2 (codes "global") (name ∷ named_type_word ty ∷ []) (omega arith) (all_lack_from 33 32 words (omega arith)
        (and_word (codes "global") (name ∷ named_type_word ty ∷ []) (from_test 33 (codes "global") refl)
        (and_word name (named_type_word ty ∷ []) (named_from name f.0)
        (and_word (named_type_word ty) [] (type_from ty f.1) no_words)))))
        ∙ ap (λ b. if b then option_map (Global name) (read_type (named_type_word ty)) else None) f.0
        ∙ ap (option_map (Global name)) (type_back ty.ty.layers ty.ty.base ty.name f.1)

pub global_read : (line : List ℕ) → before_first is_space line ≡ codes "global"
    → IsReadFromBytes ItemFits item_line line (global_item (cut_line 2 line))
global_read line e = line_read line (codes "global") 1 global_item e global_is global_back

-- ---- heads of functions

function_is : (words : List (List ℕ)) (x : Item) → nth_word words 0 ≡ codes "func" → length words ≤ 5 → function_item words ≡ Some x
    → IsLineOf words x
function_is words x w l e =
    let name = nth_word words 1 in
    let u = under (length words == 5 && is_name name) _ x e in
    let b = both_true (length words == 5) (is_name name) u.holds in
    let p = after_some (read_number (nth_word words 2)) _ x u.is in
    let m = mapped (Function name p.value) (read_result (nth_word words 3) (nth_word words 4)) x p.is in
    let n = number_sound (nth_word words 2) p.value p.was in
    let r = result_is (nth_word words 3) (nth_word words 4) m.value m.was in
    subst (IsLineOf words) m.is (
      ap (join_with_byte 32) (five_of words ((Decides-eqb (length words) 5).0 b.0)
          ∙ ap (λ v. v ∷ name ∷ nth_word words 2 ∷ nth_word words 3 ∷ nth_word words 4 ∷ []) w
          ∙ ap (λ v. codes "func" ∷ name ∷ v ∷ nth_word words 3 ∷ nth_word words 4 ∷ []) n.0
          ∙ ap (λ vs. codes "func" ∷ name ∷ decimal p.value ∷ vs) r.words_are),
      (b.1, n.1, r.fits),
    )

two_words : (o : Option NamedSlot) → named_result_words o ≡ nth_word (named_result_words o) 0 ∷ nth_word (named_result_words o) 1 ∷ []
two_words None = refl
two_words (Some s) = refl

two_long : (o : Option NamedSlot) → length (named_result_words o) ≡ 2
two_long None = refl
two_long (Some s) = refl

pub function_back : (x : Item) → ItemFits x → first_word x ≡ codes "func" → function_item (cut_line 4 (item_line x)) ≡ Some x
function_back x f e = only_function (λ x. function_item (cut_line 4 (item_line x)) ≡ Some x) x f e by
  where
    by : (name : List ℕ) (params : ℕ) (slot : Option NamedSlot) → ItemFits (Function name params slot)
        → function_item (cut_line 4 (item_line (Function name params slot))) ≡ Some (Function name params slot)
    by name params slot f =
        let result = named_result_words slot in
        let rest = name ∷ decimal params ∷ result in
        let read = read_result (nth_word result 0) (nth_word result 1) in
        ap function_item (cut_words 4 (codes "func") rest (omega (arith, two_long slot)) (all_lack_from 33 32 (codes "func" ∷ rest) (omega arith)
        (and_word (codes "func") rest (from_test 33 (codes "func") refl) (and_word name (decimal params ∷ result) (named_from name f.0)
        (and_word (decimal params) result (number_from params f.1) (result_from slot f.2)))))
        ∙ ap (λ ws. codes "func" ∷ name ∷ decimal params ∷ ws) (two_words slot))
        ∙ ap (λ b. if b then on_some (read_number (decimal params)) (λ p. option_map (Function name p) read) else None) f.0
        ∙ ap (λ o. on_some o (λ p. option_map (Function name p) read)) (number_back params f.1)
        ∙ ap (option_map (Function name params)) (result_back slot f.2)

pub function_read : (line : List ℕ) → before_first is_space line ≡ codes "func"
    → IsReadFromBytes ItemFits item_line line (function_item (cut_line 4 line))
function_read line e = line_read line (codes "func") 3 function_item e function_is function_back

-- ---- variables of functions

slot_line_is : (words : List (List ℕ)) (x : Item) → nth_word words 0 ≡ codes "var" → length words ≤ 3 → slot_item words ≡ Some x
    → IsLineOf words x
slot_line_is words x w l e =
    let u = under (length words == 3) _ x e in
    let m = mapped Slot (read_slot (nth_word words 1) (nth_word words 2)) x u.is in
    let s = slot_is (nth_word words 1) (nth_word words 2) m.value m.was in
    subst (IsLineOf words) m.is (
      ap (join_with_byte 32) (three_of words ((Decides-eqb (length words) 3).0 u.holds)
          ∙ ap (λ v. v ∷ nth_word words 1 ∷ nth_word words 2 ∷ []) w ∙ ap (λ v. codes "var" ∷ v ∷ nth_word words 2 ∷ []) s.ty_is
          ∙ ap (λ v. codes "var" ∷ named_type_word m.value.ty ∷ v ∷ []) s.class_is),
      s.fits,
    )

pub slot_line_back : (x : Item) → ItemFits x → first_word x ≡ codes "var" → slot_item (cut_line 2 (item_line x)) ≡ Some x
slot_line_back x f e = only_slot (λ x. slot_item (cut_line 2 (item_line x)) ≡ Some x) x f e by
  where
    by : (slot : NamedSlot) → ItemFits (Slot slot) → slot_item (cut_line 2 (item_line (Slot slot))) ≡ Some (Slot slot)
    by slot f =
        ap slot_item (cut_words 2 (codes "var") (named_slot_words slot) (omega arith)
        (all_lack_from 33 32 (codes "var" ∷ named_slot_words slot) (omega arith)
        (and_word (codes "var") (named_slot_words slot) (from_test 33 (codes "var") refl) (slot_from slot f))))
        ∙ ap (option_map Slot) (slot_back slot f)

pub slot_read : (line : List ℕ) → before_first is_space line ≡ codes "var" → IsReadFromBytes ItemFits item_line line (slot_item (cut_line 2 line))
slot_read line e = line_read line (codes "var") 1 slot_item e slot_line_is slot_line_back

-- ---- entries

entry_is : (words : List (List ℕ)) (x : Item) → nth_word words 0 ≡ codes "entry" → length words ≤ 2 → entry_item words ≡ Some x
    → IsLineOf words x
entry_is words x w l e =
    let u = under (length words == 2) _ x e in
    let m = mapped Entry (read_regions 45 (nth_word words 1)) x u.is in
    let r = regions_is 45 (nth_word words 1) m.value m.was in
    subst (IsLineOf words) m.is (
      ap (join_with_byte 32) (two_of words ((Decides-eqb (length words) 2).0 u.holds) ∙ ap (λ v. v ∷ nth_word words 1 ∷ []) w
          ∙ ap (λ v. codes "entry" ∷ v ∷ []) r.0),
      r.1,
    )

pub entry_back : (x : Item) → ItemFits x → first_word x ≡ codes "entry" → entry_item (cut_line 1 (item_line x)) ≡ Some x
entry_back x f e = only_entry (λ x. entry_item (cut_line 1 (item_line x)) ≡ Some x) x f e by
  where
    by : (names : List ℕ) → ItemFits (Entry names) → entry_item (cut_line 1 (item_line (Entry names))) ≡ Some (Entry names)
    by names f =
        ap entry_item (cut_words 1 (codes "entry") (removes_word names ∷ []) (omega arith)
        (all_lack_from 33 32 (codes "entry" ∷ removes_word names ∷ []) (omega arith)
        (and_word (codes "entry") (removes_word names ∷ []) (from_test 33 (codes "entry") refl)
        (and_word (removes_word names) [] (removes_from names f) no_words))))
        ∙ ap (option_map Entry) (regions_back 45 names f)

pub entry_read : (line : List ℕ) → before_first is_space line ≡ codes "entry"
    → IsReadFromBytes ItemFits item_line line (entry_item (cut_line 1 line))
entry_read line e = line_read line (codes "entry") 0 entry_item e entry_is entry_back

-- ---- lines without operands

pub head_read : (line : List ℕ) → bytes_eq line (codes "rgo code 1") ≡ true → IsReadFromBytes ItemFits item_line line (Some Head)
head_read line e = ((bytes_eq-Decides line (codes "rgo code 1")).0 e, tt)

pub end_read : (line : List ℕ) → bytes_eq line (codes "end") ≡ true → IsReadFromBytes ItemFits item_line line (Some End)
end_read line e = ((bytes_eq-Decides line (codes "end")).0 e, tt)

-- ---- all other lines are instructions

module _ (line : List ℕ) (head : bytes_eq line (codes "rgo code 1") ≡ false) (last : bytes_eq line (codes "end") ≡ false) where
  module _ (a : bytes_eq (before_first is_space line) (codes "struct") ≡ false)
      (b : bytes_eq (before_first is_space line) (codes "global") ≡ false)
      (c : bytes_eq (before_first is_space line) (codes "func") ≡ false)
      (d : bytes_eq (before_first is_space line) (codes "var") ≡ false)
      (e : bytes_eq (before_first is_space line) (codes "entry") ≡ false) where
    is_instr : (x : Item) → ItemFits x → line ≡ item_line x → IsFittingInstr x
    is_instr Head f t = absurd (differ line (codes "rgo code 1") head t)
    is_instr End f t = absurd (differ line (codes "end") last t)
    is_instr (Struct name fields) f t =
        absurd (differ (before_first is_space line) (codes "struct") a (ap (before_first is_space) t ∙ line_first (Struct name fields) f))
    is_instr (Global name ty) f t =
        absurd (differ (before_first is_space line) (codes "global") b (ap (before_first is_space) t ∙ line_first (Global name ty) f))
    is_instr (Function name params slot) f t =
        absurd (differ (before_first is_space line) (codes "func") c
        (ap (before_first is_space) t ∙ line_first (Function name params slot) f))
    is_instr (Slot slot) f t =
        absurd (differ (before_first is_space line) (codes "var") d (ap (before_first is_space) t ∙ line_first (Slot slot) f))
    is_instr (Entry names) f t =
        absurd (differ (before_first is_space line) (codes "entry") e (ap (before_first is_space) t ∙ line_first (Entry names) f))
    is_instr (Instr i instr name) f t = (tt, f)

    pub instr_read : (r : Option Item) → IsReadFromBytes IsFittingInstr item_line line r → IsReadFromBytes ItemFits item_line line r
    instr_read (Some x) i = (i.0, i.1.1)
    instr_read None i = λ x f t. i x (is_instr x f t) t
