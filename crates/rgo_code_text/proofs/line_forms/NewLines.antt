-- Lines have no newline inside, so that a text has one list of lines.
use Rattle.std.proofs.Common.{◌≡◌, ℕ, ◌+◌, ◌/◌, ◌%◌, ◌≤◌, ◌==◌, ◌||◌, nat_lt, Bool, true, false, true≢false, List, [], ◌∷◌, ◌++◌, map, length, drop, get_or, if◌then◌else◌, refl, sym, ap, ◌∙◌, arith, append-nil, append_assoc, length-append, codes, decimal}
use Rattle.std.specs.List.{All, flat_map, join_with_byte}
use Rattle.std.proofs.lemmas.Bool.Decides.{Decides-eqb, nat_tests}
use Rattle.std.proofs.lemmas.List.{get_or_default}
use Rattle.std.proofs.lemmas.List.Elements.{All-nil, All-cons, All-head, All-tail, All-append}
use Rattle.rgo_typed.specs.declared.statements.Piece.{Piece}
use Rattle.rgo_typed.specs.declared.statements.Piece.TheVariants as piece
use Rattle.rgo_code.specs.Code.{CodeOp, Do, Call, Go, Print, Jump, Branch, Return}
use Rattle.rgo_code_text.specs.Forms.{IsLine}
use Rattle.rgo_code_text.specs.Items.{Item, Head, Struct, Global, Function, Slot, Entry, Instr, End, ItemFits, TypeFits, item_words, item_line, items_text, only_name, OpIsNamed, named_type_word, named_slot_words, named_result_words}
use Rattle.rgo_code_printing.specs.Text.{op_words}
use Rattle.rgo_code_printing.specs.Words.{hex_digit, byte_word, string_word, piece_word, piece_words, place_word, creates_word, removes_word, in_one, comma_separated, value_count}
use Rattle.rgo_code_text.specs.Written.{OpHasText}
use Rattle.rgo_code_words.specs.Worded.{AreSmall, printed_value_count}
use Rattle.rgo_code_text.proofs.line_forms.ItemsOne.{items_one}
use Rattle.rgo_code_words.proofs.Lacks.{Lacks, From, AllFrom, from_test, from_both, from_cons, from_less, from_nil, joined_from, lacks_from, lettered_from}
use Rattle.rgo_code_text.proofs.line_forms.LineWords.{type_from, slot_from, result_from, named_from}
use Rattle.rgo_code_text.proofs.op_lines.OpWords.{op_worded, no_words, and_word, number_from, removes_from}
use Rattle.rgo_code_words.proofs.WordsBack.{each_from, regions_from}

-- ---- strings

hex_from : (d : ℕ) → 32 ≤ hex_digit d
hex_from d = by (nat_lt d 10)
  where
    by : (t : Bool) → 32 ≤ (if t then 48 + d else 87 + d)
    by true = omega arith
    by false = omega arith

one_from : (b : ℕ) → 32 ≤ b → From 32 (b ∷ [])
one_from b l = from_cons 32 b [] l (from_nil 32)

byte_from : (b : ℕ) → From 32 (byte_word b)
byte_from b = by (b == 34) (b == 92) (b == 10) (nat_lt b 32 || nat_lt 126 b) refl
  where
    by : (p q r s : Bool) → nat_lt b 32 || nat_lt 126 b ≡ s
        → From 32 (if p then 92 ∷ 34 ∷ [] else (if q then 92 ∷ 92 ∷ [] else (if r then 92 ∷ 110 ∷ []
        else (if s then 92 ∷ 120 ∷ hex_digit (b / 16) ∷ hex_digit (b % 16) ∷ [] else b ∷ []))))
    by true q r s e = from_test 32 (92 ∷ 34 ∷ []) refl
    by false true r s e = from_test 32 (92 ∷ 92 ∷ []) refl
    by false false true s e = from_test 32 (92 ∷ 110 ∷ []) refl
    by false false false true e =
        from_cons 32 92 (120 ∷ hex_digit (b / 16) ∷ hex_digit (b % 16) ∷ []) (omega arith)
        (from_cons 32 120 (hex_digit (b / 16) ∷ hex_digit (b % 16) ∷ []) (omega arith)
        (from_cons 32 (hex_digit (b / 16)) (hex_digit (b % 16) ∷ []) (hex_from (b / 16))
        (one_from (hex_digit (b % 16)) (hex_from (b % 16)))))
    by false false false false e = one_from b (grind (arith, nat_tests))

bytes_from : (bytes : List ℕ) → From 32 (flat_map byte_word bytes)
bytes_from [] = from_nil 32
bytes_from (b ∷ bytes) = from_both 32 (byte_word b) (flat_map byte_word bytes) (byte_from b) (bytes_from bytes)

string_from : (bytes : List ℕ) → From 32 (string_word bytes)
string_from bytes =
    from_cons 32 34 (flat_map byte_word bytes ++ 34 ∷ []) (omega arith)
    (from_both 32 (flat_map byte_word bytes) (34 ∷ []) (bytes_from bytes) (one_from 34 (omega arith)))

-- a variable's word, whatever its number
piece_from : (p : Piece) (from : List ℕ) (n : ℕ) → AreSmall from → n + value_count p ≤ length from → From 32 (piece_word p from n)
piece_from (piece.Text bytes) from n s l = string_from bytes
piece_from piece.Value from n s l =
    lettered_from 32 118 (get_or from n 0) (omega arith) (omega arith) (s n 0 (omega (arith, l)))

pieces_from : (pieces : List Piece) (from : List ℕ) (n : ℕ) → AreSmall from → n + printed_value_count pieces ≤ length from
    → AllFrom 32 (piece_words pieces from n)
pieces_from [] from n s l = All-nil (From 32)
pieces_from (p ∷ pieces) from n s l =
    All-cons (From 32) (piece_word p from n) (piece_words pieces from (n + value_count p))
    (piece_from p from n s (omega (arith, l)))
    (pieces_from pieces from (n + value_count p) s (omega (arith, l)))

-- ---- lines

words_from : (words : List (List ℕ)) → AllFrom 33 words → From 32 (join_with_byte 32 words)
words_from words f = joined_from 32 32 words (omega arith) (λ k d l. from_less 32 33 _ (omega arith) (f k d l))

print_from : (pieces : List Piece) (from removes : List ℕ) → OpHasText (Print pieces from removes)
    → AllFrom 32 (in_one (piece_words pieces from 0) ++ removes_word removes ∷ [])
print_from pieces from removes f =
    All-append (From 32) (in_one (piece_words pieces from 0)) (removes_word removes ∷ []) (by pieces refl)
    (All-cons (From 32) (removes_word removes) [] (from_less 32 33 (removes_word removes) (omega arith) (removes_from removes f.3))
    (All-nil (From 32)))
  where
    by : (ps : List Piece) → ps ≡ pieces → AllFrom 32 (in_one (piece_words ps from 0))
    by [] e = All-nil (From 32)
    by (p ∷ ps) e =
        let all : AllFrom 32 (piece_words (p ∷ ps) from 0) =
        pieces_from (p ∷ ps) from 0 f.2 (omega (arith, ap printed_value_count e, f.1)) in
        All-cons (From 32) (comma_separated (piece_words (p ∷ ps) from 0)) [] (joined_from 32 44 (piece_words (p ∷ ps) from 0) (omega arith) all)
        (All-nil (From 32))

less_all : (words : List (List ℕ)) → AllFrom 33 words → AllFrom 32 words
less_all words f k d l = from_less 32 33 _ (omega arith) (f k d l)

op_from : (op : CodeOp) (name : List ℕ) → OpHasText op → OpIsNamed op name → AllFrom 32 (op_words (only_name name) op)
op_from (Print pieces from removes) name f i =
    All-cons (From 32) (codes "print") (in_one (piece_words pieces from 0) ++ removes_word removes ∷ [])
    (from_test 32 (codes "print") refl) (print_from pieces from removes f)
op_from (Do to a from removes) name f i =
    less_all (op_words (only_name name) (Do to a from removes)) (op_worded (Do to a from removes) name f i (λ p. p)).from
op_from (Call to n from passes protects removes) name f i =
    less_all (op_words (only_name name) (Call to n from passes protects removes))
    (op_worded (Call to n from passes protects removes) name f i (λ p. p)).from
op_from (Go n from passes removes) name f i =
    less_all (op_words (only_name name) (Go n from passes removes)) (op_worded (Go n from passes removes) name f i (λ p. p)).from
op_from (Jump target removes) name f i =
    less_all (op_words (only_name name) (Jump target removes)) (op_worded (Jump target removes) name f i (λ p. p)).from
op_from (Branch test target removes other otherwise) name f i =
    less_all (op_words (only_name name) (Branch test target removes other otherwise))
    (op_worded (Branch test target removes other otherwise) name f i (λ p. p)).from
op_from (Return value) name f i =
    less_all (op_words (only_name name) (Return value)) (op_worded (Return value) name f i (λ p. p)).from

line_from : (x : Item) → ItemFits x → From 32 (item_line x)
line_from Head f = from_test 32 (codes "rgo code 1") refl
line_from (Struct name fields) f =
    words_from (codes "struct" ∷ name ∷ map named_type_word fields)
    (and_word (codes "struct") (name ∷ map named_type_word fields) (from_test 33 (codes "struct") refl)
    (and_word name (map named_type_word fields) (named_from name f.0) (each_from 33 named_type_word TypeFits type_from fields f.1)))
line_from (Global name ty) f =
    words_from (codes "global" ∷ name ∷ named_type_word ty ∷ [])
    (and_word (codes "global") (name ∷ named_type_word ty ∷ []) (from_test 33 (codes "global") refl)
    (and_word name (named_type_word ty ∷ []) (named_from name f.0) (and_word (named_type_word ty) [] (type_from ty f.1) no_words)))
line_from (Function name params slot) f =
    words_from (codes "func" ∷ name ∷ decimal params ∷ named_result_words slot)
    (and_word (codes "func") (name ∷ decimal params ∷ named_result_words slot) (from_test 33 (codes "func") refl)
    (and_word name (decimal params ∷ named_result_words slot) (named_from name f.0)
    (and_word (decimal params) (named_result_words slot) (number_from params f.1) (result_from slot f.2))))
line_from (Slot slot) f =
    words_from (codes "var" ∷ named_slot_words slot)
    (and_word (codes "var") (named_slot_words slot) (from_test 33 (codes "var") refl) (slot_from slot f))
line_from (Entry names) f =
    words_from (codes "entry" ∷ removes_word names ∷ [])
    (and_word (codes "entry") (removes_word names ∷ []) (from_test 33 (codes "entry") refl)
    (and_word (removes_word names) [] (removes_from names f) no_words))
line_from (Instr i instr name) f =
    joined_from 32 32 (item_words (Instr i instr name)) (omega arith)
    (All-cons (From 32) (decimal i) (place_word instr.place ∷ creates_word instr.creates ∷ op_words (only_name name) instr.op)
    (from_less 32 33 (decimal i) (omega arith) (number_from i f.0))
    (All-cons (From 32) (place_word instr.place) (creates_word instr.creates ∷ op_words (only_name name) instr.op)
    (lettered_from 32 64 instr.place (omega arith) (omega arith) f.1.0)
    (All-cons (From 32) (creates_word instr.creates) (op_words (only_name name) instr.op)
    (from_less 32 33 (creates_word instr.creates) (omega arith) (regions_from 43 instr.creates (omega arith) f.1.1))
    (op_from instr.op name f.1.2 f.2))))
line_from End f = from_test 32 (codes "end") refl

pub line_lacks : (x : Item) → ItemFits x → Lacks 10 (item_line x)
line_lacks x f = lacks_from 32 10 (item_line x) (omega arith) (line_from x f)

pub is_line : (bytes : List ℕ) → Lacks 10 bytes → IsLine bytes
is_line bytes l c = true≢false (sym ((Decides-eqb (get_or bytes c.0 10) 10).1 c.2) ∙ l c.0 10 c.1)

pub lacks_newline : (bytes : List ℕ) → IsLine bytes → Lacks 10 bytes
lacks_newline bytes l k d less = by (get_or bytes k d == 10) refl
  where
    by : (t : Bool) → (get_or bytes k d == 10) ≡ t → t ≡ false
    by true e = absurd (l (k, less, get_or_default bytes k 10 d less ∙ (Decides-eqb (get_or bytes k d) 10).0 e))
    by false e = refl

-- ---- one list of lines

record SameLine (a b x y : List ℕ) : Type 0 where
  pub front : a ≡ b
  pub rest : x ≡ y

newline_one : (a b x y : List ℕ) → Lacks 10 a → Lacks 10 b → a ++ 10 ∷ x ≡ b ++ 10 ∷ y → SameLine a b x y
newline_one [] [] x y l m e = record { front = refl; rest = ap (drop 1) e }
newline_one [] (c ∷ b) x y l m e =
    absurd (true≢false (sym ((Decides-eqb c 10).1 (sym (ap (λ t. get_or t 0 0) e))) ∙ All-head (λ b. (b == 10) ≡ false) c b m))
newline_one (c ∷ a) [] x y l m e =
    absurd (true≢false (sym ((Decides-eqb c 10).1 (ap (λ t. get_or t 0 0) e)) ∙ All-head (λ b. (b == 10) ≡ false) c a l))
newline_one (c ∷ a) (d ∷ b) x y l m e =
    let more = newline_one a b x y (All-tail (λ b. (b == 10) ≡ false) c a l) (All-tail (λ b. (b == 10) ≡ false) d b m)
    (ap (drop 1) e) in
    let head : c ≡ d = ap (λ t. get_or t 0 0) e in
    record { front = ap (λ h. h ∷ a) head ∙ ap (λ t. d ∷ t) more.front; rest = more.rest }

pub text_cons : (x : Item) (xs : List Item) → items_text (x ∷ xs) ≡ item_line x ++ 10 ∷ items_text xs
text_cons x xs = append_assoc (item_line x) (10 ∷ []) (items_text xs)

-- the items that a text begins with
pub record BeginsWith (xs ys : List Item) (rest : List ℕ) : Type 0 where
  pub more : List Item
  pub are : ys ≡ xs ++ more
  pub text : items_text more ≡ rest

pub begins_with : (xs ys : List Item) (rest : List ℕ) → All ItemFits xs → All ItemFits ys → items_text ys ≡ items_text xs ++ rest
    → BeginsWith xs ys rest
begins_with [] ys rest f g e = record { more = ys; are = refl; text = e }
begins_with (x ∷ xs) [] rest f g e =
    absurd (omega (
      arith,
      ap length (e ∙ ap (λ t. t ++ rest) (text_cons x xs)),
      length-append (item_line x ++ 10 ∷ items_text xs) rest,
      length-append (item_line x) (10 ∷ items_text xs),
    ))
begins_with (x ∷ xs) (y ∷ ys) rest f g e =
    let fx = All-head ItemFits x xs f in
    let gy = All-head ItemFits y ys g in
    let same = newline_one (item_line y) (item_line x) (items_text ys) (items_text xs ++ rest) (line_lacks y gy) (line_lacks x fx)
    (sym (text_cons y ys) ∙ e ∙ ap (λ t. t ++ rest) (text_cons x xs) ∙ append_assoc (item_line x) (10 ∷ items_text xs) rest) in
    let one = items_one y x gy fx same.front in
    let others = begins_with xs ys rest (All-tail ItemFits x xs f) (All-tail ItemFits y ys g) same.rest in
    record { more = others.more; are = ap (λ z. z ∷ ys) one ∙ ap (λ zs. x ∷ zs) others.are; text = others.text }

-- the first line of a text
pub record FirstLine (xs : List Item) (bytes rest : List ℕ) : Type 0 where
  pub item : Item
  pub others : List Item
  pub are : xs ≡ item ∷ others
  pub line : bytes ≡ item_line item

pub first_line_is : (xs : List Item) (bytes rest : List ℕ) → All ItemFits xs → Lacks 10 bytes → items_text xs ≡ bytes ++ 10 ∷ rest
    → FirstLine xs bytes rest
first_line_is [] bytes rest f l e = absurd (omega (arith, ap length e, length-append bytes (10 ∷ rest)))
first_line_is (x ∷ xs) bytes rest f l e =
    let same = newline_one (item_line x) bytes (items_text xs) rest (line_lacks x (All-head ItemFits x xs f)) l
    (sym (text_cons x xs) ∙ e) in
    record { item = x; others = xs; are = refl; line = sym same.front }

pub texts_one : (xs ys : List Item) → All ItemFits xs → All ItemFits ys → items_text xs ≡ items_text ys → xs ≡ ys
texts_one xs ys f g e =
    let b = begins_with xs ys [] f g (sym e ∙ sym (append-nil (items_text xs))) in
    sym (b.are ∙ ap (λ m. xs ++ m) (none b.more b.text) ∙ append-nil xs)
  where
    none : (zs : List Item) → items_text zs ≡ [] → zs ≡ []
    none [] e = refl
    none (z ∷ zs) e =
        absurd (omega (arith, ap length (sym (text_cons z zs) ∙ e), length-append (item_line z) (10 ∷ items_text zs)))
