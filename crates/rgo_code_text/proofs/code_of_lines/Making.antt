-- Code that is made of the lines of a text has this text: each name gets a number at which the tables have this name.
use Rattle.std.proofs.Common.{◌≡◌, ◌≢◌, ℕ, List, [], ◌∷◌, ◌++◌, map, length, drop, Option, Some, None, IfSome, refl, sym, ap, subst, ◌∙◌, codes, decimal}
use Rattle.std.specs.List.{All, flat_map}
use Rattle.std.specs.Option.{option_map}
use Rattle.std.proofs.lemmas.List.{map-append}
use Rattle.std.proofs.lemmas.List.Elements.{All-nil, All-cons, All-head, All-tail}
use Rattle.rgo_typed.specs.declared.actions.Action.{Action}
use Rattle.rgo_typed.specs.declared.actions.Action.TheVariants as action
use Rattle.rgo_typed.specs.declared.types.Base.{Base}
use Rattle.rgo_typed.specs.declared.types.Base.TheVariants as base
use Rattle.rgo_code.specs.Code.{CodeOp, Code, Do, Call, Go, Print, Jump, Branch, Return}
use Rattle.rgo_code_text.specs.declared.places.Place.{Place}
use Rattle.rgo_code_text.specs.declared.places.Place.TheVariants.{First, Structs, Globals, Functions, Slots, Body}
use Rattle.rgo_code_text.specs.Building.{line_of_item, numbered_type, numbered_slot, numbered_op, numbered_action, code_of_items, names_in, declared_in, declared_struct, declared_variable, declared_function, used_structs, used_variables, used_functions, type_names, base_names, result_names, op_structs, op_variables, op_functions}
use Rattle.rgo_code_text.specs.CodeLines.{Line, Building, empty_building, with_lines, code_lines_of, line_kind, line_words, LineFits, line_struct, line_variable, line_function, uses_structs, uses_variables, uses_functions}
use Rattle.rgo_code_text.specs.Items.{NamedSlot, Item, Head, Struct, Global, Function, Slot, Entry, Instr, End, ItemFits, IsName, AwaitsNumber, BaseFits, TypeFits, NamedSlotFits, OpIsNamed, item_kind, item_words, items_text, place_after_items, named_type_word}
use Rattle.rgo_code_text.specs.Order.{after_kinds, IsLast}
use Rattle.rgo_code_words.specs.Readers.{NamedType}
use Rattle.rgo_code_printing.specs.Text.{Names, names_of, line, lines_with, text_of}
use Rattle.rgo_code_printing.specs.Words.{type_word, place_word, creates_word}
use Rattle.rgo_code_text.specs.Written.{HasCodeText, KindIsWritten, uses_of, number_of_name, SlotFits, OpHasText, ActionHasText, IsInstruction}
use Rattle.rgo_code_words.specs.Worded.{AreNames}
use Rattle.rgo_code_text.proofs.code_of_lines.Assembling.{lines_so_far, whole_lines, all_grow}
use Rattle.rgo_code_text.proofs.naming.Knowing.{used_known, kind_written, whole_is, all_flat, flat_all}
use Rattle.rgo_code_text.proofs.code_of_lines.LinesOfCode.{code_words, structs_used, variables_used, functions_used, structs_declared, variables_declared, functions_declared, fits_code}
use Rattle.rgo_code_words.proofs.ListFacts.{front_all, back_all}
use Rattle.rgo_code_text.proofs.naming.Naming.{IsKnown, AreKnown, type_same, slot_same, result_same, op_same}
use Rattle.rgo_code_text.proofs.naming.Numbering.{type_numbers, fields_numbers, result_numbers, structs_numbers, variables_numbers, functions_numbers}

-- ---- each line

kind_same : (n : Names) (x : Item) → line_kind (line_of_item n x) ≡ item_kind x
kind_same n Head = refl
kind_same n (Struct name fields) = refl
kind_same n (Global name ty) = refl
kind_same n (Function name params slot) = refl
kind_same n (Slot slot) = refl
kind_same n (Entry names) = refl
kind_same n (Instr i instr name) = refl
kind_same n End = refl

struct_same : (n : Names) (x : Item) → line_struct (line_of_item n x) ≡ declared_struct x
struct_same n Head = refl
struct_same n (Struct name fields) = refl
struct_same n (Global name ty) = refl
struct_same n (Function name params slot) = refl
struct_same n (Slot slot) = refl
struct_same n (Entry names) = refl
struct_same n (Instr i instr name) = refl
struct_same n End = refl

variable_same : (n : Names) (x : Item) → line_variable (line_of_item n x) ≡ declared_variable x
variable_same n Head = refl
variable_same n (Struct name fields) = refl
variable_same n (Global name ty) = refl
variable_same n (Function name params slot) = refl
variable_same n (Slot slot) = refl
variable_same n (Entry names) = refl
variable_same n (Instr i instr name) = refl
variable_same n End = refl

function_same : (n : Names) (x : Item) → line_function (line_of_item n x) ≡ declared_function x
function_same n Head = refl
function_same n (Struct name fields) = refl
function_same n (Global name ty) = refl
function_same n (Function name params slot) = refl
function_same n (Slot slot) = refl
function_same n (Entry names) = refl
function_same n (Instr i instr name) = refl
function_same n End = refl

structs_same : (n : Names) (x : Item) → uses_structs (line_of_item n x) ≡ map (number_of_name n.structs) (used_structs x)
structs_same n Head = refl
structs_same n (Struct name fields) = fields_numbers n fields
structs_same n (Global name ty) = type_numbers n ty
structs_same n (Function name params slot) = result_numbers n slot
structs_same n (Slot slot) = type_numbers n slot.ty
structs_same n (Entry names) = refl
structs_same n (Instr i instr name) = structs_numbers n instr.op name
structs_same n End = refl

variables_same : (n : Names) (x : Item) → uses_variables (line_of_item n x) ≡ map (number_of_name n.variables) (used_variables x)
variables_same n Head = refl
variables_same n (Struct name fields) = refl
variables_same n (Global name ty) = refl
variables_same n (Function name params slot) = refl
variables_same n (Slot slot) = refl
variables_same n (Entry names) = refl
variables_same n (Instr i instr name) = variables_numbers n instr.op name
variables_same n End = refl

functions_same : (n : Names) (x : Item) → uses_functions (line_of_item n x) ≡ map (number_of_name n.functions) (used_functions x)
functions_same n Head = refl
functions_same n (Struct name fields) = refl
functions_same n (Global name ty) = refl
functions_same n (Function name params slot) = refl
functions_same n (Slot slot) = refl
functions_same n (Entry names) = refl
functions_same n (Instr i instr name) = functions_numbers n instr.op name
functions_same n End = refl

-- the names that a line uses are known
pub record Knows (n : Names) (x : Item) : Type 0 where
  pub structs : AreKnown n.structs (used_structs x)
  pub variables : AreKnown n.variables (used_variables x)
  pub functions : AreKnown n.functions (used_functions x)

fields_same : (n : Names) (ts : List NamedType) → All TypeFits ts → AreKnown n.structs (flat_map type_names ts)
    → map (type_word n.structs) (map (numbered_type n) ts) ≡ map named_type_word ts
fields_same n [] f k = refl
fields_same n (t ∷ ts) f k =
    ap (λ w. w ∷ map (type_word n.structs) (map (numbered_type n) ts))
    (type_same n t (All-head TypeFits t ts f) (front_all (IsKnown n.structs) (type_names t) (flat_map type_names ts) k))
    ∙ ap (λ ws. named_type_word t ∷ ws)
    (fields_same n ts (All-tail TypeFits t ts f) (back_all (IsKnown n.structs) (type_names t) (flat_map type_names ts) k))

words_same : (n : Names) (x : Item) → ItemFits x → Knows n x → line_words n (line_of_item n x) ≡ item_words x
words_same n Head f k = refl
words_same n (Struct name fields) f k = ap (λ ws. codes "struct" ∷ name ∷ ws) (fields_same n fields f.1 k.structs)
words_same n (Global name ty) f k = ap (λ w. codes "global" ∷ name ∷ w ∷ []) (type_same n ty f.1 k.structs)
words_same n (Function name params slot) f k =
    ap (λ ws. codes "func" ∷ name ∷ decimal params ∷ ws) (result_same n slot f.2 k.structs)
words_same n (Slot slot) f k = slot_same n slot f k.structs
words_same n (Entry names) f k = refl
words_same n (Instr i instr name) f k =
    ap (λ ws. decimal i ∷ place_word instr.place ∷ creates_word instr.creates ∷ ws)
    (op_same n instr.op name f.2 k.structs k.variables k.functions)
words_same n End f k = refl

-- ---- what fits

more_words : {A : Type 0} (a : A) (xs : List A) → a ∷ xs ≢ []
more_words a xs e = cc

new_instruction : (k m : ℕ) (to : Option ℕ) (from : List ℕ) → IsInstruction (action.New k) to from → IsInstruction (action.New m) to from
new_instruction k m (Some d) [] i = more_words _ _
new_instruction k m (Some d) (a ∷ from) i = absurd (i refl)
new_instruction k m None from i = absurd (i refl)

get_instruction : (k m : ℕ) (to : Option ℕ) (from : List ℕ) → IsInstruction (action.Get k) to from → IsInstruction (action.Get m) to from
get_instruction k m (Some d) [] i = more_words _ _
get_instruction k m (Some d) (a ∷ from) i = absurd (i refl)
get_instruction k m None from i = absurd (i refl)

set_instruction : (k m : ℕ) (to : Option ℕ) (from : List ℕ) → IsInstruction (action.Set k) to from → IsInstruction (action.Set m) to from
set_instruction k m None (a ∷ []) i = more_words _ _
set_instruction k m None [] i = absurd (i refl)
set_instruction k m None (a ∷ b ∷ from) i = absurd (i refl)
set_instruction k m (Some d) from i = absurd (i refl)

action_fits : (n : Names) (a : Action) (to : Option ℕ) (from name : List ℕ) → IsInstruction a to from → ActionHasText a
    → IsInstruction (numbered_action n a name) to from × ActionHasText (numbered_action n a name)
action_fits n (action.New k) to from name i f = (new_instruction k (number_of_name n.structs name) to from i, tt)
action_fits n (action.Get k) to from name i f = (get_instruction k (number_of_name n.variables name) to from i, tt)
action_fits n (action.Set k) to from name i f = (set_instruction k (number_of_name n.variables name) to from i, tt)
action_fits n _ to from name i f = (i, f)

pub op_fits : (n : Names) (op : CodeOp) (name : List ℕ) → OpHasText op → OpHasText (numbered_op n op name)
op_fits n (Do to a from removes) name f =
    let g = action_fits n a to from name f.0 f.1 in (g.0, g.1, f.2, f.3, f.4)
op_fits n (Call to k from passes protects removes) name f = f
op_fits n (Go k from passes removes) name f = f
op_fits n (Print pieces from removes) name f = f
op_fits n (Jump target removes) name f = f
op_fits n (Branch test target removes other otherwise) name f = f
op_fits n (Return value) name f = f

slot_fits : (n : Names) (s : NamedSlot) → NamedSlotFits s → SlotFits (numbered_slot n s)
slot_fits n s f = f.1

result_fits : (n : Names) (o : Option NamedSlot) → IfSome o NamedSlotFits → IfSome (option_map (numbered_slot n) o) SlotFits
result_fits n None f = tt
result_fits n (Some s) f = f.1

line_fits : (n : Names) (x : Item) → ItemFits x → LineFits (line_of_item n x)
line_fits n Head f = tt
line_fits n (Struct name fields) f = tt
line_fits n (Global name ty) f = tt
line_fits n (Function name params slot) f = (f.1, result_fits n slot f.2)
line_fits n (Slot slot) f = f.1
line_fits n (Entry names) f = f
line_fits n (Instr i instr name) f = (f.0, (f.1.0, f.1.1, op_fits n instr.op name f.1.2))
line_fits n End f = tt

-- ---- names of lines are names

base_named : (b : Base) (name : List ℕ) → BaseFits b name → AreNames (base_names b name)
base_named base.Int name f = All-nil IsName
base_named base.Bool name f = All-nil IsName
base_named (base.Pointer k) name f = All-cons IsName name [] f.1 (All-nil IsName)

type_named : (t : NamedType) → TypeFits t → AreNames (type_names t)
type_named t f = base_named t.ty.base t.name f

slot_named : (o : Option NamedSlot) → IfSome o NamedSlotFits → AreNames (result_names o)
slot_named None f = All-nil IsName
slot_named (Some s) f = type_named s.ty f.0

one_name : (k : ℕ) (name : List ℕ) → AwaitsNumber k name → AreNames (name ∷ [])
one_name k name i = All-cons IsName name [] i.1 (All-nil IsName)

op_structs_named : (op : CodeOp) (name : List ℕ) → OpIsNamed op name → AreNames (op_structs op name)
op_structs_named (Do to (action.New k) from removes) name i = one_name k name i
op_structs_named (Do to _ from removes) name i = All-nil IsName
op_structs_named _ name i = All-nil IsName

op_variables_named : (op : CodeOp) (name : List ℕ) → OpIsNamed op name → AreNames (op_variables op name)
op_variables_named (Do to (action.Get k) from removes) name i = one_name k name i
op_variables_named (Do to (action.Set k) from removes) name i = one_name k name i
op_variables_named (Do to _ from removes) name i = All-nil IsName
op_variables_named _ name i = All-nil IsName

op_functions_named : (op : CodeOp) (name : List ℕ) → OpIsNamed op name → AreNames (op_functions op name)
op_functions_named (Call to k from passes protects removes) name i = one_name k name i
op_functions_named (Go k from passes removes) name i = one_name k name i
op_functions_named _ name i = All-nil IsName

structs_named : (x : Item) → ItemFits x → AreNames (used_structs x)
structs_named (Struct name fields) f = flat_all TypeFits IsName type_names fields f.1 type_named
structs_named (Global name ty) f = type_named ty f.1
structs_named (Function name params slot) f = slot_named slot f.2
structs_named (Slot slot) f = type_named slot.ty f.0
structs_named (Instr i instr name) f = op_structs_named instr.op name f.2
structs_named Head f = All-nil IsName
structs_named (Entry names) f = All-nil IsName
structs_named End f = All-nil IsName

variables_named : (x : Item) → ItemFits x → AreNames (used_variables x)
variables_named (Instr i instr name) f = op_variables_named instr.op name f.2
variables_named _ f = All-nil IsName

functions_named : (x : Item) → ItemFits x → AreNames (used_functions x)
functions_named (Instr i instr name) f = op_functions_named instr.op name f.2
functions_named _ f = All-nil IsName

declared_struct_named : (x : Item) → ItemFits x → AreNames (declared_struct x)
declared_struct_named (Struct name fields) f = All-cons IsName name [] f.0 (All-nil IsName)
declared_struct_named _ f = All-nil IsName

declared_variable_named : (x : Item) → ItemFits x → AreNames (declared_variable x)
declared_variable_named (Global name ty) f = All-cons IsName name [] f.0 (All-nil IsName)
declared_variable_named _ f = All-nil IsName

declared_function_named : (x : Item) → ItemFits x → AreNames (declared_function x)
declared_function_named (Function name params slot) f = All-cons IsName name [] f.0 (All-nil IsName)
declared_function_named _ f = All-nil IsName

-- ---- all lines

map_same : {A B C : Type 0} (f : A → B) (g : B → C) (h : A → C) (xs : List A) → ((x : A) → g (f x) ≡ h x)
    → map g (map f xs) ≡ map h xs
map_same f g h [] e = refl
map_same f g h (x ∷ xs) e = ap (λ y. y ∷ map g (map f xs)) (e x) ∙ ap (λ ys. h x ∷ ys) (map_same f g h xs e)

flat_lines : {A : Type 0} (f : Item → Line) (F : Line → List A) (G : Item → List A) (xs : List Item) → ((x : Item) → F (f x) ≡ G x)
    → flat_map F (map f xs) ≡ flat_map G xs
flat_lines f F G [] e = refl
flat_lines f F G (x ∷ xs) e =
    ap (λ ys. ys ++ flat_map F (map f xs)) (e x) ∙ ap (λ ys. G x ++ ys) (flat_lines f F G xs e)

flat_numbers : (f : Item → Line) (F : Line → List ℕ) (G : Item → List (List ℕ)) (num : List ℕ → ℕ) (xs : List Item)
    → ((x : Item) → F (f x) ≡ map num (G x)) → flat_map F (map f xs) ≡ map num (flat_map G xs)
flat_numbers f F G num [] e = refl
flat_numbers f F G num (x ∷ xs) e =
    ap (λ ys. ys ++ flat_map F (map f xs)) (e x) ∙ ap (λ ys. map num (G x) ++ ys) (flat_numbers f F G num xs e)
    ∙ sym (map-append num (G x) (flat_map G xs))

all_fit : (n : Names) (xs : List Item) → All ItemFits xs → All LineFits (map (line_of_item n) xs)
all_fit n [] a = All-nil LineFits
all_fit n (x ∷ xs) a =
    All-cons LineFits (line_of_item n x) (map (line_of_item n) xs) (line_fits n x (All-head ItemFits x xs a))
    (all_fit n xs (All-tail ItemFits x xs a))

all_words : (n : Names) (xs : List Item) → All ItemFits xs → All (Knows n) xs
    → flat_map line (map (line_words n) (map (line_of_item n) xs)) ≡ items_text xs
all_words n [] a k = refl
all_words n (x ∷ xs) a k =
    ap (λ w. line w ++ flat_map line (map (line_words n) (map (line_of_item n) xs)))
    (words_same n x (All-head ItemFits x xs a) (All-head (Knows n) x xs k))
    ∙ ap (λ t. line (item_words x) ++ t) (all_words n xs (All-tail ItemFits x xs a) (All-tail (Knows n) x xs k))

know_all : (n : Names) (xs : List Item) → All (λ x. AreKnown n.structs (used_structs x)) xs
    → All (λ x. AreKnown n.variables (used_variables x)) xs → All (λ x. AreKnown n.functions (used_functions x)) xs
    → All (Knows n) xs
know_all n xs a b c k d l = record { structs = a k d l; variables = b k d l; functions = c k d l }

-- code that was made of lines
pub record Made (items : List Item) : Type 0 where
  pub text : text_of (code_of_items items) ≡ items_text items
  pub written : HasCodeText (code_of_items items)

lines_last : (p : Place) (b : Building) → IsLast p → lines_so_far p b ≡ whole_lines b
lines_last Structs b l = refl
lines_last Globals b l = refl
lines_last Functions b l = refl
lines_last First b l = absurd l
lines_last Slots b l = absurd l
lines_last (Body i) b l = absurd l

module _ (items : List Item) (place : Place) (fit : All ItemFits items) (leads : place_after_items items First ≡ Some place)
    (last : IsLast place) where
  abbrev n : Names
  n = names_in items

  abbrev d : Names
  d = declared_in items

  abbrev c : Code
  c = code_of_items items

  abbrev lines : List Line
  lines = map (line_of_item (names_in items)) items

  lines_same : code_lines_of c ≡ lines
  lines_same =
      let grown = all_grow (map (line_of_item (names_in items)) items) First place empty_building
      (ap (λ ks. after_kinds ks First) (map_same (line_of_item (names_in items)) line_kind item_kind items (kind_same (names_in items))) ∙ leads) refl in
      sym (lines_last place (with_lines empty_building (map (line_of_item (names_in items)) items)) last) ∙ grown.lines_are

  structs_are : map (λ s. s.name) c.structs ≡ d.structs
  structs_are =
      sym (structs_declared c) ∙ ap (flat_map line_struct) lines_same
      ∙ flat_lines (line_of_item (names_in items)) line_struct declared_struct items (struct_same (names_in items))

  variables_are : map (λ v. v.name) c.variables ≡ d.variables
  variables_are =
      sym (variables_declared c) ∙ ap (flat_map line_variable) lines_same
      ∙ flat_lines (line_of_item (names_in items)) line_variable declared_variable items (variable_same (names_in items))

  functions_are : map (λ f. f.name) c.functions ≡ d.functions
  functions_are =
      sym (functions_declared c) ∙ ap (flat_map line_function) lines_same
      ∙ flat_lines (line_of_item (names_in items)) line_function declared_function items (function_same (names_in items))

  names_are_same : names_of c ≡ n
  names_are_same =
      let us = flat_map used_structs items in
      let vs = flat_map used_variables items in
      let fs = flat_map used_functions items in
      let a = ap (λ ns. ns ++ drop (length d.structs) n.structs) structs_are ∙ whole_is d.structs us in
      let b = ap (λ ns. ns ++ drop (length d.variables) n.variables) variables_are ∙ whole_is d.variables vs in
      let e = ap (λ ns. ns ++ drop (length d.functions) n.functions) functions_are ∙ whole_is d.functions fs in
      ap (λ x. record { structs = x; variables = (names_of c).variables; functions = (names_of c).functions }) a
      ∙ ap (λ x. record { structs = n.structs; variables = x; functions = (names_of c).functions }) b
      ∙ ap (λ x. record { structs = n.structs; variables = n.variables; functions = x }) e

  knows : All (Knows n) items
  knows =
      know_all (names_in items) items
      (all_flat (IsKnown n.structs) used_structs items (used_known (flat_map used_structs items) d.structs))
      (all_flat (IsKnown n.variables) used_variables items (used_known (flat_map used_variables items) d.variables))
      (all_flat (IsKnown n.functions) used_functions items (used_known (flat_map used_functions items) d.functions))

  text_made : text_of c ≡ items_text items
  unfolding text_of
  text_made =
      ap (λ ns. flat_map line (lines_with ns c)) names_are_same
      ∙ ap (flat_map line) (sym (code_words n c) ∙ ap (map (line_words n)) lines_same)
      ∙ all_words (names_in items) items fit knows

  structs_written : KindIsWritten (map (λ s. s.name) c.structs) c.undeclared.structs (uses_of c).structs
  structs_written =
      let us = flat_map used_structs items in
      let uses : (uses_of c).structs ≡ map (number_of_name n.structs) us =
      sym (structs_used c) ∙ ap (flat_map uses_structs) lines_same
      ∙ flat_numbers (line_of_item (names_in items)) uses_structs used_structs (number_of_name n.structs) items (structs_same (names_in items)) in
      subst (λ ns. KindIsWritten ns c.undeclared.structs (uses_of c).structs) (sym structs_are)
      (subst (KindIsWritten d.structs c.undeclared.structs) (sym uses)
      (kind_written d.structs us (flat_all ItemFits IsName declared_struct items fit declared_struct_named)
      (flat_all ItemFits IsName used_structs items fit structs_named)))

  variables_written : KindIsWritten (map (λ v. v.name) c.variables) c.undeclared.variables (uses_of c).variables
  variables_written =
      let us = flat_map used_variables items in
      let uses : (uses_of c).variables ≡ map (number_of_name n.variables) us =
      sym (variables_used c) ∙ ap (flat_map uses_variables) lines_same
      ∙ flat_numbers (line_of_item (names_in items)) uses_variables used_variables (number_of_name n.variables) items (variables_same (names_in items)) in
      subst (λ ns. KindIsWritten ns c.undeclared.variables (uses_of c).variables) (sym variables_are)
      (subst (KindIsWritten d.variables c.undeclared.variables) (sym uses)
      (kind_written d.variables us (flat_all ItemFits IsName declared_variable items fit declared_variable_named)
      (flat_all ItemFits IsName used_variables items fit variables_named)))

  functions_written : KindIsWritten (map (λ f. f.name) c.functions) c.undeclared.functions (uses_of c).functions
  functions_written =
      let us = flat_map used_functions items in
      let uses : (uses_of c).functions ≡ map (number_of_name n.functions) us =
      sym (functions_used c) ∙ ap (flat_map uses_functions) lines_same
      ∙ flat_numbers (line_of_item (names_in items)) uses_functions used_functions (number_of_name n.functions) items (functions_same (names_in items)) in
      subst (λ ns. KindIsWritten ns c.undeclared.functions (uses_of c).functions) (sym functions_are)
      (subst (KindIsWritten d.functions c.undeclared.functions) (sym uses)
      (kind_written d.functions us (flat_all ItemFits IsName declared_function items fit declared_function_named)
      (flat_all ItemFits IsName used_functions items fit functions_named)))

  pub made : Made items
  made = record {
    text = text_made;
    written = record {
      structs = structs_written;
      variables = variables_written;
      functions = functions_written;
      fits = fits_code (code_of_items items) (subst (All LineFits) (sym lines_same) (all_fit (names_in items) items fit));
    };
  }
