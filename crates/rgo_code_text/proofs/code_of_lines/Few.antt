-- Why a text that is not too large has few lines, names, variables and instructions: each of them takes a byte of the text at least.
use Rattle.std.proofs.Common.{◌≡◌, ℕ, suc, ◌+◌, ◌<◌, ◌≤◌, ◌^◌, Bool, true, false, not, List, [], ◌∷◌, ◌++◌, length, drop, Option, Some, None, if◌then◌else◌, bytes_eq, ap, arith, length-append}
use Rattle.std.specs.List.{flat_map, join_with_byte}
use Rattle.std.proofs.lemmas.List.{length-map, length_push}
use Rattle.rgo_typed.specs.declared.statements.Piece.{Piece}
use Rattle.rgo_typed.specs.declared.types.Base.{Base}
use Rattle.rgo_typed.specs.declared.types.Base.TheVariants as base
use Rattle.rgo_typed.specs.declared.types.Type.{«Type»}
use Rattle.rgo_tac.specs.declared.code.Instr.{Instr as CodeInstruction}
use Rattle.rgo_tac.specs.declared.regions.Class.{Class}
use Rattle.rgo_tac.specs.Code.{Instr as TacInstr}
use Rattle.rgo_tac.specs.Views.{body_of}
use Rattle.rgo_code.specs.declared.notes.Note.{Note}
use Rattle.rgo_code.specs.Code.{CodeOp, Do, Call, Go}
use Rattle.rgo_code.specs.Views.{slots, code_body}
use Rattle.rgo_code_text.specs.declared.building.Building.{Building as CodeBuilding}
use Rattle.rgo_code_text.specs.Building.{base_names, type_names, result_names, struct_name, variable_name, op_structs, op_variables, op_functions}
use Rattle.rgo_code_text.specs.Building.{declared_struct, declared_variable, declared_function, used_structs, used_variables, used_functions, with_all_names}
use Rattle.rgo_code_text.specs.CodeLines as lines
use Rattle.rgo_code_text.specs.CodeLines.{Building, empty_building, with_line, with_lines}
use Rattle.rgo_code_text.specs.Items.{NamedSlot, Item, Head, Struct, Global, Function, Slot, Entry, Instr, End, item_words, items_text, named_type_word}
use Rattle.rgo_code_text.specs.Numbers.{with_name}
use Rattle.rgo_code_text.specs.Opened.{open_of, building_of, FunctionHasRoom}
use Rattle.rgo_code_text.specs.Sizes.{AreFew}
use Rattle.rgo_code_text.specs.Written.{ActionNaming, NamesNothing, NamesStruct, NamesVariable, naming_of, number_of_name}
use Rattle.rgo_code_words.specs.Readers.{NamedType}
use Rattle.rgo_code_words.specs.Worded.{is_among}
use Rattle.rgo_code_printing.specs.Text.{line}

-- ---- numbers of names

pub number_within : (names : List (List ℕ)) (name : List ℕ) → number_of_name names name ≤ length names
number_within [] name = omega arith
number_within (z ∷ names) name = by (bytes_eq z name) (number_within names name)
  where
    by : (b : Bool) → number_of_name names name ≤ length names → (if not b then 1 + number_of_name names name else 0) ≤ suc (length names)
    by true h = omega arith
    by false h = omega (arith, h)

-- ---- a line has a byte for each of its words

joined_long : (words : List (List ℕ)) → length words ≤ length (join_with_byte 32 words) + 1
joined_long [] = omega arith
joined_long (w ∷ []) = omega arith
joined_long (w ∷ v ∷ words) =
    let rest = join_with_byte 32 (v ∷ words) in
    omega (arith, joined_long (v ∷ words), length-append w (32 ∷ rest))

line_long : (words : List (List ℕ)) → (length words ≤ length (line words)) × (1 ≤ length (line words))
line_long words =
    let joined = join_with_byte 32 words in (
      omega (arith, joined_long words, length-append joined (10 ∷ [])),
      omega (arith, length-append joined (10 ∷ [])),
    )

-- ---- a line has a word for each of its names

base_few : (b : Base) (name : List ℕ) → length (base_names b name) ≤ 1
base_few (base.Pointer n) name = omega arith
base_few base.Int name = omega arith
base_few base.Bool name = omega arith

type_few : (t : NamedType) → length (type_names t) ≤ 1
type_few t = base_few t.ty.base t.name

slot_few : (s : Option NamedSlot) → length (result_names s) ≤ 1
slot_few None = omega arith
slot_few (Some s) = type_few s.ty

types_few : (ts : List NamedType) → length (flat_map type_names ts) ≤ length ts
types_few [] = omega arith
types_few (t ∷ ts) =
    omega (arith, types_few ts, type_few t, length-append (type_names t) (flat_map type_names ts))

struct_few : (n : ActionNaming) (name : List ℕ) → length (struct_name n name) ≤ 1
struct_few NamesNothing name = omega arith
struct_few (NamesStruct n) name = omega arith
struct_few (NamesVariable n) name = omega arith

variable_few : (n : ActionNaming) (name : List ℕ) → length (variable_name n name) ≤ 1
variable_few NamesNothing name = omega arith
variable_few (NamesStruct n) name = omega arith
variable_few (NamesVariable n) name = omega arith

op_structs_few : (op : CodeOp) (name : List ℕ) → length (op_structs op name) ≤ 1
op_structs_few (Do to action from removes) name = struct_few (naming_of action) name
op_structs_few _ name = omega arith

op_variables_few : (op : CodeOp) (name : List ℕ) → length (op_variables op name) ≤ 1
op_variables_few (Do to action from removes) name = variable_few (naming_of action) name
op_variables_few _ name = omega arith

op_functions_few : (op : CodeOp) (name : List ℕ) → length (op_functions op name) ≤ 1
op_functions_few (Call to f from passes protects removes) name = omega arith
op_functions_few (Go f from passes removes) name = omega arith
op_functions_few _ name = omega arith

structs_few : (x : Item) → length (declared_struct x) + length (used_structs x) ≤ length (item_words x)
structs_few Head = omega arith
structs_few (Struct name fields) = omega (arith, types_few fields, length-map fields named_type_word)
structs_few (Global name ty) = omega (arith, type_few ty)
structs_few (Function name params slot) = omega (arith, slot_few slot)
structs_few (Slot slot) = omega (arith, type_few slot.ty)
structs_few (Entry names) = omega arith
structs_few (Instr i instr name) = omega (arith, op_structs_few instr.op name)
structs_few End = omega arith

variables_few : (x : Item) → length (declared_variable x) + length (used_variables x) ≤ length (item_words x)
variables_few (Global name ty) = omega arith
variables_few (Instr i instr name) = omega (arith, op_variables_few instr.op name)
variables_few _ = omega arith

functions_few : (x : Item) → length (declared_function x) + length (used_functions x) ≤ length (item_words x)
functions_few (Function name params slot) = omega arith
functions_few (Instr i instr name) = omega (arith, op_functions_few instr.op name)
functions_few _ = omega arith

-- ---- so the names of all lines are no more than the bytes of the text

name_few : (names : List (List ℕ)) (name : List ℕ) → length (with_name names name) ≤ length names + 1
name_few names name = by (is_among names name)
  where
    by : (b : Bool) → length (if b then names else names ++ name ∷ []) ≤ length names + 1
    by true = omega arith
    by false = omega (arith, length_push names name)

names_few : (names others : List (List ℕ)) → length (with_all_names names others) ≤ length names + length others
names_few names [] = omega arith
names_few names (name ∷ others) = omega (arith, names_few (with_name names name) others, name_few names name)

module _ (declared used : Item → List (List ℕ))
    (each : (x : Item) → length (declared x) + length (used x) ≤ length (item_words x)) where
  both_few : (items : List Item) → length (flat_map declared items) + length (flat_map used items) ≤ length (items_text items)
  both_few [] = omega arith
  both_few (x ∷ items) =
      omega (
        arith,
        both_few items,
        each x,
        (line_long (item_words x)).0,
        length-append (declared x) (flat_map declared items),
        length-append (used x) (flat_map used items),
        length-append (line (item_words x)) (items_text items),
      )

  kind_few : (items : List Item)
      → length (with_all_names (flat_map declared items) (flat_map used items)) ≤ length (items_text items)
  kind_few items = omega (arith, both_few items, names_few (flat_map declared items) (flat_map used items))

-- and so are the lines
pub lines_few : (items : List Item) → length items ≤ length (items_text items)
lines_few [] = omega arith
lines_few (x ∷ items) =
    omega (
      arith,
      lines_few items,
      (line_long (item_words x)).1,
      length-append (line (item_words x)) (items_text items),
    )

-- the next line has a number
pub line_fits : (text : List ℕ) (items : List Item) (at n : ℕ) → text ≡ items_text items ++ drop at text
    → length items + 1 ≡ n → length text + 2 < 2 ^ 32 → n + 1 < 2 ^ 32
line_fits text items at n cut number h =
    omega (
      arith,
      h,
      number,
      lines_few items,
      ap length cut,
      length-append (items_text items) (drop at text),
    )

pub are_few : (items : List Item) → length (items_text items) + 2 < 2 ^ 32 → AreFew items
are_few items h = record {
  lines = omega (arith, h, lines_few items);
  names = record {
    structs = omega (arith, h, kind_few declared_struct used_structs structs_few items);
    variables = omega (arith, h, kind_few declared_variable used_variables variables_few items);
    functions = omega (arith, h, kind_few declared_function used_functions functions_few items);
  };
}

-- ---- a function has no more variables and instructions than there are lines

slots_long : (ts : List «Type») (cs : List Class) → length (slots ts cs) ≡ length ts
slots_long [] cs = omega arith
slots_long (t ∷ ts) cs = omega (arith, slots_long ts (drop 1 cs))

notes_long : (body : List TacInstr) (notes : List Note) → length (code_body body notes) ≡ length body
notes_long [] notes = omega arith
notes_long (i ∷ body) notes = omega (arith, notes_long body (drop 1 notes))

body_long : (ls : List (List ℕ)) (ps : List (List Piece)) (is : List CodeInstruction) (places : List ℕ)
    → length (body_of ls ps is places) ≡ length is
body_long ls ps [] places = omega arith
body_long ls ps (i ∷ is) places = omega (arith, body_long ls ps is (drop 1 places))

-- its current function has at most that many variables and instructions more
record GrowsBy (b c : Building) (n : ℕ) : Type 0 where
  pub variables : length c.current.variables ≤ length b.current.variables + n
  pub body : length c.current.body ≤ length b.current.body + n

line_grows : (b : Building) (x : lines.Line) → GrowsBy b (with_line b x) 1
line_grows b (lines.Var slot) = record { variables = omega (arith, length_push b.current.variables slot); body = omega arith }
line_grows b (lines.Instr i instr) = record { variables = omega arith; body = omega (arith, length_push b.current.body instr) }
line_grows b _ = record { variables = omega arith; body = omega arith }

lines_grow : (b : Building) (xs : List lines.Line) → GrowsBy b (with_lines b xs) (length xs)
lines_grow b [] = record { variables = omega arith; body = omega arith }
lines_grow b (x ∷ xs) =
    let first = line_grows b x in
    let rest = lines_grow (with_line b x) xs in
    record { variables = omega (arith, first.variables, rest.variables); body = omega (arith, first.body, rest.body) }

pub has_room : (b : CodeBuilding) (xs : List lines.Line) → building_of b ≡ with_lines empty_building xs → length xs + 2 < 2 ^ 32
    → FunctionHasRoom b.current
has_room b xs made h =
    let o = b.current in
    let g = lines_grow empty_building xs in
    let variables : length (open_of o).variables ≡ length (with_lines empty_building xs).current.variables =
    ap (λ (c : Building). length c.current.variables) made in
    let body : length (open_of o).body ≡ length (with_lines empty_building xs).current.body =
    ap (λ (c : Building). length c.current.body) made in
    record {
      types = omega (arith, h, g.variables, variables, slots_long o.types.items o.classes.items);
      instrs = omega (
        arith,
        h,
        g.body,
        body,
        notes_long (body_of o.lists.items o.pieces.items o.instrs.items o.places.items) o.notes.items,
        body_long o.lists.items o.pieces.items o.instrs.items o.places.items,
      );
    }
