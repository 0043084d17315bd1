-- Lines of a code text, as they are read.
use Rattle.std.specs.Prelude.{◌≡◌, ℕ, ◌==◌, ◌&&◌, ◌||◌, false, if◌then◌else◌, List, [], length, Option, Some, None, codes, ⊤}
use Rattle.std.specs.Option.{option_map}
use Rattle.std.specs.List.{slice_split, before_first}
use Rattle.std.specs.Str.{bytes_eq}
use Rattle.rgo_code_words.specs.Cuts.{is_space, cut_line, nth_word}
use Rattle.rgo_code_text.specs.Items.{NamedSlot, Item, Struct, Global, Function, Slot, Entry, Instr, ItemFits}
use Rattle.rgo_code_text.specs.Ops.{NamedOp}
use Rattle.rgo_code_words.specs.Readers.{NamedType, on_some, read_class, read_each, read_number, read_regions, read_type}
use Rattle.rgo_code_words.specs.Worded.{is_name}

abbrev pub read_fields : List ℕ → Option (List NamedType)
read_fields list = read_each read_type (slice_split is_space list)

abbrev pub read_slot : (ty word : List ℕ) → Option NamedSlot
read_slot ty word =
    on_some (read_class word) (λ class. option_map (λ t. record { ty = t; class = class }) (read_type ty))

abbrev pub read_result : (ty word : List ℕ) → Option (Option NamedSlot)
read_result ty word =
    if bytes_eq ty (codes "-") && bytes_eq word (codes "-") then Some None else option_map Some (read_slot ty word)

-- ---- lines by their words

abbrev pub struct_item : List (List ℕ) → Option Item
struct_item words =
    if is_name (nth_word words 1)
    then (if length words == 2 then Some (Struct (nth_word words 1) [])
    else option_map (Struct (nth_word words 1)) (read_fields (nth_word words 2)))
    else None

abbrev pub global_item : List (List ℕ) → Option Item
global_item words =
    if length words == 3 && is_name (nth_word words 1)
    then option_map (Global (nth_word words 1)) (read_type (nth_word words 2))
    else None

abbrev pub function_item : List (List ℕ) → Option Item
function_item words =
    if length words == 5 && is_name (nth_word words 1)
    then on_some (read_number (nth_word words 2)) (λ params.
    option_map (Function (nth_word words 1) params) (read_result (nth_word words 3) (nth_word words 4)))
    else None

abbrev pub slot_item : List (List ℕ) → Option Item
slot_item words = if length words == 3 then option_map Slot (read_slot (nth_word words 1) (nth_word words 2)) else None

abbrev pub entry_item : List (List ℕ) → Option Item
entry_item words = if length words == 2 then option_map Entry (read_regions 45 (nth_word words 1)) else None

-- ---- words

-- at how many spaces a line with this first word is cut
abbrev pub spaces : List ℕ → ℕ
spaces word =
    if bytes_eq word (codes "func") then 4
    else (if bytes_eq word (codes "entry") then 1
    else (if bytes_eq word (codes "struct") || bytes_eq word (codes "global") || bytes_eq word (codes "var") then 2 else 3))

-- the first word and the words of a line that is neither the first line nor the end of a function
pub record IsCut (line word : List ℕ) (words : List (List ℕ)) : Type 0 where
  pub first : before_first is_space line ≡ word
  pub words_are : words ≡ cut_line (spaces word) line
  pub not_head : bytes_eq line (codes "rgo code 1") ≡ false
  pub not_end : bytes_eq line (codes "end") ≡ false

-- ---- instructions

-- the instruction with this number, this place, these names that it creates, and this operation
abbrev pub instr_with : (index place : ℕ) (creates : List ℕ) → NamedOp → Item
instr_with index place creates o = Instr index (record { creates = creates; op = o.op; place = place }) o.name

abbrev pub IsInstr : Item → Type 0
IsInstr (Instr i instr name) = ⊤
IsInstr item = ⊥

abbrev pub IsFittingInstr : Item → Type 0
IsFittingInstr item = IsInstr item × ItemFits item
