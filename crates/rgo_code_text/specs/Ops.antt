-- Operations of a code text, as they are read. The numbers of what they name are 0.
use Rattle.std.specs.Prelude.{◌≡◌, ◌<◌, ◌≤◌, ◌⊎◌, ◌++◌, ℕ, ◌-◌, ◌==◌, if◌then◌else◌, List, [], ◌∷◌, length, take, drop, Option, Some, None, codes}
use Rattle.std.specs.Option.{option_map}
use Rattle.std.specs.List.{join_with_byte, position_or_len}
use Rattle.std.specs.Str.{bytes_eq}
use Rattle.rgo_tac.specs.Code as tac
use Rattle.rgo_code.specs.declared.notes.Note.{Note}
use Rattle.rgo_code.specs.Code.{CodeOp, Call, Go, Jump, Return}
use Rattle.rgo_code.specs.Views.{code_op}
use Rattle.rgo_code_text.specs.Actions.{read_action}
use Rattle.rgo_code_words.specs.Cuts.{is_space, nth_word}
use Rattle.rgo_code_text.specs.Items.{only_name, OpIsNamed}
use Rattle.rgo_code_words.specs.Readers.{on_some, read_number, read_lettered, read_variable, read_value, read_regions, read_passes, read_within, bytes_inside}
use Rattle.rgo_code_printing.specs.Text.{op_words}
use Rattle.rgo_code_text.specs.Written.{OpHasText}
use Rattle.rgo_code_words.specs.Worded.{is_name}

pub record NamedOp : Type 0 where
  pub op : CodeOp
  pub name : List ℕ

abbrev pub unnamed_op : CodeOp → Option NamedOp
unnamed_op op = Some (record { op = op; name = [] })

-- a note with these removals alone
abbrev pub removing : List ℕ → Note
removing names = record { creates = []; passes = []; protects = []; removes = names; otherwise = [] }

abbrev pub read_removes : List ℕ → Option (List ℕ)
read_removes word = read_regions 45 word

abbrev pub last_of : List (List ℕ) → List ℕ
last_of words = nth_word words (length words - 1)

-- an action, and its removals
abbrev pub read_action_op : List (List ℕ) → Option NamedOp
read_action_op words =
    on_some (read_action (take (length words - 1) words)) (λ a.
    on_some (read_removes (last_of words)) (λ removes.
    Some (record { op = code_op a.op (removing removes); name = a.name })))

-- a name and its arguments
pub record Callee : Type 0 where
  pub name : List ℕ
  pub from : List ℕ

abbrev pub callee_at : ℕ → List ℕ → Option Callee
callee_at n word =
    if is_name (take n word)
    then option_map (λ from. record { name = take n word; from = from })
    (read_within (read_lettered 118) (bytes_inside (codes "(") 41 (drop n word)))
    else None

abbrev pub read_callee : List ℕ → Option Callee
read_callee word = callee_at (position_or_len (λ b. b == 40) word) word

abbrev pub read_call : List (List ℕ) → Option NamedOp
read_call words =
    on_some (read_value (nth_word words 1)) (λ to.
    on_some (read_callee (nth_word words 2)) (λ c.
    on_some (read_passes (nth_word words 3)) (λ passes.
    on_some (read_regions 80 (nth_word words 4)) (λ protects.
    on_some (read_removes (nth_word words 5)) (λ removes.
    Some (record { op = Call to 0 c.from passes protects removes; name = c.name }))))))

abbrev pub read_go : List (List ℕ) → Option NamedOp
read_go words =
    on_some (read_callee (nth_word words 1)) (λ c.
    on_some (read_passes (nth_word words 2)) (λ passes.
    on_some (read_removes (nth_word words 3)) (λ removes.
    Some (record { op = Go 0 c.from passes removes; name = c.name }))))

-- what the words of a call, and those of a goroutine's start, say of regions
abbrev pub call_note : List (List ℕ) → Option Note
call_note words =
    on_some (read_passes (nth_word words 3)) (λ passes.
    on_some (read_regions 80 (nth_word words 4)) (λ protects.
    on_some (read_removes (nth_word words 5)) (λ removes.
    Some (record (removing removes) { passes = passes; protects = protects }))))

abbrev pub go_note : List (List ℕ) → Option Note
go_note words =
    on_some (read_passes (nth_word words 2)) (λ passes.
    on_some (read_removes (nth_word words 3)) (λ removes. Some (record (removing removes) { passes = passes })))

abbrev pub read_jump : List (List ℕ) → Option NamedOp
read_jump words =
    on_some (read_number (nth_word words 1)) (λ target.
    on_some (read_removes (nth_word words 2)) (λ removes. unnamed_op (Jump target removes)))

-- a branch without its removals
abbrev pub branch_of : List (List ℕ) → Option tac.Op
branch_of words =
    on_some (read_variable (nth_word words 1)) (λ test.
    on_some (read_number (nth_word words 2)) (λ target.
    on_some (read_number (nth_word words 4)) (λ other. Some (tac.Branch test target other))))

abbrev pub with_ways : tac.Op → (removes otherwise : List ℕ) → Option NamedOp
with_ways op removes otherwise = unnamed_op (code_op op (record (removing removes) { otherwise = otherwise }))

abbrev pub read_branch : List (List ℕ) → Option NamedOp
read_branch words =
    on_some (branch_of words) (λ op.
    on_some (read_removes (nth_word words 3)) (λ removes.
    on_some (read_removes (nth_word words 5)) (λ otherwise. with_ways op removes otherwise)))

abbrev pub read_return : List (List ℕ) → Option NamedOp
read_return words = on_some (read_value (nth_word words 1)) (λ value. unnamed_op (Return value))

abbrev pub of_length : ℕ → List (List ℕ) → Option NamedOp → Option NamedOp
of_length n words op = if length words == n then op else None

-- an operation other than a print, by its words
abbrev pub read_op : List (List ℕ) → Option NamedOp
read_op words =
    if bytes_eq (nth_word words 0) (codes "call") then of_length 6 words (read_call words)
    else (if bytes_eq (nth_word words 0) (codes "go") then of_length 4 words (read_go words)
    else (if bytes_eq (nth_word words 0) (codes "jump") then of_length 3 words (read_jump words)
    else (if bytes_eq (nth_word words 0) (codes "branch") then of_length 6 words (read_branch words)
    else (if bytes_eq (nth_word words 0) (codes "return") then of_length 2 words (read_return words)
    else read_action_op words))))

-- ---- texts

-- the words of an operation, with spaces between them
abbrev pub op_text : NamedOp → List ℕ
op_text o = join_with_byte 32 (op_words (only_name o.name) o.op)

abbrev pub NamedOpFits : NamedOp → Type 0
NamedOpFits o = OpHasText o.op × OpIsNamed o.op o.name

-- the last word begins at this byte, after the last space
pub record LastWord (bytes : List ℕ) (at : ℕ) : Type 0 where
  pub within : at ≤ length bytes
  pub before : (at ≡ 0) ⊎ ((0 < at) × (bytes ≡ take (at - 1) bytes ++ 32 ∷ drop at bytes))
  pub last : position_or_len is_space (drop at bytes) ≡ length (drop at bytes)
