-- The lines of a code text, by their places and numbers.
use Rattle.std.proofs.Common.{◌≡◌, ℕ, suc, ◌+◌, ◌<◌, List, [], ◌∷◌, ◌++◌, length, Some, slice_get, ap, ◌∙◌, subst, refl, arith, inl, inr, length-append}
use Rattle.std.proofs.lemmas.Option.{slice_get_within}
use Rattle.rgo_typed.specs.declared.programs.Struct.{Struct}
use Rattle.rgo_typed.specs.declared.programs.Variable.{Variable}
use Rattle.rgo_code.specs.declared.rules.Line.{Line}
use Rattle.rgo_code.specs.declared.rules.Line.TheVariants.{Struct as StructLine, Variable as VariableLine, Function as FunctionLine, Slot as SlotLine, Entry as EntryLine, Instr as InstrLine, End as EndLine, AfterLast}
use Rattle.rgo_code.specs.declared.rules.Rule.{Rule}
use Rattle.rgo_code.specs.Checked.{KeptAt}
use Rattle.rgo_code.specs.Code.{CodeFn, Code}
use Rattle.rgo_code.specs.Lines.{lines_before, line_number}
use Rattle.rgo_checker.specs.Lines.{struct_lines, variable_lines, lines_of_function, functions_lines, lines_of}
use Rattle.rgo_checker.proofs.Getting.{IsIn, get_left, get_right, get_split, get_one, first_length, first_get, first_inv}
use Rattle.rgo_checker.proofs.walks.FunctionLines.{fn_head, fn_slot, fn_entry, fn_instr, fn_end, fn_number, functions_get, functions_at, functions_long}

pub structs_long : (ss : List Struct) → length (struct_lines ss) ≡ length ss
structs_long ss = first_length StructLine (length ss)

pub variables_long : (vs : List Variable) → length (variable_lines vs) ≡ length vs
variables_long vs = first_length VariableLine (length vs)

-- after the structs, and after the package variables
abbrev last_lines : Code → List Line
last_lines code = functions_lines 0 code.functions ++ AfterLast ∷ []

abbrev more_lines : Code → List Line
more_lines code = variable_lines code.variables ++ last_lines code

-- the number of the last line counts all lines, and the head of the text
pub lines_long : (code : Code) → length (lines_of code) + 1 ≡ line_number code AfterLast
lines_long code =
    omega (
      arith,
      structs_long code.structs,
      variables_long code.variables,
      functions_long 0 code.functions,
      length-append (struct_lines code.structs) (more_lines code),
      length-append (variable_lines code.variables) (last_lines code),
      length-append (functions_lines 0 code.functions) (AfterLast ∷ []),
    )

-- the number of the line at each place
pub number_at : (code : Code) (i : ℕ) (l : Line) → slice_get (lines_of code) i ≡ Some l → line_number code l ≡ i + 2
number_at code i l e = go (get_split (struct_lines code.structs) (more_lines code) i l e)
  where
    zero_left : (k : ℕ) → k ≡ 0 + k
    zero_left k = omega arith

    last : (k : ℕ) → i ≡ length code.structs + (length code.variables + k)
        → IsIn (functions_lines 0 code.functions) (AfterLast ∷ []) k l → line_number code l ≡ i + 2
    last k p (inl q) =
        let r = functions_at 0 code.functions k l q in
        let s : slice_get (lines_of_function r.n r.f) r.o ≡ Some l =
        ap (λ y. slice_get (lines_of_function y r.f) r.o) (zero_left r.n) ∙ r.here in
        let t = fn_number code r.n r.f r.found r.o l s in
        omega (arith, t, r.place, p)
    last k p (inr (j, r, q)) =
        let x = get_one AfterLast l j q in
        subst (λ y. line_number code y ≡ i + 2) x.1 (omega (arith, p, r, x.0, functions_long 0 code.functions))

    middle : (k : ℕ) → i ≡ length (struct_lines code.structs) + k
        → IsIn (variable_lines code.variables) (last_lines code) k l → line_number code l ≡ i + 2
    middle k p (inl q) =
        let x = first_inv VariableLine (length code.variables) k l q in
        subst (λ y. line_number code y ≡ i + 2) x.1 (omega (arith, p, structs_long code.structs))
    middle k p (inr (j, r, q)) =
        last j (omega (arith, p, r, structs_long code.structs, variables_long code.variables))
        (get_split (functions_lines 0 code.functions) (AfterLast ∷ []) j l q)

    go : IsIn (struct_lines code.structs) (more_lines code) i l → line_number code l ≡ i + 2
    go (inl q) =
        let x = first_inv StructLine (length code.structs) i l q in
        subst (λ y. line_number code y ≡ i + 2) x.1 (omega arith)
    go (inr (j, r, q)) = middle j r (get_split (variable_lines code.variables) (last_lines code) j l q)

-- ---- where each line is

struct_at : (code : Code) (n : ℕ) → n < length code.structs → slice_get (lines_of code) n ≡ Some (StructLine n)
struct_at code n h =
    get_left (struct_lines code.structs) (more_lines code) n (StructLine n)
    (first_get StructLine (length code.structs) n h)

variable_at : (code : Code) (n : ℕ) → n < length code.variables
    → slice_get (lines_of code) (length code.structs + n) ≡ Some (VariableLine n)
variable_at code n h =
    get_right (struct_lines code.structs) (more_lines code) n (length code.structs + n) (VariableLine n)
    (get_left (variable_lines code.variables) (last_lines code) n (VariableLine n)
    (first_get VariableLine (length code.variables) n h))
    (omega (arith, structs_long code.structs))

abbrev fn_place : Code → ℕ → ℕ → ℕ
fn_place code n o = length code.structs + (length code.variables + (lines_before code.functions n + o))

function_at : (code : Code) (n : ℕ) (f : CodeFn) (o : ℕ) (l : Line) → slice_get code.functions n ≡ Some f
    → slice_get (lines_of_function n f) o ≡ Some l → slice_get (lines_of code) (fn_place code n o) ≡ Some l
function_at code n f o l e g =
    let k = lines_before code.functions n + o in
    get_right (struct_lines code.structs) (more_lines code) (length code.variables + k) (fn_place code n o) l
    (get_right (variable_lines code.variables) (last_lines code) k (length code.variables + k) l
    (get_left (functions_lines 0 code.functions) (AfterLast ∷ []) k l
    (functions_get 0 n n code.functions f e (omega arith) o k l g refl))
    (omega (arith, variables_long code.variables)))
    (omega (arith, structs_long code.structs))

last_at : (code : Code) → slice_get (lines_of code) (fn_place code (length code.functions) 0) ≡ Some AfterLast
last_at code =
    let k = lines_before code.functions (length code.functions) + 0 in
    get_right (struct_lines code.structs) (more_lines code) (length code.variables + k)
    (fn_place code (length code.functions) 0) AfterLast
    (get_right (variable_lines code.variables) (last_lines code) k (length code.variables + k) AfterLast
    (get_right (functions_lines 0 code.functions) (AfterLast ∷ []) 0 k AfterLast refl
    (omega (arith, functions_long 0 code.functions)))
    (omega (arith, variables_long code.variables)))
    (omega (arith, structs_long code.structs))

-- what holds at each place of some holds at each line of these
module _ (code : Code) (rule : Rule) (Within : ℕ → Type 0)
    (kept : (j : ℕ) (m : Line) → Within j → slice_get (lines_of code) j ≡ Some m → KeptAt code rule m) where
  -- a line of the code, by its place
  reached : (j : ℕ) (l : Line) → slice_get (lines_of code) j ≡ Some l
      → ((k : ℕ) → line_number code l ≡ k + 2 → Within k)
      → KeptAt code rule l
  reached j l e w = kept j l (w j (number_at code j l e)) e

  in_function : (n : ℕ) (f : CodeFn) (o : ℕ) (l : Line) → slice_get code.functions n ≡ Some f
      → slice_get (lines_of_function n f) o ≡ Some l → ((k : ℕ) → line_number code l ≡ k + 2 → Within k) → KeptAt code rule l
  in_function n f o l e g w = reached (fn_place code n o) l (function_at code n f o l e g) w

  pub reach : (l : Line) → ((j : ℕ) → line_number code l ≡ j + 2 → Within j) → KeptAt code rule l
  reach (StructLine n) w = λ s e.
      reached n (StructLine n) (struct_at code n (slice_get_within code.structs n s e)) w s e
  reach (VariableLine n) w = λ v e.
      reached (length code.structs + n) (VariableLine n)
      (variable_at code n (slice_get_within code.variables n v e)) w v e
  reach (FunctionLine n) w = λ f e. in_function n f 0 (FunctionLine n) e (fn_head n f) w f e
  reach (SlotLine n v) w = λ f s e q.
      in_function n f (suc v) (SlotLine n v) e (fn_slot n f v (slice_get_within f.variables v s q)) w f s e q
  reach (EntryLine n) w = λ f e. in_function n f (suc (length f.variables)) (EntryLine n) e (fn_entry n f) w f e
  reach (InstrLine n i) w = λ f x e q.
      in_function n f (suc (length f.variables + suc i)) (InstrLine n i) e
      (fn_instr n f i (slice_get_within f.body i x q)) w f x e q
  reach (EndLine n) w = λ f e.
      in_function n f (suc (length f.variables + suc (length f.body))) (EndLine n) e (fn_end n f) w f e
  reach AfterLast w = reached (fn_place code (length code.functions) 0) AfterLast (last_at code) w
