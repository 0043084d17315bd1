-- What is said of code, by its lines.
use Rattle.std.proofs.Common.{◌≡◌, ℕ, ◌+◌, ◌≤◌, ◌^◌, if◌then◌else◌, List, [], ◌∷◌, ◌++◌, map, length, Option, Some, None, refl, ap, ◌∙◌, arith, append-nil}
use Rattle.std.specs.List.{All, flat_map}
use Rattle.std.proofs.lemmas.Bool.Decides.{Decides-eqb}
use Rattle.std.proofs.lemmas.List.{map-append}
use Rattle.std.proofs.lemmas.List.Elements.{All-nil, All-cons, All-head, All-tail, All-append}
use Rattle.rgo_typed.specs.declared.programs.Struct.{Struct as StructType}
use Rattle.rgo_typed.specs.declared.programs.Variable.{Variable}
use Rattle.rgo_code.specs.Code.{Slot, CodeInstr, CodeFn, Code}
use Rattle.rgo_code_text.specs.declared.places.Place.{Place}
use Rattle.rgo_code_text.specs.declared.places.Place.TheVariants.{First, Structs, Globals, Functions, Slots, Body}
use Rattle.rgo_code_text.specs.CodeLines.{Line, Head, Struct, Global, Var, Entry, Instr, End, instrs_from, code_lines_of_fn, code_lines_of, line_kind, line_words, LineFits, line_struct, line_variable, line_function, uses_structs, uses_variables, uses_functions}
use Rattle.rgo_code_text.specs.Order.{Kind, after_kind, after_kinds, IsLast}
use Rattle.rgo_code_words.specs.Readers.{on_some}
use Rattle.rgo_code_printing.specs.Text.{Names, struct_line_words, global_words, slot_words, body_lines, fn_lines, lines_with}
use Rattle.rgo_code_text.specs.Written.{type_uses, struct_of_op, variable_in, function_in, fn_structs, fn_variables, fn_functions, uses_of, FnHasText, SlotFits, InstrHasText}
use Rattle.rgo_code_text.proofs.code_of_lines.Assembling.{head_of}
use Rattle.rgo_code_words.proofs.ListFacts.{flat_append, front_all, back_all}

-- ---- words

instrs_words : (n : Names) (i : ℕ) (xs : List CodeInstr) → map (line_words n) (instrs_from i xs) ≡ body_lines n i xs
instrs_words n i [] = refl
instrs_words n i (x ∷ xs) = ap (λ ws. line_words n (Instr i x) ∷ ws) (instrs_words n (i + 1) xs)

structs_words : (n : Names) (ss : List StructType) → map (line_words n) (map Struct ss) ≡ map (struct_line_words n) ss
structs_words n [] = refl
structs_words n (s ∷ ss) = ap (λ ws. struct_line_words n s ∷ ws) (structs_words n ss)

globals_words : (n : Names) (vs : List Variable) → map (line_words n) (map Global vs) ≡ map (global_words n) vs
globals_words n [] = refl
globals_words n (v ∷ vs) = ap (λ ws. global_words n v ∷ ws) (globals_words n vs)

slots_words : (n : Names) (ss : List Slot) → map (line_words n) (map Var ss) ≡ map (slot_words n) ss
slots_words n [] = refl
slots_words n (s ∷ ss) = ap (λ ws. slot_words n s ∷ ws) (slots_words n ss)

fn_words : (n : Names) (f : CodeFn) → map (line_words n) (code_lines_of_fn f) ≡ fn_lines n f
fn_words n f =
    ap (λ ws. line_words n (head_of f) ∷ ws)
    (map-append (line_words n) (map Var f.variables) (Entry f.entry ∷ (instrs_from 0 f.body ++ End ∷ []))
    ∙ ap (λ ws. ws ++ (line_words n (Entry f.entry) ∷ map (line_words n) (instrs_from 0 f.body ++ End ∷ []))) (slots_words n f.variables)
    ∙ ap (λ ws. map (slot_words n) f.variables ++ (line_words n (Entry f.entry) ∷ ws))
    (map-append (line_words n) (instrs_from 0 f.body) (End ∷ [])
    ∙ ap (λ ws. ws ++ line_words n End ∷ []) (instrs_words n 0 f.body)))

fns_words : (n : Names) (fs : List CodeFn) → map (line_words n) (flat_map code_lines_of_fn fs) ≡ flat_map (fn_lines n) fs
fns_words n [] = refl
fns_words n (f ∷ fs) =
    map-append (line_words n) (code_lines_of_fn f) (flat_map code_lines_of_fn fs)
    ∙ ap (λ ws. ws ++ map (line_words n) (flat_map code_lines_of_fn fs)) (fn_words n f)
    ∙ ap (λ ws. fn_lines n f ++ ws) (fns_words n fs)

pub code_words : (n : Names) (c : Code) → map (line_words n) (code_lines_of c) ≡ lines_with n c
code_words n c =
    ap (λ ws. line_words n Head ∷ ws)
    (map-append (line_words n) (map Struct c.structs) (map Global c.variables ++ flat_map code_lines_of_fn c.functions)
    ∙ ap (λ ws. ws ++ map (line_words n) (map Global c.variables ++ flat_map code_lines_of_fn c.functions)) (structs_words n c.structs)
    ∙ ap (λ ws. map (struct_line_words n) c.structs ++ ws)
    (map-append (line_words n) (map Global c.variables) (flat_map code_lines_of_fn c.functions)
    ∙ ap (λ ws. ws ++ map (line_words n) (flat_map code_lines_of_fn c.functions)) (globals_words n c.variables)
    ∙ ap (λ ws. map (global_words n) c.variables ++ ws) (fns_words n c.functions)))

-- ---- what each line contributes to a list

module _ {A : Type 0} (F : Line → List A) where
  flat_mapped : {X : Type 0} (f : X → Line) (xs : List X) → flat_map F (map f xs) ≡ flat_map (λ x. F (f x)) xs
  flat_mapped f [] = refl
  flat_mapped f (x ∷ xs) = ap (λ ys. F (f x) ++ ys) (flat_mapped f xs)

  abbrev instrs_part : ℕ → List CodeInstr → List A
  instrs_part i [] = []
  instrs_part i (x ∷ xs) = F (Instr i x) ++ instrs_part (i + 1) xs

  instrs_flat : (i : ℕ) (xs : List CodeInstr) → flat_map F (instrs_from i xs) ≡ instrs_part i xs
  instrs_flat i [] = refl
  instrs_flat i (x ∷ xs) = ap (λ ys. F (Instr i x) ++ ys) (instrs_flat (i + 1) xs)

  abbrev fn_part : CodeFn → List A
  fn_part f =
      F (head_of f) ++ (flat_map (λ s. F (Var s)) f.variables ++ (F (Entry f.entry) ++ (instrs_part 0 f.body ++ F End)))

  fn_flat : (f : CodeFn) → flat_map F (code_lines_of_fn f) ≡ fn_part f
  fn_flat f =
      ap (λ ys. F (head_of f) ++ ys)
      (flat_append F (map Var f.variables) (Entry f.entry ∷ (instrs_from 0 f.body ++ End ∷ []))
      ∙ ap (λ ys. ys ++ (F (Entry f.entry) ++ flat_map F (instrs_from 0 f.body ++ End ∷ []))) (flat_mapped Var f.variables)
      ∙ ap (λ ys. flat_map (λ s. F (Var s)) f.variables ++ (F (Entry f.entry) ++ ys))
      (flat_append F (instrs_from 0 f.body) (End ∷ [])
      ∙ ap (λ ys. ys ++ (F End ++ [])) (instrs_flat 0 f.body)
      ∙ ap (λ ys. instrs_part 0 f.body ++ ys) (append-nil (F End))))

  fns_flat : (fs : List CodeFn) → flat_map F (flat_map code_lines_of_fn fs) ≡ flat_map fn_part fs
  fns_flat [] = refl
  fns_flat (f ∷ fs) =
      flat_append F (code_lines_of_fn f) (flat_map code_lines_of_fn fs) ∙ ap (λ ys. ys ++ flat_map F (flat_map code_lines_of_fn fs)) (fn_flat f)
      ∙ ap (λ ys. fn_part f ++ ys) (fns_flat fs)

  code_flat : (c : Code) → flat_map F (code_lines_of c)
      ≡ F Head ++ (flat_map (λ s. F (Struct s)) c.structs ++ (flat_map (λ v. F (Global v)) c.variables ++ flat_map fn_part c.functions))
  code_flat c =
      ap (λ ys. F Head ++ ys)
      (flat_append F (map Struct c.structs) (map Global c.variables ++ flat_map code_lines_of_fn c.functions)
      ∙ ap (λ ys. ys ++ flat_map F (map Global c.variables ++ flat_map code_lines_of_fn c.functions)) (flat_mapped Struct c.structs)
      ∙ ap (λ ys. flat_map (λ s. F (Struct s)) c.structs ++ ys)
      (flat_append F (map Global c.variables) (flat_map code_lines_of_fn c.functions)
      ∙ ap (λ ys. ys ++ flat_map F (flat_map code_lines_of_fn c.functions)) (flat_mapped Global c.variables)
      ∙ ap (λ ys. flat_map (λ v. F (Global v)) c.variables ++ ys) (fns_flat c.functions)))

flat_same : {X A : Type 0} (f g : X → List A) (xs : List X) → ((x : X) → f x ≡ g x) → flat_map f xs ≡ flat_map g xs
flat_same f g [] e = refl
flat_same f g (x ∷ xs) e = ap (λ ys. ys ++ flat_map f xs) (e x) ∙ ap (λ ys. g x ++ ys) (flat_same f g xs e)

flat_none : {X A : Type 0} (xs : List X) → flat_map (λ (x : X). ◌++◌ {A = A} [] []) xs ≡ []
flat_none [] = refl
flat_none (x ∷ xs) = flat_none xs

no_parts : {X A : Type 0} (f : X → List A) (xs : List X) → ((x : X) → f x ≡ []) → flat_map f xs ≡ []
no_parts f [] e = refl
no_parts f (x ∷ xs) e = ap (λ ys. ys ++ flat_map f xs) (e x) ∙ no_parts f xs e

-- instructions, whatever their numbers
instrs_same : {A : Type 0} (F : Line → List A) (g : CodeInstr → List A) → ((i : ℕ) (x : CodeInstr) → F (Instr i x) ≡ g x)
    → (i : ℕ) (xs : List CodeInstr) → instrs_part F i xs ≡ flat_map g xs
instrs_same F g e i [] = refl
instrs_same F g e i (x ∷ xs) =
    ap (λ ys. ys ++ instrs_part F (i + 1) xs) (e i x) ∙ ap (λ ys. g x ++ ys) (instrs_same F g e (i + 1) xs)

pub structs_used : (c : Code) → flat_map uses_structs (code_lines_of c) ≡ (uses_of c).structs
structs_used c =
    code_flat uses_structs c
    ∙ ap (λ ys. flat_map (λ s. flat_map type_uses s.fields) c.structs ++ (flat_map (λ v. type_uses v.ty) c.variables ++ ys))
    (flat_same (fn_part uses_structs) fn_structs c.functions (λ f.
    ap (λ ys. uses_structs (head_of f) ++ (flat_map (λ s. type_uses s.ty) f.variables ++ ys))
    (append-nil (instrs_part uses_structs 0 f.body)
    ∙ instrs_same uses_structs (λ i. struct_of_op i.op) (λ i x. refl) 0 f.body)))

pub variables_used : (c : Code) → flat_map uses_variables (code_lines_of c) ≡ (uses_of c).variables
variables_used c =
    code_flat uses_variables c
    ∙ ap (λ ys. ys ++ (flat_map (λ v. uses_variables (Global v)) c.variables ++ flat_map (fn_part uses_variables) c.functions))
    (no_parts (λ s. uses_variables (Struct s)) c.structs (λ s. refl))
    ∙ ap (λ ys. ys ++ flat_map (fn_part uses_variables) c.functions) (no_parts (λ v. uses_variables (Global v)) c.variables (λ v. refl))
    ∙ flat_same (fn_part uses_variables) fn_variables c.functions (λ f.
    ap (λ ys. ys ++ (instrs_part uses_variables 0 f.body ++ [])) (no_parts (λ s. uses_variables (Var s)) f.variables (λ s. refl))
    ∙ append-nil (instrs_part uses_variables 0 f.body)
    ∙ instrs_same uses_variables (λ i. variable_in i.op) (λ i x. refl) 0 f.body)

pub functions_used : (c : Code) → flat_map uses_functions (code_lines_of c) ≡ (uses_of c).functions
functions_used c =
    code_flat uses_functions c
    ∙ ap (λ ys. ys ++ (flat_map (λ v. uses_functions (Global v)) c.variables ++ flat_map (fn_part uses_functions) c.functions))
    (no_parts (λ s. uses_functions (Struct s)) c.structs (λ s. refl))
    ∙ ap (λ ys. ys ++ flat_map (fn_part uses_functions) c.functions) (no_parts (λ v. uses_functions (Global v)) c.variables (λ v. refl))
    ∙ flat_same (fn_part uses_functions) fn_functions c.functions (λ f.
    ap (λ ys. ys ++ (instrs_part uses_functions 0 f.body ++ [])) (no_parts (λ s. uses_functions (Var s)) f.variables (λ s. refl))
    ∙ append-nil (instrs_part uses_functions 0 f.body)
    ∙ instrs_same uses_functions (λ i. function_in i.op) (λ i x. refl) 0 f.body)

-- ---- names that are declared

flat_single : {X A : Type 0} (f : X → A) (xs : List X) → flat_map (λ x. f x ∷ []) xs ≡ map f xs
flat_single f [] = refl
flat_single f (x ∷ xs) = ap (λ ys. f x ∷ ys) (flat_single f xs)

no_instrs : {A : Type 0} (F : Line → List A) → ((i : ℕ) (x : CodeInstr) → F (Instr i x) ≡ []) → (i : ℕ) (xs : List CodeInstr)
    → instrs_part F i xs ≡ []
no_instrs F e i [] = refl
no_instrs F e i (x ∷ xs) = ap (λ ys. ys ++ instrs_part F (i + 1) xs) (e i x) ∙ no_instrs F e (i + 1) xs

pub structs_declared : (c : Code) → flat_map line_struct (code_lines_of c) ≡ map (λ s. s.name) c.structs
structs_declared c =
    code_flat line_struct c
    ∙ ap (λ ys. flat_map (λ s. s.name ∷ []) c.structs ++ ys)
    (ap (λ ys. ys ++ flat_map (fn_part line_struct) c.functions) (no_parts (λ v. line_struct (Global v)) c.variables (λ v. refl))
    ∙ no_parts (fn_part line_struct) c.functions (λ f.
    ap (λ ys. ys ++ (instrs_part line_struct 0 f.body ++ [])) (no_parts (λ s. line_struct (Var s)) f.variables (λ s. refl))
    ∙ append-nil (instrs_part line_struct 0 f.body) ∙ no_instrs line_struct (λ i x. refl) 0 f.body))
    ∙ append-nil (flat_map (λ s. s.name ∷ []) c.structs) ∙ flat_single (λ s. s.name) c.structs

pub variables_declared : (c : Code) → flat_map line_variable (code_lines_of c) ≡ map (λ v. v.name) c.variables
variables_declared c =
    code_flat line_variable c
    ∙ ap (λ ys. ys ++ (flat_map (λ v. v.name ∷ []) c.variables ++ flat_map (fn_part line_variable) c.functions))
    (no_parts (λ s. line_variable (Struct s)) c.structs (λ s. refl))
    ∙ ap (λ ys. flat_map (λ v. v.name ∷ []) c.variables ++ ys)
    (no_parts (fn_part line_variable) c.functions (λ f.
    ap (λ ys. ys ++ (instrs_part line_variable 0 f.body ++ [])) (no_parts (λ s. line_variable (Var s)) f.variables (λ s. refl))
    ∙ append-nil (instrs_part line_variable 0 f.body) ∙ no_instrs line_variable (λ i x. refl) 0 f.body))
    ∙ append-nil (flat_map (λ v. v.name ∷ []) c.variables) ∙ flat_single (λ v. v.name) c.variables

pub functions_declared : (c : Code) → flat_map line_function (code_lines_of c) ≡ map (λ f. f.name) c.functions
functions_declared c =
    code_flat line_function c
    ∙ ap (λ ys. ys ++ (flat_map (λ v. line_function (Global v)) c.variables ++ flat_map (fn_part line_function) c.functions))
    (no_parts (λ s. line_function (Struct s)) c.structs (λ s. refl))
    ∙ ap (λ ys. ys ++ flat_map (fn_part line_function) c.functions) (no_parts (λ v. line_function (Global v)) c.variables (λ v. refl))
    ∙ flat_same (fn_part line_function) (λ f. f.name ∷ []) c.functions (λ f.
    ap (λ ys. f.name ∷ ys)
    (ap (λ ys. ys ++ (instrs_part line_function 0 f.body ++ [])) (no_parts (λ s. line_function (Var s)) f.variables (λ s. refl))
    ∙ append-nil (instrs_part line_function 0 f.body) ∙ no_instrs line_function (λ i x. refl) 0 f.body))
    ∙ flat_single (λ f. f.name) c.functions

-- ---- the order of lines

pub after_both : (xs ys : List Kind) (p : Place) → after_kinds (xs ++ ys) p ≡ on_some (after_kinds xs p) (after_kinds ys)
after_both [] ys p = refl
after_both (x ∷ xs) ys p = by (after_kind p x) (λ q. after_both xs ys q)
  where
    by : (o : Option Place) → ((q : Place) → after_kinds (xs ++ ys) q ≡ on_some (after_kinds xs q) (after_kinds ys))
        → on_some o (after_kinds (xs ++ ys)) ≡ on_some (on_some o (after_kinds xs)) (after_kinds ys)
    by None e = refl
    by (Some q) e = e q

-- lines that lead from a place to another one
record LeadsTo (lines : List Line) (p q : Place) : Type 0 where
  pub is : after_kinds (map line_kind lines) p ≡ Some q

both_lead : (xs ys : List Line) (p q r : Place) → LeadsTo xs p q → LeadsTo ys q r → LeadsTo (xs ++ ys) p r
both_lead xs ys p q r a b = record {
  is = ap (λ ks. after_kinds ks p) (map-append line_kind xs ys) ∙ after_both (map line_kind xs) (map line_kind ys) p
      ∙ ap (λ o. on_some o (after_kinds (map line_kind ys))) a.is ∙ b.is;
}

structs_lead : (ss : List StructType) → LeadsTo (map Struct ss) Structs Structs
structs_lead [] = record { is = refl }
structs_lead (s ∷ ss) = record { is = (structs_lead ss).is }

globals_go_on : (vs : List Variable) → LeadsTo (map Global vs) Globals Globals
globals_go_on [] = record { is = refl }
globals_go_on (v ∷ vs) = record { is = (globals_go_on vs).is }

record LeadsLast (lines : List Line) (p : Place) : Type 0 where
  pub place : Place
  pub leads : LeadsTo lines p place
  pub last : IsLast place

globals_lead : (vs : List Variable) → LeadsLast (map Global vs) Structs
globals_lead [] = record { place = Structs; leads = record { is = refl }; last = tt }
globals_lead (v ∷ vs) = record { place = Globals; leads = record { is = (globals_go_on vs).is }; last = tt }

slots_lead : (ss : List Slot) → LeadsTo (map Var ss) Slots Slots
slots_lead [] = record { is = refl }
slots_lead (s ∷ ss) = record { is = (slots_lead ss).is }

instrs_lead : (xs : List CodeInstr) (i : ℕ) → LeadsTo (instrs_from i xs) (Body i) (Body (i + length xs))
instrs_lead [] i = let same : i ≡ i + 0 = omega arith in record { is = ap (λ k. Some (Body k)) same }
instrs_lead (x ∷ xs) i =
    let next : i + 1 + length xs ≡ i + length (x ∷ xs) = omega arith in
    record {
      is = ap (λ t. on_some (if t then Some (Body (i + 1)) else None) (after_kinds (map line_kind (instrs_from (i + 1) xs))))
          ((Decides-eqb i i).1 refl)
          ∙ (instrs_lead xs (i + 1)).is ∙ ap (λ k. Some (Body k)) next;
    }

fn_leads : (f : CodeFn) (p : Place) → IsLast p → LeadsTo (code_lines_of_fn f) p Functions
fn_leads f p l = record { is = head p l ∙ inside.is }
  where
    rest : List Line
    rest = map Var f.variables ++ (Entry f.entry ∷ (instrs_from 0 f.body ++ End ∷ []))

    head : (p : Place) → IsLast p → after_kinds (map line_kind (code_lines_of_fn f)) p ≡ after_kinds (map line_kind rest) Slots
    head Structs l = refl
    head Globals l = refl
    head Functions l = refl
    head First l = absurd l
    head Slots l = absurd l
    head (Body i) l = absurd l

    body : LeadsTo (instrs_from 0 f.body ++ End ∷ []) (Body 0) Functions
    body = both_lead (instrs_from 0 f.body) (End ∷ []) (Body 0) (Body (0 + length f.body)) Functions (instrs_lead f.body 0) (record { is = refl })

    inside : LeadsTo rest Slots Functions
    inside =
        both_lead (map Var f.variables) (Entry f.entry ∷ (instrs_from 0 f.body ++ End ∷ [])) Slots Slots Functions
        (slots_lead f.variables) (record { is = body.is })

fns_lead : (fs : List CodeFn) (p : Place) → IsLast p → LeadsLast (flat_map code_lines_of_fn fs) p
fns_lead [] p l = record { place = p; leads = record { is = refl }; last = l }
fns_lead (f ∷ fs) p l =
    let rest = fns_lead fs Functions tt in
    record {
      place = rest.place;
      leads = both_lead (code_lines_of_fn f) (flat_map code_lines_of_fn fs) p Functions rest.place (fn_leads f p l) rest.leads;
      last = rest.last;
    }

-- the lines of code lead where a text may end
pub record Ordered (lines : List Line) : Type 0 where
  pub place : Place
  pub leads : after_kinds (map line_kind lines) First ≡ Some place
  pub last : IsLast place

pub code_ordered : (c : Code) → Ordered (code_lines_of c)
code_ordered c =
    let globals = globals_lead c.variables in
    let fns = fns_lead c.functions globals.place globals.last in
    let all =
    both_lead (map Struct c.structs) (map Global c.variables ++ flat_map code_lines_of_fn c.functions) Structs Structs fns.place
    (structs_lead c.structs)
    (both_lead (map Global c.variables) (flat_map code_lines_of_fn c.functions) Structs globals.place fns.place globals.leads fns.leads) in
    record { place = fns.place; leads = all.is; last = fns.last }

-- ---- what fits

all_mapped : {X : Type 0} (P : X → Type 0) (f : X → Line) (xs : List X) → All P xs → ((x : X) → P x → LineFits (f x))
    → All LineFits (map f xs)
all_mapped P f [] a g = All-nil LineFits
all_mapped P f (x ∷ xs) a g =
    All-cons LineFits (f x) (map f xs) (g x (All-head P x xs a)) (all_mapped P f xs (All-tail P x xs a) g)

all_true : {X : Type 0} (f : X → Line) (xs : List X) → ((x : X) → LineFits (f x)) → All LineFits (map f xs)
all_true f [] g = All-nil LineFits
all_true f (x ∷ xs) g = All-cons LineFits (f x) (map f xs) (g x) (all_true f xs g)

mapped_all : {X : Type 0} (P : X → Type 0) (f : X → Line) (xs : List X) → All LineFits (map f xs) → ((x : X) → LineFits (f x) → P x)
    → All P xs
mapped_all P f [] a g = All-nil P
mapped_all P f (x ∷ xs) a g =
    All-cons P x xs (g x (All-head LineFits (f x) (map f xs) a)) (mapped_all P f xs (All-tail LineFits (f x) (map f xs) a) g)

instrs_fit : (i : ℕ) (xs : List CodeInstr) → i + length xs ≤ 2 ^ 32 → All InstrHasText xs → All LineFits (instrs_from i xs)
instrs_fit i [] l a = All-nil LineFits
instrs_fit i (x ∷ xs) l a =
    All-cons LineFits (Instr i x) (instrs_from (i + 1) xs) (omega (arith, l), All-head InstrHasText x xs a)
    (instrs_fit (i + 1) xs (omega (arith, l)) (All-tail InstrHasText x xs a))

instrs_bound : (i : ℕ) (xs : List CodeInstr) → i ≤ 2 ^ 32 → All LineFits (instrs_from i xs) → i + length xs ≤ 2 ^ 32
instrs_bound i [] l a = omega (arith, l)
instrs_bound i (x ∷ xs) l a =
    let first = All-head LineFits (Instr i x) (instrs_from (i + 1) xs) a in
    let rest = instrs_bound (i + 1) xs (omega (arith, first.0)) (All-tail LineFits (Instr i x) (instrs_from (i + 1) xs) a) in
    omega (arith, rest)

fit_instrs : (i : ℕ) (xs : List CodeInstr) → All LineFits (instrs_from i xs) → All InstrHasText xs
fit_instrs i [] a = All-nil InstrHasText
fit_instrs i (x ∷ xs) a =
    All-cons InstrHasText x xs (All-head LineFits (Instr i x) (instrs_from (i + 1) xs) a).1
    (fit_instrs (i + 1) xs (All-tail LineFits (Instr i x) (instrs_from (i + 1) xs) a))

fn_fits : (f : CodeFn) → FnHasText f → All LineFits (code_lines_of_fn f)
fn_fits f a =
    All-cons LineFits (head_of f) (map Var f.variables ++ (Entry f.entry ∷ (instrs_from 0 f.body ++ End ∷ []))) (a.params, a.result)
    (All-append LineFits (map Var f.variables) (Entry f.entry ∷ (instrs_from 0 f.body ++ End ∷ []))
    (all_mapped SlotFits Var f.variables a.variables (λ s g. g))
    (All-cons LineFits (Entry f.entry) (instrs_from 0 f.body ++ End ∷ []) a.entry
    (All-append LineFits (instrs_from 0 f.body) (End ∷ [])
    (instrs_fit 0 f.body (omega (arith, a.indexes)) a.body) (All-cons LineFits End [] tt (All-nil LineFits)))))

fits_fn : (f : CodeFn) → All LineFits (code_lines_of_fn f) → FnHasText f
fits_fn f a =
    let last = instrs_from 0 f.body ++ End ∷ [] in
    let rest = map Var f.variables ++ (Entry f.entry ∷ last) in
    let head = All-head LineFits (head_of f) rest a in
    let tail = All-tail LineFits (head_of f) rest a in
    let slots = front_all LineFits (map Var f.variables) (Entry f.entry ∷ last) tail in
    let others = back_all LineFits (map Var f.variables) (Entry f.entry ∷ last) tail in
    let instrs = front_all LineFits (instrs_from 0 f.body) (End ∷ []) (All-tail LineFits (Entry f.entry) last others) in
    record {
      params = head.0;
      result = head.1;
      variables = mapped_all SlotFits Var f.variables slots (λ s g. g);
      entry = All-head LineFits (Entry f.entry) last others;
      indexes = omega (arith, instrs_bound 0 f.body (omega arith) instrs);
      body = fit_instrs 0 f.body instrs;
    }

fns_fit : (fs : List CodeFn) → All FnHasText fs → All LineFits (flat_map code_lines_of_fn fs)
fns_fit [] a = All-nil LineFits
fns_fit (f ∷ fs) a =
    All-append LineFits (code_lines_of_fn f) (flat_map code_lines_of_fn fs) (fn_fits f (All-head FnHasText f fs a)) (fns_fit fs (All-tail FnHasText f fs a))

fits_fns : (fs : List CodeFn) → All LineFits (flat_map code_lines_of_fn fs) → All FnHasText fs
fits_fns [] a = All-nil FnHasText
fits_fns (f ∷ fs) a =
    All-cons FnHasText f fs (fits_fn f (front_all LineFits (code_lines_of_fn f) (flat_map code_lines_of_fn fs) a))
    (fits_fns fs (back_all LineFits (code_lines_of_fn f) (flat_map code_lines_of_fn fs) a))

pub code_fits : (c : Code) → All FnHasText c.functions → All LineFits (code_lines_of c)
code_fits c a =
    All-cons LineFits Head (map Struct c.structs ++ (map Global c.variables ++ flat_map code_lines_of_fn c.functions)) tt
    (All-append LineFits (map Struct c.structs) (map Global c.variables ++ flat_map code_lines_of_fn c.functions)
    (all_true Struct c.structs (λ s. tt))
    (All-append LineFits (map Global c.variables) (flat_map code_lines_of_fn c.functions)
    (all_true Global c.variables (λ v. tt)) (fns_fit c.functions a)))

pub fits_code : (c : Code) → All LineFits (code_lines_of c) → All FnHasText c.functions
fits_code c a =
    let rest = map Global c.variables ++ flat_map code_lines_of_fn c.functions in
    fits_fns c.functions (back_all LineFits (map Global c.variables) (flat_map code_lines_of_fn c.functions)
    (back_all LineFits (map Struct c.structs) rest (All-tail LineFits Head (map Struct c.structs ++ rest) a)))
