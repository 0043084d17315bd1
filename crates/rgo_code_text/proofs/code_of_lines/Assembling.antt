-- Code that is made of lines has these lines, and the lines of code make it again.
use Rattle.std.proofs.Common.{◌≡◌, ℕ, ◌+◌, ◌==◌, Bool, true, false, if◌then◌else◌, List, [], ◌∷◌, ◌++◌, map, length, Option, Some, None, refl, sym, ap, subst, ◌∙◌, arith, append-nil, append_assoc}
use Rattle.std.specs.Bool.{Decides}
use Rattle.std.specs.List.{flat_map}
use Rattle.std.proofs.lemmas.Bool.Decides.{Decides-eqb}
use Rattle.std.proofs.lemmas.List.{map_push, length_push}
use Rattle.rgo_typed.specs.declared.programs.Struct.{Struct as StructType}
use Rattle.rgo_typed.specs.declared.programs.Variable.{Variable}
use Rattle.rgo_code.specs.Code.{Slot, CodeInstr, CodeFn}
use Rattle.rgo_code_text.specs.declared.places.Place.{Place}
use Rattle.rgo_code_text.specs.declared.places.Place.TheVariants.{First, Structs, Globals, Functions, Slots, Body}
use Rattle.rgo_code_text.specs.CodeLines.{Line, Head, Struct, Global, Function, Var, Entry, Instr, End, instrs_from, code_lines_of_fn, line_kind, Building, empty_building, no_function, with_line, with_lines}
use Rattle.rgo_code_text.specs.Order.{after_kind, after_kinds}
use Rattle.rgo_code_words.specs.Readers.{on_some}
use Rattle.rgo_code_words.proofs.ListFacts.{flat_push}
use Rattle.rgo_code_words.proofs.Options.{some_same, not_none}

-- ---- the lines of code that is not complete

abbrev pub whole_lines : Building → List Line
whole_lines b = Head ∷ (map Struct b.structs ++ (map Global b.variables ++ flat_map code_lines_of_fn b.functions))

abbrev pub head_of : CodeFn → Line
head_of f = Function f.name f.params f.result

abbrev pub lines_so_far : Place → Building → List Line
lines_so_far First b = []
lines_so_far Structs b = whole_lines b
lines_so_far Globals b = whole_lines b
lines_so_far Functions b = whole_lines b
lines_so_far Slots b = whole_lines b ++ (head_of b.current ∷ map Var b.current.variables)
lines_so_far (Body i) b =
    whole_lines b ++ (head_of b.current ∷ (map Var b.current.variables ++ (Entry b.current.entry ∷ instrs_from 0 b.current.body)))

-- what is at a place comes after what is before it
abbrev pub Stands : Place → Building → Type 0
Stands First b = b ≡ empty_building
Stands Structs b = (b.variables ≡ []) × (b.functions ≡ [])
Stands Globals b = b.functions ≡ []
Stands Functions b = Unit {0}
Stands Slots b = (b.current.body ≡ []) × (b.current.entry ≡ [])
Stands (Body i) b = length b.current.body ≡ i

pub record Grows (p q : Place) (b c : Building) (x : Line) : Type 0 where
  pub lines : lines_so_far q c ≡ lines_so_far p b ++ x ∷ []
  pub stands : Stands q c

pub instrs_push : (i : ℕ) (xs : List CodeInstr) (x : CodeInstr) (j : ℕ) → i + length xs ≡ j
    → instrs_from i (xs ++ x ∷ []) ≡ instrs_from i xs ++ Instr j x ∷ []
instrs_push i [] x j e = ap (λ k. Instr k x ∷ []) (omega (arith, e))
instrs_push i (y ∷ xs) x j e = ap (λ t. Instr i y ∷ t) (instrs_push (i + 1) xs x j (omega (arith, e)))

-- ---- lines of whole parts

struct_grows : (b : Building) (s : StructType) → Stands Structs b → Grows Structs Structs b (with_line b (Struct s)) (Struct s)
struct_grows b s st =
    let rest : List Line = map Global b.variables ++ flat_map code_lines_of_fn b.functions in
    let none : rest ≡ [] =
    ap (λ vs. map Global vs ++ flat_map code_lines_of_fn b.functions) st.0 ∙ ap (λ fs. flat_map code_lines_of_fn fs) st.1 in
    let gone : (ws : List Line) → ws ++ rest ≡ ws = λ ws. ap (λ t. ws ++ t) none ∙ append-nil ws in
    record {
      lines = ap (λ ws. Head ∷ ws)
          (gone (map Struct (b.structs ++ s ∷ [])) ∙ map_push Struct b.structs s
          ∙ ap (λ ws. ws ++ Struct s ∷ []) (sym (gone (map Struct b.structs))));
      stands = st;
    }

global_grows : (p : Place) (b : Building) (v : Variable) → lines_so_far p b ≡ whole_lines b → b.functions ≡ []
    → Grows p Globals b (with_line b (Global v)) (Global v)
global_grows p b v whole none =
    let gone : (ws : List Line) → ws ++ flat_map code_lines_of_fn b.functions ≡ ws =
    λ ws. ap (λ fs. ws ++ flat_map code_lines_of_fn fs) none ∙ append-nil ws in
    let structs : List Line = map Struct b.structs in
    let globals : List Line = map Global b.variables in
    record {
      lines = ap (λ ws. Head ∷ (structs ++ ws)) (gone (map Global (b.variables ++ v ∷ [])) ∙ map_push Global b.variables v)
          ∙ ap (λ ws. Head ∷ ws) (sym (append_assoc structs globals (Global v ∷ [])))
          ∙ ap (λ ws. Head ∷ ((structs ++ ws) ++ Global v ∷ [])) (sym (gone globals))
          ∙ ap (λ ws. ws ++ Global v ∷ []) (sym whole);
      stands = none;
    }

head_grows : (p : Place) (b : Building) (name : List ℕ) (params : ℕ) (result : Option Slot) → lines_so_far p b ≡ whole_lines b
    → Grows p Slots b (with_line b (Function name params result)) (Function name params result)
head_grows p b name params result whole = record {
  lines = ap (λ ws. ws ++ Function name params result ∷ []) (sym whole);
  stands = (refl, refl);
}

slot_grows : (b : Building) (slot : Slot) → Stands Slots b → Grows Slots Slots b (with_line b (Var slot)) (Var slot)
slot_grows b slot st = record {
  lines = ap (λ ws. whole_lines b ++ (head_of b.current ∷ ws)) (map_push Var b.current.variables slot)
      ∙ sym (append_assoc (whole_lines b) (head_of b.current ∷ map Var b.current.variables) (Var slot ∷ []));
  stands = st;
}

entry_grows : (b : Building) (names : List ℕ) → Stands Slots b → Grows Slots (Body 0) b (with_line b (Entry names)) (Entry names)
entry_grows b names st =
    let slots : List Line = map Var b.current.variables in
    record {
      lines = ap (λ body. whole_lines b ++ (head_of b.current ∷ (slots ++ (Entry names ∷ instrs_from 0 body)))) st.0
          ∙ sym (append_assoc (whole_lines b) (head_of b.current ∷ slots) (Entry names ∷ []));
      stands = ap length st.0;
    }

instr_grows : (b : Building) (i : ℕ) (instr : CodeInstr) → Stands (Body i) b
    → Grows (Body i) (Body (i + 1)) b (with_line b (Instr i instr)) (Instr i instr)
instr_grows b i instr st =
    let slots : List Line = map Var b.current.variables in
    let body : List Line = instrs_from 0 b.current.body in
    let front : List Line = head_of b.current ∷ (slots ++ (Entry b.current.entry ∷ body)) in
    record {
      lines = ap (λ ws. whole_lines b ++ (head_of b.current ∷ (slots ++ (Entry b.current.entry ∷ ws))))
          (instrs_push 0 b.current.body instr i (omega (arith, st)))
          ∙ ap (λ ws. whole_lines b ++ (head_of b.current ∷ ws))
          (sym (append_assoc slots (Entry b.current.entry ∷ body) (Instr i instr ∷ [])))
          ∙ sym (append_assoc (whole_lines b) front (Instr i instr ∷ []));
      stands = length_push b.current.body instr ∙ ap (λ m. m + 1) st;
    }

end_grows : (b : Building) (i : ℕ) → Grows (Body i) Functions b (with_line b End) End
end_grows b i =
    let f : CodeFn = b.current in
    let slots : List Line = map Var f.variables in
    let body : List Line = instrs_from 0 f.body in
    let structs : List Line = map Struct b.structs in
    let globals : List Line = map Global b.variables in
    let fns : List Line = flat_map code_lines_of_fn b.functions in
    let current : List Line = head_of f ∷ (slots ++ (Entry f.entry ∷ body)) in
    let lines : code_lines_of_fn f ≡ current ++ End ∷ [] =
    ap (λ ws. head_of f ∷ ws) (sym (append_assoc slots (Entry f.entry ∷ body) (End ∷ []))) in
    record {
      lines = ap (λ ws. Head ∷ (structs ++ (globals ++ ws))) (flat_push code_lines_of_fn b.functions f ∙ ap (λ ws. fns ++ ws) lines)
          ∙ ap (λ ws. Head ∷ (structs ++ ws)) (sym (append_assoc globals fns (current ++ End ∷ [])))
          ∙ ap (λ ws. Head ∷ ws) (sym (append_assoc structs (globals ++ fns) (current ++ End ∷ [])))
          ∙ sym (append_assoc (whole_lines b) current (End ∷ []));
      stands = tt;
    }

-- ---- each line adds itself

pub grows : (p q : Place) (b : Building) (x : Line) → after_kind p (line_kind x) ≡ Some q → Stands p b
    → Grows p q b (with_line b x) x
grows First q b Head e st =
    subst (λ r. Grows First r b b Head) (some_same Structs q e)
    (record { lines = ap whole_lines st; stands = (ap (λ c. c.variables) st, ap (λ c. c.functions) st) })
grows Structs q b (Struct s) e st =
    subst (λ r. Grows Structs r b (with_line b (Struct s)) (Struct s)) (some_same Structs q e) (struct_grows b s st)
grows Structs q b (Global v) e st =
    subst (λ r. Grows Structs r b (with_line b (Global v)) (Global v)) (some_same Globals q e) (global_grows Structs b v refl st.1)
grows Globals q b (Global v) e st =
    subst (λ r. Grows Globals r b (with_line b (Global v)) (Global v)) (some_same Globals q e) (global_grows Globals b v refl st)
grows Structs q b (Function name params result) e st =
    subst (λ r. Grows Structs r b (with_line b (Function name params result)) (Function name params result)) (some_same Slots q e)
    (head_grows Structs b name params result refl)
grows Globals q b (Function name params result) e st =
    subst (λ r. Grows Globals r b (with_line b (Function name params result)) (Function name params result)) (some_same Slots q e)
    (head_grows Globals b name params result refl)
grows Functions q b (Function name params result) e st =
    subst (λ r. Grows Functions r b (with_line b (Function name params result)) (Function name params result)) (some_same Slots q e)
    (head_grows Functions b name params result refl)
grows Slots q b (Var slot) e st =
    subst (λ r. Grows Slots r b (with_line b (Var slot)) (Var slot)) (some_same Slots q e) (slot_grows b slot st)
grows Slots q b (Entry names) e st =
    subst (λ r. Grows Slots r b (with_line b (Entry names)) (Entry names)) (some_same (Body 0) q e) (entry_grows b names st)
grows (Body i) q b (Instr j instr) e st = by (j == i) (Decides-eqb j i) e
  where
    by : (t : Bool) → Decides t (j ≡ i) → (if t then Some (Body (i + 1)) else None) ≡ Some q
        → Grows (Body i) q b (with_line b (Instr j instr)) (Instr j instr)
    by true d r =
        subst (λ m. Grows (Body m) q b (with_line b (Instr j instr)) (Instr j instr)) (d.0 refl)
        (subst (λ r. Grows (Body j) r b (with_line b (Instr j instr)) (Instr j instr))
        (ap (λ m. Body (m + 1)) (d.0 refl) ∙ some_same (Body (i + 1)) q r)
        (instr_grows b j instr (st ∙ sym (d.0 refl))))
    by false d r = absurd (not_none q r)
grows (Body i) q b End e st =
    subst (λ r. Grows (Body i) r b (with_line b End) End) (some_same Functions q e) (end_grows b i)
grows _ q b _ e st = absurd (not_none q e)

pub record AllGrow (p q : Place) (b : Building) (lines : List Line) : Type 0 where
  pub lines_are : lines_so_far q (with_lines b lines) ≡ lines_so_far p b ++ lines
  pub stands : Stands q (with_lines b lines)

pub all_grow : (lines : List Line) (p q : Place) (b : Building) → after_kinds (map line_kind lines) p ≡ Some q → Stands p b
    → AllGrow p q b lines
all_grow [] p q b e st =
    subst (λ r. AllGrow p r b []) (some_same p q e) (record { lines_are = sym (append-nil (lines_so_far p b)); stands = st })
all_grow (x ∷ lines) p q b e st =
    by (after_kind p (line_kind x)) refl e (λ m r g. all_grow lines m q (with_line b x) r g.stands)
  where
    by : (o : Option Place) → after_kind p (line_kind x) ≡ o → on_some o (after_kinds (map line_kind lines)) ≡ Some q
        → ((m : Place) → after_kinds (map line_kind lines) m ≡ Some q → Grows p m b (with_line b x) x
        → AllGrow m q (with_line b x) lines)
        → AllGrow p q b (x ∷ lines)
    by None a r next = absurd (not_none q r)
    by (Some m) a r next =
        let g = grows p m b x a st in
        let rest = next m r g in
        record {
          lines_are = rest.lines_are ∙ ap (λ ls. ls ++ lines) g.lines ∙ append_assoc (lines_so_far p b) (x ∷ []) lines;
          stands = rest.stands;
        }

-- ---- the lines of code make it again

lines_append : (b : Building) (xs ys : List Line) → with_lines b (xs ++ ys) ≡ with_lines (with_lines b xs) ys
lines_append b [] ys = refl
lines_append b (x ∷ xs) ys = lines_append (with_line b x) xs ys

structs_again : (b : Building) (ss : List StructType) → with_lines b (map Struct ss) ≡ record b { structs = b.structs ++ ss }
structs_again b [] = ap (λ ss. record b { structs = ss }) (sym (append-nil b.structs))
structs_again b (s ∷ ss) =
    structs_again (with_line b (Struct s)) ss ∙ ap (λ ts. record b { structs = ts }) (append_assoc b.structs (s ∷ []) ss)

globals_again : (b : Building) (vs : List Variable) → with_lines b (map Global vs) ≡ record b { variables = b.variables ++ vs }
globals_again b [] = ap (λ vs. record b { variables = vs }) (sym (append-nil b.variables))
globals_again b (v ∷ vs) =
    globals_again (with_line b (Global v)) vs ∙ ap (λ ws. record b { variables = ws }) (append_assoc b.variables (v ∷ []) vs)

slots_again : (b : Building) (ss : List Slot)
    → with_lines b (map Var ss) ≡ record b { current = record b.current { variables = b.current.variables ++ ss } }
slots_again b [] = ap (λ ss. record b { current = record b.current { variables = ss } }) (sym (append-nil b.current.variables))
slots_again b (s ∷ ss) =
    slots_again (with_line b (Var s)) ss
    ∙ ap (λ ts. record b { current = record b.current { variables = ts } }) (append_assoc b.current.variables (s ∷ []) ss)

instrs_again : (b : Building) (i : ℕ) (xs : List CodeInstr)
    → with_lines b (instrs_from i xs) ≡ record b { current = record b.current { body = b.current.body ++ xs } }
instrs_again b i [] = ap (λ xs. record b { current = record b.current { body = xs } }) (sym (append-nil b.current.body))
instrs_again b i (x ∷ xs) =
    instrs_again (with_line b (Instr i x)) (i + 1) xs
    ∙ ap (λ ys. record b { current = record b.current { body = ys } }) (append_assoc b.current.body (x ∷ []) xs)

fn_again : (b : Building) (f : CodeFn)
    → with_lines b (code_lines_of_fn f) ≡ record b { functions = b.functions ++ f ∷ []; current = no_function }
fn_again b f =
    let head : Building = with_line b (head_of f) in
    let slots : Building = record b { current = record head.current { variables = f.variables } } in
    let entry : Building = record b { current = record slots.current { entry = f.entry } } in
    lines_append head (map Var f.variables) (Entry f.entry ∷ (instrs_from 0 f.body ++ End ∷ []))
    ∙ ap (λ c. with_lines c (Entry f.entry ∷ (instrs_from 0 f.body ++ End ∷ []))) (slots_again head f.variables)
    ∙ lines_append entry (instrs_from 0 f.body) (End ∷ [])
    ∙ ap (λ c. with_lines c (End ∷ [])) (instrs_again entry 0 f.body)

-- the functions, and whatever function comes last
pub record FnsAgain (b : Building) (fs : List CodeFn) (c : Building) : Type 0 where
  pub structs : c.structs ≡ b.structs
  pub variables : c.variables ≡ b.variables
  pub functions : c.functions ≡ b.functions ++ fs

fns_again : (b : Building) (fs : List CodeFn) → FnsAgain b fs (with_lines b (flat_map code_lines_of_fn fs))
fns_again b [] = record { structs = refl; variables = refl; functions = sym (append-nil b.functions) }
fns_again b (f ∷ fs) =
    let c : Building = record b { functions = b.functions ++ f ∷ []; current = no_function } in
    let r = fns_again c fs in
    subst (FnsAgain b (f ∷ fs))
    (sym (lines_append b (code_lines_of_fn f) (flat_map code_lines_of_fn fs) ∙ ap (λ c. with_lines c (flat_map code_lines_of_fn fs)) (fn_again b f)))
    (record {
      structs = r.structs;
      variables = r.variables;
      functions = r.functions ∙ append_assoc b.functions (f ∷ []) fs;
    })

pub code_again : (ss : List StructType) (vs : List Variable) (fs : List CodeFn)
    → FnsAgain (record empty_building { structs = ss; variables = vs }) fs
    (with_lines empty_building (Head ∷ (map Struct ss ++ (map Global vs ++ flat_map code_lines_of_fn fs))))
code_again ss vs fs =
    let b : Building = record empty_building { structs = ss } in
    let c : Building = record empty_building { structs = ss; variables = vs } in
    subst (FnsAgain c fs)
    (sym (lines_append empty_building (map Struct ss) (map Global vs ++ flat_map code_lines_of_fn fs)
    ∙ ap (λ d. with_lines d (map Global vs ++ flat_map code_lines_of_fn fs)) (structs_again empty_building ss)
    ∙ lines_append b (map Global vs) (flat_map code_lines_of_fn fs)
    ∙ ap (λ d. with_lines d (flat_map code_lines_of_fn fs)) (globals_again b vs)))
    (fns_again c fs)
