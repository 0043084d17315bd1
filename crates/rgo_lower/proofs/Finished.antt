-- Whole functions: parameters, the end, and the function with all that its builder was given.
use Rattle.std.proofs.Common.{◌≡◌, ℕ, zero, suc, ◌+◌, ◌<◌, ◌≤◌, Bool, true, false, ◌||◌, List, [], ◌∷◌, ◌++◌, length, map, take, drop, get_or, refl, sym, ap, ◌∙◌, subst, arith}
use Rattle.std.proofs.lemmas.List.{length-take-le, at_drop_more, at_drop_all}
use Rattle.std.proofs.lemmas.Option.{slice_get-map, slice_get_read}
use Rattle.std.specs.Option.{option_map}
use Rattle.std.specs.Prelude.{Option, Some, None, slice_get, nat_eq, if◌then◌else◌}
use Rattle.std.specs.List.{AllByRecursion}
use Rattle.std.proofs.lemmas.Bool.{eqb-true}
use Rattle.rgo_typed.specs.declared.statements.Piece.{Piece}
use Rattle.rgo_typed.specs.declared.types.Type.{«Type»}
use Rattle.rgo_typed.specs.declared.programs.Function.{Function as CodeFunction}
use Rattle.rgo_typed.specs.declared.programs.Struct.{Struct}
use Rattle.rgo_typed.specs.declared.programs.Variable.{Variable}
use Rattle.rgo_typed.specs.Tree.{Function, Typed, stmts_of}
use Rattle.rgo_typed.specs.Views.{typed_function_of}
use Rattle.rgo_wellformed.specs.TypeRules.{Declared}
use Rattle.rgo_wellformed.specs.WellFormed.{is_in_scope, first_numbers, IsFunction, IsWellFormed, signature_of, declared_by}
use Rattle.rgo_tac.specs.Code.{Jump, Instr, TacFn, Tac}
use Rattle.rgo_tac.specs.declared.code.Instr.{Instr as CodeInstr}
use Rattle.rgo_tac.specs.declared.code.Instr.TheVariants as instr
use Rattle.rgo_tac.specs.Views.{op_of, body_of}
use Rattle.rgo_lower.specs.declared.builder.Line.{Line}
use Rattle.rgo_lower.specs.Sizes.{function_size, largest_of}
use Rattle.rgo_lower.specs.Lowered.{LoweringPoint, next_point, LoweringScope, variable_of_local, parameters, closing_op, StmtsAt, IsLoweredFn, AreLowered, IsLowered}
use Rattle.rgo_lower.specs.Emitted.{BuilderParts, builder_point, with_emitted_line, with_placed, Kept, Whole, Completes, OpIsAdded, always, jump_to, resolved_instr}
use Rattle.rgo_lower.specs.Emitted.{ScopeHasSlots, AreLoopTargets, StmtsAreEmitted, leads_by, label_target, FunctionCodeBegins, finished_function, FunctionIsLowered}
use Rattle.rgo_lower.proofs.Growing.{grown_trans, earlier, kept_all, op_added, line_count}
use Rattle.rgo_lower.proofs.Labels.{Fresh, placed, op_moved}

-- ---- parameters

in_longer : (xs : List ℕ) (k n : ℕ) → is_in_scope (xs ++ k ∷ []) n ≡ is_in_scope xs n || nat_eq k n
in_longer [] k n = or_false (nat_eq k n)
  where
    or_false : (b : Bool) → b || false ≡ false || b
    or_false true = refl
    or_false false = refl
in_longer (x ∷ xs) k n = step (nat_eq x n) (in_longer xs k n)
  where
    step : (b : Bool) → is_in_scope (xs ++ k ∷ []) n ≡ is_in_scope xs n || nat_eq k n
        → b || is_in_scope (xs ++ k ∷ []) n ≡ (b || is_in_scope xs n) || nat_eq k n
    step true e = refl
    step false e = e

true_false : true ≡ false → ⊥
true_false e = cc

-- one number more, n, than the first m
module _ (m n : ℕ) where
  abbrev found_last : Bool → Option ℕ
  found_last b = if b then Some m else variable_of_local (parameters m) n

  step_found : (a b : Bool) → nat_eq m n ≡ b → (a ≡ true → (n < m) × (variable_of_local (parameters m) n ≡ Some n))
      → a || b ≡ true → (n < suc m) × (found_last (nat_eq m n) ≡ Some n)
  step_found a true eb known h =
      let same = eqb-true m n eb in
      (omega (arith, same), ap found_last eb ∙ ap Some same)
  step_found true false eb known h =
      let there = known refl in
      let lt = there.0 in
      (omega (arith, lt), ap found_last eb ∙ there.1)
  step_found false false eb known h = absurd (true_false (sym h))

  step_unknown : (a b : Bool) → nat_eq m n ≡ b → (a ≡ false → variable_of_local (parameters m) n ≡ None) → a || b ≡ false
      → found_last (nat_eq m n) ≡ None
  step_unknown true b eb unknown h = absurd (true_false h)
  step_unknown false true eb unknown h = absurd (true_false h)
  step_unknown false false eb unknown h = ap found_last eb ∙ unknown refl

-- each of the first numbers is in scope, as itself
first_found : (m n : ℕ) → is_in_scope (first_numbers m) n ≡ true → (n < m) × (variable_of_local (parameters m) n ≡ Some n)
first_found zero n h = absurd (true_false (sym h))
first_found (suc m) n h =
    step_found m n (is_in_scope (first_numbers m) n) (nat_eq m n) refl (first_found m n)
    (sym (in_longer (first_numbers m) m n) ∙ h)

first_unknown : (m n : ℕ) → is_in_scope (first_numbers m) n ≡ false → variable_of_local (parameters m) n ≡ None
first_unknown zero n h = refl
first_unknown (suc m) n h =
    step_unknown m n (is_in_scope (first_numbers m) n) (nat_eq m n) refl (first_unknown m n)
    (sym (in_longer (first_numbers m) m n) ∙ h)

parameters_known : (params : ℕ) (locals : List «Type») (b : BuilderParts) → params ≤ length locals → FunctionCodeBegins params locals b
    → ScopeHasSlots b.slots (first_numbers params) (parameters params)
parameters_known params locals b within h = record {
  inside = λ n e.
      let there = first_found params n e in
      let lt = there.0 in
      there.1 ∙ ap Some (sym (h.slots n (omega (arith, lt, within))));
  outside = first_unknown params;
}

-- ---- the end

pub loop_closed : (a b c d : BuilderParts) (k place : ℕ) → Fresh a k b → c ≡ with_placed b k
    → d ≡ with_emitted_line c (instr.Jump k) place → OpIsAdded a (always (Jump (length a.lines))) place d
loop_closed a b c d k place label is last =
    let jump = op_added c d (instr.Jump k) (jump_to k) place last (λ w all. refl) in
    let there = placed b c k label.waits is in
    let line : length c.lines ≡ length a.lines = ap (λ (z : LoweringPoint). z.instr) (there.point ∙ label.point) in
    record {
      grown = grown_trans a c d (there.grown a label.grown label.unmade) jump.grown;
      size = omega (arith, label.size, there.size, line_count c d (instr.Jump k) place last);
      slots = jump.slots ∙ there.slots ∙ label.slots;
      point = jump.point ∙ ap next_point (there.point ∙ label.point);
      instr = λ w all.
          op_moved w.f (length c.lines) (length a.lines) _ _ place (jump.instr w all) (sym line)
          (ap Jump (there.leads w (earlier w c d jump.grown all) ∙ ap (λ (z : LoweringPoint). z.instr) label.point));
    }

-- ---- the function with all that its builder was given

module _ (leads : ℕ → ℕ) (lists : List (List ℕ)) (pieces : List (List Piece)) (f : TacFn) where
  abbrev body_from : List Line → List Instr
  body_from l = body_of lists pieces (map (λ (x : Line). resolved_instr leads x.instr) l) (map (λ (x : Line). x.place) l)

  line_in : (l : List Line) (i : ℕ) (x : Line) → slice_get l i ≡ Some x
      → slice_get (body_from l) i ≡ Some (record { op = op_of lists pieces (resolved_instr leads x.instr); place = x.place })
  line_in [] i x e = absurd (none e)
    where
      none : None ≡ Some x → ⊥
      none e = cc
  line_in (y ∷ l) zero x e =
      ap (λ (z : Line). Some (record { op = op_of lists pieces (resolved_instr leads z.instr); place = z.place })) (same e)
    where
      same : Some y ≡ Some x → y ≡ x
      same e = cc
  line_in (y ∷ l) (suc i) x e = line_in l i x e

  body_length : (l : List Line) → length (body_from l) ≡ length l
  body_length [] = refl
  body_length (y ∷ l) = ap suc (body_length l)

abbrev whole : Function → BuilderParts → (d : Declared) (functions : List Function) → d.functions ≡ map signature_of functions
    → Whole
whole source b d functions signed = record {
  declared = d;
  locals = source.locals;
  functions = functions;
  signed = signed;
  f = finished_function source b;
  leads = leads_by b.labels;
  lists = b.lists;
  pieces = b.pieces;
}

completed : (source : Function) (b : BuilderParts) (d : Declared) (functions : List Function)
    (signed : d.functions ≡ map signature_of functions)
    → Completes (whole source b d functions signed) b
completed source b d functions signed = record {
  lines = line_in (leads_by b.labels) b.lists b.pieces (finished_function source b) b.lines;
  variables = kept_all b.variables;
  lists = kept_all b.lists;
  pieces = kept_all b.pieces;
  labels = λ k t e. ap label_target e;
}

-- a list that another begins with
begins_with : {A : Type 0} (xs ys : List A) → Kept xs ys → take (length xs) ys ≡ xs
begins_with [] ys k = refl
begins_with (x ∷ xs) [] k = absurd (none (k 0 x refl))
  where
    none : None ≡ Some x → ⊥
    none e = cc
begins_with (x ∷ xs) (y ∷ ys) k = λ i. same (k 0 x refl) i ∷ begins_with xs ys (λ n z e. k (suc n) z e) i
  where
    same : Some y ≡ Some x → y ≡ x
    same e = cc

module _ (source : Function) (a b c : BuilderParts) (begins : FunctionCodeBegins source.params source.locals a)
    (body : StmtsAreEmitted (stmts_of source.body) None a b)
    (closing : OpIsAdded b (always (closing_op source.result_type (length b.lines))) source.end c)
    (d : Declared) (functions : List Function) (signed : d.functions ≡ map signature_of functions)
    (well : IsFunction d source) where
  abbrev w : Whole
  w = whole source c d functions signed

  all_c : Completes (whole source c d functions signed) c
  all_c = completed source c d functions signed

  variable_count : length a.variables ≡ source.params
  variable_count = ap length begins.variables ∙ length-take-le source.params source.locals well.params

  start : builder_point a ≡ record { instr = 0; variable = source.params }
  start = λ i. record { instr = length (begins.lines i); variable = variable_count i }

  no_loop : AreLoopTargets (whole source c d functions signed) false None []
  no_loop e = absurd (true_false (sym e))

  lowered_body : (scope2 : LoweringScope) × StmtsAt functions (finished_function source c) (stmts_of source.body) []
      (parameters source.params) (builder_point a) scope2 (builder_point b)
  lowered_body =
      body.code (whole source c d functions signed) false (first_numbers source.params) (parameters source.params) []
      well.body no_loop (parameters_known source.params source.locals a well.params begins)
      (earlier (whole source c d functions signed) b c closing.grown all_c)

  parameter_types : take source.params c.variables ≡ take source.params source.locals
  parameter_types =
      ap (λ z. take z c.variables) (sym variable_count)
      ∙ begins_with a.variables c.variables (grown_trans a b c body.grown closing.grown).variables
      ∙ begins.variables

  lowered_here : IsLoweredFn functions source (finished_function source c)
  lowered_here = record {
    name = refl;
    params = refl;
    result_type = refl;
    param_types = parameter_types;
    scope = lowered_body.0;
    last = builder_point b;
    body =
        subst (λ z. StmtsAt functions (finished_function source c) (stmts_of source.body) [] (parameters source.params) z
        lowered_body.0 (builder_point b)) start lowered_body.1;
    closing = closing.instr (whole source c d functions signed) all_c;
    instrs =
        body_length (leads_by c.labels) c.lists c.pieces (finished_function source c) c.lines
        ∙ ap (λ (z : LoweringPoint). z.instr) closing.point;
    variables = ap (λ (z : LoweringPoint). z.variable) closing.point;
  }

pub function_lowered : (source : Function) (f : TacFn) (a b c : BuilderParts) → FunctionCodeBegins source.params source.locals a
    → StmtsAreEmitted (stmts_of source.body) None a b
    → OpIsAdded b (always (closing_op source.result_type (length b.lines))) source.end c → f ≡ finished_function source c
    → FunctionIsLowered source f
function_lowered source f a b c begins body closing is d functions signed well =
    subst (λ z. IsLoweredFn functions source z) (sym is)
    (lowered_here source a b c begins body closing d functions signed
    well)

-- ---- programs

-- what holds of all functions of a well-formed program holds of each
pub well_at : (d : Declared) (functions : List Function) (i : ℕ) (f : Function) → AllByRecursion
    (IsFunction d) functions
    → slice_get functions i ≡ Some f → IsFunction d f
well_at d [] i f all e = absurd (none e)
  where
    none : None ≡ Some f → ⊥
    none e = cc
well_at d (g ∷ functions) zero f all e = subst (IsFunction d) (same e) all.0
  where
    same : Some g ≡ Some f → g ≡ f
    same e = cc
well_at d (g ∷ functions) (suc i) f all e = well_at d functions i f all.1 e

pub function_is : (source : Function) (b : BuilderParts) (f : TacFn) (name : List ℕ) (result_type : Option «Type»)
    (variables : List «Type») (instrs : List CodeInstr) (places : List ℕ) (lists : List (List ℕ))
    (pieces : List (List Piece))
    → f ≡ record {
      name = name;
      params = source.params;
      result_type = result_type;
      variables = variables;
      body = body_of lists pieces instrs places;
    }
    → name ≡ source.name → result_type ≡ source.result_type → variables ≡ b.variables
    → instrs ≡ map (λ (x : Line). resolved_instr (leads_by b.labels) x.instr) b.lines
    → places ≡ map (λ (x : Line). x.place) b.lines → lists ≡ b.lists → pieces ≡ b.pieces → f ≡ finished_function source b
function_is source b f name result_type variables instrs places lists pieces is n r v i p l t =
    is ∙ (λ j. record {
      name = n j;
      params = source.params;
      result_type = r j;
      variables = v j;
      body = body_of (l j) (t j) (i j) (p j);
    })

-- no function counts more than the largest
pub within_largest : (items : List CodeFunction) (i : ℕ) (x : CodeFunction) → i < length items
    → x ≡ get_or items i x → function_size (typed_function_of x) ≤ largest_of (map typed_function_of items)
within_largest [] i x lt is = absurd (omega (arith, lt))
within_largest (a ∷ items) zero x lt is =
    subst (λ z. function_size (typed_function_of z) ≤ largest_of (map typed_function_of (a ∷ items))) (sym is) (omega arith)
within_largest (a ∷ items) (suc i) x lt is =
    let later = within_largest items i x (omega (arith, lt)) is in omega (arith, later)

-- one function more
pub next_lowered : (functions : List Function) (items : List CodeFunction) (i : ℕ) (x : CodeFunction) (f : TacFn)
    (rest : List TacFn) → i < length items → x ≡ get_or items i x → IsLoweredFn functions (typed_function_of x) f
    → AreLowered functions (map typed_function_of (drop (i + 1) items)) rest
    → AreLowered functions (map typed_function_of (drop i items)) (f ∷ rest)
next_lowered functions items i x f rest lt is h hs =
    subst (λ z. AreLowered functions z (f ∷ rest)) (sym (at_drop_more (map typed_function_of) items i x lt))
    (subst (λ z. AreLowered functions (typed_function_of z ∷ map typed_function_of (drop (i + 1) items)) (f ∷ rest)) is (h, hs))

pub end_lowered : (functions : List Function) (items : List CodeFunction) (i : ℕ) → length items ≤ i
    → AreLowered functions (map typed_function_of (drop i items)) []
end_lowered functions items i le =
    subst (λ z. AreLowered functions z []) (sym (at_drop_all (map typed_function_of) items i le)) tt

-- the function of this number is well-formed
pub well_function : (program : Typed) (items : List CodeFunction) (i : ℕ) (x : CodeFunction) → IsWellFormed program
    → program.functions ≡ map typed_function_of items → i < length items → x ≡ get_or items i x
    → IsFunction (declared_by program) (typed_function_of x)
well_function program items i x well same lt is =
    well_at (declared_by program) program.functions i (typed_function_of x) well.functions
    (ap (λ z. slice_get z i) same ∙ slice_get-map typed_function_of items i
    ∙ ap (option_map typed_function_of) (slice_get_read items (length items) i x refl lt is))

pub program_is : (program : Typed) (code : Tac) (structs : List Struct) (variables : List Variable)
    (functions : List TacFn) → code ≡ record { structs = structs; variables = variables; functions = functions }
    → structs ≡ program.structs → variables ≡ program.variables
    → AreLowered program.functions program.functions functions → IsLowered program code
program_is program code structs variables functions is s v h = record {
  structs = ap (λ (z : Tac). z.structs) is ∙ s;
  variables = ap (λ (z : Tac). z.variables) is ∙ v;
  functions = subst (λ (z : Tac). AreLowered program.functions program.functions z.functions) (sym is) h;
}
