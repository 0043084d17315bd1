-- The code of a program is printable, if its text is within the limit and its constants and places fit. The numbers of variables,
-- fields, targets and regions need no premise of their own: the text has a byte for each, so they are below its length
-- (TextLengths.antt, RegionNumbers.antt).
use Rattle.std.proofs.Common.{◌≡◌, inl, inr, ℕ, ◌+◌, ◌<◌, ◌≤◌, ◌^◌, List, [], ◌∷◌, length, map, Option, Some, None, slice_get, get_or, is_some, refl, sym, ap, ◌∙◌, subst, arith}
use Rattle.std.specs.Prelude.{IfSome, option_to_list}
use Rattle.std.specs.List.{All, Contains}
use Rattle.std.specs.Option.{option_map}
use Rattle.std.proofs.lemmas.List.{length-map}
use Rattle.std.proofs.lemmas.List.Elements.{All-contains, All-from_recursion, All-get_or}
use Rattle.std.proofs.lemmas.Option.{same_Some, slice_get-get_or, slice_get_within}
use Rattle.rgo_typed.specs.declared.actions.Action.{Action}
use Rattle.rgo_typed.specs.declared.actions.Action.TheVariants as action
use Rattle.rgo_typed.specs.declared.programs.Struct.{Struct}
use Rattle.rgo_typed.specs.declared.programs.Variable.{Variable}
use Rattle.rgo_typed.specs.declared.statements.Piece.{Piece}
use Rattle.rgo_typed.specs.declared.statements.Piece.TheVariants as piece
use Rattle.rgo_typed.specs.declared.types.Type.{«Type»}
use Rattle.rgo_typed.specs.Tree.{Function}
use Rattle.rgo_typing_laws.proofs.Lists.{mapped_at, unmapped_at}
use Rattle.rgo_typing_laws.proofs.Names.{AreNamed, typed_names}
use Rattle.rgo_wellformed.specs.TypeRules.{Takes, HasField}
use Rattle.rgo_wellformed.specs.WellFormed.{MatchPieces}
use Rattle.rgo_tac.specs.Code.{Op, TacFn}
use Rattle.rgo_lowering_laws.specs.Laws.{PrintsFit}
use Rattle.rgo_lowering_laws.proofs.Declarations.{same_names}
use Rattle.rgo_lowering_laws.proofs.Programs.{lowered_prints}
use Rattle.rgo_classes.specs.declared.classes.Summary.{Summary}
use Rattle.rgo_code.specs.declared.rules.Line.TheVariants as line
use Rattle.rgo_code.specs.declared.rules.Rule.TheVariants as rule
use Rattle.rgo_code.specs.Checked.{IsChecked}
use Rattle.rgo_code.specs.ClassRules.{CallsPass, StartsPass, CallPasses, StartPasses, PassesClasses}
use Rattle.rgo_code.specs.Code.{Slot, CodeOp, CodeInstr, CodeFn, Code, Do, Call, Go, Print, Jump, Branch, Return}
use Rattle.rgo_code.specs.Erasure.{erased_op, erased_instr, erased_fn, erased}
use Rattle.rgo_code.specs.Exists.{declared_in_code, UsesVariable, OpExists}
use Rattle.rgo_code.specs.NameRules.{ProtectsUsed}
use Rattle.rgo_code.specs.Names.{edges, slot_class}
use Rattle.rgo_code.specs.Types as types
use Rattle.rgo_code.specs.Types.{VariablesHaveTypes, ReturnsType, DoFits}
use Rattle.rgo_code_printing.specs.Text.{text_of}
use Rattle.rgo_code_text.specs.Printable.{ActionPrints, OpPrints, InstrPrints, FnPrints, IsPrintable}
use Rattle.rgo_code_text.specs.Written.{SlotFits}
use Rattle.rgo_code_text.proofs.readings.RuledUses.{each}
use Rattle.rgo_code_words.specs.Worded.{AreNames, IsSmallNumber, AreSmall, ClassFits, ValueFits, printed_value_count}
use Rattle.rgo_insert.specs.Inserted.{HasClasses}
use Rattle.rgo_run.specs.CodeVerdicts.{code_limit}
use Rattle.rgo_run.specs.Compiled.{IsCompiled}
use Rattle.rgo_run.specs.Constants as constants
use Rattle.rgo_run.specs.Constants.{TacConstantsFit}
use Rattle.rgo_run.proofs.NameWords.{IsName, names_spelled}
use Rattle.rgo_run.proofs.ProgramLemmas.{programs_are_well_formed}
use Rattle.rgo_run.proofs.RegionNumbers.{of_each, slot_fits, result_fits, entry_small, creates_small, removes_small, passes_fit}
use Rattle.rgo_run.proofs.TextLengths.{fn_within, fields_within}

-- ---- names

names_erased : (fs : List CodeFn) → map (λ (f : TacFn). f.name) (map erased_fn fs) ≡ map (λ (f : CodeFn). f.name) fs
names_erased [] = refl
names_erased (f ∷ fs) = ap (λ ns. f.name ∷ ns) (names_erased fs)

named : (text : List ℕ) (code : Code) (is : IsCompiled text code) → AreNamed IsName is.program
named text code is =
    let valid = is.is_program.is_well_typed in
    let tree = valid.is_tree in
    subst (AreNamed IsName) (sym is.is_program.typed)
    (typed_names IsName tree.lexemes is.is_program.tree tree.parsed.derived (names_spelled text tree.lexemes tree.lexed))

-- ---- small numbers

value_small : (value : Option ℕ) → ((v : ℕ) → value ≡ Some v → IsSmallNumber v) → ValueFits value
value_small None h = tt
value_small (Some v) h = h v refl

read_small : (value : Option ℕ) → ((v : ℕ) → Contains (option_to_list value) v → IsSmallNumber v) → ValueFits value
read_small None h = tt
read_small (Some v) h = h v (0, omega arith, refl)

-- a way of an instruction is among its ways
first : {A : Type 0} (w : A) (ws : List A) → Contains (w ∷ ws) w
first w ws = (0, omega arith, refl)

second : {A : Type 0} (v w : A) → Contains (v ∷ w ∷ []) w
second v w = (1, omega arith, refl)

counted : (pieces : List Piece) (ts : List «Type») → MatchPieces pieces ts → length ts ≡ printed_value_count pieces
counted [] ts h = ap length h
counted (piece.Text bytes ∷ pieces) ts h = omega (arith, counted pieces ts h)
counted (piece.Value ∷ pieces) ts h =
    let long = ap length h.2 in omega (arith, long, counted pieces h.1 h.4)

as_many : (f : TacFn) (from : List ℕ) (ts : List «Type») → VariablesHaveTypes f from ts → length from ≡ length ts
as_many f from ts e = sym (length-map from (slice_get f.variables)) ∙ ap length e ∙ length-map ts Some

some_mapped : {A B : Type 0} (f : A → B) (o : Option A) → is_some (option_map f o) ≡ is_some o
some_mapped f None = refl
some_mapped f (Some a) = refl

item : {A : Type 0} (P : A → Type 0) (xs : List A) (i : ℕ) (x : A) → slice_get xs i ≡ Some x → All P xs → P x
item P xs i x e h =
    subst P (same_Some (get_or xs i x) x (sym (slice_get-get_or xs i x (slice_get_within xs i x e)) ∙ e))
    (All-get_or P xs i x (slice_get_within xs i x e) h)

result_slot : (o : Option Slot) → ((s : Slot) → o ≡ Some s → SlotFits s) → IfSome o SlotFits
result_slot None h = tt
result_slot (Some s) h = h s refl

module _ (code : Code) (checked : IsChecked code) (short : length (text_of code) ≤ code_limit) (family : List Summary)
    (classes : HasClasses family code) (prints : (n : ℕ) (f : TacFn) → slice_get (erased code).functions n ≡ Some f → (i : ℕ)
    (op : Op) (place : ℕ) → slice_get f.body i ≡ Some (record { op = op; place = place }) → PrintsFit f op) where
  field_small : (n k : ℕ) (t : «Type») → HasField (declared_in_code (erased code)) n k t → IsSmallNumber k
  field_small n k t has =
      let s = unmapped_at (λ (s : Struct). s.fields) code.structs n has.0 has.1 in
      let within = slice_get_within has.0 k t has.2 in
      let long = ap length s.2 in
      omega (arith, within, long, fields_within code n s.0 s.1, short)

  returns_print : (a : Action) (operands : List «Type») (t : «Type») → ReturnsType (erased code) a operands t
      → constants.TacActionFits a → ActionPrints a
  returns_print (action.Int k) operands t h p = p
  returns_print (action.Load k) operands t h p = field_small h.0 k t h.2
  returns_print (action.Store k) operands t h p = absurd h
  returns_print _ operands t h p = tt

  takes_print : (a : Action) (operands : List «Type») → Takes (declared_in_code (erased code)) a operands
      → constants.TacActionFits a → ActionPrints a
  takes_print (action.Int k) operands h p = p
  takes_print (action.Load k) operands h p = absurd h
  takes_print (action.Store k) operands h p = field_small h.0 k h.1 h.3
  takes_print _ operands h p = tt

  module _ (n : ℕ) (f : CodeFn) (there : slice_get code.functions n ≡ Some f) where
    few : length f.variables < 2 ^ 32
    few = omega (arith, fn_within code n f there, short)

    few_instrs : length f.body < 2 ^ 32
    few_instrs = omega (arith, fn_within code n f there, short)

    does_print : (to : Option ℕ) (a : Action) (operands : List «Type»)
        → DoFits (erased code) (erased_fn f) to a operands → constants.TacActionFits a → ActionPrints a
    does_print None a operands h p = takes_print a operands h p
    does_print (Some d) a operands h p = returns_print a operands h.0 h.2 p

    params_fit : (m : ℕ) (g : CodeFn) → slice_get code.functions m ≡ Some g → g.params ≤ length g.variables
    params_fit m g at =
        let head = checked rule.Exists (line.Function m) g at in
        omega (arith, head.params, length-map g.variables (λ (s : Slot). s.ty))

    module _ (i : ℕ) (instr : CodeInstr) (here : slice_get f.body i ≡ Some instr) where
      creates : AreSmall instr.creates
      creates =
          creates_small f (classes n f there).numbered few i instr (checked rule.Creations (line.Instr n i) f instr there here)

      removes : (j : ℕ) (names : List ℕ) → Contains (edges instr.op i) (j, names) → AreSmall names
      removes =
          removes_small f (classes n f there).numbered few code i instr
          (checked rule.Creations (line.Instr n i) f instr there here)
          (checked rule.Removals (line.Instr n i) f instr there here)

      used : (v : ℕ) → UsesVariable (erased_op instr.op) v → IsSmallNumber v
      used v u =
          let within = (checked rule.Exists (line.Instr n i) f instr there here).variables v u in
          omega (arith, within, length-map f.variables (λ (s : Slot). s.ty), few)

      target_small : (target : ℕ) → target < length (erased_fn f).body → IsSmallNumber target
      target_small target within = omega (arith, within, length-map f.body erased_instr, few_instrs)

      called : (to : Option ℕ) (from : List ℕ) (passes : List _) (m : ℕ) (callee : TacFn)
          → slice_get (erased code).functions m ≡ Some callee → length from ≡ callee.params
          → is_some to ≡ is_some callee.result_type → ((g : CodeFn) → slice_get code.functions m ≡ Some g → PassesClasses f g to from passes)
          → All ClassFits passes
      called to from passes m callee declared long target p =
          let g = unmapped_at erased_fn code.functions m callee declared in
          passes_fit f (classes n f there).numbered few g.0 to from passes
          (long ∙ sym (ap (λ (h : TacFn). h.params) g.2)) (params_fit m g.0 g.1)
          (target ∙ (sym (ap (λ (h : TacFn). is_some h.result_type) g.2) ∙ some_mapped (λ (s : Slot). s.ty) g.0.result))
          (p g.0 g.1)

      by : (op : CodeOp) → ((v : ℕ) → UsesVariable (erased_op op) v → IsSmallNumber v) → OpExists (erased code) (erased_fn f) (erased_op op)
          → types.IsWellTypedOp (erased code) (erased_fn f) (erased_op op) → constants.TacOpFits (erased_op op)
          → PrintsFit (erased_fn f) (erased_op op)
          → ((j : ℕ) (names : List ℕ) → Contains (edges op i) (j, names) → AreSmall names) → CallsPass code f op
          → StartsPass code f op → ProtectsUsed f i op → OpPrints op
      by (Do to act from names) u x t c q r calls starts protects = (
        does_print to act t.0 t.2 c,
        value_small to (λ v e. u v (inr e)),
        of_each IsSmallNumber from (λ v h. u v (inl h)),
        r (i + 1) names (first (i + 1, names) []),
      )
      by (Call to m from passes kept names) u x t c q r calls starts protects =
          let all = called to from passes m x.callee x.declared x.arguments x.target (λ g at.
          subst (λ o. CallPasses f o to from passes) at calls) in (
            value_small to (λ v e. u v (inr e)),
            of_each IsSmallNumber from (λ v h. u v (inl h)),
            all,
            of_each IsSmallNumber kept (λ k h. All-contains ClassFits passes _ all ((protects k).0 h).0),
            r (i + 1) names (first (i + 1, names) []),
          )
      by (Go m from passes names) u x t c q r calls starts protects =
          let none : (g : CodeFn) → slice_get code.functions m ≡ Some g → StartPasses f (Some g) from passes =
          λ g at. subst (λ o. StartPasses f o from passes) at starts in
          let g = unmapped_at erased_fn code.functions m x.callee x.declared in
          let target = ap (λ (h : TacFn). is_some h.result_type) g.2 in
          let no_result = ap (λ o. is_some (option_map (λ (s : Slot). s.ty) o)) (none g.0 g.1).0 in (
            of_each IsSmallNumber from (λ v h. u v (inl h)),
            called None from passes m x.callee x.declared x.arguments (sym (sym target ∙ no_result)) (λ g at. (none g at).1),
            r (i + 1) names (first (i + 1, names) []),
          )
      by (Print pieces from names) u x t c q r calls starts protects = (
        c,
        as_many (erased_fn f) from q.0 q.1 ∙ counted pieces q.0 q.2,
        of_each IsSmallNumber from (λ v h. u v (inl h)),
        r (i + 1) names (first (i + 1, names) []),
      )
      by (Jump target names) u x t c q r calls starts protects =
          (target_small target x, r target names (first (target, names) []))
      by (Branch test target names other otherwise) u x t c q r calls starts protects = (
        u test (inl (first test [])),
        target_small target x.0,
        r target names (first (target, names) ((other, otherwise) ∷ [])),
        target_small other x.1,
        r other otherwise (second (target, names) (other, otherwise)),
      )
      by (Return value) u x t c q r calls starts protects = read_small value (λ v h. u v (inl h))

      instr_prints : constants.TacInstrFits (erased_instr instr) → InstrPrints instr
      instr_prints c = (
        c.0,
        creates,
        by instr.op used (checked rule.Exists (line.Instr n i) f instr there here).exists
            (checked rule.Types (line.Instr n i) f instr there here) c.1
            (prints n (erased_fn f) (mapped_at erased_fn code.functions n f there) i (erased_op instr.op) instr.place
            (mapped_at erased_instr f.body i instr here)) removes (checked rule.Calls (line.Instr n i) f instr there here)
            (checked rule.Starts (line.Instr n i) f instr there here)
            (checked rule.Protections (line.Instr n i) f instr there here),
      )

    fn_prints : constants.TacFnFits (erased_fn f) → FnPrints f
    fn_prints c = record {
      params = omega (arith, params_fit n f there, few);
      result = result_slot f.result (λ s e.
          subst ClassFits (ap slot_class e) (result_fits f (classes n f there).numbered few));
      variables = each SlotFits f.variables (slot_fits f (classes n f there).numbered few);
      entry = entry_small f (classes n f there).numbered few (checked rule.Removals (line.Entry n) f there);
      indexes = omega (arith, few_instrs);
      body = each InstrPrints f.body (λ i instr here.
          instr_prints i instr here
          (item constants.TacInstrFits (erased_fn f).body i (erased_instr instr) (mapped_at erased_instr f.body i instr here) c));
    }

  fns_print : TacConstantsFit (erased code) → All FnPrints code.functions
  fns_print c = each FnPrints code.functions (λ n f there.
      fn_prints n f there
      (item constants.TacFnFits (erased code).functions n (erased_fn f) (mapped_at erased_fn code.functions n f there) c))

pub printable : (text : List ℕ) (code : Code) → IsCompiled text code → length (text_of code) ≤ code_limit
    → TacConstantsFit (erased code) → IsPrintable code
printable text code is short c =
    let lowered = is.from.lowered in
    let names = named text code is in
    let well = (programs_are_well_formed text is.program is.is_program).0 in
    record {
      structs = subst (λ l. AreNames (map (λ (s : Struct). s.name) l)) (sym lowered.structs)
          (All-from_recursion IsName (map (λ (s : Struct). s.name) is.program.structs) names.structs);
      variables = subst (λ l. AreNames (map (λ (v : Variable). v.name) l)) (sym lowered.variables)
          (All-from_recursion IsName (map (λ (v : Variable). v.name) is.program.variables) names.variables);
      functions =
          subst AreNames
          (sym (same_names is.program.functions is.program.functions (erased code).functions lowered.functions)
          ∙ names_erased code.functions)
          (All-from_recursion IsName (map (λ (f : Function). f.name) is.program.functions) names.functions);
      fits = fns_print code is.from.checked short is.from.family is.from.classes
          (λ n f at i op place e. lowered_prints is.program (erased code) well lowered n f at i _ e) c;
    }
