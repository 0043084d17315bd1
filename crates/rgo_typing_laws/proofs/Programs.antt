-- If no node of a program breaks a rule, its typed tree is well-formed. Each field of `IsWellFormed` is one lemma: the package by
-- `Packages`, `Signatures` and `Distinct`, the bodies by `Statements`, and `main` by the rule at the text's end.
use Rattle.std.proofs.Common.{◌≡◌, ◌+◌, ◌<◌, ◌&&◌, ℕ, true, false, not, List, [], ◌∷◌, length, map, slice_get, codes}
use Rattle.std.proofs.Common.{length-append}
use Rattle.std.proofs.Common.{Option, Some, None, is_some, refl, ap, sym, ◌∙◌, subst, arith, true≢false}
use Rattle.std.specs.List.{AllByRecursion}
use Rattle.std.proofs.lemmas.List.{length-map}
use Rattle.std.proofs.lemmas.Option.{slice_get-get_or}
use Rattle.rgo_ast.specs.Tree as tree
use Rattle.rgo_ast.specs.Tree.{Decl, Program, stmts_of}
use Rattle.rgo_typed.specs.declared.types.Type.{«Type»}
use Rattle.rgo_typed.specs.declared.programs.Struct.{Struct}
use Rattle.rgo_typed.specs.declared.programs.Variable.{Variable}
use Rattle.rgo_typed.specs.Tree.{Function, Typed}
use Rattle.rgo_typing_rules.specs.Nodes as node
use Rattle.rgo_typing_rules.specs.Sites.{Site, first_refusal}
use Rattle.rgo_typing_rules.specs.declared.meanings.Meaning.{Meaning}
use Rattle.rgo_typing_rules.specs.declared.meanings.Meaning.TheVariants as meaning
use Rattle.rgo_typing_rules.specs.declared.rules.Rule.TheVariants as rule
use Rattle.rgo_typing_rules.proofs.Unbroken.{keeps}
use Rattle.rgo_scopes.specs.Blocks.{found}
use Rattle.rgo_typing_expressions.specs.Packages.{Package, Fields, Context}
use Rattle.rgo_typing_expressions.specs.Scopes.{no_fields, no_signature, int, fields_at, variable_type_at, signature_at}
use Rattle.rgo_types.specs.Flow.{stmts_terminate}
use Rattle.rgo_typing_packages.specs.Imports.{import_sites}
use Rattle.rgo_typing_packages.specs.Numbering.{no_numbers, with_all_decls}
use Rattle.rgo_typing_packages.specs.Packages.{outside_functions, named_package, signatures_in, package_of, package_sites}
use Rattle.rgo_types.specs.Programs.{has_main, is_main}
use Rattle.rgo_types.specs.Programs.{is_empty_signature}
use Rattle.rgo_types.specs.Programs.{are_none, in_function, at_body, body_sites, bodies_sites, typed_function}
use Rattle.rgo_types.specs.Programs.{typed_functions}
use Rattle.rgo_types.specs.Programs.{typed_program}
use Rattle.rgo_typing_packages.specs.Signatures.{Signatures, no_signatures, decls_sites, params_of, result_of}
use Rattle.rgo_typing_statements.specs.Statements.{all_sites, after_all}
use Rattle.rgo_typing_statements.specs.TypedStatements.{typed_all}
use Rattle.rgo_wellformed.specs.Endings.{Ends, EndsWith}
use Rattle.rgo_wellformed.specs.TypeRules.{Declared, IsType}
use Rattle.rgo_wellformed.specs.WellFormed.{first_numbers, signature_of, declared_by, IsFunction, IsMain, IsResult}
use Rattle.rgo_wellformed.specs.WellFormed.{AreDistinct}
use Rattle.rgo_typing_laws.specs.Headers.{DeclHasHeaders}
use Rattle.rgo_typing_laws.specs.Laws.{TypedIsWellFormed, TypedEnds, ParsedIsWellFormed}
use Rattle.rgo_typing_laws.proofs.Unbroken.{left, right, alone, not_false}
use Rattle.rgo_typing_laws.proofs.Growth.{begins_itself, grows_all}
use Rattle.rgo_typing_laws.proofs.Values.{declared_signature, IsStruct, IsCallee}
use Rattle.rgo_typing_laws.proofs.Scopes.{Scoped, Describes, Sound, IsGlobal}
use Rattle.rgo_typing_laws.proofs.Lists.{some_is, mapped_at, unmapped_at, taken_none, holds_at, holds_there}
use Rattle.rgo_typing_laws.proofs.Lists.{holds_mapped}
use Rattle.rgo_typing_laws.proofs.Declarations.{steps_all}
use Rattle.rgo_typing_laws.proofs.Statements.{well_all}
use Rattle.rgo_typing_laws.proofs.Numbering.{AreNumbered, IsNumbered, names_of, none_numbered, all_numbered}
use Rattle.rgo_typing_laws.proofs.Signatures.{InStep, all_in_step, IsMirrored, all_mirrored, all_functions}
use Rattle.rgo_typing_laws.proofs.Signatures.{function_names}
use Rattle.rgo_typing_laws.proofs.Packages.{IsNamed, AllExist, AreFields, IsSignature, all_exist, HasScope}
use Rattle.rgo_typing_laws.proofs.Packages.{params_scoped}
use Rattle.rgo_typing_laws.proofs.Packages.{result_exists, from_the_first}
use Rattle.rgo_typing_laws.proofs.Endings.{all_end}
use Rattle.rgo_typing_laws.proofs.Headers.{grammar_has_headers}
use Rattle.rgo_typing_laws.proofs.Distinct.{all_apart, none_apart}

-- the types of the fields of structs
types_of_each : (d : Declared) (l : List Fields) → AllByRecursion (AreFields d) l
    → AllByRecursion (AllByRecursion (IsType d)) (map (λ f. f.types) l)
types_of_each d [] h = tt
types_of_each d (f ∷ l) h = (h.0.types, types_of_each d l h.1)

-- ---- functions

module _ (p : Package) (d : Declared) (sound : Sound p d)
    (named : (name : List ℕ) (m : Meaning) → found name p.names ≡ Some m → IsNamed d m) where
  abbrev c : Context
  c = outside_functions p

  function_well : (f : tree.Function) → DeclHasHeaders (tree.Func f) → first_refusal (body_sites c f) ≡ None
      → IsFunction d (typed_function c f)
  function_well f headers h =
      let begin = at_body c f in
      let all = after_all begin (stmts_of f.body) in
      let result = result_of c f.result_type in
      let scope : HasScope d (params_of c f) = params_scoped p d named f in
      let here = first_numbers (length begin.scope.types) in
      let scoped : Scoped d begin.scope here = from_the_first d begin.scope scope.0 scope.1 in
      let st : Describes d begin here = record { sound = sound; scoped = scoped } in
      let known : IsResult d result = result_exists p d named f.result_type in
      let grown = (grows_all begin (stmts_of f.body)).types in
      let longer : length all.scope.types ≡ length begin.scope.types + length grown.0 =
      ap length grown.1 ∙ length-append begin.scope.types grown.0 in
      let n = node.End (is_some f.result_type) (stmts_terminate (stmts_of f.body)) in
      let sites = all_sites (in_function c f) begin (stmts_of f.body) in
      let body = well_all d all.scope.types result known (stmts_of f.body) begin here false headers
      (begins_itself all.scope.types) st (left sites ((f.end, n) ∷ []) h) in
      record {
        params = omega (arith, longer);
        locals = body.1.scoped.types;
        result_type = known;
        body =
            steps_all d all.scope.types result false here all
            (typed_all (in_function c f) begin (stmts_of f.body)) body;
      }

  functions_well : (l : List Decl) → AllByRecursion DeclHasHeaders l → first_refusal (bodies_sites c l) ≡ None
      → AllByRecursion (IsFunction d) (typed_functions c l)
  functions_well [] headers h = tt
  functions_well (tree.Types types at ∷ l) headers h = functions_well l headers.1 h
  functions_well (tree.Vars vars at ∷ l) headers h = functions_well l headers.1 h
  functions_well (tree.Func f ∷ l) headers h = (
    function_well f headers.0 (left (body_sites c f) (bodies_sites c l) h),
    functions_well l headers.1 (right (body_sites c f) (bodies_sites c l) h),
  )

-- ---- programs

module _ (program : Program) where
  abbrev names : Package
  names = named_package program

  abbrev lists : Signatures
  lists = signatures_in program

  abbrev whole : Package
  whole = package_of program

  abbrev typed : Typed
  typed = typed_program program

  abbrev d : Declared
  d = declared_by typed

  in_step : InStep (with_all_decls no_numbers program.decls) lists
  in_step = all_in_step (outside_functions names) no_numbers no_signatures program.decls (refl, refl)

  mirrored : IsMirrored lists
  mirrored = all_mirrored (outside_functions names) no_signatures program.decls (refl, refl)

  functions_are : map declared_signature lists.functions ≡ d.functions
  functions_are = all_functions names lists no_signatures program.decls

  numbers : AreNumbered (with_all_decls no_numbers program.decls) (names_of program.decls)
  numbers = all_numbered no_numbers [] program.decls none_numbered

  count_structs : length d.structs ≡ length lists.structs
  count_structs = ap length mirrored.0 ∙ length-map lists.structs (λ (f : Fields). f.types)

  named : (name : List ℕ) (m : Meaning) → found name whole.names ≡ Some m → IsNamed d m
  named name m h = go m (numbers.each name m h)
    where
      go : (m : Meaning) → IsNumbered (with_all_decls no_numbers program.decls) (names_of program.decls) name m → IsNamed d m
      go (meaning.Struct k) i = omega (arith, i, in_step.0, count_structs)
      go (meaning.Global k) i = tt
      go (meaning.Function k) i = tt
      go m i = absurd i

  lists_exist : AllExist d lists
  lists_exist = all_exist names d named no_signatures program.decls (tt, tt, tt)

  struct_exists : (n : ℕ) → n < length d.structs → IsStruct whole d n
  struct_exists n h =
      let o : n < length lists.structs = omega (arith, h, count_structs) in
      let f : AreFields d (fields_at whole n) = holds_at (AreFields d) lists.structs n no_fields o lists_exist.0 in
      record {
        listed = subst (λ l. slice_get l n ≡ Some (fields_at whole n).types) (sym mirrored.0)
            (mapped_at (λ (f : Fields). f.types) lists.structs n (fields_at whole n)
            (slice_get-get_or lists.structs n no_fields o));
        fields = λ name k e. (
          slice_get-get_or (fields_at whole n).types k int (f.below name k e),
          holds_at (IsType d) (fields_at whole n).types k int (f.below name k e) f.types,
        );
        types = f.types;
      }

  count_functions : length lists.functions ≡ length (names_of program.decls)
  count_functions =
      let functions = typed_functions (outside_functions whole) program.decls in
      sym (length-map lists.functions declared_signature) ∙ ap length functions_are ∙ length-map functions signature_of
      ∙ sym (length-map functions (λ (f : Function). f.name))
      ∙ ap length (function_names (outside_functions whole) program.decls)

  global_exists : (name : List ℕ) (m : Meaning) → found name whole.names ≡ Some m → IsGlobal whole d m
  global_exists name m h = go m (numbers.each name m h)
    where
      go : (m : Meaning) → IsNumbered (with_all_decls no_numbers program.decls) (names_of program.decls) name m
          → IsGlobal whole d m
      go (meaning.Struct k) i = omega (arith, i, in_step.0, count_structs)
      go (meaning.Global k) i =
          let o : k < length lists.variables = omega (arith, i, in_step.1) in (
            subst (λ l. slice_get l k ≡ Some (variable_type_at whole k)) (sym mirrored.1)
                (slice_get-get_or lists.variables k int o),
            holds_at (IsType d) lists.variables k int o lists_exist.1,
          )
      go (meaning.Function k) i =
          let o : k < length lists.functions = omega (arith, i.0, numbers.count, count_functions) in
          let s : IsSignature d (signature_at whole k) =
          holds_at (IsSignature d) lists.functions k no_signature o lists_exist.2 in
          record {
            listed = subst (λ l. slice_get l k ≡ Some (declared_signature (signature_at whole k))) functions_are
                (mapped_at declared_signature lists.functions k (signature_at whole k)
                (slice_get-get_or lists.functions k no_signature o));
            params = s.params;
            result_type = s.result_type;
          }
      go m i = absurd i

  sound : Sound whole d
  sound = record { names = global_exists; structs = struct_exists }

  -- ---- `main`

  plain_none : (params : List «Type») (o : Option «Type») → are_none params o ≡ true → (params ≡ []) × (o ≡ None)
  plain_none [] None h = (refl, refl)
  plain_none [] (Some t) h = absurd (true≢false (sym h))
  plain_none (t ∷ params) o h = absurd (true≢false (sym h))

  main_exists : AllByRecursion (IsFunction d) typed.functions → has_main whole ≡ true
      → (n : ℕ) × (main : Function) × (slice_get typed.functions n ≡ Some main) × IsMain main
  main_exists all h = go (found (codes "main") whole.names) refl h
    where
      at : (k : ℕ) → IsNumbered (with_all_decls no_numbers program.decls) (names_of program.decls) (codes "main")
          (meaning.Function k) → IsCallee whole d k
          → is_empty_signature (signature_at whole k) ≡ true
          → (n : ℕ) × (main : Function) × (slice_get typed.functions n ≡ Some main) × IsMain main
      at k i c plain =
          let f = unmapped_at (λ (f : Function). f.name) typed.functions k (codes "main")
          (subst (λ l. slice_get l k ≡ Some (codes "main"))
          (sym (function_names (outside_functions whole) program.decls)) i.1) in
          let same : signature_of f.0 ≡ declared_signature (signature_at whole k) =
          some_is (signature_of f.0) (declared_signature (signature_at whole k))
          (sym (mapped_at signature_of typed.functions k f.0 f.1) ∙ c.listed) in
          let none = plain_none (signature_at whole k).params (signature_at whole k).result_type plain in
          let in_order : IsFunction d f.0 = holds_there (IsFunction d) typed.functions k f.0 f.1 all in (
            k,
            f.0,
            f.1,
            record {
              name = f.2;
              params = taken_none f.0.params f.0.locals in_order.params (ap (λ s. s.params) same ∙ none.0);
              result_type = ap (λ s. s.result_type) same ∙ none.1;
            },
          )

      other : (m : Meaning) → IsNumbered (with_all_decls no_numbers program.decls) (names_of program.decls) (codes "main") m
          → IsGlobal whole d m
          → is_main whole (Some m) ≡ true
          → (n : ℕ) × (main : Function) × (slice_get typed.functions n ≡ Some main) × IsMain main
      other (meaning.Function k) i c plain = at k i c plain
      other m i c plain = absurd (true≢false (sym plain))

      go : (o : Option Meaning) → found (codes "main") whole.names ≡ o → is_main whole o ≡ true
          → (n : ℕ) × (main : Function) × (slice_get typed.functions n ≡ Some main) × IsMain main
      go None e plain = absurd (true≢false (sym plain))
      go (Some m) e plain = other m (numbers.each (codes "main") m e) (global_exists (codes "main") m e) plain

-- ---- terminating bodies

function_ends : (c : Context) (f : tree.Function) → DeclHasHeaders (tree.Func f)
    → first_refusal (body_sites c f) ≡ None → Ends (typed_function c f)
function_ends c f headers h =
    go f.result_type (keeps rule.MissingReturn n (alone f.end n (right sites ((f.end, n) ∷ []) h)))
  where
    n : node.Node
    n = node.End (is_some f.result_type) (stmts_terminate (stmts_of f.body))

    sites : List Site
    sites = all_sites (in_function c f) (at_body c f) (stmts_of f.body)

    go : (o : Option tree.TypeExpr) → is_some o && not (stmts_terminate (stmts_of f.body)) ≡ false
        → EndsWith (result_of c o) (typed_function c f)
    go None k = tt
    go (Some ty) k =
        all_end (stmts_of f.body) (in_function c f) (at_body c f) headers (not_false (stmts_terminate (stmts_of f.body)) k)

functions_end : (c : Context) (l : List Decl) → AllByRecursion DeclHasHeaders l
    → first_refusal (bodies_sites c l) ≡ None
    → AllByRecursion Ends (typed_functions c l)
functions_end c [] headers h = tt
functions_end c (tree.Types types at ∷ l) headers h = functions_end c l headers.1 h
functions_end c (tree.Vars vars at ∷ l) headers h = functions_end c l headers.1 h
functions_end c (tree.Func f ∷ l) headers h = (
  function_ends c f headers.0 (left (body_sites c f) (bodies_sites c l) h),
  functions_end c l headers.1 (right (body_sites c f) (bodies_sites c l) h),
)

-- ---- the tree

pub typed_ends : TypedEnds
typed_ends program headers h =
    let c = outside_functions (package_of program) in
    let text_end : Site = (program.end, node.TextEnd (has_main (package_of program))) in
    functions_end c program.decls headers
    (right (text_end ∷ []) (bodies_sites c program.decls)
    (right (package_sites program) (text_end ∷ bodies_sites c program.decls) h))

pub well_formed : TypedIsWellFormed
well_formed program headers h =
    let p = package_of program in
    let c = outside_functions p in
    let names_at = outside_functions (named_package program) in
    let d = declared_by (typed_program program) in
    let n = node.TextEnd (has_main p) in
    let rest = (program.end, n) ∷ bodies_sites c program.decls in
    let declarations = decls_sites names_at no_signatures program.decls in
    let in_rest = right (package_sites program) rest h in
    let in_package = right (import_sites false program.imports) declarations (left (package_sites program) rest h) in
    let apart = all_apart names_at no_signatures [] program.decls in_package none_apart in
    let functions : AllByRecursion (IsFunction d) (typed_functions c program.decls) =
    functions_well p d (sound program) (named program) program.decls headers
    (right ((program.end, n) ∷ []) (bodies_sites c program.decls) in_rest) in
    let main : has_main p ≡ true =
    not_false (has_main p)
    (keeps rule.NoMain n (alone program.end n (left ((program.end, n) ∷ []) (bodies_sites c program.decls) in_rest))) in
    record {
      structs =
          holds_mapped (AllByRecursion (IsType d)) (λ (s : Struct). s.fields) (signatures_in program).typed_structs
          (subst (AllByRecursion (AllByRecursion (IsType d))) (sym (mirrored program).0)
          (types_of_each d (signatures_in program).structs (lists_exist program).0));
      variables = holds_mapped (IsType d) (λ (v : Variable). v.ty) (signatures_in program).typed_variables
          (subst (AllByRecursion (IsType d)) (sym (mirrored program).1) (lists_exist program).1);
      functions = functions;
      struct_names = apart.structs.distinct;
      variable_names = apart.variables.distinct;
      function_names = subst AreDistinct (sym (function_names c program.decls)) apart.functions.distinct;
      has_main = main_exists program functions main;
    }

-- every tree of the grammar
pub parsed_well : ParsedIsWellFormed
parsed_well l program derived h =
    let headers = grammar_has_headers l program.imports program.decls derived in
    (well_formed program headers h, typed_ends program headers h)
