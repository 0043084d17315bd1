-- The tree of a well-formed program that is not too large fits. By induction on the typing: it gives the numbers of operands, and the
-- counts of the program bound every number.
use Rattle.std.proofs.Common.{◌≡◌, ℕ, zero, suc, ◌+◌, ◌<◌, ◌≤◌, ◌^◌, Bool, true, false, ◌&&◌, List, [], ◌∷◌, ◌++◌, length, map, refl, sym, ap, ◌∙◌, subst, arith, length-append}
use Rattle.std.specs.Prelude.{Option, Some, None, slice_get, nat_eq, nat_lt}
use Rattle.std.specs.List.{list_all}
use Rattle.std.proofs.lemmas.Bool.{lt-ltb, eq-eqb}
use Rattle.std.proofs.lemmas.List.{length-map}
use Rattle.std.proofs.lemmas.Option.{slice_get_within}
use Rattle.rgo_ast.specs.declared.ops.BinaryOp.{BinaryOp}
use Rattle.rgo_ast.specs.declared.ops.BinaryOp.TheVariants as binary
use Rattle.rgo_typed.specs.declared.actions.Action.{Action}
use Rattle.rgo_typed.specs.declared.actions.Action.TheVariants as action
use Rattle.rgo_typed.specs.declared.programs.Struct.{Struct}
use Rattle.rgo_typed.specs.declared.programs.Variable.{Variable}
use Rattle.rgo_typed.specs.declared.types.Type.{«Type»}
use Rattle.rgo_typed.specs.Tree as tree
use Rattle.rgo_typed.specs.Tree.{Term, Terms, Change, Stmt, Stmts, stmts_of, Function, Typed}
use Rattle.rgo_wellformed.specs.TypeRules.{Declared, HasField, Computes, Returns, Takes}
use Rattle.rgo_wellformed.specs.WellFormed.{InScope, MatchFields, HasType, HaveTypes, Environment, in_a_loop, IsCondition, IsReturned, Updates, IsStmt, AreStmts, scope_after, first_numbers, IsFunction, declared_by, signature_of}
use Rattle.rgo_lower.specs.Shapes.{is_narrow, is_strict, returns_value, returns_nothing, how_many, term_fits, terms_fit, value_fits, change_fits, stmt_fits, stmts_fit}
use Rattle.rgo_lower.specs.Sizes.{most_struct_fields, program_size}

both : (a b : Bool) → a ≡ true → b ≡ true → a && b ≡ true
both true b e f = f
both false b e f = e

-- ---- numbers

-- there are fewer than 2^32 structs, fields of one, package variables and functions
pub record IsSmall (d : Declared) : Type 0 where
  pub structs : length d.structs < 2 ^ 32
  pub fields : (n : ℕ) (l : List «Type») → slice_get d.structs n ≡ Some l → length l < 2 ^ 32
  pub variables : length d.variables < 2 ^ 32
  pub functions : length d.functions < 2 ^ 32

narrow : (n : ℕ) → n < 2 ^ 32 → is_narrow n ≡ true
narrow n h = lt-ltb n (2 ^ 32) h

-- the number of an item of a list that is not too long
named : {A : Type 0} (xs : List A) (n : ℕ) (x : A) → slice_get xs n ≡ Some x → length xs < 2 ^ 32 → is_narrow n ≡ true
named xs n x e h = let within = slice_get_within xs n x e in narrow n (omega (arith, within, h))

field_is_narrow : (d : Declared) → IsSmall d → (n k : ℕ) (t : «Type») → HasField d n k t → is_narrow k ≡ true
field_is_narrow d small n k t h = named h.0 k t h.2 (small.fields n h.0 h.1)

-- the elements of a literal and their fields
fields_match : (fields : List «Type») (numbers : List ℕ) (types : List «Type») → length fields < 2 ^ 32
    → MatchFields fields numbers types → (length numbers ≡ length types) × (list_all is_narrow numbers ≡ true)
fields_match fields [] types h m = (ap length (sym m), refl)
fields_match fields (k ∷ numbers) types h m =
    let rest = fields_match fields numbers m.1 h m.4 in
    (ap suc rest.0 ∙ ap length (sym m.2), both (is_narrow k) (list_all is_narrow numbers) (named fields k m.0 m.3 h) rest.1)

-- ---- actions

operator_fits : (op : BinaryOp) (operands : List «Type») (t : «Type») → Computes op operands t
    → is_strict op && nat_eq (length operands) 2 ≡ true
operator_fits binary.Add operands t h = ap (λ z. nat_eq (length z) 2) h.0
operator_fits binary.Sub operands t h = ap (λ z. nat_eq (length z) 2) h.0
operator_fits binary.Mul operands t h = ap (λ z. nat_eq (length z) 2) h.0
operator_fits binary.Div operands t h = ap (λ z. nat_eq (length z) 2) h.0
operator_fits binary.Rem operands t h = ap (λ z. nat_eq (length z) 2) h.0
operator_fits binary.Eq operands t h = ap (λ z. nat_eq (length z) 2) h.1
operator_fits binary.Ne operands t h = ap (λ z. nat_eq (length z) 2) h.1
operator_fits binary.Lt operands t h = ap (λ z. nat_eq (length z) 2) h.0
operator_fits binary.Le operands t h = ap (λ z. nat_eq (length z) 2) h.0
operator_fits binary.Gt operands t h = ap (λ z. nat_eq (length z) 2) h.0
operator_fits binary.Ge operands t h = ap (λ z. nat_eq (length z) 2) h.0
operator_fits binary.And operands t h = absurd h
operator_fits binary.Or operands t h = absurd h

strict : (op : BinaryOp) (operands : List «Type») (t : «Type») → Computes op operands t → is_strict op ≡ true
strict binary.And operands t h = absurd h
strict binary.Or operands t h = absurd h
strict binary.Add operands t h = refl
strict binary.Sub operands t h = refl
strict binary.Mul operands t h = refl
strict binary.Div operands t h = refl
strict binary.Rem operands t h = refl
strict binary.Eq operands t h = refl
strict binary.Ne operands t h = refl
strict binary.Lt operands t h = refl
strict binary.Le operands t h = refl
strict binary.Gt operands t h = refl
strict binary.Ge operands t h = refl

-- this many operands and a number
with_number : (operands items : List «Type») (k : ℕ) → operands ≡ items → is_narrow k ≡ true
    → nat_eq (length operands) (length items) && is_narrow k ≡ true
with_number operands items k e h =
    both (nat_eq (length operands) (length items)) (is_narrow k) (eq-eqb (length operands) (length items) (ap length e)) h

module _ (d : Declared) (small : IsSmall d) where
  value_returned : (a : Action) (operands : List «Type») (t : «Type») → Returns d a operands t
      → returns_value a (length operands) ≡ true
  value_returned (action.Int k) operands t h = ap (λ z. nat_eq (length z) 0) h.0
  value_returned (action.Bool b) operands t h = ap (λ z. nat_eq (length z) 0) h.0
  value_returned action.Nil operands t h = ap (λ z. nat_eq (length z) 0) h.0
  value_returned action.Copy operands t h = absurd h
  value_returned (action.Binary op) operands t h = operator_fits op operands t h
  value_returned action.Neg operands t h = ap (λ z. nat_eq (length z) 1) h.0
  value_returned action.Not operands t h = ap (λ z. nat_eq (length z) 1) h.0
  value_returned action.IsNil operands t h = ap (λ z. nat_eq (length z) 1) h.1
  value_returned action.Len operands t h = ap (λ z. nat_eq (length z) 1) h.1
  value_returned (action.Load k) operands t h = with_number operands _ k h.1 (field_is_narrow d small h.0 k t h.2)
  value_returned action.At operands t h = ap (λ z. nat_eq (length z) 2) h
  value_returned (action.New n) operands t h =
      let within = h.2 in
      with_number operands [] n h.0 (narrow n (omega (arith, within, small.structs)))
  value_returned action.Slice operands t h = ap (λ z. nat_eq (length z) 1) h.0
  value_returned action.Chan operands t h = ap (λ z. nat_eq (length z) 1) h.0
  value_returned action.Recv operands t h = ap (λ z. nat_eq (length z) 1) h
  value_returned (action.Get n) operands t h = with_number operands [] n h.0 (named d.variables n t h.1 small.variables)
  value_returned (action.Store k) operands t h = absurd h
  value_returned action.Put operands t h = absurd h
  value_returned action.Send operands t h = absurd h
  value_returned action.Close operands t h = absurd h
  value_returned (action.Set n) operands t h = absurd h

  effect_taken : (a : Action) (operands : List «Type») → Takes d a operands → returns_nothing a (length operands) ≡ true
  effect_taken (action.Store k) operands h = with_number operands _ k h.2 (field_is_narrow d small h.0 k h.1 h.3)
  effect_taken action.Put operands h = ap (λ z. nat_eq (length z) 3) h.1
  effect_taken action.Send operands h = ap (λ z. nat_eq (length z) 2) h.1
  effect_taken action.Close operands h = ap (λ z. nat_eq (length z) 1) h.1
  effect_taken (action.Set n) operands h = with_number operands _ n h.1 (named d.variables n h.0 h.2 small.variables)
  effect_taken (action.Int k) operands h = absurd h
  effect_taken (action.Bool b) operands h = absurd h
  effect_taken action.Nil operands h = absurd h
  effect_taken action.Copy operands h = absurd h
  effect_taken (action.Binary op) operands h = absurd h
  effect_taken action.Neg operands h = absurd h
  effect_taken action.Not operands h = absurd h
  effect_taken action.IsNil operands h = absurd h
  effect_taken action.Len operands h = absurd h
  effect_taken (action.Load k) operands h = absurd h
  effect_taken action.At operands h = absurd h
  effect_taken (action.New n) operands h = absurd h
  effect_taken action.Slice operands h = absurd h
  effect_taken action.Chan operands h = absurd h
  effect_taken action.Recv operands h = absurd h
  effect_taken (action.Get n) operands h = absurd h

  -- ---- terms

  module _ (locals : List «Type») (g : InScope) where
    counted : (ts : Terms) (types : List «Type») → HaveTypes d locals g ts types → length types ≡ how_many ts
    counted tree.no_terms types h = ap length h
    counted (tree.a_term t ts) types h =
        let rest = counted ts h.1 h.4 in
        ap length h.2 ∙ omega (arith, rest)

    mutual
      typed_fits : (t : Term) (ty : «Type») → HasType d locals g t ty → term_fits t ≡ true
      typed_fits (tree.Local n) ty h = refl
      typed_fits (tree.Apply a parts u place) ty h =
          both (terms_fit parts) (returns_value a (how_many parts)) (typed_fit parts h.2 h.3)
          (subst (λ n. returns_value a n ≡ true) (counted parts h.2 h.3) (value_returned a h.2 u h.4))
      typed_fits (tree.Logic logic left right place) ty h =
          both (term_fits left) (term_fits right) (typed_fits left _ h.1) (typed_fits right _ h.2)
      typed_fits (tree.Build n parts numbers place) ty h =
          let matched = fields_match h.1 numbers h.3 (small.fields n h.1 h.2) h.5 in
          both (terms_fit parts) _ (typed_fit parts h.3 h.4)
          (both (is_narrow n) _ (named d.structs n h.1 h.2 small.structs)
          (both (nat_eq (length numbers) (how_many parts)) (list_all is_narrow numbers)
          (eq-eqb (length numbers) (how_many parts) (matched.0 ∙ counted parts h.3 h.4)) matched.1))
      typed_fits (tree.Call n arguments u place) ty h =
          both (terms_fit arguments) (is_narrow n) (typed_fit arguments h.1.params h.3)
          (named d.functions n h.1 h.2 small.functions)

      typed_fit : (ts : Terms) (types : List «Type») → HaveTypes d locals g ts types → terms_fit ts ≡ true
      typed_fit tree.no_terms types h = refl
      typed_fit (tree.a_term t ts) types h =
          both (term_fits t) (terms_fit ts) (typed_fits t h.0 h.3) (typed_fit ts h.1 h.4)

-- ---- statements

condition_fits : (e : Environment) → IsSmall e.declared → (g : InScope) (t : Option Term) → IsCondition e g t
    → value_fits t ≡ true
condition_fits e small g None h = refl
condition_fits e small g (Some t) h = typed_fits e.declared small e.locals g t _ h

returned_fits : (e : Environment) → IsSmall e.declared → (g : InScope) (t : Option Term) → IsReturned e g t
    → value_fits t ≡ true
returned_fits e small g None h = refl
returned_fits e small g (Some t) h = typed_fits e.declared small e.locals g t h.0 h.2

update_fits : (e : Environment) → IsSmall e.declared → (g : InScope) (c : Change) → Updates e g c → change_fits c ≡ true
update_fits e small g c h =
    let count : length h.0 ≡ how_many c.operands = counted e.declared small e.locals g c.operands h.0 h.1 in
    let one_more : length (h.0 ++ c.ty ∷ []) ≡ how_many c.operands + 1 = omega (arith, length-append h.0 (c.ty ∷ []), count) in
    both (terms_fit c.operands) _ (typed_fit e.declared small e.locals g c.operands h.0 h.1)
    (both (returns_value c.read (how_many c.operands)) _
    (subst (λ n. returns_value c.read n ≡ true) count (value_returned e.declared small c.read h.0 c.ty h.3))
    (both (term_fits c.value) _ (typed_fits e.declared small e.locals g c.value c.ty h.4)
    (both (is_strict c.op) (returns_nothing c.write (how_many c.operands + 1)) (strict c.op _ c.ty h.5)
    (subst (λ n. returns_nothing c.write n ≡ true) one_more
    (effect_taken e.declared small c.write (h.0 ++ c.ty ∷ []) h.6)))))

mutual
  pub formed_fits : (e : Environment) → IsSmall e.declared → (g : InScope) (s : Stmt) → IsStmt e g s
      → stmt_fits (length e.locals) e.in_loop s ≡ true
  formed_fits e small g (tree.Block all) h = formed_fit e small g all h
  formed_fits e small g (tree.Declare n ty value place) h =
      both (term_fits value) (nat_lt n (length e.locals)) (typed_fits e.declared small e.locals g value ty h.1)
      (lt-ltb n (length e.locals) (slice_get_within e.locals n ty h.0.1))
  formed_fits e small g (tree.Zero n ty place) h = lt-ltb n (length e.locals) (slice_get_within e.locals n ty h.1)
  formed_fits e small g (tree.Assign n value place) h = typed_fits e.declared small e.locals g value h.0 h.3
  formed_fits e small g (tree.Perform a operands place) h =
      both (terms_fit operands) (returns_nothing a (how_many operands))
      (typed_fit e.declared small e.locals g operands h.0 h.1)
      (subst (λ n. returns_nothing a n ≡ true) (counted e.declared small e.locals g operands h.0 h.1)
      (effect_taken e.declared small a h.0 h.2))
  formed_fits e small g (tree.Update change) h = update_fits e small g change h
  formed_fits e small g (tree.Discard value) h = typed_fits e.declared small e.locals g value h.0 h.1
  formed_fits e small g (tree.Invoke n arguments place) h =
      both (terms_fit arguments) (is_narrow n) (typed_fit e.declared small e.locals g arguments h.0.params h.2)
      (named e.declared.functions n h.0 h.1 small.functions)
  formed_fits e small g (tree.Go n arguments place) h =
      both (terms_fit arguments) (is_narrow n) (typed_fit e.declared small e.locals g arguments h.0.params h.2)
      (named e.declared.functions n h.0 h.1 small.functions)
  formed_fits e small g (tree.Print pieces values place) h = typed_fit e.declared small e.locals g values h.0 h.1
  formed_fits e small g (tree.If test body place) h =
      both (term_fits test) (stmts_fit (length e.locals) e.in_loop body)
      (typed_fits e.declared small e.locals g test _ h.0) (formed_fit e small g body h.1)
  formed_fits e small g (tree.IfElse test body other place) h =
      both (term_fits test) _ (typed_fits e.declared small e.locals g test _ h.0)
      (both (stmts_fit (length e.locals) e.in_loop body) (stmts_fit (length e.locals) e.in_loop other)
      (formed_fit e small g body h.1) (formed_fit e small g other h.2))
  formed_fits e small g (tree.Loop test body post place) h =
      both (value_fits test) _ (condition_fits e small g test h.0)
      (both (stmts_fit (length e.locals) true body) (stmts_fit (length e.locals) e.in_loop post)
      (formed_fit (in_a_loop e) small g body h.1) (formed_fit e small g post h.2))
  formed_fits e small g (tree.Break place) h = h
  formed_fits e small g (tree.Continue place) h = h
  formed_fits e small g (tree.Return value place) h = returned_fits e small g value h

  pub formed_fit : (e : Environment) → IsSmall e.declared → (g : InScope) (all : Stmts) → AreStmts e g all
      → stmts_fit (length e.locals) e.in_loop all ≡ true
  formed_fit e small g tree.no_stmts h = refl
  formed_fit e small g (tree.a_stmt s all) h =
      both (stmt_fits (length e.locals) e.in_loop s) (stmts_fit (length e.locals) e.in_loop all)
      (formed_fits e small g s h.0) (formed_fit e small (scope_after g s) all h.1)

-- ---- programs

pub function_fits : (d : Declared) → IsSmall d → (f : Function) → IsFunction d f
    → stmts_fit (length f.locals) false (stmts_of f.body) ≡ true
function_fits d small f h =
    formed_fit (record { declared = d; locals = f.locals; result_type = f.result_type; in_loop = false }) small
    (first_numbers f.params) (stmts_of f.body) h.body

-- no struct has more fields than the most
within_most : (structs : List Struct) (n : ℕ) (l : List «Type»)
    → slice_get (map (λ (s : Struct). s.fields) structs) n ≡ Some l → length l ≤ most_struct_fields structs
within_most [] n l e = absurd (none e)
  where
    none : None ≡ Some l → ⊥
    none e = cc
within_most (s ∷ structs) zero l e =
    let same : length s.fields ≡ length l = ap length (some_is e) in
    omega (arith, same)
  where
    some_is : Some s.fields ≡ Some l → s.fields ≡ l
    some_is e = cc
within_most (s ∷ structs) (suc n) l e = let rest = within_most structs n l e in omega (arith, rest)

pub small_program : (p : Typed) → program_size p + 2 < 2 ^ 32 → IsSmall (declared_by p)
small_program p h = record {
  structs = omega (arith, h, length-map p.structs (λ (s : Struct). s.fields));
  fields = λ n l e. let most = within_most p.structs n l e in omega (arith, h, most);
  variables = omega (arith, h, length-map p.variables (λ (v : Variable). v.ty));
  functions = omega (arith, h, length-map p.functions signature_of);
}
