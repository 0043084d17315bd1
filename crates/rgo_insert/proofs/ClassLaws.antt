-- Classes under summaries keep the rules on classes and on what instructions join.
use Rattle.std.proofs.Common.{◌≡◌, ℕ, List, Option, Some, None, slice_get, refl, sym, ap, ◌∙◌, subst}
use Rattle.std.specs.Option.{option_map}
use Rattle.rgo_typed.specs.declared.types.Type.{«Type»}
use Rattle.rgo_tac.specs.declared.regions.Member.{Member}
use Rattle.rgo_tac.specs.declared.regions.Member.TheVariants.{Variable, Result}
use Rattle.rgo_tac.specs.Code.{Instr, TacFn}
use Rattle.rgo_tac.specs.Joins.{is_pointer_like_type, joins}
use Rattle.rgo_classes.specs.declared.classes.Summary.{Summary}
use Rattle.rgo_classes.specs.Classes.{AreClasses}
use Rattle.rgo_classes.specs.Joins.{Joins}
use Rattle.rgo_classes.proofs.Chains.{contains}
use Rattle.rgo_summaries.proofs.Standing.{joined_own, pointer_like_joined}
use Rattle.rgo_code.specs.declared.notes.Note.{Note}
use Rattle.rgo_code.specs.declared.notes.Regions.{Regions}
use Rattle.rgo_code.specs.ClassRules.{Agree, GlobalsAgree, JoinsAgree, OpAgrees, ResultFits, ReturnsAgree, SlotClassFitsType}
use Rattle.rgo_code.specs.Code.{CodeFn, CodeOp, Slot, Do, Call, Go, Print, Jump, Branch, Return}
use Rattle.rgo_code.specs.Erasure.{erased_op}
use Rattle.rgo_code.specs.Views.{code_fn, code_op, slot}
use Rattle.rgo_code.proofs.Erased.{fn_erased, op_erased}
use Rattle.rgo_insert.specs.Bare.{classes_by}
use Rattle.rgo_insert.proofs.Members.{agree, class_in, class_of_like, like_of_class, result_by_type, result_placed, variable_placed}
use Rattle.rgo_insert.proofs.Told.{slot_found}

pub joins_agree : (f : CodeFn) (op : CodeOp) → OpAgrees f op → JoinsAgree f op
joins_agree f (Do to action from removes) h = λ other. h
joins_agree f (Call to n from passes protects removes) h = tt
joins_agree f (Go n from passes removes) h = tt
joins_agree f (Print pieces from removes) h = tt
joins_agree f (Jump target removes) h = tt
joins_agree f (Branch test target removes other otherwise) h = tt
joins_agree f (Return value) h = tt

pub globals_agree : (f : CodeFn) (op : CodeOp) → OpAgrees f op → GlobalsAgree f op
globals_agree f (Do to action from removes) h = λ other. h
globals_agree f (Call to n from passes protects removes) h = tt
globals_agree f (Go n from passes removes) h = tt
globals_agree f (Print pieces from removes) h = tt
globals_agree f (Jump target removes) h = tt
globals_agree f (Branch test target removes other otherwise) h = tt
globals_agree f (Return value) h = tt

pub returns_agree : (f : CodeFn) (op : CodeOp) → OpAgrees f op → ReturnsAgree f op
returns_agree f (Do to action from removes) h = tt
returns_agree f (Call to n from passes protects removes) h = tt
returns_agree f (Go n from passes removes) h = tt
returns_agree f (Print pieces from removes) h = tt
returns_agree f (Jump target removes) h = tt
returns_agree f (Branch test target removes other otherwise) h = tt
returns_agree f (Return value) h = h

module _ (sums : List Summary) (f : TacFn) (r : Regions) (are : AreClasses sums f (classes_by r)) where
  -- ---- a class exactly where the type is pointer-like

  pub slot_fits : (v : ℕ) (s : Slot) → slice_get (code_fn f r).variables v ≡ Some s → SlotClassFitsType s
  slot_fits v s e =
      let found = slot_found f r v s e in
      let p = variable_placed sums f r are v s.ty found.0 in (
        λ some. sym (ap is_pointer_like_type found.0)
            ∙ like_of_class sums f r are (Variable v) p (λ none. some (sym found.1 ∙ none)),
        λ like none. class_of_like sums f r are (Variable v) p (ap is_pointer_like_type found.0 ∙ like)
            (found.1 ∙ none),
      )

  result_by : (o : Option «Type») → f.result_type ≡ o → ResultFits (option_map (λ ty. slot ty r.result) o)
  result_by None e = tt
  result_by (Some ty) e =
      let p = result_placed sums f r are ty e in
      let said : class_in sums f r are Result ≡ r.result = sym (result_by_type sums f r are f.result_type ty e) in (
        λ some. sym (ap is_pointer_like_type e) ∙ like_of_class sums f r are Result p (λ none. some (sym said ∙ none)),
        λ like none. class_of_like sums f r are Result p (ap is_pointer_like_type e ∙ like) (said ∙ none),
      )

  pub result_fits : ResultFits (code_fn f r).result
  result_fits = result_by f.result_type refl

  -- ---- what an instruction joins has one class

  agree_by : (i : ℕ) (plain : Instr) → slice_get f.body i ≡ Some plain → (o : Option (Member × Member))
      → joins f plain.op ≡ o → Agree (code_fn f r) o
  agree_by i plain here None e = tt
  agree_by i plain here (Some pair) e =
      let like = pointer_like_joined f plain.op pair.0 pair.1 e in
      agree sums f r are pair.0 pair.1 like.1 like.2
      (contains (Joins sums f) pair.0 pair.1 (joined_own sums f i plain pair.0 pair.1 here e))

  pub op_agrees : (i : ℕ) (plain : Instr) (n : Note) → slice_get f.body i ≡ Some plain
      → OpAgrees (code_fn f r) (code_op plain.op n)
  op_agrees i plain n here =
      subst (λ g. Agree (code_fn f r) (joins g (erased_op (code_op plain.op n)))) (sym (fn_erased f r))
      (subst (λ o. Agree (code_fn f r) (joins f o)) (sym (op_erased plain.op n))
      (agree_by i plain here (joins f plain.op) refl))
