-- The tests on classes decide the rules on them.
use Rattle.std.proofs.Common.{◌≡◌, ◌≢◌, ◌↔◌, Bool, true, false, not, Option, Some, None, refl, ap, if◌then◌else◌}
use Rattle.std.proofs.lemmas.Bool.{false≢true}
use Rattle.std.specs.Bool.{Decides}
use Rattle.rgo_typed.specs.Types.{is_pointer_like}
use Rattle.rgo_tac.specs.declared.regions.Class.{Class}
use Rattle.rgo_tac.specs.declared.regions.Class.TheVariants.{NoClass, Global, Name}
use Rattle.rgo_tac.specs.declared.regions.Member.{Member}
use Rattle.rgo_tac.specs.Joins.{joins}
use Rattle.rgo_code.specs.Code.{Slot, CodeOp, CodeFn, Do, Call, Go, Print, Jump, Branch, Return}
use Rattle.rgo_code.specs.ClassRules.{SlotClassFitsType, is_of_package, Agree, JoinsAgree, GlobalsAgree, ReturnsAgree}
use Rattle.rgo_code.specs.Erasure.{erased_op, erased_fn}
use Rattle.rgo_code.specs.Names.{member_class}
use Rattle.rgo_checker.specs.ClassTests.{equal_classes, has_class, class_fits, agree, op_agrees, joins_agree, globals_agree, return_agrees}
use Rattle.rgo_checker.proofs.Deciding.{always, never, unless, only_if, decides_same}

pub same_class_decided : (a b : Class) → Decides (equal_classes a b) (a ≡ b)
same_class_decided NoClass NoClass = always refl
same_class_decided NoClass Global = never (λ e. cc)
same_class_decided NoClass (Name n) = never (λ e. cc)
same_class_decided Global NoClass = never (λ e. cc)
same_class_decided Global Global = always refl
same_class_decided Global (Name n) = never (λ e. cc)
same_class_decided (Name m) NoClass = never (λ e. cc)
same_class_decided (Name m) Global = never (λ e. cc)
same_class_decided (Name m) (Name n) =
    let d = decides_same m n in
    (λ t. ap Name (d.0 t), λ e. let q : m ≡ n = cc in d.1 q)

-- ---- rule 3

has_class_decided : (c : Class) → Decides (has_class c) (c ≢ NoClass)
has_class_decided NoClass = never (λ n. n refl)
has_class_decided Global = always (λ e. cc)
has_class_decided (Name n) = always (λ e. cc)

same_truth : (like : Bool) {P : Type 0} (has : Bool) → Decides has P
    → Decides (if has then like else not like) (P ↔ (like ≡ true))
same_truth true true d = always (λ p. refl, λ t. d.0 refl)
same_truth true false d = never (λ e. false≢true (d.1 (e.1 refl)))
same_truth false true d = never (λ e. false≢true (e.0 (d.0 refl)))
same_truth false false d = always (λ p. absurd (false≢true (d.1 p)), λ t. absurd (false≢true t))

pub class_fits_decided : (s : Slot) → Decides (class_fits s.class s.ty) (SlotClassFitsType s)
class_fits_decided s = same_truth (is_pointer_like s.ty) (has_class s.class) (has_class_decided s.class)

-- ---- rules 4, 5 and 11

agree_decided : (f : CodeFn) (p : Option (Member × Member)) → Decides (agree f p) (Agree f p)
agree_decided f None = always tt
agree_decided f (Some p) = same_class_decided (member_class f p.0) (member_class f p.1)

pub joins_decided : (f : CodeFn) (op : CodeOp) → Decides (joins_agree f (erased_op op)) (JoinsAgree f op)
joins_decided f (Do to action from removes) =
    unless (is_of_package action) (op_agrees f (erased_op (Do to action from removes)))
    (agree_decided f (joins (erased_fn f) (erased_op (Do to action from removes))))
joins_decided f (Call to n from passes protects removes) = always tt
joins_decided f (Go n from passes removes) = always tt
joins_decided f (Print pieces from removes) = always tt
joins_decided f (Jump target removes) = always tt
joins_decided f (Branch test target removes other otherwise) = always tt
joins_decided f (Return value) = always tt

pub globals_decided : (f : CodeFn) (op : CodeOp) → Decides (globals_agree f (erased_op op)) (GlobalsAgree f op)
globals_decided f (Do to action from removes) =
    only_if (is_of_package action) (op_agrees f (erased_op (Do to action from removes)))
    (agree_decided f (joins (erased_fn f) (erased_op (Do to action from removes))))
globals_decided f (Call to n from passes protects removes) = always tt
globals_decided f (Go n from passes removes) = always tt
globals_decided f (Print pieces from removes) = always tt
globals_decided f (Jump target removes) = always tt
globals_decided f (Branch test target removes other otherwise) = always tt
globals_decided f (Return value) = always tt

pub return_decided : (f : CodeFn) (op : CodeOp) → Decides (return_agrees f (erased_op op)) (ReturnsAgree f op)
return_decided f (Do to action from removes) = always tt
return_decided f (Call to n from passes protects removes) = always tt
return_decided f (Go n from passes removes) = always tt
return_decided f (Print pieces from removes) = always tt
return_decided f (Jump target removes) = always tt
return_decided f (Branch test target removes other otherwise) = always tt
return_decided f (Return value) = agree_decided f (joins (erased_fn f) (erased_op (Return value)))
