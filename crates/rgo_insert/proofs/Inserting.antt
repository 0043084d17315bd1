-- What `insert` returns keeps all rules, with the classes of the summaries.
use Rattle.std.proofs.Common.{◌≡◌, List, subst}
use Rattle.rgo_tac.specs.Code.{TacFn, Tac}
use Rattle.rgo_classes.specs.declared.classes.Summary.{Summary}
use Rattle.rgo_summaries.specs.Families.{IsFamily}
use Rattle.rgo_code.specs.declared.code.Undeclared.{Undeclared}
use Rattle.rgo_code.specs.declared.notes.Regions.{Regions}
use Rattle.rgo_code.specs.TypedCode.{IsTypedCode}
use Rattle.rgo_code.specs.Views.{code_fns, code_of}
use Rattle.rgo_code.proofs.Erased.{erasure_is_code}
use Rattle.rgo_insert.specs.Bare.{AreBare}
use Rattle.rgo_insert.specs.Filled.{AreFilled}
use Rattle.rgo_insert.specs.Inserted.{IsInserted}
use Rattle.rgo_insert.proofs.Whole.{all_ascend, have_classes, is_checked}

-- of the code's functions, and of their classes, read again
pub inserted : (tac : Tac) (fs : List TacFn) (sums : List Summary) (bare again filled : List Regions)
    (undeclared : Undeclared)
    → IsTypedCode tac → IsFamily tac sums → fs ≡ tac.functions → again ≡ bare → AreBare sums fs bare
    → AreFilled (code_fns fs again) fs again filled → IsInserted tac sums (code_of tac undeclared filled)
inserted tac fs sums bare again filled undeclared typed family are_fs is_again are_bare are =
    let b = subst (λ l. AreBare sums l bare) are_fs are_bare in
    let a = subst (λ l. AreFilled (code_fns l bare) l bare filled) are_fs
    (subst (λ l. AreFilled (code_fns fs l) fs l filled) is_again are) in
    record {
      erasure = erasure_is_code tac undeclared filled;
      classes = have_classes tac typed sums family bare filled b a undeclared;
      checked = is_checked tac typed sums family bare filled b a undeclared;
      ascends = all_ascend tac typed sums family bare filled b a undeclared;
    }
