-- Filled code of typed code keeps all rules.
use Rattle.std.proofs.Common.{◌≡◌, ℕ, List, [], ◌∷◌, get_or, Some, None, slice_get, refl, sym, ap, ◌∙◌, subst, arith}
use Rattle.std.specs.Option.{option_map}
use Rattle.std.proofs.lemmas.Option.{slice_get_within}
use Rattle.rgo_typed.specs.declared.programs.Struct.{Struct}
use Rattle.rgo_typed.specs.declared.programs.Variable.{Variable}
use Rattle.rgo_tac.specs.Code.{Op, Instr, TacFn, Tac, Do, Call, Go, Print, Jump, Branch, Return}
use Rattle.rgo_classes.specs.declared.classes.Summary.{Summary}
use Rattle.rgo_classes.specs.Classes.{AreClasses}
use Rattle.rgo_summaries.specs.Calls.{CallParts, call_of_op}
use Rattle.rgo_summaries.specs.Families.{IsFamily}
use Rattle.rgo_summaries.proofs.Naming.{names_of}
use Rattle.rgo_summaries.proofs.Outer.{some_get}
use Rattle.rgo_summaries.proofs.Standing.{call_found}
use Rattle.rgo_code.specs.declared.code.Undeclared.{Undeclared}
use Rattle.rgo_code.specs.declared.notes.Note.{Note}
use Rattle.rgo_code.specs.declared.notes.Regions.{Regions}
use Rattle.rgo_code.specs.declared.rules.Line.TheVariants as line
use Rattle.rgo_code.specs.declared.rules.Rule.{Rule}
use Rattle.rgo_code.specs.declared.rules.Rule.TheVariants as rule
use Rattle.rgo_code.specs.Checked.{IsChecked, KeptAfterLast, KeptByEnd, KeptByEntry, KeptByHead, KeptByInstr, KeptBySlot, KeptByStruct, KeptByVariable}
use Rattle.rgo_code.specs.ClassRules.{CallsPass, CallPasses, OpAgrees, PassesClasses, StartsPass, StartPasses}
use Rattle.rgo_code.specs.Code.{Code, CodeFn, CodeInstr, Slot}
use Rattle.rgo_code.specs.Erasure.{erased, erased_fn, erased_op}
use Rattle.rgo_code.specs.NameRules.{Ascends, CreatesUsed, FnAscends, InstrAscends, ReturnsHoldNothing}
use Rattle.rgo_code.specs.TypedCode.{IsTypedCode, IsTypedFn, IsTypedInstr, StartFits}
use Rattle.rgo_code.specs.Types.{IsWellTypedOp}
use Rattle.rgo_code.specs.Exists.{HasMain, HeadExists, InstrExists, StructExists, TypeExists, VariableExists}
use Rattle.rgo_code.specs.Views.{code_body, code_fn, code_fns, code_instr, code_of, code_op, no_note, slot}
use Rattle.rgo_code.proofs.Erased.{erasure_is_code, fn_erased, op_erased}
use Rattle.rgo_insert.specs.Bare.{AreBare}
use Rattle.rgo_insert.specs.Filled.{AreFilled, IsRight, told}
use Rattle.rgo_insert.specs.Inserted.{HasClasses, classes_in}
use Rattle.rgo_insert.specs.Passing.{PassesFor, ArePassedTo}
use Rattle.rgo_insert.proofs.Alike.{AreLikeCallees}
use Rattle.rgo_insert.proofs.CallLaws.{CallFits, passes_right}
use Rattle.rgo_insert.proofs.ClassLaws.{globals_agree, joins_agree, op_agrees, result_fits, returns_agree, slot_fits}
use Rattle.rgo_insert.proofs.EndLaws.{ends, entry_known}
use Rattle.rgo_insert.proofs.Fitting.{call_fits, start_fits}
use Rattle.rgo_insert.proofs.Members.{has_classes}
use Rattle.rgo_insert.proofs.Parts.{IsPart, Part, is_part, like_callees, part, right_note}
use Rattle.rgo_insert.proofs.Removing.{ascends, creates_used, entry_lends_result, entry_removes_dead, lends_result, protects_used, removes_dead}
use Rattle.rgo_insert.proofs.Told.{instr_found, slot_found}

no_body : (is : List Instr) (notes : List Note) → code_body is notes ≡ [] → is ≡ []
no_body [] notes e = refl
no_body (i ∷ is) notes e = absurd cc

module _ (tac : Tac) (typed : IsTypedCode tac) (sums : List Summary) (family : IsFamily tac sums)
    (bare filled : List Regions) (are_bare : AreBare sums tac.functions bare)
    (are : AreFilled (code_fns tac.functions bare) tac.functions bare filled) (undeclared : Undeclared) where
  abbrev code : Code
  code = code_of tac undeclared filled

  abbrev bares : List CodeFn
  bares = code_fns tac.functions bare

  same_tac : erased code ≡ tac
  same_tac = erasure_is_code tac undeclared filled

  -- ---- one function

  module _ (n : ℕ) (f : TacFn) (f_here : slice_get tac.functions n ≡ Some f)
      (p : Part tac.functions sums bare filled are_bare are n f) where
    abbrev own : Regions
    own = told p.b p.r.entry p.r.notes

    abbrev function : CodeFn
    function = code_fn f own

    plain_fn : erased_fn function ≡ f
    plain_fn = fn_erased f own

    typed_fn : IsTypedFn tac n f
    typed_fn = typed.functions n f f_here

    kept_by_head : (which : Rule) → KeptByHead code which n function
    kept_by_head rule.Exists =
        subst (λ c. HeadExists c n (erased_fn function)) (sym same_tac)
        (subst (λ g. HeadExists tac n g) (sym plain_fn) typed_fn.head)
    kept_by_head rule.Classes = result_fits sums f own p.classes
    kept_by_head which = tt

    kept_by_slot : (which : Rule) (v : ℕ) (s : Slot) → slice_get function.variables v ≡ Some s → KeptBySlot code which s
    kept_by_slot rule.Exists v s e =
        subst (λ c. TypeExists c s.ty) (sym same_tac) (typed_fn.variables v s.ty (slot_found f own v s e).0)
    kept_by_slot rule.Classes v s e = slot_fits sums f own p.classes v s e
    kept_by_slot which v s e = tt

    kept_by_entry : (which : Rule) → KeptByEntry which function
    kept_by_entry rule.Entry = entry_known f own typed_fn.head.params typed_fn.writes_first
    kept_by_entry rule.Lending = entry_lends_result f p.b p.r.entry p.r.notes p.is.entry
    kept_by_entry rule.Removals = entry_removes_dead f p.b p.r.entry p.r.notes p.is.entry
    kept_by_entry which = tt

    kept_by_end : (which : Rule) → KeptByEnd which function
    kept_by_end rule.Exists = λ e. typed_fn.has_instr (no_body f.body p.r.notes e)
    kept_by_end which = tt

    -- ---- one instruction

    module _ (i : ℕ) (plain : Instr) (here : slice_get f.body i ≡ Some plain) where
      abbrev note : Note
      note = get_or p.r.notes i no_note

      abbrev instr : CodeInstr
      instr = code_instr plain note

      right : IsRight bares (code_fn f p.b) i plain.op note
      right = right_note bares f p.b p.r.notes i plain p.is.notes here

      typed_instr : IsTypedInstr tac f i plain.op
      typed_instr = typed_fn.instrs i plain here

      -- what is said of the three-address code
      viewed : (P : Tac → TacFn → Op → Type 0) → P tac f plain.op
          → P (erased code) (erased_fn function) (erased_op instr.op)
      viewed P h =
          subst (λ c. P c (erased_fn function) (erased_op instr.op)) (sym same_tac)
          (subst (λ g. P tac g (erased_op instr.op)) (sym plain_fn)
          (subst (λ o. P tac f o) (sym (op_erased plain.op note)) h))

      -- a call or a start passes what its callee asks for
      passes_by : (call : CallParts) (g : TacFn) → call_of_op plain.op ≡ Some call
          → (known : slice_get tac.functions call.function ≡ Some g) → CallFits f g call
          → ArePassedTo (code_fn f p.b) (slice_get bares call.function) call.to call.from note.passes
          → (q : Part tac.functions sums bare filled are_bare are call.function g)
          → PassesClasses function (code_fn g (told q.b q.r.entry q.r.notes)) call.to call.from note.passes
      passes_by call g calls known fits passed q =
          let s = some_get sums call.function
          (omega (arith, slice_get_within tac.functions call.function g known, family.len)) in
          let names = names_of sums g s.0 (family.own call.function g s.0 known s.1) in
          let found = call_found tac f i call g (record { instr = plain; here = here; calls = calls; known = known }) in
          passes_right tac sums f g own (told q.b q.r.entry q.r.notes) p.classes q.classes s.0 names i call found
          s.1 fits note.passes
          (subst (λ o. ArePassedTo (code_fn f p.b) o call.to call.from note.passes) q.bare_here passed)

      calls_pass : (op : Op) → plain.op ≡ op → CallsPass code function (code_op op note)
      calls_pass (Do to action from) e = tt
      calls_pass (Call to callee from) e =
          let exists = (subst (InstrExists tac f i) e typed_instr.exists).exists in
          let fit = subst (IsWellTypedOp tac f) e typed_instr.fits in
          let q = part tac.functions sums bare filled are_bare are callee exists.callee exists.declared in
          let params = (typed.functions callee exists.callee exists.declared).head.params in
          let fits = call_fits tac f exists.callee callee exists.declared params to from exists fit.0 fit.1 in
          subst (λ o. CallPasses function o to from note.passes) (sym q.here)
          (passes_by (record { to = to; function = callee; from = from }) exists.callee (ap call_of_op e)
          exists.declared fits
          (subst (λ o. PassesFor bares (code_fn f p.b) o note.passes) e right.passes) q)
      calls_pass (Go callee from) e = tt
      calls_pass (Print pieces from) e = tt
      calls_pass (Jump target) e = tt
      calls_pass (Branch test target other) e = tt
      calls_pass (Return value) e = tt

      starts_pass : (op : Op) → plain.op ≡ op → StartsPass code function (code_op op note)
      starts_pass (Do to action from) e = tt
      starts_pass (Call to callee from) e = tt
      starts_pass (Go callee from) e =
          let exists = (subst (InstrExists tac f i) e typed_instr.exists).exists in
          let fit = subst (IsWellTypedOp tac f) e typed_instr.fits in
          let start = subst (StartFits tac) e typed_instr.start in
          let q = part tac.functions sums bare filled are_bare are callee exists.callee exists.declared in
          let params = (typed.functions callee exists.callee exists.declared).head.params in
          let fits = start_fits tac f exists.callee callee exists.declared params from exists start fit in
          subst (λ o. StartPasses function o from note.passes) (sym q.here) (
            ap (option_map (λ ty. slot ty q.b.result)) (start exists.callee exists.declared),
            passes_by (record { to = None; function = callee; from = from }) exists.callee (ap call_of_op e)
                exists.declared fits
                (subst (λ o. PassesFor bares (code_fn f p.b) o note.passes) e right.passes) q,
          )
      starts_pass (Print pieces from) e = tt
      starts_pass (Jump target) e = tt
      starts_pass (Branch test target other) e = tt
      starts_pass (Return value) e = tt

      abbrev like : (m : ℕ) → AreLikeCallees (slice_get bares m) (slice_get code.functions m)
      like m = like_callees tac.functions sums bare filled are_bare are m

      used : CreatesUsed function i instr
      used = creates_used f p.b p.r.entry p.r.notes bares code like i plain here note right

      returns_hold_nothing : (op : Op) → plain.op ≡ op → ReturnsHoldNothing function i instr (code_op op note)
      returns_hold_nothing (Do to action from) e = tt
      returns_hold_nothing (Call to callee from) e = tt
      returns_hold_nothing (Go callee from) e = tt
      returns_hold_nothing (Print pieces from) e = tt
      returns_hold_nothing (Jump target) e = tt
      returns_hold_nothing (Branch test target other) e = tt
      returns_hold_nothing (Return value) e =
          ends sums f own p.classes i plain here value e
          (λ v is. subst (IsWellTypedOp tac f) (e ∙ ap Return is) typed_instr.fits) note used

      agrees : OpAgrees function instr.op
      agrees = op_agrees sums f own p.classes i plain note here

      kept_by_instr : (which : Rule) → KeptByInstr code which function i instr
      kept_by_instr rule.Exists = viewed (λ c g o. InstrExists c g i o) typed_instr.exists
      kept_by_instr rule.Types = viewed (λ c g o. IsWellTypedOp c g o) typed_instr.fits
      kept_by_instr rule.Classes = tt
      kept_by_instr rule.Joins = joins_agree function instr.op agrees
      kept_by_instr rule.Globals = globals_agree function instr.op agrees
      kept_by_instr rule.Calls = calls_pass plain.op refl
      kept_by_instr rule.Starts = starts_pass plain.op refl
      kept_by_instr rule.Entry = tt
      kept_by_instr rule.Creations = used
      kept_by_instr rule.Protections =
          protects_used f p.b p.r.entry p.r.notes bares code like i plain here note right
      kept_by_instr rule.Returns = returns_agree function instr.op agrees
      kept_by_instr rule.Lending = lends_result f p.b p.r.entry p.r.notes bares code like i plain here note right
      kept_by_instr rule.Removals = removes_dead f p.b p.r.entry p.r.notes bares code like i plain here note right
      kept_by_instr rule.Endings = returns_hold_nothing plain.op refl

      rises : InstrAscends i instr
      rises = ascends f p.b p.r.entry p.r.notes bares code like i plain here note right

  -- ---- all lines

  kept_by_struct : (which : Rule) (k : ℕ) (s : Struct) → slice_get tac.structs k ≡ Some s → KeptByStruct code which k s
  kept_by_struct rule.Exists k s e = subst (λ c. StructExists c k s) (sym same_tac) (typed.structs k s e)
  kept_by_struct which k s e = tt

  kept_by_variable : (which : Rule) (k : ℕ) (v : Variable) → slice_get tac.variables k ≡ Some v
      → KeptByVariable code which k v
  kept_by_variable rule.Exists k v e = subst (λ c. VariableExists c k v) (sym same_tac) (typed.variables k v e)
  kept_by_variable which k v e = tt

  kept_after_last : (which : Rule) → KeptAfterLast code which
  kept_after_last rule.Exists = subst HasMain (sym same_tac) typed.has_main
  kept_after_last which = tt

  its_part : (n : ℕ) (g : CodeFn) → slice_get code.functions n ≡ Some g
      → IsPart tac.functions sums bare filled are_bare are n g
  its_part n g e = is_part tac.functions sums bare filled are_bare are n g e

  pub is_checked : IsChecked code
  is_checked which (line.Struct k) = λ s e. kept_by_struct which k s e
  is_checked which (line.Variable k) = λ v e. kept_by_variable which k v e
  is_checked which (line.Function n) = λ g e.
      let q = its_part n g e in
      subst (λ h. KeptByHead code which n h) (sym q.is) (kept_by_head n q.f q.f_here q.part_is which)
  is_checked which (line.Slot n v) = λ g s e at.
      let q = its_part n g e in
      kept_by_slot n q.f q.f_here q.part_is which v s (subst (λ h. slice_get h.variables v ≡ Some s) q.is at)
  is_checked which (line.Entry n) = λ g e.
      let q = its_part n g e in
      subst (λ h. KeptByEntry which h) (sym q.is) (kept_by_entry n q.f q.f_here q.part_is which)
  is_checked which (line.Instr n i) = λ g instr e at.
      let q = its_part n g e in
      let r = told q.part_is.b q.part_is.r.entry q.part_is.r.notes in
      let found = instr_found q.f r i instr (subst (λ h. slice_get h.body i ≡ Some instr) q.is at) in
      subst (λ h. KeptByInstr code which h i instr) (sym q.is)
      (subst (λ x. KeptByInstr code which (code_fn q.f r) i x) (sym found.is)
      (kept_by_instr n q.f q.f_here q.part_is i found.plain found.here which))
  is_checked which (line.End n) = λ g e.
      let q = its_part n g e in
      subst (λ h. KeptByEnd which h) (sym q.is) (kept_by_end n q.f q.f_here q.part_is which)
  is_checked which line.AfterLast = kept_after_last which

  pub all_ascend : Ascends code
  all_ascend n g e =
      let q = its_part n g e in
      let r = told q.part_is.b q.part_is.r.entry q.part_is.r.notes in
      subst FnAscends (sym q.is) (record {
        entry = q.part_is.is.entry.ascends;
        body = λ i instr at.
            let found = instr_found q.f r i instr at in
            subst (InstrAscends i) (sym found.is) (rises n q.f q.f_here q.part_is i found.plain found.here);
      })

  pub have_classes : HasClasses sums code
  have_classes n g e =
      let q = its_part n g e in
      subst (λ h. AreClasses sums (erased_fn h) (classes_in h)) (sym q.is)
      (has_classes sums q.f (told q.part_is.b q.part_is.r.entry q.part_is.r.notes) q.part_is.classes)
