-- What a goroutine has of the regions once it has entered a function, by what the code computed.
use Rattle.std.proofs.Common.{◌≡◌, ℕ, Global, List, map, Option, Some, None, Vec, refl, sym, ap, ◌∙◌, subst}
use Rattle.std.proofs.Common.{slice_get, slice_set}
use Rattle.std.specs.List.Sorted.{IsStrictlyIncreasing}
use Rattle.std.specs.Option.{option_map}
use Rattle.std.proofs.lemmas.Option.{slice_get-map}
use Rattle.rgo_tac.specs.declared.regions.Class.{Class}
use Rattle.rgo_code.specs.Code.{Branch, Call, CodeFn, CodeInstr, CodeOp, Do, Go, Jump, Print, Return}
use Rattle.rgo_code.specs.Lists.{passes_in, protects_in, protects_of}
use Rattle.rgo_code.specs.NameRules.{protected_names}
use Rattle.rgo_code.specs.Names.{region_parameters}
use Rattle.rgo_region_machine.specs.Owed.{formals_of, code_function, given_names, passed, passed_regions, function_result_class}
use Rattle.rgo_region_machine.specs.Regions.{Bindings}
use Rattle.rgo_region_interpreter.specs.declared.holders.Holder.{Holder}
use Rattle.rgo_region_interpreter.specs.declared.worlds.Next.{Next}
use Rattle.rgo_region_interpreter.specs.declared.worlds.World.{World}
use Rattle.rgo_region_interpreter.specs.Calls.{HolderCalled, EntersCall, NamesStandFor, UnbindsAll, or_no_elements}
use Rattle.rgo_region_interpreter.specs.Holders.{HolderEnters, FrameNames, frame_names_of, newest_frame_names}
use Rattle.rgo_region_interpreter.specs.Works.{IsNextOfSome}
use Rattle.rgo_region_interpreter.specs.Worlds.{Prepared}
use Rattle.rgo_region_interpreter.proofs.holding.OneHolder.{the_same}

-- ---- what is known of the code

-- the region parameters of a function
pub formals_found : (w : World) (all : List (Vec Class Global)) (n : ℕ) → all ≡ w.formals.items → Prepared w
    → or_no_elements (slice_get (map (λ v. v.items) all) n) ≡ formals_of (code_function w.code.now n)
formals_found w all n is prepared =
    ap (λ l. or_no_elements (slice_get (map (λ v. v.items) l) n)) is
    ∙ ap (λ l. or_no_elements (slice_get l n)) prepared.formals
    ∙ ap or_no_elements (slice_get-map region_parameters w.code.now.functions n)
    ∙ go (slice_get w.code.now.functions n)
  where
    go : (o : Option CodeFn) → or_no_elements (option_map region_parameters o) ≡ formals_of o
    go None = refl
    go (Some f) = refl

protected_same : (op : CodeOp) → protected_names op ≡ protects_of op
protected_same (Do to action from removes) = refl
protected_same (Call to n from passes protects removes) = refl
protected_same (Go n from passes removes) = refl
protected_same (Print pieces from removes) = refl
protected_same (Jump target removes) = refl
protected_same (Branch test target removes other otherwise) = refl
protected_same (Return value) = refl

-- what an instruction protects ascends
pub protects_rise : (w : World) (next : Next) → Prepared w → IsNextOfSome w.code.now next
    → IsStrictlyIncreasing (protects_in (slice_get next.function.body next.at))
protects_rise w next prepared some =
    let is = some.1 in
    let f = prepared.ascends some.0.function next.function is.function in
    subst (λ o. IsStrictlyIncreasing (protects_in o)) (sym is.is_instr)
    (subst IsStrictlyIncreasing (protected_same is.instr.op) (f.body next.at is.instr is.is_instr).protects)

-- ---- what is passed

-- names denote the regions that are passed, by the lists that the code has
pub passed_stand : (c : Holder) (read names : FrameNames) (formals parameters passes classes : List Class)
    → formals ≡ parameters → passes ≡ classes → read ≡ newest_frame_names (frame_names_of c)
    → ((bindings : Bindings) → NamesStandFor read bindings
    → NamesStandFor names (passed formals (passed_regions bindings passes)))
    → (bindings : Bindings) → NamesStandFor (newest_frame_names (frame_names_of c)) bindings
    → NamesStandFor names (passed parameters (passed_regions bindings classes))
passed_stand c read names formals parameters passes classes formals_are passes_are is stand bindings by =
    subst (NamesStandFor names) (λ i. passed (formals_are i) (passed_regions bindings (passes_are i)))
    (stand bindings (subst (λ l. NamesStandFor l bindings) (sym is) by))

-- ---- the call

module _ (c caller d : Holder) (function : Option CodeFn) (instr : Option CodeInstr) (read names : FrameNames) (lent : Class)
    (formals passes : List Class) (protects : List ℕ) (formals_are : formals ≡ formals_of function) (lent_is : lent ≡ function_result_class function)
    (passes_are : passes ≡ passes_in instr) (protects_are : protects ≡ protects_in instr)
    (read_is : read ≡ newest_frame_names (frame_names_of c)) where
  pub called_so : UnbindsAll c caller (given_names lent formals passes protects) → HolderEnters caller d names
      → ((bindings : Bindings) → NamesStandFor read bindings
      → NamesStandFor names (passed formals (passed_regions bindings passes)))
      → HolderCalled c d function (passes_in instr) (protects_in instr)
  called_so leaves enters stand = record {
    caller = caller;
    leaves = subst (UnbindsAll c caller)
        (λ i. given_names (lent_is i) (formals_are i) (passes_are i) (protects_are i)) leaves;
    names = names;
    enters = enters;
    stand = passed_stand c read names formals (formals_of function) passes (passes_in instr) formals_are passes_are
        read_is stand;
  }

pub entered_at : (w v : World) (g : ℕ) (function : Option CodeFn) (instr : Option CodeInstr) (c d : Holder)
    → slice_get w.holders.items g ≡ Some c → v ≡ record w { holders = v.holders }
    → v.holders.items ≡ slice_set w.holders.items g d → HolderCalled c d function (passes_in instr) (protects_in instr)
    → EntersCall w v g function instr
entered_at w v g function instr c d there same holders called = record {
  same = same;
  called = λ x at. (
    d,
    holders,
    subst (λ z. HolderCalled z d function (passes_in instr) (protects_in instr)) (the_same c x (sym there ∙ at)) called,
  );
}
