-- The code of a program without names: `endless` is compiled to its three-address code alone. With no pointer there is no class, so
-- every rule on names holds because it has nothing to say.
use Rattle.std.proofs.Common.{◌≡◌, ◌↔◌, ◌⊎◌, inl, inr, ℕ, zero, suc, List, [], ◌∷◌, ◌++◌, Some, None, refl, sym, subst}
use Rattle.std.proofs.Common.{arith, true≢false, slice_get, Contains}
use Rattle.std.specs.List.Sorted.{IsStrictlyIncreasing}
use Rattle.std.proofs.lemmas.Bool.{leb-true, ltb-true}
use Rattle.std.proofs.lemmas.Option.{same_Some}
use Rattle.rgo_typed.specs.declared.types.Type.{«Type»}
use Rattle.rgo_tac.specs.declared.regions.Class.TheVariants as class
use Rattle.rgo_tac.specs.declared.regions.Member.TheVariants.{Result, Global}
use Rattle.rgo_tac.specs.Code as tac
use Rattle.rgo_classes.specs.Classes.{Describes, InOneClass, all_members, outer_members}
use Rattle.rgo_classes.specs.Joins.{IsPointerLike}
use Rattle.rgo_classes.specs.declared.classes.Summary.{Summary}
use Rattle.rgo_summaries.specs.Families.{IsFamily, IsLeastFamily, JoinsNoMore, outer_classes}
use Rattle.rgo_code.specs.Checked.{KeptAt, KeptAfterLast, KeptByEnd, KeptByEntry, KeptByHead, KeptByInstr}
use Rattle.rgo_code.specs.Code.{CodeFn, CodeInstr}
use Rattle.rgo_code.specs.Erasure.{erased, erased_fn}
use Rattle.rgo_code.specs.NameRules.{Ascends, FnAscends, InstrAscends, LendsResult}
use Rattle.rgo_code.specs.Names.{Holds, UsesRegionName}
use Rattle.rgo_code.specs.declared.rules.Line.{Line}
use Rattle.rgo_code.specs.declared.rules.Line.TheVariants as line
use Rattle.rgo_code.specs.declared.rules.Rule.{Rule}
use Rattle.rgo_code.specs.declared.rules.Rule.TheVariants as rule
use Rattle.rgo_insert.specs.Inserted.{HasClasses, classes_in}
use Rattle.rgo_run.specs.Compiled.{IsCompiledFrom}
use Rattle.rgo_claim_examples.specs.CompiledCode.{endless_made, endless_main}
use Rattle.rgo_claim_examples.specs.Programs.{endless}
use Rattle.rgo_claim_examples.proofs.Checked.{AllAt, all_at, no_name, nothing, one_edge, used_below}
use Rattle.rgo_claim_examples.proofs.Lowered.{endless_lowered}

-- ---- no name

held : (k i : ℕ) → Holds endless_main k i → ⊥
held k i h = no_name k h.1.named

named : (op : _) (k : ℕ) → UsesRegionName endless_main op k → ⊥
named op k n = no_name k n.named

not_left : (k i : ℕ) → Holds endless_main k i ⊎ Contains [] k → ⊥
not_left k i (inl h) = held k i h
not_left k i (inr c) = nothing k c

lends : {i : ℕ} (instr : CodeInstr) → LendsResult endless_main i instr
lends instr = record { creates = λ k e c. no_name k e; removes = λ k j removes e c d. no_name k e }

not_last : ◌≡◌ {A = ℕ} 1 2 → ⊥
not_last e = omega (arith, e)

abbrev Dies : (removes : List ℕ) → (j : ℕ) → Type 0
Dies removes j =
    (k : ℕ) → Contains removes k
    ↔ (((Holds endless_main k 0 ⊎ Contains [] k) × (⊥ → ⊥)) × (Holds endless_main k j → ⊥))

none_dies : Dies [] 0
none_dies k = (λ c. absurd (nothing k c), λ m. absurd (not_left k 0 m.0.0))

-- ---- the rules

exist : AllAt (KeptByInstr endless_made rule.Exists endless_main) endless_main.body
exist = (
  record {
    variables = λ v uses. used_below 0 (tac.Jump 0) v refl uses;
    exists = ltb-true 0 2 refl;
    last = λ e. absurd (not_last e);
  },
  (record { variables = λ v uses. used_below 0 (tac.Return None) v refl uses; exists = tt; last = λ e. refl }, tt),
)

instrs : (r : Rule) → AllAt (KeptByInstr endless_made r endless_main) endless_main.body
instrs rule.Exists = exist
instrs rule.Types = (tt, (refl, tt))
instrs rule.Classes = (tt, (tt, tt))
instrs rule.Joins = (tt, (tt, tt))
instrs rule.Globals = (tt, (tt, tt))
instrs rule.Calls = (tt, (tt, tt))
instrs rule.Starts = (tt, (tt, tt))
instrs rule.Entry = (tt, (tt, tt))
instrs rule.Creations = (λ k. (λ c. absurd (nothing k c), λ all. absurd (named _ k all.1)), (λ k. (λ c. absurd (nothing k c), λ all. absurd (named _ k all.1)), tt))
instrs rule.Protections = (tt, (tt, tt))
instrs rule.Returns = (tt, (tt, tt))
instrs rule.Lending = (lends _, (lends _, tt))
instrs rule.Removals =
    (one_edge (0, []) (λ j removes. Dies removes j) none_dies, (λ j removes c. absurd (nothing (j, removes) c), tt))
instrs rule.Endings = (tt, (record { creates = refl; holds = λ k h. held k 1 h }, tt))

head_exists : KeptByHead endless_made rule.Exists 0 endless_main
head_exists = record {
  is_new = λ m name less at same. omega (arith, less);
  params = leb-true 0 0 refl;
  result = λ ty e. absurd (no_result ty e);
}
  where
    no_result : (ty : «Type») → None ≡ Some ty → ⊥
    no_result ty e = cc

head_kept : (r : Rule) → KeptByHead endless_made r 0 endless_main
head_kept rule.Exists = head_exists
head_kept rule.Types = tt
head_kept rule.Classes = tt
head_kept rule.Joins = tt
head_kept rule.Globals = tt
head_kept rule.Calls = tt
head_kept rule.Starts = tt
head_kept rule.Entry = tt
head_kept rule.Creations = tt
head_kept rule.Protections = tt
head_kept rule.Returns = tt
head_kept rule.Lending = tt
head_kept rule.Removals = tt
head_kept rule.Endings = tt

entry_kept : (r : Rule) → KeptByEntry r endless_main
entry_kept rule.Exists = tt
entry_kept rule.Types = tt
entry_kept rule.Classes = tt
entry_kept rule.Joins = tt
entry_kept rule.Globals = tt
entry_kept rule.Calls = tt
entry_kept rule.Starts = tt
entry_kept rule.Entry = λ k h. absurd (held k 0 h)
entry_kept rule.Creations = tt
entry_kept rule.Protections = tt
entry_kept rule.Returns = tt
entry_kept rule.Lending = λ k e c. no_name k e
entry_kept rule.Removals = λ k. (λ c. absurd (nothing k c), λ m. absurd (nothing (class.Name k) m.1))
entry_kept rule.Endings = tt

has_body : endless_main.body ≡ [] → ⊥
has_body e = cc

end_kept : (r : Rule) → KeptByEnd r endless_main
end_kept rule.Exists = has_body
end_kept rule.Types = tt
end_kept rule.Classes = tt
end_kept rule.Joins = tt
end_kept rule.Globals = tt
end_kept rule.Calls = tt
end_kept rule.Starts = tt
end_kept rule.Entry = tt
end_kept rule.Creations = tt
end_kept rule.Protections = tt
end_kept rule.Returns = tt
end_kept rule.Lending = tt
end_kept rule.Removals = tt
end_kept rule.Endings = tt

last_kept : (r : Rule) → KeptAfterLast endless_made r
last_kept rule.Exists = record { number = 0; main = _; declared = refl; named = refl; no_params = refl; no_result = refl }
last_kept rule.Types = tt
last_kept rule.Classes = tt
last_kept rule.Joins = tt
last_kept rule.Globals = tt
last_kept rule.Calls = tt
last_kept rule.Starts = tt
last_kept rule.Entry = tt
last_kept rule.Creations = tt
last_kept rule.Protections = tt
last_kept rule.Returns = tt
last_kept rule.Lending = tt
last_kept rule.Removals = tt
last_kept rule.Endings = tt

of_main : (P : ℕ → CodeFn → Type 0) → P 0 endless_main → (n : ℕ) (f : CodeFn)
    → slice_get endless_made.functions n ≡ Some f → P n f
of_main P p n f there = all_at P endless_made.functions n f (p, tt) there

none_there : {X : Type 0} (n : ℕ) (x : X) → slice_get [] n ≡ Some x → ⊥
none_there n x e = cc

kept : (r : Rule) (l : Line) → KeptAt endless_made r l
kept r (line.Struct n) = λ s at. absurd (none_there n s at)
kept r (line.Variable n) = λ v at. absurd (none_there n v at)
kept r (line.Function n) = λ f there. of_main (KeptByHead endless_made r) (head_kept r) n f there
kept r (line.Slot n v) =
    λ f s there at.
    absurd (of_main (λ n g. slice_get g.variables v ≡ Some s → ⊥) (none_there v s) n f there at)
kept r (line.Entry n) = λ f there. of_main (λ n g. KeptByEntry r g) (entry_kept r) n f there
kept r (line.Instr n i) =
    λ f instr there at.
    of_main (λ n g. slice_get g.body i ≡ Some instr → KeptByInstr endless_made r g i instr)
    (all_at (KeptByInstr endless_made r endless_main) endless_main.body i instr (instrs r)) n f there at
kept r (line.End n) = λ f there. of_main (λ n g. KeptByEnd r g) (end_kept r) n f there
kept r line.AfterLast = last_kept r

-- ---- lists ascend

none : IsStrictlyIncreasing []
none k less = absurd (omega (arith, less))

main_ascends : FnAscends endless_main
main_ascends = record {
  entry = none;
  body =
      λ i instr at. all_at InstrAscends endless_main.body i instr (
        record {
          creates = none;
          protects = none;
          removes = λ j rs c. one_edge (0, []) (λ j rs. IsStrictlyIncreasing rs) none j rs c;
        },
        (record { creates = none; protects = none; removes = λ j rs c. absurd (nothing (j, rs) c) }, tt),
      ) at;
}

ascends : Ascends endless_made
ascends n f there = of_main (λ n g. FnAscends g) main_ascends n f there

-- ---- classes: the only member is the result, which has none

abbrev own : Summary
own = record { params = []; result = class.NoClass }

none_global : class.NoClass ≡ class.Global → ⊥
none_global e = cc

only : {X : Type 0} (x y : X) (i : ℕ) → slice_get (x ∷ []) i ≡ Some y → x ≡ y
only x y zero e = same_Some x y e
only x y (suc i) e = absurd cc

described : (summaries : List Summary) → Describes summaries (erased_fn endless_main) (Result ∷ []) (class.NoClass ∷ [])
described summaries = record {
  len = refl;
  none =
      λ i m at. all_at
      (λ i m. (slice_get (class.NoClass ∷ []) i ≡ Some class.NoClass) ↔ (IsPointerLike (erased_fn endless_main) m → ⊥))
      (Result ∷ []) i m ((λ e p. true≢false (sym p), λ n. refl), tt) at;
  global =
      λ i m at. all_at
      (λ i m. (slice_get (class.NoClass ∷ []) i ≡ Some class.Global)
      ↔ (IsPointerLike (erased_fn endless_main) m × InOneClass summaries (erased_fn endless_main) m Global))
      (Result ∷ []) i m
      ((λ e. absurd (none_global (same_Some class.NoClass class.Global e)), λ p. absurd (true≢false (sym p.0))), tt) at;
  same =
      λ i j m n at_m at_n p q.
      absurd (true≢false (sym (subst (IsPointerLike (erased_fn endless_main)) (sym (only Result m i at_m)) p)));
  numbered = λ i k j e less. absurd (no_name k (only class.NoClass (class.Name k) i e));
}

closed : IsFamily (erased endless_made) (own ∷ [])
closed = record {
  len = refl;
  own =
      λ n g s there at.
      subst (λ t. Describes (own ∷ []) g (outer_members g) (outer_classes t)) (only own s n at)
      (subst (λ h. Describes (own ∷ []) h (outer_members h) (outer_classes own))
      (only (erased_fn endless_main) g n there) (described (own ∷ [])));
}

joins_no_more : (t : Summary) → JoinsNoMore own t
joins_no_more t = record {
  global = λ i e. absurd (none_global (only class.NoClass class.Global i e));
  same = λ i j c some at_i at_j. absurd (some (sym (only class.NoClass c i at_i)));
}

least : IsLeastFamily (erased endless_made) (own ∷ [])
least = record {
  closed = closed;
  least = λ other is n s t at_s at_t. subst (λ u. JoinsNoMore u t) (only own s n at_s) (joins_no_more t);
}

has_classes : HasClasses (own ∷ []) endless_made
has_classes n g there =
    subst (λ h. Describes (own ∷ []) (erased_fn h) (all_members (erased_fn h))
    ((classes_in h).variables ++ (classes_in h).result ∷ [])) (only endless_main g n there) (described (own ∷ []))

pub endless_compiled : IsCompiledFrom endless endless_made
endless_compiled = record {
  lowered = endless_lowered;
  family = own ∷ [];
  least = least;
  classes = has_classes;
  declared = refl;
  checked = kept;
  ascends = ascends;
}
