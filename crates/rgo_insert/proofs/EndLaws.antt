-- Typed code keeps the rules on entries and on returns.
use Rattle.std.proofs.Common.{◌≡◌, ⊎_elim, ◌<◌, ◌≤◌, ℕ, zero, suc, List, [], ◌∷◌, length, Option, Some, None, slice_get, refl, sym, ap, ◌∙◌, subst}
use Rattle.std.specs.Prelude.{option_to_list}
use Rattle.std.specs.List.{Contains}
use Rattle.std.proofs.lemmas.Option.{none-some}
use Rattle.std.proofs.lemmas.List.Elements.{Contains-append_left}
use Rattle.rgo_graphs.proofs.Lists.{member_one, no_member, one_member}
use Rattle.rgo_typed.specs.declared.types.Type.{«Type»}
use Rattle.rgo_tac.specs.declared.regions.Class.TheVariants as class
use Rattle.rgo_tac.specs.declared.regions.Member.TheVariants.{Variable, Result}
use Rattle.rgo_tac.specs.Code.{Instr, TacFn, Return}
use Rattle.rgo_tac.specs.Flow.{leads_to, reads}
use Rattle.rgo_tac.specs.Joins.{is_pointer_like_type, joins}
use Rattle.rgo_classes.specs.declared.classes.Summary.{Summary}
use Rattle.rgo_classes.specs.Classes.{AreClasses}
use Rattle.rgo_classes.specs.Joins.{IsPointerLike, Joins}
use Rattle.rgo_classes.proofs.Chains.{contains}
use Rattle.rgo_summaries.proofs.Standing.{joined_own, joined_pointer_like}
use Rattle.rgo_flow.specs.Live.{IsReadAfter, Live, led_to_by, read_by}
use Rattle.rgo_code.specs.declared.notes.Note.{Note}
use Rattle.rgo_code.specs.declared.notes.Regions.{Regions}
use Rattle.rgo_code.specs.ClassRules.{EntryIsKnown}
use Rattle.rgo_code.specs.Code.{CodeFn}
use Rattle.rgo_code.specs.Exists.{UsesVariable}
use Rattle.rgo_code.specs.Names.{class_of, parameter_classes, result_class, Holds}
use Rattle.rgo_code.specs.NameRules.{CreatesUsed, HoldsNothing}
use Rattle.rgo_code.specs.Types.{VariableHasType}
use Rattle.rgo_code.specs.Views.{code_fn, code_instr, slots}
use Rattle.rgo_code.proofs.Erased.{fn_erased, op_erased}
use Rattle.rgo_region_sets.proofs.Merges.{found}
use Rattle.rgo_insert.specs.Bare.{classes_by}
use Rattle.rgo_insert.proofs.Formals.{parameter_at, slots_long}
use Rattle.rgo_insert.proofs.Members.{agree, like_of_class, placed_of_class}

nothing_in : (names : List ℕ) → ((k : ℕ) → Contains names k → ⊥) → names ≡ []
nothing_in [] none = refl
nothing_in (k ∷ names) none = absurd (none k (Contains-append_left (k ∷ []) names k (one_member k)))

-- ---- at the entry

pub entry_known : (f : TacFn) (r : Regions) → f.params ≤ length f.variables
    → ((v : ℕ) → Live f v 0 → v < f.params) → EntryIsKnown (code_fn f r)
entry_known f r params first k h =
    let v = h.1.variable in
    let less = first v (subst (λ g. Live g v 0) (fn_erased f r) h.1.live) in
    found (parameter_classes f.params (slots f.variables r.classes)) v (class.Name k)
    (parameter_at f.params (slots f.variables r.classes) v less
    (subst (λ n. f.params ≤ n) (sym (slots_long f.variables r.classes)) params) ∙ ap Some h.1.named)

-- ---- at returns

module _ (sums : List Summary) (f : TacFn) (r : Regions) (are : AreClasses sums f (classes_by r))
    (i : ℕ) (plain : Instr) (here : slice_get f.body i ≡ Some plain) (value : Option ℕ)
    (returns : plain.op ≡ Return value)
    (typed : (v : ℕ) → value ≡ Some v → (t : «Type») × (f.result_type ≡ Some t) × VariableHasType f v t) where
  abbrev own : CodeFn
  own = code_fn f r

  -- what is returned has the class of the result
  returned : (v k : ℕ) → value ≡ Some v → class_of own v ≡ class.Name k → result_class own ≡ class.Name k
  returned v k is named =
      let p = placed_of_class sums f r are (Variable v) (λ e. cc) (λ e. some (sym named ∙ e)) in
      let like = like_of_class sums f r are (Variable v) p (λ e. some (sym named ∙ e)) in
      let t = typed v is in
      let result_like : IsPointerLike f Result = ap is_pointer_like_type (t.1 ∙ sym t.2) ∙ like in
      let op : plain.op ≡ Return (Some v) = returns ∙ ap Return is in
      sym (agree sums f r are (Variable v) Result like result_like
      (contains (Joins sums f) (Variable v) Result
      (joined_own sums f i plain (Variable v) Result here
      (ap (λ o. joins f o) op
      ∙ joined_pointer_like f (Return (Some v)) (Variable v) Result refl like result_like)))) ∙ named
    where
      some : {k : ℕ} → class.Name k ≡ class.NoClass → ⊥
      some e = cc

  value_read : (o : Option ℕ) (v : ℕ) → Contains (option_to_list o) v → o ≡ Some v
  value_read None v c = absurd (no_member v c)
  value_read (Some w) v c = ap Some (sym (member_one w v c))

  read_here : (v : ℕ) → Contains (read_by (slice_get f.body i)) v → value ≡ Some v
  read_here v c =
      value_read value v
      (subst (λ o. Contains (reads o) v) returns (subst (λ o. Contains (read_by o) v) here c))

  live_here : (steps v : ℕ) → IsReadAfter f steps v i → value ≡ Some v
  live_here zero v c = read_here v c
  live_here (suc n) v c =
      absurd (no_member c.1
      (subst (λ o. Contains (leads_to o i) c.1) returns (subst (λ o. Contains (led_to_by i o) c.1) here c.2)))

  holds_nothing : (k : ℕ) → Holds own k i → ⊥
  holds_nothing k h =
      let v = h.1.variable in
      let live = subst (λ g. Live g v i) (fn_erased f r) h.1.live in
      h.0 (returned v k (live_here live.0 v live.1) h.1.named)

  uses_value : (v : ℕ) → UsesVariable plain.op v → value ≡ Some v
  uses_value v u = by (subst (λ o. UsesVariable o v) returns u)
    where
      by : UsesVariable (Return value) v → value ≡ Some v
      by u = ⊎_elim (λ c. value_read value v c) (λ e. absurd (none-some v e)) u

  pub ends : (m : Note) → CreatesUsed own i (code_instr plain m) → HoldsNothing own i (code_instr plain m)
  ends m used = record {
    creates = nothing_in m.creates (λ k c.
        let p = (used k).0 c in
        p.0 (returned p.1.variable k
        (uses_value p.1.variable (subst (λ o. UsesVariable o p.1.variable) (op_erased plain.op m) p.1.used)) p.1.named));
    holds = holds_nothing;
  }
