-- The lists that the rules on creations, protections and removals ask for decide these rules: ascending lists are equal exactly if they
-- have the same members (`set_decided`).
use Rattle.std.proofs.Common.{◌≡◌, ◌↔◌, ℕ, zero, suc, ◌+◌, ◌<◌, ◌≤◌, Bool, true, false, ◌&&◌, ◌||◌, List, [], ◌∷◌, ◌++◌, length, Option, Some, None, slice_get, bytes_eq, nat_eq, refl, sym, ap, ◌∙◌, subst, arith, ◌⊎◌, inl, inr, Contains}
use Rattle.std.proofs.lemmas.Bool.{false≢true}
use Rattle.std.proofs.lemmas.Bool.Decides.{Decides-and, Decides-like}
use Rattle.std.proofs.lemmas.List.Elements.{Contains-append_left, Contains-push, Contains-push_cases}
use Rattle.std.proofs.lemmas.Option.{slice_get-map}
use Rattle.std.proofs.lemmas.Slice.Eq.{bytes_eq-Decides}
use Rattle.std.specs.Bool.{Decides}
use Rattle.std.specs.HashSet.{HashSet, contains}
use Rattle.std.specs.List.{list_all, list_any}
use Rattle.std.specs.List.Sorted.{IsStrictlyIncreasing}
use Rattle.std.specs.Option.{option_map}
use Rattle.rgo_tac.specs.declared.regions.Class.{Class}
use Rattle.rgo_tac.specs.declared.regions.Class.TheVariants.{NoClass, Global, Name}
use Rattle.rgo_tac.specs.Code.{Op}
use Rattle.rgo_tac.specs.Flow.{leads_to}
use Rattle.rgo_tac.specs.Ops.{op_in}
use Rattle.rgo_flow.specs.Live.{led_to_by}
use Rattle.rgo_code.specs.declared.rules.Rule.TheVariants as rule
use Rattle.rgo_code.specs.Code.{Slot, CodeOp, CodeInstr, CodeFn, Code, Do, Call, Go, Print, Jump, Branch, Return}
use Rattle.rgo_code.specs.Erasure.{erased_op, erased_instr, erased_fn}
use Rattle.rgo_code.specs.Lists.{creates_in, passes_in, protects_in, removes_in, otherwise_in, passes_of, protects_of, removes_of, otherwise_of}
use Rattle.rgo_code.specs.Names.{slot_class, parameter_classes, IsParameterName, IsOwn, Holds, LeavesToCallee, edges}
use Rattle.rgo_code.specs.NameRules.{ProtectsUsed, MayRemove, RemovesDead, FnAscends, InstrAscends, protected_names}
use Rattle.rgo_region_sets.specs.Asked.{Creates, Protects, Removes, AreRemoved, EntryRemoves, way}
use Rattle.rgo_region_sets.specs.Sets.{IsSet}
use Rattle.rgo_region_sets.specs.Used.{UsesName}
use Rattle.rgo_region_sets.proofs.SameLists.{same_list}
use Rattle.rgo_checker.specs.Instrs.{InstrKept, EntryKept}
use Rattle.rgo_checker.specs.Regions.{has_name, is_call, GivenBy}
use Rattle.rgo_checker.proofs.Deciding.{never, kept_at, decides_same}
use Rattle.rgo_checker.proofs.decides.LendingLaws.{from_ways}
use Rattle.rgo_checker.proofs.Listing.{contains_none, contains_here, contains_there, contains_cases, all_decided}

pub set_decided : (names wanted : List ℕ) (Has : ℕ → Type 0) (b : Bool) → IsStrictlyIncreasing names → IsSet wanted Has
    → b ≡ bytes_eq names wanted → Decides b ((k : ℕ) → Contains names k ↔ Has k)
set_decided names wanted Has b up set e =
    let d = bytes_eq-Decides names wanted in (
      λ t k. subst (λ ns. Contains ns k ↔ Has k) (sym (d.0 (sym e ∙ t))) (set.members k),
      λ h. e ∙ d.1 (same_list names wanted up set.ascends
          (λ k. (λ c. (set.members k).1 ((h k).0 c), λ c. (h k).1 ((set.members k).0 c)))),
    )

pub nothing_rises : IsStrictlyIncreasing []
nothing_rises = λ k h. absurd (omega (arith, h))

pub empty_set : (names : List ℕ) (Has : ℕ → Type 0) → names ≡ [] → ((k : ℕ) → Has k → ⊥) → IsSet names Has
empty_set names Has e none =
    subst (λ ns. IsSet ns Has) (sym e)
    (record { ascends = nothing_rises; members = λ k. (λ c. absurd (contains_none k c), λ h. absurd (none k h)) })

-- ---- what an instruction lists ascends

pub protects_rise : (f : CodeFn) (i : ℕ) → FnAscends f → IsStrictlyIncreasing (protects_in (slice_get f.body i))
protects_rise f i up = by (slice_get f.body i) refl
  where
    of : (op : CodeOp) → IsStrictlyIncreasing (protected_names op) → IsStrictlyIncreasing (protects_of op)
    of (Do to action from removes) h = h
    of (Call to n from passes protects removes) h = h
    of (Go n from passes removes) h = h
    of (Print pieces from removes) h = h
    of (Jump target removes) h = h
    of (Branch test target removes other otherwise) h = h
    of (Return value) h = h

    by : (o : Option CodeInstr) → slice_get f.body i ≡ o → IsStrictlyIncreasing (protects_in o)
    by None e = nothing_rises
    by (Some instr) e = of instr.op (up.body i instr e).protects

module _ (code : Code) (f : CodeFn) (i : ℕ) (o : Op) (b : Bool)
    (here : op_in (slice_get (erased_fn f).body i) ≡ Some o) (up : FnAscends f) where
  -- ---- rule 9

  pub creates_kept : (names wanted : List ℕ) → names ≡ creates_in (slice_get f.body i) → IsSet wanted (Creates f i)
      → b ≡ bytes_eq names wanted → Decides b (InstrKept code f i rule.Creations)
  creates_kept names wanted n set e = kept_at code f i rule.Creations o b here (λ instr there q.
      subst (λ x. Decides b
      ((k : ℕ) → Contains instr.creates k ↔ (IsOwn f k × UsesName f x k × (Holds f k i → ⊥)))) there
      (set_decided instr.creates wanted (Creates f i) b (up.body i instr there).creates set
      (e ∙ ap (λ ns. bytes_eq ns wanted) (n ∙ ap creates_in there))))

  -- ---- rule 10

  protects_by : (op : CodeOp) (names wanted : List ℕ) → is_call (erased_op op) ≡ true → names ≡ protects_of op
      → IsStrictlyIncreasing (protected_names op) → IsSet wanted (Protects f i (passes_of op))
      → b ≡ bytes_eq names wanted → Decides b (ProtectsUsed f i op)
  protects_by (Call to n from passes protects removes) names wanted c en rises set e =
      set_decided protects wanted (Protects f i passes) b rises set (e ∙ ap (λ ns. bytes_eq ns wanted) en)
  protects_by (Do to action from removes) names wanted c en rises set e = absurd (false≢true c)
  protects_by (Go n from passes removes) names wanted c en rises set e = absurd (false≢true c)
  protects_by (Print pieces from removes) names wanted c en rises set e = absurd (false≢true c)
  protects_by (Jump target removes) names wanted c en rises set e = absurd (false≢true c)
  protects_by (Branch test target removes other otherwise) names wanted c en rises set e = absurd (false≢true c)
  protects_by (Return value) names wanted c en rises set e = absurd (false≢true c)

  pub protects_kept : (names wanted : List ℕ) (passes : List Class) → is_call o ≡ true
      → names ≡ protects_in (slice_get f.body i) → passes ≡ passes_in (slice_get f.body i)
      → IsSet wanted (Protects f i passes) → b ≡ bytes_eq names wanted → Decides b (InstrKept code f i rule.Protections)
  protects_kept names wanted passes c en ep set e = kept_at code f i rule.Protections o b here (λ instr there q.
      protects_by instr.op names wanted (ap is_call (sym q) ∙ c) (en ∙ ap protects_in there)
      (up.body i instr there).protects (subst (λ ps. IsSet wanted (Protects f i ps)) (ep ∙ ap passes_in there) set) e)

  no_protects : (op : CodeOp) → is_call (erased_op op) ≡ false → b ≡ true → Decides b (ProtectsUsed f i op)
  no_protects (Call to n from passes protects removes) c e = absurd (false≢true (sym c))
  no_protects (Do to action from removes) c e = (λ t. tt, λ u. e)
  no_protects (Go n from passes removes) c e = (λ t. tt, λ u. e)
  no_protects (Print pieces from removes) c e = (λ t. tt, λ u. e)
  no_protects (Jump target removes) c e = (λ t. tt, λ u. e)
  no_protects (Branch test target removes other otherwise) c e = (λ t. tt, λ u. e)
  no_protects (Return value) c e = (λ t. tt, λ u. e)

  pub no_call_kept : is_call o ≡ false → b ≡ true → Decides b (InstrKept code f i rule.Protections)
  no_call_kept c e = kept_at code f i rule.Protections o b here (λ instr there q.
      no_protects instr.op (ap is_call (sym q) ∙ c) e)

-- ---- rule 13

module _ (code : Code) (f : CodeFn) (i : ℕ) (instr : CodeInstr) (there : slice_get f.body i ≡ Some instr)
    (gives : List ℕ) (given : (k : ℕ) → Contains gives k ↔ LeavesToCallee code instr.op k)
    (created : (k : ℕ) → Contains instr.creates k ↔ Creates f i k) where
  abbrev Asked : ℕ → List ℕ → Type 0
  Asked j removes = (k : ℕ) → Contains removes k ↔ Removes f i gives j k

  abbrev Dead : ℕ → List ℕ → Type 0
  Dead j removes = (k : ℕ) → Contains removes k ↔ (MayRemove code f i instr k × (Holds f k j → ⊥))

  asked_dead : (j k : ℕ) → Removes f i gives j k → MayRemove code f i instr k × (Holds f k j → ⊥)
  asked_dead j k r = ((by r.0.0, λ g. r.0.1 ((given k).1 g)), r.1)
    where
      by : Holds f k i ⊎ Creates f i k → Holds f k i ⊎ Contains instr.creates k
      by (inl h) = inl h
      by (inr c) = inr ((created k).1 c)

  dead_asked : (j k : ℕ) → MayRemove code f i instr k × (Holds f k j → ⊥) → Removes f i gives j k
  dead_asked j k r = ((by r.0.0, λ g. r.0.1 ((given k).0 g)), r.1)
    where
      by : Holds f k i ⊎ Contains instr.creates k → Holds f k i ⊎ Creates f i k
      by (inl h) = inl h
      by (inr c) = inr ((created k).0 c)

  -- what is removed on a way, if there is one
  abbrev WayIs : Option ℕ → List ℕ → Type 0
  WayIs None removes = removes ≡ []
  WayIs (Some j) removes = Asked j removes

  way_decided : (w : Option ℕ) (removes wanted : List ℕ) → IsStrictlyIncreasing removes → AreRemoved f i gives w wanted
      → (b : Bool) → b ≡ bytes_eq removes wanted → Decides b (WayIs w removes)
  way_decided None removes wanted rises none b e =
      let d = bytes_eq-Decides removes wanted in
      (λ t. d.0 (sym e ∙ t) ∙ none, λ h. e ∙ d.1 (h ∙ sym none))
  way_decided (Some j) removes wanted rises set b e = set_decided removes wanted (Removes f i gives j) b rises set e

  abbrev OnEach : List (ℕ × List ℕ) → Type 0
  OnEach es = (j : ℕ) (removes : List ℕ) → Contains {X = ℕ × List ℕ} es (j, removes) → Asked j removes

  one_way : (t : ℕ) (removes : List ℕ) → Asked t removes → OnEach ((t, removes) ∷ [])
  one_way t removes h j rs c = go (contains_cases {X = ℕ × List ℕ} (t, removes) [] (j, rs) c)
    where
      go : (◌≡◌ {A = ℕ × List ℕ} (t, removes) (j, rs)) ⊎ Contains {X = ℕ × List ℕ} [] (j, rs) → Asked j rs
      go (inl e) = subst (λ (x : ℕ × List ℕ). Asked x.0 x.1) e h
      go (inr x) = absurd (contains_none {X = ℕ × List ℕ} (j, rs) x)

  two_ways : (t u : ℕ) (removes otherwise : List ℕ) → Asked t removes → Asked u otherwise
      → OnEach ((t, removes) ∷ (u, otherwise) ∷ [])
  two_ways t u removes otherwise h g j rs c =
      go (contains_cases {X = ℕ × List ℕ} (t, removes) ((u, otherwise) ∷ []) (j, rs) c)
    where
      go : (◌≡◌ {A = ℕ × List ℕ} (t, removes) (j, rs)) ⊎ Contains {X = ℕ × List ℕ} ((u, otherwise) ∷ []) (j, rs)
          → Asked j rs
      go (inl e) = subst (λ (x : ℕ × List ℕ). Asked x.0 x.1) e h
      go (inr x) = one_way u otherwise g j rs x

  at_first : (t : ℕ) (removes : List ℕ) (es : List (ℕ × List ℕ)) → OnEach ((t, removes) ∷ es) → Asked t removes
  at_first t removes es h = h t removes (contains_here {X = ℕ × List ℕ} (t, removes) es)

  abbrev Ways : CodeOp → Type 0
  Ways op =
      WayIs (slice_get (leads_to (erased_op op) i) 0) (removes_of op)
      × WayIs (slice_get (leads_to (erased_op op) i) 1) (otherwise_of op)

  to_each : (op : CodeOp) → Ways op → OnEach (edges op i)
  to_each (Do to action from removes) p = one_way (i + 1) removes p.0
  to_each (Call to n from passes protects removes) p = one_way (i + 1) removes p.0
  to_each (Go n from passes removes) p = one_way (i + 1) removes p.0
  to_each (Print pieces from removes) p = one_way (i + 1) removes p.0
  to_each (Jump target removes) p = one_way target removes p.0
  to_each (Branch test target removes other otherwise) p = two_ways target other removes otherwise p.0 p.1
  to_each (Return value) p = λ j removes c. absurd (contains_none {X = ℕ × List ℕ} (j, removes) c)

  from_each : (op : CodeOp) → OnEach (edges op i) → Ways op
  from_each (Do to action from removes) h = (at_first (i + 1) removes [] h, refl)
  from_each (Call to n from passes protects removes) h = (at_first (i + 1) removes [] h, refl)
  from_each (Go n from passes removes) h = (at_first (i + 1) removes [] h, refl)
  from_each (Print pieces from removes) h = (at_first (i + 1) removes [] h, refl)
  from_each (Jump target removes) h = (at_first target removes [] h, refl)
  from_each (Branch test target removes other otherwise) h = (
    at_first target removes ((other, otherwise) ∷ []) h,
    at_first other otherwise []
        (λ j rs c. h j rs (contains_there {X = ℕ × List ℕ} (target, removes) ((other, otherwise) ∷ []) (j, rs) c)),
  )
  from_each (Return value) h = (refl, refl)

  ways_dead : (b : Bool) → Decides b (Ways instr.op) → Decides b (RemovesDead code f i instr)
  ways_dead b d =
      Decides-like b
      (λ p j removes c k. let h = to_each instr.op p j removes c k in
      (λ m. asked_dead j k (h.0 m), λ m. h.1 (dead_asked j k m)))
      (λ h. from_each instr.op (λ j removes c k. let g = h j removes c k in
      (λ m. dead_asked j k (g.0 m), λ m. g.1 (asked_dead j k m)))) d

  led : (n : ℕ) → way f i n ≡ slice_get (leads_to (erased_op instr.op) i) n
  led n =
      ap (λ x. slice_get (led_to_by i x) n)
      (slice_get-map erased_instr f.body i ∙ ap (λ x. option_map erased_instr x) there)

  pub removes_dead : (after otherwise : List ℕ) → AreRemoved f i gives (way f i 0) after
      → AreRemoved f i gives (way f i 1) otherwise → InstrAscends i instr → (b c : Bool)
      → b ≡ bytes_eq (removes_of instr.op) after → c ≡ bytes_eq (otherwise_of instr.op) otherwise
      → Decides (b && c) (RemovesDead code f i instr)
  removes_dead after otherwise first second rises b c eb ec =
      let up = from_ways IsStrictlyIncreasing nothing_rises instr.op i rises.removes in
      ways_dead (b && c)
      (Decides-and b c
      (way_decided (slice_get (leads_to (erased_op instr.op) i) 0) (removes_of instr.op) after up.0
      (subst (λ w. AreRemoved f i gives w after) (led 0) first) b eb)
      (way_decided (slice_get (leads_to (erased_op instr.op) i) 1) (otherwise_of instr.op) otherwise up.1
      (subst (λ w. AreRemoved f i gives w otherwise) (led 1) second) c ec))

gives_are : (code : Code) (op : CodeOp) (gives : List ℕ)
    → IsSet gives (GivenBy code (erased_op op) (passes_of op) (protects_of op)) → (k : ℕ)
    → Contains gives k ↔ LeavesToCallee code op k
gives_are code (Do to action from removes) gives set k = set.members k
gives_are code (Call to n from passes protects removes) gives set k = set.members k
gives_are code (Go n from passes removes) gives set k = set.members k
gives_are code (Print pieces from removes) gives set k = set.members k
gives_are code (Jump target removes) gives set k = set.members k
gives_are code (Branch test target removes other otherwise) gives set k = set.members k
gives_are code (Return value) gives set k = set.members k

module _ (code : Code) (f : CodeFn) (i : ℕ) (o : Op) (here : op_in (slice_get (erased_fn f).body i) ≡ Some o)
    (up : FnAscends f) (created : InstrKept code f i rule.Creations) where
  created_at : (instr : CodeInstr) → slice_get f.body i ≡ Some instr → (k : ℕ)
      → Contains instr.creates k ↔ Creates f i k
  unfolding InstrKept
  created_at instr there k =
      subst (λ x. Contains instr.creates k ↔ (IsOwn f k × UsesName f x k × (Holds f k i → ⊥))) (sym there)
      (created instr there k)

  pub removes_kept : (passes : List Class) (protects removes otherwise gives after else : List ℕ)
      → passes ≡ passes_in (slice_get f.body i) → protects ≡ protects_in (slice_get f.body i)
      → removes ≡ removes_in (slice_get f.body i) → otherwise ≡ otherwise_in (slice_get f.body i)
      → IsSet gives (GivenBy code o passes protects) → AreRemoved f i gives (way f i 0) after
      → AreRemoved f i gives (way f i 1) else → (b c d : Bool) → d ≡ (b && c) → b ≡ bytes_eq removes after
      → c ≡ bytes_eq otherwise else → Decides d (InstrKept code f i rule.Removals)
  removes_kept passes protects removes otherwise gives after else ep et er eo set first second b c d ed eb ec =
      kept_at code f i rule.Removals o d here (λ instr there q.
      subst (λ x. Decides x (RemovesDead code f i instr)) (sym ed)
      (removes_dead code f i instr there gives
      (gives_are code instr.op gives
      (subst (λ ts. IsSet gives (GivenBy code (erased_op instr.op) (passes_of instr.op) ts)) (et ∙ ap protects_in there)
      (subst (λ ps. IsSet gives (GivenBy code (erased_op instr.op) ps protects)) (ep ∙ ap passes_in there)
      (subst (λ x. IsSet gives (GivenBy code x passes protects)) q set))))
      (created_at instr there) after else first second (up.body i instr there) b c
      (eb ∙ ap (λ ns. bytes_eq ns after) (er ∙ ap removes_in there))
      (ec ∙ ap (λ ns. bytes_eq ns else) (eo ∙ ap otherwise_in there))))

-- ---- at entry

pub entry_removes_kept : (f : CodeFn) (b : Bool) (names wanted : List ℕ) → FnAscends f → names ≡ f.entry
    → IsSet wanted (EntryRemoves f) → b ≡ bytes_eq names wanted → Decides b (EntryKept f rule.Removals)
unfolding EntryKept
entry_removes_kept f b names wanted up n set e =
    set_decided f.entry wanted (EntryRemoves f) b up.entry set (e ∙ ap (λ ns. bytes_eq ns wanted) n)

pub entry_known_kept : (f : CodeFn) (b : Bool) (held : List ℕ) (is_known : ℕ → Bool) → IsSet held (λ k. Holds f k 0)
    → ((k : ℕ) → Decides (is_known k) (IsParameterName f k)) → b ≡ list_all is_known held
    → Decides b (EntryKept f rule.Entry)
unfolding EntryKept
entry_known_kept f b held is_known set each e =
    let d = all_decided is_known (IsParameterName f) each held in
    (λ t k h. d.0 (sym e ∙ t) k ((set.members k).1 h), λ h. e ∙ d.1 (λ k c. h k ((set.members k).0 c)))

-- ---- the names of parameters

parameters_more : (n : ℕ) (slots : List Slot) → n < length slots
    → parameter_classes (suc n) slots ≡ parameter_classes n slots ++ slot_class (slice_get slots n) ∷ []
parameters_more n [] h = absurd (omega (arith, h))
parameters_more zero (s ∷ slots) h = refl
parameters_more (suc n) (s ∷ slots) h = ap (λ cs. s.class ∷ cs) (parameters_more n slots (omega (arith, h)))

pub parameters_all : (n count : ℕ) (slots : List Slot) → (count ≡ n) ⊎ ((count ≡ length slots) × (count ≤ n))
    → parameter_classes count slots ≡ parameter_classes n slots
parameters_all n count slots (inl e) = ap (λ k. parameter_classes k slots) e
parameters_all n count slots (inr p) = by n count slots p.0 p.1
  where
    by : (n count : ℕ) (slots : List Slot) → count ≡ length slots → count ≤ n
        → parameter_classes count slots ≡ parameter_classes n slots
    by zero zero slots e h = refl
    by zero (suc c) slots e h = absurd (omega (arith, h))
    by (suc n) zero [] e h = refl
    by (suc n) zero (s ∷ slots) e h = absurd (omega (arith, e))
    by (suc n) (suc c) [] e h = absurd (omega (arith, e))
    by (suc n) (suc c) (s ∷ slots) e h = ap (λ cs. s.class ∷ cs) (by n c slots (omega (arith, e)) (omega (arith, h)))

name_decided : (c : Class) (k : ℕ) → Decides (has_name c k) (c ≡ Name k)
name_decided NoClass k = never (λ e. cc)
name_decided Global k = never (λ e. cc)
name_decided (Name j) k =
    let d = decides_same j k in
    (λ t. ap Name (d.0 t), λ e. let q : j ≡ k = cc in d.1 q)

module _ (slots : List Slot) (old new : ℕ → Bool) (n : ℕ) (c : Class) where
  pub names_more : ((k : ℕ) → Decides (old k) (Contains (parameter_classes n slots) (Name k))) → n < length slots
      → c ≡ slot_class (slice_get slots n) → ((q : ℕ) → new q ≡ (has_name c q || old q)) → (k : ℕ)
      → Decides (new k) (Contains (parameter_classes (n + 1) slots) (Name k))
  names_more each h e says k =
      subst (λ m. Decides (new k) (Contains (parameter_classes m slots) (Name k))) (sym (next n))
      (subst (λ b. Decides b (Contains (parameter_classes (suc n) slots) (Name k))) (sym (says k))
      (subst (λ cs. Decides (has_name c k || old k) (Contains cs (Name k)))
      (sym (parameters_more n slots h ∙ ap (λ x. parameter_classes n slots ++ x ∷ []) (sym e)))
      (by (has_name c k) (name_decided c k) (old k) (each k))))
    where
      next : (m : ℕ) → m + 1 ≡ suc m
      next m = omega arith

      cs : List Class
      cs = parameter_classes n slots

      by : (a : Bool) → Decides a (c ≡ Name k) → (x : Bool) → Decides x (Contains cs (Name k))
          → Decides (a || x) (Contains (cs ++ c ∷ []) (Name k))
      by true a x d = (λ t. subst (Contains (cs ++ c ∷ [])) (a.0 refl) (Contains-push cs c), λ m. refl)
      by false a x d =
          (λ t. Contains-append_left cs (c ∷ []) (Name k) (d.0 t), λ m. go (Contains-push_cases cs c (Name k) m))
        where
          go : Contains cs (Name k) ⊎ (c ≡ Name k) → x ≡ true
          go (inl m) = d.1 m
          go (inr q) = absurd (false≢true (a.1 q))

pub no_parameters : {S : Type 0} (names : HashSet ℕ S) → names.keys ≡ [] → (k : ℕ)
    → Decides (contains nat_eq names k) (Contains {X = Class} [] (Name k))
no_parameters names none k =
    let e : contains nat_eq names k ≡ false = ap (list_any (nat_eq k)) none in
    (λ t. absurd (false≢true (sym e ∙ t)), λ c. absurd (contains_none (Name k) c))
