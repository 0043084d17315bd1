-- The tests on the region of the result, and on returns, decide their rules.
use Rattle.std.proofs.Common.{◌≡◌, ℕ, zero, suc, ◌+◌, Bool, true, false, ◌&&◌, not, List, [], ◌∷◌, Option, Some, None, slice_get, nat_eq, option_to_list, refl, sym, ap, ◌∙◌, subst, Contains, ◌⊎◌, inl, inr}
use Rattle.std.proofs.lemmas.Bool.{false≢true}
use Rattle.std.proofs.lemmas.Bool.Decides.{Decides-and, Decides-not, Decides-like}
use Rattle.std.proofs.lemmas.Option.{same_Some, none-some, slice_get-map}
use Rattle.std.specs.Bool.{Decides}
use Rattle.std.specs.List.{list_any}
use Rattle.std.specs.Option.{option_map}
use Rattle.rgo_tac.specs.declared.regions.Class.{Class}
use Rattle.rgo_tac.specs.declared.regions.Class.TheVariants.{NoClass, Global, Name}
use Rattle.rgo_flow.specs.Live.{read_by, led_to_by, Live}
use Rattle.rgo_code.specs.Code.{CodeFn, CodeOp, CodeInstr, Do, Call, Go, Print, Jump, Branch, Return}
use Rattle.rgo_code.specs.Erasure.{erased_op, erased_instr, erased_fn}
use Rattle.rgo_code.specs.Lists.{removes_of, otherwise_of}
use Rattle.rgo_code.specs.Names.{result_class, class_of, edges, Holds}
use Rattle.rgo_code.specs.NameRules.{LendsResult, EntryLendsResult, ReturnsHoldNothing}
use Rattle.rgo_checker.specs.ClassTests.{equal_classes, is_free, lends, has_no_names, is_lent, value_is_lent, ends_empty}
use Rattle.rgo_checker.proofs.decides.ClassLaws.{same_class_decided}
use Rattle.rgo_checker.proofs.Deciding.{always, never}
use Rattle.rgo_checker.proofs.Listing.{contains_none, contains_here, contains_there, contains_cases, among_decided}

-- ---- rule 12

abbrev IsFree : Class → List ℕ → Type 0
IsFree c names = (k : ℕ) → c ≡ Name k → Contains names k → ⊥

same_name : (j k : ℕ) → Name j ≡ Name k → j ≡ k
same_name j k e = cc

free_decided : (c : Class) (names : List ℕ) → Decides (is_free c names) (IsFree c names)
free_decided NoClass names = always (λ k e. cc)
free_decided Global names = always (λ k e. cc)
free_decided (Name j) names =
    Decides-like (not (list_any (λ i. nat_eq i j) names))
    (λ n k e c. n (subst (Contains names) (sym (same_name j k e)) c)) (λ h c. h j refl c)
    (Decides-not (list_any (λ i. nat_eq i j) names) (among_decided j names))

free_none : (c : Class) → IsFree c []
free_none c k e x = contains_none k x

-- on each way those are removed that the instruction lists
module _ (Free : List ℕ → Type 0) (none : Free []) where
  abbrev OnEach : List (ℕ × List ℕ) → Type 0
  OnEach es = (j : ℕ) (removes : List ℕ) → Contains {X = ℕ × List ℕ} es (j, removes) → Free removes

  one_way : (i : ℕ) (removes : List ℕ) → Free removes → OnEach ((i, removes) ∷ [])
  one_way i removes h j rs c = go (contains_cases {X = ℕ × List ℕ} (i, removes) [] (j, rs) c)
    where
      go : (◌≡◌ {A = ℕ × List ℕ} (i, removes) (j, rs)) ⊎ Contains {X = ℕ × List ℕ} [] (j, rs) → Free rs
      go (inl e) = subst (λ (x : ℕ × List ℕ). Free x.1) e h
      go (inr x) = absurd (contains_none {X = ℕ × List ℕ} (j, rs) x)

  two_ways : (i k : ℕ) (removes otherwise : List ℕ) → Free removes → Free otherwise
      → OnEach ((i, removes) ∷ (k, otherwise) ∷ [])
  two_ways i k removes otherwise h g j rs c =
      go (contains_cases {X = ℕ × List ℕ} (i, removes) ((k, otherwise) ∷ []) (j, rs) c)
    where
      go : (◌≡◌ {A = ℕ × List ℕ} (i, removes) (j, rs)) ⊎ Contains {X = ℕ × List ℕ} ((k, otherwise) ∷ []) (j, rs)
          → Free rs
      go (inl e) = subst (λ (x : ℕ × List ℕ). Free x.1) e h
      go (inr x) = one_way k otherwise g j rs x

  pub to_ways : (op : CodeOp) (i : ℕ) → Free (removes_of op) → Free (otherwise_of op) → OnEach (edges op i)
  to_ways (Do to action from removes) i h g = one_way (i + 1) removes h
  to_ways (Call to n from passes protects removes) i h g = one_way (i + 1) removes h
  to_ways (Go n from passes removes) i h g = one_way (i + 1) removes h
  to_ways (Print pieces from removes) i h g = one_way (i + 1) removes h
  to_ways (Jump target removes) i h g = one_way target removes h
  to_ways (Branch test target removes other otherwise) i h g = two_ways target other removes otherwise h g
  to_ways (Return value) i h g = λ j removes c. absurd (contains_none {X = ℕ × List ℕ} (j, removes) c)

  at_first : (i : ℕ) (removes : List ℕ) (es : List (ℕ × List ℕ)) → OnEach ((i, removes) ∷ es) → Free removes
  at_first i removes es h = h i removes (contains_here {X = ℕ × List ℕ} (i, removes) es)

  pub from_ways : (op : CodeOp) (i : ℕ) → OnEach (edges op i) → Free (removes_of op) × Free (otherwise_of op)
  from_ways (Do to action from removes) i h = (at_first (i + 1) removes [] h, none)
  from_ways (Call to n from passes protects removes) i h = (at_first (i + 1) removes [] h, none)
  from_ways (Go n from passes removes) i h = (at_first (i + 1) removes [] h, none)
  from_ways (Print pieces from removes) i h = (at_first (i + 1) removes [] h, none)
  from_ways (Jump target removes) i h = (at_first target removes [] h, none)
  from_ways (Branch test target removes other otherwise) i h = (
    at_first target removes ((other, otherwise) ∷ []) h,
    at_first other otherwise []
        (λ j rs c. h j rs
        (contains_there {X = ℕ × List ℕ} (target, removes) ((other, otherwise) ∷ []) (j, rs) c)),
  )
  from_ways (Return value) i h = (none, none)

pub lends_decided : (f : CodeFn) (i : ℕ) (instr : CodeInstr)
    → Decides (lends (result_class f) instr.creates (removes_of instr.op) (otherwise_of instr.op))
    (LendsResult f i instr)
lends_decided f i instr =
    let c = result_class f in
    Decides-like (lends c instr.creates (removes_of instr.op) (otherwise_of instr.op))
    (λ p. record {
      creates = p.0;
      removes = λ k j rs e w m. to_ways (IsFree c) (free_none c) instr.op i p.1.0 p.1.1 j rs w k e m;
    })
    (λ p. (
      p.creates,
      from_ways (IsFree c) (free_none c) instr.op i (λ j rs w k e m. p.removes k j rs e w m),
    ))
    (Decides-and (is_free c instr.creates) (is_free c (removes_of instr.op) && is_free c (otherwise_of instr.op))
    (free_decided c instr.creates)
    (Decides-and (is_free c (removes_of instr.op)) (is_free c (otherwise_of instr.op))
    (free_decided c (removes_of instr.op)) (free_decided c (otherwise_of instr.op))))

pub entry_lends_decided : (f : CodeFn) → Decides (is_free (result_class f) f.entry) (EntryLendsResult f)
entry_lends_decided f = free_decided (result_class f) f.entry

-- ---- rule 14

empty_decided : (names : List ℕ) → Decides (has_no_names names) (names ≡ [])
empty_decided [] = always refl
empty_decided (k ∷ ks) = never (λ e. cc)

lent_decided : (lent c : Class) → Decides (is_lent lent c) ((k : ℕ) → c ≡ Name k → lent ≡ Name k)
lent_decided lent NoClass = always (λ k e. cc)
lent_decided lent Global = always (λ k e. cc)
lent_decided lent (Name j) =
    Decides-like (equal_classes lent (Name j)) (λ q k e. q ∙ e) (λ h. h j refl) (same_class_decided lent (Name j))

-- what is live at a return is what it returns
module _ (f : CodeFn) (i : ℕ) (instr : CodeInstr) (value : Option ℕ) (here : slice_get f.body i ≡ Some instr)
    (is_return : instr.op ≡ Return value) where
  found : slice_get (erased_fn f).body i ≡ Some (erased_instr instr)
  found = slice_get-map erased_instr f.body i ∙ ap (λ o. option_map erased_instr o) here

  read : read_by (slice_get (erased_fn f).body i) ≡ option_to_list value
  read = ap read_by found ∙ ap (λ op. read_by (Some (record { op = erased_op op; place = instr.place }))) is_return

  led : led_to_by i (slice_get (erased_fn f).body i) ≡ []
  led = ap (led_to_by i) found
      ∙ ap (λ op. led_to_by i (Some (record { op = erased_op op; place = instr.place }))) is_return

  in_option : (o : Option ℕ) (v : ℕ) → Contains (option_to_list o) v → o ≡ Some v
  in_option None v c = absurd (contains_none v c)
  in_option (Some w) v c = go (contains_cases w [] v c)
    where
      go : (w ≡ v) ⊎ Contains [] v → Some w ≡ Some v
      go (inl e) = ap Some e
      go (inr x) = absurd (contains_none v x)

  is_value : (v : ℕ) → Live (erased_fn f) v i → value ≡ Some v
  is_value v (zero, r) = in_option value v (subst (λ vs. Contains vs v) read r)
  is_value v (suc n, r) = absurd (contains_none r.1 (subst (λ ns. Contains ns r.1) led r.2))

  is_live : (v : ℕ) → value ≡ Some v → Live (erased_fn f) v i
  is_live v e = (
    0,
    subst (λ vs. Contains vs v) (sym read)
        (subst (λ o. Contains (option_to_list o) v) (sym e) (contains_here v [])),
  )

  otherwise : (k : ℕ) (w : ℕ) → class_of f w ≡ Name k → (Holds f k i → ⊥) → value ≡ Some w → (b : Bool)
      → equal_classes (result_class f) (Name k) ≡ b → result_class f ≡ Name k
  otherwise k w q h e true s = (same_class_decided (result_class f) (Name k)).0 s
  otherwise k w q h e false s =
      absurd (h (
        λ r. false≢true (sym s ∙ (same_class_decided (result_class f) (Name k)).1 r),
        record { variable = w; named = q; live = is_live w e },
      ))

  holds_decided : Decides (value_is_lent f value) ((k : ℕ) → Holds f k i → ⊥)
  holds_decided = by value refl
    where
      by : (o : Option ℕ) → value ≡ o → Decides (value_is_lent f o) ((k : ℕ) → Holds f k i → ⊥)
      by None e = always (λ k h. none-some h.1.variable (sym e ∙ is_value h.1.variable h.1.live))
      by (Some v) e =
          Decides-like (is_lent (result_class f) (class_of f v))
          (λ q k h. h.0
          (q k (ap (class_of f) (same_Some v h.1.variable (sym e ∙ is_value h.1.variable h.1.live)) ∙ h.1.named)))
          (λ h k q. otherwise k v q (h k) e (equal_classes (result_class f) (Name k)) refl)
          (lent_decided (result_class f) (class_of f v))

pub ends_decided : (f : CodeFn) (i : ℕ) (instr : CodeInstr) → slice_get f.body i ≡ Some instr
    → Decides (ends_empty f instr.creates (erased_op instr.op)) (ReturnsHoldNothing f i instr instr.op)
ends_decided f i instr here = by instr.op refl
  where
    by : (op : CodeOp) → instr.op ≡ op
        → Decides (ends_empty f instr.creates (erased_op op)) (ReturnsHoldNothing f i instr op)
    by (Do to action from removes) e = always tt
    by (Call to n from passes protects removes) e = always tt
    by (Go n from passes removes) e = always tt
    by (Print pieces from removes) e = always tt
    by (Jump target removes) e = always tt
    by (Branch test target removes other otherwise) e = always tt
    by (Return value) e =
        Decides-like (ends_empty f instr.creates (erased_op (Return value)))
        (λ p. record { creates = p.0; holds = p.1 }) (λ p. (p.creates, p.holds))
        (Decides-and (has_no_names instr.creates) (value_is_lent f value) (empty_decided instr.creates)
        (holds_decided f i instr value here e))
