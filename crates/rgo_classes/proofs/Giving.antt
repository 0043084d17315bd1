-- Labels are given classes, one member after another. A new name is the least that is free, and belongs to one label: hence the names
-- follow the order of the first members.
use Rattle.std.proofs.Common.{◌≡◌, ◌≢◌, ◌⊎◌, ⊎_elim, ◌↔◌, ℕ, ◌<◌, ◌≤◌, ◌+◌, false, List, [], ◌∷◌, ◌++◌, Some, length, set, replicate, slice_get, refl, sym, ap, ◌∙◌, subst, arith}
use Rattle.std.proofs.lemmas.Bool.{cases_Bool, cases_lt, cond-false, cond-true, false≢true}
use Rattle.std.proofs.lemmas.List.{get_or-replicate, get_or-set_other, get_or-set_same, get_or_past, length-replicate, length_push}
use Rattle.std.proofs.lemmas.Option.{none-some, slice_get_past, slice_get_within}
use Rattle.rgo_tac.specs.declared.regions.Class.{Class}
use Rattle.rgo_tac.specs.declared.regions.Class.TheVariants as class
use Rattle.rgo_tac.specs.declared.regions.Member.{Member}
use Rattle.rgo_tac.specs.declared.regions.Member.TheVariants.{Global, Variable}
use Rattle.rgo_tac.specs.Code.{TacFn}
use Rattle.rgo_tac.specs.Joins.{is_pointer_like_member, is_pointer_like_type}
use Rattle.rgo_classes.specs.Classes.{AreNumbered}
use Rattle.rgo_classes.specs.Joins.{IsPointerLike}
use Rattle.rgo_classes.specs.Labels.{label_of}
use Rattle.rgo_classes.specs.Naming.{TakesNextName, HasClassAlready, Naming, class_in, given_to}
use Rattle.rgo_classes.proofs.Gets.{get_cases, get_last, get_left}
use Rattle.rgo_classes.proofs.Moving.{eq_cases}

-- ---- two classes that differ

pub name_is_no_none : (c : Class) (k : ℕ) → c ≡ class.Name k → c ≢ class.NoClass
name_is_no_none c k e n = cc

pub global_is_no_none : (c : Class) → c ≡ class.Global → c ≢ class.NoClass
global_is_no_none c e n = cc

pub name_is_no_global : (c : Class) (k : ℕ) → c ≡ class.Name k → c ≢ class.Global
name_is_no_global c k e g = cc

pub one_name : (c : Class) (j k : ℕ) → c ≡ class.Name j → c ≡ class.Name k → j ≡ k
one_name c j k e g = cc

-- ---- the class of a member

pub class_yes : (given : List Class) (labels : List ℕ) (f : TacFn) (m : Member) → IsPointerLike f m
    → class_in given labels f m ≡ given_to given (label_of labels m)
class_yes given labels f m like =
    cond-true (is_pointer_like_member f m) (given_to given (label_of labels m)) class.NoClass like

pub class_no : (given : List Class) (labels : List ℕ) (f : TacFn) (m : Member) → is_pointer_like_member f m ≡ false
    → class_in given labels f m ≡ class.NoClass
class_no given labels f m plain =
    cond-false (is_pointer_like_member f m) (given_to given (label_of labels m)) class.NoClass plain

-- a member that has a class is pointer-like
pub class_like : (given : List Class) (labels : List ℕ) (f : TacFn) (m : Member) (c : Class)
    → class_in given labels f m ≡ c → c ≢ class.NoClass → IsPointerLike f m
class_like given labels f m c e some =
    ⊎_elim (λ l. l) (λ n. absurd (some (sym e ∙ class_no given labels f m n)))
    (cases_Bool (is_pointer_like_member f m))

-- ---- before the first

none_given : (n k : ℕ) → given_to (replicate n class.NoClass) k ≡ class.NoClass
none_given n k = ⊎_elim
    (λ l. get_or-replicate n k class.NoClass class.NoClass l)
    (λ past. get_or_past (replicate n class.NoClass) k class.NoClass
    (omega (arith, past, length-replicate n class.NoClass)))
    (cases_lt k n)

pub naming_none : (labels : List ℕ) (f : TacFn) (n : ℕ) → label_of labels Global < n
    → Naming labels f [] [] (set (replicate n class.NoClass) (label_of labels Global) class.Global) 0
naming_none labels f n inside = record {
  len = refl;
  each = λ i m e. absurd (none-some m e);
  some = λ i m e like. absurd (none-some m e);
  global = λ l. (
    λ e. ⊎_elim (λ q. q) (λ q. absurd (global_is_no_none (given_to given l) e (others l q)))
        (eq_cases l (label_of labels Global)),
    λ q. ap (given_to given) q ∙ here,
  );
  below = λ l k e. absurd (no_name l k e);
  once = λ l m k e g. absurd (no_name l k e);
  all = λ k l. absurd (omega (arith, l));
  numbered = λ i k j e l. absurd (none-some (class.Name k) e);
}
  where
    given : List Class
    given = set (replicate n class.NoClass) (label_of labels Global) class.Global

    here : given_to given (label_of labels Global) ≡ class.Global
    here = get_or-set_same (replicate n class.NoClass) (label_of labels Global) class.Global class.NoClass
        (omega (arith, inside, length-replicate n class.NoClass))

    others : (l : ℕ) → l ≢ label_of labels Global → given_to given l ≡ class.NoClass
    others l q =
        get_or-set_other (replicate n class.NoClass) (label_of labels Global) l class.Global class.NoClass q
        ∙ none_given n l

    no_name : (l k : ℕ) → given_to given l ≡ class.Name k → ⊥
    no_name l k e = ⊎_elim
        (λ q. name_is_no_global (given_to given l) k e (ap (given_to given) q ∙ here))
        (λ q. name_is_no_none (given_to given l) k e (others l q))
        (eq_cases l (label_of labels Global))

-- ---- one more

module _ (labels : List ℕ) (f : TacFn) (members : List Member) (classes given : List Class) (next : ℕ)
    (n : Naming labels f members classes given next) (m : Member) where
  -- the classes stay numbered where the new one is a name whose predecessors are given
  numbered_more : (c : Class) → ((k j : ℕ) → c ≡ class.Name k → j < k → j < next) → AreNumbered (classes ++ c ∷ [])
  numbered_more c low i k j e less = ⊎_elim
      (λ l. let h = n.numbered i k j l less in (h.0, h.1, get_left classes (c ∷ []) h.0 (class.Name j) h.2))
      (λ r. let h = n.all j (low k j r.1 less) in (
        h.0,
        omega (arith, slice_get_within classes h.0 (class.Name j) h.1, r.0),
        get_left classes (c ∷ []) h.0 (class.Name j) h.1,
      ))
      (get_cases classes c (class.Name k) i e)

  last_is : {c : Class} (i : ℕ) → i ≡ length members → slice_get (classes ++ c ∷ []) i ≡ Some c
  last_is {c} i e = get_last classes c i (e ∙ sym n.len)

  -- ---- whose label has a class, or that is not pointer-like

  pub naming_kept : (c : Class) → c ≡ class_in given labels f m
      → (IsPointerLike f m → given_to given (label_of labels m) ≢ class.NoClass)
      → Naming labels f (members ++ m ∷ []) (classes ++ c ∷ []) given next
  naming_kept c is some = record {
    len = length_push classes c ∙ ap (λ k. k + 1) n.len ∙ sym (length_push members m);
    each = λ i x e. ⊎_elim
        (λ l. get_left classes (c ∷ []) i (class_in given labels f x) (n.each i x l))
        (λ r. last_is i r.0 ∙ ap Some (is ∙ ap (class_in given labels f) r.1))
        (get_cases members m x i e);
    some = λ i x e like. ⊎_elim
        (λ l. n.some i x l like)
        (λ r. subst (λ y. given_to given (label_of labels y) ≢ class.NoClass) r.1
        (some (subst (IsPointerLike f) (sym r.1) like)))
        (get_cases members m x i e);
    global = n.global;
    below = n.below;
    once = n.once;
    all = λ k l. let h = n.all k l in (h.0, get_left classes (c ∷ []) h.0 (class.Name k) h.1);
    numbered = numbered_more c low;
  }
    where
      low : (k j : ℕ) → c ≡ class.Name k → j < k → j < next
      low k j e less =
          let in_m = sym is ∙ e in
          let like = class_like given labels f m (class.Name k) in_m (name_is_no_none (class.Name k) k refl) in
          omega (arith, less, n.below (label_of labels m) k (sym (class_yes given labels f m like) ∙ in_m))

  -- ---- whose label is given the next name

  module _ (like : IsPointerLike f m) (inside : label_of labels m < length given)
      (none : given_to given (label_of labels m) ≡ class.NoClass) where
    abbrev After : List Class
    After = set given (label_of labels m) (class.Name next)

    here : given_to After (label_of labels m) ≡ class.Name next
    here = get_or-set_same given (label_of labels m) (class.Name next) class.NoClass inside

    others : (l : ℕ) → l ≢ label_of labels m → given_to After l ≡ given_to given l
    others l q = get_or-set_other given (label_of labels m) l (class.Name next) class.NoClass q

    known : (l : ℕ) → given_to given l ≢ class.NoClass → given_to After l ≡ given_to given l
    known l some = others l (λ q. some (ap (given_to given) q ∙ none))

    old_class : (i : ℕ) (x : Member) → slice_get members i ≡ Some x
        → class_in given labels f x ≡ class_in After labels f x
    old_class i x e = ⊎_elim
        (λ l. class_yes given labels f x l ∙ sym (known (label_of labels x) (n.some i x e l))
        ∙ sym (class_yes After labels f x l))
        (λ p. class_no given labels f x p ∙ sym (class_no After labels f x p))
        (cases_Bool (is_pointer_like_member f x))

    new_below : (l k : ℕ) → given_to After l ≡ class.Name k → k < next + 1
    new_below l k e = ⊎_elim
        (λ q. omega (arith, one_name (given_to After l) k next e (ap (given_to After) q ∙ here)))
        (λ q. omega (arith, n.below l k (sym (others l q) ∙ e)))
        (eq_cases l (label_of labels m))

    -- no other label has the new name
    new_alone : (l k : ℕ) → l ≢ label_of labels m → given_to After l ≡ class.Name k → k ≢ next
    new_alone l k q e s = omega (arith, n.below l k (sym (others l q) ∙ e), s)

    new_name : (l k : ℕ) → l ≡ label_of labels m → given_to After l ≡ class.Name k → k ≡ next
    new_name l k q e = one_name (given_to After l) k next e (ap (given_to After) q ∙ here)

    new_once : (l p k : ℕ) → given_to After l ≡ class.Name k → given_to After p ≡ class.Name k → l ≡ p
    new_once l p k e g = ⊎_elim
        (λ x. ⊎_elim (λ y. x ∙ sym y) (λ y. absurd (new_alone p k y g (new_name l k x e)))
        (eq_cases p (label_of labels m)))
        (λ x. ⊎_elim
        (λ y. absurd (new_alone l k x e (new_name p k y g)))
        (λ y. n.once l p k (sym (others l x) ∙ e) (sym (others p y) ∙ g))
        (eq_cases p (label_of labels m)))
        (eq_cases l (label_of labels m))

    new_global : (l : ℕ) → (given_to After l ≡ class.Global) ↔ (l ≡ label_of labels Global)
    new_global l = (
      λ e. ⊎_elim
          (λ q. absurd (name_is_no_global (given_to After l) next (ap (given_to After) q ∙ here) e))
          (λ q. (n.global l).0 (sym (others l q) ∙ e))
          (eq_cases l (label_of labels m)),
      λ e. let old = (n.global l).1 e in known l (global_is_no_none (given_to given l) old) ∙ old,
    )

    pub naming_new : Naming labels f (members ++ m ∷ []) (classes ++ class.Name next ∷ []) After (next + 1)
    naming_new = record {
      len = length_push classes (class.Name next) ∙ ap (λ k. k + 1) n.len ∙ sym (length_push members m);
      each = λ i x e. ⊎_elim
          (λ l. get_left classes (class.Name next ∷ []) i (class_in After labels f x)
          (n.each i x l ∙ ap Some (old_class i x l)))
          (λ r. last_is i r.0
          ∙ ap Some (sym here ∙ sym (class_yes After labels f m like) ∙ ap (class_in After labels f) r.1))
          (get_cases members m x i e);
      some = λ i x e l. ⊎_elim
          (λ o. let s = n.some i x o l in
          λ c. s (sym (known (label_of labels x) s) ∙ c))
          (λ r. name_is_no_none (given_to After (label_of labels x)) next
          (ap (λ y. given_to After (label_of labels y)) (sym r.1) ∙ here))
          (get_cases members m x i e);
      global = new_global;
      below = new_below;
      once = new_once;
      all = λ k l. ⊎_elim
          (λ q. (
            length classes,
            get_last classes (class.Name next) (length classes) refl ∙ ap (λ j. Some (class.Name j)) (sym q),
          ))
          (λ q. let h = n.all k (omega (arith, l, q)) in
          (h.0, get_left classes (class.Name next ∷ []) h.0 (class.Name k) h.1))
          (eq_cases k next);
      numbered = numbered_more (class.Name next)
          (λ k j e less. omega (arith, less, one_name (class.Name next) k next e refl));
    }

  -- whichever of the two it is
  pub naming_more : (given' : List Class) (next' : ℕ) (c : Class) → IsPointerLike f m
      → label_of labels m < length given
      → HasClassAlready given next (label_of labels m) given' next' c ⊎ TakesNextName given next (label_of labels m) given' next' c
      → Naming labels f (members ++ m ∷ []) (classes ++ c ∷ []) given' next'
  naming_more given' next' c like inside h = ⊎_elim
      (λ k. rw (k.given_is, k.next_is)
      (naming_kept c (k.class_is ∙ sym (class_yes given labels f m like)) (λ l. k.some)))
      (λ g. rw (g.given_is, g.next_is, g.class_is) (naming_new like inside g.none))
      h

-- a variable that the function does not have has no class
pub naming_past : (labels : List ℕ) (f : TacFn) (members : List Member) (classes given : List Class) (next v : ℕ)
    → length f.variables ≤ v → Naming labels f members classes given next
    → Naming labels f (members ++ Variable v ∷ []) (classes ++ class.NoClass ∷ []) given next
naming_past labels f members classes given next v past n =
    let plain : is_pointer_like_member f (Variable v) ≡ false =
    ap is_pointer_like_type (slice_get_past f.variables v past) in
    naming_kept labels f members classes given next n (Variable v) class.NoClass
    (sym (class_no given labels f (Variable v) plain)) (λ like. absurd (false≢true (sym plain ∙ like)))
