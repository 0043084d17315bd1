-- Members that were gone through in order have the classes of their labels.
use Rattle.std.proofs.Common.{◌≡◌, ◌≢◌, ◌↔◌, ℕ, zero, suc, ◌+◌, List, [], ◌∷◌, ◌++◌, Some, append_assoc, slice_get, refl, sym, ap, ◌∙◌, arith}
use Rattle.std.proofs.lemmas.Bool.{false_from_ne_true}
use Rattle.std.proofs.lemmas.Option.{same_Some}
use Rattle.rgo_tac.specs.declared.regions.Class.{Class}
use Rattle.rgo_tac.specs.declared.regions.Class.TheVariants as class
use Rattle.rgo_tac.specs.declared.regions.Member.{Member}
use Rattle.rgo_tac.specs.declared.regions.Member.TheVariants.{Variable, Global}
use Rattle.rgo_tac.specs.Code.{TacFn}
use Rattle.rgo_tac.specs.Joins.{is_pointer_like_member}
use Rattle.rgo_classes.specs.declared.classes.Summary.{Summary}
use Rattle.rgo_classes.specs.Classes.{AreNamed, Describes, InOneClass, variables_before}
use Rattle.rgo_classes.specs.Joins.{IsPointerLike, Joins}
use Rattle.rgo_classes.specs.Labels.{AreFor, AreLabels, label_of}
use Rattle.rgo_classes.specs.Naming.{AreLike, Naming, class_in, given_to}
use Rattle.rgo_classes.proofs.Giving.{class_like, class_no, class_yes, global_is_no_none}
use Rattle.rgo_classes.proofs.Joining.{Relation}
use Rattle.rgo_classes.proofs.Labelled.{has_label}

-- ---- lists of members

pub before_after : (n : ℕ) (after : List Member) → variables_before n after ≡ variables_before n [] ++ after
before_after zero after = refl
before_after (suc n) after =
    before_after n (Variable n ∷ after) ∙ sym (append_assoc (variables_before n []) (Variable n ∷ []) after)
    ∙ ap (λ (l : List Member). l ++ after) (sym (before_after n (Variable n ∷ [])))

pub one_more : (n : ℕ) → variables_before (n + 1) [] ≡ variables_before n [] ++ Variable n ∷ []
one_more n = ap (λ k. variables_before k []) (next n) ∙ before_after n (Variable n ∷ [])
  where
    next : (k : ℕ) → k + 1 ≡ suc k
    next k = omega arith

-- ---- names of labels

module _ (labels : List ℕ) (f : TacFn) (members : List Member) (classes given : List Class) (next : ℕ)
    (n : Naming labels f members classes given next) where
  -- a class other than none is that of one label
  one_label : (c : Class) (l m : ℕ) → c ≢ class.NoClass → given_to given l ≡ c → given_to given m ≡ c → l ≡ m
  one_label class.NoClass l m some x y = absurd (some refl)
  one_label class.Global l m some x y = (n.global l).0 x ∙ sym ((n.global m).0 y)
  one_label (class.Name k) l m some x y = n.once l m k x y

  class_is : (i : ℕ) (m : Member) (c : Class) → slice_get members i ≡ Some m → slice_get classes i ≡ Some c
      → class_in given labels f m ≡ c
  class_is i m c at e = same_Some (class_in given labels f m) c (sym (n.each i m at) ∙ e)

  some_class : (i : ℕ) (m : Member) → slice_get members i ≡ Some m → IsPointerLike f m
      → class_in given labels f m ≢ class.NoClass
  some_class i m at like e = n.some i m at like (sym (class_yes given labels f m like) ∙ e)

  global_of : (i : ℕ) (m : Member) → slice_get members i ≡ Some m → slice_get classes i ≡ Some class.Global
      → IsPointerLike f m × AreLike labels m Global
  global_of i m at e =
      let c = class_is i m class.Global at e in
      let like = class_like given labels f m class.Global c (global_is_no_none class.Global refl) in
      (like, (n.global (label_of labels m)).0 (sym (class_yes given labels f m like) ∙ c))

  one_class : (i j : ℕ) (m p : Member) → slice_get members i ≡ Some m → slice_get members j ≡ Some p
      → IsPointerLike f m → IsPointerLike f p → slice_get classes i ≡ slice_get classes j → AreLike labels m p
  one_class i j m p at there like also e =
      let c = class_is i m (class_in given labels f p) at (e ∙ n.each j p there) in
      one_label (given_to given (label_of labels p)) (label_of labels m) (label_of labels p)
      (n.some j p there also)
      (sym (class_yes given labels f m like) ∙ c ∙ class_yes given labels f p also) refl

  pub labels_named : AreNamed (AreLike labels) f members classes
  labels_named = record {
    len = n.len;
    none = λ i m at. (
      λ e like. some_class i m at like (class_is i m class.NoClass at e),
      λ plain. n.each i m at
          ∙ ap Some (class_no given labels f m (false_from_ne_true (is_pointer_like_member f m) plain)),
    );
    global = λ i m at. (
      λ e. global_of i m at e,
      λ h. n.each i m at ∙ ap Some (class_yes given labels f m h.0 ∙ (n.global (label_of labels m)).1 h.1),
    );
    same = λ i j m p at there like also. (
      λ e. one_class i j m p at there like also e,
      λ e. n.each i m at
          ∙ ap Some (class_yes given labels f m like ∙ ap (given_to given) e
          ∙ sym (class_yes given labels f p also))
          ∙ sym (n.each j p there),
    );
    numbered = n.numbered;
  }

-- ---- the same in another sense

pub named_same : (R S : Relation) (f : TacFn) (members : List Member) (classes : List Class)
    → ((a b : Member) → IsPointerLike f a → IsPointerLike f b → R a b ↔ S a b)
    → AreNamed R f members classes → AreNamed S f members classes
named_same R S f members classes same n = record {
  len = n.len;
  none = n.none;
  global = λ i m at. (
    λ e. let h = (n.global i m at).0 e in (h.0, (same m Global h.0 refl).0 h.1),
    λ h. (n.global i m at).1 (h.0, (same m Global h.0 refl).1 h.1),
  );
  same = λ i j m p at there like also. (
    λ e. (same m p like also).0 ((n.same i j m p at there like also).0 e),
    λ h. (n.same i j m p at there like also).1 ((same m p like also).1 h),
  );
  numbered = n.numbered;
}

-- labels of the function's joins describe it
pub named_describes : (summaries : List Summary) (f : TacFn) (labels : List ℕ) (members : List Member)
    (classes : List Class)
    → AreFor f labels → AreLabels (Joins summaries f) labels → AreNamed (AreLike labels) f members classes
    → Describes summaries f members classes
named_describes summaries f labels members classes fits are =
    named_same (AreLike labels) (InOneClass summaries f) f members classes
    (λ a b la lb. are a b (has_label f labels a fits la) (has_label f labels b fits lb))
