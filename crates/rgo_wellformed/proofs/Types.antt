-- The type of a term: it is one, since a term carries its type or takes it from a declaration by number.
use Rattle.std.proofs.Common.{◌≡◌, ℕ, zero, suc, List, [], ◌∷◌, slice_get, Some, None, sym, ◌∙◌, subst}
use Rattle.std.specs.List.{AllByRecursion}
use Rattle.std.proofs.lemmas.Option.{slice_get_within}
use Rattle.rgo_typed.specs.Tree as tree
use Rattle.rgo_typed.specs.Tree.{Term}
use Rattle.rgo_wellformed.specs.Laws.{OneType, TypesExist}
use Rattle.rgo_wellformed.specs.TypeRules.{IsType, Signature}
use Rattle.rgo_wellformed.specs.WellFormed.{IsResult}

pub some_is : {A : Type 0} (a b : A) → Some a ≡ Some b → a ≡ b
some_is a b e = cc

pub one_type : OneType
one_type d locals g (tree.Local n) a b h k = some_is a b (sym h.1 ∙ k.1)
one_type d locals g (tree.Apply action parts ty at) a b h k = sym h.0 ∙ k.0
one_type d locals g (tree.Logic op l r at) a b h k = h.0 ∙ sym k.0
one_type d locals g (tree.Build n parts numbers at) a b h k = h.0 ∙ sym k.0
one_type d locals g (tree.Call n arguments ty at) a b h k = sym h.0 ∙ k.0

holds_there : {A : Type 0} (P : A → Type 0) (l : List A) (k : ℕ) (a : A) → slice_get l k ≡ Some a → AllByRecursion P l
    → P a
holds_there P [] k a h all = absurd (none h)
  where
    none : None ≡ Some a → ⊥
    none e = cc
holds_there P (b ∷ l) zero a h all = subst P (some_is b a h) all.0
holds_there P (b ∷ l) (suc k) a h all = holds_there P l k a h all.1

pub types_exist : TypesExist
types_exist d locals g (tree.Local n) a ls fs h = holds_there (IsType d) locals n a h.1 ls
types_exist d locals g (tree.Apply action parts ty at) a ls fs h = subst (IsType d) h.0 h.1
types_exist d locals g (tree.Logic op l r at) a ls fs h = subst (IsType d) (sym h.0) tt
types_exist d locals g (tree.Build n parts numbers at) a ls fs h =
    subst (IsType d) (sym h.0) (slice_get_within d.structs n h.1 h.2)
types_exist d locals g (tree.Call n arguments ty at) a ls fs h =
    subst (IsType d) h.0 (subst (IsResult d) h.4
    (holds_there (λ (s : Signature). IsResult d s.result_type) d.functions n h.1 h.2 fs))
