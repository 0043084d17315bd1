-- Lists of terms and of statements.
use Rattle.std.proofs.Common.{◌≡◌, ℕ, zero, suc, List, [], ◌∷◌, length, slice_get, Some, None, ap, sym, ◌∙◌, subst}
use Rattle.rgo_typed.specs.declared.types.Type.{«Type»}
use Rattle.rgo_typed.specs.Tree.{Term, terms_of}
use Rattle.rgo_wellformed.specs.Laws.{TypesByIndex, StmtsInParts}
use Rattle.rgo_wellformed.specs.TypeRules.{Declared}
use Rattle.rgo_wellformed.specs.WellFormed.{InScope, HasType, HaveTypes, scope_after}
use Rattle.rgo_wellformed.proofs.Types.{some_is}

count : (d : Declared) (locals : List «Type») (g : InScope) (terms : List Term) (types : List «Type»)
    → HaveTypes d locals g (terms_of terms) types
    → length terms ≡ length types
count d locals g [] types h = sym (ap length h)
count d locals g (t ∷ terms) types h = ap suc (count d locals g terms h.1 h.4) ∙ sym (ap length h.2)

at_index : (d : Declared) (locals : List «Type») (g : InScope) (terms : List Term) (types : List «Type»)
    → HaveTypes d locals g (terms_of terms) types
    → (i : ℕ) (t : Term) → slice_get terms i ≡ Some t
    → (ty : «Type») × (slice_get types i ≡ Some ty) × HasType d locals g t ty
at_index d locals g [] types h i t e = absurd (none e)
  where
    none : None ≡ Some t → ⊥
    none e = cc
at_index d locals g (u ∷ terms) types h zero t e =
    (h.0, ap (λ l. slice_get l 0) h.2, subst (λ x. HasType d locals g x h.0) (some_is u t e) h.3)
at_index d locals g (u ∷ terms) types h (suc i) t e =
    let rest = at_index d locals g terms h.1 h.4 i t e in
    (rest.0, ap (λ l. slice_get l (suc i)) h.2 ∙ rest.1, rest.2)

pub types_by_index : TypesByIndex
types_by_index d locals g terms types h = (count d locals g terms types h, at_index d locals g terms types h)

pub stmts_in_parts : StmtsInParts
stmts_in_parts c g [] m h = (tt, h)
stmts_in_parts c g (s ∷ l) m h =
    let rest = stmts_in_parts c (scope_after g s) l m h.1 in
    ((h.0, rest.0), rest.1)
