-- What instructions other than calls join.
use Rattle.std.proofs.Common.{◌≡◌, ◌↔◌, List, Bool, true, false, ◌&&◌, Option, Some, None, refl, sym, ap, ◌∙◌, if◌then◌else◌}
use Rattle.std.proofs.lemmas.Bool.{and_from, and_parts}
use Rattle.std.proofs.lemmas.Option.{none-some, same_Some, some_pair_parts}
use Rattle.rgo_tac.specs.declared.regions.Member.{Member}
use Rattle.rgo_tac.specs.Code.{Op, Do, Call, Go, Print, Jump, Branch, Return, TacFn}
use Rattle.rgo_tac.specs.Joins.{if_pointer_like, is_pointer_like_member, op_joins}
use Rattle.rgo_classes.specs.Joins.{IsPointerLike}
use Rattle.rgo_classes.specs.declared.classes.Summary.{Summary}
use Rattle.rgo_classes.specs.Labels.{Pair}
use Rattle.rgo_classes.specs.Made.{JoinsOf, OwnJoins}

abbrev pub Two : Type 0
Two = Member × Member

-- the two that an instruction joins by itself, which are pointer-like
abbrev pub IsOwn : TacFn → Op → Member → Member → Type 0
IsOwn f op a b = (op_joins op ≡ Some (a, b)) × IsPointerLike f a × IsPointerLike f b

kept_on : (b : Bool) (p q : Two) → (if b then Some p else None) ≡ Some q → (b ≡ true) × (Some p ≡ Some q)
kept_on true p q e = (refl, e)
kept_on false p q e = absurd (none-some q e)

own_of : (f : TacFn) (x : Option Two) (a b : Member) → if_pointer_like f x ≡ Some (a, b)
    → (x ≡ Some (a, b)) × IsPointerLike f a × IsPointerLike f b
own_of f None a b e = absurd (none-some (a, b) e)
own_of f (Some p) a b e =
    let k = kept_on (is_pointer_like_member f p.0 && is_pointer_like_member f p.1) p (a, b) e in
    let same = same_Some p (a, b) k.1 in
    let both = and_parts (is_pointer_like_member f p.0) (is_pointer_like_member f p.1) k.0 in (
      k.1,
      sym (ap (λ (q : Two). is_pointer_like_member f q.0) same) ∙ both.0,
      sym (ap (λ (q : Two). is_pointer_like_member f q.1) same) ∙ both.1,
    )

of_own : (f : TacFn) (a b : Member) → IsPointerLike f a → IsPointerLike f b
    → if_pointer_like f (Some (a, b)) ≡ Some (a, b)
of_own f a b la lb =
    ap (λ (t : Bool). if t then Some (a, b) else None)
    (and_from (is_pointer_like_member f a) (is_pointer_like_member f b) la lb)

pub own_is : (f : TacFn) (op : Op) (a b : Member) → OwnJoins f op a b ↔ IsOwn f op a b
own_is f op a b = (
  λ e. own_of f (op_joins op) a b e,
  λ h. ap (if_pointer_like f) h.0 ∙ of_own f a b h.1 h.2,
)

-- it joins one pair
pub own_pair : (f : TacFn) (op : Op) (a b : Member) → OwnJoins f op a b → (x y : Member)
    → Pair a b x y ↔ OwnJoins f op x y
own_pair f op a b e x y = (
  λ p. e ∙ ap (λ z. Some (z, b)) (sym p.0) ∙ ap (λ z. Some (x, z)) (sym p.1),
  λ h. let q = some_pair_parts a x b y (sym e ∙ h) in (sym q.0, sym q.1),
)

abbrev pub IsNoCall : Op → Type 0
IsNoCall (Call to n from) = ⊥
IsNoCall (Go n from) = ⊥
IsNoCall op = Unit {0}

-- an instruction other than a call joins what it joins by itself
pub no_call_joins : (summaries : List Summary) (f : TacFn) (op : Op) → IsNoCall op → (a b : Member)
    → OwnJoins f op a b ↔ JoinsOf summaries f op a b
no_call_joins summaries f (Do to action from) plain a b = own_is f (Do to action from) a b
no_call_joins summaries f (Call to n from) plain a b = absurd plain
no_call_joins summaries f (Go n from) plain a b = absurd plain
no_call_joins summaries f (Print pieces from) plain a b = own_is f (Print pieces from) a b
no_call_joins summaries f (Jump target) plain a b = own_is f (Jump target) a b
no_call_joins summaries f (Branch test target other) plain a b = own_is f (Branch test target other) a b
no_call_joins summaries f (Return value) plain a b = own_is f (Return value) a b
