-- Sites that break no rule: the parts of lists of sites, and tests that are true or false. Each proof about a construct begins by taking
-- its sites apart with these, down to the tests of single rules.
use Rattle.std.proofs.Common.{◌≡◌, ◌++◌, ◌&&◌, ◌||◌, ℕ, Bool, true, false, not, List, [], ◌∷◌}
use Rattle.std.proofs.Common.{Option, Some, None, is_some, refl, ap, sym, ◌∙◌, true≢false}
use Rattle.rgo_typing_rules.specs.Nodes.{Node}
use Rattle.rgo_typing_rules.specs.Rules.{broken}
use Rattle.rgo_typing_rules.specs.Sites.{Site, first_refusal, refused_at, earlier}
use Rattle.rgo_typing_rules.specs.declared.errors.TypeRefusal.{TypeRefusal}
use Rattle.rgo_typing_rules.specs.declared.rules.Rule.{Rule}
use Rattle.rgo_typing_rules.proofs.Refusals.{first_of_both}

-- ---- tests

pub not_false : (b : Bool) → not b ≡ false → b ≡ true
not_false true h = refl
not_false false h = sym h

pub not_true : (b : Bool) → not b ≡ true → b ≡ false
not_true true h = sym h
not_true false h = refl

pub and_left : (a b : Bool) → a && b ≡ true → a ≡ true
and_left true b h = refl
and_left false b h = h

pub and_right : (a b : Bool) → a && b ≡ true → b ≡ true
and_right true b h = h
and_right false b h = absurd (true≢false (sym h))

pub or_left : (a b : Bool) → a || b ≡ false → a ≡ false
or_left true b h = h
or_left false b h = refl

pub or_right : (a b : Bool) → a || b ≡ false → b ≡ false
or_right true b h = absurd (true≢false h)
or_right false b h = h

-- ---- lists of sites

none_left : (a b : Option TypeRefusal) → earlier a b ≡ None → a ≡ None
none_left None b h = refl
none_left (Some f) b h = h

none_right : (a b : Option TypeRefusal) → earlier a b ≡ None → b ≡ None
none_right None b h = h
none_right (Some f) b h = absurd (true≢false (ap is_some h))

pub left : (l m : List Site) → first_refusal (l ++ m) ≡ None → first_refusal l ≡ None
left l m h = none_left (first_refusal l) (first_refusal m) (sym (first_of_both l m) ∙ h)

pub right : (l m : List Site) → first_refusal (l ++ m) ≡ None → first_refusal m ≡ None
right l m h = none_right (first_refusal l) (first_refusal m) (sym (first_of_both l m) ∙ h)

unplaced : (at : ℕ) (o : Option Rule) → refused_at at o ≡ None → o ≡ None
unplaced at None h = refl
unplaced at (Some rule) h = absurd (true≢false (ap is_some h))

pub alone : (at : ℕ) (n : Node) → first_refusal ((at, n) ∷ []) ≡ None → broken n ≡ None
alone at n h = unplaced at (broken n) (none_left (refused_at at (broken n)) None h)

-- two lists and a node after them
pub in_three : (l m : List Site) (at : ℕ) (n : Node) → first_refusal (l ++ (m ++ (at, n) ∷ [])) ≡ None
    → (first_refusal l ≡ None) × (first_refusal m ≡ None) × (broken n ≡ None)
in_three l m at n h =
    let rest = right l (m ++ (at, n) ∷ []) h in
    (left l (m ++ (at, n) ∷ []) h, left m ((at, n) ∷ []) rest, alone at n (right m ((at, n) ∷ []) rest))
