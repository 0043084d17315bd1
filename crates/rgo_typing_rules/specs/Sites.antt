-- Checked nodes at their places, and the first of them that breaks a rule. The order of checking is the order of such a list and
-- nothing else: whoever defines the list of a construct decides what is reported first.
use Rattle.std.specs.Prelude.{ℕ, List, [], ◌∷◌, Option, Some, None}
use Rattle.rgo_typing_rules.specs.declared.errors.TypeRefusal.{TypeRefusal}
use Rattle.rgo_typing_rules.specs.declared.rules.Rule.{Rule}
use Rattle.rgo_typing_rules.specs.Nodes.{Node}
use Rattle.rgo_typing_rules.specs.Rules.{broken}

-- a place and the node there
abbrev pub Site : Type 0
Site = ℕ × Node

-- the refusal of this rule at this place, or none if no rule is broken
abbrev pub refused_at : ℕ → Option Rule → Option TypeRefusal
refused_at at None = None
refused_at at (Some rule) = Some (record { rule = rule; at = at })

-- the first rule that a node breaks
abbrev pub refusal_of : Site → Option TypeRefusal
refusal_of site = refused_at site.0 (broken site.1)

-- the first of two refusals in the order of checking, if there is one
abbrev pub earlier : Option TypeRefusal → Option TypeRefusal → Option TypeRefusal
earlier None later = later
earlier (Some refusal) later = Some refusal

-- the first node that breaks a rule, in the order of checking, and the first rule that it breaks
abbrev pub first_refusal : List Site → Option TypeRefusal
first_refusal [] = None
first_refusal (site ∷ sites) = earlier (refusal_of site) (first_refusal sites)
