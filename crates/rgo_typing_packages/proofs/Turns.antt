-- Loops that check the items of a list one after another: what a turn keeps, and where one ends with a refusal. Proved once for any kind
-- of item; each loop of the crate is an instance.
use Rattle.std.proofs.Common.{◌≡◌, ◌++◌, List, ◌∷◌, None, ap, ◌∙◌, sym, subst}
use Rattle.rgo_typing_rules.specs.Checks.{Refuses}
use Rattle.rgo_typing_rules.specs.Sites.{Site, first_refusal}
use Rattle.rgo_typing_rules.specs.declared.errors.TypeError.{TypeError}
use Rattle.rgo_typing_rules.proofs.Refusals.{refuses_first, none_first}

-- `all` are checked from the state `start` on; `left` are left at the state `now`
pub record Loop {S Y : Type 0} (sites : S → List Y → List Site) (after : S → List Y → S) (start : S) (all : List Y) (now : S) (left : List Y) : Type 0 where
  pub refusal : first_refusal (sites now left) ≡ first_refusal (sites start all)
  pub state : after now left ≡ after start all

module _ {S Y : Type 0} {sites : S → List Y → List Site} {after : S → List Y → S} {start : S} {all : List Y} {now : S} {left : List Y}
    (loop : Loop sites after start all now left) (y : Y) (rest : List Y) (here : left ≡ y ∷ rest) (first others : List Site)
    (both : sites now (y ∷ rest) ≡ first ++ others) where
  -- the next item is refused
  pub refused : (e : TypeError) → Refuses e (first_refusal first) → Refuses e (first_refusal (sites start all))
  refused e refuses =
      subst (Refuses e) loop.refusal
      (subst (λ l. Refuses e (first_refusal l)) (sym (ap (sites now) here ∙ both)) (refuses_first e first others refuses))

  -- the next item breaks no rule
  pub kept : {next after_first : S} → (first_refusal first ≡ None) × (next ≡ after_first)
      → others ≡ sites after_first rest → after now (y ∷ rest) ≡ after after_first rest → Loop sites after start all next rest
  kept passes others_are after_is = record {
    refusal = ap (λ s. first_refusal (sites s rest)) passes.1 ∙ ap first_refusal (sym others_are)
        ∙ sym (none_first first others passes.0) ∙ ap first_refusal (sym (ap (sites now) here ∙ both)) ∙ loop.refusal;
    state = ap (λ s. after s rest) passes.1 ∙ sym after_is ∙ ap (after now) (sym here) ∙ loop.state;
  }
