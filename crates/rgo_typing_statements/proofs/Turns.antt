-- Loops that check statements one after another and append their typed trees: what a turn keeps, and where one ends with a refusal.
-- The invariant is about the statements that are left: their first refusal, last context and trees are those of the whole list.
use Rattle.std.proofs.Common.{◌≡◌, ◌++◌, List, ◌∷◌, ap, ◌∙◌, sym, subst}
use Rattle.std.proofs.lemmas.List.{append_assoc}
use Rattle.rgo_typed.specs.Tree.{Stmt}
use Rattle.rgo_typing_rules.specs.Checks.{Refuses}
use Rattle.rgo_typing_rules.specs.Sites.{first_refusal}
use Rattle.rgo_typing_rules.specs.declared.errors.TypeError.{TypeError}
use Rattle.rgo_typing_rules.proofs.Refusals.{refuses_first, none_first}
use Rattle.rgo_typing_expressions.specs.Packages.{Context}
use Rattle.rgo_typing_statements.specs.Outcomes.{StmtsOutcome, Passes}

-- `all` are checked from the context `start` on, and `left` are left at the context `now`; `at_start` are the typed trees
-- at the start, and `before` those so far
pub record Appending {Y : Type 0} (outcome : Context → List Y → StmtsOutcome) (start : Context) (all : List Y) (at_start : List Stmt) (now : Context) (left : List Y) (before : List Stmt) : Type 0 where
  pub refusal : first_refusal (outcome now left).sites ≡ first_refusal (outcome start all).sites
  pub context : (outcome now left).after ≡ (outcome start all).after
  pub typed : before ++ (outcome now left).typed ≡ at_start ++ (outcome start all).typed

module _ {Y : Type 0} {outcome : Context → List Y → StmtsOutcome} {start : Context} {all : List Y} {at_start : List Stmt} {now : Context} {left : List Y} {before : List Stmt}
    (loop : Appending outcome start all at_start now left before) (y : Y) (rest : List Y) (here : left ≡ y ∷ rest)
    (first others : StmtsOutcome) (both : (outcome now (y ∷ rest)).sites ≡ first.sites ++ others.sites) where
  pub refused_stmt : (e : TypeError) → Refuses e (first_refusal first.sites)
      → Refuses e (first_refusal (outcome start all).sites)
  refused_stmt e refuses =
      subst (Refuses e) loop.refusal
      (subst (λ l. Refuses e (first_refusal l)) (sym (ap (λ l. (outcome now l).sites) here ∙ both))
      (refuses_first e first.sites others.sites refuses))

  pub appended : {next : Context} {typed : List Stmt} → Passes first next before typed → others ≡ outcome first.after rest
      → (outcome now (y ∷ rest)).after ≡ others.after → (outcome now (y ∷ rest)).typed ≡ first.typed ++ others.typed
      → Appending outcome start all at_start next rest typed
  appended {next} {typed} passes others_are after_is typed_is =
      let next_is : outcome next rest ≡ others = ap (λ c. outcome c rest) passes.context ∙ sym others_are in
      record {
        refusal = ap (λ o. first_refusal o.sites) next_is ∙ sym (none_first first.sites others.sites passes.unbroken)
            ∙ ap first_refusal (sym (ap (λ l. (outcome now l).sites) here ∙ both)) ∙ loop.refusal;
        context = ap (λ o. o.after) next_is ∙ sym after_is ∙ ap (λ l. (outcome now l).after) (sym here) ∙ loop.context;
        typed = ap (λ o. typed ++ o.typed) next_is ∙ ap (λ l. l ++ others.typed) passes.typed
            ∙ append_assoc before first.typed others.typed ∙ ap (λ l. before ++ l) (sym typed_is)
            ∙ ap (λ l. before ++ (outcome now l).typed) (sym here) ∙ loop.typed;
      }
