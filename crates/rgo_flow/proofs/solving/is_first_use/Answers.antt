use Rattle.std.proofs.Common.{◌≡◌, ◌∙◌, refl, ap, true}
use denote.Enum.Bare.{sameb}
use Rattle.rgo_flow.specs.contracts.uses.FirstUse.{the_type}
use Rattle.rgo_flow.specs.declared.uses.FirstUse.{FirstUse}
use Rattle.rgo_flow.specs.declared.uses.FirstUse.TheVariants.{Read, Written, Unused}
use Rattle.rgo_flow.proofs.Choices.{same_first_use}
use Rattle.rgo_flow.proofs.solving.is_first_use.Goals as goal

same_self : (w : FirstUse) → sameb the_type w w ≡ true
same_self Read = refl
same_self Written = refl
same_self Unused = refl

pub returns-clause-no : goal.returns-clause-no
returns-clause-no c = λ g.
    let e = same_first_use c.args.readers.now c.args.writers.now c.args.head c.args.last c.first_use.result
    c.args.wanted c.first_use.ensures g in
    c.eq.ensures ∙ ap (λ w. sameb the_type w c.args.wanted) e ∙ same_self c.args.wanted
