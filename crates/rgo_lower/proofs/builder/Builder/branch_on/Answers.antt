use Rattle.std.proofs.Common.{◌≡◌, ◌+◌, ap, ◌∙◌, subst, sym}
use Rattle.rgo_lower.specs.Emitted.{builder_size, made_of, OpIsAdded, branch_to}
use Rattle.rgo_lower.proofs.Growing.{ok_map}
use Rattle.rgo_lower.proofs.Labels.{fresh, branch_added, branches}
use Rattle.rgo_lower.proofs.builder.Builder.branch_on.Goals as goal
use Rattle.rgo_lower.proofs.builder.Builder.branch_on.Goals.{in-And+in_ok-branch-in-And, in-Or+in_ok-branch-in-Or}

pub returns : goal.returns
returns c =
    let a = made_of c.args.self.now in
    let b = made_of c.label.new.self in
    let d = made_of c.match-logic.self in
    let e = made_of c.place.new.self in
    let next = c.in_ok-next.next in
    let branch : OpIsAdded b (branches c.args.logic c.args.test next c.args.other) c.args.place d =
    elim c.match-logic.branch [
      | in-And+in_ok-branch-in-And w ↦
          subst (λ z. OpIsAdded b (branches z c.args.test next c.args.other) c.args.place d) (sym w.in-And.is)
          (subst (λ z. OpIsAdded b (branch_to c.args.test next c.args.other) c.args.place (made_of z)) (sym w.self-is)
          w.in_ok-branch-in-And.ensures.0)
      | in-Or+in_ok-branch-in-Or w ↦
          subst (λ z. OpIsAdded b (branches z c.args.test next c.args.other) c.args.place d) (sym w.in-Or.is)
          (subst (λ z. OpIsAdded b (branch_to c.args.test c.args.other next) c.args.place (made_of z)) (sym w.self-is)
          w.in_ok-branch-in-Or.ensures.0)
    ] in
    let one : builder_size d ≡ builder_size b + 1 =
    elim c.match-logic.branch [
      | in-And+in_ok-branch-in-And w ↦ ap (λ z. builder_size (made_of z)) w.self-is ∙ w.in_ok-branch-in-And.ensures.1
      | in-Or+in_ok-branch-in-Or w ↦ ap (λ z. builder_size (made_of z)) w.self-is ∙ w.in_ok-branch-in-Or.ensures.1
    ] in
    ok_map c.place.result _ _
    (branch_added c.args.logic c.args.test next c.args.other c.args.place a b d e
    (fresh a b next c.in_ok-next.ensures.0 c.in_ok-next.ensures.1) branch one) c.place.ensures
