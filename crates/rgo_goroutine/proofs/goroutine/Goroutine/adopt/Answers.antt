use Rattle.std.proofs.Common.{◌∙◌, ◌++◌, List, ap, refl, sym}
use Rattle.std.proofs.lemmas.List.Elements.{All-append, All-same}
use Rattle.rgo_goroutine.specs.declared.goroutine.Goroutine.{Goroutine}
use Rattle.rgo_goroutine.specs.Goroutines.{IsOf}
use Rattle.rgo_goroutine.proofs.Handing.{adopted_of, all_born, as_many}
use Rattle.rgo_goroutine.proofs.goroutine.Goroutine.adopt.Goals as goal

pub returns-in-Ok-clause-of : goal.returns-in-Ok-clause-of
returns-in-Ok-clause-of c =
    let go = c.args.self.now in
    adopted_of c.args.run.now go (record go { children = c.raise.new.children }) c.requires.of refl c.raise.ensures.none

pub returns-in-Ok-clause-adopts : goal.returns-in-Ok-clause-adopts
returns-in-Ok-clause-adopts c =
    let go = c.args.self.now in
    let born = c.raise.ensures.born in
    record {
      more = born.0;
      are = born.1 ∙ ap (λ (l : List Goroutine). l ++ born.0) c.reserve.ensures.items;
      many = as_many c.args.run.now go.children.items born.0 born.2 ∙ sym c.new_children-count.ensures;
      born = born.2;
      none = c.raise.ensures.none;
      rest = refl;
    }

pub returns-in-Ok-clause-all : goal.returns-in-Ok-clause-all
returns-in-Ok-clause-all c all =
    let r = c.args.run.now in
    let go = c.args.self.now in
    let born = c.raise.ensures.born in
    let are = born.1 ∙ ap (λ (l : List Goroutine). l ++ born.0) c.reserve.ensures.items in
    All-same (IsOf r) c.raise.new.into.items (c.args.into.now.items ++ born.0) are
    (All-append (IsOf r) c.args.into.now.items born.0 all (all_born r go.children.items born.0 born.2))
