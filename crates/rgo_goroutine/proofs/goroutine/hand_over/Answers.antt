use Rattle.std.proofs.Common.{◌≡◌, ◌<◌, ◌∙◌, ◌++◌, List, [], ◌∷◌, ap, append_assoc, refl, reverse, subst, sym}
use Rattle.std.proofs.lemmas.List.{reverse-reverse}
use Rattle.atomic_table.specs.Seated.{TableId}
use Rattle.rgo_core.specs.Memory.Words.{clock_at}
use Rattle.rgo_core.specs.Rule.Passes.{after_pass}
use Rattle.rgo_core.specs.Rule.declared.accesses.Access.{Access}
use Rattle.rgo_goroutine.specs.Goroutines.{AreChildren, all_seen, rows_of_children}
use Rattle.rgo_goroutine.specs.declared.goroutine.Child.{Child}
use Rattle.rgo_goroutine.proofs.Handing.{last_first, one_row}
use Rattle.rgo_goroutine.proofs.goroutine.hand_over.Goals as goal

pub loop-child-init : goal.loop-child-init
loop-child-init c =
    let T = c.args.run.now.setup in
    let all = ap reverse c.reverse.ensures.items ∙ reverse-reverse c.args.started.now.items in
    record {
      table = refl;
      id = refl;
      stand = subst (AreChildren c.args.run.now) (sym all) c.requires.stand;
      records = ap (λ (l : List Child). c.args.seat.now.me.0.records ++ rows_of_children T l) all;
      seen = ap (λ (l : List Child). after_pass c.args.seat.now.me.0.seen (all_seen l)) all;
      slots = refl;
    }

pub join-requires : goal.join-requires
join-requires c =
    let l = c.loop-child in
    let taken = last_first l.started.items c.pop.new.self.items c.in-Some.child c.in-Some.ensures.items in
    let all = subst (AreChildren c.args.run.now) taken l.invariant.stand in
    let table = sym c.table.ensures.table in
    let inside = subst (λ (t : TableId). clock_at < t.words) table c.requires.own.1 in
    record {
      own = (l.invariant.table ∙ (c.requires.own.0 ∙ table), inside);
      other = (all.0.stands.own ∙ table, inside);
      empty = all.0.stands.alone.1;
    }

pub loop-child-preserved : goal.loop-child-preserved
loop-child-preserved c =
    let r = c.args.run.now in
    let T = r.setup in
    let l = c.loop-child in
    let child = c.in-Some.child in
    let later = reverse c.pop.new.self.items in
    let taken : reverse l.started.items ≡ child ∷ later =
    last_first l.started.items c.pop.new.self.items child c.in-Some.ensures.items in
    let all = subst (AreChildren r) taken l.invariant.stand in
    let joined = c.join.ensures in
    record {
      table = joined.own.0 ∙ l.invariant.table;
      id = joined.own.1 ∙ l.invariant.id;
      stand = all.1;
      records = ap (λ k. k ++ rows_of_children T later) (joined.records ∙ ap (λ k. l.seat.me.0.records ++ k) (one_row r child all.0))
          ∙ (append_assoc l.seat.me.0.records (rows_of_children T (child ∷ [])) (rows_of_children T later)
          ∙ (ap (λ (k : List Child). l.seat.me.0.records ++ rows_of_children T k) (sym taken) ∙ l.invariant.records));
      seen = ap (λ (k : List Access). after_pass k (all_seen later)) joined.seen
          ∙ (ap (λ (k : List Child). after_pass l.seat.me.0.seen (all_seen k)) (sym taken) ∙ l.invariant.seen);
      slots = joined.slots ∙ l.invariant.slots;
    }
