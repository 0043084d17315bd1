-- Duties that are local steps, one after another. Each is a step of the run, and none is an instruction.
use Rattle.std.proofs.Common.{◌≡◌, ◌+◌, ◌∙◌, Bool, true, false, [], Option, Some, None, Result, Ok, Err, MatchOption, OnErr, OnOk, ap, is_ok, is_some, not, refl, sym, subst}
use Rattle.rgo_holding.specs.declared.keys.Key.{Key}
use Rattle.rgo_body.specs.Duties.{DoesLocal, LeavesIn}
use Rattle.rgo_body.specs.Programs.{CompactProgram}
use Rattle.rgo_body.specs.Shows.{BodyShows}
use Rattle.rgo_body.specs.Steps.{StillShows}
use Rattle.rgo_body.specs.declared.bodies.Body.{Body}
use Rattle.rgo_acts.specs.Actors.{IsActorOf, now}
use Rattle.rgo_acts.specs.Attending.{HasAttendedLocally}
use Rattle.rgo_acts.specs.Runs.{Run}
use Rattle.rgo_acts.specs.declared.actors.Actor.{Actor}
use Rattle.rgo_acts.proofs.attending.Counts.{local_done}
use Rattle.rgo_acts.proofs.computing.LocalActs.{unchanged}
use Rattle.rgo_acts.proofs.Standing.{acted_none, acted_then}

-- ---- what a duty came to

pub if_ok : {A E : Type 0} (r : Result A E) (b : Bool) (P : Type 0) → b ≡ is_ok r → OnOk r P → b ≡ true → P
if_ok (Ok x) b P is said so = said
if_ok (Err x) b P is said so = let e : false ≡ true = sym is ∙ so in absurd (cc e)

pub if_not_ok : {A E : Type 0} (r : Result A E) (b : Bool) (P : Type 0) → b ≡ is_ok r → OnErr r P → b ≡ false → P
if_not_ok (Ok x) b P is said so = let e : true ≡ false = sym is ∙ so in absurd (cc e)
if_not_ok (Err x) b P is said so = said

-- a region stays, or a stake in it is to end
module _ (p : CompactProgram) (b d : Body) where
  abbrev Removes : Option Key → Type 0
  Removes key = MatchOption key (DoesLocal p b d) (λ k. (d ≡ b) × LeavesIn p b k)

  pub if_kept : (key : Option Key) (none : Bool) → is_some key ≡ not none → Removes key → none ≡ true → DoesLocal p b d
  if_kept None none is does so = does
  if_kept (Some k) none is does so = let e : true ≡ false = is ∙ ap not so in absurd (cc e)

  pub if_left : (key : Option Key) (none : Bool) → is_some key ≡ not none → Removes key → none ≡ false → d ≡ b
  if_left None none is does so = let e : false ≡ true = is ∙ ap not so in absurd (cc e)
  if_left (Some k) none is does so = does.0

pub same_stays : (p : CompactProgram) (b d : Body) → d ≡ b → StillShows p b d
same_stays p b d same T c s = subst (λ (x : Body). BodyShows T p x c) (sym same) s

pub same_rest : (b d : Body) → d ≡ b → d ≡ record b { holding = d.holding }
same_rest b d same = same ∙ ap (λ (x : Body). record b { holding = x.holding }) (sym same)

-- ---- some duties are done

pub none_attended : (r : Run) (a : Actor) → IsActorOf r a → HasAttendedLocally r a a
none_attended r a stands = record { acted = unchanged r a stands; rest = refl }

module _ (r : Run) (first a b : Actor) (so_far : HasAttendedLocally r first a) (seat : b.seat ≡ a.seat) where
  pub one_attended : b.behind ≡ a.behind + 1 → DoesLocal r.program a.body b.body → HasAttendedLocally r first b
  one_attended behind does =
      let one = local_done r a b so_far.acted.stands seat behind does in
      record {
        acted = acted_then r first a b 0 0 [] [] [] [] so_far.acted one.acted;
        rest = one.done.rest
            ∙ ap (λ (x : Body). record x { holding = b.body.holding; queue = b.body.queue; counts = b.body.counts }) so_far.rest;
      }

  -- the next one is owed as before
  pub next_owed : b.behind ≡ a.behind → StillShows r.program a.body b.body → b.body ≡ record a.body { holding = b.body.holding }
      → HasAttendedLocally r first b
  next_owed behind stays same = record {
    acted = acted_then r first a b 0 0 [] [] [] [] so_far.acted
        (acted_none r a b so_far.acted.stands seat behind (stays r.setup (now r.setup a) so_far.acted.stands.shows));
    rest = same
        ∙ (ap (λ (x : Body). record x { holding = b.body.holding }) so_far.rest
        ∙ ap (λ (x : Body). record first.body { holding = b.body.holding; queue = x.queue; counts = x.counts }) (sym same));
  }
