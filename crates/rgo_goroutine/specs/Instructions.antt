-- A goroutine at its next instruction. The stages before it are named one by one, since a turn may be over after each of them.
use Rattle.std.specs.Prelude.{◌≡◌, ◌+◌, ◌<◌, ◌≤◌, ℕ, ⊤, false, true, List, [], ◌∷◌, MatchResult, None, Option, Result}
use Rattle.rgo_sound.specs.RegionMachine.States.{Duty}
use Rattle.rgo_sound.specs.Typed.declared.actions.Action.{Action}
use Rattle.rgo_sound.specs.Typed.declared.actions.Action.TheVariants as action
use Rattle.rgo_acts.specs.Body.Bodies.{CanCount, HasRoomBehind, BodyIsReady, OffersNothing}
use Rattle.rgo_acts.specs.Body.declared.bodies.Body.{Body}
use Rattle.rgo_acts.specs.Body.declared.bodies.Side.TheVariants.{AtRest}
use Rattle.rgo_core.specs.Channels.Standing.{IsOfChannel}
use Rattle.rgo_core.specs.Rule.declared.accesses.Access.{Access}
use Rattle.rgo_sound.specs.Memory.declared.traps.Trap.{Trap}
use Rattle.rgo_sound.specs.Tac.Code.{Branch, Call, Do, Go, Jump, Op, Print, Return}
use Rattle.rgo_acts.specs.Actors as act
use Rattle.rgo_acts.specs.Talks.{Talks}
use Rattle.rgo_acts.specs.Traps.{IsAtTrap}
use Rattle.rgo_acts.specs.declared.channels.Talked.{Talked}
use Rattle.rgo_acts.specs.Body.declared.nexts.Next.{Next}
use Rattle.rgo_acts.specs.Runs.{Run}
use Rattle.rgo_goroutine.specs.Acting.{GoroutineActs, MayMakeInstructions, GoroutineMoved, TurnProgresses, GoroutineRests, SameFirst}
use Rattle.rgo_goroutine.specs.declared.turning.TableTurnEnd.{TableTurnEnd}
use Rattle.rgo_goroutine.specs.declared.turning.Turning.{Turning}
use Rattle.rgo_goroutine.specs.declared.goroutine.Goroutine.{Goroutine}

-- It owes nothing before this instruction, its next one, and has no offer; there is room for what it owes after it, and the turn
-- has instructions left.
pub record GoroutineIsAt (r : Run) (go : Goroutine) (next : Next) (left : ℕ) : Type 0 where
  pub goes : MayMakeInstructions r go left
  pub some : 0 < left
  pub ready : BodyIsReady r.program go.actor.body next
  pub none : OffersNothing go.actor.body
  pub room : HasRoomBehind go.actor.body next

-- its table has pages, and a channel's control can count the words of 64 of them, which a channel may have as data pages
pub record TableHasPages (r : Run) : Type 0 where
  pub some : 0 < r.sizes.pages
  pub small : r.setup.sizes.page_words ≤ 16777215

-- one more of each thing can be counted, and the pages of a region more
pub record CanCountMore (r : Run) (go : Goroutine) : Type 0 where
  pub can : CanCount go.actor.body.counts
  pub returned : go.actor.body.counts.returned + r.sizes.pages < 18446744073709551616

-- its first duty is done, and it knows of no channel
pub record HasAttendedOne (b d : Body) : Type 0 where
  pub first : Duty
  pub queue : b.queue.duties ≡ first ∷ d.queue.duties
  pub expanded : d.is_expanded ≡ b.is_expanded
  pub rests : d.side ≡ AtRest

-- so are all duties in its queue
pub record HasAttendedAll (b d : Body) : Type 0 where
  pub empty : d.queue.duties ≡ []
  pub expanded : d.is_expanded ≡ b.is_expanded
  pub none : OffersNothing d

-- it has no duty in its queue, and does not know yet what it owes before its next instruction
pub record IsReadyToExpand (b : Body) : Type 0 where
  pub empty : b.queue.duties ≡ []
  pub not_yet : b.is_expanded ≡ false
  pub none : OffersNothing b

-- it owes nothing before its next instruction, and has no offer
pub record OwesNothing (b : Body) : Type 0 where
  pub empty : b.queue.duties ≡ []
  pub expanded : b.is_expanded ≡ true
  pub none : OffersNothing b

-- the action loads or stores one word
abbrev pub IsOfWord : Action → Type 0
IsOfWord action.Len = ⊤
IsOfWord (action.Load k) = ⊤
IsOfWord (action.Store k) = ⊤
IsOfWord action.At = ⊤
IsOfWord action.Put = ⊤
IsOfWord (action.Get n) = ⊤
IsOfWord (action.Set n) = ⊤
IsOfWord (action.Int k) = ⊥
IsOfWord (action.Bool b) = ⊥
IsOfWord action.Nil = ⊥
IsOfWord action.Copy = ⊥
IsOfWord (action.Binary op) = ⊥
IsOfWord action.Neg = ⊥
IsOfWord action.Not = ⊥
IsOfWord action.IsNil = ⊥
IsOfWord (action.New n) = ⊥
IsOfWord action.Slice = ⊥
IsOfWord action.Chan = ⊥
IsOfWord action.Recv = ⊥
IsOfWord action.Send = ⊥
IsOfWord action.Close = ⊥

-- the instruction is not an operation on a channel
abbrev pub IsElsewhere : Op → Type 0
IsElsewhere (Do to action from) = IsOfChannel action → ⊥
IsElsewhere (Call to function from) = ⊤
IsElsewhere (Go function from) = ⊤
IsElsewhere (Print pieces from) = ⊤
IsElsewhere (Jump target) = ⊤
IsElsewhere (Branch test target other) = ⊤
IsElsewhere (Return value) = ⊤

-- It may make this instruction, which is not an operation on a channel: it knows of no channel, what it does can be counted, and
-- the turn has room for it.
pub record CanAct (r : Run) (go : Goroutine) (next : Next) (t : Turning) : Type 0 where
  pub at : GoroutineIsAt r go next t.left
  pub rests : go.actor.body.side ≡ AtRest
  pub counts : CanCountMore r go
  pub near : go.actor.behind < 4611686018427387904
  pub noted : t.changed.count < 6

-- The act was made, and the turn may do less than before if it continues.
pub record MakesInstruction (r : Run) (old new : Goroutine) (t u : Turning) (answer : Option TableTurnEnd) : Type 0 where
  pub acts : GoroutineActs r old new t u answer
  pub progress : answer ≡ None → TurnProgresses t u

-- ---- where an act is made first, and what it came to is seen then

-- its actor has come from `first` to here
pub record HasCome (r : Run) (first go : Goroutine) (t : Turning) : Type 0 where
  pub goes : MayMakeInstructions r first t.left
  pub some : 0 < t.left
  pub noted : t.changed.count < 6
  pub rest : go ≡ record first { actor = go.actor }

-- by an instruction that may trap
pub record HasComeTo (r : Run) (first go : Goroutine) (t : Turning) (done : Result (Unit {0}) Trap) : Type 0 where
  pub come : HasCome r first go t
  pub did : MatchResult done (λ _. act.ActorActed r first.actor go.actor 1 [] []) (λ trap. IsAtTrap r first.actor go.actor trap)

-- by an operation on a channel, which makes n instructions if it takes effect
pub record HasTalked (r : Run) (first go : Goroutine) (t : Turning) (n : ℕ) (talked : Talked) : Type 0 where
  pub goes : MayMakeInstructions r first t.left
  pub some : 0 < t.left
  pub noted : t.changed.count < 6
  pub few : n ≤ 1
  pub rest : go ≡ record first { actor = go.actor }
  pub talks : Talks r first.actor go.actor n talked

-- The local steps since its last access are not too many to be counted, and its body is as before. It has changed no word.
pub record IsNear (r : Run) (old new : Goroutine) (left : ℕ) : Type 0 where
  pub es : List Access
  pub moved : GoroutineMoved r old new 0 es
  pub rests : GoroutineRests r old new es
  pub goes : MayMakeInstructions r new left
  pub near : new.actor.behind < 4611686018427387904
  pub rest : new ≡ record old { actor = new.actor }
  pub body : new.actor.body ≡ old.actor.body
  pub first : SameFirst r old new
