-- Where a goroutine is that is before an instruction, by its record. The code's operation is found again from the erased one of the body;
-- all other proofs about instructions begin here.
use Rattle.std.proofs.Common.{◌≡◌, ◌<◌, ◌-◌, ℕ, zero, suc, inl, Contains, Bool, true, if◌then◌else◌, List, [], ◌∷◌, ◌++◌, Option, Some, length, slice_get, refl, ap, sym, subst, ◌∙◌, arith}
use Rattle.rgo_sound.specs.Code.Code as code
use Rattle.rgo_sound.specs.Code.Code.{Code, CodeInstr, CodeOp}
use Rattle.rgo_sound.specs.Code.Erasure.{erased_op}
use Rattle.rgo_sound.specs.Code.Exists.{UsesVariable}
use Rattle.rgo_core.specs.Frames.shown.WordFrames.{WordFrame, bare, bare_all, frame_word}
use Rattle.rgo_sound.specs.RegionMachine.Owed.{current, current_in, code_function, next_duties}
use Rattle.rgo_sound.specs.RegionMachine.States.{Duty}
use Rattle.rgo_sound.specs.Tac.Code as tac
use Rattle.rgo_sound.specs.Tac.Code.{Op}
use Rattle.rgo_sound.specs.Tac.Ops.{operation_of}
use Rattle.rgo_sound.specs.Typed.declared.actions.Action.{Action}
use Rattle.rgo_sound.specs.Typed.declared.statements.Piece.{Piece}
use Rattle.rgo_sound.specs.Tac.declared.regions.Class.{Class}
use Rattle.rgo_core.specs.Next.{IsAtOp}
use Rattle.rgo_core.specs.Records.{Record, accesses, steps_of, ticked}
use Rattle.rgo_core.specs.Frames.steps.Actions.{after_action}
use Rattle.rgo_core.specs.Rule.declared.accesses.Kind.{Kind}
use Rattle.rgo_core.specs.Rule.Views.{number_of}
use Rattle.rgo_core_steps.specs.After.{Position, acting, given, position}
use Rattle.rgo_core_steps.specs.Seats.{HasPossible, HasAccessed, mine}
use Rattle.rgo_body.specs.Steps.{Becomes}
use Rattle.rgo_core_steps.proofs.record_steps.After.{at, moving_is, position_is}
use Rattle.std.proofs.lemmas.List.{append-nil}
use Rattle.rgo_acts.proofs.Standing.{Follows, acted_one}
use Rattle.rgo_core.specs.Channels.Records.{at_rest}
use Rattle.rgo_core_facts.proofs.ControlCode.{variables_exist}
use Rattle.rgo_core_facts.proofs.ControlFrames.{all_in_code}
use Rattle.rgo_body.specs.Stack.Stacks.{newest_word}
use Rattle.rgo_body.specs.Bodies.{frames_of_body, owed_by_body}
use Rattle.rgo_body.specs.Nexts.{IsNextOf}
use Rattle.rgo_body.specs.Shows.{SideShows}
use Rattle.rgo_body.specs.declared.bodies.Body.{Body}
use Rattle.rgo_body.specs.declared.bodies.Side.{Side}
use Rattle.rgo_body.specs.declared.bodies.Side.TheVariants.{AtRest}
use Rattle.rgo_body.specs.declared.nexts.Next.{Next}
use Rattle.rgo_acts.specs.Actors.{ActorActed, now}
use Rattle.rgo_acts.specs.Ready.{ActorIsBefore}
use Rattle.rgo_acts.specs.Runs.{Run}
use Rattle.rgo_acts.specs.declared.actors.Actor.{Actor}

-- ---- the instruction, and whether it and what is to be done after it are the code's

pub current_is : (code : Code) (frames : List WordFrame) (next : Next) (n : IsNextOf code frames next)
    → current code (bare n.w) ≡ Some n.instr
current_is code frames next n =
    ap (λ f. current_in f n.w.next) n.in_fn ∙ ap (λ i. current_in (Some next.function) i) (sym n.at) ∙ n.is_instr

pub owes_none : (code : Code) (b : Body) → b.queue.duties ≡ [] → b.is_expanded ≡ true → owed_by_body code b ≡ []
owes_none code b empty expanded =
    ap (λ (ds : List Duty). ds ++ (if b.is_expanded then [] else next_duties code (bare_all (frames_of_body b)))) empty
    ∙ ap (λ (e : Bool). if e then [] else next_duties code (bare_all (frames_of_body b))) expanded

-- a goroutine that is before an instruction, by its body and its record
module _ (r : Run) (a : Actor) (next : Next) (before : ActorIsBefore r a next) where
  abbrev pub newest : WordFrame
  newest = before.ready.is_next.w

  pub rests_by : SideShows AtRest (now r.setup a).side (now r.setup a).frame.holder.offer
  rests_by = subst (λ (s : Side). SideShows s (now r.setup a).side (now r.setup a).frame.holder.offer) before.rests before.stands.shows.side

  -- it knows of no channel
  pub rests : (now r.setup a).side ≡ at_rest
  rests = rests_by.0

  -- where it is; the operation is the code's
  abbrev pub here : IsAtOp r.setup.code (now r.setup a) before.ready.is_next.instr.op
  here = record {
    w = before.ready.is_next.w;
    ws = before.ready.is_next.ws;
    frames = before.stands.shows.frames ∙ before.ready.is_next.are;
    fn = next.function;
    in_fn = ap (λ code. code_function code before.ready.is_next.w.function) before.stands.shows.code ∙ before.ready.is_next.in_fn;
    instr = before.ready.is_next.instr;
    cur = ap (λ code. current code (bare before.ready.is_next.w)) before.stands.shows.code
        ∙ current_is r.program.code (frames_of_body a.body) next before.ready.is_next;
    is = refl;
    none = before.stands.shows.owes ∙ owes_none r.program.code a.body before.ready.queue before.ready.expanded;
    free = rests_by.1;
  }

  -- the same, where the operation is known
  abbrev pub here_as : (op : CodeOp) → before.ready.is_next.instr.op ≡ op → IsAtOp r.setup.code (now r.setup a) op
  here_as op e = record {
    w = here.w;
    ws = here.ws;
    frames = here.frames;
    fn = here.fn;
    in_fn = here.in_fn;
    instr = here.instr;
    cur = here.cur;
    is = e;
    none = here.none;
    free = here.free;
  }

  -- a variable that it reads or writes exists
  pub has_variable : (v : ℕ) → UsesVariable (operation_of next.op) v
      → (w : WordFrame) × (ws : List WordFrame) × (frames_of_body a.body ≡ w ∷ ws) × (v < length w.variables)
  has_variable v uses =
      let n = before.ready.is_next in
      let i = all_in_code r.setup (number_of a.seat.me) (now r.setup a) before.stands.possible 0 n.w
      (ap (λ (l : List WordFrame). slice_get l 0) here.frames) in
      let same : Some i.fn ≡ Some next.function = sym i.in_fn ∙ here.in_fn in
      let fn : i.fn ≡ next.function = cc same in
      let both : Some i.instr ≡ Some n.instr = sym i.cur ∙ here.cur in
      let instr : i.instr ≡ n.instr = cc both in
      let exists = variables_exist r.setup.code n.w.function n.w.next i.fn i.instr
      before.stands.possible.core.sound.checked i.in_fn i.at v
      (subst (λ (op : Op). UsesVariable op v) (sym (ap (λ (x : CodeInstr). erased_op x.op) instr ∙ n.op)) uses) in
      (n.w, n.ws, n.are, subst (λ m. v < m) (sym i.words) exists)

-- ---- the code's operation, by what erasure leaves of it

pub do_of : (op : CodeOp) (to : Option ℕ) (act : Action) (from : List ℕ) → erased_op op ≡ tac.Do to act from
    → (removes : List ℕ) × (op ≡ code.Do to act from removes)
do_of (code.Do t action vs removes) to act from e = (removes, cc e)
do_of (code.Call t n vs passes protects removes) to act from e = cc
do_of (code.Go n vs passes removes) to act from e = cc
do_of (code.Print ps vs removes) to act from e = cc
do_of (code.Jump target removes) to act from e = cc
do_of (code.Branch test target removes other otherwise) to act from e = cc
do_of (code.Return value) to act from e = cc

pub print_of : (op : CodeOp) (pieces : List Piece) (from : List ℕ) → erased_op op ≡ tac.Print pieces from
    → (removes : List ℕ) × (op ≡ code.Print pieces from removes)
print_of (code.Print ps vs removes) pieces from e = (removes, cc e)
print_of (code.Do t action vs removes) pieces from e = cc
print_of (code.Call t n vs passes protects removes) pieces from e = cc
print_of (code.Go n vs passes removes) pieces from e = cc
print_of (code.Jump target removes) pieces from e = cc
print_of (code.Branch test target removes other otherwise) pieces from e = cc
print_of (code.Return value) pieces from e = cc

pub go_of : (op : CodeOp) (n : ℕ) (from : List ℕ) → erased_op op ≡ tac.Go n from
    → (passes : List Class) × (removes : List ℕ) × (op ≡ code.Go n from passes removes)
go_of (code.Go m vs passes removes) n from e = (passes, removes, cc e)
go_of (code.Do t action vs removes) n from e = cc
go_of (code.Call t m vs passes protects removes) n from e = cc
go_of (code.Print ps vs removes) n from e = cc
go_of (code.Jump target removes) n from e = cc
go_of (code.Branch test target removes other otherwise) n from e = cc
go_of (code.Return value) n from e = cc

pub call_of : (op : CodeOp) (to : Option ℕ) (n : ℕ) (from : List ℕ) → erased_op op ≡ tac.Call to n from
    → (passes : List Class) × (protects : List ℕ) × (removes : List ℕ) × (op ≡ code.Call to n from passes protects removes)
call_of (code.Call t m vs passes protects removes) to n from e = (passes, protects, removes, cc e)
call_of (code.Do t action vs removes) to n from e = cc
call_of (code.Go m vs passes removes) to n from e = cc
call_of (code.Print ps vs removes) to n from e = cc
call_of (code.Jump target removes) to n from e = cc
call_of (code.Branch test target removes other otherwise) to n from e = cc
call_of (code.Return value) to n from e = cc

pub return_of : (op : CodeOp) (value : Option ℕ) → erased_op op ≡ tac.Return value → op ≡ code.Return value
return_of (code.Return v) value e = cc e
return_of (code.Do t action vs removes) value e = cc
return_of (code.Call t m vs passes protects removes) value e = cc
return_of (code.Go n vs passes removes) value e = cc
return_of (code.Print ps vs removes) value e = cc
return_of (code.Jump target removes) value e = cc
return_of (code.Branch test target removes other otherwise) value e = cc

-- ---- the same of the instruction before which the goroutine is

module _ (r : Run) (a : Actor) (next : Next) (before : ActorIsBefore r a next) where
  pub here_do : (to : Option ℕ) (act : Action) (from : List ℕ) → operation_of next.op ≡ tac.Do to act from
      → (removes : List ℕ) × (before.ready.is_next.instr.op ≡ code.Do to act from removes)
  here_do to act from e = do_of before.ready.is_next.instr.op to act from (before.ready.is_next.op ∙ e)

  pub here_print : (pieces : List Piece) (from : List ℕ) → operation_of next.op ≡ tac.Print pieces from
      → (removes : List ℕ) × (before.ready.is_next.instr.op ≡ code.Print pieces from removes)
  here_print pieces from e = print_of before.ready.is_next.instr.op pieces from (before.ready.is_next.op ∙ e)

  -- after its access the body shows the record after the action, whose value is this word
  pub at_position : position r.setup.code (now r.setup a) ≡ Some (record {
    w = before.ready.is_next.w;
    ws = before.ready.is_next.ws;
    instr = before.ready.is_next.instr;
  })
  at_position = position_is (here r a next before)

  abbrev after_here : ℕ → Position → Record
  after_here word q = record (now r.setup a) {
    clock = ticked (now r.setup a).clock;
    frame = after_action r.setup.code (now r.setup a).frame q.w q.ws q.instr (given q.instr.op) word;
  }

  pub acting_is : (word : ℕ) → acting r.setup.code (now r.setup a) word ≡ after_here word (at (here r a next before))
  acting_is word = moving_is (here r a next before) (after_here word)

  pub acting_follows : (word : ℕ) → Follows (now r.setup a) (acting r.setup.code (now r.setup a) word) 1 [] []
  acting_follows word =
      let is = acting_is word in
      record {
        accesses = ap (λ (c : Record). accesses c) is;
        steps = ap (λ (c : Record). steps_of c) is ∙ omega arith;
        prints = ap (λ (c : Record). c.clock.prints) is ∙ sym (append-nil (now r.setup a).clock.prints);
        children = ap (λ (c : Record). c.clock.children) is;
        first = ap (λ (c : Record). c.clock.first) is;
      }

  -- one access that is this instruction, an action whose value is this word
  pub acted_does : (b : Actor) (kind : Kind) (i found : ℕ) (f : ℕ → ℕ) (tells : ℕ → Record → Type 0) (word : ℕ)
      → b.seat.table_id ≡ a.seat.table_id → b.behind ≡ 0 → HasAccessed r.setup kind i f tells a.seat.me found b.seat.me
      → HasPossible r.setup b.seat.me
      → (tells found (mine r.setup b.seat.me) → mine r.setup b.seat.me ≡ acting r.setup.code (now r.setup a) word)
      → Becomes r.program a.body b.body (λ T c. acting T.code c word) → ActorActed r a b 1 [] []
  acted_does b kind i found f tells word own none left possible is becomes =
      acted_one r a b before.stands 1 [] [] kind i found f tells (acting r.setup.code (now r.setup a) word) own none left possible is
      (acting_follows word) (becomes r.setup (now r.setup a) before.stands.shows)

-- ---- operands

pub first_in : (x : ℕ) (xs : List ℕ) → Contains (x ∷ xs) x
first_in x xs = (0, omega arith, refl)

pub second_in : (x y : ℕ) (xs : List ℕ) → Contains (x ∷ y ∷ xs) y
second_in x y xs = (1, omega arith, refl)

pub third_in : (x y z : ℕ) (xs : List ℕ) → Contains (x ∷ y ∷ z ∷ xs) z
third_in x y z xs = (2, omega arith, refl)

-- this is the word of the variable of the newest frame
abbrev pub IsWord : Body → (variable word : ℕ) → Type 0
IsWord b v n = (w : WordFrame) (ws : List WordFrame) → frames_of_body b ≡ w ∷ ws → n ≡ frame_word w v

-- as the stack has it
pub newest_is : (b : Body) (n : ℕ) (w : WordFrame) (ws : List WordFrame) (v : ℕ) → frames_of_body b ≡ w ∷ ws → IsWord b v n
    → n ≡ newest_word (frames_of_body b) v
newest_is b n w ws v are is = is w ws are ∙ sym (ap (λ (fs : List WordFrame). newest_word fs v) are)

module _ (r : Run) (a : Actor) (next : Next) (before : ActorIsBefore r a next) where
  -- an action reads its operands
  pub reads_it : (to : Option ℕ) (act : Action) (from : List ℕ) → operation_of next.op ≡ tac.Do to act from → (v : ℕ) → Contains from v
      → (w : WordFrame) × (ws : List WordFrame) × (frames_of_body a.body ≡ w ∷ ws) × (v < length w.variables)
  reads_it to act from e v there =
      has_variable r a next before v (subst (λ (o : Op). UsesVariable o v) (sym e) (inl there))

  pub its_word : (v n : ℕ) → IsWord a.body v n → n ≡ frame_word before.ready.is_next.w v
  its_word v n word = word before.ready.is_next.w before.ready.is_next.ws before.ready.is_next.are

  -- where it is
  abbrev pub at_do : (to : Option ℕ) (act : Action) (from : List ℕ) (e : operation_of next.op ≡ tac.Do to act from)
      → IsAtOp r.setup.code (now r.setup a) (code.Do to act from (here_do r a next before to act from e).0)
  at_do to act from e = here_as r a next before (code.Do to act from (here_do r a next before to act from e).0)
      (here_do r a next before to act from e).1

-- a word that is not 0 is one more than an address
pub one_more : (n m : ℕ) → n ≡ m → (n ≡ 0 → ⊥) → m ≡ suc (n - 1)
one_more n m e some = by n e some
  where
    by : (k : ℕ) → k ≡ m → (k ≡ 0 → ⊥) → m ≡ suc (k - 1)
    by zero e some = absurd (some refl)
    by (suc k) e some = omega (arith, e)
