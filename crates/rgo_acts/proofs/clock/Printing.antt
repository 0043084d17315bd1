-- A print: its bytes are what the record's next instruction prints, and the record has them with the ticket.
use Rattle.std.proofs.Common.{◌≡◌, ◌<◌, ◌≤◌, ◌+◌, ◌%◌, ◌^◌, ◌++◌, ◌↔◌, ℕ, Bool, true, List, [], ◌∷◌, Option, None, Some, map, slice_get, refl, ap, sym, subst, ◌∙◌, arith}
use Rattle.std.proofs.lemmas.Bool.Decides.{nat_tests}
use Rattle.rgo_sound.specs.Code.Code as code
use Rattle.std.specs.Option.{option_map}
use Rattle.std.proofs.lemmas.Option.{slice_get-map}
use Rattle.rgo_sound.specs.Code.Code.{CodeFn, Slot}
use Rattle.rgo_core.specs.Frames.steps.Prints.{printed_values, typed_in, typed_value}
use Rattle.rgo_core.specs.Frames.shown.WordFrames.{WordFrame, frame_word}
use Rattle.rgo_core.specs.Memory.Words.{clock_at}
use Rattle.rgo_core.specs.Rule.declared.accesses.Kind.TheVariants as kind
use Rattle.rgo_core.specs.Laws.{printed_by}
use Rattle.rgo_core.specs.Next.{IsAtOp}
use Rattle.rgo_core.specs.Records.{Drawn, Record, accesses, drawn_at, has_ended, steps_of}
use Rattle.rgo_core_steps.specs.After.{piece, printing}
use Rattle.rgo_core_steps.specs.Prints.{IsAtPrint}
use Rattle.rgo_core_steps.specs.Seats.{HasPossible, HasAccessed}
use Rattle.rgo_core_steps.proofs.record_steps.After.{piece_is, printing_is}
use Rattle.rgo_sound.specs.Machine.Lines.{printed_line}
use Rattle.rgo_sound.specs.Tac.Code as tac
use Rattle.rgo_sound.specs.Tac.Ops.{operation_of}
use Rattle.rgo_sound.specs.Memory.declared.values.Value.TheVariants as value
use Rattle.rgo_body.specs.Stack.Stacks.{newest_word}
use Rattle.rgo_sound.specs.Typed.declared.statements.Piece.{Piece}
use Rattle.rgo_sound.specs.Typed.declared.types.Type.{«Type»}
use Rattle.rgo_body.specs.Bodies.{frames_of_body}
use Rattle.rgo_body.specs.Steps.{Becomes}
use Rattle.rgo_body.specs.declared.nexts.Next.{Next}
use Rattle.rgo_acts.specs.Actors.{ActorActed, now}
use Rattle.rgo_acts.specs.Prints.{drawn_of, value_in, values_in}
use Rattle.rgo_acts.specs.Ready.{ActorIsBefore}
use Rattle.rgo_acts.specs.Runs.{Run}
use Rattle.rgo_acts.specs.declared.actors.Actor.{Actor}
use Rattle.rgo_acts.specs.declared.prints.Print.{Print}
use Rattle.rgo_acts.proofs.before.Instructions.{here_as, here_print, rests}
use Rattle.rgo_acts.proofs.Standing.{Follows, acted_one}

-- a bool is true exactly if a number is large
is_large : (b : Bool) (n : ℕ) → (b ≡ true) ↔ (2 ^ 63 ≤ n) → b ≡ has_ended n
is_large b n e = grind (arith, nat_tests, e)

module _ (r : Run) (a : Actor) (next : Next) (before : ActorIsBefore r a next) (pieces : List Piece) (from : List ℕ)
    (e : operation_of next.op ≡ tac.Print pieces from) where
  abbrev pub at_print : IsAtOp r.setup.code (now r.setup a) (code.Print pieces from (here_print r a next before pieces from e).0)
  at_print = here_as r a next before (code.Print pieces from (here_print r a next before pieces from e).0)
      (here_print r a next before pieces from e).1

  pub is_print : a.body.prints < 8796093022208 → IsAtPrint r.setup (now r.setup a)
  is_print few = record {
    pieces = pieces;
    from = from;
    removes = (here_print r a next before pieces from e).0;
    here = at_print;
    rests = rests r a next before;
    few = subst (λ n. n < 8796093022208) (sym before.stands.shows.prints) few;
  }

  pub line_is : (bytes : List ℕ) → bytes ≡ printed_line pieces (values_in next.function (frames_of_body a.body) from)
      → bytes ≡ piece r.setup.code (now r.setup a)
  line_is bytes is =
      is ∙ (ap (λ (fs : List WordFrame). printed_line pieces (values_in next.function fs from)) before.ready.is_next.are
      ∙ sym (piece_is r.setup at_print))

  -- the record after it
  module _ (n : ℕ) where
    abbrev after : Record
    after = printed_by r.setup (now r.setup a) at_print (printed_line pieces (printed_values next.function before.ready.is_next.w from)) n

    after_is : printing r.setup.code (now r.setup a) n ≡ after
    after_is = printing_is r.setup at_print n

    follows : (p : Print) → p.ticket ≡ n % 2 ^ 63 → (p.is_void ≡ true) ↔ (2 ^ 63 ≤ n) → p.bytes.items ≡ piece r.setup.code (now r.setup a)
        → Follows (now r.setup a) (printing r.setup.code (now r.setup a) n) 1 (drawn_of p ∷ []) []
    follows p ticket void bytes = record {
      accesses = ap accesses after_is;
      steps = ap steps_of after_is ∙ omega arith;
      prints = ap (λ (c : Record). c.clock.prints) after_is ∙ ap (λ (d : Drawn). (now r.setup a).clock.prints ++ d ∷ []) drawn;
      children = ap (λ (c : Record). c.clock.children) after_is;
      first = ap (λ (c : Record). c.clock.first) after_is;
    }
      where
        drawn : drawn_at n (printed_line pieces (printed_values next.function before.ready.is_next.w from)) ≡ drawn_of p
        drawn =
            ap (λ (b : List ℕ). drawn_at n b) (sym (bytes ∙ piece_is r.setup at_print))
            ∙ (ap (λ (t : ℕ). record { ticket = t; bytes = p.bytes.items; is_void = has_ended n }) (sym ticket)
            ∙ ap (λ (v : Bool). record { ticket = p.ticket; bytes = p.bytes.items; is_void = v }) (sym (is_large p.is_void n void)))

-- the print
pub printed : (s r : Run) (is : s ≡ r) (a b : Actor) (next : Next) (before : ActorIsBefore r a next) (pieces : List Piece) (from : List ℕ)
    → operation_of next.op ≡ tac.Print pieces from → b.seat.table_id ≡ a.seat.table_id → b.behind ≡ 0 → HasPossible s.setup b.seat.me
    → (p : Print) → p.bytes.items ≡ piece r.setup.code (now r.setup a)
    → ((n : ℕ) × (p.ticket ≡ n % 2 ^ 63) × ((p.is_void ≡ true) ↔ (2 ^ 63 ≤ n))
    × HasAccessed s.setup kind.DrawTicket clock_at (λ n. (n + 1) % 2 ^ 64) (λ n d. d ≡ printing s.setup.code (now s.setup a) n) a.seat.me n b.seat.me)
    → ((clock : ℕ) → Becomes s.program a.body b.body (λ T c. printing T.code c clock)) → ActorActed r a b 1 (drawn_of p ∷ []) []
printed s r is a b next before pieces from e own at_once possible p bytes left becomes =
    let first = subst (λ (x : Run). ActorIsBefore x a next) (sym is) before in
    let same = subst (λ (x : Run). p.bytes.items ≡ piece x.setup.code (now x.setup a)) (sym is) bytes in
    subst (λ (x : Run). ActorActed x a b 1 (drawn_of p ∷ []) []) is
    (acted_one s a b first.stands 1 (drawn_of p ∷ []) [] kind.DrawTicket clock_at left.0 (λ n. (n + 1) % 2 ^ 64)
    (λ n d. d ≡ printing s.setup.code (now s.setup a) n) (printing s.setup.code (now s.setup a) left.0) own at_once left.3 possible (λ t. t)
    (follows s a next first pieces from e left.0 p left.1 left.2 same)
    (becomes left.0 s.setup (now s.setup a) first.stands.shows))

-- ---- values of operands

-- by the type that the function has without its regions
typed_by : (slots : List Slot) (v : ℕ) (ty : «Type») (word : ℕ) → slice_get (map (λ (s : Slot). s.ty) slots) v ≡ Some ty
    → typed_in ty.layers ty.base word ≡ typed_value (slice_get slots v) word
typed_by slots v ty word is = by (slice_get slots v) (sym (slice_get-map (λ (s : Slot). s.ty) slots v) ∙ is)
  where
    by : (o : Option Slot) → option_map (λ (s : Slot). s.ty) o ≡ Some ty → typed_in ty.layers ty.base word ≡ typed_value o word
    by None e = cc
    by (Some s) e = let same : s.ty ≡ ty = cc e in ap (λ (t : «Type»). typed_in t.layers t.base word) (sym same)

pub has_value : (fn : CodeFn) (frames : List WordFrame) (w : WordFrame) (ws : List WordFrame) (v n : ℕ) (ty : «Type»)
    → frames ≡ w ∷ ws → n ≡ frame_word w v → slice_get (map (λ (s : Slot). s.ty) fn.variables) v ≡ Some ty
    → typed_in ty.layers ty.base n ≡ value_in fn frames v
has_value fn frames w ws v n ty are word is =
    typed_by fn.variables v ty n is
    ∙ ap (typed_value (slice_get fn.variables v)) (word ∙ sym (ap (λ (fs : List WordFrame). newest_word fs v) are))

pub has_no_value : (fn : CodeFn) (frames : List WordFrame) (v : ℕ) → slice_get (map (λ (s : Slot). s.ty) fn.variables) v ≡ None
    → value.Nil ≡ value_in fn frames v
has_no_value fn frames v is = by (slice_get fn.variables v) (sym (slice_get-map (λ (s : Slot). s.ty) fn.variables v) ∙ is)
  where
    by : (o : Option Slot) → option_map (λ (s : Slot). s.ty) o ≡ None → value.Nil ≡ typed_value o (newest_word frames v)
    by None e = refl
    by (Some s) e = cc
