-- The functions of the record alone return what the laws state, whichever position a law names: a record has at most one.
use Rattle.std.specs.Option.{option_map, option_map_or}
use Rattle.std.proofs.Common.{◌≡◌, ℕ, suc, ◌+◌, ◌*◌, List, [], ◌∷◌, Option, Some, ap, ◌∙◌}
use Rattle.rgo_sound.specs.Code.Code.{Code, CodeFn, CodeInstr, CodeOp, Do, Go, Print}
use Rattle.rgo_core.specs.Channels.Records.{at_rest}
use Rattle.rgo_core.specs.Frames.steps.Actions.{after_action}
use Rattle.rgo_core.specs.Frames.goroutines.Meetings.{acknowledged}
use Rattle.rgo_core.specs.Frames.goroutines.Opening.{no_record}
use Rattle.rgo_core.specs.Frames.steps.Prints.{printed_values}
use Rattle.rgo_core.specs.Frames.Records.{after_op}
use Rattle.rgo_core.specs.Frames.shown.WordFrames.{WordFrame, bare, word_moved}
use Rattle.rgo_core.specs.Memory.Records.{Fill, with_object_in_page, with_object_apart}
use Rattle.rgo_sound.specs.Machine.Lines.{printed_line}
use Rattle.rgo_sound.specs.Memory.Memory.{Object}
use Rattle.rgo_sound.specs.RegionMachine.Objects.{object_words as words_in}
use Rattle.rgo_sound.specs.RegionMachine.Owed.{current, code_function}
use Rattle.rgo_sound.specs.Tac.declared.regions.Class.{Class}
use Rattle.rgo_sound.specs.Typed.declared.actions.Action.{Action}
use Rattle.rgo_sound.specs.Typed.declared.statements.Piece.{Piece}
use Rattle.rgo_core.specs.ties.AtChannels.{Operates, commits}
use Rattle.rgo_core.specs.moves.Commits.{IsAtSend, acknowledges}
use Rattle.rgo_core.specs.Core.{Setup}
use Rattle.rgo_core.specs.Laws.{child_of, printed_by, started_by}
use Rattle.rgo_core.specs.moves.NewObjects.{record_made_apart, made_object, reserved_address}
use Rattle.rgo_core.specs.Next.{IsAtOp, acted_record}
use Rattle.rgo_core.specs.Records.{Record, accessed, begins_with, ticked, with_print}
use Rattle.rgo_core_steps.specs.After.{Position, acknowledging, acting, bytes_at, bytes_in, child, child_at, child_by, committing, given, making, making_apart, moving, piece, next_place, position, position_in, printing, starting}

-- ---- positions

pub position_by : (code : Code) (c : Record) (w : WordFrame) (ws : List WordFrame) (instr : CodeInstr)
    → c.frame.frames ≡ w ∷ ws → current code (bare w) ≡ Some instr
    → position code c ≡ Some (record { w = w; ws = ws; instr = instr })
position_by code c w ws instr are cur =
    ap (position_in code) are ∙ ap (option_map (λ (i : CodeInstr). record { w = w; ws = ws; instr = i })) cur

-- the position of a record that is at an instruction
abbrev pub at : {code : Code} {c : Record} {op : CodeOp} → IsAtOp code c op → Position
at a = record { w = a.w; ws = a.ws; instr = a.instr }

pub position_is : {code : Code} {c : Record} {op : CodeOp} (a : IsAtOp code c op) → position code c ≡ Some (at a)
position_is {code} {c} a = position_by code c a.w a.ws a.instr a.frames a.cur

pub moving_is : {code : Code} {c : Record} {op : CodeOp} (a : IsAtOp code c op) (after : Position → Record)
    → moving code c after ≡ after (at a)
moving_is {code} {c} a after = ap (λ (p : Option Position). option_map_or after p c) (position_is a)

pub place_by : (code : Code) (c : Record) (w : WordFrame) (ws : List WordFrame) (instr : CodeInstr)
    → c.frame.frames ≡ w ∷ ws → current code (bare w) ≡ Some instr → next_place code c ≡ instr.place
place_by code c w ws instr are cur =
    ap (λ (p : Option Position). option_map_or (λ (q : Position). q.instr.place) p 0) (position_by code c w ws instr are cur)

pub place_is : {code : Code} {c : Record} {op : CodeOp} (a : IsAtOp code c op) → next_place code c ≡ a.instr.place
place_is {code} {c} a = place_by code c a.w a.ws a.instr a.frames a.cur

-- ---- actions

module _ {code : Code} {c : Record} {to : Option ℕ} {action : Action} {from removes : List ℕ} (a : IsAtOp code c (Do to action from removes)) where
  pub acting_is : (word : ℕ) → acting code c word ≡ acted_record code c a to word
  acting_is word =
      moving_is a (λ p. record c {
        clock = ticked c.clock;
        frame = after_action code c.frame p.w p.ws p.instr (given p.instr.op) word;
      })
      ∙ ap (λ (t : Option ℕ). record c { clock = ticked c.clock; frame = after_action code c.frame a.w a.ws a.instr t word }) (ap given a.is)

pub committing_is : {T : Setup} {c : Record} {to : Option ℕ} {action : Action} {others : List ℕ} {control : ℕ}
    (a : Operates T c to action others control) (word : ℕ) → committing T.code c word ≡ commits a word
committing_is a word = ap (λ (d : Record). record d { side = at_rest }) (acting_is a.here word)

pub acknowledging_is : {T : Setup} {c : Record} (a : IsAtSend T c) → acknowledging T.code c ≡ acknowledges T c a
acknowledging_is {T} {c} a =
    ap (λ (p : Option Position). option_map_or (λ (q : Position). after q (given q.instr.op)) p c)
    (position_by T.code c a.w a.ws a.instr a.frames a.cur)
    ∙ ap (after (record { w = a.w; ws = a.ws; instr = a.instr })) (ap given a.is)
  where
    after : Position → Option ℕ → Record
    after p to = record {
      clock = accessed c.clock;
      frame = acknowledged (after_action T.code c.frame p.w p.ws p.instr to 0);
      memory = c.memory;
      side = at_rest;
    }

pub making_is : (T : Setup) {c : Record} {to : Option ℕ} {action : Action} {from removes : List ℕ}
    (a : IsAtOp T.code c (Do to action from removes)) (f : Fill) (object : Object) → making T c f object ≡ made_object T c a to f object
making_is T {c} {to} a f object =
    moving_is a (λ p. after p (given p.instr.op)) ∙ ap (after (at a)) (ap given a.is)
  where
    after : Position → Option ℕ → Record
    after p t = record c {
      clock = record (ticked c.clock) {
        share = record c.clock.share { steps = suc c.clock.share.steps; objects = suc c.clock.share.objects };
      };
      frame = after_action T.code c.frame p.w p.ws p.instr t (suc (f.page * T.sizes.page_words + f.fill));
      memory = with_object_in_page c.memory f.slot (f.fill + words_in object);
    }

pub making_apart_is : (T : Setup) {c : Record} {to : Option ℕ} {action : Action} {from removes : List ℕ}
    (a : IsAtOp T.code c (Do to action from removes)) → making_apart T c ≡ record_made_apart T c a to
making_apart_is T {c} {to} a =
    moving_is a (λ p. after p (given p.instr.op)) ∙ ap (after (at a)) (ap given a.is)
  where
    after : Position → Option ℕ → Record
    after p t = record c {
      clock = record (ticked c.clock) {
        share = record c.clock.share { steps = suc c.clock.share.steps; objects = suc c.clock.share.objects };
      };
      frame = after_action T.code c.frame p.w p.ws p.instr t (suc (reserved_address T c));
      memory = with_object_apart c.memory;
    }

-- ---- prints and starts

module _ (T : Setup) {c : Record} {pieces : List Piece} {from removes : List ℕ} (a : IsAtOp T.code c (Print pieces from removes)) where
  bytes_are : bytes_at T.code (at a) ≡ printed_line pieces (printed_values a.fn a.w from)
  bytes_are =
      ap (λ (f : Option CodeFn). option_map_or (λ (fn : CodeFn). bytes_in fn a.w a.instr.op) f []) a.in_fn
      ∙ ap (bytes_in a.fn a.w) a.is

  pub piece_is : piece T.code c ≡ printed_line pieces (printed_values a.fn a.w from)
  piece_is = ap (λ (p : Option Position). option_map_or (bytes_at T.code) p []) (position_is a) ∙ bytes_are

  pub printing_is : (n : ℕ) → printing T.code c n ≡ printed_by T c a (printed_line pieces (printed_values a.fn a.w from)) n
  printing_is n = moving_is a (λ p. after (bytes_at T.code p) p) ∙ ap (λ (b : List ℕ). after b (at a)) bytes_are
    where
      after : List ℕ → Position → Record
      after bytes p = record c {
        clock = with_print c.clock n bytes;
        frame = after_op T.code c.frame.holder p.w p.ws p.instr.op (word_moved p.w (p.w.next + 1) ∷ p.ws);
      }

module _ (T : Setup) {c : Record} {f : ℕ} {from removes : List ℕ} {passes : List Class} (a : IsAtOp T.code c (Go f from passes removes)) where
  pub starting_is : (n : ℕ) → starting T.code c n ≡ started_by T c a n
  starting_is n = moving_is a (λ p. record c {
    clock = (started_by T c a n).clock;
    frame = after_op T.code c.frame.holder p.w p.ws p.instr.op (word_moved p.w (p.w.next + 1) ∷ p.ws);
  })

  pub child_is : (callee : CodeFn) → code_function T.code f ≡ Some callee → child T.code c ≡ child_of T c a f callee from
  child_is callee is =
      ap (λ (p : Option Position). option_map_or (child_at T.code c) p (begins_with no_record)) (position_is a)
      ∙ ap (λ (op : CodeOp). unwrap (child_by T.code c a.w op)) a.is
      ∙ ap (λ (g : Option CodeFn). unwrap (option_map (λ (fn : CodeFn). child_of T c a f fn from) g)) is
    where
      unwrap : Option Record → Record
      unwrap o = option_map_or (λ (d : Record). d) o (begins_with no_record)
