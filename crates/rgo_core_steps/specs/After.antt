-- The record of a goroutine after an access that is its next instruction, computed from the record before it. A record that has no
-- next instruction stays as it is. These are functions, and not relations, so that several accesses in a row can be computed.
use Rattle.std.specs.Option.{option_map, option_map_or}
use Rattle.std.specs.Prelude.{ℕ, suc, ◌+◌, ◌*◌, List, [], ◌∷◌, Option, None, unwrap_or}
use Rattle.rgo_sound.specs.Code.Code.{Branch, Call, Code, CodeFn, CodeInstr, CodeOp, Do, Go, Jump, Print, Return}
use Rattle.rgo_core.specs.Channels.Records.{at_rest}
use Rattle.rgo_core.specs.Frames.steps.Actions.{after_action}
use Rattle.rgo_core.specs.Frames.goroutines.Children.{child_records}
use Rattle.rgo_core.specs.Frames.goroutines.Meetings.{acknowledged}
use Rattle.rgo_core.specs.Frames.goroutines.Opening.{no_record}
use Rattle.rgo_core.specs.Frames.steps.Prints.{printed_values}
use Rattle.rgo_core.specs.Frames.Records.{after_op}
use Rattle.rgo_core.specs.Frames.shown.WordFrames.{WordFrame, bare, word_called, word_moved, words_of}
use Rattle.rgo_core.specs.Memory.Records.{Fill, with_object_in_page, with_object_apart}
use Rattle.rgo_sound.specs.Machine.Lines.{printed_line}
use Rattle.rgo_sound.specs.Memory.Memory.{Object}
use Rattle.rgo_sound.specs.RegionMachine.Objects.{object_words as words_in}
use Rattle.rgo_sound.specs.RegionMachine.Owed.{current, code_function}
use Rattle.rgo_core.specs.Core.{Setup}
use Rattle.rgo_core.specs.Laws.{first_in}
use Rattle.rgo_core.specs.moves.NewObjects.{reserved_address}
use Rattle.rgo_core.specs.Records.{Record, accessed, begins_with, ticked, with_child, with_print}

-- ---- the next instruction

-- the newest frame, the frames of its callers, and its current instruction
pub record Position : Type 0 where
  pub w : WordFrame
  pub ws : List WordFrame
  pub instr : CodeInstr

abbrev pub position_in : Code → List WordFrame → Option Position
position_in code [] = None
position_in code (w ∷ ws) = option_map (λ instr. record { w = w; ws = ws; instr = instr }) (current code (bare w))

abbrev pub position : Code → Record → Option Position
position code c = position_in code c.frame.frames

-- the record after the next instruction, by its position
abbrev pub moving : Code → Record → (Position → Record) → Record
moving code c after = option_map_or after (position code c) c

-- where the next instruction is in the text of the program
abbrev pub next_place : Code → Record → ℕ
next_place code c = option_map_or (λ p. p.instr.place) (position code c) 0

-- ---- actions

-- the variable to which an action writes a word
abbrev pub given : CodeOp → Option ℕ
given (Do to action from removes) = to
given (Call to n from passes protects removes) = None
given (Go n from passes removes) = None
given (Print pieces from removes) = None
given (Jump target removes) = None
given (Branch test target removes other otherwise) = None
given (Return value) = None

-- after an action whose value is this word, or which has none
abbrev pub acting : Code → Record → (word : ℕ) → Record
acting code c word = moving code c (λ p. record c {
  clock = ticked c.clock;
  frame = after_action code c.frame p.w p.ws p.instr (given p.instr.op) word;
})

-- after the commit of an operation on a channel whose value is this word: the channel is unlocked
abbrev pub committing : Code → Record → (word : ℕ) → Record
committing code c word = record (acting code c word) { side = at_rest }

-- after a sender has acknowledged that its offer was taken, which has counted the instruction
abbrev pub acknowledging : Code → Record → Record
acknowledging code c = moving code c (λ p. record {
  clock = accessed c.clock;
  frame = acknowledged (after_action code c.frame p.w p.ws p.instr (given p.instr.op) 0);
  memory = c.memory;
  side = at_rest;
})

-- after it has made this object at the end of what is filled of this own page
abbrev pub making : Setup → Record → Fill → Object → Record
making T c f object = moving T.code c (λ p. record c {
  clock = record (ticked c.clock) {
    share = record c.clock.share { steps = suc c.clock.share.steps; objects = suc c.clock.share.objects };
  };
  frame = after_action T.code c.frame p.w p.ws p.instr (given p.instr.op) (suc (f.page * T.sizes.page_words + f.fill));
  memory = with_object_in_page c.memory f.slot (f.fill + words_in object);
})

-- after it has made a spread object in the pages that were reserved for it
abbrev pub making_apart : Setup → Record → Record
making_apart T c = moving T.code c (λ p. record c {
  clock = record (ticked c.clock) {
    share = record c.clock.share { steps = suc c.clock.share.steps; objects = suc c.clock.share.objects };
  };
  frame = after_action T.code c.frame p.w p.ws p.instr (given p.instr.op) (suc (reserved_address T c));
  memory = with_object_apart c.memory;
})

-- ---- prints and starts

-- the bytes of a print
abbrev pub bytes_in : CodeFn → WordFrame → CodeOp → List ℕ
bytes_in fn w (Print pieces from removes) = printed_line pieces (printed_values fn w from)
bytes_in fn w (Do to action from removes) = []
bytes_in fn w (Call to n from passes protects removes) = []
bytes_in fn w (Go n from passes removes) = []
bytes_in fn w (Jump target removes) = []
bytes_in fn w (Branch test target removes other otherwise) = []
bytes_in fn w (Return value) = []

abbrev pub bytes_at : Code → Position → List ℕ
bytes_at code p = option_map_or (λ fn. bytes_in fn p.w p.instr.op) (code_function code p.w.function) []

-- the bytes that the next instruction prints
abbrev pub piece : Code → Record → List ℕ
piece code c = option_map_or (bytes_at code) (position code c) []

-- after a print, for which the clock was n
abbrev pub printing : Code → Record → (clock : ℕ) → Record
printing code c n = moving code c (λ p. record c {
  clock = with_print c.clock n (bytes_at code p);
  frame = after_op code c.frame.holder p.w p.ws p.instr.op (word_moved p.w (p.w.next + 1) ∷ p.ws);
})

-- after the start of goroutine n
abbrev pub starting : Code → Record → (number : ℕ) → Record
starting code c n = moving code c (λ p. record c {
  clock = with_child c.clock n;
  frame = after_op code c.frame.holder p.w p.ws p.instr.op (word_moved p.w (p.w.next + 1) ∷ p.ws);
})

-- the record with which the goroutine begins that an instruction starts
abbrev pub child_by : Code → Record → WordFrame → CodeOp → Option Record
child_by code c w (Go f from passes removes) = option_map
    (λ callee. begins_with (first_in (child_records code c.frame.holder (Go f from passes removes) (word_called callee f (words_of w from) ∷ []))))
    (code_function code f)
child_by code c w (Do to action from removes) = None
child_by code c w (Call to n from passes protects removes) = None
child_by code c w (Print pieces from removes) = None
child_by code c w (Jump target removes) = None
child_by code c w (Branch test target removes other otherwise) = None
child_by code c w (Return value) = None

abbrev pub child_at : Code → Record → Position → Record
child_at code c p = unwrap_or (child_by code c p.w p.instr.op) (begins_with no_record)

-- the same of the next instruction
abbrev pub child : Code → Record → Record
child code c = option_map_or (child_at code c) (position code c) (begins_with no_record)
