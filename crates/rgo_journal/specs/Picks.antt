-- The picks of a journal as picks of the three-address machine.
use Rattle.std.specs.Prelude.{Option, Some, None, option_and_then}
use Rattle.rgo_machine.specs.declared.picks.Pick.{Pick}
use Rattle.rgo_machine.specs.declared.picks.Pick.TheVariants as machine
use Rattle.rgo_code_words.specs.Worded.{IsSmallNumber}
use Rattle.rgo_tac.specs.Code.{Tac}
use Rattle.rgo_tac.specs.Tac.{TacState, tac_step}
use Rattle.rgo_journal.specs.declared.picks.TacPick.{TacPick}
use Rattle.rgo_journal.specs.declared.picks.TacPick.TheVariants.{One, Meet, Case, CaseMeet}

-- The machine's pick; none for a case of a `select`, which no program of this subset has. Such a line is well formed, and its pick has no
-- step, like that of a goroutine that does not exist.
abbrev pub machine_pick : TacPick → Option Pick
machine_pick (One g) = Some (machine.One g)
machine_pick (Meet r s) = Some (machine.Meet r s)
machine_pick (Case g k) = None
machine_pick (CaseMeet g k s) = None

-- each number of the machine's pick has 32 bits
abbrev pub IsSmallPick : Pick → Type 0
IsSmallPick (machine.One g) = IsSmallNumber g
IsSmallPick (machine.Meet r s) = IsSmallNumber r × IsSmallNumber s

-- the pick in a journal
abbrev pub journal_pick : Pick → TacPick
journal_pick (machine.One g) = One g
journal_pick (machine.Meet r s) = Meet r s

-- the state after a pick, if it has a step
abbrev pub taken : Tac → TacState → TacPick → Option TacState
taken code s p = option_and_then (tac_step code s) (machine_pick p)
