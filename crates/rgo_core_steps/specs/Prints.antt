-- Prints, by the record of a goroutine.
use Rattle.std.specs.Prelude.{◌≡◌, ◌<◌, ℕ, List, length}
use Rattle.rgo_sound.specs.Code.Code.{Print}
use Rattle.rgo_core.specs.Channels.Records.{at_rest}
use Rattle.rgo_sound.specs.Typed.declared.statements.Piece.{Piece}
use Rattle.rgo_core.specs.Core.{Setup}
use Rattle.rgo_core.specs.Next.{IsAtOp}
use Rattle.rgo_core.specs.Records.{Record}

-- The next instruction is a print, nothing is pending at a channel, and fewer than 2^43 tickets were drawn by this goroutine. With at most
-- 1,000,000 goroutines the clock then stays below 2^63.
pub record IsAtPrint (T : Setup) (c : Record) : Type 0 where
  -- the bytes follow from these and the operands, before the ticket is drawn
  pub pieces : List Piece
  pub from : List ℕ
  pub removes : List ℕ
  pub here : IsAtOp T.code c (Print pieces from removes)
  pub rests : c.side ≡ at_rest
  pub few : length c.clock.prints < 8796093022208
