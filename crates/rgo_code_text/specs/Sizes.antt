-- Which texts are too long, and what of the others has numbers of 32 bits.
use Rattle.std.specs.Prelude.{ℕ, ◌+◌, ◌<◌, ◌≤◌, ◌^◌, List, length}
use Rattle.rgo_code_printing.specs.Text.{Names}
use Rattle.rgo_code_text.specs.Building.{names_in}
use Rattle.rgo_code_text.specs.Items.{Item}

-- Each line, each variable, each instruction and each name takes a byte of the text at least. So all of them have numbers
-- of 32 bits if the bytes have, with two to spare.
abbrev pub IsTooLongText : List ℕ → Type 0
IsTooLongText text = 2 ^ 32 ≤ length text + 2

-- each name has a number, and so has what is not among the names, whose number is how many there are
pub record HaveNumbers (n : Names) : Type 0 where
  pub structs : length n.structs < 2 ^ 32
  pub variables : length n.variables < 2 ^ 32
  pub functions : length n.functions < 2 ^ 32

-- the lines and the names in them
pub record AreFew (items : List Item) : Type 0 where
  pub lines : length items + 2 < 2 ^ 32
  pub names : HaveNumbers (names_in items)
