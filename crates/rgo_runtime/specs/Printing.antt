-- Prints that wait for their turn, and those that have gone out in the order of their tickets. A ticket is drawn at the table at the moment
-- of the print, so that the order of tickets is that of the prints in the run.
use Rattle.std.specs.Prelude.{◌≡◌, ◌+◌, ℕ, List, [], ◌∷◌, ◌++◌, All, Contains, IsPermutation, Option, Some, length, take, ⊤}
use Rattle.std.specs.Io.KnownBytes.{Appends}
use Rattle.rgo_outside.specs.Pieces.{IsEndOf}
use Rattle.rgo_table_runs.specs.Goroutine.Acts.declared.prints.Print.{Print}

-- A queue of prints: those that wait, and the first ticket whose print has not gone out. The order of those that wait is not fixed: a flush
-- sorts them.
pub record WaitingPrints : Type 0 where
  pub waiting : List Print
  pub next : ℕ

abbrev pub ticket_of : Print → ℕ
ticket_of print = print.ticket

-- the tickets of these prints are this one and those that follow it, in order
abbrev pub AreFrom : ℕ → List Print → Type 0
AreFrom ticket [] = ⊤
AreFrom ticket (print ∷ prints) = (print.ticket ≡ ticket) × AreFrom (ticket + 1) prints

-- their bytes, one print after the other
abbrev pub bytes_of_prints : List Print → List ℕ
bytes_of_prints [] = []
bytes_of_prints (print ∷ prints) = print.bytes.items ++ bytes_of_prints prints

-- The prints that waited with this ticket and the following ones have gone out in order. `none` is why a flush need not be repeated: no
-- print that still waits has the next ticket.
pub record GivesOut
    (old : List Print) (from : ℕ) (new : List Print) (next : ℕ) (before now : Option (List ℕ))
    : Type 0 where
  pub given : List Print
  pub turns : AreFrom from given
  pub all : IsPermutation old (given ++ new)
  pub many : next ≡ from + length given
  pub none : All (λ print. print.ticket ≡ next → ⊥) new
  pub out : Appends before now (bytes_of_prints given)

-- A write failed: the first bytes of such prints have gone out, some or all. More is not known, since a sink may have taken a part of what
-- was written.
pub record GivesSome (old : List Print) (from : ℕ) (before now : Option (List ℕ)) : Type 0 where
  pub given : List Print
  pub turns : AreFrom from given
  pub rest : List Print
  pub all : IsPermutation old (given ++ rest)
  pub count : ℕ
  pub out : Appends before now (take count (bytes_of_prints given))

-- The piece is an end of the bytes of one of these prints: a write that the sink took in parts is repeated with the rest.
abbrev pub IsPieceOf : List Print → List ℕ → Type 0
IsPieceOf prints piece = (print : Print) × Contains prints print × IsEndOf print.bytes.items piece

-- ---- examples: prints from ticket 7 on

pub record PrintingExamples : Type 0 where
  pub turns : (first second : Print) → first.ticket ≡ 7 → second.ticket ≡ 8 → AreFrom 7 (first ∷ second ∷ [])
  pub gap : (first second : Print) → second.ticket ≡ 9 → AreFrom 7 (first ∷ second ∷ []) → ⊥
  pub bytes : (first second : Print) → first.bytes.items ≡ 1 ∷ [] → second.bytes.items ≡ 2 ∷ 3 ∷ []
      → bytes_of_prints (first ∷ second ∷ []) ≡ 1 ∷ 2 ∷ 3 ∷ []
  pub goes : (first third : Print) → first.ticket ≡ 7 → third.ticket ≡ 9
      → GivesOut (third ∷ first ∷ []) 7 (third ∷ []) 8 (Some []) (Some (first.bytes.items ++ []))
  -- the next print does not wait
  pub stays : (first : Print) (before now : Option (List ℕ)) → first.ticket ≡ 7 → GivesOut (first ∷ []) 7 (first ∷ []) 7 before now → ⊥
  -- one that waits is not lost
  pub lost : (third : Print) (before now : Option (List ℕ)) → GivesOut (third ∷ []) 7 [] 7 before now → ⊥
  -- no byte of a print goes out before its turn
  pub early : (third : Print) → third.ticket ≡ 9 → GivesSome (third ∷ []) 7 (Some []) (Some (1 ∷ [])) → ⊥
  pub piece : (print : Print) → print.bytes.items ≡ 1 ∷ 2 ∷ [] → IsPieceOf (print ∷ []) (2 ∷ [])
  pub other : IsPieceOf [] (2 ∷ []) → ⊥
