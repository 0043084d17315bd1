-- How many fields the struct has of which an instruction loads or stores one: it decides whether the field is in the page of its object.
use Rattle.std.specs.Prelude.{◌≡◌, ℕ, length}
use Rattle.rgo_core.specs.Core.{Setup}
use Rattle.rgo_core.specs.Next.{IsAtOp}
use Rattle.rgo_core.specs.Records.{Record}
use Rattle.rgo_core_facts.specs.MemoryWords.{PointerHasField}
use Rattle.rgo_sound.specs.Code.Code.{CodeOp}
use Rattle.rgo_body.specs.Bodies.{frames_of_body}
use Rattle.rgo_body.specs.Nexts.{IsNextOf}
use Rattle.rgo_body.specs.Programs.{CompactProgram}
use Rattle.rgo_body.specs.Shows.{BodyShows}
use Rattle.rgo_body.specs.declared.bodies.Body.{Body}
use Rattle.rgo_body.specs.declared.nexts.Next.{Next}

-- Whichever goroutine has this instruction next: if it loads or stores a field of the struct to which this variable points, that struct
-- has n fields.
abbrev pub PointsToFields : CompactProgram → Next → (variable n : ℕ) → Type 0
PointsToFields p next variable n = (T : Setup) (b : Body) (c : Record) (op : CodeOp) (a : IsAtOp T.code c op) (k : ℕ)
    (f : PointerHasField T c a variable k) → BodyShows T p b c → IsNextOf p.code (frames_of_body b) next → n ≡ length f.struct.fields
