-- What the code's types and pieces are, as plain data.
use Rattle.std.specs.Prelude.{ℕ, List, map}
use Rattle.std.specs.declared.alloc.Global.{Global as Memory}
use Rattle.std.specs.declared.vec.Vec.{Vec}
use Rattle.rgo_typed.specs.declared.statements.Piece.{Piece}
use Rattle.rgo_code_words.specs.declared.printed.Pieces.{Pieces}
use Rattle.rgo_code_words.specs.declared.types.NamedType.{NamedType as CodeType}
use Rattle.rgo_code_words.specs.Readers.{NamedType}

abbrev pub named_type_of : CodeType → NamedType
named_type_of t = record { ty = t.ty; name = t.name.now }

abbrev pub named_types_of : Vec CodeType Memory → List NamedType
named_types_of ts = map named_type_of ts.items

abbrev pub pieces_of : Pieces → List Piece × List ℕ
pieces_of p = (p.pieces.items, p.from.items)
