-- The view of what encloses a statement.
use Rattle.rgo_typing_rules.specs.Views.{optional_kind_of}
use Rattle.rgo_typing_statements.specs.Statements.{Enclosing}
use Rattle.rgo_typing_statements.specs.declared.statements.Enclosing.{Enclosing as CodeEnclosing}

abbrev pub enclosing_of : CodeEnclosing → Enclosing
enclosing_of f = record { result_type = optional_kind_of f.result_type; in_loop = f.in_loop }
