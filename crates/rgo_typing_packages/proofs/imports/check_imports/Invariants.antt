use Rattle.std.proofs.Common.{false, map, drop}
use Rattle.rgo_ast.specs.Views.{import_of}
use Rattle.rgo_typing_packages.specs.Imports.{import_sites, all_import_fmt}
use Rattle.rgo_typing_packages.proofs.Turns.{Loop}
use Rattle.rgo_typing_packages.proofs.imports.check_imports.Given as goal

abbrev pub invariant-loop-import : goal.invariant-loop-import
invariant-loop-import l =
    Loop import_sites all_import_fmt false (map import_of l.imports) l.imported (map import_of (drop l.import-index l.imports))
