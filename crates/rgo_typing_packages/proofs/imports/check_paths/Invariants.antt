use Rattle.std.proofs.Common.{drop}
use Rattle.rgo_typing_packages.specs.Imports.{path_sites, imports_fmt}
use Rattle.rgo_typing_packages.proofs.Turns.{Loop}
use Rattle.rgo_typing_packages.proofs.imports.check_paths.Given as goal

abbrev pub invariant-loop-import : goal.invariant-loop-import
invariant-loop-import l =
    Loop path_sites imports_fmt l.before l.paths l.imported (drop l.import-index l.paths)
